use Rattle.std.proofs.Common.{sym}
use Rattle.std.proofs.lemmas.Result.{err_from_is_err_and}
use Rattle.tpm_keys.specs.Spelling.{area_of}
use Rattle.tpm_keys.proofs.AreaLaws.{area_fault_first, lack_is_fault}
use Rattle.tpm_keys.proofs.lacks.read_key.Goals as goal

pub returns-in_err-area-clause-fault : goal.returns-in_err-area-clause-fault
returns-in_err-area-clause-fault c =
    let p = err_from_is_err_and c.from_residual.result c.from_residual.ensures.1 in
    rw (p.1, p.2) (area_fault_first c.args.purpose c.args.bytes.now c.in_err-area.field-0.0 c.in_err-area.ensures.fault)

pub returns-in-Some-clause-fault : goal.returns-in-Some-clause-fault
returns-in-Some-clause-fault c =
    lack_is_fault c.args.purpose c.args.bytes.now (area_of c.in_ok-area.area) c.in-Some.fault c.in_ok-area.ensures.found (sym c.in-Some.ensures)
