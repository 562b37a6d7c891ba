use Rattle.std.proofs.Common.{◌∷◌, arith}
use Rattle.std.proofs.lemmas.List.{take_at}
use Rattle.pcr_banks.specs.Names.{bytes_of}
use Rattle.tpm_keys.proofs.report.name_bytes.Goals as goal

pub returns-clause-value : goal.returns-clause-value
returns-clause-value c =
    rw (c.copy_from_slice.ensures.after, c.copy_from_slice-2.ensures.after, c.bytes-bytes.ensures.value, c.to_be_bytes.ensures, c.tpm_id.ensures, c.alg.ensures)
    (take_at (_ ∷ _ ∷ bytes_of c.args.name.now) _ _ (omega arith))
