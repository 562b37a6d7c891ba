use Rattle.std.proofs.Common.{rules, ◌<◌, length}
use Rattle.std.proofs.lemmas.Option.{slice_get-get_or}
use Rattle.pcr_banks.proofs.PlaceLaws.{extends_one}
use Rattle.pcr_banks.proofs.banks.extend_registers.Goals as goal

pub returns : goal.returns
returns g c =
    let lt : c.args.index < length c.args.registers.now = search rules in
    extends_one c.args.alg c.args.registers.now c.args.index _ _ c.args.digest.now lt (slice_get-get_or _ _ _ lt)
    c.extend_register.ensures
