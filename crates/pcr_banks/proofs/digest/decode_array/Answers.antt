use Rattle.std.proofs.Common.{sym, ◌∙◌}
use Rattle.hex.proofs.HexLemmas.{IsOk-decode_sized}
use Rattle.pcr_banks.proofs.digest.decode_array.Goals as goal

pub returns-clause-found : goal.returns-clause-found
returns-clause-found g c =
    let digits = IsOk-decode_sized c.args.text.now g.row.N in
    let sized = c.from_hex.ensures in (
      λ h. digits.0 (rw sized at (sym c.ok.ensures.variant ∙ h)),
      λ h. c.ok.ensures.variant ∙ rw sized (digits.1 h),
    )
