use Rattle.std.proofs.Common.{arith, ap, codes, Some, ◌++◌, ◌∙◌}
use Rattle.growing_lists.specs.declared.saved_state.Boot.{Boot}
use Rattle.growing_lists.specs.CheckpointTexts.{number_line}
use Rattle.growing_lists.proofs.CheckpointLaws.{boot_apart}
use Rattle.growing_lists.proofs.checkpoint_reader.counts_at.Goals as goal

pub returns-in_err-resets : goal.returns-in_err-resets
returns-in_err-resets c =
    λ boot rest fits is.
    absurd (c.in_err-resets.ensures boot.resets (number_line (codes "restarts ") boot.restarts ++ rest) (omega (arith, fits.resets))
    (is ∙ boot_apart boot rest))

pub returns-in_err-restarts : goal.returns-in_err-restarts
returns-in_err-restarts c =
    λ boot rest fits is.
    let first = c.in_ok-resets.ensures boot.resets (number_line (codes "restarts ") boot.restarts ++ rest) (omega (arith, fits.resets))
    (is ∙ boot_apart boot rest) in
    absurd (c.in_err-restarts.ensures boot.restarts rest (omega (arith, fits.restarts)) first.1)

pub returns-in_err-boot_with : goal.returns-in_err-boot_with
returns-in_err-boot_with c =
    λ boot rest fits is.
    let first = c.in_ok-resets.ensures boot.resets (number_line (codes "restarts ") boot.restarts ++ rest) (omega (arith, fits.resets))
    (is ∙ boot_apart boot rest) in
    let second = c.in_ok-restarts.ensures boot.restarts rest (omega (arith, fits.restarts)) first.1 in
    absurd (c.in_err-boot_with.ensures boot fits first.0 second.0)

pub returns : goal.returns
returns c =
    λ boot rest fits is.
    let first = c.in_ok-resets.ensures boot.resets (number_line (codes "restarts ") boot.restarts ++ rest) (omega (arith, fits.resets))
    (is ∙ boot_apart boot rest) in
    let second = c.in_ok-restarts.ensures boot.restarts rest (omega (arith, fits.restarts)) first.1 in
    (ap (λ (x : Boot). Some x) (c.in_ok-boot_with.ensures boot fits first.0 second.0), second.1)
