use Rattle.std.proofs.Common.{ℕ, List, Option, option_map, ap, ◌∙◌}
use Rattle.pcr_banks.specs.declared.alg.Alg.{Alg}
use Rattle.pcr_banks.specs.declared.digest.Digest.{Digest}
use Rattle.pcr_banks.specs.Names.{alg_of, bytes_of}
use Rattle.boot_verdict.specs.Names.{aggregate_of, is_old, or_old}
use Rattle.boot_verdict.proofs.VerdictLaws.{taken_same, values_after_log}
use Rattle.boot_verdict.proofs.aggregate_rule.aggregate_with.Goals as goal

abbrev digest_parts : Digest → Alg × List ℕ
digest_parts digest = (alg_of digest, bytes_of digest)

pub returns : goal.returns
returns c =
    λ algs events firmware.
    let taken = ap (option_map digest_parts) c.take-taken.ensures ∙ taken_same digest_parts c.args.rule c.args.recorded c.args.told in
    let state = c.aggregate_of-state.ensures algs events firmware ∙ ap (aggregate_of algs events) taken in
    let values = values_after_log algs events c.args.start.now firmware in
    let old = c.is_of_old_kernel-is_old.ensures ∙ (λ i. is_old (values i) (taken i)) in
    c.or_old.ensures ∙ (λ i. or_old c.args.rule.old_kernel (old i) (state i))
