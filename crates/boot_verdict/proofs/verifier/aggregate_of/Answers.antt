use Rattle.std.proofs.Common.{Option, option_map, sym, ap, ◌∙◌}
use Rattle.pcr_banks.specs.declared.digest.Digest.{Digest}
use Rattle.pcr_banks.specs.Names.{alg_of, bytes_of}
use Rattle.boot_verdict.specs.Names.{aggregate_of}
use Rattle.boot_verdict.proofs.VerdictLaws.{aggregate_same}
use Rattle.boot_verdict.proofs.verifier.aggregate_of.Goals as goal

pub returns-in-Some : goal.returns-in-Some
returns-in-Some c =
    λ algs events firmware.
    c.aggregate_state.ensures
    ∙ aggregate_same algs events c.args.start.now c.in-Some.recorded c.boot_aggregate.result c.alg.result firmware c.alg.ensures
    c.boot_aggregate.ensures.value
    ∙ ap (λ (recorded : Option Digest). aggregate_of algs events (option_map (λ digest. (alg_of digest, bytes_of digest)) recorded))
    (sym c.in-Some.is)
