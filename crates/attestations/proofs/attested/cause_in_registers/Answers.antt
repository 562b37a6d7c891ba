use Rattle.std.proofs.Common.{sym, ap, ◌∙◌, refl}
use Rattle.boot_log.specs.Names.{algs_in}
use Rattle.boot_verdict.specs.Names.{aggregate_with, is_good}
use Rattle.tpm_quotes.specs.Spelling.{quote_of}
use Rattle.attestations.proofs.JudgeLaws.{values_same}
use Rattle.attestations.proofs.attested.cause_in_registers.Goals as goal

pub returns-then-not-is_good : goal.returns-then-not-is_good
returns-then-not-is_good c =
    λ list table events firmware same is.
    let aggregate = c.aggregate_with.ensures (algs_in table) events firmware
    ∙ (λ i. aggregate_with c.args.rule (algs_in table) events (is.recorded i) (is.told i)) in
    rw (sym (c.is_good.ensures ∙ ap is_good aggregate) ∙ c.if-not-is_good.true) refl

pub returns-then-not-is_of : goal.returns-then-not-is_of
returns-then-not-is_of c =
    λ list table events firmware same is.
    let aggregate = c.aggregate_with.ensures (algs_in table) events firmware
    ∙ (λ i. aggregate_with c.args.rule (algs_in table) events (is.recorded i) (is.told i)) in
    rw (
      sym (c.is_good.ensures ∙ ap is_good aggregate) ∙ c.if-not-is_good.false,
      sym (c.is_of.ensures ∙ values_same (algs_in table) events is.entries c.args.start.now c.args.known.now.before c.args.known.now.after
          (quote_of c.args.quote.now) firmware same is.replayed) ∙ c.if-not-is_of.true,
    ) refl

pub returns : goal.returns
returns c =
    λ list table events firmware same is.
    let aggregate = c.aggregate_with.ensures (algs_in table) events firmware
    ∙ (λ i. aggregate_with c.args.rule (algs_in table) events (is.recorded i) (is.told i)) in
    rw (
      sym (c.is_good.ensures ∙ ap is_good aggregate) ∙ c.if-not-is_good.false,
      sym (c.is_of.ensures ∙ values_same (algs_in table) events is.entries c.args.start.now c.args.known.now.before c.args.known.now.after
          (quote_of c.args.quote.now) firmware same is.replayed) ∙ c.if-not-is_of.false,
    ) refl
