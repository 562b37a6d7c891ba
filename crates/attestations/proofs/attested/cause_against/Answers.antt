use Rattle.std.proofs.Common.{Option, sym, ap, ◌∙◌}
use Rattle.std.specs.Option.{option_or}
use Rattle.boot_log.specs.Names.{algs_in}
use Rattle.tpm_quotes.specs.Spelling.{quote_of}
use Rattle.attestations.specs.declared.attested.Cause.{Cause}
use Rattle.attestations.specs.Judging.{cause_in_registers}
use Rattle.attestations.proofs.attested.cause_against.Goals as goal

pub returns-in-Some : goal.returns-in-Some
returns-in-Some c =
    λ list table events log firmware same is.
    ap (λ (o : Option Cause). option_or o (cause_in_registers c.args.rule (algs_in table) events is.entries (quote_of c.args.quote.now)))
    (sym c.in-Some.is ∙ c.cause_in_extends.ensures list table events log is)

pub returns : goal.returns
returns c =
    λ list table events log firmware same is.
    c.cause_in_registers.ensures list table events firmware same is
    ∙ ap (λ (o : Option Cause). option_or o (cause_in_registers c.args.rule (algs_in table) events is.entries (quote_of c.args.quote.now)))
    (sym c.in_default.is ∙ c.cause_in_extends.ensures list table events log is)
