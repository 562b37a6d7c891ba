use Rattle.std.proofs.Common.{rules, ◌≡◌, ◌∙◌, sym, true}
use Rattle.event_data.specs.Names.{has_no_nul}
use Rattle.event_data.proofs.TextLaws.{text_finds, read_ok, read_err}
use Rattle.event_data.proofs.text.read_text.Goals as goal

pub returns-then-not-has_no_nul-clause-value : goal.returns-then-not-has_no_nul-clause-value
returns-then-not-has_no_nul-clause-value c = search rules

pub returns-then-not-has_no_nul-clause-only : goal.returns-then-not-has_no_nul-clause-only
returns-then-not-has_no_nul-clause-only c value is =
    returns-then-not-has_no_nul-clause-value c ∙ (text_finds c.args.bytes.now).only value is

pub returns-in-Ok-clause-value : goal.returns-in-Ok-clause-value
returns-in-Ok-clause-value c =
    let no_nul : has_no_nul c.without_nul-text.result.now ≡ true = search rules in
    rw c.in-Ok.ensures.cases.0
    (read_ok c.args.bytes.now c.without_nul-text.result.now c.without_nul-text.ensures no_nul c.in-Ok.ensures.cases.1)

pub returns-in-Ok-clause-found : goal.returns-in-Ok-clause-found
returns-in-Ok-clause-found c = (text_finds c.args.bytes.now).is c.in-Ok.text.now (sym (returns-in-Ok-clause-value c))

pub returns-in-Ok-clause-only : goal.returns-in-Ok-clause-only
returns-in-Ok-clause-only c value is = returns-in-Ok-clause-value c ∙ (text_finds c.args.bytes.now).only value is

pub returns-in-Err-clause-value : goal.returns-in-Err-clause-value
returns-in-Err-clause-value c =
    read_err c.args.bytes.now c.without_nul-text.result.now c.without_nul-text.ensures c.in-Err.ensures.cases.0

pub returns-in-Err-clause-only : goal.returns-in-Err-clause-only
returns-in-Err-clause-only c value is = returns-in-Err-clause-value c ∙ (text_finds c.args.bytes.now).only value is
