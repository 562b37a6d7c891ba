use Rattle.std.proofs.Common.{rules, sym}
use Rattle.event_data.proofs.TextLaws.{wide_text_finds}
use Rattle.event_data.proofs.text.read_wide_text.Goals as goal

pub returns-in-Some-clause-value : goal.returns-in-Some-clause-value
returns-in-Some-clause-value c = search rules

pub returns-in-Some-clause-found : goal.returns-in-Some-clause-found
returns-in-Some-clause-found c = (wide_text_finds c.args.bytes.now).is c.in-Some.text.now (sym (returns-in-Some-clause-value c))
