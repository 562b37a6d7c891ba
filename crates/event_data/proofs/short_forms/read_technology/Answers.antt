use Rattle.std.proofs.Common.{rules, ◌∙◌}
use Rattle.event_data.proofs.TextLaws.{technology_finds, technology_is}
use Rattle.event_data.proofs.short_forms.read_technology.Goals as goal

pub returns-in-Some-clause-value : goal.returns-in-Some-clause-value
returns-in-Some-clause-value c = search rules

pub returns-in-Some-clause-found : goal.returns-in-Some-clause-found
returns-in-Some-clause-found c = technology_is c.args.bytes.now c.before_reserved.result (returns-in-Some-clause-value c)

pub returns-in-Some-clause-only : goal.returns-in-Some-clause-only
returns-in-Some-clause-only c value is = returns-in-Some-clause-value c ∙ (technology_finds c.args.bytes.now).only value is

pub returns-in-None-clause-value : goal.returns-in-None-clause-value
returns-in-None-clause-value c = search rules

pub returns-in-None-clause-only : goal.returns-in-None-clause-only
returns-in-None-clause-only c value is = returns-in-None-clause-value c ∙ (technology_finds c.args.bytes.now).only value is
