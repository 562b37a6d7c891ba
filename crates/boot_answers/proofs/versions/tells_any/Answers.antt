use Rattle.std.proofs.Common.{refl}
use Rattle.event_data.specs.Names.{content_of}
use Rattle.boot_answers.proofs.VersionLaws.{any_told}
use Rattle.boot_answers.proofs.versions.tells_any.Goals as goal

pub returns-in-Some : goal.returns-in-Some
returns-in-Some c table events is = (
  λ yes. any_told c.args.alg events (content_of c.in-Some.field-0) (rw c.in-Some.is at c.version_in.ensures table events is),
  λ any. refl,
)

pub returns-in-None : goal.returns-in-None
returns-in-None c table events is = (
  λ yes. absurd cc,
  λ any. absurd ((rw c.in-None.is at c.version_in.ensures table events is) any.0 any.1),
)
