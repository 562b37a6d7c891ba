use Rattle.boot_answers.proofs.VersionLaws.{separator_of}
use Rattle.boot_answers.proofs.versions.is_separator_data.Goals as goal

pub returns-in-Some : goal.returns-in-Some
returns-in-Some c = (
  λ yes. (c.in-Some.value, c.in-Some.ensures.found, c.is_separator_value.ensures.0 yes),
  λ is. c.is_separator_value.ensures.1 (separator_of c.in-Some.value is.0 (c.in-Some.ensures.only is.0 is.1) is.2),
)
