-- There is one answer.
use Rattle.std.proofs.Common.{◌≡◌, List, Option, Some, None, refl, ap, arith}
use Rattle.boot_log.specs.Names.{LogEvent}
use Rattle.event_data.specs.Names.{Content}
use Rattle.measured_data.specs.declared.confirmed.Pcr.{Pcr}
use Rattle.boot_answers.specs.declared.secure_boot_state.SecureBoot.{SecureBoot}
use Rattle.boot_answers.specs.declared.secure_boot_state.SecureBoot.TheVariants.{On, Off, Unknown}
use Rattle.boot_answers.specs.FirmwareVersion.{IsFirmwareVersion, IsOfVersion}
use Rattle.boot_answers.specs.SecureBoot.{IsSecureBoot, IsTold}
use Rattle.boot_answers.proofs.SecureBootLaws.{one_told}
use Rattle.boot_answers.proofs.VersionLaws.{one_content}

not_both : (matched : List Pcr) (events : List LogEvent) → IsTold matched events 1 → IsTold matched events 0 → ⊥
not_both matched events on off =
    absurd (omega (arith, one_told on.alg off.alg events 1 0 (on.tells on.alg on.answering) (off.tells off.alg off.answering)))

pub one_answer : (matched : List Pcr) (events : List LogEvent) (answer other : SecureBoot) → IsSecureBoot matched events answer
    → IsSecureBoot matched events other → answer ≡ other
one_answer matched events On On is is_too = refl
one_answer matched events On Off is is_too = absurd (not_both matched events is is_too)
one_answer matched events On Unknown is is_too = absurd (is_too.0 is)
one_answer matched events Off On is is_too = absurd (not_both matched events is_too is)
one_answer matched events Off Off is is_too = refl
one_answer matched events Off Unknown is is_too = absurd (is_too.1 is)
one_answer matched events Unknown On is is_too = absurd (is.0 is_too)
one_answer matched events Unknown Off is is_too = absurd (is.1 is_too)
one_answer matched events Unknown Unknown is is_too = refl

one_both : (matched : List Pcr) (events : List LogEvent) (content other : Content) → IsFirmwareVersion matched events content
    → IsFirmwareVersion matched events other → content ≡ other
one_both matched events content other is is_too =
    one_content is.alg is_too.alg events content other (is.tells is.alg is.answering) (is_too.tells is_too.alg is_too.answering)

pub one_version : (matched : List Pcr) (events : List LogEvent) (answer other : Option Content)
    → IsOfVersion (IsFirmwareVersion matched events) answer → IsOfVersion (IsFirmwareVersion matched events) other → answer ≡ other
one_version matched events None None is is_too = refl
one_version matched events None (Some other) is is_too = absurd (is other is_too)
one_version matched events (Some content) None is is_too = absurd (is_too content is)
one_version matched events (Some content) (Some other) is is_too = ap Some (one_both matched events content other is is_too)
