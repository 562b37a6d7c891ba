-- What the first event of register 0 tells of the firmware's version.
use Rattle.std.proofs.Common.{◌≡◌, ◌⊎◌, ℕ, List, [], ◌∷◌, Option, Some, None, sym, subst, ◌∙◌}
use Rattle.pcr_banks.specs.declared.alg.Alg.{Alg}
use Rattle.boot_log.specs.Names.{LogEvent}
use Rattle.event_data.specs.Names.{Content, Says}
use Rattle.event_data.proofs.ContentLaws.{says_once}
use Rattle.measured_data.specs.declared.confirmed.Pcr.{Pcr}
use Rattle.measured_data.specs.Confirming.{IsAnswering}
use Rattle.boot_answers.specs.Extending.{extended_events}
use Rattle.boot_answers.specs.FirmwareVersion.{IsFirmwareVersion, IsOfVersion, IsVersion, TellsVersion, firmware_register, version_type}
use Rattle.boot_answers.specs.parts.FirmwareVersion.{AllAgree, TellsAny}

pub of_same : (P Q : Content → Type 0) → ((x : Content) → P x → Q x) → ((x : Content) → Q x → P x) → (answer : Option Content)
    → IsOfVersion P answer → IsOfVersion Q answer
of_same P Q to from None is = λ x q. is x (from x q)
of_same P Q to from (Some x) is = to x is

pub version_at : (alg : Alg) (events later : List LogEvent) (event : LogEvent) (answer : Option Content)
    → extended_events firmware_register events ≡ event ∷ later → IsOfVersion (IsVersion alg event) answer
    → IsOfVersion (TellsVersion alg events) answer
version_at alg events later event answer parts is =
    of_same (IsVersion alg event) (TellsVersion alg events)
    (λ x version. record { event = event; after = later; parts = parts; version = version })
    (λ x tells.
    let lists : event ∷ later ≡ tells.event ∷ tells.after = sym parts ∙ tells.parts in
    let same : tells.event ≡ event = cc in
    subst (λ (e : LogEvent). IsVersion alg e x) same tells.version) answer is

pub version_nowhere : (alg : Alg) (events : List LogEvent) (content : Content) → extended_events firmware_register events ≡ []
    → TellsVersion alg events content → ⊥
version_nowhere alg events content none tells =
    let lists : [] ≡ tells.event ∷ tells.after = sym none ∙ tells.parts in
    absurd cc

-- A log tells one version, in whatever banks.
pub one_content : (alg another : Alg) (events : List LogEvent) (content other : Content) → TellsVersion alg events content
    → TellsVersion another events other → content ≡ other
one_content alg another events content other tells tells_too =
    let lists : tells.event ∷ tells.after ≡ tells_too.event ∷ tells_too.after = sym tells.parts ∙ tells_too.parts in
    let same : tells_too.event ≡ tells.event = cc in
    says_once version_type tells.event.payload content other tells.version.says
    (subst (λ (e : LogEvent). Says version_type e.payload other) same tells_too.version.says)

pub any_told : (alg : Alg) (events : List LogEvent) (content : Content) → IsOfVersion (TellsVersion alg events) (Some content)
    → TellsAny alg events
any_told alg events content is = (content, is)

pub told_by_all : (matched : List Pcr) (alg : Alg) (events : List LogEvent) (answer : Option Content)
    → IsAnswering matched alg firmware_register → AllAgree matched events → IsOfVersion (TellsVersion alg events) answer
    → IsOfVersion (IsFirmwareVersion matched events) answer
told_by_all matched alg events answer answering agree is =
    of_same (TellsVersion alg events) (IsFirmwareVersion matched events)
    (λ x tells. record {
      alg = alg;
      answering = answering;
      tells = λ bank answers.
          let told = agree bank answers in
          subst (TellsVersion bank events) (one_content bank alg events told.0 x told.1 tells) told.1;
    })
    (λ x told. told.tells alg answering) answer is

-- Where not all tell one, none is told.
pub told_by_some : (matched : List Pcr) (events : List LogEvent) → (AllAgree matched events → ⊥) → (content : Content)
    → IsFirmwareVersion matched events content → ⊥
told_by_some matched events disagree content is = disagree (λ alg answering. (content, is.tells alg answering))

pub told_by_none : (matched : List Pcr) (events : List LogEvent) → ((alg : Alg) → IsAnswering matched alg firmware_register → ⊥)
    → (content : Content) → IsFirmwareVersion matched events content → ⊥
told_by_none matched events none content is = none is.alg is.answering

-- The value of a separator is the one that was read.
pub separator_of : (value other : ℕ) → Some value ≡ Some other → (other ≡ 0) ⊎ ((other ≡ 1) ⊎ (other ≡ 0xffffffff))
    → (value ≡ 0) ⊎ ((value ≡ 1) ⊎ (value ≡ 0xffffffff))
separator_of value other e is =
    let same : other ≡ value = cc in
    subst (λ (n : ℕ). (n ≡ 0) ⊎ ((n ≡ 1) ⊎ (n ≡ 0xffffffff))) same is
