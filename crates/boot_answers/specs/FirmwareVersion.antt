-- The firmware's version (PC Client Platform Firmware Profile, EV_S_CRTM_VERSION).
--
-- The firmware extends register 0 by its version first. Root can append what it likes to the register, and can pass any data that was
-- measured off as a version, since no type is measured: hence the first event alone counts. Where the firmware extends something else
-- first, this is told where it is a text or a GUID: a firmware that does not follow the profile. A separator is no version, though its bytes
-- may be taken for a text.
use Rattle.std.specs.Prelude.{◌≡◌, ◌⊎◌, ℕ, List, ◌∷◌, Option, Some, None}
use Rattle.pcr_banks.specs.declared.alg.Alg.{Alg}
use Rattle.boot_log.specs.Names.{LogEvent}
use Rattle.event_data.specs.EventForms.{unknown}
use Rattle.event_data.specs.Names.{Content, IsSeparator, Says}
use Rattle.measured_data.specs.declared.measured.Part.TheVariants.{Whole}
use Rattle.measured_data.specs.declared.confirmed.Pcr.{Pcr}
use Rattle.measured_data.specs.Measuring.{IsMeasured}
use Rattle.measured_data.specs.Confirming.{IsAnswering}
use Rattle.boot_answers.specs.Extending.{extended_events}

-- The register of the firmware's code.
abbrev pub firmware_register : ℕ
firmware_register = 0

-- EV_S_CRTM_VERSION.
abbrev pub version_type : ℕ
version_type = 0x00000008

-- The bytes are a separator's: 0 or 0xffffffff, or 1 after an error (EV_SEPARATOR).
abbrev pub IsSeparatorData : List ℕ → Type 0
IsSeparatorData bytes = (value : ℕ) × IsSeparator bytes value × ((value ≡ 0) ⊎ ((value ≡ 1) ⊎ (value ≡ 0xffffffff)))

-- The event's data is measured whole, is no separator, and says this in the form of a version: a text or a GUID.
pub record IsVersion (alg : Alg) (event : LogEvent) (content : Content) : Type 0 where
  pub measured : IsMeasured alg event Whole
  pub no_separator : IsSeparatorData event.payload → ⊥
  pub says : Says version_type event.payload content
  pub known : (bytes : List ℕ) → content ≡ unknown bytes → ⊥

-- The first event that is extended into register 0 says this.
pub record TellsVersion (alg : Alg) (events : List LogEvent) (content : Content) : Type 0 where
  pub event : LogEvent
  pub after : List LogEvent
  pub parts : extended_events firmware_register events ≡ event ∷ after
  pub version : IsVersion alg event content

-- A bank answers for register 0, and it says so in each bank that answers: a bank that the firmware did not extend is root's.
pub record IsFirmwareVersion (matched : List Pcr) (events : List LogEvent) (content : Content) : Type 0 where
  pub alg : Alg
  pub answering : IsAnswering matched alg firmware_register
  pub tells : (bank : Alg) → IsAnswering matched bank firmware_register → TellsVersion bank events content

-- The answer is what is told, or none where nothing is.
abbrev pub IsOfVersion : (Content → Type 0) → Option Content → Type 0
IsOfVersion tells None = (content : Content) → tells content → ⊥
IsOfVersion tells (Some content) = tells content
