-- Which part of an event's data was measured: the part whose hash the event's digest is. The type is left out of account, since no
-- register covers it; the register is not.
use Rattle.std.specs.Prelude.{◌≡◌, ℕ, ◌<◌, ◌&&◌, ◌==◌, Bool, false, if◌then◌else◌, List, [], ◌∷◌, find, Option, Some, None, option_map}
use Rattle.std.specs.Str.{bytes_eq}
use Rattle.std.specs.Option.{option_map_or}
use Rattle.pcr_banks.specs.declared.alg.Alg.{Alg}
use Rattle.pcr_banks.specs.Names.{digest_in, hash_of}
use Rattle.boot_log.specs.Names.{LogEvent, is_extended, no_action}
use Rattle.event_data.specs.Names.{CommandData, IsCommand, IsVariable, VariableData, command_in, hashed_text, variable_in}
use Rattle.measured_data.specs.declared.measured.Part.{Part}
use Rattle.measured_data.specs.declared.measured.Part.TheVariants.{Whole, Value, Command}

-- ---- parts

-- The register into which the firmware extends the values of variables without their names (PC Client Platform Firmware Profile,
-- EV_EFI_VARIABLE_BOOT). Elsewhere a value is no part that counts: what was measured as a whole could be shown as the value of any variable.
abbrev pub settings_register : ℕ
settings_register = 1

-- The register into which GRUB extends its commands.
abbrev pub grub_register : ℕ
grub_register = 8

-- The bytes are this part of the event's data: all of it; or, in register 1, where it is a variable, the variable's value; or, in register
-- 8, where it is a command of GRUB, what GRUB hashes of it: the command's text, in RHEL 8's GRUB mostly with its NUL. Bytes behind a form
-- belong to all of the data alone.
abbrev pub IsPart : Part → LogEvent → List ℕ → Type 0
IsPart Whole event bytes = bytes ≡ event.payload
IsPart Value event bytes =
    (event.register ≡ settings_register) × (variable : VariableData) × IsVariable event.payload variable × (bytes ≡ variable.value)
IsPart Command event bytes =
    (event.register ≡ grub_register) × (command : CommandData) × IsCommand event.payload command × (bytes ≡ hashed_text command)

-- The event is extended, and the algorithm's digest of it is the hash of this part of its data.
pub record IsMeasured (alg : Alg) (event : LogEvent) (part : Part) : Type 0 where
  pub extended : event.kind ≡ no_action → ⊥
  pub bytes : List ℕ
  pub are : IsPart part event bytes
  pub digest : digest_in event.digests alg ≡ Some (hash_of alg bytes)

-- ---- the first part of some

-- The place of a part in the order in which parts are tried: what tells more comes first.
abbrev pub order_of : Part → ℕ
order_of Whole = 0
order_of Value = 1
order_of Command = 2

-- The first of the parts for which this holds, or none where it holds for none.
abbrev pub IsFirstPart : (Part → Type 0) → Option Part → Type 0
IsFirstPart holds None = (part : Part) → holds part → ⊥
IsFirstPart holds (Some found) = holds found × ((part : Part) → order_of part < order_of found → holds part → ⊥)

-- ---- as functions

-- All parts, in this order.
abbrev pub all_parts : List Part
all_parts = Whole ∷ Value ∷ Command ∷ []

-- This part of the event's data, where the event has it.
abbrev pub part_in : Part → LogEvent → Option (List ℕ)
part_in Whole event = Some event.payload
part_in Value event =
    if event.register == settings_register then option_map (λ variable. variable.value) (variable_in event.payload) else None
part_in Command event =
    if event.register == grub_register then option_map hashed_text (command_in event.payload) else None

-- Whether the event is extended, and the algorithm's digest of it is the hash of these bytes.
abbrev pub has_digest_of : Alg → LogEvent → List ℕ → Bool
has_digest_of alg event bytes =
    is_extended event
    && option_map_or (λ digest. bytes_eq digest (hash_of alg bytes)) (digest_in event.digests alg) false

-- Whether the event is extended, and the algorithm's digest of it is the hash of this part of its data.
abbrev pub is_measured : Alg → LogEvent → Part → Bool
is_measured alg event part = option_map_or (has_digest_of alg event) (part_in part event) false

-- The first part of the event's data that is measured in the algorithm's bank.
abbrev pub measured_part : Alg → LogEvent → Option Part
measured_part alg event = find (is_measured alg event) all_parts
