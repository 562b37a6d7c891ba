-- The images that the firmware started (PC Client Platform Firmware Profile, PCR 4, EV_EFI_BOOT_SERVICES_APPLICATION and its kind).
--
-- The digests that extend register 4 are true where it matches, and in their order; a bank that the firmware does not extend is root's. By
-- the profile that of an image is its Authenticode hash, and that of an action or a separator the hash of its data. Root can show an
-- image's own bytes as its data, and so have it measured whole: hence such an event is left out only if its data is a separator or a text, which no image is (a PE file has `PE` and two
-- NULs). So each image is among those that are told. Root can pass an action off as an image, by other data, and can append digests:
-- hence an image more may be told. The path and all else that the data says is claimed.
use Rattle.std.specs.Prelude.{◌≡◌, ◌⊎◌, ℕ, List, true}
use Rattle.pcr_banks.specs.declared.alg.Alg.{Alg}
use Rattle.boot_log.specs.Names.{LogEvent, is_extended_into}
use Rattle.event_data.specs.Names.{IsSeparator, IsText}
use Rattle.measured_data.specs.declared.measured.Part.TheVariants.{Whole}
use Rattle.measured_data.specs.Measuring.{IsMeasured}

-- The register of the images that the firmware starts.
abbrev pub image_register : ℕ
image_register = 4

-- The event's data is measured whole, and is a separator or a text.
pub record IsNoImage (alg : Alg) (event : LogEvent) : Type 0 where
  pub measured : IsMeasured alg event Whole
  pub says : ((value : ℕ) × IsSeparator event.payload value) ⊎ ((text : List ℕ) × IsText event.payload text)

-- The event is extended into register 4, and may be an image.
pub record MayBeImage (alg : Alg) (event : LogEvent) : Type 0 where
  pub extended : is_extended_into image_register event ≡ true
  pub other : IsNoImage alg event → ⊥
