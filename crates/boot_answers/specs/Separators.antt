-- Events that may be separators.
--
-- What is in a register after a separator may be root's. A separator is known by its digest, since root can show other data for it. Other
-- data has this digest too: a BootOrder of 0001 and 0000, or of 0000 twice, whose value alone was hashed, has the bytes of a separator.
-- So what comes after such an event is unknown.
use Rattle.std.specs.Prelude.{◌≡◌, ◌⊎◌, ℕ, Some}
use Rattle.byte_fields.specs.Spelling.{number32}
use Rattle.pcr_banks.specs.declared.alg.Alg.{Alg}
use Rattle.pcr_banks.specs.Names.{digest_in, hash_of}
use Rattle.boot_log.specs.Names.{LogEvent}

-- The digest is that of this separator.
abbrev pub HasDigestOf : Alg → LogEvent → ℕ → Type 0
HasDigestOf alg event value = digest_in event.digests alg ≡ Some (hash_of alg (number32 value))

-- The event has the digest of a separator: of 0, of 0xffffffff, or of 1 after an error (PC Client Platform Firmware Profile, EV_SEPARATOR).
abbrev pub MayBeSeparator : Alg → LogEvent → Type 0
MayBeSeparator alg event = HasDigestOf alg event 0 ⊎ (HasDigestOf alg event 0xffffffff ⊎ HasDigestOf alg event 1)
