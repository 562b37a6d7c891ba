-- Whether the file that an entry is of is known.
use Rattle.std.specs.Prelude.{◌≡◌, ℕ, ◌&&◌, ◌==◌, Bool, false, not, List, bytes_eq, Option, Some, None}
use Rattle.ima_list.specs.Names.{ListEntry, boot_aggregate_path, is_violation}
use Rattle.boot_verdict.specs.Names.{list_register}
use Rattle.known_files.specs.Listing.{IsListed, is_listed}
pub use Rattle.ima_list.specs.Names.{FileTold, file_of, told_of}

-- ---- known entries

-- The entry is known: it is of a file whose digest one of the texts lists, and it is no violation, of the list's register, and not of the
-- boot aggregate's path, since a kernel makes one entry of that, its first. That the entry is genuine is not said.
pub record IsKnown (texts : List (List ℕ)) (entry : ListEntry) : Type 0 where
  pub file : FileTold
  pub told : file_of entry ≡ Some file
  pub listed : IsListed texts file.digest
  pub no_violation : is_violation entry ≡ false
  pub register_is : entry.register ≡ list_register
  pub no_aggregate : file.path ≡ boot_aggregate_path → ⊥

-- ---- the same as a test; that both agree is a clause of `KnownFiles::is_known`

abbrev pub is_known_file : List (List ℕ) → Option FileTold → Bool
is_known_file texts None = false
is_known_file texts (Some file) = not (bytes_eq file.path boot_aggregate_path) && is_listed texts file.digest

abbrev pub is_known : List (List ℕ) → ListEntry → Bool
is_known texts entry = not (is_violation entry) && ((entry.register == list_register) && is_known_file texts (file_of entry))

-- ---- the boot aggregate

-- Whether this is the boot aggregate's path.
abbrev pub has_aggregate_path : Option FileTold → Bool
has_aggregate_path None = false
has_aggregate_path (Some file) = bytes_eq file.path boot_aggregate_path

-- Whether the entry is one of the boot aggregate: no file has its digest, which a verdict with a log compares.
abbrev pub is_aggregate : ListEntry → Bool
is_aggregate entry = not (is_violation entry) && has_aggregate_path (file_of entry)
