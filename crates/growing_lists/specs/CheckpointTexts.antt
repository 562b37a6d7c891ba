-- A checkpoint, with the boot that a quote told of it, as text.
use Rattle.std.specs.Prelude.{◌≡◌, ℕ, List, [], ◌++◌, codes, decimal, flat_map, if◌then◌else◌, Option, Some, None, is_some}
use Rattle.hex.specs.Hex.{encode_lower}
use Rattle.pcr_banks.specs.declared.alg.Alg.{Alg}
use Rattle.pcr_banks.specs.declared.alg.Alg.TheVariants.{Sha256}
use Rattle.pcr_banks.specs.declared.banks.Banks.{Banks}
use Rattle.pcr_banks.specs.declared.digest.Digest.{Digest}
use Rattle.pcr_banks.specs.Names.{alg_of, all_algs, bytes_of, hash_of, name_of, value_at}
use Rattle.pcr_values.specs.Names.{all_registers, change_line}
use Rattle.boot_verdict.specs.declared.checkpoint.Checkpoint.{Checkpoint}
use Rattle.boot_verdict.specs.declared.isolation.Stray.{Stray}
use Rattle.boot_verdict.specs.Names.{list_register}
use Rattle.growing_lists.specs.declared.saved_state.Boot.{Boot}
use Rattle.growing_lists.specs.declared.saved_state.SavedState.{SavedState}

-- A line of a word and a number in decimal.
abbrev pub number_line : List ℕ → ℕ → List ℕ
number_line word number = word ++ (decimal number ++ codes "\n")

-- The boot aggregate: its algorithm and its digits, or that there is none.
abbrev pub recorded_words : Option Digest → List ℕ
recorded_words None = codes "none"
recorded_words (Some digest) = name_of (alg_of digest) ++ (codes ":" ++ encode_lower (bytes_of digest))

abbrev pub recorded_line : Option Digest → List ℕ
recorded_line recorded = codes "boot_aggregate " ++ (recorded_words recorded ++ codes "\n")

-- The boot aggregate that the first entry records by another of the kernel's templates; without one there is no line.
abbrev pub told_line : Option Digest → List ℕ
told_line None = []
told_line (Some digest) = codes "boot_aggregate_told " ++ (recorded_words (Some digest) ++ codes "\n")

-- The first entry that extends another register than that of the list: the register and the entry's number; without one, the register of
-- the list and 0.
abbrev pub stray_register : Option Stray → ℕ
stray_register None = list_register
stray_register (Some stray) = stray.register

abbrev pub stray_entry : Option Stray → ℕ
stray_entry None = 0
stray_entry (Some stray) = stray.entry

abbrev pub stray_lines : Option Stray → List ℕ
stray_lines stray = number_line (codes "register ") (stray_register stray) ++ number_line (codes "entry ") (stray_entry stray)

-- The line of a register, where it has a value.
abbrev pub value_line : Banks → Alg → ℕ → List ℕ
value_line banks alg register = change_line alg register None (value_at banks alg register)

-- The lines of a bank: one for each register, or, where the first has no value, one that says that the bank is not active.
abbrev pub bank_lines : Banks → Alg → List ℕ
bank_lines banks alg =
    if is_some (value_at banks alg 0) then flat_map (value_line banks alg) all_registers else name_of alg ++ codes " none\n"

-- The lines of all banks, in the order of algorithms.
abbrev pub banks_lines : Banks → List ℕ
banks_lines banks = flat_map (bank_lines banks) all_algs

-- The lines of the data.
abbrev pub data_lines : Checkpoint → List ℕ
data_lines checkpoint =
    number_line (codes "entries ") checkpoint.entries
    ++ (number_line (codes "bytes ") checkpoint.bytes
    ++ (recorded_line checkpoint.recorded
    ++ (told_line checkpoint.told
    ++ (codes "before\n" ++ (banks_lines checkpoint.before ++ (codes "after\n" ++ (banks_lines checkpoint.after ++ stray_lines checkpoint.stray)))))))

-- The counts of the boot, or that no quote confirmed what is known.
abbrev pub boot_lines : Option Boot → List ℕ
boot_lines None = codes "boot none\n"
boot_lines (Some boot) = number_line (codes "resets ") boot.resets ++ number_line (codes "restarts ") boot.restarts

-- The lines of a state.
abbrev pub state_lines : SavedState → List ℕ
state_lines state = data_lines state.checkpoint ++ boot_lines state.boot

-- What stands before the last line.
abbrev pub checkpoint_body : SavedState → List ℕ
checkpoint_body state = codes "ima-agent checkpoint " ++ (codes "3\n" ++ state_lines state)

-- The last line: the SHA-256 of what stands before it.
abbrev pub seal_line : List ℕ → List ℕ
seal_line body = codes "sha256 " ++ (encode_lower (hash_of Sha256 body) ++ codes "\n")

abbrev pub checkpoint_text : SavedState → List ℕ
checkpoint_text state = checkpoint_body state ++ seal_line (checkpoint_body state)

-- The text begins as that of a checkpoint of this version does.
pub record IsOfThisVersion (text : List ℕ) : Type 0 where
  pub rest : List ℕ
  pub begins : text ≡ codes "ima-agent checkpoint " ++ (codes "3\n" ++ rest)

-- The text begins as that of a checkpoint does, but then does not have this version.
pub record IsOfOtherVersion (text : List ℕ) : Type 0 where
  pub version : List ℕ
  pub begins : text ≡ codes "ima-agent checkpoint " ++ version
  pub other : (rest : List ℕ) → version ≡ codes "3\n" ++ rest → ⊥
