-- What a quote of a TPM is: a relation between bytes and what they state (TPM 2.0 Library, part 2, 'Attestation Structures',
-- TPMS_ATTEST with TPMS_QUOTE_INFO). All numbers are big endian.
use Rattle.std.specs.Prelude.{◌≡◌, ℕ, ◌^◌, ◌/◌, ◌%◌, ◌<◌, ◌≤◌, Bool, true, false, ◌&&◌, ◌==◌, if◌then◌else◌, List, [], ◌∷◌, ◌++◌, length, drop, map, flat_map, filter, slice_index, Option, Some, None, nat_eq}
use Rattle.std.specs.Int.{w16, w32, w64, bit_at, to_be_bytes}
use Rattle.std.specs.List.{list_any, list_all, range_with_len, AllByRecursion, IsDistinct}
use Rattle.pcr_banks.specs.declared.alg.Alg.{Alg}
use Rattle.pcr_banks.specs.declared.alg.Alg.TheVariants.{Sha256, Sha384, Sha512}
use Rattle.pcr_banks.specs.declared.digest.Digest.{Digest}
use Rattle.pcr_banks.specs.Names.{bytes_of, digest_of, register_count, tpm_id_of}
use Rattle.tpm_quotes.specs.declared.quote.Clock.{Clock}
use Rattle.tpm_quotes.specs.declared.quote.Quote.{Quote}
use Rattle.tpm_quotes.specs.declared.selection.QuotedSelection.{QuotedSelection}

-- Bytes that are prefixed by their number, in two bytes (part 2, the TPM2B types).
abbrev pub sized16 : List ℕ → List ℕ
sized16 bytes = to_be_bytes w16 (length bytes) ++ bytes

-- ---- which registers are selected

-- The registers that are selected of a bank: a bit for each, from the lowest bit of the first byte on.
pub record BankSelection : Type 0 where
  pub alg : Alg
  pub bits : List ℕ

-- Whether the register's bit is set.
abbrev pub is_selected : List ℕ → ℕ → Bool
is_selected bits register = bit_at (slice_index bits (register / 8)) (register % 8) == 1

-- The numbers of the registers, ascending.
unfoldable pub all_registers : List ℕ
all_registers = range_with_len 0 register_count

-- The selected registers of a bank, ascending.
abbrev pub selected_in : BankSelection → List (Alg × ℕ)
selected_in selection = filter (λ register. is_selected selection.bits register.1) (map (λ register. (selection.alg, register)) all_registers)

-- The selected registers, in the order in which the TPM hashes their values (part 1, 'Attesting with TPM2_Quote'; part 3,
-- 'TPM2_Quote'): selection by selection, and ascending within each.
abbrev pub selected : List BankSelection → List (Alg × ℕ)
selected selections = flat_map selected_in selections

-- Whether the register of the bank of this algorithm is selected.
abbrev pub selects : List BankSelection → Alg → ℕ → Bool
selects selections alg register = list_any (λ selection. (tpm_id_of selection.alg == tpm_id_of alg) && is_selected selection.bits register) selections

-- Whether the selection names none but the first 24 registers: all later bytes are zero.
abbrev pub is_low : List ℕ → Bool
is_low bits = list_all (λ byte. byte == 0) (drop 3 bits)

-- Whether any register is selected: of a bank, and of any.
abbrev pub selects_one : BankSelection → Bool
selects_one selection = list_any (is_selected selection.bits) all_registers

abbrev pub selects_some : List BankSelection → Bool
selects_some selections = list_any selects_one selections

-- The most banks that a quote may select from: one for each known algorithm.
abbrev pub most_banks : ℕ
most_banks = 4

-- A selection's spelling (part 2, TPMS_PCR_SELECTION): the bank's algorithm, the number of bytes in one byte, and the bytes.
abbrev pub selection_spelling : BankSelection → List ℕ
selection_spelling selection = to_be_bytes w16 (tpm_id_of selection.alg) ++ (length selection.bits ∷ selection.bits)

pub record IsSelection (selection : BankSelection) : Type 0 where
  pub fits : length selection.bits < 2 ^ 8
  pub low : is_low selection.bits ≡ true

-- What this project takes of selections, so that nothing is told twice, or of a register that nobody replays: known banks, none of
-- them twice, registers below 24, and at least one.
pub record AreSelections (selections : List BankSelection) : Type 0 where
  pub each : AllByRecursion IsSelection selections
  pub distinct : IsDistinct nat_eq (map (λ selection. tpm_id_of selection.alg) selections)
  pub few : length selections ≤ most_banks
  pub some : selects_some selections ≡ true

-- ---- the digest

-- The digest with these bytes. Its algorithm is not stated in a quote: it is that of the key's signature, and its size tells which of
-- those that this project takes (no SHA-1).
abbrev pub digest_with : List ℕ → Option Digest
digest_with bytes =
    if length bytes == 32 then Some (digest_of Sha256 bytes)
    else if length bytes == 48 then Some (digest_of Sha384 bytes)
    else if length bytes == 64 then Some (digest_of Sha512 bytes)
    else None

-- ---- the clock

-- A flag's spelling (part 2, TPMI_YES_NO).
abbrev pub yes_no : Bool → ℕ
yes_no true = 1
yes_no false = 0

-- The clock's spelling (part 2, TPMS_CLOCK_INFO).
abbrev pub clock_spelling : Clock → List ℕ
clock_spelling clock =
    to_be_bytes w64 clock.milliseconds
    ++ (to_be_bytes w32 clock.resets ++ (to_be_bytes w32 clock.restarts ++ (yes_no clock.is_safe ∷ [])))

-- Its numbers fit their fields.
pub record IsClock (clock : Clock) : Type 0 where
  pub milliseconds_fit : clock.milliseconds < 2 ^ 64
  pub resets_fit : clock.resets < 2 ^ 32
  pub restarts_fit : clock.restarts < 2 ^ 32

-- ---- the quote

-- What a quote states: the qualified name of the key that signs it, the verifier's nonce, the clock (with the counts of resets and
-- restarts), the version of the TPM's firmware, which registers it selects, and the digest of their values.
pub record TpmQuote : Type 0 where
  pub signer : List ℕ
  pub nonce : List ℕ
  pub clock : Clock
  pub firmware : ℕ
  pub selections : List BankSelection
  pub digest : Digest

-- What a quote begins with: TPM_GENERATED_VALUE, with which a restricted key signs only what its TPM made, and TPM_ST_ATTEST_QUOTE.
abbrev pub quote_head : List ℕ
quote_head = to_be_bytes w32 0xFF544347 ++ to_be_bytes w16 0x8018

-- How a quote is spelled.
abbrev pub quote_spelling : TpmQuote → List ℕ
quote_spelling quote =
    quote_head ++ (sized16 quote.signer ++ (sized16 quote.nonce ++ (clock_spelling quote.clock ++ (to_be_bytes w64 quote.firmware ++
    (to_be_bytes w32 (length quote.selections) ++ (flat_map selection_spelling quote.selections ++ sized16 (bytes_of quote.digest)))))))

-- The bytes are a quote that states this, and nothing else.
pub record IsQuote (bytes : List ℕ) (quote : TpmQuote) : Type 0 where
  pub signer_fits : length quote.signer < 2 ^ 16
  pub nonce_fits : length quote.nonce < 2 ^ 16
  pub clock_fits : IsClock quote.clock
  pub firmware_fits : quote.firmware < 2 ^ 64
  pub selections_are : AreSelections quote.selections
  pub digest_told : digest_with (bytes_of quote.digest) ≡ Some quote.digest
  pub spelled : bytes ≡ quote_spelling quote

-- ---- what contracts see of the code's values

abbrev pub selection_of : QuotedSelection → BankSelection
selection_of selection = record { alg = selection.alg; bits = selection.bits.now }

abbrev pub quote_of : Quote → TpmQuote
quote_of quote = record {
  signer = quote.signer.now;
  nonce = quote.nonce.now;
  clock = quote.clock;
  firmware = quote.firmware;
  selections = map selection_of quote.selections.items;
  digest = quote.digest;
}
