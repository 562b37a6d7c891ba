-- Reading a quote from left to right, up to the first fault.
use Rattle.std.specs.Prelude.{ℕ, not, Bool, true, false, if◌then◌else◌, Some, None, ◌==◌, nat_lt, List, length, Option, find, Result, ok_or, bytes_eq}
use Rattle.std.specs.Int.{w16, w32, w64}
use Rattle.std.specs.Result.{result_err}
use Rattle.std.specs.List.{list_any}
use Rattle.byte_fields.specs.Formats.{Format, big_number, part, byte, ◌followed_by◌, viewed, unless, mapped, sized_by, counted, whole}
use Rattle.pcr_banks.specs.declared.alg.Alg.{Alg}
use Rattle.pcr_banks.specs.declared.digest.Digest.{Digest}
use Rattle.pcr_banks.specs.Names.{all_algs, bytes_of, tpm_id_of}
use Rattle.tpm_quotes.specs.declared.quote.Clock.{Clock}
use Rattle.tpm_quotes.specs.declared.fault.QuoteFault.{QuoteFault}
use Rattle.tpm_quotes.specs.declared.fault.QuoteFault.TheVariants.{Truncated, NotQuote, BadClock, UnknownBank, BankTwice, ManyBanks, BadRegister, NothingSelected, DigestSize, Trailing}
use Rattle.tpm_quotes.specs.Spelling.{BankSelection, TpmQuote, digest_with, is_low, most_banks, quote_head, selects_some, yes_no}

-- Bytes that are prefixed by their number, in two bytes.
unfoldable pub sized : Format (List ℕ) QuoteFault
sized = sized_by (big_number Truncated w16) Truncated

-- ---- selections

abbrev pub alg_with : ℕ → Option Alg
alg_with id = find (λ alg. tpm_id_of alg == id) all_algs

unfoldable pub bank : Format Alg QuoteFault
bank = viewed (λ id. ok_or (alg_with id) UnknownBank) tpm_id_of (big_number Truncated w16)

-- Whether one of the selections is of this bank.
abbrev pub selects_bank : ℕ → List BankSelection → Bool
selects_bank id selections = list_any (λ selection. tpm_id_of selection.alg == id) selections

-- A selection, after those before it: of a bank that none of these is of.
unfoldable pub selection : List BankSelection → Format BankSelection QuoteFault
selection before =
    let alg = unless (λ alg. selects_bank (tpm_id_of alg) before) BankTwice bank in
    let bits = unless (λ bits. not (is_low bits)) BadRegister (sized_by (byte Truncated) Truncated) in
    mapped (λ x. record { alg = x.0; bits = x.1 }) (λ selection. (selection.alg, selection.bits)) (alg followed_by λ a. bits)

-- Their number, and the selections (part 2, TPML_PCR_SELECTION).
unfoldable pub selections : Format (List BankSelection) QuoteFault
selections =
    let count = unless (λ n. nat_lt most_banks n) ManyBanks (big_number Truncated w32) in
    unless (λ xs. not (selects_some xs)) NothingSelected
    (mapped (λ x. x.1) (λ xs. (length xs, xs)) (count followed_by λ n. counted selection n))

-- ---- the quote

-- What the quote begins with, the signer and the nonce.
unfoldable pub origin : Format (List ℕ × List ℕ) QuoteFault
origin =
    let head = unless (λ xs. not (bytes_eq xs quote_head)) NotQuote (part Truncated 6) in
    mapped (λ x. x.1) (λ x. (quote_head, x)) (head followed_by λ h. sized followed_by λ signer. sized)

-- The flag that is spelled so.
abbrev pub flag_with : ℕ → Option Bool
flag_with byte = if byte == 1 then Some true else if byte == 0 then Some false else None

unfoldable pub flag : Format Bool QuoteFault
flag = viewed (λ byte. ok_or (flag_with byte) BadClock) yes_no (byte Truncated)

unfoldable pub clock : Format Clock QuoteFault
clock =
    mapped
    (λ x. record { milliseconds = x.0; resets = x.1.0; restarts = x.1.1.0; is_safe = x.1.1.1 })
    (λ clock. (clock.milliseconds, (clock.resets, (clock.restarts, clock.is_safe))))
    (big_number Truncated w64 followed_by λ m. big_number Truncated w32 followed_by λ r. big_number Truncated w32 followed_by λ s. flag)

-- The clock and the version of the firmware.
unfoldable pub times : Format (Clock × ℕ) QuoteFault
times = clock followed_by λ c. big_number Truncated w64

unfoldable pub digest : Format Digest QuoteFault
digest = viewed (λ bytes. ok_or (digest_with bytes) DigestSize) bytes_of sized

unfoldable pub quote : Format TpmQuote QuoteFault
quote =
    mapped
    (λ x. record { signer = x.0.0; nonce = x.0.1; clock = x.1.0.0; firmware = x.1.0.1; selections = x.1.1.0; digest = x.1.1.1 })
    (λ q. ((q.signer, q.nonce), ((q.clock, q.firmware), (q.selections, q.digest))))
    (origin followed_by λ o. times followed_by λ t. selections followed_by λ s. digest)

-- What all of the bytes state, or their first fault.
unfoldable pub quote_in : List ℕ → Result TpmQuote QuoteFault
quote_in bytes = whole Trailing quote bytes

abbrev pub quote_fault : List ℕ → Option QuoteFault
quote_fault bytes = result_err (quote_in bytes)
