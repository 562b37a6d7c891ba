-- What a refused input is in place of what it should be. All of it is told by the first bytes.
use Rattle.std.specs.Prelude.{ℕ, ◌&&◌, ◌||◌, not, nat_le, nat_eq, Bool, if◌then◌else◌, List, [], ◌∷◌, ◌++◌, length, codes, drop, Option, None, Some}
use Rattle.std.specs.List.{list_any, starts_with}
use Rattle.hints.specs.declared.wrong_input.Mistake.{Mistake}
use Rattle.hints.specs.declared.wrong_input.Mistake.TheVariants.{Empty, NothingPrinted, ListForLog, OldLog, LogForList, TextForList, ListForText, PrintedForExpected, ExpectedForPrinted, Capitals, PemForArea}
use Rattle.hints.specs.declared.wrong_input.ExpectedInput.{ExpectedInput}
use Rattle.hints.specs.declared.wrong_input.ExpectedInput.TheVariants as wanted

-- These bytes are at this place.
abbrev pub has_at : List ℕ → ℕ → List ℕ → Bool
has_at head at bytes = nat_le at (length head) && starts_with nat_eq (drop at head) bytes

-- The name of the first entry's template comes after 28 bytes. Each of the kernel's names begins so.
abbrev pub is_list : List ℕ → Bool
is_list head = has_at head 28 (codes "ima")

-- The signature of a log comes after 32 bytes, those of the logs of TPM 1.2 too (PC Client Platform Firmware Profile, 10.4.5.1).
abbrev pub is_log : List ℕ → Bool
is_log head = has_at head 32 (codes "Spec ID Event03" ++ 0 ∷ [])

-- An event of TPM 1.2 that is extended has small numbers: the register, a type that is neither 0 nor EV_NO_ACTION (3), and the size of its data.
abbrev pub is_old_event : List ℕ → Bool
is_old_event head =
    has_at head 1 (0 ∷ 0 ∷ 0 ∷ [])
    && (not (has_at head 4 (0 ∷ []))
    && (not (has_at head 4 (3 ∷ [])) && (has_at head 5 (0 ∷ 0 ∷ 0 ∷ []) && has_at head 30 (0 ∷ 0 ∷ []))))

abbrev pub is_old_log : List ℕ → Bool
is_old_log head =
    has_at head 32 (codes "Spec ID Event00" ++ 0 ∷ []) || (has_at head 32 (codes "Spec ID Event02" ++ 0 ∷ []) || is_old_event head)

-- The kernel's text of an entry: the register, 40 digits of SHA-1, and the template.
abbrev pub is_text_list : List ℕ → Bool
is_text_list head = has_at head 0 (codes "10 ") && has_at head 43 (codes " ima")

-- What tpm2_pcrread and tpm2_checkquote print begins so, and no line of expected registers does.
abbrev pub printed_beginnings : List (List ℕ)
printed_beginnings =
    codes "  sha" ∷ codes "  sm3" ∷ codes "pcrs:" ∷ codes "sha1:" ∷ codes "sha256:" ∷ codes "sha384:" ∷ codes "sha512:" ∷ []

abbrev pub is_printed : List ℕ → Bool
is_printed head = list_any (starts_with nat_eq head) printed_beginnings

-- A line of expected registers begins so.
abbrev pub expected_beginnings : List (List ℕ)
expected_beginnings = codes "sha1 " ∷ codes "sha256 " ∷ codes "sha384 " ∷ codes "sha512 " ∷ []

abbrev pub capital_beginnings : List (List ℕ)
capital_beginnings = codes "SHA1 " ∷ codes "SHA256 " ∷ codes "SHA384 " ∷ codes "SHA512 " ∷ []

abbrev pub is_expected : List ℕ → Bool
is_expected head = list_any (starts_with nat_eq head) expected_beginnings

-- The same with a bank in capital letters, which no such line has.
abbrev pub has_capitals : List ℕ → Bool
has_capitals head = list_any (starts_with nat_eq head) capital_beginnings

-- A PEM (RFC 7468).
abbrev pub is_pem : List ℕ → Bool
is_pem head = has_at head 0 (codes "-----BEGIN ")

abbrev pub mistake_of : ExpectedInput → List ℕ → Option Mistake
mistake_of wanted.Log head = if is_list head then Some ListForLog else if is_old_log head then Some OldLog else None
mistake_of wanted.List head = if is_log head then Some LogForList else if is_text_list head then Some TextForList else None
mistake_of wanted.Text head = if is_list head then Some ListForText else if is_log head then Some LogForList else None
mistake_of wanted.Form head = if is_list head then Some ListForLog else None
mistake_of wanted.Expected head = if is_printed head then Some PrintedForExpected else if has_capitals head then Some Capitals else None
mistake_of wanted.Printed head = if is_expected head then Some ExpectedForPrinted else None
mistake_of wanted.Area head = if is_pem head then Some PemForArea else None

abbrev pub empty_for : ExpectedInput → Option Mistake
empty_for wanted.Log = Some Empty
empty_for wanted.List = Some Empty
empty_for wanted.Text = Some Empty
empty_for wanted.Form = Some Empty
empty_for wanted.Expected = Some NothingPrinted
empty_for wanted.Printed = Some NothingPrinted
empty_for wanted.Area = None

-- What an input with these first bytes is in place of what is wanted.
abbrev pub mistake_in : ExpectedInput → List ℕ → Option Mistake
mistake_in wanted [] = empty_for wanted
mistake_in wanted head = mistake_of wanted head
