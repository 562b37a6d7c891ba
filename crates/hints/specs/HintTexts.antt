-- What a person is told to do next. No line advises to expect or to require less.
use Rattle.std.specs.Prelude.{ℕ, ◌++◌, ◌∷◌, ◌&&◌, ◌||◌, Bool, if◌then◌else◌, List, [], codes, decimal, Option, None, Some, option_map, is_some}
use Rattle.pcr_banks.specs.Names.{name_of}
use Rattle.pcr_values.specs.declared.expected.Expected.{Expected}
use Rattle.attestations.specs.declared.expected.ExpectedValues.{ExpectedValues}
use Rattle.attestations.specs.declared.expected.ExpectedValues.TheVariants as values
use Rattle.boot_verdict.specs.declared.report.Aggregate.{Aggregate}
use Rattle.boot_verdict.specs.declared.report.Aggregate.TheVariants as aggregates
use Rattle.boot_verdict.specs.declared.isolation.Stray.{Stray}
use Rattle.boot_verdict.specs.Names.{are_none}
use Rattle.pcr_banks.specs.declared.alg.Alg.{Alg}
use Rattle.pcr_banks.specs.declared.alg.Alg.TheVariants.{Sha1}
use Rattle.hints.specs.declared.reasons.Causes.{Causes}
use Rattle.hints.specs.declared.reasons.Grown.{Grown}
use Rattle.hints.specs.declared.reasons.JudgedBy.{JudgedBy}
use Rattle.hints.specs.declared.reasons.JudgedBy.TheVariants.{Values, ListAlone, Places}
use Rattle.hints.specs.declared.hints.Hint.{Hint}
use Rattle.hints.specs.declared.hints.Hint.TheVariants.{Grown as GrownTo, NoEntries, OtherAggregate, OldAggregate, NoAggregateBank, NoAggregate, ListDiffers, NotExpected, NotQuoted, EventOfList, EntryOfLog, EntryAside, LogDiffers, LogNowhere, WithoutLog, ByHcrtm, Missing, NothingExpected, OnlySha1, Absent, Unknown}
use Rattle.hints.specs.declared.wrong_input.Mistake.{Mistake}
use Rattle.hints.specs.declared.wrong_input.Mistake.TheVariants as mistakes
use Rattle.hints.specs.Escaping.{escape}

-- ---- which hints

-- The list grew only if it is its register that differs, or that a quote may refute; and if nothing of log and list extends a register that is the
-- other's.
abbrev pub is_grown : Causes → Bool
is_grown causes = are_none causes.strays && (is_some causes.list || is_some causes.values)

-- A boot aggregate that is another may be an older kernel's.
abbrev pub aggregate_hint : Option Aggregate → Option Expected → Bool → Option Hint
aggregate_hint (Some aggregates.Wrong) list is_old = if is_old then Some OldAggregate else Some OtherAggregate
aggregate_hint (Some aggregates.NoBank) list is_old = Some NoAggregateBank
aggregate_hint (Some aggregates.Missing) list is_old = Some NoAggregate
aggregate_hint (Some aggregates.Good) list is_old = option_map (λ expected. ListDiffers expected.alg) list
aggregate_hint (Some aggregates.Old) list is_old = option_map (λ expected. ListDiffers expected.alg) list
aggregate_hint None list is_old = option_map (λ expected. ListDiffers expected.alg) list

abbrev pub wrong_list : Causes → Bool → Option Hint
wrong_list causes is_old = if causes.is_empty then Some NoEntries else aggregate_hint causes.aggregate causes.list is_old

abbrev pub list_hint : Causes → Option Grown → Bool → Option Hint
list_hint causes None is_old = wrong_list causes is_old
list_hint causes (Some grown) is_old = if is_grown causes then Some (GrownTo grown.confirmed grown.entries) else wrong_list causes is_old

abbrev pub values_of : Option ExpectedValues → Option Grown → Option Hint
values_of (Some values.NotGiven) None = Some NotExpected
values_of (Some values.Unconfirmed) grown = Some NotQuoted
values_of values grown = None

abbrev pub values_hint : Causes → Option Grown → Option Hint
values_hint causes grown = values_of causes.values grown

abbrev pub event_hint : Causes → Option Hint
event_hint causes = option_map EventOfList causes.strays.event

-- Without a log no register is the log's.
abbrev pub stray_of : JudgedBy → Stray → Hint
stray_of ListAlone stray = EntryAside stray.entry stray.register
stray_of judged stray = EntryOfLog stray.entry stray.register

abbrev pub entry_hint : Causes → Option Hint
entry_hint causes = option_map (stray_of causes.judged) causes.strays.entry

abbrev pub log_of : JudgedBy → Expected → Hint
log_of Values expected = LogDiffers expected.alg expected.register
log_of ListAlone expected = WithoutLog expected.alg expected.register
log_of Places expected = LogNowhere expected.alg expected.register

abbrev pub log_hint : Causes → Option Hint
log_hint causes = option_map (log_of causes.judged) causes.log

abbrev pub missing_or : Option (Alg × ℕ) → Bool → Option Hint
missing_or (Some place) is_bare = Some (Missing place.0 place.1)
missing_or None is_bare = if is_bare then Some NothingExpected else None

abbrev pub missing_hint : Causes → Option Hint
missing_hint causes = missing_or causes.missing causes.is_bare

abbrev pub absent_hint : Causes → Option Hint
absent_hint causes = option_map (λ expected. Absent expected.alg) causes.absent

abbrev pub unknown_hint : Causes → Option Hint
unknown_hint causes = option_map Unknown causes.unknown

abbrev pub of_option : Option Hint → List Hint
of_option None = []
of_option (Some hint) = hint ∷ []

-- All that there is to say, what a person should look at first before the rest.
abbrev pub hints_of_causes : Causes → Option Grown → Bool → List Hint
hints_of_causes causes grown is_old =
    of_option (list_hint causes grown is_old) ++ (of_option (values_hint causes grown) ++ (of_option (event_hint causes) ++ (of_option (entry_hint causes)
    ++ (of_option (log_hint causes) ++ (of_option (missing_hint causes) ++ (of_option (absent_hint causes) ++ of_option (unknown_hint causes)))))))

-- ---- their lines

-- The words with which a line ends, after its numbers.
abbrev pub last_words : Hint → List ℕ
last_words (GrownTo confirmed entries) = codes " entries: the list grew after PCR 10 was read; collect again, or add --prefix to judge only the first "
last_words NoEntries = codes "LIST is empty: copy the kernel's list with cat, since the kernel reports its size as 0"
last_words OtherAggregate = codes "the boot aggregate does not match LOG: log and list are from different boots, or one of them was changed"
last_words OldAggregate = codes "the boot aggregate covers only PCRs 0 to 7, as some kernels before 5.8 record it: it does not bind PCRs 8 and 9 to the list; with --require, --old-kernel accepts it"
last_words NoAggregateBank = codes "LOG has no bank for the boot aggregate, so nothing shows that log and list are from the same boot"
last_words NoAggregate =
    codes "entry 0 is not a boot aggregate: the list lacks its beginning, has another template, or was changed; with --require, the boot aggregate may also have the template ima-ngv2, ima-sigv2 or ima-modsig"
last_words (ListDiffers Sha1) = codes " PCR 10 differs: read it and LIST again at the same time; if it still differs, an entry is missing or was changed"
last_words (ListDiffers alg) =
    codes " PCR 10 differs: read it and LIST again at the same time; if it still differs, a kernel before 5.8 extended it with zero-padded SHA-1 digests, or an entry is missing or was changed"
last_words NotExpected = codes "add EXPECTED, the values read with the quote: its rows show which PCR differs"
last_words NotQuoted = codes "EXPECTED is not what the TPM signed: give the values read with the quote"
last_words (EventOfList event) = codes " extends PCR 10, which only the list should: log and list cannot be told apart"
last_words (EntryOfLog entry register) = codes ", which only the log should: log and list cannot be told apart"
last_words (EntryAside entry register) =
    codes ", as a policy rule with pcr= requests; replay accepts only lists whose entries all extend PCR 10"
last_words (LogDiffers alg register) =
    codes " differs: LOG is from another boot or was changed; ima-agent events --explain --expected shows its events"
last_words (LogNowhere alg register) =
    codes " never has the expected value: LOG is from another boot or was changed; ima-agent events --explain --expected shows its events"
last_words (WithoutLog alg register) = codes " differs: replay reads no log; ima-agent verify does"
last_words ByHcrtm = codes "LOG has an H-CRTM event, which means that PCR 0 started at 4: add --hcrtm, with which less differs"
last_words (Missing alg register) = codes ": read it with the others"
last_words NothingExpected = codes "EXPECTED has no PCR, so no PCR was compared: give the values read with LIST"
last_words (OnlySha1 register) =
    codes " is required only in the SHA-1 bank: anyone who can make collisions can make another log or list with its value; require another bank too, if there is one"
last_words (Unknown entry) =
    codes " is the first that matches no known digest: ima-agent show names its file; compare that with the file in its package"
last_words (Absent alg) = codes " is not a bank of LOG, so its PCRs cannot be judged: LOG is from another machine or was changed"

-- The words before them: what the hint is of.
abbrev pub of_register : Alg → ℕ → List ℕ → List ℕ
of_register alg register words = name_of alg ++ (codes " PCR " ++ (decimal register ++ words))

abbrev pub with_words : Hint → List ℕ → List ℕ
with_words (GrownTo confirmed entries) words =
    codes "PCR 10 covers the first " ++ (decimal confirmed ++ (codes " of " ++ (decimal entries ++ (words ++ decimal confirmed))))
with_words (EventOfList event) words = codes "event " ++ (decimal event ++ words)
with_words (EntryOfLog entry register) words = codes "entry " ++ (decimal entry ++ (codes " extends PCR " ++ (decimal register ++ words)))
with_words (EntryAside entry register) words = codes "entry " ++ (decimal entry ++ (codes " extends PCR " ++ (decimal register ++ words)))
with_words (OnlySha1 register) words = codes "PCR " ++ (decimal register ++ words)
with_words (Unknown entry) words = codes "entry " ++ (decimal entry ++ words)
with_words (ListDiffers alg) words = name_of alg ++ words
with_words (Absent alg) words = name_of alg ++ words
with_words (LogDiffers alg register) words = of_register alg register words
with_words (LogNowhere alg register) words = of_register alg register words
with_words (WithoutLog alg register) words = of_register alg register words
with_words (Missing alg register) words = codes "EXPECTED lacks " ++ of_register alg register words
with_words hint words = words

abbrev pub hint_line : Hint → List ℕ
hint_line hint = with_words hint (last_words hint)

-- A hint as it is shown.
abbrev pub shown_hint : Hint → List ℕ
shown_hint hint = escape (hint_line hint) ++ 10 ∷ []

-- ---- what an input is

abbrev pub mistake_words : Mistake → List ℕ
mistake_words mistakes.Empty = codes "it is empty: copy the kernel's files with cat, since the kernel reports their size as 0"
mistake_words mistakes.NothingPrinted = codes "it is empty: the tool printed nothing"
mistake_words mistakes.ListForLog = codes "it is a measurement list, not a firmware event log"
mistake_words mistakes.OldLog =
    codes "it is in the SHA-1 form of TPM 1.2: ima-agent log converts it to a LOG with only the SHA-1 bank, which stops nobody who can make collisions"
mistake_words mistakes.LogForList = codes "it is a firmware event log, not a measurement list"
mistake_words mistakes.TextForList = codes "it is the list as text: give binary_runtime_measurements, which is beside it, or convert the text with ima-agent list"
mistake_words mistakes.ListForText = codes "it is the binary list, which needs no conversion: give it to the other commands"
mistake_words mistakes.PrintedForExpected = codes "it is tpm2-tools output: convert it to EXPECTED with ima-agent expected"
mistake_words mistakes.ExpectedForPrinted = codes "it is EXPECTED already: give it to ima-agent verify as it is"
mistake_words mistakes.Capitals = codes "its banks are in capital letters: write sha256, not SHA256"
mistake_words mistakes.PemForArea = codes "it is PEM text: give the public area as tpm2_createak -u writes it, or this text to attest --key"
