-- Answers whose numbers fit in 64 bits, as all do that code holds.
use Rattle.std.specs.Prelude.{IfSome, ⊤}
use Rattle.std.specs.List.{AllByRecursion}
use Rattle.boot_verdict.specs.declared.isolation.Strays.{Strays}
use Rattle.boot_verdict.specs.declared.steps.Position.{Position}
use Rattle.boot_verdict.specs.declared.steps.Position.TheVariants.{Event, Entry}
use Rattle.boot_verdict.specs.Names.{unconfirmed_entry}
use Rattle.tpm_quotes.specs.declared.quote.Clock.{Clock}
use Rattle.attestations.specs.declared.report.Whole.{Whole}
use Rattle.known_files.specs.declared.unknown.UnknownFiles.{UnknownFiles}
use Rattle.cells.specs.Values.{IsCount}

-- The numbers of both, if there are such, and the register.
abbrev pub AreCounted : Strays → Type 0
AreCounted strays = IfSome strays.event IsCount × IfSome strays.entry (λ stray. IsCount stray.entry × IsCount stray.register)

-- From which number on entries were looked at, and the numbers of those that are not known.
abbrev pub IsCountedUnknown : UnknownFiles → Type 0
IsCountedUnknown unknown = IsCount unknown.first × AllByRecursion IsCount unknown.numbers.items

-- The number of the event or entry, if there is one.
abbrev pub IsCountedPosition : Position → Type 0
IsCountedPosition (Event number) = IsCount number
IsCountedPosition (Entry number) = IsCount number
IsCountedPosition position = ⊤

-- The numbers of the clock.
abbrev pub IsCountedClock : Clock → Type 0
IsCountedClock clock = IsCount clock.milliseconds × IsCount clock.resets × IsCount clock.restarts

-- The number of entries of the whole list, and that of the entry at which something is wrong.
abbrev pub IsCountedWhole : Whole → Type 0
IsCountedWhole whole = IsCount whole.entries × IfSome whole.unconfirmed (λ fault. IfSome (unconfirmed_entry fault) IsCount)
