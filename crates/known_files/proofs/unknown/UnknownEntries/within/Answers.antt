use Rattle.std.proofs.Common.{◌∙◌, refl}
use Rattle.known_files.proofs.UnknownLaws.{files_none, files_some, first_still, known_still, none_lost, not_both, some_unknown, unknown_below}
use Rattle.known_files.proofs.unknown.UnknownEntries.within.Goals as goal

pub returns-in-Some-clause-unknown : goal.returns-in-Some-clause-unknown
returns-in-Some-clause-unknown c =
    λ files first start entries fresh tracked. (
      first_still _ first start _ entries fresh tracked,
      λ texts knows.
          c.numbers_below.ensures ∙ unknown_below _ first start _ entries fresh tracked files texts refl knows c.args.count c.if-self.false,
    )

pub returns-in-Some-clause-none : goal.returns-in-Some-clause-none
returns-in-Some-clause-none c =
    λ first start entries fresh tracked.
    absurd (not_both _ _ (known_still _ first start _ entries fresh tracked) (files_some c.args.self _ c.in-Some.is))

pub returns-in-None-clause-unknown : goal.returns-in-None-clause-unknown
returns-in-None-clause-unknown c =
    λ files first start entries fresh tracked.
    not_both _ _ (files_none c.args.self c.in-None.is) (known_still _ first start _ entries fresh tracked)

pub returns-then-self-clause-memory : goal.returns-then-self-clause-memory
returns-then-self-clause-memory c =
    λ files first start entries fresh tracked texts knows.
    some_unknown _ first start _ entries fresh tracked files texts refl knows c.if-self.true

pub returns-then-self-clause-idle : goal.returns-then-self-clause-idle
returns-then-self-clause-idle c = λ first start entries fresh tracked. none_lost _ first start _ entries fresh tracked refl c.if-self.true
