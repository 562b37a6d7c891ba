use Rattle.std.proofs.Common.{◌≡◌, ◌++◌, ℕ, List}
use Rattle.std.proofs.lemmas.Bool.Decides.{Decides-eqb}
use Rattle.std.proofs.lemmas.Slice.Eq.{strip_suffix_is}
use Rattle.event_data.proofs.AffixLaws.{if_absent, if_found, before_finds}
use Rattle.event_data.proofs.Finding.{same_finds}
use Rattle.event_data.specs.Names.{before_in}
use Rattle.event_data.proofs.text.before_suffix.Goals as goal

pub returns-clause-found : goal.returns-clause-found
returns-clause-found c =
    if_found c.strip_suffix.result _ _ (strip_suffix_is Decides-eqb c.args.bytes.now c.args.suffix.now c.strip_suffix.result c.strip_suffix.ensures.cases)

pub returns-clause-none : goal.returns-clause-none
returns-clause-none c =
    if_absent c.strip_suffix.result _ _ (strip_suffix_is Decides-eqb c.args.bytes.now c.args.suffix.now c.strip_suffix.result c.strip_suffix.ensures.cases)

pub returns-clause-value : goal.returns-clause-value
returns-clause-value c =
    same_finds c.strip_suffix.result (λ (prefix : List ℕ). c.args.bytes.now ≡ prefix ++ c.args.suffix.now) (before_in c.args.suffix.now c.args.bytes.now)
    (before_finds c.args.suffix.now c.args.bytes.now) (returns-clause-found c) (returns-clause-none c)
