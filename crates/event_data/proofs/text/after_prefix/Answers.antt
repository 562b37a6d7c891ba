use Rattle.std.proofs.Common.{◌≡◌, ◌++◌, ℕ, List}
use Rattle.std.proofs.lemmas.Bool.Decides.{Decides-eqb}
use Rattle.std.proofs.lemmas.Slice.Eq.{strip_prefix_is}
use Rattle.event_data.proofs.AffixLaws.{if_absent, if_found, after_finds}
use Rattle.event_data.proofs.Finding.{same_finds}
use Rattle.event_data.specs.Names.{after_in}
use Rattle.event_data.proofs.text.after_prefix.Goals as goal

pub returns-clause-found : goal.returns-clause-found
returns-clause-found c =
    if_found c.strip_prefix.result _ _ (strip_prefix_is Decides-eqb c.args.bytes.now c.args.prefix.now c.strip_prefix.result c.strip_prefix.ensures.cases)

pub returns-clause-none : goal.returns-clause-none
returns-clause-none c =
    if_absent c.strip_prefix.result _ _ (strip_prefix_is Decides-eqb c.args.bytes.now c.args.prefix.now c.strip_prefix.result c.strip_prefix.ensures.cases)

pub returns-clause-value : goal.returns-clause-value
returns-clause-value c =
    same_finds c.strip_prefix.result (λ (rest : List ℕ). c.args.bytes.now ≡ c.args.prefix.now ++ rest) (after_in c.args.prefix.now c.args.bytes.now)
    (after_finds c.args.prefix.now c.args.bytes.now) (returns-clause-found c) (returns-clause-none c)
