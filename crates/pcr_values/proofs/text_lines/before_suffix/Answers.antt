use Rattle.std.proofs.lemmas.Bool.Decides.{Decides-eqb}
use Rattle.std.proofs.lemmas.Slice.Eq.{strip_suffix_is}
use Rattle.pcr_values.proofs.LineLaws.{if_absent, if_found}
use Rattle.pcr_values.proofs.text_lines.before_suffix.Goals as goal

pub returns-clause-found : goal.returns-clause-found
returns-clause-found c =
    if_found c.strip_suffix.result _ _ (strip_suffix_is Decides-eqb c.args.text.now c.args.suffix.now c.strip_suffix.result c.strip_suffix.ensures.cases)

pub returns-clause-none : goal.returns-clause-none
returns-clause-none c =
    if_absent c.strip_suffix.result _ _ (strip_suffix_is Decides-eqb c.args.text.now c.args.suffix.now c.strip_suffix.result c.strip_suffix.ensures.cases)
