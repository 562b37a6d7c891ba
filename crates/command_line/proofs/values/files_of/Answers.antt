use Rattle.std.proofs.Common.{codes, ap, sym, ◌∙◌, refl, []}
use Rattle.std.specs.Prelude.{unwrap_or}
use Rattle.clap.specs.Words.{found_of}
use Rattle.clap.proofs.WalkLemmas.{raw_values-rows}
use Rattle.command_line.proofs.ReadLemmas.{arguments_or_none}
use Rattle.command_line.proofs.values.files_of.Goals as goal

pub returns-clause-names : goal.returns-clause-names
returns-clause-names c =
    let given = arguments_or_none c.get_strs.result _ c.unwrap_or.result refl c.unwrap_or.ensures in
    let rows = raw_values-rows (found_of c.args.matches.now) (codes "FILE") in
    sym (c.in_ok-names.ensures ∙ given ∙ ap (λ o. unwrap_or o []) (c.get_strs.ensures ∙ rows))
