use Rattle.std.proofs.Common.{◌∙◌, ap, sym, Some}
use Rattle.std.specs.Prelude.{option_map}
use Rattle.clap.specs.Words.{found_of}
use Rattle.command_line.proofs.ReadLemmas.{all_given}
use Rattle.command_line.proofs.values.names_if_given.Goals as goal

pub returns-in-None : goal.returns-in-None
returns-in-None c = all_given c.get_strs.result (found_of c.args.matches.now) c.args.id.now c.get_strs.ensures ∙ ap (option_map _) c.in-None.is

pub returns-in_ok-names_of-in-Some : goal.returns-in_ok-names_of-in-Some
returns-in_ok-names_of-in-Some c =
    all_given c.get_strs.result (found_of c.args.matches.now) c.args.id.now c.get_strs.ensures ∙ ap (option_map _) c.in-Some.is
    ∙ ap Some (sym c.in_ok-names_of-in-Some.ensures)
