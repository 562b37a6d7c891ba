use Rattle.std.proofs.Common.{rules}
use Rattle.clap.specs.Words.{found_of}
use Rattle.clap.proofs.WalkLemmas.{first_value-rows}
use Rattle.command_line.proofs.values.text_of.Goals as goal

pub returns : goal.returns
returns c =
    let same = first_value-rows (found_of c.args.matches.now) c.args.id.now in search rules
