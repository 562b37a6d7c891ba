use Rattle.std.proofs.Common.{ap, sym, ◌∙◌, List, ℕ, Some}
use Rattle.event_data.specs.Names.{command_of}
use Rattle.event_data.proofs.CommandLaws.{hashed_behind, without_nul}
use Rattle.event_data.proofs.command.hashed_of.Goals as goal

pub returns-then-hashes_nul : goal.returns-then-hashes_nul
returns-then-hashes_nul c =
    c.after_prefix.ensures.value
    ∙ hashed_behind c.args.bytes.now (command_of c.args.command) (sym c.hashes_nul.ensures ∙ c.if-hashes_nul.true) c.requires

pub returns-else-hashes_nul : goal.returns-else-hashes_nul
returns-else-hashes_nul c =
    ap (λ (t : List ℕ). Some t) (sym (without_nul (command_of c.args.command) (sym c.hashes_nul.ensures ∙ c.if-hashes_nul.false)))
