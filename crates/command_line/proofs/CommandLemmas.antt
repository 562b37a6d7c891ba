-- Commands that get one more argument, or one more command, as a row of a table says.
use Rattle.std.proofs.Common.{◌≡◌, ◌∙◌, ◌+◌, ◌<◌, ℕ, List, [], ◌∷◌, ap, length, refl, slice_index_or, sym, take}
use Rattle.std.specs.List.{fold}
use Rattle.std.proofs.lemmas.List.Sums.{fold_more}
use Rattle.clap.specs.Words.{AddsArg, AddsSubcommand, App, Rule, app_of, new_app, with_rule, with_subcommand}
use Rattle.clap.specs.declared.builder.Arg.{Arg}
use Rattle.clap.specs.declared.builder.Command.{Command}
use Rattle.clap.proofs.SimpleLemmas.{plain_fields}
use Rattle.command_line.specs.parts.Commands.{IsArgument, IsCommand, app_of_row, with_argument_row, with_row}
use Rattle.command_line.specs.declared.command_table.ArgumentRow.{ArgumentRow}
use Rattle.command_line.specs.declared.command_table.CommandRow.{CommandRow}
use Rattle.command_line.specs.declared.command_table.KnownNames.{KnownNames}

pub one_rule_more : (rule : Rule) (old new : Command) (arg : Arg) → IsArgument rule arg → AddsArg old arg new
    → app_of new ≡ with_rule (app_of old) rule
one_rule_more rule old new arg argument adds = adds.shape argument.local ∙ ap (with_rule (app_of old)) argument.rule_is

-- Arguments leave a command plain.
stays_plain : (known : KnownNames) (app : App) (rows : List ArgumentRow) → (fold (with_argument_row known) app rows).top.is_plain ≡ app.top.is_plain
stays_plain known app [] = refl
stays_plain known app (row ∷ rows) = stays_plain known (with_argument_row known app row) rows

pub one_command_more : (known : KnownNames) (row : CommandRow) (old sub new : Command) → IsCommand (app_of_row known row) sub → AddsSubcommand old sub new
    → app_of new ≡ with_row known (app_of old) row
one_command_more known row old sub new under adds =
    let plain = stays_plain known (new_app row.name.now) row.arguments.now in
    let fields = plain_fields sub (ap (λ (app : App). app.top.is_plain) under.app_is ∙ plain) in
    adds.shape fields.globals ∙ ap (λ (app : App). with_subcommand (app_of old) app.top) under.app_is

-- What the first i rows make, and row i adds to.
pub one_row_more : {Row : Type 0} (add : App → Row → App) (app : App) (rows : List Row) (i : ℕ) (d : Row) (old new : Command) → i < length rows
    → IsCommand (fold add app (take i rows)) old → app_of new ≡ add (app_of old) (slice_index_or rows i d) → IsCommand (fold add app (take (i + 1) rows)) new
one_row_more add app rows i d old new lt command adds =
    record { app_is = adds ∙ ap (λ a. add a (slice_index_or rows i d)) command.app_is ∙ sym (fold_more add app rows i d lt) }
