use Rattle.std.proofs.Common.{◌≡◌, ◌∙◌, Some, [], ap, codes, rules, true}
use Rattle.std.proofs.lemmas.Result.{IfOk-weaker}
use Rattle.clap.specs.Words.{App, app_of, new_app, new_rule, with_rule}
use Rattle.clap.specs.declared.builder.ArgAction.TheVariants.{Version as show_version}
use Rattle.command_line.specs.parts.Commands.{IsArgument}
use Rattle.command_line.proofs.CommandLemmas.{one_rule_more}
use Rattle.command_line.proofs.command_table.program.Goals as goal

pub returns : goal.returns
returns c =
    let rule = record (new_rule (codes "version")) { long = Some (codes "version"); short = Some 86; action = Some show_version } in
    let argument : IsArgument rule c.action-version.result = record { rule_is = search rules; local = search rules } in
    let named : app_of c.in_ok-bin_name.field-0
    ≡ record { top = record (new_app (codes "ima-agent")).top { no_binary_name = true; disable_help_subcommand = true; subcommand_required = true }; subs = [] } =
    search rules in
    IfOk-weaker c.arg.result _ _ (λ new adds. record { app_is = one_rule_more rule _ new _ argument adds ∙ ap (λ (app : App). with_rule app rule) named }) c.arg.ensures
