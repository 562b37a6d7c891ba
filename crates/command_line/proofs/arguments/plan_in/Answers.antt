use Rattle.std.proofs.Common.{ap, map, subst, string_bytes, sym, inl, inr, ◌∙◌}
use Rattle.std.proofs.lemmas.Result.{IfOk-weaker}
use Rattle.clap.specs.Takes.{takes}
use Rattle.clap.specs.Words.{is_simple, subcommand_of}
use Rattle.agent_plans.specs.Plans.{IsWithinRanges, IsWithin}
use Rattle.command_line.specs.Arguments.{HasValuesIn}
use Rattle.command_line.proofs.ReadLemmas.{commands_are_simple}
use Rattle.command_line.proofs.arguments.plan_in.Goals as goal

pub returns-in_ok-requested_of-in-Ok : goal.returns-in_ok-requested_of-in-Ok
returns-in_ok-requested_of-in-Ok c =
    let parsers = c.in_ok-all_commands.ensures.0 in
    let program = c.in_ok-all_commands.ensures.1 in
    let command = c.args.command.now in
    let found = (c.in-Ok.ensures.matches (ap is_simple program.app_is ∙ commands_are_simple parsers)).1
    ∙ ap (λ app. subcommand_of app (map string_bytes c.args.arguments.now)) program.app_is in
    let task = sym c.of.ensures.task in
    let is = c.in_ok-requested_of-in-Ok.ensures in (
      inl (
          record {
            parsers = parsers;
            values = subst (HasValuesIn command _) task (subst (λ matches. HasValuesIn command matches c.in_ok-requested_of-in-Ok.field-0) found is.0);
            one = c.of.ensures.one;
          }
          ),
      subst (λ request. IsWithin request.1 request.0) task is.1,
    )

pub returns-in-Err : goal.returns-in-Err
returns-in-Err c =
    let parsers = c.in_ok-all_commands.ensures.0 in
    let arguments = map string_bytes c.args.arguments.now in
    IfOk-weaker c.help_of.result _ _
    (λ plan is. (
      inr (
        is.0,
        is.1,
        (
          parsers,
          λ taken.
              let clash = sym is.2 ∙ c.in-Err.ensures.passes (ap (λ app. takes app arguments) c.in_ok-all_commands.ensures.1.app_is ∙ taken) in cc,
        ),
      ),
      subst IsWithinRanges (sym is.1.1) tt,
    )) c.help_of.ensures
