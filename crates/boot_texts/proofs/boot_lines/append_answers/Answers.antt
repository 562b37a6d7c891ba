use Rattle.std.proofs.Common.{refl}
use Rattle.boot_texts.proofs.BootLaws.{all_lines}
use Rattle.boot_texts.proofs.boot_lines.append_answers.Goals as goal

pub returns : goal.returns
returns c table events is =
    let images = c.in_ok-append_images.ensures table events is in
    let commands = c.in_ok-append_commands.ensures table events is in
    let more = c.in_ok-append_commands-2.ensures table events is in
    let policy = c.in_ok-append_policy.ensures table events is in
    let variables = c.in_ok-append_variables.ensures table events is in (
      _,
      record {
        state = c.secure_boot.result;
        is_state = c.secure_boot.ensures table events is;
        version = _;
        is_version = c.firmware_version-version.ensures table events is;
        images = images.0;
        are_images = images.1;
        commands = commands.0;
        are_commands = commands.1;
        more_commands = more.0;
        are_more_commands = more.1;
        policy = policy.0;
        is_policy = policy.1;
        variables = variables.0;
        are_variables = variables.1;
        text_is = refl;
      },
      all_lines c.args.lines.now.items _ _ images.0 commands.0 more.0 _ variables.0 c.in_ok-append_state.ensures c.in_ok-append.ensures.ok images.2 commands.2 more.2 policy.2 variables.2,
    )
