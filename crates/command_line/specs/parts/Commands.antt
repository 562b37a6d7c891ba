-- What `clap` is given of one argument, and of one command; and what it is given of a row of the table in the code.
use Rattle.std.specs.Prelude.{◌≡◌, false}
use Rattle.std.specs.List.{fold}
use Rattle.clap.specs.Words.{App, Rule, Text, app_of, new_app, new_rule, rule_of, with_rule, with_subcommand}
use Rattle.clap.specs.declared.builder.Arg.{Arg}
use Rattle.clap.specs.declared.builder.Command.{Command}
use Rattle.clap.specs.declared.builder.ValueParser.{ValueParser}
use Rattle.clap.specs.declared.builder.ValueParser.TheVariants.{Names}
use Rattle.command_line.specs.Arguments.{beside, flag, optional, repeated, required, required_option, several, short_flag, without_default}
use Rattle.command_line.specs.declared.command_table.ArgumentRow.{ArgumentRow}
use Rattle.command_line.specs.declared.command_table.CommandRow.{CommandRow}
use Rattle.command_line.specs.declared.command_table.ArgumentForm.{ArgumentForm}
use Rattle.command_line.specs.declared.command_table.ArgumentForm.TheVariants.{Required, Omittable, Repeated, Flag, ShortFlag, FlagBeside, ShortFlagBeside, RequiredOption, Optional, OptionalBeside, Several, Defaulted}
use Rattle.command_line.specs.declared.command_table.Values.{Values}
use Rattle.command_line.specs.declared.command_table.Values.TheVariants.{Algs, Templates, Parsed}
use Rattle.command_line.specs.declared.command_table.KnownNames.{KnownNames}

-- The argument has this rule, and belongs to its command alone.
pub record IsArgument (rule : Rule) (arg : Arg) : Type 0 where
  pub rule_is : rule_of arg ≡ rule
  pub local : arg.global ≡ false

-- The command has this definition.
pub record IsCommand (app : App) (command : Command) : Type 0 where
  pub app_is : app_of command ≡ app

-- clap's parser of these values.
abbrev pub parser_of_values : KnownNames → Values → ValueParser
parser_of_values known Algs = Names known.algs
parser_of_values known Templates = Names known.templates
parser_of_values known (Parsed parser) = parser

-- The rule of an argument with this name, given in this form.
abbrev pub rule_of_form : KnownNames → Text → ArgumentForm → Rule
rule_of_form known id Required = required id
rule_of_form known id Omittable = new_rule id
rule_of_form known id Repeated = repeated id
rule_of_form known id Flag = flag id
rule_of_form known id (ShortFlag letter) = short_flag letter id
rule_of_form known id (FlagBeside argument) = beside (flag id)
rule_of_form known id (ShortFlagBeside letter option) = beside (short_flag letter id)
rule_of_form known id (RequiredOption value) = required_option id
rule_of_form known id (Optional value) = without_default id
rule_of_form known id (OptionalBeside value argument) = beside (without_default id)
rule_of_form known id (Several value) = several id
rule_of_form known id (Defaulted value default values) = optional id default.now (parser_of_values known values)

-- A command with the argument of this row too.
abbrev pub with_argument_row : KnownNames → App → ArgumentRow → App
with_argument_row known app row = with_rule app (rule_of_form known row.id.now row.form)

-- The definition of a row's command.
abbrev pub app_of_row : KnownNames → CommandRow → App
app_of_row known row = fold (with_argument_row known) (new_app row.name.now) row.arguments.now

-- A program with the command of this row too.
abbrev pub with_row : KnownNames → App → CommandRow → App
with_row known app row = with_subcommand app (app_of_row known row).top
