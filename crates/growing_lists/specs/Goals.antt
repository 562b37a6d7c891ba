-- What the confirmed prefix of a list is confirmed by: expected registers, or a quote.
use Rattle.std.specs.Prelude.{◌&&◌, Bool, List}
use Rattle.std.specs.List.{list_all}
use Rattle.pcr_banks.specs.declared.sets.AlgSet.{AlgSet}
use Rattle.pcr_values.specs.declared.expected.Expected.{Expected}
use Rattle.boot_log.specs.Names.{LogEvent}
use Rattle.ima_list.specs.Names.{ListEntry}
use Rattle.boot_verdict.specs.declared.aggregate_rule.AggregateRule.{AggregateRule}
use Rattle.boot_verdict.specs.Names.{aggregate_under, is_good, is_reached, matches, pcr_after_log_and_list, verdict_under}
use Rattle.tpm_quotes.specs.Quoting.{Values, confirms}
use Rattle.tpm_quotes.specs.Spelling.{TpmQuote, quote_of}
use Rattle.growing_lists.specs.declared.confirmation.Goal.{Goal}
use Rattle.growing_lists.specs.declared.confirmation.Sought.{Sought}
use Rattle.growing_lists.specs.declared.confirmation.Sought.TheVariants as soughts

-- What is sought: that each of these registers has its value; or that the quote is of the registers.
pub data SoughtData : Type 0 where
  OfExpected : List Expected → SoughtData
  OfQuote : TpmQuote → SoughtData

-- The same, and by which rule the boot aggregate must be good.
pub record GoalData : Type 0 where
  pub sought : SoughtData
  pub rule : AggregateRule

-- Each expected register has its value among these.
abbrev pub are_reached : List Expected → Values → Bool
are_reached expected values = list_all (λ e. is_reached e (values e.alg e.register)) expected

-- Whether these values are so.
abbrev pub is_sought : SoughtData → Values → Bool
is_sought (OfExpected expected) values = are_reached expected values
is_sought (OfQuote quote) values = confirms quote values

abbrev pub is_met : GoalData → Values → Bool
is_met goal values = is_sought goal.sought values

-- Whether a log and a list are confirmed: the verdict on them by the rule is 'match'; or the boot aggregate is good by it, and the quote is of
-- the registers that they make.
abbrev pub is_confirmed_under : AggregateRule → SoughtData → AlgSet → List LogEvent → List ListEntry → Bool
is_confirmed_under rule (OfExpected expected) algs events entries = matches (verdict_under rule algs events entries expected)
is_confirmed_under rule (OfQuote quote) algs events entries =
    is_good (aggregate_under rule algs events entries) && confirms quote (pcr_after_log_and_list algs events entries)

abbrev pub is_confirmed : GoalData → AlgSet → List LogEvent → List ListEntry → Bool
is_confirmed goal algs events entries = is_confirmed_under goal.rule goal.sought algs events entries

-- ---- what contracts see of a goal

abbrev pub sought_data : Sought → SoughtData
sought_data (soughts.Expected expected) = OfExpected expected.now
sought_data (soughts.Quote quote) = OfQuote (quote_of quote.now)

abbrev pub goal_data : Goal → GoalData
goal_data goal = record { sought = sought_data goal.sought; rule = goal.rule }
