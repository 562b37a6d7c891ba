-- clap's matches, and what is read from them.
use Rattle.std.proofs.Common.{◌≡◌, List, [], ◌∷◌, map, true, false, Option, None, Some, Bor, String, string_bytes, refl, sym, ap, subst, ◌∙◌, inl}
use Rattle.std.specs.Prelude.{is_some, option_map, slice_get, unwrap_or}
use Rattle.std.specs.Global.{Global}
use Rattle.std.proofs.lemmas.Option.{same_Some}
use Rattle.clap.specs.Words.{Text, all_of, is_simple, matched_of, raw_values, rows_of}
use Rattle.clap.specs.declared.parser.matches.Found.{Found}
use Rattle.clap.specs.declared.parser.matches.MatchedArg.{MatchedArg}
use Rattle.clap.proofs.OnLiterals.{clap_on_literals}
use Rattle.clap.proofs.WalkLemmas.{raw_values-rows}
use Rattle.command_line.specs.Arguments.{Parsers, commands, IsRequestedBy, IsPlanOrHelp}
use Rattle.agent_plans.specs.declared.plan.Plan.{Plan}

pub commands_are_simple : (parsers : Parsers) → is_simple (commands parsers) ≡ true
unfolding clap_on_literals
commands_are_simple parsers = refl

-- The values of an argument that may be missing.
pub arguments_or_none : (o : Option (Bor (List (Bor Text)))) (none given : Bor (List (Bor Text))) → none.now ≡ [] → given ≡ unwrap_or o none
    → map (λ word. word.now) given.now ≡ unwrap_or (option_map (λ arguments. map (λ word. word.now) arguments.now) o) []
arguments_or_none None none given empty is = ap (λ (arguments : Bor (List (Bor Text))). map (λ word. word.now) arguments.now) is ∙ ap (map (λ word. word.now)) empty
arguments_or_none (Some arguments) none given empty is = ap (λ (arguments : Bor (List (Bor Text))). map (λ word. word.now) arguments.now) is

-- What was not found has no values.
pub no_values : (f : Found) (id : Text) → is_some (matched_of f id) ≡ false → all_of id (rows_of f) ≡ None
no_values f id missing = sym (raw_values-rows f id) ∙ go (matched_of f id) missing
  where
    go : (o : Option MatchedArg) → is_some o ≡ false → option_map raw_values o ≡ None
    go None e = refl
    go (Some found) e = cc

-- The values of an argument, as they were found.
pub all_given : (o : Option (Bor (List (Bor Text)))) (f : Found) (id : Text)
    → option_map (λ arguments. map (λ word. word.now) arguments.now) o ≡ option_map raw_values (matched_of f id)
    → all_of id (rows_of f) ≡ option_map (λ arguments. map (λ word. word.now) arguments.now) o
all_given o f id found = sym (raw_values-rows f id) ∙ sym found

-- The first argument is the command.
pub requested_by : (arguments : List (String Global)) (word : String Global) (command : Text) (plan : Plan) → Some word ≡ slice_get arguments 0
    → command ≡ string_bytes word → IsPlanOrHelp arguments command plan → IsRequestedBy arguments plan
requested_by [] word command plan first is request = let clash = first in cc
requested_by (first ∷ rest) word command plan here is request =
    inl (subst (λ (name : Text). IsPlanOrHelp (first ∷ rest) name plan) (is ∙ ap string_bytes (same_Some word first here)) request)
