use Rattle.growing_lists.proofs.CheckpointLaws.{has_alg_name, has_colon, has_digits, none_recorded, same_recorded}
use Rattle.std.proofs.lemmas.Bool.{both_ways}
use Rattle.std.proofs.Common.{◌≡◌, codes}
use Rattle.growing_lists.proofs.checkpoint_reader.recorded_by.Goals as goal

pub returns-in_err-name : goal.returns-in_err-name
returns-in_err-name c =
    λ recorded hash is.
    let other : c.args.words.now ≡ codes "none" → ⊥ = λ e. both_ways c.is_none.result c.if-is_none.false (c.is_none.ensures.1 e) in
    absurd (has_colon c.args.words.now recorded other is c.in_err-name.ensures.none)

pub returns-in_err-from_name : goal.returns-in_err-from_name
returns-in_err-from_name c =
    λ recorded hash is.
    let other : c.args.words.now ≡ codes "none" → ⊥ = λ e. both_ways c.is_none.result c.if-is_none.false (c.is_none.ensures.1 e) in
    absurd (has_alg_name c.args.words.now c.in_ok-name.name.now c.in_ok-name.digits.now recorded other is c.in_ok-name.ensures.cut
    c.in_err-from_name.ensures.unknown)

pub returns-in_err-from_hex : goal.returns-in_err-from_hex
returns-in_err-from_hex c =
    λ recorded hash is.
    let other : c.args.words.now ≡ codes "none" → ⊥ = λ e. both_ways c.is_none.result c.if-is_none.false (c.is_none.ensures.1 e) in
    absurd (has_digits c.args.words.now c.in_ok-name.name.now c.in_ok-name.digits.now c.in_ok-from_name.field-0 recorded other hash is
    c.in_ok-name.ensures.cut c.in_ok-from_name.ensures.found (λ both. let bad = c.in_err-from_hex.ensures.found.1 both in absurd cc))

pub returns : goal.returns
returns c =
    λ recorded hash is.
    let other : c.args.words.now ≡ codes "none" → ⊥ = λ e. both_ways c.is_none.result c.if-is_none.false (c.is_none.ensures.1 e) in
    same_recorded c.args.words.now c.in_ok-name.name.now c.in_ok-name.digits.now c.in_ok-from_name.field-0 c.in_ok-from_hex.field-0 recorded other hash is
    c.in_ok-name.ensures.cut c.in_ok-from_name.ensures.found c.in_ok-from_hex.ensures.value

pub returns-then-is_none : goal.returns-then-is_none
returns-then-is_none c = λ recorded hash is. none_recorded c.args.words.now recorded (c.is_none.ensures.0 c.if-is_none.true) is
