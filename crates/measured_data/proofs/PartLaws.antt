-- The parts of an event's data.
use Rattle.std.proofs.Common.{◌≡◌, List, ℕ, ◌<◌, ◌==◌, Bool, true, false, cond, Option, Some, None, refl, sym, ap, arith}
use Rattle.std.specs.Prelude.{find, option_map}
use Rattle.std.specs.Bool.{Decides}
use Rattle.std.proofs.lemmas.Bool.{eqb-true, eq-eqb}
use Rattle.byte_fields.specs.Spelling.{IsBytes}
use Rattle.boot_log.specs.Names.{LogEvent}
use Rattle.event_data.specs.Names.{CommandData, VariableData, command_in, hashed_text, variable_in}
use Rattle.event_data.proofs.CommandLaws.{command_finds}
use Rattle.event_data.proofs.FormLaws.{variable_finds}
use Rattle.measured_data.specs.declared.measured.Part.{Part}
use Rattle.measured_data.specs.declared.measured.Part.TheVariants.{Whole, Value, Command}
use Rattle.measured_data.specs.Measuring.{IsFirstPart, IsPart, all_parts, order_of, part_in}

-- ---- a part is what the function gives

some_is : {A : Type 0} (x y : A) → Some x ≡ Some y → x ≡ y
some_is x y e = cc

mapped : {A B : Type 0} (f : A → B) (found : Option A) (y : B) → option_map f found ≡ Some y → (x : A) × (found ≡ Some x) × (y ≡ f x)
mapped f None y e = absurd cc
mapped f (Some x) y e = (x, refl, sym (some_is (f x) y e))

chosen : {A : Type 0} (b : Bool) (found : Option A) (y : A) → cond b found None ≡ Some y → (b ≡ true) × (found ≡ Some y)
chosen true found y e = (refl, e)
chosen false found y e = absurd cc

pub part_told : (part : Part) (event : LogEvent) → IsBytes event.payload → (bytes : List ℕ)
    → (part_in part event ≡ Some bytes → IsPart part event bytes) × (IsPart part event bytes → part_in part event ≡ Some bytes)
part_told Whole event fits bytes =
    (λ e. sym (some_is event.payload bytes e), λ is. ap (λ (b : List ℕ). Some b) (sym is))
part_told Value event fits bytes =
    let finds = variable_finds event.payload fits in
    let value = λ (v : VariableData). v.value in (
      λ e.
          let here = chosen (event.register == 1) (option_map value (variable_in event.payload)) bytes e in
          let found = mapped value (variable_in event.payload) bytes here.1 in
          (eqb-true event.register 1 here.0, found.0, finds.is found.0 found.1, found.2),
      λ is. rw (eq-eqb event.register 1 is.0, finds.only is.1 is.2) (ap (λ (b : List ℕ). Some b) (sym is.3)),
    )
part_told Command event fits bytes =
    let finds = command_finds event.payload in
    let text = λ (c : CommandData). hashed_text c in (
      λ e.
          let here = chosen (event.register == 8) (option_map text (command_in event.payload)) bytes e in
          let found = mapped text (command_in event.payload) bytes here.1 in
          (eqb-true event.register 8 here.0, found.0, finds.is found.0 found.1, found.2),
      λ is. rw (eq-eqb event.register 8 is.0, finds.only is.1 is.2) (ap (λ (b : List ℕ). Some b) (sym is.3)),
    )

-- ---- the first part of some

before_value : (holds : Part → Type 0) → Decides false (holds Whole) → (part : Part) → order_of part < 1 → holds part → ⊥
before_value holds whole Whole less is = let no = whole.1 is in absurd cc
before_value holds whole Value less is = omega (arith, less)
before_value holds whole Command less is = omega (arith, less)

before_command : (holds : Part → Type 0) → Decides false (holds Whole) → Decides false (holds Value)
    → (part : Part) → order_of part < 2 → holds part → ⊥
before_command holds whole value Whole less is = let no = whole.1 is in absurd cc
before_command holds whole value Value less is = let no = value.1 is in absurd cc
before_command holds whole value Command less is = omega (arith, less)

pub no_part : (holds : Part → Type 0) → Decides false (holds Whole) → Decides false (holds Value) → Decides false (holds Command)
    → (part : Part) → holds part → ⊥
no_part holds whole value command Whole is = let no = whole.1 is in absurd cc
no_part holds whole value command Value is = let no = value.1 is in absurd cc
no_part holds whole value command Command is = let no = command.1 is in absurd cc

first_of : (holds : Part → Type 0) (a b c : Bool) → Decides a (holds Whole) → Decides b (holds Value) → Decides c (holds Command)
    → IsFirstPart holds (cond a (Some Whole) (cond b (Some Value) (cond c (Some Command) None)))
first_of holds true b c whole value command = (whole.0 refl, λ part less is. omega (arith, less))
first_of holds false true c whole value command = (value.0 refl, before_value holds whole)
first_of holds false false true whole value command = (command.0 refl, before_command holds whole value)
first_of holds false false false whole value command = no_part holds whole value command

pub first_told : (holds : Part → Type 0) (test : Part → Bool) → ((part : Part) → Decides (test part) (holds part))
    → IsFirstPart holds (find test all_parts)
first_told holds test decides =
    first_of holds (test Whole) (test Value) (test Command) (decides Whole) (decides Value) (decides Command)
