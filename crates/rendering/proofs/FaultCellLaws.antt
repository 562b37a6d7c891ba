-- The cell of a fault.
use Rattle.std.proofs.Common.{◌≡◌, ℕ, Bool, true, false, List, [], Option, Some, None, codes, refl}
use Rattle.std.specs.Prelude.{IfSome}
use Rattle.agent_inputs.specs.declared.fault.FaultKind.{FaultKind}
use Rattle.agent_inputs.specs.declared.fault.RunFault.{RunFault}
use Rattle.agent_inputs.specs.Faults.{fault_head}
use Rattle.cells.specs.Cells.{beside, if_some, number_member, object_at, rendered, when}
use Rattle.cells.specs.Values.{IsCount, IsOneLine, object_of}
use Rattle.cells.specs.declared.writer.Form.TheVariants.{Text}
use Rattle.cells.proofs.LineLaws.{ArePlain, members_joined, one_line}
use Rattle.rendering.specs.FaultTexts.{fault_cell, fault_line, names_entry, names_event, place_cell}

number_plain : (key : List ℕ) (number : Option ℕ) → IfSome number IsCount → ArePlain (if_some number (number_member key)).json 1
number_plain key None fits = tt
number_plain key (Some number) fits = ((number, fits, refl), tt)

plain_when : (is : Bool) (key : List ℕ) (number : Option ℕ) → IfSome number IsCount
    → ArePlain (when is (if_some number (number_member key))).json 1
plain_when true key number fits = number_plain key number fits
plain_when false key number fits = tt

place_plain : (kind : FaultKind) (place : Option ℕ) → IfSome place IsCount → ArePlain (place_cell kind place).json 1
unfolding beside
place_plain kind place fits =
    members_joined 1 (when (names_event kind) (if_some place (number_member (codes "event")))).json _
    (plain_when (names_event kind) (codes "event") place fits) (plain_when (names_entry kind) (codes "entry") place fits)

pub fault_is_one : (fault : RunFault) → IfSome (fault_head fault).number IsCount → IfSome (fault_head fault).place IsCount
    → IsOneLine (object_of (fault_cell fault).json)
unfolding beside object_at
fault_is_one fault fits placed =
    let head = fault_head fault in
    one_line _ (
      (
        tt,
        members_joined 1 (if_some head.number (number_member (codes "number"))).json _ (number_plain (codes "number") head.number fits)
            (members_joined 1 (place_cell head.kind head.place).json _ (place_plain head.kind head.place placed) (tt, tt)),
      ),
      tt,
    )

-- Numbers that are members alone have no text.
no_number : (key : List ℕ) (number : Option ℕ) → (if_some number (number_member key)).text ≡ []
no_number key None = refl
no_number key (Some number) = refl

none_when : (is : Bool) (key : List ℕ) (number : Option ℕ) → (when is (if_some number (number_member key))).text ≡ []
none_when true key number = no_number key number
none_when false key number = refl

pub text_is_line : (fault : RunFault) → rendered Text (fault_cell fault) ≡ fault_line fault
unfolding beside object_at
text_is_line fault =
    let head = fault_head fault in
    rw (
      no_number (codes "number") head.number,
      none_when (names_event head.kind) (codes "event") head.place,
      none_when (names_entry head.kind) (codes "entry") head.place,
    )
    refl
