-- What tpm2-tools print: a line says one thing at most, and a text has one reading and one end.
use Rattle.std.proofs.Common.{◌≡◌, ℕ, List, [], slice_index, Option, None, Some, refl, sym, ap, subst, ◌∙◌, inl, inr, arith}
use Rattle.std.specs.Prelude.{◌⊎◌, length, IfErr, Result, Ok, Err}
use Rattle.pcr_values.specs.declared.expected.Expected.{Expected}
use Rattle.pcr_values.specs.declared.expected.ExpectFault.{ExpectFault}
use Rattle.pcr_values.specs.declared.expected.ExpectFault.TheVariants.{Memory, NoRegister, NotSigned}
use Rattle.pcr_values.specs.declared.printed.PrintedPart.{PrintedPart}
use Rattle.pcr_values.specs.declared.printed.PrintedPart.TheVariants.{Printed, Quoted, Signed}
use Rattle.pcr_values.specs.Names.{ArePrinted, Begins, GivesValue, IsPrintedText, IsSkipped, MayEnd, Position, PrintedPosition, Prints, PrintsIn, Says, SaysOnce, Turns, lines_of}
use Rattle.pcr_values.proofs.PcrReadLaws.{says_once}
use Rattle.pcr_values.proofs.StatedLaws.{ends_once}

-- ---- a line of tpm2_pcrread begins with a space

skipped_first : (position : Position) (line : List ℕ) → IsSkipped position line → (line ≡ []) ⊎ (slice_index line 0 ≡ 32)
skipped_first None line empty = inl empty
skipped_first (Some bank) line skipped =
    elim skipped [
      | inl empty ↦ inl empty
      | inr foreign ↦ inr (ap (λ (l : List ℕ). slice_index l 0) foreign.spelled)
    ]

bank_first : (after : Position) (line : List ℕ) → Begins line after → slice_index line 0 ≡ 32
bank_first None line begins = absurd begins
bank_first (Some name) line begins = ap (λ (l : List ℕ). slice_index l 0) begins.spelled

value_first : (position : Position) (line : List ℕ) (e : Expected) → GivesValue position line e → slice_index line 0 ≡ 32
value_first None line e gives = absurd gives
value_first (Some bank) line e gives = ap (λ (l : List ℕ). slice_index l 0) gives.spelled

says_first : (position after : Position) (line : List ℕ) (stated : Option Expected) → Says position line after stated
    → (line ≡ []) ⊎ (slice_index line 0 ≡ 32)
says_first position after line None says =
    elim says [
      | inl skipped ↦ skipped_first position line skipped.0
      | inr begins ↦ inr (bank_first after line begins)
    ]
says_first position after line (Some e) says = inr (value_first position line e says.0)

-- ---- a line that begins another part

turn_first : (part next : PrintedPart) (position : Position) (line : List ℕ) → Turns part position line next
    → (slice_index line 0 ≡ 112) ⊎ (slice_index line 0 ≡ 115)
turn_first Printed Printed None line turns = absurd turns
turn_first Printed Quoted None line turns = inl (ap (λ (l : List ℕ). slice_index l 0) turns)
turn_first Printed Signed None line turns = absurd turns
turn_first Printed next (Some bank) line turns = absurd turns
turn_first Quoted Printed position line turns = absurd turns
turn_first Quoted Quoted position line turns = absurd turns
turn_first Quoted Signed position line turns = inr (ap (λ (l : List ℕ). slice_index l 0) turns.spelled)
turn_first Signed next position line turns = absurd turns

one_turn : (part next other : PrintedPart) (position : Position) (line : List ℕ) → Turns part position line next → Turns part position line other → next ≡ other
one_turn Printed Printed other None line p q = absurd p
one_turn Printed Signed other None line p q = absurd p
one_turn Printed Quoted Printed None line p q = absurd q
one_turn Printed Quoted Quoted None line p q = refl
one_turn Printed Quoted Signed None line p q = absurd q
one_turn Printed next other (Some bank) line p q = absurd p
one_turn Quoted Printed other position line p q = absurd p
one_turn Quoted Quoted other position line p q = absurd p
one_turn Quoted Signed Printed position line p q = absurd q
one_turn Quoted Signed Quoted position line p q = absurd q
one_turn Quoted Signed Signed position line p q = refl
one_turn Signed next other position line p q = absurd p

turn_says_nothing : (part next : PrintedPart) (position after : Position) (line : List ℕ) (stated : Option Expected) → Turns part position line next
    → Says position line after stated → ⊥
turn_says_nothing part next position after line stated turns says =
    elim (says_first position after line stated says) [
      | inl empty ↦ elim (turn_first part next position line turns) [
        | inl p ↦ absurd (omega (arith, ap (λ (l : List ℕ). slice_index l 0) empty, p))
        | inr s ↦ absurd (omega (arith, ap (λ (l : List ℕ). slice_index l 0) empty, s))
      ]
      | inr space ↦ elim (turn_first part next position line turns) [
        | inl p ↦ absurd (omega (arith, space, p))
        | inr s ↦ absurd (omega (arith, space, s))
      ]
    ]

-- ---- a line says one thing

same_position : (position other : PrintedPosition) → position.0 ≡ other.0 → position.1 ≡ other.1 → position ≡ other
same_position position other parts banks =
    ap (λ (part : PrintedPart). let x : PrintedPosition = (part, position.1) in x) parts
    ∙ ap (λ (bank : Position). let x : PrintedPosition = (other.0, bank) in x) banks

-- What a line says before the signature.
abbrev SaysOpen : PrintedPart → Position → List ℕ → PrintedPosition → Option Expected → Type 0
SaysOpen part bank line after stated =
    (Turns part bank line after.0 × (after.1 ≡ None) × (stated ≡ None)) ⊎ ((after.0 ≡ part) × Says bank line after.1 stated)

open_once : (part : PrintedPart) (bank : Position) (next other : PrintedPosition) (line : List ℕ) (first second : Option Expected)
    → SaysOpen part bank line next first → SaysOpen part bank line other second → (next ≡ other) × (first ≡ second)
open_once part bank next other line first second p q =
    elim p [
      | inl turns ↦ elim q [
        | inl also ↦ (
          same_position next other (one_turn part next.0 other.0 bank line turns.0 also.0) (turns.1 ∙ sym also.1),
          turns.2 ∙ sym also.2,
        )
        | inr says ↦ absurd (turn_says_nothing part next.0 bank other.1 line second turns.0 says.1)
      ]
      | inr says ↦ elim q [
        | inl turns ↦ absurd (turn_says_nothing part other.0 bank next.1 line first turns.0 says.1)
        | inr also ↦
            let once = says_once.once bank next.1 other.1 line first second says.1 also.1 in
            (same_position next other (says.0 ∙ sym also.0) once.0, once.1)
      ]
    ]

print_once : (part : PrintedPart) (bank : Position) (next other : PrintedPosition) (line : List ℕ) (first second : Option Expected)
    → PrintsIn part bank line next first → PrintsIn part bank line other second → (next ≡ other) × (first ≡ second)
print_once Printed bank next other line first second p q = open_once Printed bank next other line first second p q
print_once Quoted bank next other line first second p q = open_once Quoted bank next other line first second p q
print_once Signed bank next other line first second p q =
    (same_position next other (p.1 ∙ sym q.1) (p.2 ∙ sym q.2), p.3 ∙ sym q.3)

pub prints_once : SaysOnce Prints
prints_once = record { once = λ position next other line first second p q. print_once position.0 position.1 next other line first second p q }

-- A line before the signature that neither begins another part nor says anything in its bank says nothing.
pub says_nothing : (part : PrintedPart) (bank : Position) (line : List ℕ) → (part ≡ Signed → ⊥)
    → ((next : PrintedPart) → Turns part bank line next → ⊥) → ((next : Position) (stated : Option Expected) → Says bank line next stated → ⊥)
    → (next : PrintedPosition) (stated : Option Expected) → PrintsIn part bank line next stated → ⊥
says_nothing Signed bank line before no-turn no-line next stated prints = before refl
says_nothing Printed bank line before no-turn no-line next stated (inl turns) = no-turn next.0 turns.0
says_nothing Printed bank line before no-turn no-line next stated (inr says) = no-line next.1 stated says.1
says_nothing Quoted bank line before no-turn no-line next stated (inl turns) = no-turn next.0 turns.0
says_nothing Quoted bank line before no-turn no-line next stated (inr says) = no-line next.1 stated says.1

-- ---- a text has one reading

-- Its lines lead to the end of one part.
one_end : (text : List ℕ) (part other : PrintedPart) (first second : List Expected) → ArePrinted text part first → ArePrinted text other second
    → (part ≡ other) × (first ≡ second)
one_end text part other first second p q =
    let once = ends_once Prints prints_once (Printed, None) (part, p.0) (other, q.0) (lines_of text) first second p.1 q.1 in
    (ap (λ (position : PrintedPosition). position.0) once.0, once.1)

pub printed_once : (text : List ℕ) (first second : List Expected) → IsPrintedText text first → IsPrintedText text second → first ≡ second
printed_once text first second p q = (one_end text p.part q.part first second p.printed q.printed).1

-- A text that states registers lacks neither these nor a signature.
pub lacks_nothing : (text : List ℕ) (expected registers : List Expected) (part : PrintedPart) (fault : ExpectFault)
    → IsPrintedText text expected → ArePrinted text part registers
    → ((fault ≡ NotSigned) × (part ≡ Quoted)) ⊎ ((fault ≡ NoRegister) × MayEnd part × (registers ≡ [])) → ⊥
lacks_nothing text expected registers part fault is printed lacks =
    let same = one_end text is.part part expected registers is.printed printed in
    elim lacks [
      | inl signature ↦ subst MayEnd (same.0 ∙ signature.1) is.ends
      | inr register ↦
          let none : expected ≡ [] = same.1 ∙ register.2 in
          absurd (omega (arith, is.some, ap length none))
    ]

-- A fault that no text has is that of memory alone.
pub memory_alone : {A : Type 0} (result : Result A ExpectFault) {P : ExpectFault → Type 0} → IfErr result P
    → ((fault : ExpectFault) → P fault → ⊥) → IfErr result (λ fault. fault ≡ Memory)
memory_alone (Ok value) has none = tt
memory_alone (Err fault) has none = absurd (none fault has)
