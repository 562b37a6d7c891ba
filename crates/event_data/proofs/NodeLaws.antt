-- The nodes of device paths: what is read is what was spelled, and what is spelled is read.
use Rattle.std.proofs.Common.{◌≡◌, ℕ, zero, suc, ◌+◌, ◌≤◌, Result, ◌-◌, ◌<◌, false, ltb, List, [], ◌∷◌, ◌++◌, length, Ok, Err, refl, sym, ap, ◌∙◌, arith}
use Rattle.std.proofs.lemmas.Bool.{ltb-false, le-ltb}
use Rattle.std.proofs.lemmas.List.{length-append}
use Rattle.byte_fields.specs.Items.{BeginsWithNoItem}
use Rattle.byte_fields.proofs.Steps.{IsBytes, ok_not_err}
use Rattle.byte_fields.proofs.FormatLaws.{Exact, takes, again, passes, number16_exact, byte_exact, part_exact, followed_exact, unless_exact, mapped_exact, IsBytes-behind}
use Rattle.event_data.specs.declared.content.Mismatch.{Mismatch}
use Rattle.event_data.specs.declared.content.Mismatch.TheVariants.{Form}
use Rattle.event_data.specs.Names.{IsNode, NodeData, and_more, node, nodes_in, nodes_within}
use Rattle.event_data.proofs.FormLaws.{AnyFault}

whole_size : (size : ℕ) (rest : ℕ) → ltb size 4 ≡ false → rest ≡ size - 4 → rest + 4 ≡ size
whole_size size rest e s = omega (arith, ltb-false size 4 e, s)

node_exact : Exact AnyFault node
unfolding node
node_exact =
    let byte = byte_exact {P = AnyFault} Form tt in
    mapped_exact (λ x is. ap (λ (n : ℕ). (x.0, (x.1.0, (n, x.1.1.1))))
    (whole_size x.1.1.0 (length x.1.1.1) (passes _ Form x.1.1.0 x.1.1.0 is.1.1.0.1) is.1.1.1))
    (followed_exact byte (λ kind. followed_exact byte (λ subtype.
    followed_exact (unless_exact _ Form tt (number16_exact {P = AnyFault} Form tt)) (λ size. part_exact Form (size - 4) tt))))

-- What a node took: the bytes of the node, and the rest.
pub record NodeTaken (bytes : List ℕ) (x : NodeData) (rest : List ℕ) : Type 0 where
  pub prefix : List ℕ
  pub parts : bytes ≡ prefix ++ rest
  pub is : IsNode prefix x
  pub shorter : length rest < length bytes
  pub rest_fits : IsBytes rest

pub node_takes : (bytes : List ℕ) (x : NodeData) (rest : List ℕ) → IsBytes bytes → node.at bytes ≡ Ok (x, rest) → NodeTaken bytes x rest
unfolding node
node_takes bytes x rest fits e =
    let taken = takes node_exact bytes (x, rest) fits e in
    let is = taken.is.0 in
    let prefix = node.spell x in
    let size : length bytes ≡ length prefix + length rest = ap length taken.parts ∙ length-append prefix rest in
    record {
      prefix = prefix;
      parts = taken.parts;
      is = record { kind_fits = is.0; subtype_fits = is.1.0; size_fits = is.1.1.0.0; spelled = refl };
      shorter = omega (arith, size);
      rest_fits = IsBytes-behind bytes prefix rest taken.parts fits;
    }

node_is : (prefix : List ℕ) (x : NodeData) → IsNode prefix x → node.Is x
unfolding node
node_is prefix x is =
    let small : ltb (length x.payload + 4) 4 ≡ false = le-ltb _ _ (omega arith) in
    let less : length x.payload ≡ length x.payload + 4 - 4 = omega arith in
    ((is.kind_fits, (is.subtype_fits, ((is.size_fits, rw small refl), less))), refl)

pub node_missing : (bytes : List ℕ) (fault : Mismatch) → node.at bytes ≡ Err fault → BeginsWithNoItem IsNode bytes
unfolding node
node_missing bytes fault e x prefix rest parts is =
    ok_not_err (x, rest) fault (sym (again node_exact x rest (node_is prefix x is)) ∙ ap node.at (sym (parts ∙ ap (λ (f : List ℕ). f ++ rest) is.spelled)) ∙ e)

-- ---- the nodes at the start

same_more : (reading : Result (NodeData × List ℕ) Mismatch) (f g : List ℕ → List NodeData × List ℕ) (bytes : List ℕ)
    → ((x : NodeData) (rest : List ℕ) → reading ≡ Ok (x, rest) → f rest ≡ g rest) → and_more reading f bytes ≡ and_more reading g bytes
same_more (Ok x) f g bytes same = ap (λ (m : List NodeData × List ℕ). (x.0 ∷ m.0, m.1)) (same x.0 x.1 refl)
same_more (Err fault) f g bytes same = refl

no_node : (fault : Mismatch) → node.at [] ≡ Err Form
unfolding node
no_node fault = refl

nodes_none : (steps : ℕ) → nodes_within steps [] ≡ ([], [])
unfolding nodes_within
nodes_none zero = refl
nodes_none (suc steps) = rw (no_node Form) refl

-- As many steps as bytes are enough: more change nothing.
nodes_enough : (steps more : ℕ) (bytes : List ℕ) → IsBytes bytes → length bytes ≤ steps → length bytes ≤ more
    → nodes_within steps bytes ≡ nodes_within more bytes
unfolding nodes_within
nodes_enough steps more [] fits s m = nodes_none steps ∙ sym (nodes_none more)
nodes_enough zero more (b ∷ bytes) fits s m = absurd (omega arith)
nodes_enough (suc steps) zero (b ∷ bytes) fits s m = absurd (omega arith)
nodes_enough (suc steps) (suc more) (b ∷ bytes) fits s m =
    same_more (node.at (b ∷ bytes)) (λ rest. nodes_within steps rest) (λ rest. nodes_within more rest) (b ∷ bytes)
    (λ x rest e.
    let taken = node_takes (b ∷ bytes) x rest fits e in
    nodes_enough steps more rest taken.rest_fits (omega (arith, taken.shorter)) (omega (arith, taken.shorter)))

pub nodes_more : (bytes : List ℕ) (x : NodeData) (rest : List ℕ) → IsBytes bytes → node.at bytes ≡ Ok (x, rest)
    → nodes_in bytes ≡ (x ∷ (nodes_in rest).0, (nodes_in rest).1)
unfolding nodes_within
nodes_more [] x rest fits e = let none = no_node Form in absurd cc
nodes_more (b ∷ bytes) x rest fits e =
    let taken = node_takes (b ∷ bytes) x rest fits e in
    rw e (ap (λ (m : List NodeData × List ℕ). (x ∷ m.0, m.1))
    (nodes_enough (length bytes) (length rest) rest taken.rest_fits (omega (arith, taken.shorter)) (omega arith)))

pub nodes_last : (bytes : List ℕ) (fault : Mismatch) → node.at bytes ≡ Err fault → nodes_in bytes ≡ ([], bytes)
unfolding nodes_within
nodes_last [] fault e = refl
nodes_last (b ∷ bytes) fault e = rw e refl
