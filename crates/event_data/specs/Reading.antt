-- Reading an event's data from left to right.
use Rattle.std.specs.Prelude.{ℕ, zero, suc, ◌+◌, ◌-◌, ◌*◌, ◌/◌, nat_lt, List, [], ◌∷◌, length, Option, Result, Ok, Err}
use Rattle.std.specs.Result.{result_ok}
use Rattle.std.specs.Int.{w16, w32, w64}
use Rattle.byte_fields.specs.Formats.{Format, number, part, byte, ◌followed_by◌, unless, mapped, whole}
use Rattle.event_data.specs.declared.content.Mismatch.{Mismatch}
use Rattle.event_data.specs.declared.content.Mismatch.TheVariants.{Form}
use Rattle.event_data.specs.Forms.{VariableData, ImageData, NodeData}

unfoldable pub variable : Format VariableData Mismatch
variable =
    mapped (λ x. record { guid = x.0; name = x.1.1.1.0; value = x.1.1.1.1 })
    (λ v. (v.guid, (length v.name / 2, (length v.value, (v.name, v.value)))))
    (part Form 16
    followed_by λ guid. number Form w64
    followed_by λ units. number Form w64
    followed_by λ size. part Form (2 * units)
    followed_by λ name. part Form size)

abbrev pub variable_in : List ℕ → Option VariableData
variable_in bytes = result_ok (whole Form variable bytes)

-- The variable at the start of the bytes, and what follows it.
abbrev pub variable_then : List ℕ → Option (VariableData × List ℕ)
variable_then bytes = result_ok (variable.at bytes)

unfoldable pub image : Format ImageData Mismatch
image =
    mapped (λ x. record { location = x.0; size = x.1.0; link_address = x.1.1.0; path = x.1.1.1.1 })
    (λ i. (i.location, (i.size, (i.link_address, (length i.path, i.path)))))
    (number Form w64
    followed_by λ location. number Form w64
    followed_by λ size. number Form w64
    followed_by λ link_address. number Form w64
    followed_by λ count. part Form count)

abbrev pub image_in : List ℕ → Option ImageData
image_in bytes = result_ok (whole Form image bytes)

-- The image at the start of the bytes, and what follows it.
abbrev pub image_then : List ℕ → Option (ImageData × List ℕ)
image_then bytes = result_ok (image.at bytes)

abbrev pub separator_in : List ℕ → Option ℕ
separator_in bytes = result_ok (whole Form (number Form w32) bytes)

unfoldable pub node : Format NodeData Mismatch
node =
    mapped (λ x. record { kind = x.0; subtype = x.1.0; payload = x.1.1.1 })
    (λ n. (n.kind, (n.subtype, (length n.payload + 4, n.payload))))
    (byte Form
    followed_by λ kind. byte Form
    followed_by λ subtype. unless (λ size. nat_lt size 4) Form (number Form w16)
    followed_by λ size. part Form (size - 4))

-- ---- the nodes at the start of bytes, and what remains

abbrev pub and_more : Result (NodeData × List ℕ) Mismatch → (List ℕ → List NodeData × List ℕ) → List ℕ → List NodeData × List ℕ
and_more (Ok first) more bytes = (first.0 ∷ (more first.1).0, (more first.1).1)
and_more (Err fault) more bytes = ([], bytes)

-- Each node takes at least four bytes, so as many steps as bytes are enough.
unfoldable pub nodes_within : ℕ → List ℕ → List NodeData × List ℕ
nodes_within zero bytes = ([], bytes)
nodes_within (suc steps) bytes = and_more (node.at bytes) (λ rest. nodes_within steps rest) bytes

abbrev pub nodes_in : List ℕ → List NodeData × List ℕ
nodes_in bytes = nodes_within (length bytes) bytes
