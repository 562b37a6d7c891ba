use Rattle.std.proofs.Common.{◌≡◌, ◌++◌, take}
use Rattle.std.specs.Prelude.{codes, flat_map}
use Rattle.std.specs.String.{string_bytes}
use Rattle.event_data.specs.Names.{node_of}
use Rattle.event_texts.specs.NodeFields.{field_text}
use Rattle.event_texts.proofs.node_row.push_fields.Given as goal

abbrev pub invariant-loop-field : goal.invariant-loop-field
invariant-loop-field l =
    string_bytes l.text ≡ string_bytes l.initial.text ++ flat_map (λ field. codes "," ++ field_text field (node_of l.node)) (take l.field-index l.others)
