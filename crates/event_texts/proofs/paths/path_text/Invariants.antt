use Rattle.std.proofs.Common.{◌≡◌, ◌++◌, [], length}
use Rattle.std.specs.String.{string_bytes}
use denote.Shadow.{shadow}
use denote.Text.{Utf8}
use Rattle.event_data.specs.Names.{left_of, nodes_in}
use Rattle.event_texts.specs.PathTexts.{nodes_text}
use Rattle.event_texts.proofs.paths.path_text.Given as goal

abbrev pub invariant-loop-node : goal.invariant-loop-node
invariant-loop-node l = record {
  told : string_bytes l.text ++ nodes_text l.lead (nodes_in (left_of l.nodes)).0 ≡ nodes_text [] (nodes_in l.path).0;
  rest : (nodes_in (left_of l.nodes)).1 ≡ (nodes_in l.path).1;
  lead : shadow (Utf8 l.lead);
}

abbrev pub decreases-loop-node : goal.decreases-loop-node
decreases-loop-node l = length (left_of l.nodes)
