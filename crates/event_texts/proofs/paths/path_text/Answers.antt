use Rattle.std.proofs.Common.{rules, List, [], ℕ, ap, sym, ◌∙◌}
use Rattle.std.specs.String.{string_bytes}
use Rattle.event_data.specs.Names.{NodeData, left_of, node_of, nodes_in}
use Rattle.event_texts.specs.PathTexts.{nodes_text}
use Rattle.event_texts.proofs.PathLaws.{told_more}
use Rattle.event_texts.proofs.paths.path_text.Goals as goal

pub loop-node-preserved : goal.loop-node-preserved
loop-node-preserved c =
    let left = nodes_in (left_of c.next_node.new.self) in
    let more = rw c.in-Some.node-is at c.in-Some.ensures.more in
    record {
      told = told_more (string_bytes c.loop-node.text) c.loop-node.lead.now (string_bytes c.push_str.new.self)
          (string_bytes c.push_node.new.text) (nodes_text [] (nodes_in c.args.path.now).0) (node_of c.in-Some.node)
          (nodes_in (left_of c.loop-node.nodes)).0 left.0 (sym c.if-is_end.ensures)
          (ap (λ (nodes : List NodeData × List ℕ). nodes.0) more) c.loop-node.invariant.told c.in_ok-push_str.ensures.bytes
          c.in_ok-push_node.ensures;
      rest = ap (λ (nodes : List NodeData × List ℕ). nodes.1) (sym more) ∙ c.loop-node.invariant.rest;
      lead = search rules;
    }
