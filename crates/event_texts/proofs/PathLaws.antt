-- The texts of nodes, one after another.
use Rattle.std.proofs.Common.{◌≡◌, ℕ, Bool, false, List, ◌∷◌, ◌++◌, sym, ap, ◌∙◌, append_assoc}
use Rattle.std.specs.Prelude.{codes, cond}
use Rattle.event_data.specs.Names.{NodeData}
use Rattle.event_texts.specs.PathTexts.{is_end, node_text, nodes_text}

nodes_text_of : (lead : List ℕ) (node : NodeData) (others : List NodeData) → is_end node ≡ false
    → nodes_text lead (node ∷ others) ≡ lead ++ node_text node ++ nodes_text (codes "/") others
nodes_text_of lead node others no_end =
    ap (λ (b : Bool). cond b (nodes_text (codes ",") others) (lead ++ node_text node ++ nodes_text (codes "/") others)) no_end

regrouped : (before lead node after : List ℕ) → ((before ++ lead) ++ node) ++ after ≡ before ++ ((lead ++ node) ++ after)
regrouped before lead node after = simp append_assoc

-- A node that is no end was told: what is left to tell is that of the others.
pub told_more : (before lead led told whole : List ℕ) (node : NodeData) (nodes others : List NodeData) → is_end node ≡ false
    → nodes ≡ node ∷ others → before ++ nodes_text lead nodes ≡ whole → led ≡ before ++ lead → told ≡ led ++ node_text node
    → told ++ nodes_text (codes "/") others ≡ whole
told_more before lead led told whole node nodes others no_end parts so_far lead_told node_told =
    ap (λ (t : List ℕ). t ++ nodes_text (codes "/") others) (node_told ∙ ap (λ (t : List ℕ). t ++ node_text node) lead_told)
    ∙ regrouped before lead (node_text node) (nodes_text (codes "/") others)
    ∙ ap (λ (t : List ℕ). before ++ t) (sym (nodes_text_of lead node others no_end))
    ∙ ap (λ (n : List NodeData). before ++ nodes_text lead n) (sym parts)
    ∙ so_far
