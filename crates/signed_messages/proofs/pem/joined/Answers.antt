use Rattle.std.proofs.Common.{◌≡◌, List, ℕ, [], ◌++◌, take, length, ap, sym, ◌∙◌, append_assoc, append-nil, rules}
use Rattle.std.specs.Prelude.{◌-◌}
use Rattle.std.proofs.lemmas.List.{nil_from_length}
use Rattle.std.specs.Slice.Iter.{chunks_rest}
use Rattle.signed_messages.proofs.LineLaws.{first_chunk, is_empty}
use Rattle.signed_messages.proofs.pem.joined.Goals as goal

pub loop-line-init : goal.loop-line-init
loop-line-init c =
    let rest : chunks_rest c.into_iter-line-iterator.result ≡ c.args.lines.now = search rules in (
      search rules,
      search rules,
      search rules,
      λ text e. (text, rest ∙ e, ap (λ (xs : List ℕ). xs ++ text) c.new-text.ensures.items),
    )

pub loop-line-preserved : goal.loop-line-preserved
loop-line-preserved c =
    let before = c.loop-line.text.items in
    let line = c.in-Some.line.now in
    let part = take (length line - 1) line in
    let left = chunks_rest c.loop-line.line-iterator in
    let behind = chunks_rest c.next.new.self in
    let steps = c.in-Some.ensures.steps in
    let size = c.loop-line.invariant.2 in (
      search rules,
      tt,
      steps.0 ∙ size,
      λ text e.
          let was = c.loop-line.invariant.3 text e in
          let next = first_chunk was.0 left line behind was.1 steps.1.0 (rw size at steps.1.1) steps.1.2 in (
            next.0,
            next.1,
            ap (λ (xs : List ℕ). xs ++ next.0) c.in_ok-extend_from_slice.ensures.items
                ∙ append_assoc before part next.0
                ∙ ap (λ (xs : List ℕ). before ++ xs) (sym next.2)
                ∙ was.2,
          ),
    )

pub returns : goal.returns
returns c =
    λ text e.
    let was = c.loop-line.invariant.3 text e in
    let none : chunks_rest c.loop-line.line-iterator ≡ [] = nil_from_length (chunks_rest c.loop-line.line-iterator) c.in-None.ensures.steps.1.0 in
    let empty = is_empty was.0 (sym none ∙ was.1) in
    sym (append-nil c.loop-line.text.items) ∙ ap (λ (xs : List ℕ). c.loop-line.text.items ++ xs) (sym empty) ∙ was.2
