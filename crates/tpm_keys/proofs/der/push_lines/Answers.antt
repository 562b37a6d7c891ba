use Rattle.std.proofs.Common.{List, ℕ, [], ◌∷◌, ◌++◌, ap, refl, sym, ◌∙◌, append_assoc, rules}
use Rattle.std.proofs.lemmas.Slice.{pushed}
use Rattle.std.specs.Slice.Iter.{chunks_rest}
use Rattle.tpm_keys.specs.KeyInfo.{in_lines}
use Rattle.tpm_keys.proofs.PemLaws.{first_line}
use Rattle.tpm_keys.proofs.der.push_lines.Goals as goal

pub loop-line-preserved : goal.loop-line-preserved
loop-line-preserved c =
    let before = c.loop-line.pem.items in
    let line = c.in-Some.line.now in
    let left = chunks_rest c.loop-line.line-iterator in
    let rest = chunks_rest c.next.new.self in
    let steps = c.in-Some.ensures.steps in
    let size = c.loop-line.invariant.2 in
    let added = pushed (10 ∷ []) (pushed line refl c.in_ok-extend_from_slice.was c.extend_from_slice.ensures.items) c.in_ok-push.was c.push.ensures.items in
    let lines = first_line left line rest steps.1.0 (rw size at steps.1.1) steps.1.2 in (
      search rules,
      tt,
      steps.0 ∙ size,
      ap (λ (xs : List ℕ). xs ++ in_lines rest) added
          ∙ append_assoc (before ++ line) (10 ∷ []) (in_lines rest)
          ∙ append_assoc before line ((10 ∷ []) ++ in_lines rest)
          ∙ ap (λ (xs : List ℕ). before ++ xs) (sym lines)
          ∙ c.loop-line.invariant.3,
    )
