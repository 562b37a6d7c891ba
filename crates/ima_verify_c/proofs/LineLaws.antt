-- What a call for lines gives.
use Rattle.std.proofs.Common.{◌≡◌, ℕ, true, false, List, length, refl, sym, ◌∙◌, inl, inr, Option, None, Some, Result, Ok, Err}
use Rattle.std.specs.Prelude.{ℤ, ◌⊎◌, IfErr, IfNone, IfOk, IfSome}
use Rattle.agent_inputs.specs.declared.fault.RunFault.{RunFault}
use Rattle.agent_inputs.specs.declared.fault.RunFault.TheVariants.{Memory}
use Rattle.cells.specs.declared.writer.Form.{Form}
use Rattle.line_chunks.specs.declared.piece.Piece.{Piece}
use Rattle.line_chunks.specs.declared.piece.LineOffset.{LineOffset}
use Rattle.line_chunks.specs.Pieces.{is_within}
use Rattle.ima_verify_c.specs.declared.text_info.TextInfo.{TextInfo}
use Rattle.ima_verify_c.specs.Answers.{GivesFound, GivesLines}
use Rattle.ima_verify_c.proofs.GivingLaws.{refused}

module _ (AreBefore : LineOffset → List ℕ → Type 0) (IsPiece : ℕ → List ℕ → Piece → Type 0) (FailsAfter : List ℕ → RunFault → Type 0) (form : Form)
    (size : ℕ) (position after : LineOffset) (answer : ℤ) (info : TextInfo) (old new : List ℕ) where
  -- What was found of the lines, once it is given.
  pub gives_lines : (found : Result (Option Piece) RunFault)
      → IfOk found (λ f. IfSome f (λ piece. (before : List ℕ) → AreBefore position before → IsPiece (length old) before piece))
      → IfOk found (λ f. IfSome f (λ piece. is_within position size ≡ true))
      → IfErr found (λ fault. is_within position size ≡ true)
      → IfOk found (λ f. IfNone f ((is_within position size ≡ false) × ((before : List ℕ) → AreBefore position before → ⊥)))
      → IfErr found (λ fault. (fault ≡ Memory) ⊎ ((before : List ℕ) → AreBefore position before → FailsAfter before fault))
      → GivesFound form found position after answer info old new
      → GivesLines AreBefore IsPiece FailsAfter form size position after answer info old new
  gives_lines (Ok (Some piece)) is within reached none fails given = record {
    misused = λ outside. let no : false ≡ true = sym outside ∙ within in absurd cc;
    gives = λ before are. inl (piece, is before are, given);
  }
  gives_lines (Ok None) is within reached none fails given =
      record { misused = λ outside. given; gives = λ before are. absurd (none.1 before are) }
  gives_lines (Err fault) is within reached none fails given = record {
    misused = λ outside. let no : false ≡ true = sym outside ∙ reached in absurd cc;
    gives = λ before are. inr (
      given.0,
      refused (λ fault. FailsAfter before fault ⊎ (fault ≡ Memory)) form fault answer info old new
          (elim fails [ inl memory ↦ inr memory | inr after ↦ inl (after before are) ]) (inr refl) given.1,
    );
  }
