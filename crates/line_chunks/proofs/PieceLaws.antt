-- A piece while it is filled, and pieces one after another.
use Rattle.std.proofs.Common.{◌≡◌, ℕ, ◌<◌, ◌≤◌, ◌⊎◌, List, [], ◌∷◌, ◌++◌, length, take, flat_map, refl, sym, ap, subst, ◌∙◌, append_assoc, arith, inl, inr}
use Rattle.std.specs.Prelude.{if◌then◌else◌, ◌==◌}
use Rattle.std.proofs.Math.Dec.{eqb-suc-zero}
use Rattle.std.proofs.Math.Seq.{take-append_seam}
use Rattle.std.proofs.lemmas.List.{append-nil, length-append}
use Rattle.agent_inputs.specs.declared.fault.RunFault.{RunFault}
use Rattle.agent_inputs.specs.declared.fault.RunFault.TheVariants.{Memory}
use Rattle.cells.specs.ItemLines.{EndsWithFault}
use Rattle.line_chunks.specs.declared.piece.PieceEnd.{PieceEnd}
use Rattle.line_chunks.specs.declared.piece.PieceEnd.TheVariants.{Last, Longer, More}
use Rattle.line_chunks.specs.declared.piece.Piece.{Piece}
use Rattle.line_chunks.specs.declared.piece.LineOffset.{LineOffset}
use Rattle.line_chunks.specs.Pieces.{AreInTurn, EndsSo, IsGiven, IsLineOf, IsNextLine, IsPiece, IsWithin, Series}

-- The text has lines from the start to where the next begin, and they fit into the room.
pub record HasGathered (lines : Series) (size capacity : ℕ) (start next : LineOffset) (text : List ℕ) : Type 0 where
  pub within : IsWithin next size
  pub fits : length text ≤ capacity
  pub are : (before : List ℕ) → lines.AreBefore start before → lines.AreBefore next (before ++ text)

module _ (lines : Series) (size capacity : ℕ) (start : LineOffset) where
  pub gathered_none : IsWithin start size → HasGathered lines size capacity start start []
  gathered_none within =
      record { within = within; fits = omega arith; are = λ before is. subst (lines.AreBefore start) (sym (append-nil before)) is }

  pub gathered_more : (next after : LineOffset) (text more line : List ℕ) → HasGathered lines size capacity start next text → IsWithin after size
      → more ≡ text ++ line → IsNextLine lines next after line → length more ≤ capacity
      → HasGathered lines size capacity start after more
  gathered_more next after text more line gathered within parts is fits = record {
    within = within;
    fits = fits;
    are = λ before starts. subst (lines.AreBefore after)
        (append_assoc before text line ∙ ap (λ (t : List ℕ). before ++ t) (sym parts))
        (is (before ++ text) (gathered.are before starts)).1;
  }

  piece_of : (before text : List ℕ) (next : LineOffset) (end : PieceEnd) (piece : Piece) → piece.text.items ≡ text → piece.next ≡ next
      → piece.end ≡ end → lines.AreBefore next (before ++ text) → EndsSo lines capacity before text end
      → IsPiece lines capacity before piece
  piece_of before text next end piece same_text same_next same_end are ends =
      record { next = rw (same_text, same_next) are; ends = rw (same_text, same_end) ends }

  -- There are no more lines.
  pub last_piece : (next : LineOffset) (text : List ℕ) (piece : Piece) → HasGathered lines size capacity start next text
      → ((before : List ℕ) → lines.AreBefore next before → lines.AreAll before) → piece.text.items ≡ text → piece.next ≡ next → piece.end ≡ Last
      → (before : List ℕ) → lines.AreBefore start before → IsPiece lines capacity before piece
  last_piece next text piece gathered all same_text same_next same_end before starts =
      let are = gathered.are before starts in
      piece_of before text next Last piece same_text same_next same_end are (all (before ++ text) are)

  -- The next line has no room.
  cut_ends : (next after : LineOffset) (text line : List ℕ) (end : PieceEnd) → HasGathered lines size capacity start next text
      → IsNextLine lines next after line → capacity < length (text ++ line)
      → end ≡ (if length text == 0 then Longer (length (text ++ line)) else More)
      → (before : List ℕ) → lines.AreBefore start before → EndsSo lines capacity before text end
  cut_ends next after [] line end gathered is long end_is before starts =
      let has = (is (before ++ []) (gathered.are before starts)).0 in
      rw end_is (refl, (line, subst (λ (t : List ℕ). lines.HasLine t line) (append-nil before) has, refl, long))
  cut_ends next after (byte ∷ text) line end gathered is long end_is before starts =
      let has = (is (before ++ (byte ∷ text)) (gathered.are before starts)).0 in
      rw (end_is, eqb-suc-zero (length text)) (omega arith, inl (line, has, omega (arith, long, length-append (byte ∷ text) line)))

  pub cut_piece : (next after : LineOffset) (text more line : List ℕ) (kept : ℕ) (piece : Piece)
      → HasGathered lines size capacity start next text → kept ≡ length text → more ≡ text ++ line
      → IsNextLine lines next after line → capacity < length more → piece.text.items ≡ take kept more → piece.next ≡ next
      → piece.end ≡ (if kept == 0 then Longer (length more) else More)
      → (before : List ℕ) → lines.AreBefore start before → IsPiece lines capacity before piece
  cut_piece next after text more line kept piece gathered kept_is parts is long same_text same_next end_is before starts =
      let text_is : piece.text.items ≡ text =
      same_text ∙ ap (λ (n : ℕ). take n more) kept_is ∙ ap (take (length text)) parts ∙ take-append_seam text line in
      let ends = cut_ends next after text line piece.end gathered is (rw parts at long) (rw (parts, kept_is) at end_is) before starts in
      piece_of before text next piece.end piece text_is same_next refl (gathered.are before starts) ends

  -- A fault comes next.
  pub stopped_piece : (next : LineOffset) (text : List ℕ) (fault : RunFault) (piece : Piece) → HasGathered lines size capacity start next text
      → (fault ≡ Memory → ⊥) → 0 < length text
      → (fault ≡ Memory) ⊎ ((before : List ℕ) → lines.AreBefore next before → lines.FailsAfter before fault)
      → piece.text.items ≡ text → piece.next ≡ next → piece.end ≡ More
      → (before : List ℕ) → lines.AreBefore start before → IsPiece lines capacity before piece
  stopped_piece next text fault piece gathered other some (inl memory) same_text same_next same_end before starts = absurd (other memory)
  stopped_piece next text fault piece gathered other some (inr fails) same_text same_next same_end before starts =
      let are = gathered.are before starts in
      piece_of before text next More piece same_text same_next same_end are (some, inr (fault, fails (before ++ text) are))

  pub fails_first : (next : LineOffset) (text : List ℕ) (fault reason : RunFault) → HasGathered lines size capacity start next text
      → reason ≡ fault → (text ≡ []) ⊎ (fault ≡ Memory)
      → (fault ≡ Memory) ⊎ ((before : List ℕ) → lines.AreBefore next before → lines.FailsAfter before fault)
      → (reason ≡ Memory) ⊎ ((before : List ℕ) → lines.AreBefore start before → lines.FailsAfter before reason)
  fails_first next text fault reason gathered same (inr memory) fails = inl (same ∙ memory)
  fails_first next text fault reason gathered same (inl none) (inl memory) = inl (same ∙ memory)
  fails_first next text fault reason gathered same (inl none) (inr fails) = inr (λ before starts.
      let whole : before ++ text ≡ before = ap (λ (t : List ℕ). before ++ t) none ∙ append-nil before in
      rw same (subst (λ (t : List ℕ). lines.FailsAfter t fault) whole (fails (before ++ text) (gathered.are before starts))))

-- Pieces one after another, each from where the one before it ended, have the lines up to where the last one ended.
pub in_turn : (lines : Series) (position end : LineOffset) (before : List ℕ) (pieces : List Piece) → AreInTurn lines position pieces end
    → lines.AreBefore position before → lines.AreBefore end (before ++ flat_map (λ piece. piece.text.items) pieces)
in_turn lines position end before [] ends are = rw ends (subst (lines.AreBefore position) (sym (append-nil before)) are)
in_turn lines position end before (piece ∷ pieces) turn are =
    subst (lines.AreBefore end) (append_assoc before piece.text.items (flat_map (λ (p : Piece). p.text.items) pieces))
    (in_turn lines piece.next end (before ++ piece.text.items) pieces turn.1 (turn.0.1 before are).next)

-- Up to where a fault comes next, with its line after them, they have what comes before it, and then the line.
pub to_a_fault : (lines : Series) (first end : LineOffset) (pieces : List Piece) (fault : RunFault) (line : List ℕ) (status : ℕ)
    → lines.AreBefore first [] → AreInTurn lines first pieces end
    → ((before : List ℕ) → lines.AreBefore end before → lines.FailsAfter before fault)
    → EndsWithFault lines.FailsAfter (IsLineOf fault line status) (flat_map (λ piece. piece.text.items) pieces ++ line) status
to_a_fault lines first end pieces fault line status none turn fails =
    let text = flat_map (λ (p : Piece). p.text.items) pieces in
    (text, fault, line, fails text (in_turn lines first end [] pieces turn none), (refl, refl, refl), refl)

-- Up to the last of them they have all lines.
pub to_the_last : (lines : Series) (first position : LineOffset) (pieces : List Piece) (piece : Piece) → lines.AreBefore first []
    → AreInTurn lines first pieces position → IsGiven lines position piece → piece.end ≡ Last
    → lines.AreAll (flat_map (λ piece. piece.text.items) pieces ++ piece.text.items)
to_the_last lines first position pieces piece none turn given last =
    rw last at (given.1 (flat_map (λ (p : Piece). p.text.items) pieces) (in_turn lines first position [] pieces turn none)).ends
