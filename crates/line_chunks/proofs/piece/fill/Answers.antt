use Rattle.std.proofs.Common.{List, ℕ, ◌<◌, ◌≡◌, length, ap, subst, ◌∙◌, arith}
use Rattle.std.proofs.lemmas.Result.{IfErr-weaker, IfOk-weaker}
use Rattle.line_chunks.specs.declared.piece.Piece.{Piece}
use Rattle.line_chunks.proofs.PieceLaws.{fails_first, stopped_piece}
use Rattle.line_chunks.proofs.piece.fill.Goals as goal

pub returns-in-Err-clause-piece : goal.returns-in-Err-clause-piece
returns-in-Err-clause-piece g c =
    let L = g.L.Lines in
    let lines = c.args.lines.now in
    IfOk-weaker c.stop.result _ _
    (λ piece ok. stopped_piece (L.series lines) (L.size lines) c.args.capacity c.args.start
    c.loop-after.next c.loop-after.text.items c.in-Err.fault piece c.loop-after.invariant ok.2
    (subst (λ (t : List ℕ). 0 < length t) c.in-Err.ensures.0 ok.1) c.in-Err.ensures.1
    (ap (λ (p : Piece). p.text.items) ok.0 ∙ c.in-Err.ensures.0) (ap (λ (p : Piece). p.next) ok.0) (ap (λ (p : Piece). p.end) ok.0))
    c.stop.ensures.ok

pub returns-in-Err-clause-fits : goal.returns-in-Err-clause-fits
returns-in-Err-clause-fits g c =
    IfOk-weaker c.stop.result _ _
    (λ piece ok.
    let same : piece.text.items ≡ c.loop-after.text.items = ap (λ (p : Piece). p.text.items) ok.0 ∙ c.in-Err.ensures.0 in
    omega (arith, c.loop-after.invariant.fits, ap length same))
    c.stop.ensures.ok

pub returns-in-Err-clause-fault : goal.returns-in-Err-clause-fault
returns-in-Err-clause-fault g c =
    let L = g.L.Lines in
    let lines = c.args.lines.now in
    IfErr-weaker c.stop.result _ _
    (λ reason err. fails_first (L.series lines) (L.size lines) c.args.capacity c.args.start
    c.loop-after.next c.loop-after.text.items c.in-Err.fault reason c.loop-after.invariant err.0 (rw c.in-Err.ensures.0 at err.1)
    c.in-Err.ensures.1)
    c.stop.ensures.err
