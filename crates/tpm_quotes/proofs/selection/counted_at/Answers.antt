use Rattle.std.proofs.Common.{◌≡◌, [], ◌∷◌, ◌++◌, arith, map, refl}
use Rattle.std.proofs.lemmas.Result.{err_from_is_err_and}
use Rattle.std.proofs.lemmas.List.{length-append, map_push}
use Rattle.tpm_quotes.specs.Spelling.{selection_of}
use Rattle.tpm_quotes.specs.parts.Reading.{selection_at}
use Rattle.byte_fields.proofs.SequenceLaws.{items_at_first, items_on, items_fault, items_to_end}
use Rattle.tpm_quotes.proofs.selection.counted_at.Goals as goal

pub returns-in_err-selection : goal.returns-in_err-selection
returns-in_err-selection c =
    let p = err_from_is_err_and c.from_residual.result c.from_residual.ensures.1 in
    let fault = rw c.deref.ensures.0 at c.in_err-selection.ensures in
    rw (p.1, p.2) (items_fault selection_at c.args.count c.loop.counter c.args.bytes.now (map selection_of c.loop.selections.items)
    c.loop.rest.now c.in_err-selection.field-0.0 c.loop-test.true fault c.loop.invariant.0)

pub loop-init : goal.loop-init
loop-init c = rw c.new-selections.ensures (items_at_first selection_at c.args.count c.args.bytes.now, refl)

pub loop-preserved : goal.loop-preserved
loop-preserved c =
    let read = rw c.deref.ensures.0 at c.in_ok-selection.ensures in
    let one = c.in_ok-selection.selection in
    let e : map selection_of c.push.new.self.items ≡ map selection_of c.loop.selections.items ++ selection_of one ∷ [] =
    rw c.push.ensures.items (map_push _ c.loop.selections.items one) in (
      rw e (items_on selection_at c.args.count c.loop.counter c.args.bytes.now (map selection_of c.loop.selections.items) c.loop.rest.now
          (selection_of one) c.in_ok-selection.after.now c.loop-test.true read c.loop.invariant.0),
      rw c.push.ensures.items (omega (arith, length-append c.loop.selections.items (one ∷ []), c.loop.invariant.1)),
    )

pub returns : goal.returns
returns c = items_to_end selection_at c.args.count c.loop.counter c.args.bytes.now (map selection_of c.loop.selections.items)
    c.loop.rest.now c.loop-test.false c.loop.invariant.0
