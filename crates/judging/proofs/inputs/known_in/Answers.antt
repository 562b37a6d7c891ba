use Rattle.std.proofs.Common.{refl, arith, ◌∙◌}
use Rattle.std.proofs.lemmas.Result.{err_from_is_err_and}
use Rattle.std.proofs.lemmas.List.{length-map}
use Rattle.judging.specs.Requests.{location_of}
use Rattle.judging.proofs.KnownLaws.{all_listed, listed_more, listed_none, not_listed, some_input}
use Rattle.judging.proofs.inputs.known_in.Goals as goal

pub loop-index-init : goal.loop-index-init
loop-index-init g c = record { inputs = refl; replaced = refl; listed = listed_none _ _ c.new-listed.result c.new-listed.ensures }

pub loop-index-preserved : goal.loop-index-preserved
loop-index-preserved g c = record {
  inputs = c.in_ok-add_text.ensures.inputs ∙ c.loop-index.invariant.inputs;
  replaced = c.in_ok-add_text.ensures.replaced ∙ c.loop-index.invariant.replaced;
  listed = listed_more _ c.args.inputs.now c.loop-index.index _ (omega (arith, c.loop-index-test.true)) c.loop-index.listed c.add_text.new.listed
      c.loop-index.invariant.listed (rw c.loop-index.invariant.inputs at c.in_ok-add_text.ensures.added);
}

pub returns-clause-found : goal.returns-clause-found
returns-clause-found g c =
    all_listed _ _ c.loop-index.index c.loop-index.listed c.of.result (some_input c.args.inputs.now c.if-is_empty.ensures) (omega (arith, length-map c.args.inputs.now location_of, c.loop-index-test.false))
    c.loop-index.invariant.listed c.of.ensures

pub returns-in_err-add_text-clause-fault : goal.returns-in_err-add_text-clause-fault
returns-in_err-add_text-clause-fault g c =
    let p = err_from_is_err_and c.from_residual.result c.from_residual.ensures.1 in
    let why = rw c.loop-index.invariant.inputs at c.in_err-add_text.ensures.fault in
    rw (p.1, p.2)
    (not_listed _ c.args.inputs.now c.loop-index.index _ (omega (arith, c.loop-index-test.true)) c.loop-index.listed _ c.loop-index.invariant.listed why)
