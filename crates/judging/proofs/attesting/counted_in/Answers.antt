use Rattle.std.proofs.Common.{Err, Some, ap, inr}
use Rattle.std.proofs.lemmas.Result.{err_from_is_err_and}
use Rattle.pcr_values.specs.declared.expected.ExpectFault.{ExpectFault}
use Rattle.judging.specs.Requests.{held_bytes}
use Rattle.judging.proofs.TextLaws.{not_expected}
use Rattle.judging.proofs.attesting.counted_in.Goals as goal

pub returns-in_err-expected-clause-fault : goal.returns-in_err-expected-clause-fault
returns-in_err-expected-clause-fault g c =
    let p = err_from_is_err_and c.from_residual-in_err-expected.result c.from_residual-in_err-expected.ensures.1 in
    let why = not_expected _ _ _ c.in_err-expected.ensures.fault (λ same. c.in_err-expected.ensures.memory (ap (λ (f : ExpectFault). Err f) same)) p.2 in
    rw (p.1, c.in-Some.is) (inr (held_bytes c.in_ok-text.text, c.in_ok-text.ensures.all, rw c.bytes.ensures at why))

pub returns-clause-counted : goal.returns-clause-counted
returns-clause-counted g c =
    rw c.in-Some.is (record {
      stated = Some c.in_ok-expected.expected.items;
      stated_is = (held_bytes c.in_ok-text.text, c.in_ok-text.ensures.all, rw c.bytes.ensures at c.in_ok-expected.ensures.found);
      values_is = c.keep_confirmed-values.ensures.values;
      counted_is = c.keep_confirmed-values.ensures.kept;
    })
