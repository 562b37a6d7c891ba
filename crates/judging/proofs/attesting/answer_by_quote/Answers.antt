use Rattle.std.proofs.Common.{inl, inr}
use Rattle.std.proofs.lemmas.Result.{err_from_is_err_and}
use Rattle.tpm_quotes.specs.Spelling.{quote_of}
use Rattle.judging.specs.Requests.{held_bytes}
use Rattle.judging.proofs.attesting.answer_by_quote.Goals as goal

pub returns-in_err-state-clause-fault : goal.returns-in_err-state-clause-fault
returns-in_err-state-clause-fault g c =
    let p = err_from_is_err_and c.from_residual-in_err-state.result c.from_residual-in_err-state.ensures.1 in
    let why = rw (c.in_ok-values.ensures.inputs, c.in_ok-log.ensures.inputs, c.comparison_of-comparison.ensures.resume) at c.in_err-state.ensures.fault in
    let counted = rw c.in_ok-log.ensures.inputs at c.in_ok-values.ensures.counted in
    rw (p.1, p.2) (inr (inr (inl ((counted.stated, counted.stated_is), why))))

pub returns-in_err-values-clause-fault : goal.returns-in_err-values-clause-fault
returns-in_err-values-clause-fault g c =
    let p = err_from_is_err_and c.from_residual-in_err-values.result c.from_residual-in_err-values.ensures.1 in
    let why = rw c.in_ok-log.ensures.inputs at c.in_err-values.ensures.fault in
    rw (p.1, p.2) (inr (inl why))

pub returns-in_err-found-clause-fault : goal.returns-in_err-found-clause-fault
returns-in_err-found-clause-fault g c =
    let p = err_from_is_err_and c.from_residual-in_err-found.result c.from_residual-in_err-found.ensures.1 in
    let known = rw (c.in_ok-values.ensures.inputs, c.in_ok-log.ensures.inputs, c.comparison_of-comparison.ensures.resume) at c.in_ok-state.ensures.state in
    let files = rw (c.in_ok-state.ensures.inputs, c.in_ok-values.ensures.inputs, c.in_ok-log.ensures.inputs) at c.in_ok-known_files.ensures.found in
    let why = rw (
      c.in_ok-known_files.ensures.inputs,
      c.in_ok-state.ensures.inputs,
      c.in_ok-values.ensures.inputs,
      c.in_ok-log.ensures.inputs,
      c.comparison_of-comparison.ensures.wanted,
      c.comparison_of-comparison.ensures.list,
      c.checkpoint_of.ensures,
    ) at c.in_err-found.ensures.found in
    rw (p.1, p.2)
    (inr (inr (inr (inr (
      held_bytes c.in_ok-log.log,
      c.in_ok-values.values,
      c.in_ok-values.expected.items,
      c.in_ok-state.state,
      c.in_ok-known_files.known_files,
      c.in_ok-log.ensures.all,
      rw c.in_ok-log.ensures.inputs at c.in_ok-values.ensures.counted,
      known,
      c.in_ok-state.ensures.boot,
      files,
      why,
    )))))

pub returns-in_err-known_files-clause-fault : goal.returns-in_err-known_files-clause-fault
returns-in_err-known_files-clause-fault g c =
    let p = err_from_is_err_and c.from_residual-in_err-known_files.result c.from_residual-in_err-known_files.ensures.1 in
    let counted = rw c.in_ok-log.ensures.inputs at c.in_ok-values.ensures.counted in
    let state = rw (c.in_ok-values.ensures.inputs, c.in_ok-log.ensures.inputs, c.comparison_of-comparison.ensures.resume) at c.in_ok-state.ensures.state in
    let why = rw (c.in_ok-state.ensures.inputs, c.in_ok-values.ensures.inputs, c.in_ok-log.ensures.inputs) at c.in_err-known_files.ensures.fault in
    rw (p.1, p.2)
    (inr (inr (inr (inl ((counted.stated, counted.stated_is), (c.in_ok-state.state, state, c.in_ok-state.ensures.boot), why)))))

pub returns-clause-answer : goal.returns-clause-answer
returns-clause-answer g c =
    λ ranges taken message asked. record {
      ranges = ranges;
      message = message;
      signature = c.args.signature;
      quote = quote_of c.args.quote.now;
      log = held_bytes c.in_ok-log.log;
      values = c.in_ok-values.values;
      counted = c.in_ok-values.expected.items;
      state = c.in_ok-state.state;
      files = c.in_ok-known_files.known_files;
      next = c.in_ok-found.found.next;
      taken = taken;
      asked_for = asked;
      log_is = c.in_ok-log.ensures.all;
      counted_are = rw c.in_ok-log.ensures.inputs at c.in_ok-values.ensures.counted;
      state_is = rw (c.in_ok-values.ensures.inputs, c.in_ok-log.ensures.inputs, c.comparison_of-comparison.ensures.resume) at c.in_ok-state.ensures.state;
      boot_is = c.in_ok-state.ensures.boot;
      files_are = rw (c.in_ok-state.ensures.inputs, c.in_ok-values.ensures.inputs, c.in_ok-log.ensures.inputs) at c.in_ok-known_files.ensures.found;
      judged = rw (c.answered_with.ensures.answer, c.answered_with.ensures.unknown) (rw (
        c.in_ok-known_files.ensures.inputs,
        c.in_ok-state.ensures.inputs,
        c.in_ok-values.ensures.inputs,
        c.in_ok-log.ensures.inputs,
        c.comparison_of-comparison.ensures.wanted,
        c.comparison_of-comparison.ensures.list,
        c.checkpoint_of.ensures,
      ) at c.in_ok-found.ensures.found);
      none_required = c.answered_with.ensures.requirement;
      success_is = rw (c.answered_with.ensures.answer, c.answered_with.ensures.unknown) c.answered_with.ensures.success;
      next_is = rw c.of-boot.ensures at c.answered_with.ensures.next;
    }
