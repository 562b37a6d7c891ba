use Rattle.std.proofs.Common.{Bor, List, ℕ, Option, Vec, Global, ap, inl, inr, refl, subst, sym, ◌++◌, ◌∙◌}
use Rattle.std.specs.Prelude.{option_map}
use Rattle.std.proofs.lemmas.Result.{err_from_is_err_and}
use Rattle.boot_log.specs.Names.{IsLog}
use Rattle.measured_data.specs.declared.confirmed.Pcr.{Pcr}
use Rattle.confirming.proofs.boot.boot_on.Goals as goal

pub returns-in_err-matched-clause-fault : goal.returns-in_err-matched-clause-fault
returns-in_err-matched-clause-fault g c =
    let p = err_from_is_err_and c.from_residual.result c.from_residual.ensures.1 in
    rw (p.1, p.2) (inl c.in_err-matched.ensures.fault)

pub returns-in_err-append_boot-clause-fault : goal.returns-in_err-append_boot-clause-fault
returns-in_err-append_boot-clause-fault g c =
    let p = err_from_is_err_and c.from_residual-in_err-append_boot.result c.from_residual-in_err-append_boot.ensures.1 in
    let (table, events, is) = c.in_ok-view.ensures.sound in
    rw (p.1, p.2) (inr (inl (inr (refl, record { table = table; events = events; log_is = is }))))

pub returns-in_err-append_compared-clause-fault : goal.returns-in_err-append_compared-clause-fault
returns-in_err-append_compared-clause-fault g c =
    let p = err_from_is_err_and c.from_residual-in_err-append_compared.result c.from_residual-in_err-append_compared.ensures.1 in
    let (table, events, is) = c.in_ok-view.ensures.sound in
    let why = rw c.in_ok-matched.ensures.inputs at c.in_err-append_compared.ensures.fault in
    rw (p.1, p.2) (inr (elim why [
      | inl earlier ↦ inr earlier
      | inr memory ↦ inl (inr (memory, record { table = table; events = events; log_is = is }))
    ]))

pub returns-clause-shown : goal.returns-clause-shown
returns-clause-shown g c =
    let (table, events, is) = c.in_ok-view.ensures.sound in
    let viewed = subst (λ (bytes : List ℕ). IsLog bytes table events) (sym c.in_ok-view.ensures.found) is in
    let (answers, are, text) = c.in_ok-append_boot.ensures.ok table events viewed in
    let (compared, so, more) = c.in_ok-append_compared.ensures.lines table events viewed in
    record {
      table = table;
      events = events;
      log_is = is;
      matched = option_map (λ (places : Vec Pcr Global). places.items) c.in_ok-matched.matched.places;
      are_matched = c.in_ok-matched.ensures.matched;
      answers = answers;
      are_answers = rw c.as_deref.ensures.value at are;
      compared = compared;
      are_compared = rw (c.places_of-places.ensures, c.in_ok-matched.ensures.inputs) at so;
      text_is = more ∙ ap (λ (l : List ℕ). l ++ compared) (text ∙ ap (λ (l : List ℕ). l ++ answers) c.new-text.ensures.items);
    }
