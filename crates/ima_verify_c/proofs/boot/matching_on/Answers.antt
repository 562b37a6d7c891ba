use Rattle.std.proofs.Common.{Global, Vec, ap, inl, inr, ◌∙◌}
use Rattle.std.specs.Prelude.{option_map}
use Rattle.std.proofs.lemmas.Result.{err_from_is_err_and}
use Rattle.confirming.specs.Places.{matching_text}
use Rattle.measured_data.specs.declared.confirmed.Pcr.{Pcr}
use Rattle.ima_verify_c.proofs.boot.matching_on.Goals as goal

pub returns-in_err-log-clause-fault : goal.returns-in_err-log-clause-fault
returns-in_err-log-clause-fault c =
    let p = err_from_is_err_and c.from_residual.result c.from_residual.ensures.1 in rw (p.1, p.2) (inr c.in_err-log.ensures.fault)

pub returns-in_err-matched-clause-fault : goal.returns-in_err-matched-clause-fault
returns-in_err-matched-clause-fault c =
    let p = err_from_is_err_and c.from_residual-in_err-matched.result c.from_residual-in_err-matched.ensures.1 in
    rw (p.1, p.2) (inl (rw (c.bytes.ensures, c.in_ok-log.ensures.log) at c.in_err-matched.ensures.fault))

pub returns-clause-matching : goal.returns-clause-matching
returns-clause-matching c = (
  option_map (λ (places : Vec Pcr Global). places.items) c.in_ok-matched.matched.places,
  rw (c.bytes.ensures, c.in_ok-log.ensures.log) at c.in_ok-matched.ensures.matched,
  c.in_ok-text.ensures ∙ ap matching_text c.places_of.ensures,
)
