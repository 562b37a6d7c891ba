use Rattle.std.proofs.Common.{◌≡◌, true, false, sym, ◌∙◌}
use Rattle.measured_data.proofs.ConfirmedLaws.{place_told}
use Rattle.measured_data.proofs.confirmed.is_answering.Goals as goal

pub returns-then-ne-clause-answering : goal.returns-then-ne-clause-answering
returns-then-ne-clause-answering c =
    let other = sym c.ne.ensures ∙ c.if-ne.true in
    let place = place_told c.args.matched.now c.args.alg c.args.register in (
      λ yes. record {
        strong = λ same. let never : false ≡ true = rw same at other in absurd cc;
        matches = place.0 (sym c.has_pcr.ensures ∙ yes);
      },
      λ is. c.has_pcr.ensures ∙ place.1 is.matches,
    )
