use Rattle.std.proofs.Common.{List, Option, sym, subst, ℕ}
use Rattle.std.specs.Prelude.{option_map}
use Rattle.std.proofs.lemmas.Result.{on_ok_weaker}
use Rattle.judging.specs.declared.inputs.Input.{Input}
use Rattle.judging.specs.Requests.{location_of}
use Rattle.confirming.specs.Boot.{AreCompared}
use Rattle.confirming.proofs.boot.append_compared.Goals as goal

pub returns-in-Some-clause-lines : goal.returns-in-Some-clause-lines
returns-in-Some-clause-lines g c =
    on_ok_weaker c.append_earlier.result
    (λ lines table events is.
    let (text, compared, added) = lines table events is in (
      text,
      subst
          (λ (before : Option Input). AreCompared (g.F.Files.inputs c.args.files.now) c.args.form c.args.matched.now events (option_map location_of before)
          text) (sym c.in-Some.is) compared,
      added,
    ))
    c.append_earlier.ensures.lines
