use Rattle.std.proofs.Common.{◌≡◌, Ok, decimal, ap, ◌∙◌, refl}
use Rattle.std.specs.Str.{IsUtf8}
use Rattle.std.specs.Result.{result_ok}
use Rattle.std.proofs.lemmas.Fmt.{IsAscii-decimal, parse-decimal}
use Rattle.std.proofs.lemmas.Str.{IsUtf8-from_ascii}
use Rattle.growing_lists.proofs.checkpoint_reader.number_named.Goals as goal

pub returns-in-Err : goal.returns-in-Err
returns-in-Err c =
    λ number small is.
    let utf8 : IsUtf8 c.args.digits.now = rw is (IsUtf8-from_ascii (decimal number) (IsAscii-decimal number small)) in
    absurd (c.in-Err.ensures.cases.0 utf8)

pub returns-in-Ok : goal.returns-in-Ok
returns-in-Ok c =
    λ number small is.
    let parsed : c.parse.result ≡ Ok number =
    parse-decimal 64 number c.in-Ok.text.now c.parse.result small small (c.in-Ok.ensures.cases.0 ∙ is) c.parse.ensures.value.0 in
    rw (c.ok.ensures.value ∙ ap result_ok parsed) refl
