use Rattle.std.proofs.Common.{refl, ◌≡◌, ◌+◌, length, List, ℕ, [], ◌∷◌, ◌++◌, ap, arith, sym, ◌∙◌}
use Rattle.std.proofs.lemmas.List.{length-append}
use Rattle.boot_texts.specs.Differences.{difference_lines, register_lines}
use Rattle.boot_texts.proofs.DifferenceLaws.{joined, one_register, one_register_lines}
use Rattle.boot_texts.proofs.differences.append_registers.Goals as goal

pub loop-register-preserved : goal.loop-register-preserved
loop-register-preserved c = λ table rows events others is is_too.
    let (differences, count, each, text) = c.loop-register.invariant table rows events others is is_too in
    let difference = c.in_ok-difference.difference in
    let form = c.args.form in
    let register = c.loop-register.register in
    let here : 0 + length differences ≡ register = omega (arith, count) in (
      differences ++ difference ∷ [],
      omega (arith, count, length-append differences (difference ∷ [])),
      one_register c.args.matched.now events others 0 differences difference each
          (rw here (c.in_ok-difference.ensures table rows events others is is_too)),
      joined _ _ _ (difference_lines form events others differences) (register_lines form register difference events others) text
          (c.in_ok-append_register.ensures table rows events others is is_too)
          ∙ ap (λ (l : List ℕ). c.args.lines.now.items ++ l) (sym (one_register_lines form events others differences difference register count)),
    )

pub returns : goal.returns
returns c = λ table rows events others is is_too.
    let (differences, count, each, text) = c.loop-register.invariant table rows events others is is_too in (
      difference_lines c.args.form events others differences,
      (differences, record { count = omega (arith, count, c.loop-register-test.false); each = each }, refl),
      text,
    )
