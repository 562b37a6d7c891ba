use Rattle.std.proofs.Common.{List, ℕ, ◌++◌, ap, ◌∙◌}
use Rattle.boot_texts.proofs.differences.append_differences.Goals as goal

pub returns-clause-lines : goal.returns-clause-lines
returns-clause-lines c = λ table rows events others is is_too.
    let (text, lines, own) = c.in_ok-append_registers.ensures table rows events others is is_too in (
      text,
      lines,
      c.in_ok-extend_from_slice.ensures.items ∙ ap (λ (l : List ℕ). c.args.lines.now.items ++ l) (c.deref.ensures.value ∙ own ∙ ap (λ (l : List ℕ). l ++ text) c.new-own.ensures.items),
    )
