use Rattle.std.proofs.Common.{List, ℕ, ◌++◌, ap, ◌∙◌}
use Rattle.boot_texts.proofs.boot_lines.append_boot.Goals as goal

pub returns-clause-ok : goal.returns-clause-ok
returns-clause-ok c table events is =
    let (text, are, joined) = c.in_ok-append_texts.ensures table events is in (
      text,
      are,
      (rw c.deref.ensures.value at c.in_ok-extend_from_slice.ensures.items)
          ∙ ap (λ (l : List ℕ). c.args.lines.now.items ++ l) (joined ∙ ap (λ (l : List ℕ). l ++ text) c.new-answers.ensures.items),
    )
