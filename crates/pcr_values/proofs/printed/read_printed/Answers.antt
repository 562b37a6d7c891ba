use Rattle.std.proofs.Common.{Bor, List, ℕ, sym, ◌∙◌, inl, inr}
use Rattle.std.specs.Prelude.{option_map}
use Rattle.pcr_values.proofs.PrintedLaws.{lacks_nothing, memory_alone, prints_once}
use Rattle.pcr_values.proofs.printed.read_printed.Goals as goal

pub returns-in-Ok-clause-only : goal.returns-in-Ok-clause-only
returns-in-Ok-clause-only c =
    λ expected is.
    memory_alone c.whole.result c.whole.ensures.fault
    (λ fault lacks. lacks_nothing c.args.text.now expected c.in-Ok.registers.items c.in-Ok.end.part fault is
    (option_map (λ (name : Bor (List ℕ)). name.now) c.in-Ok.end.bank.name, c.in-Ok.ensures.found) lacks)

pub returns-in-Err-clause-only : goal.returns-in-Err-clause-only
returns-in-Err-clause-only c =
    λ expected is.
    let memory = c.in-Err.ensures.only prints_once expected (record { end = (is.part, is.printed.0); stated = is.printed.1 }) in
    elim c.named_fault.ensures.named [
      | inl quote ↦ let bad = sym memory ∙ quote.0 in absurd cc
      | inr same ↦ same.0 ∙ memory
    ]
