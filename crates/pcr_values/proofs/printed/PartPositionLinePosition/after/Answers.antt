use Rattle.std.proofs.Common.{rules, Bor, List, ℕ}
use Rattle.std.specs.Prelude.{option_map}
use Rattle.pcr_values.proofs.LineLaws.{if_none}
use Rattle.pcr_values.proofs.PrintedLaws.{says_nothing}
use Rattle.pcr_values.proofs.printed.PartPositionLinePosition.after.Goals as goal

pub returns-in_err-bank-clause-none : goal.returns-in_err-bank-clause-none
returns-in_err-bank-clause-none c =
    if_none c.from_residual.result _
    (says_nothing c.args.self.part (option_map (λ (name : Bor (List ℕ)). name.now) c.args.self.bank.name) c.args.line.now
    (λ signed. search rules) c.in_default.ensures.none c.in_err-bank.ensures.none)
