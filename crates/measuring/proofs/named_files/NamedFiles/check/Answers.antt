use Rattle.std.proofs.Common.{List, ℕ, arith}
use Rattle.std.specs.Borrow.{Bor}
use Rattle.std.proofs.lemmas.List.{length-map}
use Rattle.measuring.specs.parts.{names_borrowed}
use Rattle.measuring.proofs.MeasuringLaws.{file_fault, had_more}
use Rattle.measuring.proofs.named_files.NamedFiles.check.Goals as goal

pub loop-index-preserved : goal.loop-index-preserved
loop-index-preserved g c = had_more _ _ c.loop-index.index c.loop-index.invariant c.in_default.ensures.file

pub returns-in-Err-clause-fault : goal.returns-in-Err-clause-fault
returns-in-Err-clause-fault g c =
    let names = c.args.self.now.names.now in
    file_fault _ _ (names_borrowed names) c.loop-index.index c.fault_of.result
    (omega (arith, c.loop-index-test.true, length-map names (λ (name : Bor (List ℕ)). name.now))) c.fault_of.ensures c.loop-index.invariant

pub returns-clause-read : goal.returns-clause-read
returns-clause-read g c = λ number below.
    c.loop-index.invariant number (omega (arith, length-map c.args.self.now.names.now (λ (name : Bor (List ℕ)). name.now)))
