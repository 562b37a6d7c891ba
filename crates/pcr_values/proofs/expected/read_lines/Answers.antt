use Rattle.std.proofs.Common.{Err, ap, inl, inr}
use Rattle.std.proofs.lemmas.Result.{err_from_is_err_and}
use Rattle.byte_fields.proofs.Steps.{fault_is}
use Rattle.pcr_values.specs.declared.expected.ExpectFault.{ExpectFault}
use Rattle.pcr_values.specs.declared.expected.ExpectFault.TheVariants.{Memory}
use Rattle.pcr_values.proofs.StatedLaws.{begins_here, fault_here, no_fault, reads_more, reads_none}
use Rattle.pcr_values.proofs.expected.read_lines.Goals as goal

pub returns-in_err-position-clause-found : goal.returns-in_err-position-clause-found
returns-in_err-position-clause-found g c =
    let p = err_from_is_err_and c.from_residual.result c.from_residual.ensures.1 in rw p.1 tt

pub returns-in_err-position-clause-only : goal.returns-in_err-position-clause-only
returns-in_err-position-clause-only g c =
    let p = err_from_is_err_and c.from_residual.result c.from_residual.ensures.1 in
    λ once expected states.
    rw (p.1, p.2) (elim c.in_err-position.ensures.fault [
      | inl memory ↦ memory
      | inr wrong ↦ absurd (no_fault c.line_at.result.1 c.loop-rest.invariant c.in-Some.is c.line_at.ensures.line once expected states
          c.in_err-position.field-0.0 wrong)
    ])

pub returns-in_err-position-clause-fault : goal.returns-in_err-position-clause-fault
returns-in_err-position-clause-fault g c =
    let p = err_from_is_err_and c.from_residual.result c.from_residual.ensures.1 in
    rw (p.1, p.2) (elim c.in_err-position.ensures.fault [
      | inl memory ↦ inl memory
      | inr wrong ↦ inr (fault_here c.line_at.result.1 c.loop-rest.invariant c.in-Some.is c.line_at.ensures.line c.in_err-position.field-0.0 wrong)
    ])

pub returns-in_err-position-clause-memory : goal.returns-in_err-position-clause-memory
returns-in_err-position-clause-memory g c =
    let p = err_from_is_err_and c.from_residual.result c.from_residual.ensures.1 in
    λ memory.
    let same = fault_is c.from_residual.result p.0 c.in_err-position.field-0.0 Memory p.1 p.2 memory in
    begins_here c.line_at.result.1 c.loop-rest.invariant c.in-Some.is c.line_at.ensures.line
    (c.in_err-position.ensures.memory (ap (λ (f : ExpectFault). Err f) same))

pub loop-rest-init : goal.loop-rest-init
loop-rest-init g c =
    let form = g.P.LinePosition in
    rw c.new-expected.ensures.items (reads_none form.says (form.value c.args.start) c.args.text)

pub loop-rest-preserved : goal.loop-rest-preserved
loop-rest-preserved g c =
    reads_more c.line_at.result.1 c.loop-rest.invariant c.in-Some.is c.line_at.ensures.line c.line_at.ensures.shorter
    c.in_ok-position.ensures.taken
