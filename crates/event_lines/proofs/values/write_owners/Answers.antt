use Rattle.std.proofs.Common.{ℕ, List, ap}
use Rattle.event_data.specs.Names.{SignatureData}
use Rattle.event_lines.specs.ValueJson.{owners_after}
use Rattle.cells.proofs.WrittenLaws.{none_left, some_written}
use Rattle.event_lines.proofs.values.write_owners.Goals as goal

pub loop-signature-preserved : goal.loop-signature-preserved
loop-signature-preserved c =
    some_written
    (ap (λ (taken : List SignatureData × List ℕ). owners_after c.loop-signature.before.now taken.0) (rw c.in-Some.is at c.next_signature.ensures.more))
    c.loop-signature.invariant c.in_ok-write_owner.ensures

pub returns : goal.returns
returns c =
    none_left
    (ap (λ (taken : List SignatureData × List ℕ). owners_after c.loop-signature.before.now taken.0)
    (rw c.in_default.is at c.next_signature.ensures.last))
    c.loop-signature.invariant
