use Rattle.std.proofs.Common.{ℕ, List, ap, map}
use Rattle.event_data.specs.Names.{SignatureData}
use Rattle.event_lines.specs.Certificates.{certificate_json}
use Rattle.cells.proofs.WrittenLaws.{none_left, one_item, some_written}
use Rattle.event_lines.proofs.certificates.write_each.Goals as goal

pub loop-signature-preserved : goal.loop-signature-preserved
loop-signature-preserved c =
    some_written
    (ap (λ (taken : List SignatureData × List ℕ). map (λ (signature : SignatureData). certificate_json signature.payload) taken.0)
    (rw c.in-Some.is at c.next_signature.ensures.more))
    c.loop-signature.invariant (one_item c.in_ok-write_fingerprint.ensures)

pub returns : goal.returns
returns c =
    none_left
    (ap (λ (taken : List SignatureData × List ℕ). map (λ (signature : SignatureData). certificate_json signature.payload) taken.0)
    (rw c.in_default.is at c.next_signature.ensures.last))
    c.loop-signature.invariant
