use Rattle.std.proofs.Common.{length, map}
use Rattle.event_data.specs.Names.{SignatureData, list_of, signatures_in, signatures_left, signatures_of, size_of}
use Rattle.event_lines.specs.Certificates.{certificate_json}
use Rattle.cells.proofs.WrittenLaws.{HasLeft}
use Rattle.event_lines.proofs.certificates.write_each.Given as goal

abbrev pub invariant-loop-signature : goal.invariant-loop-signature
invariant-loop-signature l =
    HasLeft l.initial.writer l.writer
    (map (λ (signature : SignatureData). certificate_json signature.payload) (signatures_in (size_of l.left) (signatures_left l.left)).0)
    (map (λ (signature : SignatureData). certificate_json signature.payload) (signatures_of (list_of l.list)))

abbrev pub decreases-loop-signature : goal.decreases-loop-signature
decreases-loop-signature l = length (signatures_left l.left)
