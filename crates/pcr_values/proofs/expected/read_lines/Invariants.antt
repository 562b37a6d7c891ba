use Rattle.pcr_values.proofs.StatedLaws.{ReadsSome, left_count}
use Rattle.pcr_values.proofs.expected.read_lines.Given as goal

abbrev pub invariant-loop-rest : goal.invariant-loop-rest
invariant-loop-rest g l =
    let form = g.P.LinePosition in
    ReadsSome form.says (form.value l.fn.start) l.fn.text l.expected.items l.number (form.value l.position) l.rest

abbrev pub decreases-loop-rest : goal.decreases-loop-rest
decreases-loop-rest g l = left_count l.rest
