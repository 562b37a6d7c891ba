use Rattle.growing_lists.proofs.CheckpointLaws.{has_row, row, row_set, spells_row}
use Rattle.growing_lists.proofs.checkpoint_reader.value_at.Goals as goal

pub returns-in_err-line : goal.returns-in_err-line
returns-in_err-line c =
    λ alg register value rest exists is first. absurd (has_row alg register value rest c.args.text.now first c.in_err-line.ensures.none)

pub returns-in_err-row : goal.returns-in_err-row
returns-in_err-row c =
    λ alg register value rest exists is first.
    absurd (c.in_err-row.ensures.none (row alg register value)
    (spells_row alg register value rest c.args.text.now c.in_ok-line.line.now c.in_ok-line.rest.now exists is first c.in_ok-line.ensures.cut))

pub returns : goal.returns
returns c =
    λ alg register value rest exists is first.
    row_set c.args.banks c.with.result c.in_ok-row.row alg register value rest c.args.text.now c.in_ok-line.line.now c.in_ok-line.rest.now exists is
    first c.in_ok-line.ensures.cut c.in_ok-row.ensures.found c.with.ensures.values
