use Rattle.std.proofs.Common.{◌++◌}
use Rattle.cells.specs.Cells.{rendered}
use Rattle.boot_texts.specs.declared.difference_lines.ComparedBoot.TheVariants.{Before, Now}
use Rattle.boot_texts.specs.Differences.{apart_cell, lines_from}
use Rattle.boot_texts.proofs.DifferenceLaws.{after_ok}
use Rattle.boot_texts.proofs.differences.append_from.Goals as goal

pub returns : goal.returns
returns c = λ table rows events others is is_too.
    let line = c.args.line in
    let place = c.args.place in
    let now = lines_from Now line place c.args.marks.now events in
    let before = lines_from Before line place c.args.other_marks.now others in
    after_ok c.args.lines.now.items c.append.new.lines.items c.append_events-2.new.lines.items
    (rendered line.form (apart_cell line.register line.alg place)) (now ++ before) c.append_events-2.result c.in_ok-append.ensures.ok
    (after_ok c.append.new.lines.items c.append_events.new.lines.items c.append_events-2.new.lines.items now before c.append_events-2.result
    (c.in_ok-append_events.ensures table events is)
    (c.append_events-2.ensures rows others is_too))
