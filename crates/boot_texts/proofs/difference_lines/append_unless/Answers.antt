use Rattle.std.proofs.Common.{append-nil, sym}
use Rattle.boot_texts.proofs.difference_lines.append_unless.Goals as goal

pub returns-then-is_common : goal.returns-then-is_common
returns-then-is_common c = rw c.if-is_common.true (sym (append-nil c.args.lines.now.items))

pub returns-else-is_common : goal.returns-else-is_common
returns-else-is_common c = rw c.if-is_common.false c.append_event.ensures
