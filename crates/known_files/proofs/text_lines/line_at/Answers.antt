use Rattle.known_files.proofs.LineLaws.{first_line, only_line}
use Rattle.known_files.proofs.text_lines.line_at.Goals as goal

pub returns-in-Some-clause-line : goal.returns-in-Some-clause-line
returns-in-Some-clause-line c = first_line c.args.text.now c.in-Some.parts.0.now c.in-Some.parts.1.now c.in-Some.ensures.cut

pub returns-in-None-clause-line : goal.returns-in-None-clause-line
returns-in-None-clause-line c = only_line c.args.text.now c.requires c.in-None.ensures.none
