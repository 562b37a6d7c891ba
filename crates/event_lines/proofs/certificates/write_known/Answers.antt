use Rattle.cells.proofs.WrittenLaws.{named}
use Rattle.event_lines.proofs.certificates.write_known.Goals as goal

pub returns : goal.returns
returns c = named c.in_ok-key.ensures c.in_ok-write_fingerprint.ensures
