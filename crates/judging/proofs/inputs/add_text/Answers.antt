use Rattle.std.proofs.Common.{Err, ap, inr}
use Rattle.known_files.specs.declared.fault.KnownFault.{KnownFault}
use Rattle.judging.specs.Requests.{held_bytes}
use Rattle.judging.proofs.TextLaws.{no_known_text}
use Rattle.judging.proofs.inputs.add_text.Goals as goal

pub returns-clause-fault : goal.returns-clause-fault
returns-clause-fault g c =
    let why = no_known_text _ _ _ _ c.in-Err.ensures.fault (λ same. c.in-Err.ensures.memory (ap (λ (f : KnownFault). Err f) same)) c.of_known.ensures in
    inr (held_bytes c.in_ok-text.text, c.in_ok-text.ensures.all, rw c.bytes.ensures at why)
