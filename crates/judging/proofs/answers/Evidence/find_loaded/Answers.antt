use Rattle.std.proofs.Common.{inl, inr}
use Rattle.byte_streams.specs.Memory.{slice_source_rest}
use Rattle.judging.specs.Inputs.{Holds}
use Rattle.judging.specs.Requests.{location_of}
use Rattle.judging.proofs.OpeningLaws.{found_so, slice_gives_input}
use Rattle.judging.proofs.answers.Evidence.find_loaded.Goals as goal

pub returns-in-Ok-clause-found : goal.returns-in-Ok-clause-found
returns-in-Ok-clause-found g c =
    let inputs = g.F.Files.inputs c.args.files.now in
    let place = location_of c.args.request.list in
    let held : Holds inputs place (slice_source_rest c.new.result) = rw (c.new.ensures, c.bytes.ensures) c.in-Ok.ensures.all in
    found_so c.find_from.result _ _ _ (λ fault is. inr is)
    (c.find_from.ensures inputs (slice_gives_input inputs place c.new.result c.find_from.new.source held))

pub returns-in-Err-clause-found : goal.returns-in-Err-clause-found
returns-in-Err-clause-found g c = inl c.in-Err.ensures.fault
