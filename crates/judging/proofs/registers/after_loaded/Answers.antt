use Rattle.std.proofs.Common.{inl, inr}
use Rattle.std.proofs.lemmas.Result.{IfErr-weaker}
use Rattle.byte_streams.specs.Memory.{slice_source_rest}
use Rattle.judging.specs.Inputs.{Holds}
use Rattle.judging.specs.Requests.{location_of}
use Rattle.judging.proofs.OpeningLaws.{slice_gives_input}
use Rattle.judging.proofs.registers.after_loaded.Goals as goal

pub returns-in-Ok-clause-answer : goal.returns-in-Ok-clause-answer
returns-in-Ok-clause-answer g c =
    let inputs = g.F.Files.inputs c.args.files.now in
    let place = location_of c.args.list in
    let held : Holds inputs place (slice_source_rest c.new.result) = rw (c.new.ensures, c.bytes.ensures) c.in-Ok.ensures.all in
    c.after_list_from.ensures.answer inputs (slice_gives_input inputs place c.new.result c.after_list_from.new.source held)

pub returns-in-Ok-clause-fault : goal.returns-in-Ok-clause-fault
returns-in-Ok-clause-fault g c =
    let inputs = g.F.Files.inputs c.args.files.now in
    let place = location_of c.args.list in
    let held : Holds inputs place (slice_source_rest c.new.result) = rw (c.new.ensures, c.bytes.ensures) c.in-Ok.ensures.all in
    IfErr-weaker c.after_list_from.result _ _ (λ fault is. inr is)
    (c.after_list_from.ensures.fault inputs (slice_gives_input inputs place c.new.result c.after_list_from.new.source held))

pub returns-in-Err-clause-fault : goal.returns-in-Err-clause-fault
returns-in-Err-clause-fault g c = inl c.in-Err.ensures.fault
