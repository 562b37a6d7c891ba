use Rattle.std.proofs.Common.{Some, ap, ◌∙◌, inl}
use Rattle.std.proofs.Math.Path.{fun_ext}
use Rattle.std.proofs.lemmas.Result.{IfErr-weaker, IfOk-weaker, err_from_is_err_and}
use Rattle.measuring.specs.parts.{names_borrowed}
use Rattle.measuring.proofs.MeasuringLaws.{no_names, not_all}
use Rattle.measuring.proofs.measurement.measure.Goals as goal

pub returns-in_err-bytes-clause-fault : goal.returns-in_err-bytes-clause-fault
returns-in_err-bytes-clause-fault g c =
    let p = err_from_is_err_and c.from_residual.result c.from_residual.ensures.1 in
    rw (p.1, p.2) (inl (rw c.deref.ensures at c.in_err-bytes.ensures.fault))

pub returns-in_err-text-clause-fault : goal.returns-in_err-text-clause-fault
returns-in_err-text-clause-fault g c =
    let p = err_from_is_err_and c.from_residual-in_err-text.result c.from_residual-in_err-text.ensures.1 in
    rw (p.1, p.2) (no_names (g.F.Files.inputs c.args.files.now) c.args.request.now c.in_ok-bytes.bytes.items
    (rw c.deref.ensures at c.in_ok-bytes.ensures.all)
    (rw c.deref-2.ensures.value at c.in_ok-log.ensures.sound) _
    (inl (rw c.in_ok-bytes.ensures.inputs at c.in_err-text.ensures.fault)))

pub returns-in_err-names-clause-fault : goal.returns-in_err-names-clause-fault
returns-in_err-names-clause-fault g c =
    let p = err_from_is_err_and c.from_residual-in_err-names.result c.from_residual-in_err-names.ensures.1 in
    rw (p.1, p.2) (no_names (g.F.Files.inputs c.args.files.now) c.args.request.now c.in_ok-bytes.bytes.items
    (rw c.deref.ensures at c.in_ok-bytes.ensures.all)
    (rw c.deref-2.ensures.value at c.in_ok-log.ensures.sound) _
    (rw c.deref-3.ensures.value at c.in_err-names.ensures.fault (g.F.Files.inputs c.args.files.now)
    (rw c.in_ok-bytes.ensures.inputs at c.in_ok-text.ensures.text)))

pub returns-clause-measured : goal.returns-clause-measured
returns-clause-measured g c =
    let inputs = g.F.Files.inputs c.args.files.now in
    let are = rw c.deref-3.ensures.value at c.in_ok-names.ensures.names inputs (rw c.in_ok-bytes.ensures.inputs at c.in_ok-text.ensures.text) in
    let same_inputs = c.in_ok-text.ensures.inputs ∙ c.in_ok-bytes.ensures.inputs in
    let same = fun_ext (λ name. c.shared.ensures.held name ∙ ap (λ inputs. inputs.held (Some name)) same_inputs) in
    IfOk-weaker c.measure_over.result _ _
    (λ given over. (c.in_ok-bytes.bytes.items, rw c.deref.ensures at c.in_ok-bytes.ensures.all, (names_borrowed c.in_ok-names.names.items, are, over)))
    (rw (c.deref-4.ensures.value, c.in_ok-log.ensures.found, c.deref-2.ensures.value, same) at c.measure_over.ensures.measured)

pub returns-clause-fault : goal.returns-clause-fault
returns-clause-fault g c =
    let inputs = g.F.Files.inputs c.args.files.now in
    let are = rw c.deref-3.ensures.value at c.in_ok-names.ensures.names inputs (rw c.in_ok-bytes.ensures.inputs at c.in_ok-text.ensures.text) in
    let same_inputs = c.in_ok-text.ensures.inputs ∙ c.in_ok-bytes.ensures.inputs in
    let same = fun_ext (λ name. c.shared.ensures.held name ∙ ap (λ inputs. inputs.held (Some name)) same_inputs) in
    IfErr-weaker c.measure_over.result _ _
    (not_all inputs c.args.request.now c.in_ok-bytes.bytes.items (rw c.deref.ensures at c.in_ok-bytes.ensures.all)
    (rw c.deref-2.ensures.value at c.in_ok-log.ensures.sound)
    (names_borrowed c.in_ok-names.names.items) are _ _ same
    (λ name fails. rw same_inputs at c.shared.ensures.fails name fails))
    (rw (c.deref-4.ensures.value, c.in_ok-log.ensures.found, c.deref-2.ensures.value) at c.measure_over.ensures.fault)
