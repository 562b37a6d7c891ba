use Rattle.std.proofs.Common.{List, Ok, ap, refl, sym, ◌∙◌, inl, inr}
use Rattle.std.proofs.lemmas.Result.{err_from_is_err_and}
use Rattle.boot_log.specs.Names.{algs_in}
use Rattle.ima_list.specs.Names.{ListEntry}
use Rattle.boot_verdict.specs.Names.{located_on}
use Rattle.boot_verdict.proofs.PositionLaws.{located_all, located_in}
use Rattle.boot_verdict.proofs.ReplayLaws.{list_not_read, same_entries}
use Rattle.boot_verdict.proofs.VerdictLaws.{log_viewed, refused_from}
use Rattle.boot_verdict.proofs.VerdictLaws.{log_first_from, log_not_memory}
use Rattle.boot_verdict.proofs.location.locate_from.Goals as goal

pub returns-in_err-firmware-clause-located : goal.returns-in_err-firmware-clause-located
returns-in_err-firmware-clause-located g c =
    let p = err_from_is_err_and c.from_residual.result c.from_residual.ensures.1 in rw p.1 tt

pub returns-in_err-start-clause-located : goal.returns-in_err-start-clause-located
returns-in_err-start-clause-located g c =
    let p = err_from_is_err_and c.from_residual-in_err-start.result c.from_residual-in_err-start.ensures.1 in rw p.1 tt

pub returns-in_err-replay-clause-located : goal.returns-in_err-replay-clause-located
returns-in_err-replay-clause-located g c =
    let p = err_from_is_err_and c.from_residual-in_err-replay.result c.from_residual-in_err-replay.ensures.1 in rw p.1 tt

pub returns-in_err-firmware-clause-only : goal.returns-in_err-firmware-clause-only
returns-in_err-firmware-clause-only g c =
    λ table events entries log holds.
    let there = c.in_err-firmware.ensures.only table events log in
    absurd cc

pub returns-in_err-firmware-clause-fault : goal.returns-in_err-firmware-clause-fault
returns-in_err-firmware-clause-fault g c =
    let p = err_from_is_err_and c.from_residual.result c.from_residual.ensures.1 in
    rw (p.1, p.2) (log_first_from _ _ c.args.limit c.in_err-firmware.field-0.0 c.in_err-firmware.ensures.fault)

pub returns-in_err-firmware-clause-memory : goal.returns-in_err-firmware-clause-memory
returns-in_err-firmware-clause-memory g c =
    let p = err_from_is_err_and c.from_residual.result c.from_residual.ensures.1 in
    rw (p.1, p.2) (λ memory. absurd (log_not_memory _ c.in_err-firmware.field-0.0 c.in_err-firmware.ensures.first memory))

pub returns-in_err-replay-clause-only : goal.returns-in_err-replay-clause-only
returns-in_err-replay-clause-only g c =
    let p = err_from_is_err_and c.from_residual-in_err-replay.result c.from_residual-in_err-replay.ensures.1 in
    λ table events entries log holds.
    rw (p.1, p.2) (elim (list_not_read _ holds c.in_err-replay.field-0.0 c.in_err-replay.ensures.fault) [
      | inl source ↦ inl (rw source refl)
      | inr memory ↦ inr (inl memory)
    ])

pub returns-in_err-replay-clause-fault : goal.returns-in_err-replay-clause-fault
returns-in_err-replay-clause-fault g c =
    let p = err_from_is_err_and c.from_residual-in_err-replay.result c.from_residual-in_err-replay.ensures.1 in
    let sound = c.in_ok-firmware.ensures.sound in
    rw (p.1, p.2) (refused_from _ _ c.args.limit c.in_err-replay.field-0.0 (record { table = sound.0; events = sound.1; log_is = sound.2 }) c.in_err-replay.ensures.fault)

pub returns-clause-located : goal.returns-clause-located
returns-clause-located g c =
    let sound = c.in_ok-firmware.ensures.sound in
    let more = c.in_ok-replay.ensures.replays in
    record {
      list = more.more;
      came = more.came;
      located_are = located_in sound.2 (c.in_ok-start.ensures sound.0 sound.1 (log_viewed c.in_ok-firmware.ensures.found sound.2)) more.all;
    }

pub returns-clause-only : goal.returns-clause-only
returns-clause-only g c =
    let more = c.in_ok-replay.ensures.replays in
    λ table events entries is holds.
    let same = same_entries _ holds more.more more.all.entries more.came more.all.reading in
    let rows = located_all more.all.entries (c.in_ok-start.ensures table events (log_viewed c.in_ok-firmware.ensures.found is)) more.all.tracked in
    inr (ap Ok (ap (λ (those : List ListEntry). located_on (algs_in table) events those c.args.expected.now) same ∙ sym rows))
