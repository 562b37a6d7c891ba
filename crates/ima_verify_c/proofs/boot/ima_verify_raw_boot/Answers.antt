use Rattle.std.proofs.Common.{◌≡◌, rules, tests, sym, w32}
use mir.Val.{SFits}
use Rattle.std.proofs.Math.Facts.{to_z-of_z}
use Rattle.agent_inputs.specs.declared.fault.RunFault.{RunFault}
use Rattle.agent_inputs.specs.Loading.{unknown}
use Rattle.agent_inputs.specs.Opening.{replayed}
use Rattle.confirming.specs.Boot.{IsNoBoot, ShowsBoot}
use Rattle.confirming.specs.Matching.{Confirmation, confirmation_of}
use Rattle.ima_verify_c.specs.Boot.{earlier_in, with_nonce}
use Rattle.ima_verify_c.specs.Requests.{AsksFor, nonce_bytes, nonce_in}
use Rattle.ima_verify_c.proofs.BootLaws.{gives_asked, gives_output, no_nonce}
use Rattle.ima_verify_c.proofs.boot.ima_verify_raw_boot.Goals as goal

pub returns-in-Err : goal.returns-in-Err
returns-in-Err c =
    let fits : SFits w32 c.give_fault.result = search rules in
    let before = earlier_in c.args.compares c.args.before.now in
    rw (to_z-of_z fits, ← c.form_of-form.ensures) (no_nonce c.form_of-form.result _ _ _ _
    (λ (by : Confirmation). ShowsBoot unknown c.form_of-form.result by before (replayed c.args.hcrtm c.args.log.now))
    (λ (by : Confirmation) (fault : RunFault). IsNoBoot unknown by before (replayed c.args.hcrtm c.args.log.now) fault) _ _
    (confirmation_of c.in-Some.confirming) c.in-Err.fault (sym c.in-Some.ensures) c.in-Err.ensures.fault c.give_fault.ensures)

pub returns : goal.returns
returns c =
    let fits : SFits w32 c.give_output.result = search rules in
    let before = earlier_in c.args.compares c.args.before.now in
    let nonce = nonce_bytes c.in-Ok-Some.nonce in
    let asks : nonce_in c.args.nonce.now c.args.nonce_hex.now ≡ AsksFor (nonce_bytes c.in-Ok-Some.nonce) = search (rules, tests) in
    let by = with_nonce (confirmation_of c.in-Some.confirming) nonce in
    let shown = rw (c.with_nonce-confirming.ensures, c.bytes.ensures, c.earlier_in-earlier.ensures) at c.booted-made.ensures.shown in
    let fault = rw (c.with_nonce-confirming.ensures, c.bytes.ensures, c.earlier_in-earlier.ensures) at c.booted-made.ensures.fault in
    rw (to_z-of_z fits, ← c.form_of-form.ensures) (gives_asked c.form_of-form.result _ _ _ _
    (λ (by : Confirmation). ShowsBoot unknown c.form_of-form.result by before (replayed c.args.hcrtm c.args.log.now))
    (λ (by : Confirmation) (fault : RunFault). IsNoBoot unknown by before (replayed c.args.hcrtm c.args.log.now) fault) _ _
    (confirmation_of c.in-Some.confirming) nonce (sym c.in-Some.ensures) asks
    (gives_output c.form_of-form.result _ _ _ _ (ShowsBoot unknown c.form_of-form.result by before (replayed c.args.hcrtm c.args.log.now))
    (IsNoBoot unknown by before (replayed c.args.hcrtm c.args.log.now)) c.booted-made.result shown
    fault c.give_output.ensures))
