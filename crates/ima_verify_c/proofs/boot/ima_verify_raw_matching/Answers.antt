use Rattle.std.proofs.Common.{◌≡◌, rules, tests, sym, w32}
use mir.Val.{SFits}
use Rattle.std.proofs.Math.Facts.{to_z-of_z}
use Rattle.agent_inputs.specs.declared.fault.RunFault.{RunFault}
use Rattle.agent_inputs.specs.Loading.{unknown}
use Rattle.agent_inputs.specs.Opening.{replayed}
use Rattle.cells.specs.declared.writer.Form.TheVariants.{Json}
use Rattle.confirming.specs.Matching.{AreNotMatched, Confirmation, confirmation_of}
use Rattle.ima_verify_c.specs.Boot.{IsMatching, with_nonce}
use Rattle.ima_verify_c.specs.Requests.{AsksFor, nonce_bytes, nonce_in}
use Rattle.ima_verify_c.proofs.BootLaws.{gives_asked, gives_output, no_nonce}
use Rattle.ima_verify_c.proofs.boot.ima_verify_raw_matching.Goals as goal

pub returns-in-Err : goal.returns-in-Err
returns-in-Err c =
    let fits : SFits w32 c.give_fault.result = search rules in
    rw (to_z-of_z fits) (no_nonce Json _ _ _ _ (λ (by : Confirmation). IsMatching (replayed c.args.hcrtm c.args.log.now) by)
    (λ (by : Confirmation) (fault : RunFault). AreNotMatched unknown by (replayed c.args.hcrtm c.args.log.now) fault) _ _
    (confirmation_of c.in-Some.confirming) c.in-Err.fault (sym c.in-Some.ensures) c.in-Err.ensures.fault c.give_fault.ensures)

pub returns : goal.returns
returns c =
    let fits : SFits w32 c.give_output.result = search rules in
    let nonce = nonce_bytes c.in-Ok-Some.nonce in
    let asks : nonce_in c.args.nonce.now c.args.nonce_hex.now ≡ AsksFor (nonce_bytes c.in-Ok-Some.nonce) = search (rules, tests) in
    let by = with_nonce (confirmation_of c.in-Some.confirming) nonce in
    let made = rw (c.with_nonce.ensures, c.bytes.ensures) at c.matching_on-made.ensures.matching in
    let fault = rw (c.with_nonce.ensures, c.bytes.ensures) at c.matching_on-made.ensures.fault in
    rw (to_z-of_z fits) (gives_asked Json _ _ _ _ (λ (by : Confirmation). IsMatching (replayed c.args.hcrtm c.args.log.now) by)
    (λ (by : Confirmation) (fault : RunFault). AreNotMatched unknown by (replayed c.args.hcrtm c.args.log.now) fault) _ _
    (confirmation_of c.in-Some.confirming) nonce (sym c.in-Some.ensures) asks
    (gives_output Json _ _ _ _ (IsMatching (replayed c.args.hcrtm c.args.log.now) by) (AreNotMatched unknown by (replayed c.args.hcrtm c.args.log.now)) c.matching_on-made.result made fault
    c.give_output.ensures))
