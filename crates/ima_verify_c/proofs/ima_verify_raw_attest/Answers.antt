use Rattle.std.proofs.Common.{rules, w32}
use mir.Val.{SFits}
use Rattle.std.proofs.Math.Facts.{to_z-of_z}
use Rattle.judging.specs.Requests.{signing_of}
use Rattle.ima_verify_c.specs.Requests.{nonce_in}
use Rattle.ima_verify_c.proofs.GivingLaws.{gives_no_nonce}
use Rattle.ima_verify_c.proofs.ima_verify_raw_attest.Goals as goal

pub returns-in-Err : goal.returns-in-Err
returns-in-Err c =
    let fits : SFits w32 c.give_no_report.result = search rules in
    rw (to_z-of_z fits, ← c.form_of-form.ensures, ← c.in-Some.ensures) (gives_no_nonce _ c.in-Err.fault _ _ _ _ _ _ _ _ _ (c.give_no_report.ensures _)
    (signing_of c.in-Some.signing) (nonce_in c.args.nonce.now c.args.nonce_hex.now) _ c.in-Err.ensures.fault)
