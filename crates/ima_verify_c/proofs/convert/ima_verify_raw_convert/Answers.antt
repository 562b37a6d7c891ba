use Rattle.std.proofs.Common.{◌≡◌, None, inl, inr, refl, rules, w32}
use mir.Val.{SFits}
use Rattle.std.proofs.Math.Facts.{to_z-of_z}
use Rattle.agent_inputs.specs.declared.fault.RunFault.{RunFault}
use Rattle.agent_inputs.specs.declared.fault.RunFault.TheVariants.{Memory}
use Rattle.std.specs.Prelude.{◌⊎◌}
use Rattle.cells.specs.declared.writer.Form.TheVariants.{Text}
use Rattle.ima_verify_c.specs.Converting.{IsNotConverted}
use Rattle.ima_verify_c.proofs.GivingLaws.{refused}
use Rattle.ima_verify_c.proofs.convert.ima_verify_raw_convert.Goals as goal

pub returns-in-Ok : goal.returns-in-Ok
returns-in-Ok c =
    let fits : SFits w32 c.put.result = search rules in
    rw (to_z-of_z fits, ← c.in-Some.ensures) (record {
      text = c.in-Ok.made.input.items;
      status = 0;
      fault = None;
      is_answer = inl (c.in-Ok.ensures.converted, refl, refl);
      given = rw c.deref.ensures.value at c.put.ensures;
    })

pub returns-in-Err : goal.returns-in-Err
returns-in-Err c =
    let fits : SFits w32 c.give_fault.result = search rules in
    let HasReason = λ (reason : RunFault). IsNotConverted c.in-Some.conversion c.args.bytes.now reason ⊎ (reason ≡ Memory) in
    let given = refused HasReason Text c.in-Err.fault _ _ _ _ (inl c.in-Err.ensures.fault) (inr refl) c.give_fault.ensures in
    rw (to_z-of_z fits, ← c.in-Some.ensures) (record {
      text = given.text;
      status = given.status;
      fault = given.fault;
      is_answer = inr (refl, given.is_answer);
      given = given.given;
    })
