use Rattle.std.proofs.Common.{◌≡◌, true, inr, length, refl, rules, tests, w32}
use mir.Val.{SFits}
use Rattle.std.proofs.Math.Facts.{to_z-of_z}
use Rattle.cells.specs.declared.writer.Form.TheVariants.{Json}
use Rattle.line_chunks.specs.Pieces.{is_within}
use Rattle.ima_verify_c.specs.Boot.{AreNoPlaces}
use Rattle.ima_verify_c.proofs.GivingLaws.{refused}
use Rattle.ima_verify_c.proofs.ima_verify_raw_events.Goals as goal

pub returns-in-Err : goal.returns-in-Err
returns-in-Err c =
    let fits : SFits w32 c.give_fault.result = search rules in
    let within : is_within (record { offset = c.args.offset.now; number = c.args.number.now }) (length c.args.log.now) ≡ true = search (rules, tests) in
    rw (to_z-of_z fits) (inr (inr (
      within,
      refl,
      refused (AreNoPlaces c.args.matching_given c.args.matching.now) Json c.in-Err.fault _ _ _ _
          c.in-Err.ensures.fault (inr refl) c.give_fault.ensures,
    )))
