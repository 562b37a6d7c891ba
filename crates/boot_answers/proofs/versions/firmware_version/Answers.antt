use Rattle.std.proofs.Common.{option_map}
use Rattle.event_data.specs.Names.{content_of}
use Rattle.boot_answers.proofs.FailingTestLaws.{not_told}
use Rattle.boot_answers.proofs.VersionLaws.{told_by_all, told_by_none, told_by_some}
use Rattle.boot_answers.proofs.versions.firmware_version.Goals as goal

pub returns-in_default : goal.returns-in_default
returns-in_default c table events is =
    told_by_none c.args.matched.now events (rw c.in_default.is at c.answering_bank.ensures.none)

pub returns-then-all_agree : goal.returns-then-all_agree
returns-then-all_agree c table events is =
    told_by_all c.args.matched.now c.in-Some.alg events (option_map content_of c.version_in.result)
    (rw c.in-Some.is at c.answering_bank.ensures.found) ((c.all_agree.ensures table events is).0 c.if-all_agree.true)
    (c.version_in.ensures table events is)

pub returns-else-all_agree : goal.returns-else-all_agree
returns-else-all_agree c table events is =
    told_by_some c.args.matched.now events (not_told c.all_agree.result _ c.if-all_agree.false (c.all_agree.ensures table events is))
