use Rattle.std.proofs.Common.{[], option_map}
use Rattle.boot_log.specs.Names.{log_event_of}
use Rattle.event_data.specs.Names.{content_of}
use Rattle.boot_answers.specs.FirmwareVersion.{firmware_register}
use Rattle.boot_answers.proofs.VersionLaws.{version_at, version_nowhere}
use Rattle.boot_answers.proofs.versions.version_in.Goals as goal

pub returns-in-Some : goal.returns-in-Some
returns-in-Some c table events is =
    let later = (rw c.in-Some.is at c.next_event.ensures.prefix) _ table firmware_register [] events c.new.ensures is in
    version_at c.args.alg events later.0 (log_event_of c.in-Some.event) (option_map content_of c.version_by.result) later.1 c.version_by.ensures

pub returns-in-None : goal.returns-in-None
returns-in-None c table events is content =
    version_nowhere c.args.alg events content ((rw c.in-None.is at c.next_event.ensures.end) _ table firmware_register [] events c.new.ensures is)
