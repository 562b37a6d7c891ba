use Rattle.known_files.proofs.ListedLaws.{truncated}
use Rattle.known_files.proofs.listed.ListedFiles.truncate.Goals as goal

pub returns : goal.returns
returns c = λ old are more.
    truncated old c.args.self.now record { sha256 = c.truncate.new.self; sha384 = c.truncate-2.new.self; sha512 = c.truncate-3.new.self }
    c.args.counts are more c.truncate.ensures.items c.truncate-2.ensures.items c.truncate-3.ensures.items
