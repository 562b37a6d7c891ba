use Rattle.known_files.proofs.DigestLineLaws.{says_iff}
use Rattle.known_files.proofs.digest_line.digest_on.Goals as goal

pub returns-clause-says : goal.returns-clause-says
returns-clause-says c = λ digest. rw (c.first_digest.ensures, c.without_escape.ensures) (says_iff c.args.line.now digest)
