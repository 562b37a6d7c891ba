use Rattle.std.proofs.Common.{sym}
use Rattle.event_texts.proofs.HexLaws.{uri_is_utf8}
use Rattle.event_texts.proofs.paths.uri_text.Goals as goal

pub returns-in_default : goal.returns-in_default
returns-in_default c = absurd (c.in_default.ensures.cases.0 (uri_is_utf8 c.args.payload.now (sym c.if-not-are_uri_bytes.ensures)))
