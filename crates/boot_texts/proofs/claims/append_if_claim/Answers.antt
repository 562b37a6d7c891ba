use Rattle.std.proofs.Common.{◌≡◌, None, Some, append-nil, sym, ◌∙◌}
use Rattle.boot_log.specs.Names.{log_event_of}
use Rattle.boot_texts.specs.Claims.{claim_of}
use Rattle.boot_texts.proofs.claims.append_if_claim.Goals as goal

pub returns-in-Some : goal.returns-in-Some
returns-in-Some c =
    let found : claim_of (log_event_of c.args.event.now) ≡ Some c.in-Some.claim =
    rw c.event_content-content.ensures.value at (sym c.claim_in.ensures ∙ c.in-Some.is) in
    rw found c.append_line.ensures

pub returns-in-None : goal.returns-in-None
returns-in-None c =
    let found : claim_of (log_event_of c.args.event.now) ≡ None =
    rw c.event_content-content.ensures.value at (sym c.claim_in.ensures ∙ c.in-None.is) in
    rw found (sym (append-nil _))
