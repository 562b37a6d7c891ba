-- A session that has taken nothing of a list.
use Rattle.std.proofs.Common.{◌≡◌, ℕ, List, [], length, refl, ap, ◌∙◌}
use Rattle.boot_verdict.specs.declared.checkpoint.Checkpoint.{Checkpoint}
use Rattle.growing_lists.specs.declared.session.Session.{Session}
use Rattle.boot_verdict.specs.Names.{most_after}
use Rattle.boot_verdict.proofs.ReplayLaws.{none_listed}
use Rattle.growing_lists.specs.Sessions.{HasTaken}
use Rattle.judging.specs.Inputs.{BytesOf, FileOf, HcrtmLogOf, StandardInput, Where, limit_of}

-- It counts no entries.
pub no_entries : (log : List ℕ) (session : Session) → HasTaken log [] session → session.checkpoint.entries ≡ 0
no_entries log session taken = taken.checkpoint.count ∙ ap length (none_listed taken.checkpoint.list_is)

-- As many bytes may follow as the input may have.
pub most_at_first : (place : Where) (known : Checkpoint) → known.entries ≡ 0 → known.bytes ≡ 0 → most_after known (limit_of place) ≡ limit_of place
most_at_first (FileOf name) known entries bytes = rw (entries, bytes) refl
most_at_first StandardInput known entries bytes = rw (entries, bytes) refl
most_at_first (HcrtmLogOf name) known entries bytes = rw (entries, bytes) refl
most_at_first (BytesOf all) known entries bytes = rw (entries, bytes) refl
