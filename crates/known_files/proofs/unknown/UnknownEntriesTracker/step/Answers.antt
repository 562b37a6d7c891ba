use Rattle.std.proofs.Common.{refl, sym}
use Rattle.known_files.proofs.UnknownLaws.{looked_next, none_added, not_so, told_nowhere}
use Rattle.known_files.proofs.unknown.UnknownEntriesTracker.step.Goals as goal

pub returns-in_default : goal.returns-in_default
returns-in_default c =
    let now = c.args.self.now in
    rw c.in_default.is (λ start events before at looked.
    looked_next start events before _ now now c.args.position at refl refl (λ texts files has knows. none_added now) (λ none. none_added now) looked)

pub returns-in_default-position : goal.returns-in_default-position
returns-in_default-position c =
    let now = c.args.self.now in
    λ start events before at looked.
    looked_next start events before _ now now c.args.position at refl refl
    (λ texts files has knows.
    rw (told_nowhere texts now.first c.args.position _ c.in_default-position.not-Entry) (none_added now)) (λ none. none_added now) looked

pub returns-then-is_unknown : goal.returns-then-is_unknown
returns-then-is_unknown c =
    let old = c.args.self.now in
    let new = c.tell.new.self in
    rw c.in-Entry.is (λ start events before at looked.
    looked_next start events before _ old new c.args.position at c.tell.ensures.known c.tell.ensures.first
    (λ texts files has knows.
    rw (c.in-Entry-position.is, sym (c.is_unknown.ensures.told texts files has knows), c.if-is_unknown.true) c.tell.ensures.added)
    (λ none. absurd (not_so (c.is_unknown.ensures.idle none) c.if-is_unknown.true)) looked)

pub returns-else-is_unknown : goal.returns-else-is_unknown
returns-else-is_unknown c =
    let now = c.args.self.now in
    rw c.in-Entry.is (λ start events before at looked.
    looked_next start events before _ now now c.args.position at refl refl
    (λ texts files has knows.
    rw (c.in-Entry-position.is, sym (c.is_unknown.ensures.told texts files has knows), c.if-is_unknown.false) (none_added now))
    (λ none. none_added now) looked)
