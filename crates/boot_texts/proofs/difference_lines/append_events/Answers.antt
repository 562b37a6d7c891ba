use Rattle.std.proofs.Common.{List, ℕ, [], ◌∷◌, ◌++◌, ◌≡◌, ◌+◌, ◌-◌, ◌≤◌, ◌<◌, cond, drop, false, get_or, ap, append-nil, arith, sym, ◌∙◌}
use Rattle.boot_log.specs.Names.{LogEvent, log_event_of}
use Rattle.boot_log.proofs.LogLaws.{one_reading}
use Rattle.boot_texts.specs.Differences.{event_line, lines_from}
use Rattle.boot_texts.proofs.DifferenceLaws.{count_of, first_mark_is, joined, later_marks, no_lines, other_count, other_lines, own_count, passed_lines, told_lines}
use Rattle.boot_texts.proofs.difference_lines.append_events.Goals as goal

pub loop-event-init : goal.loop-event-init
loop-event-init c =
    let marks = c.args.marks.now in
    let lines = c.args.lines.now.items in
    let none : count_of c.args.line.register [] - c.args.place ≡ 0 = omega arith in (
      [],
      c.events-events.ensures.none,
      omega arith,
      ap (λ (n : ℕ). drop n marks) (sym none),
      sym (append-nil lines) ∙ ap (λ (l : List ℕ). lines ++ l) (sym (no_lines c.args.boot c.args.line c.args.place marks)),
    )

pub loop-event-preserved-then-not-is_extended_into : goal.loop-event-preserved-then-not-is_extended_into
loop-event-preserved-then-not-is_extended_into c =
    let event = log_event_of c.in-Some.event in
    let (read, borrowed, left, later, text) = c.loop-event.invariant in
    let other = sym c.is_extended_into.ensures ∙ c.if-not-is_extended_into.true in
    let boot = c.args.boot in
    let line = c.args.line in
    let place = c.args.place in
    let marks = c.args.marks.now in
    let same = other_count boot line place marks read event other in (
      read ++ event ∷ [],
      (rw c.in-Some.is at c.next_event.ensures.event) _ read borrowed,
      omega (arith, left, same),
      later ∙ ap (λ (n : ℕ). drop (n - place) marks) (sym same),
      text ∙ ap (λ (l : List ℕ). c.args.lines.now.items ++ l) (sym (other_lines boot line place marks read event other)),
    )

pub loop-event-preserved-then-left-gt0 : goal.loop-event-preserved-then-left-gt0
loop-event-preserved-then-left-gt0 c =
    let event = log_event_of c.in-Some.event in
    let (read, borrowed, left, later, text) = c.loop-event.invariant in
    let own = sym c.is_extended_into.ensures ∙ c.if-not-is_extended_into.false in
    let boot = c.args.boot in
    let line = c.args.line in
    let place = c.args.place in
    let marks = c.args.marks.now in
    let before : count_of line.register read < place = omega (arith, left, c.if-left-gt0.true) in
    let one_more = own_count boot line place marks read event own in
    let none : count_of line.register read - place ≡ count_of line.register (read ++ event ∷ []) - place = omega (arith, before, one_more) in (
      read ++ event ∷ [],
      (rw c.in-Some.is at c.next_event.ensures.event) _ read borrowed,
      omega (arith, left, one_more, c.if-left-gt0.true),
      later ∙ ap (λ (n : ℕ). drop n marks) none,
      text ∙ ap (λ (l : List ℕ). c.args.lines.now.items ++ l) (sym (passed_lines boot line place marks read event own before)),
    )

pub loop-event-preserved : goal.loop-event-preserved
loop-event-preserved c =
    let event = log_event_of c.in-Some.event in
    let (read, borrowed, left, later, text) = c.loop-event.invariant in
    let more = (rw c.in-Some.is at c.next_event.ensures.event) _ read borrowed in
    let own = sym c.is_extended_into.ensures ∙ c.if-not-is_extended_into.false in
    let boot = c.args.boot in
    let line = c.args.line in
    let place = c.args.place in
    let marks = c.args.marks.now in
    let count = count_of line.register read in
    let within : place ≤ count = omega (arith, left, c.if-left-gt0.false) in
    let number = c.count-number.result in
    let one_more = own_count boot line place marks read event own in
    let told = told_lines boot line place marks read event number own within (c.count-number.ensures _ (read ++ event ∷ []) more) in
    let mark = c.first_mark-is_common.ensures.mark ∙ first_mark_is marks c.loop-event.later.now (count - place) later in
    let added = cond (get_or marks (count - place) false) [] (event_line boot line number event) in
    let appended = rw mark at c.in_ok-append_unless.ensures in
    let next : count - place + 1 ≡ count_of line.register (read ++ event ∷ []) - place = omega (arith, within, one_more) in (
      read ++ event ∷ [],
      more,
      omega (arith, left, one_more, c.if-left-gt0.false),
      c.first_mark-is_common.ensures.rest ∙ later_marks marks c.loop-event.later.now (count - place) later ∙ ap (λ (n : ℕ). drop n marks) next,
      joined _ _ _ (lines_from boot line place marks read) added text appended
          ∙ ap (λ (l : List ℕ). c.args.lines.now.items ++ l) (sym told),
    )

pub returns : goal.returns
returns c = λ table events is.
    let (read, borrowed, left, later, text) = c.loop-event.invariant in
    let whole = (rw c.in_default.is at c.next_event.ensures.end) _ read borrowed in
    text ∙ ap (λ (es : List LogEvent). c.args.lines.now.items ++ lines_from c.args.boot c.args.line c.args.place c.args.marks.now es)
    (one_reading _ whole.0 table read events whole.1 is).1
