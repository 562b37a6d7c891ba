-- What contracts see of the events of one register, which are lent one after another.
use Rattle.std.specs.Prelude.{◌≡◌, ℕ, List}
use Rattle.boot_log.specs.Names.{HasBorrowed, LogEvent, unread}
use Rattle.boot_answers.specs.declared.register_events.RegisterEvents.{RegisterEvents}
use Rattle.boot_answers.specs.Extending.{extended_events}

-- These events of the log in the bytes were given: the first of those that are extended into the register.
pub record HasGiven (bytes : List ℕ) (register : ℕ) (given : List LogEvent) (lender : RegisterEvents) : Type 0 where
  pub read : List LogEvent
  pub borrowed : HasBorrowed bytes read lender.events
  pub register_is : lender.register ≡ register
  pub given_are : extended_events register read ≡ given

-- The bytes of the log that were not read yet.
abbrev pub unread_of : RegisterEvents → List ℕ
unread_of lender = unread lender.events
