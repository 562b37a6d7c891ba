-- Whether a register is answered for.
use Rattle.std.specs.Prelude.{ℕ, ◌&&◌, Bool, true, false, List, [], ◌∷◌}
use Rattle.boot_log.specs.Names.{LogEvent}
use Rattle.measured_data.specs.declared.confirmed.Pcr.{Pcr}
use Rattle.measured_data.specs.Confirming.{has_answer}
use Rattle.boot_answers.specs.Extending.{extended_events}

abbrev pub is_some_event : List LogEvent → Bool
is_some_event [] = false
is_some_event (event ∷ events) = true

-- Whether an event is extended into the register.
abbrev pub has_events : ℕ → List LogEvent → Bool
has_events register events = is_some_event (extended_events register events)

-- Whether some bank answers for the register, and the log extends it. One without events has its value at reset: the boot left it to root.
abbrev pub is_answered : List Pcr → ℕ → List LogEvent → Bool
is_answered matched register events = has_answer matched register && has_events register events

-- The first where the test holds, the second where it fails.
abbrev pub Chosen : Bool → Type 0 → Type 0 → Type 0
Chosen true A B = A
Chosen false A B = B
