-- The events that extend a register, in order.
--
-- The log is the attacker's. Where a register matches, the digests that extend it are those of the machine, in their order, but for a
-- break of the hash. Types, data that was not measured, and the order of events of several registers are claims.
use Rattle.std.specs.Prelude.{ℕ, List, filter}
use Rattle.boot_log.specs.Names.{LogEvent, is_extended_into}

-- The events that are extended into the register, in order.
abbrev pub extended_events : ℕ → List LogEvent → List LogEvent
extended_events register events = filter (is_extended_into register) events
