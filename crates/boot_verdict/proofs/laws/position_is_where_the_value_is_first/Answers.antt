use Rattle.std.proofs.Common.{length, ap}
use Rattle.boot_verdict.specs.Names.{is_found, pcr_at_reset, steps_of}
use Rattle.boot_verdict.proofs.PositionLaws.{all_steps, match_found, position_tells}
use Rattle.boot_verdict.proofs.laws.position_is_where_the_value_is_first.Goals as goal

pub returns-clause-first : goal.returns-clause-first
returns-clause-first c = λ algs events entries e steps same.
    (position_tells (length events) e (pcr_at_reset algs events e.alg e.register) (steps_of events entries)).0 steps same

pub returns-clause-nowhere : goal.returns-clause-nowhere
returns-clause-nowhere c = λ algs events entries e steps same le.
    (position_tells (length events) e (pcr_at_reset algs events e.alg e.register) (steps_of events entries)).1 (ap is_found same) steps

pub returns-clause-all : goal.returns-clause-all
returns-clause-all c = all_steps

pub returns-clause-found : goal.returns-clause-found
returns-clause-found c = match_found
