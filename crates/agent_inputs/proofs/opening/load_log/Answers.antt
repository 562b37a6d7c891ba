use Rattle.std.proofs.Common.{arith}
use Rattle.agent_inputs.proofs.opening.load_log.Goals as goal

pub returns-clause-all : goal.returns-clause-all
returns-clause-all g c = record {
  log = c.in_ok-log.log.items;
  held = c.in_ok-log.ensures.all;
  within = omega (arith, c.in_ok-log.ensures.within);
  content_is = c.in_ok-content.ensures;
}
