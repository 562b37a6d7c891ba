use Rattle.std.proofs.Common.{refl}
use Rattle.event_data.specs.Names.{node_of}
use Rattle.event_data.proofs.NodeLaws.{node_takes, node_missing, nodes_more, nodes_last}
use Rattle.event_data.proofs.path.DevicePath.next_node.Goals as goal

pub returns-in-Ok-clause-node : goal.returns-in-Ok-clause-node
returns-in-Ok-clause-node c =
    let taken = node_takes c.args.self.now.rest.now (node_of c.in-Ok.node) c.in-Ok.rest.now c.args.self.now.fits c.in-Ok.ensures in
    (taken.prefix, taken.parts, taken.is)

pub returns-in-Ok-clause-shorter : goal.returns-in-Ok-clause-shorter
returns-in-Ok-clause-shorter c =
    (node_takes c.args.self.now.rest.now (node_of c.in-Ok.node) c.in-Ok.rest.now c.args.self.now.fits c.in-Ok.ensures).shorter

pub returns-in-Err-clause-none : goal.returns-in-Err-clause-none
returns-in-Err-clause-none c = (node_missing c.args.self.now.rest.now c.in-Err.field-0 c.in-Err.ensures, refl)

pub invariant_of-self : goal.invariant_of-self
invariant_of-self c = record {
  fits = (node_takes c.args.self.now.rest.now (node_of c.in-Ok.node) c.in-Ok.rest.now c.args.self.now.fits c.in-Ok.ensures).rest_fits;
}

pub returns-in-Ok-clause-more : goal.returns-in-Ok-clause-more
returns-in-Ok-clause-more c =
    nodes_more c.args.self.now.rest.now (node_of c.in-Ok.node) c.in-Ok.rest.now c.args.self.now.fits c.in-Ok.ensures

pub returns-in-Err-clause-last : goal.returns-in-Err-clause-last
returns-in-Err-clause-last c = nodes_last c.args.self.now.rest.now c.in-Err.field-0 c.in-Err.ensures
