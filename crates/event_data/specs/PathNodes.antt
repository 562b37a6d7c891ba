-- What contracts see of a device path's nodes.
use Rattle.event_data.specs.declared.path.PathNode.{PathNode}
use Rattle.event_data.specs.Forms.{NodeData}

abbrev pub node_of : PathNode → NodeData
node_of node = record { kind = node.kind; subtype = node.subtype; payload = node.payload.now }
