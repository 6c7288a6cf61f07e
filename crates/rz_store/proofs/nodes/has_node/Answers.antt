use Rattle.rz_store.proofs.Found.{node-had}
use Rattle.rz_store.proofs.nodes.has_node.Goals as goal

pub returns : goal.returns
returns c = node-had c.args.volume.now c.args.number c.find_node.result c.find_node.ensures c.is_some.result c.is_some.ensures
