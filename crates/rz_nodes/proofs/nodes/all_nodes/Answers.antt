use Rattle.rz_nodes.proofs.NodeLemmas.{proper-nodes}
use Rattle.rz_nodes.proofs.nodes.all_nodes.Goals as goal

pub returns-clause-proper : goal.returns-clause-proper
returns-clause-proper c = proper-nodes c.args.volume.now c.node_count.ensures.rules

pub returns-in_err-nodes-clause-proper : goal.returns-in_err-nodes-clause-proper
returns-in_err-nodes-clause-proper c = proper-nodes c.args.volume.now c.node_count.ensures.rules

pub returns-in_err-add_clusters-clause-proper : goal.returns-in_err-add_clusters-clause-proper
returns-in_err-add_clusters-clause-proper c = proper-nodes c.args.volume.now c.node_count.ensures.rules
