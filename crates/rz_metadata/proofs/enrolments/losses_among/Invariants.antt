use Rattle.std.proofs.Common.{◌≡◌, ◌++◌, drop, map}
use Rattle.rz_events.specs.declared.files.NodeSpec.{NodeSpec}
use Rattle.rz_metadata.specs.Enrolled.{loss_among}
use Rattle.rz_metadata.proofs.enrolments.losses_among.Given as goal

-- the losses so far and those of the nodes to come are all
abbrev pub invariant-loop-node : goal.invariant-loop-node
invariant-loop-node l = l.losses.items ++ map (λ (n : NodeSpec). loss_among n.sid l.enrolled) (drop l.node-index l.nodes) ≡ map (λ (n : NodeSpec). loss_among n.sid l.enrolled) l.nodes
