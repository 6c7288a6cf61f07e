use Rattle.rz_chronicle.specs.Kinds.{volume_in}
use Rattle.rz_play_laws.proofs.Scripts.{node-of}
use Rattle.rz_threads.proofs.administration.carry_out.Goals as goal

pub order-requires-clause-node : goal.order-requires-clause-node
order-requires-clause-node g c = node-of (volume_in g.J.Naming.kind) c.in-Stop.node (rw c.in-Stop.is at c.requires.line)

pub order-requires-in-Start-clause-node : goal.order-requires-in-Start-clause-node
order-requires-in-Start-clause-node g c = node-of (volume_in g.J.Naming.kind) c.in-Start.node (rw c.in-Start.is at c.requires.line)

pub order-requires-in-Lose-clause-node : goal.order-requires-in-Lose-clause-node
order-requires-in-Lose-clause-node g c = node-of (volume_in g.J.Naming.kind) c.in-Lose.node (rw c.in-Lose.is at c.requires.line)

pub arm-requires-clause-node : goal.arm-requires-clause-node
arm-requires-clause-node g c = node-of (volume_in g.J.Naming.kind) c.in-Break.node (rw c.in-Break.is at c.requires.line).0

pub returns-in-Stop-clause-done : goal.returns-in-Stop-clause-done
returns-in-Stop-clause-done g c = rw c.in-Stop.is c.order.ensures.called

pub returns-in-Start-clause-done : goal.returns-in-Start-clause-done
returns-in-Start-clause-done g c = rw c.in-Start.is c.order-in-Start.ensures.called

pub returns-in-Lose-clause-done : goal.returns-in-Lose-clause-done
returns-in-Lose-clause-done g c = rw c.in-Lose.is c.order-in-Lose.ensures.called

pub returns-in-Break-clause-done : goal.returns-in-Break-clause-done
returns-in-Break-clause-done g c = rw c.in-Break.is c.arm.ensures.armed
