use Rattle.rz_core.proofs.NodeStates as laws
use Rattle.rz_core.proofs.states.Goals as goal

pub returns : goal.returns
returns c = laws.state-of
