use Rattle.rz_shared_locked.proofs.Lasting as laws
use Rattle.rz_shared_locked.proofs.laws.locked_node_kept.Goals as goal

pub returns : goal.returns
returns c = λ v. laws.node-later v (c.next_run.ensures v) (c.node_kept.ensures v) c.words_kept.ensures
