use Rattle.rz_shared_locked.proofs.Lasting as laws
use Rattle.rz_shared_locked.proofs.laws.answers.Goals as goal

pub returns : goal.returns
returns c = λ v. laws.answer-law v (c.next_run.ensures v) (c.nodes.ensures v) (c.node_kept.ensures v) (c.ask_kept.ensures v) c.words_kept.ensures c.actors_kept.ensures
