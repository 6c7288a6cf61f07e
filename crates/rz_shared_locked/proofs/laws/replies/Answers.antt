use Rattle.rz_shared_locked.proofs.LockedExportLaws as laws
use Rattle.rz_shared_locked.proofs.laws.replies.Goals as goal

pub returns : goal.returns
returns c = λ v. laws.reply-law v (c.next_run.ensures v) (c.exports.ensures v) (c.export_kept.ensures v) (c.call_kept.ensures v) c.words_kept.ensures c.actors_kept.ensures
