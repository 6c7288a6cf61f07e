use Rattle.rz_shared_locked.proofs.LockedExportLaws as laws
use Rattle.rz_shared_locked.proofs.laws.locked_export_kept.Goals as goal

pub returns : goal.returns
returns c = λ v. laws.locked_export-kept v (c.next_run.ensures v) (c.export_kept.ensures v) c.words_kept.ensures
