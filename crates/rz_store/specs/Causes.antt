-- Why a call of a store did not do what it was asked.
use Rattle.std.specs.Prelude.{ℕ, ◌≡◌, ◌<◌, ◌≤◌, ◌+◌, ◌-◌, ◌*◌, ◌/◌, List, Some, count_by}
use Rattle.mj_angles.specs.declared.layout.Layout.{Layout}
use Rattle.mj_angles.specs.Layout.{block_bytes_of, forward_of, safe_of}
use Rattle.rz_events.specs.declared.tree.TreeCall.{TreeCall}
use Rattle.rz_events.specs.declared.tree.TreeCall.TheVariants as call
use Rattle.rz_events.specs.declared.files.Published.{Published}
use Rattle.rz_events.specs.declared.events.Word.TheVariants.{Export}
use Rattle.rz_export_model.specs.Export.{file_blocks}
use Rattle.rz_export_model.specs.Tree.{Found}
use Rattle.rz_core.specs.History.{facts, of_word}
use Rattle.rz_core.specs.ExportWord.{published}
use Rattle.rz_core.specs.ExportRows.{IsSpent}
use Rattle.rz_core.specs.Outcomes.{is_failure}
use Rattle.rz_chronicle.specs.Keys.{IsLater}
use Rattle.rz_safety.specs.Sound.{IsFew}
use Rattle.rz_contents.specs.Files.{IsFileAt, Refuses, key_in}
use Rattle.rz_store.specs.declared.faults.NameFault.{NameFault}
use Rattle.rz_store.specs.declared.faults.NameFault.TheVariants as names
use Rattle.rz_store.specs.declared.faults.ReadFault.{ReadFault}
use Rattle.rz_store.specs.declared.faults.ReadFault.TheVariants as read
use Rattle.rz_store.specs.declared.faults.WriteFault.{WriteFault}
use Rattle.rz_store.specs.declared.faults.WriteFault.TheVariants as write
use Rattle.rz_store.specs.Store.{StoreView, LooksSame, model_in}

-- Why a block is not read. Memory or the journal may be wanting at any time. Where nobody else acts none is disturbed, and over disks
-- that tell what they hold no records are found altered.
abbrev pub IsReadCause : StoreView → List ℕ → ℕ → ReadFault → Type 0
IsReadCause s path block (read.Names f) = Refuses (model_in s).names (call.OpenFile path) f
IsReadCause s path block read.TooFar = file_blocks ≤ block
-- of the positions that were published more did not give the record than can be spared
IsReadCause s path block (read.TooFew seen) =
    (file : Found) × (p : Published) × IsFileAt (model_in s).names path file
    × (published (facts s.log) (of_word Export s.log) (key_in file block) ≡ Some p) × IsFew s.volume p.mask seen
IsReadCause s path block read.Altered = ⊥
IsReadCause s path block read.Disturbed = ⊥
IsReadCause s path block (read.Stopped why) = Unit {0}

-- Why a block is not written.
abbrev pub IsWriteCause : StoreView → List ℕ → ℕ → WriteFault → Type 0
IsWriteCause s path block (write.Names f) = Refuses (model_in s).names (call.OpenFile path) f
IsWriteCause s path block write.TooFar = file_blocks ≤ block
IsWriteCause s path block write.StampsSpent = IsSpent (of_word Export s.log)
-- more positions failed than the layout has to spare
IsWriteCause s path block (write.TooFew causes) = safe_of s.volume.layout - forward_of s.volume.layout < count_by is_failure causes
IsWriteCause s path block (write.Unread f) = IsReadCause s path block f
IsWriteCause s path block write.Disturbed = ⊥
IsWriteCause s path block (write.Stopped why) = Unit {0}

-- Why a call on names is not done.
abbrev pub IsNameCause : StoreView → TreeCall → NameFault → Type 0
IsNameCause s c (names.Names f) = Refuses (model_in s).names c f
IsNameCause s c names.Disturbed = ⊥
IsNameCause s c (names.Stopped why) = Unit {0}

-- A call of several steps came to one that was not done: the cause was there then, when users saw what they see now.
pub record WasCause (is_cause : StoreView → Type 0) (old now : StoreView) : Type 0 where
  pub state : StoreView
  pub volume : state.volume ≡ old.volume
  pub from : IsLater old.log state.log
  pub to : IsLater state.log now.log
  pub looks : LooksSame state now
  pub cause : is_cause state

-- the block is one of those in which so many bytes from an offset on stand
pub record IsBlockOf (layout : Layout) (offset count block : ℕ) : Type 0 where
  pub low : offset / block_bytes_of layout ≤ block
  pub high : block * block_bytes_of layout ≤ offset + count
