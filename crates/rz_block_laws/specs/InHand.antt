-- What an operation has in hand of a block that it reads, beside the facts of the log.
use Rattle.std.specs.Prelude.{ℕ, ◌≡◌, List, [], length, Option, Some, IsSomeAnd}
use Rattle.std.specs.List.{AllByRecursion}
use Rattle.mj_angles.specs.declared.layout.Layout.{Layout}
use Rattle.mj_forward.specs.Forward.{projection_of}
use Rattle.mj_inverse.specs.Fits.{Pair}
use Rattle.rz_words.specs.Grid.{Grid}
use Rattle.rz_events.specs.declared.keys.Key.{Key}
use Rattle.rz_events.specs.declared.ends.ReadMark.TheVariants as mark
use Rattle.rz_events.specs.declared.ends.LeftWhy.TheVariants as left
use Rattle.rz_client_model.specs.declared.reading.ReadStage.{ReadStage}
use Rattle.rz_client_model.specs.declared.reading.ReadStage.TheVariants.{Looking, Fetching, Ended}
use Rattle.rz_operation_model.specs.Rebuild.{RebuildState, Listing, Copying, Refilling, Leaving}
use Rattle.rz_operation_model.specs.Work.{Work, Reading, Rebuilding}
use Rattle.rz_core.specs.History.{Facts, Begun}
use Rattle.rz_core.specs.HeldRecords.{block_of}

-- the block of the write with this stamp, which is one of the key
pub record IsWriteBlock (y : Layout) (f : Facts) (key : Key) (stamp : ℕ) (g : Grid) : Type 0 where
  pub begun : Begun
  pub wrote : f.wrote stamp ≡ Some begun
  pub key_is : begun.key ≡ key
  pub block_is : g ≡ block_of y begun.text

-- an angle, and the projection of that block at it
abbrev pub IsPairOf : Layout → Facts → Key → ℕ → Pair → Type 0
IsPairOf y f key stamp pair = (g : Grid) × IsWriteBlock y f key stamp g × (pair.1 ≡ projection_of g pair.0)

-- Of a read: as many records came as are counted, each that of the write; and the block that was found is the write's. The
-- records always fit a block.
abbrev pub IsReadInHand : Layout → Facts → Key → List Pair → Option Grid → ReadStage → Type 0
IsReadInHand y f key pairs block Looking = pairs ≡ []
IsReadInHand y f key pairs block (Fetching t) = (length pairs ≡ t.given) × AllByRecursion (IsPairOf y f key t.stamp) pairs
IsReadInHand y f key pairs block (Ended (mark.Found stamp size)) = IsSomeAnd block (IsWriteBlock y f key stamp)
IsReadInHand y f key pairs block (Ended mark.Inconsistent) = ⊥
IsReadInHand y f key pairs block (Ended m) = Unit {0}

-- Of a rebuild: the same of the block that is read; while that is refilled it is the one of the stamp that was listed.
abbrev pub IsRebuildInHand : Layout → Facts → List Pair → Option Grid → RebuildState → Type 0
IsRebuildInHand y f pairs block (Listing t) = pairs ≡ []
IsRebuildInHand y f pairs block (Copying t l base s) = IsReadInHand y f l.key pairs block s.stage
IsRebuildInHand y f pairs block (Refilling t l size base) = IsSomeAnd block (IsWriteBlock y f l.key l.published.stamp)
IsRebuildInHand y f pairs block (Leaving t key left.Inconsistent) = ⊥
IsRebuildInHand y f pairs block s = Unit {0}

-- Of any operation.
abbrev pub IsInHand : Layout → Facts → Work → List Pair → Option Grid → Type 0
IsInHand y f (Reading course s) pairs block = IsReadInHand y f s.key pairs block s.stage
IsInHand y f (Rebuilding n s) pairs block = IsRebuildInHand y f pairs block s
IsInHand y f work pairs block = Unit {0}
