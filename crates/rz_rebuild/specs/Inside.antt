-- Where a rebuilder keeps the read of its block, and the bins of its refill.
use Rattle.std.specs.Prelude.{ℕ, ◌≡◌, ◌<◌, ◌≤◌, List, [], length, take, Option, None, IsSome, IsSomeAnd}
use Rattle.mj_angles.specs.declared.layout.Layout.{Layout}
use Rattle.mj_angles.specs.Layout.{angle_of, bins_at_of, max_bins_of, block_bytes_of}
use Rattle.mj_forward.specs.Forward.{projection_of}
use Rattle.mj_inverse.specs.Fits.{Pair}
use Rattle.rz_words.specs.Grid.{Grid}
use Rattle.rz_events.specs.declared.ends.LeftWhy.TheVariants as left
use Rattle.rz_events.specs.declared.ends.ReadMark.{ReadMark}
use Rattle.rz_events.specs.declared.ends.ReadMark.TheVariants as mark
use Rattle.rz_client_model.specs.declared.reading.ReaderState.{ReaderState}
use Rattle.rz_client_model.specs.declared.reading.ReadStage.{ReadStage}
use Rattle.rz_client_model.specs.declared.reading.ReadStage.TheVariants.{Looking, Fetching, Ended as EndedRead}
use Rattle.rz_reader.specs.Machine.{Machine as ReaderMachine}
use Rattle.rz_operation_model.specs.Rebuild.{Rebuild, Going, Ended, IsListed, IsFetchingStamp, Tally as TallyOf, Probing, Enrolling, Replacing, Listing, Copying, Refilling, Leaving, position_of}
use Rattle.rz_rebuild.specs.declared.step.RebuildStep.{RebuildStep}
use Rattle.rz_rebuild.specs.declared.step.RebuildStep.TheVariants as step
use Rattle.rz_rebuild.specs.declared.step.RebuildProgress.{RebuildProgress}
use Rattle.rz_rebuild.specs.declared.step.Copied.{Copied}
use Rattle.rz_rebuild.specs.Machine.{Machine}

-- What contracts see.

abbrev pub tally_of : RebuildProgress → TallyOf
tally_of t = record { fence = t.fence; after = t.after; refilled = t.refilled; left = t.left }

abbrev pub state_of : ReaderState → RebuildStep → Rebuild
state_of r step.Probing = Going Probing
state_of r (step.Enrolling loss) = Going (Enrolling loss)
state_of r (step.Replacing loss fence) = Going (Replacing loss fence)
state_of r (step.Listing t) = Going (Listing (tally_of t))
state_of r (step.Copying c) = Going (Copying (tally_of c.tally) c.listed c.base r)
state_of r (step.Refilling c length) = Going (Refilling (tally_of c.tally) c.listed length c.base)
state_of r (step.Leaving t key why) = Going (Leaving (tally_of t) key why)
state_of r (step.Ended end) = Ended end

abbrev pub pairs_of : RebuildStep → List Pair → List Pair
pairs_of (step.Copying c) pairs = pairs
pairs_of s pairs = []

abbrev pub block_in_step : RebuildStep → Option Grid → Option Grid
block_in_step (step.Refilling c length) block = block
block_in_step s block = None

abbrev pub machine_of : Layout → ℕ → ReaderMachine → RebuildStep → Machine
machine_of layout n r s =
    record { layout = layout; node = n; state = state_of r.state s; pairs = pairs_of s r.pairs; block = block_in_step s r.block }

-- What holds between two answers.

-- the listing was the look, and records of its stamp are fetched
abbrev pub IsListedRead : ℕ → ReadStage → Type 0
IsListedRead stamp Looking = ⊥
IsListedRead stamp (Fetching t) = t.stamp ≡ stamp
IsListedRead stamp (EndedRead end) = Unit {0}

abbrev pub IsCopied : Layout → ℕ → Copied → Type 0
IsCopied layout n c = IsListed layout n c.listed × (c.base < c.listed.published.stamp)

abbrev pub IsRebuildStep : Layout → ℕ → ReaderMachine → RebuildStep → Type 0
IsRebuildStep layout n r (step.Copying c) = IsCopied layout n c × IsFetchingStamp c.listed.published.stamp r.state.stage
IsRebuildStep layout n r (step.Refilling c size) = IsCopied layout n c × (size ≤ block_bytes_of layout) × IsSome r.block
IsRebuildStep layout n r s = Unit {0}

-- the first bins are those of the refill
abbrev pub IsProjected : Layout → ℕ → RebuildStep → Option Grid → List ℕ → Type 0
IsProjected layout n (step.Refilling c length) block bins = IsSomeAnd block
    (λ g. take (bins_at_of layout (position_of n c.listed)) bins ≡ projection_of g (angle_of layout (position_of n c.listed)))
IsProjected layout n s block bins = Unit {0}

pub record IsRebuilder (layout : Layout) (n : ℕ) (s : RebuildStep) (r : ReaderMachine) (bins : List ℕ) : Type 0 where
  pub room : length bins ≡ max_bins_of layout
  pub reader : r.state.layout ≡ layout
  pub step : IsRebuildStep layout n r s
  pub ready : IsProjected layout n s r.block bins

-- a step that reads no block and has none
abbrev pub IsStill : RebuildStep → Type 0
IsStill (step.Copying c) = ⊥
IsStill (step.Refilling c length) = ⊥
IsStill s = Unit {0}

-- how a rebuild goes on after the read of its block
abbrev pub step_after : Copied → ReadMark → RebuildStep
step_after c (mark.Found stamp length) = step.Refilling c length
step_after c (mark.TooFew seen) = step.Leaving c.tally c.listed.key left.TooFew
step_after c (mark.Moved was now) = step.Listing c.tally
step_after c (mark.Denied cause) = step.Leaving c.tally c.listed.key (left.Denied cause)
step_after c mark.Inconsistent = step.Leaving c.tally c.listed.key left.Inconsistent
step_after c mark.Hole = step.Listing c.tally
