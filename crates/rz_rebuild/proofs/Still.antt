-- A rebuild that reads no block has no pairs and no block.
use Rattle.std.proofs.Common.{◌≡◌, ℕ, List, Option, refl, true}
use Rattle.mj_angles.specs.declared.layout.Layout.{Layout}
use Rattle.mj_inverse.specs.Fits.{Pair}
use Rattle.rz_words.specs.Grid.{Grid}
use Rattle.rz_events.specs.declared.machines.RebuildAnswer.{RebuildAnswer}
use Rattle.rz_events.specs.declared.machines.RebuildAnswer.TheVariants as told
use Rattle.rz_client_model.specs.declared.reading.ReaderState.{ReaderState}
use Rattle.rz_operation_model.specs.Rebuild.{Rebuild}
use Rattle.rz_reader.specs.Machine.{Machine as ReaderMachine}
use Rattle.rz_rebuild.specs.declared.step.RebuildStep.{RebuildStep}
use Rattle.rz_rebuild.specs.declared.step.RebuildStep.TheVariants as step
use Rattle.rz_rebuild.specs.Machine.{Machine, IsRebuildAfter, FitsIfEnough, IsBlockIn, pairs_in, told_in}
use Rattle.rz_rebuild.specs.Kinds.{IsProbed, IsEnrolled, IsReplaced, IsRefillDone}
use Rattle.rz_rebuild.specs.Inside.{IsStill, block_in_step, machine_of, pairs_of, state_of}

pairs-still : (r : ReaderState) (s : RebuildStep) (pairs had : List Pair) → IsStill s → pairs_of s pairs ≡ pairs_in (state_of r s) had
pairs-still r step.Probing pairs had h = refl
pairs-still r (step.Enrolling loss) pairs had h = refl
pairs-still r (step.Replacing loss fence) pairs had h = refl
pairs-still r (step.Listing t) pairs had h = refl
pairs-still r (step.Copying c) pairs had h = absurd h
pairs-still r (step.Refilling c size) pairs had h = absurd h
pairs-still r (step.Leaving t key why) pairs had h = refl
pairs-still r (step.Ended end) pairs had h = refl

block-still : (layout : Layout) (r : ReaderState) (s : RebuildStep) (had : List Pair) (block : Option Grid) → IsStill s →
    IsBlockIn layout had (state_of r s) (block_in_step s block)
block-still layout r step.Probing had block h = refl
block-still layout r (step.Enrolling loss) had block h = refl
block-still layout r (step.Replacing loss fence) had block h = refl
block-still layout r (step.Listing t) had block h = refl
block-still layout r (step.Copying c) had block h = absurd h
block-still layout r (step.Refilling c size) had block h = absurd h
block-still layout r (step.Leaving t key why) had block h = refl
block-still layout r (step.Ended end) had block h = refl

goes-still : (layout : Layout) (n : ℕ) (r : ReaderMachine) (was s : RebuildStep) (had : List Pair) (next : Rebuild) → IsStill s →
    state_of r.state s ≡ next → IsRebuildAfter (machine_of layout n r was) had next (machine_of layout n r s)
goes-still layout n r was s had next h is = record {
  layout = refl;
  node = refl;
  state = is;
  pairs = pairs-still r.state s r.pairs had h;
  block = block-still layout r.state s had r.block h;
}

-- no record came
abbrev pub IsPlain : RebuildAnswer → Type 0
IsPlain (told.Fetched a) = ⊥
IsPlain a = Unit {0}

answered : (m : Machine) (a : RebuildAnswer) (bins : List ℕ) (new : Machine) → IsPlain a →
    IsRebuildAfter m m.pairs (told_in m.layout true m.state a) new → FitsIfEnough m a bins new
answered m (told.Probed loss) bins new h g = g
answered m (told.Enrolled fence) bins new h g = g
answered m (told.Denied cause) bins new h g = g
answered m (told.Replaced a) bins new h g = g
answered m (told.Listed l) bins new h g = g
answered m (told.Fetched a) bins new h g = absurd h
answered m (told.Refilled a) bins new h g = g
answered m told.Missed bins new h g = g
answered m told.Noted bins new h g = g
answered m (told.Rechecked p) bins new h g = g

pub answered-still : (layout : Layout) (n : ℕ) (r : ReaderMachine) (was s : RebuildStep) (a : RebuildAnswer) (bins : List ℕ) → IsPlain a → IsStill s →
    state_of r.state s ≡ told_in layout true (state_of r.state was) a → FitsIfEnough (machine_of layout n r was) a bins (machine_of layout n r s)
answered-still layout n r was s a bins plain h is = answered (machine_of layout n r was) a bins (machine_of layout n r s) plain
    (goes-still layout n r was s (pairs_of was r.pairs) (told_in layout true (state_of r.state was) a) h is)

-- what is told of no read brings no record
pub plain-probed : (a : RebuildAnswer) → IsProbed a → IsPlain a
plain-probed (told.Fetched a) h = h
plain-probed _ h = tt

pub plain-enrolled : (a : RebuildAnswer) → IsEnrolled a → IsPlain a
plain-enrolled (told.Fetched a) h = h
plain-enrolled _ h = tt

pub plain-replaced : (a : RebuildAnswer) → IsReplaced a → IsPlain a
plain-replaced (told.Fetched a) h = h
plain-replaced _ h = tt

pub plain-refilled : (a : RebuildAnswer) → IsRefillDone a → IsPlain a
plain-refilled (told.Fetched a) h = h
plain-refilled _ h = tt
