-- What contracts see of a rebuilder, and what an answer makes of it.
use Rattle.std.specs.Prelude.{ℕ, Bool, true, ◌≡◌, ◌<◌, ◌≤◌, List, [], length, Option, Some, None, IsSomeAnd}
use Rattle.mj_angles.specs.declared.layout.Layout.{Layout}
use Rattle.mj_angles.specs.Layout.{safe_of, angle_of, bins_at_of}
use Rattle.mj_forward.specs.Forward.{projection_of}
use Rattle.mj_inverse.specs.Fits.{Pair}
use Rattle.rz_words.specs.Grid.{Grid}
use Rattle.rz_events.specs.declared.ends.RebuildEnd.{RebuildEnd}
use Rattle.rz_events.specs.declared.nodes.FetchAnswer.{FetchAnswer}
use Rattle.rz_events.specs.declared.nodes.FetchAnswer.TheVariants as fetch
use Rattle.rz_events.specs.declared.machines.ReaderAnswer.TheVariants as reads
use Rattle.rz_events.specs.declared.machines.RebuildAsk.{RebuildAsk}
use Rattle.rz_events.specs.declared.machines.RebuildAsk.TheVariants as ask
use Rattle.rz_events.specs.declared.machines.RebuildAnswer.{RebuildAnswer}
use Rattle.rz_events.specs.declared.machines.RebuildAnswer.TheVariants as told
use Rattle.rz_reader.specs.Fetched.{record_in}
use Rattle.rz_reader.specs.Machine.{pairs_at, pairs_if, AreFitting, IsOnly, search_of}
use Rattle.rz_operation_model.specs.Rebuild.{Rebuild, Going, Ended, RebuildState, Probing, Copying, Refilling, Leaving, IsRebuild, rebuild_ask, rebuild_told}

-- how far the rebuild of a node has come; the angles and bins of the records of the listed stamp while they are fetched;
-- and the block that fits them while it is refilled
pub record Machine : Type 0 where
  pub layout : Layout
  pub node : ℕ
  pub state : Rebuild
  pub pairs : List Pair
  pub block : Option Grid

-- the machine that begins to rebuild a node
abbrev pub machine_for : Layout → ℕ → Machine
machine_for layout n = record { layout = layout; node = n; state = Going Probing; pairs = []; block = None }

-- What it asks, and how it ended.

abbrev pub ask_in : ℕ → Rebuild → RebuildAsk
ask_in n (Going s) = rebuild_ask n s
ask_in n (Ended end) = ask.End

abbrev pub end_in : Rebuild → Option RebuildEnd
end_in (Going s) = None
end_in (Ended end) = Some end

-- a rebuild that is under way is one between two answers
abbrev pub IsUnderWay : Layout → ℕ → Rebuild → Type 0
IsUnderWay layout n (Going s) = IsRebuild layout n s
IsUnderWay layout n (Ended end) = Unit {0}

-- a position that is fetched is one of the layout
abbrev pub IsAskOf : Layout → RebuildAsk → Type 0
IsAskOf layout (ask.Fetch key position of stamp) = position < safe_of layout
IsAskOf layout a = Unit {0}

-- What an answer makes of it.

-- `fits` says whether the records that came fit a block
abbrev pub told_in : Layout → (fits : Bool) → Rebuild → RebuildAnswer → Rebuild
told_in layout fits (Going s) answer = rebuild_told layout fits s answer
told_in layout fits (Ended end) answer = Ended end

-- pairs are there while records are fetched
abbrev pub pairs_at_state : RebuildState → List Pair → List Pair
pairs_at_state (Copying t l base s) pairs = pairs_at s.stage pairs
pairs_at_state s pairs = []

abbrev pub pairs_in : Rebuild → List Pair → List Pair
pairs_in (Going s) pairs = pairs_at_state s pairs
pairs_in (Ended end) pairs = []

-- a record of the listed stamp adds one
abbrev pub pairs_fetched_at : Layout → RebuildState → List Pair → FetchAnswer → List ℕ → List Pair
pairs_fetched_at layout (Copying t l base s) pairs a bins = pairs_if layout pairs (record_in s.stage (reads.Fetched a)) bins
pairs_fetched_at layout s pairs a bins = pairs

abbrev pub pairs_fetched : Layout → Rebuild → List Pair → FetchAnswer → List ℕ → List Pair
pairs_fetched layout (Going s) pairs a bins = pairs_fetched_at layout s pairs a bins
pairs_fetched layout (Ended end) pairs a bins = pairs

-- a block is there while it is refilled, and is the one that fits
abbrev pub IsBlockAt : Layout → List Pair → RebuildState → Option Grid → Type 0
IsBlockAt layout pairs (Refilling t l size base) block = IsSomeAnd block (IsOnly (search_of layout pairs))
IsBlockAt layout pairs s block = block ≡ None

abbrev pub IsBlockIn : Layout → List Pair → Rebuild → Option Grid → Type 0
IsBlockIn layout pairs (Going s) block = IsBlockAt layout pairs s block
IsBlockIn layout pairs (Ended end) block = block ≡ None

-- the rebuild is this one after an answer; these were the pairs before it went on
pub record IsRebuildAfter (m : Machine) (had : List Pair) (next : Rebuild) (new : Machine) : Type 0 where
  pub layout : new.layout ≡ m.layout
  pub node : new.node ≡ m.node
  pub state : new.state ≡ next
  pub pairs : new.pairs ≡ pairs_in new.state had
  pub block : IsBlockIn m.layout had new.state new.block

-- where the records are enough, they fit exactly where some block has them
abbrev pub FitsIfEnough : Machine → RebuildAnswer → List ℕ → Machine → Type 0
FitsIfEnough m (told.Fetched a) bins new = (fits : Bool) × AreFitting m.layout (pairs_fetched m.layout m.state m.pairs a bins) fits
    × IsRebuildAfter m (pairs_fetched m.layout m.state m.pairs a bins) (told_in m.layout fits m.state (told.Fetched a)) new
FitsIfEnough m a bins new = IsRebuildAfter m m.pairs (told_in m.layout true m.state a) new

-- What calls need.

-- a record comes with the bins of the position that was asked
abbrev pub HasBinsAt : Layout → ℕ → FetchAnswer → List ℕ → Type 0
HasBinsAt layout position (fetch.Held r) bins = bins_at_of layout position ≤ length bins
HasBinsAt layout position a bins = Unit {0}

abbrev pub ComeWith : Layout → RebuildAsk → RebuildAnswer → List ℕ → Type 0
ComeWith layout (ask.Fetch key position of stamp) (told.Fetched a) bins = HasBinsAt layout position a bins
ComeWith layout question a bins = Unit {0}

-- it asks the node to have a record as a refill
abbrev pub IsRefillAsked : RebuildAsk → Type 0
IsRefillAsked (ask.Refill fence key stamp size position base) = Unit {0}
IsRefillAsked a = ⊥

-- the bins are those of the block that was found, at the position of the node
abbrev pub AreBinsFor : Layout → RebuildAsk → Option Grid → List ℕ → Type 0
AreBinsFor layout (ask.Refill fence key stamp size position base) block bins =
    IsSomeAnd block (λ g. bins ≡ projection_of g (angle_of layout position))
AreBinsFor layout a block bins = ⊥

abbrev pub AreBins : Machine → List ℕ → Type 0
AreBins m bins = AreBinsFor m.layout (ask_in m.node m.state) m.block bins

-- there are as many as the position has
abbrev pub IsCountFor : Layout → RebuildAsk → List ℕ → Type 0
IsCountFor layout (ask.Refill fence key stamp size position base) bins = length bins ≡ bins_at_of layout position
IsCountFor layout a bins = ⊥
