-- What a node asks of the arguments of any call, which calls read a record, use the disk or settle it, and what a call leaves
-- of its disk's meter.
use Rattle.std.specs.Prelude.{ℕ, ◌≡◌, ◌≢◌, ◌≤◌, true, List, Some, None, length}
use Rattle.mj_angles.specs.declared.layout.Layout.{Layout}
use Rattle.mj_angles.specs.Layout.{max_bins_of}
use Rattle.rz_events.specs.declared.nodes.NodeAsk.{NodeAsk}
use Rattle.rz_events.specs.declared.nodes.NodeAsk.TheVariants as ask
use Rattle.rz_events.specs.declared.nodes.NodeAnswer.{NodeAnswer}
use Rattle.rz_events.specs.declared.nodes.NodeAnswer.TheVariants as answer
use Rattle.rz_events.specs.declared.nodes.StartAnswer.{StartAnswer}
use Rattle.rz_events.specs.declared.nodes.StartAnswer.TheVariants as start
use Rattle.rz_events.specs.declared.nodes.ReplaceAnswer.TheVariants as replace
use Rattle.rz_events.specs.declared.records.Head.{Head}
use Rattle.rz_disk.specs.Meter.{Meter}
use Rattle.rz_record.specs.Record.{IsValid, bins_of}
use Rattle.rz_node.specs.Spends.{Spends, keep_used, fetch_used, refill_used, drop_used}
use Rattle.rz_node.specs.Opens.{Opens, Replaces, IsRefused, IsUnlooked}

-- the head of a record of this layout, and so many bins
pub record FitsLayout (layout : Layout) (head : Head) (bins : List ℕ) : Type 0 where
  pub valid : IsValid head
  pub layout_is : head.layout ≡ layout
  pub bins_are : length bins ≡ bins_of head

abbrev pub Takes : Layout → NodeAsk → List ℕ → Type 0
Takes layout (ask.Keep head) bins = FitsLayout layout head bins
Takes layout (ask.Refill fence head) bins = FitsLayout layout head bins
Takes layout (ask.Fetch key position stamp) bins = max_bins_of layout ≤ length bins
Takes layout _ bins = Unit {0}

-- what a start finds depends on the disk
abbrev pub IsNoStart : NodeAsk → Type 0
IsNoStart ask.Start = ⊥
IsNoStart question = Unit {0}

-- the answer gives no record that was read
abbrev pub IsUnread : NodeAnswer → Type 0
IsUnread (answer.Fetch a) = fetch_used a ≢ Some true
IsUnread _ = Unit {0}

-- the disk was not used
abbrev pub IsUnused : NodeAnswer → Type 0
IsUnused (answer.Keep a) = keep_used a ≡ None
IsUnused (answer.Fetch a) = fetch_used a ≡ None
IsUnused (answer.Refill a) = refill_used a ≡ None
IsUnused (answer.Drop a) = drop_used a ≡ None
IsUnused (answer.Start a) = IsUnlooked a
IsUnused (answer.Replace a) = IsRefused a
IsUnused _ = Unit {0}

-- the disk was read alone, if at all
abbrev pub IsReading : NodeAnswer → Type 0
IsReading (answer.Fetch a) = Unit {0}
IsReading (answer.Start a) = Unit {0}
IsReading _ = ⊥

-- the disk was opened, or made anew
abbrev pub IsSettled : NodeAnswer → Type 0
IsSettled (answer.Start (start.Started took)) = Unit {0}
IsSettled (answer.Replace replace.Replaced) = Unit {0}
IsSettled _ = ⊥

abbrev pub IfStart : NodeAnswer → (StartAnswer → Type 0) → Type 0
IfStart (answer.Start a) P = P a
IfStart _ P = Unit {0}

-- an opening makes so many device calls
abbrev pub CountsCall : ℕ → NodeAnswer → Meter → Meter → Type 0
CountsCall k (answer.Keep a) old new = Spends 4 (keep_used a) old new
CountsCall k (answer.Fetch a) old new = Spends 1 (fetch_used a) old new
CountsCall k (answer.Refill a) old new = Spends 4 (refill_used a) old new
CountsCall k (answer.Drop a) old new = Spends 4 (drop_used a) old new
CountsCall k (answer.Start a) old new = Opens k a old new
CountsCall k (answer.Replace a) old new = Replaces a old new
CountsCall k (answer.Probe a) old new = new ≡ old
CountsCall k (answer.Stop a) old new = new ≡ old
CountsCall k (answer.Lose a) old new = new ≡ old
