-- How a node answers each call. For a call that uses the disk, the answer is the one that a disk without faults gives,
-- as `keep_answer`, or a disk fault, which comes only in the place of one that needs the disk. `cells` is the number of
-- the pairs of cells of the node's disk, each of which holds the records of one key.
use Rattle.std.specs.Prelude.{ℕ, Bool, true, false, not, ◌==◌, ◌&&◌, ◌≡◌, ◌+◌, ◌-◌, ◌^◌, nat_le, Option, Some, None, is_some, IsSome, cond}
use Rattle.std.specs.FinMap as map
use Rattle.rz_events.specs.declared.keys.Key.{Key}
use Rattle.rz_events.specs.declared.records.Held.{Held}
use Rattle.rz_events.specs.declared.nodes.Phase.{Phase}
use Rattle.rz_events.specs.declared.nodes.Phase.TheVariants.{Up, Down, Lost}
use Rattle.rz_events.specs.declared.nodes.OpenFault.TheVariants as fault
use Rattle.rz_events.specs.declared.nodes.KeepAnswer.{KeepAnswer}
use Rattle.rz_events.specs.declared.nodes.KeepAnswer.TheVariants as keep
use Rattle.rz_events.specs.declared.nodes.RefillAnswer.{RefillAnswer}
use Rattle.rz_events.specs.declared.nodes.RefillAnswer.TheVariants as refill
use Rattle.rz_events.specs.declared.nodes.FetchAnswer.{FetchAnswer}
use Rattle.rz_events.specs.declared.nodes.FetchAnswer.TheVariants as fetch
use Rattle.rz_events.specs.declared.nodes.DropAnswer.{DropAnswer}
use Rattle.rz_events.specs.declared.nodes.DropAnswer.TheVariants as drop
use Rattle.rz_events.specs.declared.nodes.StartAnswer.{StartAnswer}
use Rattle.rz_events.specs.declared.nodes.StartAnswer.TheVariants as start
use Rattle.rz_events.specs.declared.nodes.ReplaceAnswer.{ReplaceAnswer}
use Rattle.rz_events.specs.declared.nodes.ReplaceAnswer.TheVariants as replace
use Rattle.rz_events.specs.declared.nodes.NodeAsk.{NodeAsk}
use Rattle.rz_events.specs.declared.nodes.NodeAsk.TheVariants as ask
use Rattle.rz_events.specs.declared.nodes.NodeAnswer.{NodeAnswer}
use Rattle.rz_events.specs.declared.nodes.NodeAnswer.TheVariants as answer
use Rattle.rz_node_model.specs.declared.pending.Pending.TheVariants as pending
use Rattle.rz_node_model.specs.Versions.{passes_keep, passes_refill, lesser_of}
use Rattle.rz_node_model.specs.Records.{Records, held_of, stamp_of, base_of, found, key_at, least_block, carried}
use Rattle.rz_node_model.specs.States.{NodeState}

-- the key is not held, and every pair holds a key
abbrev pub is_full : ℕ → Records → Key → Bool
is_full cells held key = not (map.contains_key held key) && nat_le cells (map.len held)

-- Keep: lost or down, then fenced, then passed over, then full.

abbrev pub keep_room : Bool → KeepAnswer
keep_room true = keep.Full
keep_room false = keep.Kept

abbrev pub keep_unless : Option ℕ → KeepAnswer → KeepAnswer
keep_unless None next = next
keep_unless (Some held) next = keep.Passed held

abbrev pub keep_in : Phase → KeepAnswer → KeepAnswer
keep_in Lost up = keep.Lost
keep_in Down up = keep.Down
keep_in Up up = up

abbrev pub keep_answer : ℕ → NodeState → Key → ℕ → KeepAnswer
keep_answer cells s key stamp =
    keep_in s.phase (cond (nat_le stamp s.fence) (keep.Fenced s.fence)
    (keep_unless (passes_keep stamp_of stamp (held_of s.held key)) (keep_room (is_full cells s.held key))))

-- a disk fault comes only in the place of `Kept`
abbrev pub IsKeepAnswer : KeepAnswer → KeepAnswer → Type 0
IsKeepAnswer sure keep.DiskFault = sure ≡ keep.Kept
IsKeepAnswer sure given = given ≡ sure

-- Refill: lost or down, then of another fence, then passed over, then full.

abbrev pub refill_room : Bool → RefillAnswer
refill_room true = refill.Full
refill_room false = refill.Kept

abbrev pub refill_unless : Option ℕ → RefillAnswer → RefillAnswer
refill_unless None next = next
refill_unless (Some held) next = refill.Passed held

abbrev pub refill_in : Phase → RefillAnswer → RefillAnswer
refill_in Lost up = refill.Lost
refill_in Down up = refill.Down
refill_in Up up = up

abbrev pub refill_answer : ℕ → NodeState → ℕ → Key → ℕ → RefillAnswer
refill_answer cells s fence key stamp =
    refill_in s.phase (cond (fence == s.fence)
    (refill_unless (passes_refill stamp_of base_of stamp (held_of s.held key)) (refill_room (is_full cells s.held key)))
    (refill.OtherFence s.fence))

abbrev pub IsRefillAnswer : RefillAnswer → RefillAnswer → Type 0
IsRefillAnswer sure refill.DiskFault = sure ≡ refill.Kept
IsRefillAnswer sure given = given ≡ sure

-- Fetch: the record of this very stamp.

abbrev pub fetch_found : Option Held → FetchAnswer
fetch_found None = fetch.Nothing
fetch_found (Some r) = fetch.Held r

abbrev pub fetch_in : Phase → FetchAnswer → FetchAnswer
fetch_in Lost up = fetch.Lost
fetch_in Down up = fetch.Down
fetch_in Up up = up

abbrev pub fetch_answer : NodeState → Key → ℕ → FetchAnswer
fetch_answer s key stamp = fetch_in s.phase (fetch_found (found stamp (held_of s.held key)))

abbrev pub IsFetchAnswer : FetchAnswer → FetchAnswer → Type 0
IsFetchAnswer sure fetch.DiskFault = (r : Held) × (sure ≡ fetch.Held r)
IsFetchAnswer sure given = given ≡ sure

-- Drop: the lesser version of the file's least block, and whether the file has another version or block.

abbrev pub drop_lesser : Records → ℕ → ℕ → Option Held → DropAnswer
drop_lesser held fid block None = drop.Nothing
drop_lesser held fid block (Some r) =
    drop.Dropped block r.stamp (is_some (least_block (carried (pending.Drop (key_at fid block) r.stamp) held) fid))

abbrev pub drop_least : Records → ℕ → Option ℕ → DropAnswer
drop_least held fid None = drop.Nothing
drop_least held fid (Some block) = drop_lesser held fid block (lesser_of (held_of held (key_at fid block)))

abbrev pub drop_in : Phase → DropAnswer → DropAnswer
drop_in Lost up = drop.Lost
drop_in Down up = drop.Down
drop_in Up up = up

abbrev pub drop_answer : NodeState → ℕ → DropAnswer
drop_answer s fid = drop_in s.phase (drop_least s.held fid (least_block s.held fid))

abbrev pub IsDropAnswer : DropAnswer → DropAnswer → Type 0
IsDropAnswer sure (drop.DiskFault block stamp) = (more : Bool) × (sure ≡ drop.Dropped block stamp more)
IsDropAnswer sure given = given ≡ sure

-- Probe, stop and lose. A node that lost 2^64 - 1 disks loses none.

abbrev pub probe_in : Phase → ℕ → Option ℕ
probe_in Lost losses = Some losses
probe_in Down losses = None
probe_in Up losses = None

abbrev pub probe_answer : NodeState → Option ℕ
probe_answer s = probe_in s.phase s.losses

abbrev pub stop_in : Phase → Bool
stop_in Lost = false
stop_in Down = false
stop_in Up = true

abbrev pub stop_answer : NodeState → Bool
stop_answer s = stop_in s.phase

abbrev pub next_loss : ℕ → Option ℕ
next_loss losses = cond (losses == 2 ^ 64 - 1) None (Some (losses + 1))

abbrev pub lose_in : Phase → ℕ → Option ℕ
lose_in Lost losses = None
lose_in Down losses = next_loss losses
lose_in Up losses = next_loss losses

abbrev pub lose_answer : NodeState → Option ℕ
lose_answer s = lose_in s.phase s.losses

-- Start: what the disk has, and whether it opens, is free. A change is found only where one was left undecided.

abbrev pub IsStartAnswer : NodeState → StartAnswer → Type 0
IsStartAnswer s start.NotDown = ¬ (s.phase ≡ Down)
IsStartAnswer s (start.Started took) = (s.phase ≡ Down) × (took ≡ true → IsSome s.undecided)
IsStartAnswer s start.NoMemory = s.phase ≡ Down
IsStartAnswer s (start.Unopened cause) = (s.phase ≡ Down) × ¬ (cause ≡ fault.NoMemory)

-- Replace: not lost, then of another loss.

abbrev pub replace_in : Phase → Bool → ℕ → ReplaceAnswer
replace_in Lost true losses = replace.Replaced
replace_in Lost false losses = replace.OtherLoss losses
replace_in Down same losses = replace.NotLost
replace_in Up same losses = replace.NotLost

abbrev pub replace_answer : NodeState → ℕ → ReplaceAnswer
replace_answer s loss = replace_in s.phase (loss == s.losses) s.losses

abbrev pub IsReplaceAnswer : ReplaceAnswer → ReplaceAnswer → Type 0
IsReplaceAnswer sure replace.DiskFault = sure ≡ replace.Replaced
IsReplaceAnswer sure replace.NoMemory = sure ≡ replace.Replaced
IsReplaceAnswer sure given = given ≡ sure

-- The answer of a node with so many cells, in this state, to any call: of the kind of the call, as said above.
abbrev pub IsNodeAnswer : ℕ → NodeState → NodeAsk → NodeAnswer → Type 0
IsNodeAnswer cells s (ask.Keep head) (answer.Keep given) = IsKeepAnswer (keep_answer cells s head.key head.stamp) given
IsNodeAnswer cells s (ask.Fetch key position stamp) (answer.Fetch given) = IsFetchAnswer (fetch_answer s key stamp) given
IsNodeAnswer cells s (ask.Refill fence head) (answer.Refill given) =
    IsRefillAnswer (refill_answer cells s fence head.key head.stamp) given
IsNodeAnswer cells s (ask.Drop fid) (answer.Drop given) = IsDropAnswer (drop_answer s fid) given
IsNodeAnswer cells s ask.Probe (answer.Probe given) = given ≡ probe_answer s
IsNodeAnswer cells s ask.Stop (answer.Stop given) = given ≡ stop_answer s
IsNodeAnswer cells s ask.Start (answer.Start given) = IsStartAnswer s given
IsNodeAnswer cells s ask.Lose (answer.Lose given) = given ≡ lose_answer s
IsNodeAnswer cells s (ask.Replace loss fence) (answer.Replace given) = IsReplaceAnswer (replace_answer s loss) given
IsNodeAnswer cells s _ _ = ⊥
