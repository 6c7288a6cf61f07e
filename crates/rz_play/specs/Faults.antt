-- What a log says of faults and losses. A node is armed from a `break` to its next start; its fuse lets so many passes of
-- the disk happen. The events here are those of one node's word, the newest first.
use Rattle.std.specs.Prelude.{ℕ, Bool, true, false, not, ◌&&◌, ◌+◌, ◌-◌, ◌==◌, ◌≡◌, ◌≤◌, nat_lt, cond, count_by, List, [], ◌∷◌, Option, Some, None}
use Rattle.rz_events.specs.declared.ends.Why.TheVariants as why
use Rattle.rz_events.specs.declared.events.Event.{Event}
use Rattle.rz_events.specs.declared.events.Event.TheVariants as e
use Rattle.rz_script.specs.declared.line.Line.{Line}
use Rattle.rz_script.specs.declared.line.Line.TheVariants as line

-- Passes.

-- so many passes are spent by an event
abbrev pub passes : Event → ℕ
passes (e.Did by node change) = 4
passes (e.Replace by node loss fence) = 4
passes (e.Broke by node change) = 4
passes (e.Refused by node why.DiskFault told) = 4
passes (e.Fetch by node key position stamp (Some r)) = 1
passes _ = 0

-- so many it needs itself: a fault of a fetch comes at one
abbrev pub own_passes : Event → ℕ
own_passes (e.Broke by node None) = 1
own_passes x = passes x

abbrev pub less : ℕ → Option ℕ → Option ℕ
less n None = None
less n (Some left) = Some (left - n)

-- the passes that the fuse still lets happen, or none where the node is not armed
abbrev pub fuse_of : List Event → Option ℕ
fuse_of [] = None
fuse_of (e.Armed node k pick ∷ w) = Some k
fuse_of (e.Start node took ∷ w) = None
fuse_of (e.Unopened node cause ∷ w) = None
fuse_of (x ∷ w) = less (passes x) (fuse_of w)

-- the fuse lets fewer than n happen
abbrev pub is_barred : Option ℕ → ℕ → Bool
is_barred None n = false
is_barred (Some left) n = nat_lt left n

-- Faults.

abbrev pub is_fault : Event → Bool
is_fault (e.Broke by node change) = true
is_fault (e.Refused by node why.DiskFault told) = true
is_fault (e.Unopened node cause) = cause == 2
is_fault _ = false

-- a fault is planned where the fuse lets fewer passes happen than it needs
abbrev pub is_unplanned : Option ℕ → Event → Bool
is_unplanned fuse x = is_fault x && not (is_barred fuse (own_passes x))

-- how many faults no fuse planned
abbrev pub unplanned : List Event → ℕ
unplanned [] = 0
unplanned (x ∷ w) = cond (is_unplanned (fuse_of w) x) 1 0 + unplanned w

-- an event happened though the fuse lets fewer passes happen than it needs
abbrev pub is_slip : Option ℕ → Event → Bool
is_slip fuse x = is_barred fuse (own_passes x) && not (is_fault x)

abbrev pub slips : List Event → ℕ
slips [] = 0
slips (x ∷ w) = cond (is_slip (fuse_of w) x) 1 0 + slips w

-- A node whose disk counted so many faults: no more were unplanned, and where there were none each `break` took effect.
pub record AreFaultsCounted (w : List Event) (counted : ℕ) : Type 0 where
  pub few : unplanned w ≤ counted
  pub effect : counted ≡ 0 → slips w ≡ 0

-- Losses.

abbrev pub is_missed : Event → Bool
is_missed (e.Missed by node reply) = true
is_missed _ = false

-- how many messages were lost by these events
abbrev pub missed : List Event → ℕ
missed h = count_by is_missed h

abbrev pub is_miss : Line → Bool
is_miss (line.Miss by reply) = true
is_miss _ = false

-- how many lines of a script say so
abbrev pub misses : List Line → ℕ
misses lines = count_by is_miss lines
