-- What came of each position in a read or a write, by the actor's own events since it began. The events at a position's
-- node tell it, and the newest counts: so a lost message hides the answer that came before it.
use Rattle.std.specs.Prelude.{ℕ, Bool, true, false, ◌==◌, ◌&&◌, ◌≡◌, ◌<◌, ◌≤◌, ◌+◌, ◌-◌, List, [], ◌∷◌, Option, Some, None, cond, count_by, replicate}
use Rattle.std.specs.List.{AllByRecursion}
use Rattle.mj_angles.specs.Layout.{inverse_of}
use Rattle.rz_events.specs.Volume.{Volume}
use Rattle.rz_events.specs.declared.keys.Key.{Key}
use Rattle.rz_events.specs.declared.records.Held.{Held}
use Rattle.rz_events.specs.declared.records.Change.{Change}
use Rattle.rz_events.specs.declared.records.Change.TheVariants as change
use Rattle.rz_events.specs.declared.ends.Why.{Why}
use Rattle.rz_events.specs.declared.ends.Why.TheVariants as why
use Rattle.rz_events.specs.declared.ends.Seen.{Seen}
use Rattle.rz_events.specs.declared.ends.Seen.TheVariants as seen
use Rattle.rz_events.specs.declared.events.Event.{Event}
use Rattle.rz_events.specs.declared.events.Event.TheVariants as e
use Rattle.rz_events.specs.Events.{same_key}
use Rattle.rz_core.specs.History.{Facts}
use Rattle.rz_core.specs.Own.{since, is_recheck}

-- A read.

abbrev pub seen_told : Option Held → Seen
seen_told None = seen.Nothing
seen_told (Some r) = seen.Held

-- the other refusals are not answers to a fetch
abbrev pub seen_refused : Why → Seen → Seen
seen_refused why.Down older = seen.Down
seen_refused why.Lost older = seen.Lost
seen_refused _ older = older

-- a disk fault of a fetch left no change undecided
abbrev pub seen_broke : Option Change → Seen → Seen
seen_broke None older = seen.DiskFault
seen_broke (Some c) older = older

-- what came of the fetch of a key's record with stamp s from node n
abbrev pub seen_at : Key → ℕ → ℕ → List Event → Seen
seen_at key s n [] = seen.NotAsked
seen_at key s n (e.Fetch by node at position asked answer ∷ o) =
    cond ((n == node) && same_key key at && (asked == s)) (seen_told answer) (seen_at key s n o)
seen_at key s n (e.Refused by node cause told ∷ o) =
    cond (n == node) (seen_refused cause (seen_at key s n o)) (seen_at key s n o)
seen_at key s n (e.Broke by node change ∷ o) =
    cond (n == node) (seen_broke change (seen_at key s n o)) (seen_at key s n o)
seen_at key s n (e.Missed by node reply ∷ o) = cond (n == node) seen.Missed (seen_at key s n o)
seen_at key s n (_ ∷ o) = seen_at key s n o

-- the outcomes of the positions from i on, whose nodes these are, in a table of sixteen
abbrev pub seens : Key → ℕ → List Event → ℕ → List ℕ → List Seen
seens key s o i [] = replicate (16 - i) seen.NotAsked
seens key s o i (n ∷ places) = seen_at key s n o ∷ seens key s o (i + 1) places

abbrev pub is_held : Seen → Bool
is_held seen.Held = true
is_held _ = false

abbrev pub is_asked : Seen → Bool
is_asked seen.NotAsked = false
is_asked _ = true

-- The read that began at the newest event that passes the test `start` came to too few records: each position was asked
-- since then, `told` has all outcomes, fewer records came than give the block, and no outcome is newer than the newest
-- recheck.
pub record IsShort (v : Volume) (f : Facts) (start : Event → Bool) (o : List Event) (key : Key) (s : ℕ) (told : List Seen) : Type 0 where
  pub places : List ℕ
  pub placed : f.places key.fid ≡ Some places
  pub asked : AllByRecursion (λ n. is_asked (seen_at key s n (since start o)) ≡ true) places
  pub told_is : told ≡ seens key s (since start o) 0 places
  pub few : count_by is_held told < inverse_of v.layout
  pub ended : AllByRecursion (λ n. is_asked (seen_at key s n (since is_recheck o)) ≡ false) places

-- The read that began there came to enough records.
pub record IsEnough (v : Volume) (f : Facts) (start : Event → Bool) (o : List Event) (key : Key) (s : ℕ) : Type 0 where
  pub places : List ℕ
  pub placed : f.places key.fid ≡ Some places
  pub many : inverse_of v.layout ≤ count_by is_held (seens key s (since start o) 0 places)

-- A write.

-- the publish was refused for this position
abbrev pub bars : Option (ℕ × ℕ) → ℕ → Bool
bars None position = false
bars (Some refused) position = position == refused.0

-- what came of a position, at node n, in the write of a key with stamp s
abbrev pub why_at : Key → ℕ → ℕ → ℕ → List Event → Why
why_at key s position n [] = why.NotAsked
why_at key s position n (e.Did by node (change.Keep at t p) ∷ o) =
    cond ((n == node) && same_key key at && (t == s)) why.Kept (why_at key s position n o)
why_at key s position n (e.Passed by node at t held ∷ o) =
    cond ((n == node) && same_key key at && (t == s)) why.Passed (why_at key s position n o)
why_at key s position n (e.Refused by node cause told ∷ o) = cond (n == node) cause (why_at key s position n o)
why_at key s position n (e.Broke by node change ∷ o) = cond (n == node) why.DiskFault (why_at key s position n o)
why_at key s position n (e.Missed by node reply ∷ o) = cond (n == node) why.Missed (why_at key s position n o)
why_at key s position n (e.Publish by at t mask refused ∷ o) =
    cond (same_key key at && (t == s) && bars refused position) why.Enrolled (why_at key s position n o)
why_at key s position n (_ ∷ o) = why_at key s position n o

-- the outcomes of the positions from i on, whose nodes these are, in a table of sixteen
abbrev pub whys : Key → ℕ → List Event → ℕ → List ℕ → List Why
whys key s o i [] = replicate (16 - i) why.NotAsked
whys key s o i (n ∷ places) = why_at key s i n o ∷ whys key s o (i + 1) places

-- a position that was asked and has not the record
abbrev pub is_failure : Why → Bool
is_failure why.NotAsked = false
is_failure why.Kept = false
is_failure why.Passed = false
is_failure _ = true
