-- When a write is acknowledged, when a read began, and when a block is quiet. A history has the newest event first.
use Rattle.std.specs.Prelude.{ℕ, Bool, true, false, ◌≡◌, ◌⊎◌, ◌≤◌, ◌&&◌, List, [], ◌∷◌, Option, Some, None, cond}
use Rattle.rz_events.specs.declared.keys.Key.{Key}
use Rattle.rz_events.specs.declared.keys.Actor.{Actor}
use Rattle.rz_events.specs.declared.files.Published.{Published}
use Rattle.rz_events.specs.declared.records.Change.TheVariants as change
use Rattle.rz_events.specs.declared.ends.ReadEnd.{ReadEnd}
use Rattle.rz_events.specs.declared.ends.ReadEnd.TheVariants as read
use Rattle.rz_events.specs.declared.export.Asked.TheVariants as asked
use Rattle.rz_events.specs.declared.events.Word.TheVariants.{Export}
use Rattle.rz_events.specs.declared.events.Event.{Event}
use Rattle.rz_events.specs.declared.events.Event.TheVariants as e
use Rattle.rz_events.specs.Events.{by_of, same_actor}
use Rattle.rz_core.specs.History.{Has, of_word, of_actor}
use Rattle.rz_core.specs.ExportWord.{latest}
use Rattle.rz_core.specs.Own.{last, is_look, is_export}

-- The write of the key with stamp s was acknowledged: the export accepted its publish.
abbrev pub IsAcked : List Event → Key → ℕ → Type 0
IsAcked h key s = (by : Actor) × (mask : ℕ) × Has h (e.Publish by key s mask None)

-- the history before the actor's newest look
abbrev pub before_look : Actor → List Event → List Event
before_look a [] = []
before_look a (e.Look by key answer ∷ h) = cond (same_actor a by) h (before_look a h)
before_look a (_ ∷ h) = before_look a h

-- the history before the actor's newest event of the export's word
abbrev pub before_export : Actor → List Event → List Event
before_export a [] = []
before_export a (x ∷ h) = cond (same_actor a (by_of x) && is_export x) h (before_export a h)

abbrev pub is_look_denial : Option Event → Bool
is_look_denial (Some (e.Denied by (asked.Look key) why)) = true
is_look_denial _ = false

-- a read that ended so was denied at its look, and so had none
abbrev pub is_denied_look : Actor → List Event → ReadEnd → Bool
is_denied_look a h (read.Denied why) = is_look_denial (last is_export (of_actor a h))
is_denied_look a h _ = false

-- The history before a read began that ended so after h: before its look, or before the denial of it.
abbrev pub before_read : Actor → List Event → ReadEnd → List Event
before_read a h end = cond (is_denied_look a h end) (before_export a h) (before_look a h)

-- the look of a read of the key, which ended so after h, was told that p is published
pub record IsLookOf (a : Actor) (h : List Event) (end : ReadEnd) (key : Key) (p : Published) : Type 0 where
  pub there : is_denied_look a h end ≡ false
  pub told : last is_look (of_actor a h) ≡ Some (e.Look a key (Some p))

-- The key is quiet at s: that write is acknowledged, and no later write of the key began.
pub record IsQuiet (h : List Event) (key : Key) (s : ℕ) : Type 0 where
  pub acked : IsAcked h key s
  pub newest : latest (of_word Export h) key ≤ s

-- the node kept the write of the key, or was passed over with it
abbrev pub IsStored : List Event → ℕ → Key → ℕ → Type 0
IsStored h n key s = ((by : Actor) × (position : ℕ) × Has h (e.Did by n (change.Keep key s position)))
    ⊎ ((by : Actor) × (held : ℕ) × Has h (e.Passed by n key s held))

-- and this loss of the node came after that
abbrev pub IsLostSince : List Event → ℕ → Key → ℕ → ℕ → Type 0
IsLostSince [] n key s loss = ⊥
IsLostSince (e.Lose m l ∷ h) n key s loss = ((m ≡ n) × (l ≡ loss) × IsStored h n key s) ⊎ IsLostSince h n key s loss
IsLostSince (_ ∷ h) n key s loss = IsLostSince h n key s loss
