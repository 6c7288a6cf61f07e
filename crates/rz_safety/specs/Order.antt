-- In which order numbers and calls come. Histories have the newest event first.
use Rattle.std.specs.Prelude.{ℕ, ◌⊎◌, ◌<◌, ◌≤◌, List, [], ◌∷◌, None}
use Rattle.rz_events.specs.declared.keys.Key.{Key}
use Rattle.rz_events.specs.declared.keys.Actor.{Actor}
use Rattle.rz_events.specs.declared.events.Event.{Event}
use Rattle.rz_events.specs.declared.events.Event.TheVariants as e
use Rattle.rz_core.specs.History.{Has}
use Rattle.rz_safety.specs.Reads.{IsAcked}

-- the number was drawn as the stamp of a write
abbrev pub IsStamp : List Event → ℕ → Type 0
IsStamp h s = (by : Actor) × (key : Key) × (base : ℕ) × (text : List ℕ) × Has h (e.Begin by key s base text)

-- it was drawn as that of a write of the key
abbrev pub IsBegun : List Event → Key → ℕ → Type 0
IsBegun h key s = (by : Actor) × (base : ℕ) × (text : List ℕ) × Has h (e.Begin by key s base text)

-- the number was drawn as a fence
abbrev pub IsFence : List Event → ℕ → Type 0
IsFence h s = (by : Actor) × (node loss : ℕ) × Has h (e.Enroll by node loss s)

-- the number is above all that were drawn
abbrev pub IsNew : List Event → ℕ → Type 0
IsNew h n = (s : ℕ) → IsStamp h s ⊎ IsFence h s → s < n

-- the loss of the node was given this fence before
abbrev pub IsGiven : List Event → ℕ → ℕ → ℕ → Type 0
IsGiven h node loss fence = (by : Actor) × Has h (e.Enroll by node loss fence)

-- Each stamp is above all numbers that were drawn before it, and so is each fence, unless its loss was given it before.
abbrev pub AreRising : List Event → Type 0
AreRising [] = Unit {0}
AreRising (e.Begin by key stamp base text ∷ h) = AreRising h × IsNew h stamp
AreRising (e.Enroll by node loss fence ∷ h) = AreRising h × (IsGiven h node loss fence ⊎ IsNew h fence)
AreRising (_ ∷ h) = AreRising h

-- Each loss that is enrolled came before its enrolment, and the replacement of its disk, under the fence that it was
-- given, comes after it.
abbrev pub IsMendedInOrder : List Event → Type 0
IsMendedInOrder [] = Unit {0}
IsMendedInOrder (e.Enroll by node loss fence ∷ h) = IsMendedInOrder h × Has h (e.Lose node loss)
IsMendedInOrder (e.Replace by node loss fence ∷ h) = IsMendedInOrder h × Has h (e.Enroll by node loss fence)
IsMendedInOrder (_ ∷ h) = IsMendedInOrder h

-- Each write has as its base at least every stamp of the key that was acknowledged when it began. Each write that is acknowledged has
-- at least the stamp of every one of the key that was acknowledged, or that began, before: so a write of the key with a greater stamp
-- begins after it.
abbrev pub IsOrdered : List Event → Type 0
IsOrdered [] = Unit {0}
IsOrdered (e.Begin by key stamp base text ∷ h) = IsOrdered h × ((s : ℕ) → IsAcked h key s → (s ≤ base) × (s < stamp))
IsOrdered (e.Publish by key stamp mask None ∷ h) = IsOrdered h × ((s : ℕ) → IsAcked h key s ⊎ IsBegun h key s → s ≤ stamp)
IsOrdered (_ ∷ h) = IsOrdered h
