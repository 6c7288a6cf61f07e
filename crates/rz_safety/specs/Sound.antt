-- What each read gives. A history has the newest event first; `h` is the history before the event at hand.
use Rattle.std.specs.Prelude.{ℕ, true, not, ◌≡◌, ◌⊎◌, ◌<◌, ◌≤◌, ◌+◌, ◌-◌, ◌&&◌, List, [], ◌∷◌, Some, None, cond}
use Rattle.mj_angles.specs.Layout.{inverse_of, forward_of}
use Rattle.rz_events.specs.Volume.{Volume}
use Rattle.rz_events.specs.declared.keys.Key.{Key}
use Rattle.rz_events.specs.declared.keys.Actor.{Actor}
use Rattle.rz_events.specs.declared.files.Published.{Published}
use Rattle.rz_events.specs.declared.ends.Seen.{Seen}
use Rattle.rz_events.specs.declared.ends.ReadEnd.{ReadEnd}
use Rattle.rz_events.specs.declared.ends.ReadEnd.TheVariants as read
use Rattle.rz_events.specs.declared.events.Word.TheVariants.{Export}
use Rattle.rz_events.specs.declared.events.Event.{Event}
use Rattle.rz_events.specs.declared.events.Event.TheVariants as e
use Rattle.rz_events.specs.Masks.{has_bit, HasBit}
use Rattle.rz_core.specs.History.{Has, of_word, of_actor, facts, IsPlace}
use Rattle.rz_core.specs.ExportWord.{is_live, published}
use Rattle.rz_core.specs.Own.{last, is_look}
use Rattle.rz_core.specs.Outcomes.{is_held}
use Rattle.rz_safety.specs.Reads.{IsAcked, before_read, IsLookOf, IsQuiet, IsLostSince}

-- A read that found s: the text is that of one write; its look was told s; and s is the greatest stamp of the key that was
-- acknowledged before the read began.
pub record IsSoundFound (start h : List Event) (by : Actor) (key : Key) (s : ℕ) (text : List ℕ) : Type 0 where
  pub one_write : (writer : Actor) × (base : ℕ) × Has h (e.Begin writer key s base text)
  pub looked : (p : Published) × IsLookOf by h (read.Found s text) key p × (p.stamp ≡ s)
  pub acked : IsAcked start key s
  pub newest : (t : ℕ) → IsAcked start key t → t ≤ s

-- A read that found a hole: its look was told of no write, and none of the key was acknowledged before the read began.
pub record IsSoundHole (start h : List Event) (by : Actor) (key : Key) : Type 0 where
  pub looked : last is_look (of_actor by h) ≡ Some (e.Look by key None)
  pub none : (t : ℕ) → ¬ IsAcked start key t

-- A read never finds that records do not fit.
abbrev pub IsSoundEnd : List Event → List Event → Actor → Key → ReadEnd → Type 0
IsSoundEnd start h by key (read.Found s text) = IsSoundFound start h by key s text
IsSoundEnd start h by key read.Hole = IsSoundHole start h by key
IsSoundEnd start h by key read.Inconsistent = ⊥
IsSoundEnd start h by key (read.TooFew seen) = Unit {0}
IsSoundEnd start h by key (read.Moved was now) = Unit {0}
IsSoundEnd start h by key (read.Denied why) = Unit {0}

-- how many positions of a mask are not held, by the outcomes of the positions from i on
abbrev pub not_held : ℕ → ℕ → List Seen → ℕ
not_held mask i [] = 0
not_held mask i (x ∷ seen) = cond (has_bit mask i && not (is_held x)) 1 0 + not_held mask (i + 1) seen

-- more positions of the mask did not give the record than can be spared
abbrev pub IsFew : Volume → ℕ → List Seen → Type 0
IsFew v mask seen = forward_of v.layout - inverse_of v.layout < not_held mask 0 seen

-- The read moved: a greater stamp than the look was told was acknowledged after the look.
pub record IsMoved (start h : List Event) (key : Key) (p : Published) (was now : ℕ) : Type 0 where
  pub was_is : was ≡ p.stamp
  pub greater : p.stamp < now
  pub acked : IsAcked h key now
  pub later : ¬ IsAcked start key now

-- How a read may end whose look was told that p is published, and whose file is live at its end: it finds that write, or
-- it moved, or too many positions of the write's mask did not give its record.
abbrev pub IsReached : Volume → List Event → List Event → Key → Published → ReadEnd → Type 0
IsReached v start h key p (read.Found s text) = s ≡ p.stamp
IsReached v start h key p (read.TooFew seen) = IsFew v p.mask seen
IsReached v start h key p (read.Moved was now) = IsMoved start h key p was now
IsReached v start h key p _ = ⊥

-- a read that ended after h
pub record IsSoundRead (v : Volume) (h : List Event) (by : Actor) (key : Key) (end : ReadEnd) : Type 0 where
  pub right : IsSoundEnd (before_read by h end) h by key end
  pub reached : (p : Published) → IsLookOf by h end key p → is_live (of_word Export h) key.fid ≡ true
      → IsReached v (before_read by h end) h key p end

-- A node of the published mask of a live file that has not the published record was lost after it kept that write, or
-- was passed over with it.
abbrev pub IsSoundMiss : List Event → ℕ → Key → ℕ → Type 0
IsSoundMiss h n key s = (p : Published) (q : ℕ) → is_live (of_word Export h) key.fid ≡ true
    → published (facts h) (of_word Export h) key ≡ Some p → p.stamp ≡ s → HasBit p.mask q → IsPlace (facts h) key.fid q n
    → (loss : ℕ) × IsLostSince h n key s loss

abbrev pub IsSoundEvent : Volume → List Event → Event → Type 0
IsSoundEvent v h (e.Got by number key part end) = IsSoundRead v h by key end
IsSoundEvent v h (e.Fetch by n key position s None) = IsSoundMiss h n key s
IsSoundEvent v h _ = Unit {0}

-- A history is sound where each read that it tells of is, and each fetch that found nothing.
abbrev pub IsSound : Volume → List Event → Type 0
IsSound v [] = Unit {0}
IsSound v (x ∷ h) = IsSound v h × IsSoundEvent v h x

-- how a read answers that was told p: by that write, unless more of its nodes than can be spared did not give its record
abbrev pub IsReadAnswer : Volume → Published → ReadEnd → Type 0
IsReadAnswer v p (read.Found s text) = s ≡ p.stamp
IsReadAnswer v p (read.TooFew seen) = IsFew v p.mask seen
IsReadAnswer v p _ = ⊥

-- the look of the read was told s, and the read answers by it
pub record IsAnsweredBy (v : Volume) (h : List Event) (by : Actor) (key : Key) (s : ℕ) (end : ReadEnd) : Type 0 where
  pub published : Published
  pub look : IsLookOf by h end key published
  pub stamp_is : published.stamp ≡ s
  pub answer : IsReadAnswer v published end

-- What a client may count on. Where the key is quiet at s at a read's end, and its file is live then, the read was told s
-- and answers by it, or s was acknowledged only after the read began.
abbrev pub IsAnswered : Volume → List Event → Event → Type 0
IsAnswered v h (e.Got by number key part end) = (s : ℕ) → IsQuiet h key s → is_live (of_word Export h) key.fid ≡ true
    → IsAnsweredBy v h by key s end ⊎ ¬ IsAcked (before_read by h end) key s
IsAnswered v h _ = Unit {0}

abbrev pub IsAnswering : Volume → List Event → Type 0
IsAnswering v [] = Unit {0}
IsAnswering v (x ∷ h) = IsAnswering v h × IsAnswered v h x
