-- What a block contains, by a log, and what reads and writes tell of it. A history has the newest event first.
use Rattle.std.specs.Prelude.{ℕ, Bool, false, ◌≡◌, List, [], ◌∷◌, ◌++◌, Option, Some, None, cond}
use Rattle.std.specs.List.{AllByRecursion}
use Rattle.rz_events.specs.Volume.{Volume}
use Rattle.rz_events.specs.declared.keys.Key.{Key}
use Rattle.rz_events.specs.declared.keys.Actor.{Actor}
use Rattle.rz_events.specs.declared.ends.ReadEnd.{ReadEnd}
use Rattle.rz_events.specs.declared.ends.ReadEnd.TheVariants as read
use Rattle.rz_events.specs.declared.ends.WriteEnd.TheVariants as write
use Rattle.rz_events.specs.declared.events.Word.TheVariants.{Export}
use Rattle.rz_events.specs.declared.events.Event.{Event}
use Rattle.rz_events.specs.declared.events.Event.TheVariants as e
use Rattle.rz_events.specs.Events.{same_key}
use Rattle.rz_core.specs.History.{Begun, Facts, facts, of_word, IsWriter}
use Rattle.rz_core.specs.ExportWord.{accepted}
use Rattle.rz_core.specs.Legal.{IsLegalInRuns}
use Rattle.rz_safety.specs.Reads.{before_read}

-- the text that a write began with
abbrev pub text_begun : Option Begun → Option (List ℕ)
text_begun None = None
text_begun (Some b) = Some b.text

-- the text of the write that is published with this stamp and mask
abbrev pub text_of : Facts → Option (ℕ × ℕ) → Option (List ℕ)
text_of f None = None
text_of f (Some a) = text_begun (f.wrote a.0)

-- What a block contains: the text of the write that is published, or nothing where none is.
abbrev pub contents : List Event → Key → Option (List ℕ)
contents h key = text_of (facts h) (accepted (of_word Export h) key)

-- What an event makes of that: a publish that is accepted puts its write's text in the place of the block's, and no other event
-- changes any block.
abbrev pub contents_after : (Key → Option (List ℕ)) → Facts → Event → Key → Option (List ℕ)
contents_after was f (e.Publish by at stamp mask None) key = cond (same_key key at) (text_begun (f.wrote stamp)) (was key)
contents_after was f _ key = was key

-- Each event of a legal log does so.
abbrev pub ChangesByPublish : Volume → Type 0
ChangesByPublish v = (x : Event) (h : List Event) (key : Key) → IsLegalInRuns v (x ∷ h)
    → contents (x ∷ h) key ≡ contents_after (contents h) (facts h) x key

-- the event is a publish of the block that was accepted
abbrev pub publishes : Key → Event → Bool
publishes key (e.Publish by at stamp mask None) = same_key key at
publishes key _ = false

abbrev pub IsUnpublished : Key → List Event → Type 0
IsUnpublished key more = AllByRecursion (λ x. publishes key x ≡ false) more

-- While nobody publishes a block, it contains what it did.
abbrev pub StaysUnpublished : Volume → Type 0
StaysUnpublished v = (more h : List Event) (key : Key) → IsLegalInRuns v (more ++ h) → IsUnpublished key more
    → contents (more ++ h) key ≡ contents h key

-- A read that ended so tells what the block contained at this moment, if it tells a text.
abbrev pub TellsContents : List Event → Key → ReadEnd → Type 0
TellsContents at key (read.Found s text) = contents at key ≡ Some text
TellsContents at key read.Hole = contents at key ≡ None
TellsContents at key _ = Unit {0}

-- each read that a history tells of tells what its block contained when it began
abbrev pub AreReadsTrue : List Event → Type 0
AreReadsTrue [] = Unit {0}
AreReadsTrue (e.Got by number key part end ∷ h) = AreReadsTrue h × TellsContents (before_read by h end) key end
AreReadsTrue (_ ∷ h) = AreReadsTrue h

-- Where nobody published the block while it was read, it tells what the block contains.
abbrev pub IsReadUndisturbed : Volume → Type 0
IsReadUndisturbed v = (h more : List Event) (by : Actor) (number : ℕ) (key : Key) (part : Bool) (end : ReadEnd)
    → IsLegalInRuns v (e.Got by number key part end ∷ h) → more ++ before_read by h end ≡ h → IsUnpublished key more
    → TellsContents h key end

-- A write of the actor took effect: at its publish the block came to contain the text that the write began with.
pub record HasTakenEffect (h : List Event) (by : Actor) (key : Key) (stamp mask : ℕ) : Type 0 where
  pub before : List Event
  pub there : (more : List Event) × (more ++ (e.Publish by key stamp mask None ∷ before) ≡ h)
  pub begun : Begun
  pub writer : IsWriter (facts h) by key stamp begun
  pub contains : contents (e.Publish by key stamp mask None ∷ before) key ≡ Some begun.text

-- each write that a history tells the acknowledgement of took effect
abbrev pub AreWritesTrue : List Event → Type 0
AreWritesTrue [] = Unit {0}
AreWritesTrue (e.Gave by number key part (write.Acked stamp mask) ∷ h) = AreWritesTrue h × HasTakenEffect h by key stamp mask
AreWritesTrue (_ ∷ h) = AreWritesTrue h
