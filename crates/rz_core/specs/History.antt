-- A history is a list of events, the newest first.
use Rattle.std.specs.Prelude.{ℕ, ◌==◌, ◌≡◌, ◌⊎◌, List, [], ◌∷◌, Option, Some, None, cond, length, slice_get}
use Rattle.std.specs.List.{filter}
use Rattle.rz_events.specs.declared.keys.Key.{Key}
use Rattle.rz_events.specs.declared.keys.Actor.{Actor}
use Rattle.rz_events.specs.declared.tree.TreeReply.TheVariants as reply
use Rattle.rz_events.specs.declared.events.Word.{Word}
use Rattle.rz_events.specs.declared.events.Event.{Event}
use Rattle.rz_events.specs.declared.events.Event.TheVariants as e
use Rattle.rz_events.specs.Events.{by_of, word_of, same_actor, same_word}

-- the events of a word
abbrev pub of_word : Word → List Event → List Event
of_word w h = filter (λ x. same_word w (word_of x)) h

-- the own events of an actor
abbrev pub of_actor : Actor → List Event → List Event
of_actor a h = filter (λ x. same_actor a (by_of x)) h

-- the event stands in the history
abbrev pub Has : List Event → Event → Type 0
Has [] x = ⊥
Has (y ∷ h) x = (y ≡ x) ⊎ Has h x

-- What a write began with: who writes which block, which stamp was published then (0 for none), and the text.
pub record Begun : Type 0 where
  pub by : Actor
  pub key : Key
  pub base : ℕ
  pub text : List ℕ

-- the text of a write that began, or nothing
abbrev pub text_in : Option Begun → List ℕ
text_in None = []
text_in (Some b) = b.text

-- what an event says of the write with stamp s
abbrev pub begun_by : ℕ → Event → Option Begun
begun_by s (e.Begin by key stamp base text) =
    cond (s == stamp) (Some (record { by = by; key = key; base = base; text = text })) None
begun_by s _ = None

abbrev pub first_some : {A : Type 0} → Option A → Option A → Option A
first_some None b = b
first_some (Some a) b = Some a

-- the write with stamp s, by the first event that says it
abbrev pub wrote : List Event → ℕ → Option Begun
wrote [] s = None
wrote (x ∷ h) s = first_some (wrote h s) (begun_by s x)

-- the nodes of a file, by position, that an event gives it
abbrev pub placed_by : ℕ → Event → Option (List ℕ)
placed_by fid (e.Meta by call (reply.MadeFile info)) = cond (fid == info.fid) (Some info.places) None
placed_by fid _ = None

-- the nodes of a file, by position, as the first event that makes it says
abbrev pub places_of : List Event → ℕ → Option (List ℕ)
places_of [] fid = None
places_of (x ∷ h) fid = first_some (places_of h fid) (placed_by fid x)

-- The permanent facts, which never change once they stand: what each write began with, and where each file lies.
pub record Facts : Type 0 where
  pub wrote : ℕ → Option Begun
  pub places : ℕ → Option (List ℕ)

abbrev pub facts : List Event → Facts
facts h = record { wrote = wrote h; places = places_of h }

-- n is the node at a position of a file
abbrev pub IsPlace : Facts → ℕ → ℕ → ℕ → Type 0
IsPlace f fid position n = (places : List ℕ) × (f.places fid ≡ Some places) × (slice_get places position ≡ Some n)

-- the actor began the write of the key with stamp s
pub record IsWriter (f : Facts) (by : Actor) (key : Key) (s : ℕ) (b : Begun) : Type 0 where
  pub found : f.wrote s ≡ Some b
  pub by_is : b.by ≡ by
  pub key_is : b.key ≡ key

-- the base of a write that began
abbrev pub base_in : Option Begun → ℕ
base_in None = 0
base_in (Some b) = b.base

-- the length of its text
abbrev pub length_in : Option Begun → ℕ
length_in None = 0
length_in (Some b) = length b.text
