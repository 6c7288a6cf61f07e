-- What an actor's own events say.
use Rattle.std.specs.Prelude.{ℕ, Bool, true, false, not, ◌==◌, ◌&&◌, ◌≡◌, ◌<◌, List, [], ◌∷◌, Option, Some, None, cond, length}
use Rattle.std.specs.List.{AllByRecursion}
use Rattle.rz_events.specs.declared.keys.Key.{Key}
use Rattle.rz_events.specs.declared.keys.Actor.{Actor}
use Rattle.rz_events.specs.declared.files.Listed.{Listed}
use Rattle.rz_events.specs.declared.export.Asked.TheVariants as asked
use Rattle.rz_events.specs.declared.events.Word.TheVariants.{Export}
use Rattle.rz_events.specs.declared.events.Event.{Event}
use Rattle.rz_events.specs.declared.events.Event.TheVariants as e
use Rattle.rz_events.specs.Events.{same_key, same_word, word_of}
use Rattle.rz_node_model.specs.Versions.{Stands}

-- the newest event that passes a test
abbrev pub last : (Event → Bool) → List Event → Option Event
last test [] = None
last test (x ∷ o) = cond (test x) (Some x) (last test o)

-- the events that are newer than that one, or all where there is none
abbrev pub since : (Event → Bool) → List Event → List Event
since test [] = []
since test (x ∷ o) = cond (test x) [] (x ∷ since test o)

-- the events that are older than that one
abbrev pub before : (Event → Bool) → List Event → List Event
before test [] = []
before test (x ∷ o) = cond (test x) o (before test o)

-- the newest event
abbrev pub newest : List Event → Option Event
newest [] = None
newest (x ∷ o) = Some x

abbrev pub is_begin : Event → Bool
is_begin (e.Begin by key stamp base text) = true
is_begin _ = false

abbrev pub is_publish : Event → Bool
is_publish (e.Publish by key stamp mask refused) = true
is_publish _ = false

abbrev pub is_look : Event → Bool
is_look (e.Look by key answer) = true
is_look _ = false

abbrev pub is_next : Event → Bool
is_next (e.Next by node after answer) = true
is_next _ = false

-- a recheck, or the denial of one
abbrev pub is_recheck : Event → Bool
is_recheck (e.Recheck by key answer) = true
is_recheck (e.Denied by (asked.Recheck key) why) = true
is_recheck _ = false

-- an event of the export's word
abbrev pub is_export : Event → Bool
is_export x = same_word Export (word_of x)

-- an event that ends an operation
abbrev pub is_end : Event → Bool
is_end (e.Got by number key part end) = not part
is_end (e.Gave by number key part end) = not part
is_end (e.Done by number answer) = true
is_end _ = false

-- The positions at which these events fetched the record of a key with stamp s.
abbrev pub fetched_at : Key → ℕ → List Event → List ℕ
fetched_at key s [] = []
fetched_at key s (e.Fetch by node at position asked (Some r) ∷ o) =
    cond (same_key key at && (asked == s)) (position ∷ fetched_at key s o) (fetched_at key s o)
fetched_at key s (_ ∷ o) = fetched_at key s o

-- each number is below the one before it, so they are distinct
abbrev pub IsFalling : List ℕ → Type 0
IsFalling [] = Unit {0}
IsFalling (p ∷ ps) = AllByRecursion (λ q. q < p) ps × IsFalling ps

-- n distinct positions are among these
abbrev pub HasDistinct : ℕ → List ℕ → Type 0
HasDistinct n given = (ps : List ℕ) × IsFalling ps × (length ps ≡ n) × AllByRecursion (λ p. Stands p given) ps

-- the newest `Next` of the actor answered this block
pub record IsListing (o : List Event) (by : Actor) (node : ℕ) (key : Key) (l : Listed) : Type 0 where
  pub after : (after : Option Key) × (last is_next o ≡ Some (e.Next by node after (Some l)))
  pub key_is : l.key ≡ key

-- An operation of the actor is open: its newest event ends none. `run` has its own events of this run of the program.
abbrev pub IsOpen : List Event → Type 0
IsOpen [] = ⊥
IsOpen (x ∷ run) = is_end x ≡ false

-- no operation of the actor is open
abbrev pub IsBetween : List Event → Type 0
IsBetween [] = Unit {0}
IsBetween (x ∷ run) = is_end x ≡ true
