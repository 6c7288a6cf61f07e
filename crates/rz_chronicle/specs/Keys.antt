-- The words of a book and the numbers of words and of actors. A log has the oldest event first, a history the newest.
use Rattle.std.specs.Prelude.{ℕ, Bool, ◌==◌, ◌||◌, ◌≡◌, ◌⊎◌, ◌<◌, ◌≤◌, ◌+◌, ◌-◌, ◌*◌, nat_le, List, [], ◌∷◌, ◌++◌, map, slice_get, Option, Some, None, if◌then◌else◌}
use Rattle.std.specs.List.{sum_by, filter}
use Rattle.std.specs.Option.{option_map}
use Rattle.rz_events.specs.declared.keys.Actor.{Actor}
use Rattle.rz_events.specs.declared.keys.Actor.TheVariants.{Client, Rebuilder, Admin}
use Rattle.rz_events.specs.declared.files.NodeSpec.{NodeSpec}
use Rattle.rz_events.specs.declared.events.Word.{Word}
use Rattle.rz_events.specs.declared.events.Word.TheVariants.{Export, Node, Own}
use Rattle.rz_events.specs.declared.events.Event.{Event}
use Rattle.rz_events.specs.Events.{by_of, word_of}
use Rattle.rz_events.specs.Volume.{Volume, nodes_of}

-- Keys: numbers of words and of actors.

-- no two actors have one number
abbrev pub number : Actor → ℕ
number (Client c) = 3 * c
number (Rebuilder r) = 3 * r + 1
number Admin = 2

-- no two words have one key, and none has an actor's
abbrev pub word_key : Word → ℕ
word_key Export = 0
word_key (Node n) = 4 * n + 1
word_key (Own a) = 4 * number a + 2

abbrev pub actor_key : Actor → ℕ
actor_key a = 4 * number a + 3

-- the keys are below this, since a node's number is below 2 ^ 16
unfoldable pub rows : ℕ
rows = 262144

-- the event moves the word with this key, or is by the actor with it
abbrev pub touches : ℕ → Event → Bool
touches k e = (word_key (word_of e) == k) || (actor_key (by_of e) == k)

abbrev pub events_at : ℕ → List Event → List Event
events_at k log = filter (touches k) log

abbrev pub count_at : ℕ → List Event → ℕ
count_at k log = sum_by (λ e. if touches k e then 1 else 0) log

-- the key is one of these
abbrev pub IsOneOf : ℕ → List ℕ → Type 0
IsOneOf k [] = ⊥
IsOneOf k (a ∷ keys) = (k ≡ a) ⊎ IsOneOf k keys

-- the key of the event's word is one of a book
abbrev pub IsInRow : Event → Type 0
IsInRow e = word_key (word_of e) < rows

-- the keys of an actor's pass
abbrev pub own_keys : Actor → List ℕ
own_keys a = word_key (Own a) ∷ actor_key a ∷ []

-- the newer list goes on from the older one, both with the newest event first
abbrev pub IsLater : List Event → List Event → Type 0
IsLater old new = (more : List Event) × (new ≡ more ++ old)

-- Places: where the words of a book stand.

-- the clients are 1 to 64, the rebuilders 1 to 16
abbrev pub IsMember : Actor → Type 0
IsMember (Client c) = (1 ≤ c) × (c ≤ 64)
IsMember (Rebuilder r) = (1 ≤ r) × (r ≤ 16)
IsMember Admin = Unit {0}

-- the numbers of a volume's nodes, in the order of the description
abbrev pub sids_of : Volume → List ℕ
sids_of v = map (λ (n : NodeSpec). n.sid) (nodes_of v.clusters)

-- Whose word stands at a place: the export's, then those of the nodes in the order of the description, of the clients, of the
-- rebuilders and of the administrator. A volume with fewer than 256 nodes leaves places that are nobody's.
abbrev pub owner : List ℕ → ℕ → Option Word
owner sids place =
    if place == 0 then Some Export
    else if nat_le place 256 then option_map Node (slice_get sids (place - 1))
    else if nat_le place 320 then Some (Own (Client (place - 256)))
    else if nat_le place 336 then Some (Own (Rebuilder (place - 320)))
    else Some (Own Admin)

-- the key of the word at a place; at one that is nobody's, a number that is no word's key
abbrev pub key_of_owner : ℕ → Option Word → ℕ
key_of_owner place (Some w) = word_key w
key_of_owner place None = 4 * place

abbrev pub key_at : List ℕ → ℕ → ℕ
key_at sids place = key_of_owner place (owner sids place)

-- no word stands at two places
abbrev pub StandApart : List ℕ → Type 0
StandApart sids = (i j : ℕ) (w : Word) → i < 338 → j < 338 → owner sids i ≡ Some w → owner sids j ≡ Some w → i ≡ j

-- how many events of its owner's word a history has
abbrev pub moves_of : Option Word → List Event → ℕ
moves_of (Some w) h = count_at (word_key w) h
moves_of None h = 0
