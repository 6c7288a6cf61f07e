-- The positions of a file: what came of each, and how many gave a record. Own events have the newest first.
use Rattle.std.specs.Prelude.{ℕ, ◌≡◌, List, [], ◌∷◌, Option, Some, None, length, slice_get, slice_set}
use Rattle.std.specs.List.{AllByRecursion}
use Rattle.rz_events.specs.declared.keys.Key.{Key}
use Rattle.rz_events.specs.declared.keys.Actor.{Actor}
use Rattle.rz_events.specs.declared.ends.Why.TheVariants as why
use Rattle.rz_events.specs.declared.events.Word.{Word}
use Rattle.rz_events.specs.declared.events.Word.TheVariants.{Node}
use Rattle.rz_events.specs.declared.events.Event.{Event}
use Rattle.rz_events.specs.declared.events.Event.TheVariants as e
use Rattle.rz_events.specs.Events.{word_of}
use Rattle.rz_node_model.specs.Versions.{Stands}
use Rattle.rz_core.specs.Own.{HasDistinct}
use Rattle.rz_core.specs.Outcomes.{seen_at, seens, why_at, whys}

-- no two of these are equal
abbrev pub AreApart : List ℕ → Type 0
AreApart [] = Unit {0}
AreApart (p ∷ ps) = AllByRecursion (λ q. ¬ (p ≡ q)) ps × AreApart ps

-- Positions that gave a record, no two of them equal, are as many distinct ones, in whatever order they come.
abbrev pub IsInAnyOrder : List ℕ → Type 0
IsInAnyOrder given = (ps : List ℕ) → AreApart ps → AllByRecursion (λ p. Stands p given) ps → HasDistinct (length ps) given

abbrev pub node_of : Word → Option ℕ
node_of (Node n) = Some n
node_of _ = None

-- the node that an event tells an outcome of
abbrev pub node_in : Event → Option ℕ
node_in (e.Missed by node reply) = Some node
node_in x = node_of (word_of x)

-- The tables of outcomes of a key's file, which are by node, are by position too: each position has the outcome of its
-- node, an event of a node changes the outcome of that node's position alone, and a publish that is refused for a position
-- changes that of this position alone.
pub record AreByPosition (key : Key) (s : ℕ) (places : List ℕ) (o : List Event) : Type 0 where
  pub seen_is : (p n : ℕ) → slice_get places p ≡ Some n → slice_get (seens key s o 0 places) p ≡ Some (seen_at key s n o)
  pub why_is : (p n : ℕ) → slice_get places p ≡ Some n → slice_get (whys key s o 0 places) p ≡ Some (why_at key s p n o)
  pub seen_next : (x : Event) (p n : ℕ) → slice_get places p ≡ Some n → node_in x ≡ Some n
      → seens key s (x ∷ o) 0 places ≡ slice_set (seens key s o 0 places) p (seen_at key s n (x ∷ o))
  pub why_next : (x : Event) (p n : ℕ) → slice_get places p ≡ Some n → node_in x ≡ Some n
      → whys key s (x ∷ o) 0 places ≡ slice_set (whys key s o 0 places) p (why_at key s p n (x ∷ o))
  pub barred : (by : Actor) (mask p n fence : ℕ) → slice_get places p ≡ Some n
      → whys key s (e.Publish by key s mask (Some (p, fence)) ∷ o) 0 places ≡ slice_set (whys key s o 0 places) p why.Enrolled
