-- Passes of which the tokens were handed over.
use Rattle.std.specs.Prelude.{ℕ, ◌≡◌, ◌++◌, List}
use Rattle.rz_core.specs.History.{of_actor}
use Rattle.rz_events.specs.declared.events.Word.TheVariants.{Own}
use Rattle.rz_chronicle.specs.Keys.{actor_key, word_key, IsOneOf, IsLater}
use Rattle.rz_chronicle.specs.Holds.{Stays}
use Rattle.rz_chronicle.specs.Rules.{PassView}

-- The pass holds the token of the other one's actor, whose events in the log are those that the other one has seen, and the token
-- of the actor's own word.
pub record HoldsPass (front other : PassView) : Type 0 where
  pub held : IsOneOf (actor_key other.actor) front.keys
  pub word : IsOneOf (word_key (Own other.actor)) front.keys
  pub own : of_actor other.actor front.log ≡ of_actor other.actor other.log

-- The pass went on: it lost no token, and the events of those that it held are still the same.
pub record PassGoesOn (old new : PassView) : Type 0 where
  pub actor : new.actor ≡ old.actor
  pub more : List ℕ
  pub keys : new.keys ≡ old.keys ++ more
  pub stays : Stays old.keys old.log new.log
  pub later : IsLater old.log new.log

-- What a pass holds of another's actor, it holds when it has gone on.
abbrev pub IsHeldLaw : Type 0
IsHeldLaw = (other old new : PassView) → PassGoesOn old new → HoldsPass old other → HoldsPass new other
