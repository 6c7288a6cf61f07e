-- What a call or an act of an actor does to the log that the actor has seen. `earlier` is the log that the run goes on after.
use Rattle.std.specs.Prelude.{ℕ, ◌≡◌, IsTrue, IfSome, List, [], ◌++◌, Option}
use Rattle.rz_events.specs.declared.events.Event.{Event}
use Rattle.rz_core.specs.History.{facts, of_actor}
use Rattle.rz_play.specs.Lines.{noted}
use Rattle.rz_play_laws.specs.Own.{IsToldBy}
use Rattle.rz_chronicle.specs.Keys.{IsLater}
use Rattle.rz_chronicle.specs.Kinds.{keeps_legal, volume_in}
use Rattle.rz_chronicle.specs.Rules.{PassView}
use Rattle.rz_chronicle.specs.Holds.{HasAllActors}

-- The pass is that of the same actor, with the same tokens, and has seen more.
pub record PassLasts (old new : PassView) : Type 0 where
  pub actor : new.actor ≡ old.actor
  pub keys : new.keys ≡ old.keys
  pub later : IsLater old.log new.log

-- who holds the tokens of all actors adds these events alone: nobody else adds any
abbrev pub AddsAlone : PassView → List Event → PassView → Type 0
AddsAlone old events new = HasAllActors old.keys → new.log ≡ events ++ old.log

-- The actor's own events are as they were, or one more, which in a book that keeps its log legal says what is so for good.
pub record AddsOwn (kind : List ℕ) (earlier : List Event) (old : PassView) (event : Option Event) (new : PassView) : Type 0 where
  pub lasts : PassLasts old new
  pub own : of_actor old.actor new.log ≡ noted event (of_actor old.actor old.log)
  pub alone : AddsAlone old (noted event []) new
  pub said : IsTrue (keeps_legal kind) → IfSome event (IsToldBy (volume_in kind) (facts (new.log ++ earlier)))
