-- What a node tells, by the log.
use Rattle.std.proofs.Common.{◌≡◌, ◌==◌, ◌||◌, ℕ, Bool, true, false, cond, IsTrue, IfSome, IfNone, List, [], ◌∷◌, map, Option, Some, None, refl, ap, ◌∙◌}
use Rattle.std.specs.Prelude.{is_some}
use Rattle.std.specs.FinMap as maps
use Rattle.rz_events.specs.declared.keys.Key.{Key}
use Rattle.rz_events.specs.declared.records.Held.{Held}
use Rattle.rz_events.specs.declared.nodes.Phase.TheVariants.{Up}
use Rattle.rz_events.specs.declared.events.Word.TheVariants.{Node}
use Rattle.rz_events.specs.declared.events.Event.{Event}
use Rattle.rz_node_model.specs.States.{NodeState}
use Rattle.rz_node_model.specs.Records.{held_of, found}
use Rattle.rz_node_model.specs.Versions.{has_stamp}
use Rattle.rz_core.specs.History.{Facts, facts, of_word}
use Rattle.rz_core.specs.NodeWord.{held, itself, phase}
use Rattle.rz_core.specs.Tied.{IsNode, record_in}
use Rattle.rz_chronicle.specs.Kinds.{keeps_legal}
use Rattle.rz_shared_locked.specs.declared.occupant.Occupant.{Occupant}
use Rattle.rz_shared_locked.specs.Occupants.{IsIn, IsBehindLock}
use Rattle.rz_shared_locked.specs.Told.{HoldsKeys, holds_record}

found-in : (f : Facts) (stamp : ℕ) (now : List ℕ) → is_some (found stamp (map (record_in f) now)) ≡ has_stamp itself stamp now
found-in f stamp [] = refl
found-in f stamp (a ∷ now) = go (a == stamp) (found-in f stamp now)
  where
    go : (b : Bool) → is_some (found stamp (map (record_in f) now)) ≡ has_stamp itself stamp now → is_some (cond b (Some (record_in f a)) (found stamp (map (record_in f) now))) ≡ (b || has_stamp itself stamp now)
    go true rest = refl
    go false rest = rest

holds-so : (h : List Event) (n : ℕ) (key : Key) (stamp : ℕ) (s : NodeState) → IsNode (facts h) (of_word (Node n) h) s → is_some (found stamp (held_of s.held key)) ≡ holds_record h n key stamp
holds-so h n key stamp s tied = ap (λ (rs : List Held). is_some (found stamp rs)) (tied.held_is key) ∙ found-in (facts h) stamp (held (facts h) (of_word (Node n) h) key)

-- Who stands behind the lock tells it.
module _ {D : Type 0} (tells : Bool) (image : D → List ℕ → Type 0) (kind : List ℕ) (h : List Event) (n : ℕ) (who : Occupant D) (it : IsBehindLock tells image kind h n who) where
  pub keys-told : (o : Option ℕ) → IfSome o (λ (count : ℕ). (s : NodeState) → IsIn who s → count ≡ maps.len s.held) → IfSome o (λ (count : ℕ). IsTrue (keeps_legal kind) → HoldsKeys h n count)
  keys-told None told = tt
  keys-told (Some count) told = λ keeps. (it.state, it.tied keeps, told it.state it.is_in)

  pub record-told : (key : Key) (stamp : ℕ) (o : Option Bool) → IfSome o (λ (b : Bool). (s : NodeState) → IsIn who s → b ≡ is_some (found stamp (held_of s.held key)))
      → IfSome o (λ (b : Bool). IsTrue (keeps_legal kind) → b ≡ holds_record h n key stamp)
  record-told key stamp None told = tt
  record-told key stamp (Some b) told = λ keeps. told it.state it.is_in ∙ holds-so h n key stamp it.state (it.tied keeps)

  pub away-told : {A : Type 0} (o : Option A) → IfNone o ((s : NodeState) → IsIn who s → ¬ (s.phase ≡ Up)) → IfNone o (IsTrue (keeps_legal kind) → ¬ (phase (of_word (Node n) h) ≡ Up))
  away-told None told = λ keeps up. told it.state it.is_in ((it.tied keeps).phase_is ∙ up)
  away-told (Some a) told = tt
