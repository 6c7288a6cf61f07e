-- What writes that are acknowledged have done.
use Rattle.std.proofs.Common.{ℕ, inl, inr, List, [], ◌∷◌, None, cond, sym, ◌∙◌, ap, subst}
use Rattle.rz_events.specs.Volume.{Volume}
use Rattle.rz_events.specs.declared.keys.Key.{Key}
use Rattle.rz_events.specs.declared.keys.Actor.{Actor}
use Rattle.rz_events.specs.declared.ends.WriteEnd.TheVariants as write
use Rattle.rz_events.specs.declared.events.Event.{Event}
use Rattle.rz_events.specs.declared.events.Event.TheVariants as e
use Rattle.rz_events.specs.Events.{by_of, same_actor}
use Rattle.rz_core.specs.History.{Has, wrote, of_actor}
use Rattle.rz_core.specs.Own.{is_publish}
use Rattle.rz_core.specs.Legal.{IsLegalInRuns}
use Rattle.rz_core.proofs.Extends.{last-has, wrote-more}
use Rattle.rz_core.proofs.NodeLaws.{filter-has}
use Rattle.rz_core.proofs.Stamps.{same_key-refl}
use Rattle.rz_contents.specs.Contents.{text_begun, contents, HasTakenEffect, AreWritesTrue}
use Rattle.rz_contents.proofs.Changing.{changed}

-- a write that was published took effect
effect : (v : Volume) (h : List Event) → IsLegalInRuns v h → (by : Actor) (key : Key) (stamp mask : ℕ) → Has h (e.Publish by key stamp mask None)
    → HasTakenEffect h by key stamp mask
effect v [] legal by key stamp mask has = absurd has
effect v (x ∷ h) legal by key stamp mask (inl is) =
    let legal' = subst (λ y. IsLegalInRuns v (y ∷ h)) is legal in
    let w = legal'.1.row.publishable.publishing.writer in
    record {
      before = h;
      there = ([], ap (λ y. y ∷ h) (sym is));
      begun = w.0;
      writer = record { found = wrote-more (x ∷ []) h stamp w.0 w.1.found; by_is = w.1.by_is; key_is = w.1.key_is };
      contains = changed v (e.Publish by key stamp mask None) h key legal'
          ∙ ap (λ t. cond t (text_begun (wrote h stamp)) (contents h key)) (same_key-refl key) ∙ ap text_begun w.1.found;
    }
effect v (x ∷ h) legal by key stamp mask (inr has) =
    let i = effect v h legal.0 by key stamp mask has in
    record {
      before = i.before;
      there = (x ∷ i.there.0, ap (λ (l : List Event). x ∷ l) i.there.1);
      begun = i.begun;
      writer = record { found = wrote-more (x ∷ []) h stamp i.begun i.writer.found; by_is = i.writer.by_is; key_is = i.writer.key_is };
      contains = i.contains;
    }

pub writes : (v : Volume) (h : List Event) → IsLegalInRuns v h → AreWritesTrue h
writes v [] legal = tt
writes v (e.Gave by number key part (write.Acked stamp mask) ∷ h) legal = (
  writes v h legal.0,
  effect v h legal.0 by key stamp mask
      (filter-has (λ y. same_actor by (by_of y)) h (e.Publish by key stamp mask None) (last-has is_publish (of_actor by h) (e.Publish by key stamp mask None) legal.1.row.0)),
)
writes v (x ∷ h) legal = writes v h legal.0
