-- What an actor does, beside the log.
use Rattle.std.proofs.Common.{◌≡◌, ℕ, Bool, true, false, List, [], ◌∷◌, ◌++◌, Option, Some, None, refl, sym, ◌∙◌, ap, subst}
use Rattle.std.specs.Prelude.{slice_get, slice_set}
use Rattle.mj_angles.specs.declared.layout.Layout.{Layout}
use Rattle.rz_events.specs.Volume.{Volume}
use Rattle.rz_events.specs.declared.keys.Actor.{Actor}
use Rattle.rz_events.specs.declared.nodes.NodeAsk.{NodeAsk}
use Rattle.rz_events.specs.declared.events.Event.{Event}
use Rattle.rz_events.specs.declared.events.Event.TheVariants as e
use Rattle.rz_export_model.specs.Export.{Export, export_reply}
use Rattle.rz_node_model.specs.States.{NodeState}
use Rattle.rz_locks.specs.declared.conflict.LockKind.{LockKind}
use Rattle.rz_locks.specs.declared.conflict.Range.{Range}
use Rattle.rz_locks.specs.Held.{Held}
use Rattle.rz_core.specs.History.{facts}
use Rattle.rz_operation.specs.Answers.{IsWorkAfter}
use Rattle.rz_operation.specs.Machine.{Machine, text_of}
use Rattle.rz_operation_model.specs.Ask.{Ask, ask_of}
use Rattle.rz_operation_model.specs.Steps.{Told, Replied, Locked, Missed, Noted}
use Rattle.rz_operation_model.specs.Turns.{IsStep, RequestLost as StepLost, goes_by_link, said_event}
use Rattle.rz_play.specs.Turns.{IsLost}
use Rattle.rz_driver_asks.specs.Locking.{IsOpenPart, open_reply}
use Rattle.rz_driver_asks.specs.Parts.{IsExportPart, IsSayPart}
use Rattle.rz_node_laws.specs.Laws.{IsLongerLaw}
use Rattle.rz_block_laws.specs.Laws.{IsNoFetch}
use Rattle.rz_block_laws.specs.Turns.{HasInHand, IsToldLaw}
use Rattle.rz_driver_actors.specs.declared.actor_agenda.Agenda.{Agenda}
use Rattle.rz_driver_actors.specs.declared.shared.Shared.{Shared}
use Rattle.rz_nodes.specs.declared.formatting.Server.{Server}
use Rattle.rz_driver_actors.specs.Acts.{IsAct, IsFate, Rests, Exports, Opens, Sends, Says, Through, ReplyLost, RequestLost}
use Rattle.rz_driver_nodes.specs.Nodes.{IsAsked, IsThroughPart, IsReplyLostPart, IsRequestLostPart}
use Rattle.rz_driver_nodes.specs.Images.{HasImages, NodeStaysCoherent, NodeUnchanged}
use Rattle.rz_driver_actors.specs.Hands.{HasTrueHand, IsTrueAgenda, StaysCoherent, LeavesUnchanged}
use Rattle.rz_driver_nodes.proofs.CoherenceLemmas.{GrowsBy, grows-behind, row-longer, row-set, row-at, states-stay}

-- a message that was lost goes through the link
pub lost-by-link : (miss : Option Bool) (question : NodeAsk) (reply : Bool) → IsLost miss question reply → goes_by_link question ≡ true
lost-by-link None question reply lost = lost
lost-by-link (Some planned) question reply lost = lost.0

agenda-hand : (v : Volume) (h : List Event) (by : Actor) (o : Option Machine) → IsTrueAgenda v (facts h) by o → HasTrueHand v (facts h) o
agenda-hand v h by None agenda = tt
agenda-hand v h by (Some m) agenda = agenda.true_to.hand

module _ {D : Type 0} (image : D → List ℕ → Type 0) (by : Actor) (xs : List (Server D)) where
  -- nothing was done
  pub still-keeps : (o : Option Machine) (h : List Event) → StaysCoherent image by o o xs h xs h
  still-keeps o h = λ v old agenda imaged. (agenda-hand v (h ++ old) by o agenda, imaged)

  -- no node was called
  pub still-unchanged : (o : Option Machine) (h : List Event) → LeavesUnchanged image by o xs h xs
  still-unchanged o h = λ v old agenda imaged. (imaged, refl)

  pub at-machine : (o : Option Machine) (m new : Machine) → o ≡ Some m → (h : List Event) (ys : List (Server D)) (h' : List Event) → StaysCoherent image by (Some m) (Some new) xs h ys h' → StaysCoherent image by o (Some new) xs h ys h'
  at-machine o m new was h ys h' keeps = subst (λ (x : Option Machine). StaysCoherent image by x (Some new) xs h ys h') (sym was) keeps

  pub at-unchanged : (o : Option Machine) (m : Machine) → o ≡ Some m → (h : List Event) (ys : List (Server D)) → LeavesUnchanged image by (Some m) xs h ys → LeavesUnchanged image by o xs h ys
  at-unchanged o m was h ys unchanged = subst (λ (x : Option Machine). LeavesUnchanged image by x xs h ys) (sym was) unchanged

  module _ (longer : IsLongerLaw image) (told : (v : Volume) → IsToldLaw v) (o : Option Machine) (m new : Machine) (was : o ≡ Some m) (h h' : List Event) where
    plain : (number : ℕ) (t : Told) (x : Event) → h' ≡ x ∷ h → IsStep by number (ask_of m.layout m.work) t (x ∷ []) → IsNoFetch t → IsWorkAfter m m.pairs t new → StaysCoherent image by o (Some new) xs h xs h'
    plain number t x log_is step other goes = at-machine o m new was h xs h' (λ v old actor imaged. (
      subst (λ (k : List Event). HasInHand v (facts (k ++ old)) new) (sym log_is) (told v (h ++ old) (x ∷ []) by number m new t (x ∷ []) actor step other goes),
      row-longer image longer v (h ++ old) (h' ++ old) (x ∷ [], ap (λ (k : List Event). k ++ old) log_is) xs imaged,
    ))

    -- the export was asked
    pub export-keeps : (s s' : Export) → IsExportPart by m new s s' h h' → StaysCoherent image by o (Some new) xs h xs h'
    export-keeps s s' (c, asks, r) =
        let t = Replied (export_reply s c) in
        let x = r.noted.0 in
        plain 0 t x r.noted.2 (subst (λ (a : Ask). IsStep by 0 a t (x ∷ [])) (sym asks) (export_reply s c, x, refl, r.noted.1, refl)) tt r.goes

    -- a file was opened with a lock
    pub open-keeps : (s s' : Export) (locks locks' : Held) (held held' : Option (Range × LockKind)) → IsOpenPart by m new s s' locks locks' held held' h h' → StaysCoherent image by o (Some new) xs h xs h'
    open-keeps s s' locks locks' held held' (path, exclusive, from, count, asks, (owner, r)) =
        let t = Locked r.granted (open_reply s path) in
        let x = r.noted.0 in
        plain 0 t x r.noted.2 (subst (λ (a : Ask). IsStep by 0 a t (x ∷ [])) (sym asks) (r.granted, open_reply s path, x, refl, r.noted.1, refl)) tt r.goes

    -- a word was said
    pub say-keeps : (number : ℕ) (done : Bool) → IsSayPart by number done m new h h' → StaysCoherent image by o (Some new) xs h xs h'
    say-keeps number done (said, asks, r) =
        let text = text_of m in
        let t = Noted text in
        let x = said_event by number text said in
        plain number t x r.noted (subst (λ (a : Ask). IsStep by number a t (x ∷ [])) (sym asks) (text, refl, refl)) tt r.goes

  -- ---- the node at a place was sent a message

  module _ (m : Machine) (h : List Event) (n place : ℕ) (s s' : Server D) (named : s.sid ≡ n) (at : slice_get xs place ≡ Some s) (same : s'.sid ≡ s.sid) where
    pub node-keeps : IsLongerLaw image → (new : Machine) (h' : List Event) → GrowsBy h h' → NodeStaysCoherent image by n m new s.node s'.node h h' → StaysCoherent image by (Some m) (Some new) xs h (slice_set xs place s') h'
    node-keeps longer new h' grown keeps = λ v old actor imaged.
        let f = facts (h' ++ old) in
        let here = subst (λ (k : ℕ). HasImages image v (facts (h ++ old)) k s.node) named (row-at image v (facts (h ++ old)) xs place s at imaged) in
        let kept = keeps v old actor here in
        let there = subst (λ (k : ℕ). HasImages image v f k s'.node) (sym (same ∙ named)) kept.1 in
        (kept.0, row-set image v f xs place s' (row-longer image longer v (h ++ old) (h' ++ old) (grows-behind old h h' grown) xs imaged) there)

    pub node-unchanged : NodeUnchanged image by n m s.node s'.node h → LeavesUnchanged image by (Some m) xs h (slice_set xs place s')
    node-unchanged unchanged = λ v old actor imaged.
        let f = facts (h ++ old) in
        let here = subst (λ (k : ℕ). HasImages image v f k s.node) named (row-at image v f xs place s at imaged) in
        let kept = unchanged v old actor here in
        let there = subst (λ (k : ℕ). HasImages image v f k s'.node) (sym (same ∙ named)) kept.0 in
        (row-set image v f xs place s' imaged there, states-stay xs place s s' at same kept.1)

  -- it did not hear of it
  pub unheard-keeps : IsLongerLaw image → ((v : Volume) → IsToldLaw v) → (m new : Machine) (h h' : List Event) (n : ℕ) (question : NodeAsk) (place : ℕ) (s : Server D) → slice_get xs place ≡ Some s → IsAsked m n question → goes_by_link question ≡ true
      → IsRequestLostPart by n m new h h' → StaysCoherent image by (Some m) (Some new) xs h (slice_set xs place s) h'
  unheard-keeps longer told m new h h' n question place s at asked by_link part =
      let x : Event = e.Missed by n false in
      let step : IsStep by 0 (ask_of m.layout m.work) Missed (x ∷ []) = subst (λ (a : Ask). IsStep by 0 a Missed (x ∷ [])) (sym asked) (StepLost by_link) in
      λ v old actor imaged.
      let row = row-longer image longer v (h ++ old) (h' ++ old) (x ∷ [], ap (λ (k : List Event). k ++ old) part.noted) xs imaged in (
        subst (λ (k : List Event). HasInHand v (facts (k ++ old)) new) (sym part.noted) (told v (h ++ old) (x ∷ []) by 0 m new Missed (x ∷ []) actor step tt part.goes),
        row-set image v (facts (h' ++ old)) xs place s row (row-at image v (facts (h' ++ old)) xs place s at row),
      )

-- how the log grew
pub through-grows : {by : Actor} {n cells : ℕ} {question : NodeAsk} {s s' : NodeState} {old new : Machine} {h h' : List Event} → IsThroughPart by n cells question s s' old new h h' → GrowsBy h h'
through-grows part = (part.noted.0 ∷ [], part.noted.2)

pub lost-grows : {by : Actor} {n cells : ℕ} {question : NodeAsk} {s s' : NodeState} {old new : Machine} {h h' : List Event} → IsReplyLostPart by n cells question s s' old new h h' → GrowsBy h h'
lost-grows {by = by} {n = n} part = (e.Missed by n true ∷ part.event ∷ [], part.noted)

fate-grows : {D J : Type 0} {by : Actor} {n : ℕ} {question : NodeAsk} {s s' : Server D} {old new : Machine} {miss miss' : Option Bool} {p q : Shared D J} → IsFate by n question s s' old new miss miss' p q → GrowsBy p.log.events q.log.events
fate-grows (Through part comes miss lost) = through-grows part
fate-grows (ReplyLost part lost_so miss lost) = lost-grows part
fate-grows {by = by} {n = n} (RequestLost stays part lost_so miss lost) = (e.Missed by n false ∷ [], part.noted)

pub act-grows : {D J : Type 0} (layout : Layout) (by : Actor) (a b : Agenda) (p q : Shared D J) → IsAct layout by a b p q → GrowsBy p.log.events q.log.events
act-grows layout by a b p q (Rests asks same shared) = ([], ap (λ (x : Shared _ _). x.log.events) shared)
act-grows layout by a b p q (Exports old new was is same lock miss (c, asks, r) sts lks lost) = (r.noted.0 ∷ [], r.noted.2)
act-grows layout by a b p q (Opens old new was is same miss (path, exclusive, from, count, asks, (owner, r)) sts lost) = (r.noted.0 ∷ [], r.noted.2)
act-grows layout by a b p q (Sends old new was is same lock n question asks m) = fate-grows m.fate
act-grows layout by a b p q (Says old new was is same miss done (said, asks, r) released sts export lost) = (said_event by a.number (text_of old) said ∷ [], r.noted)
