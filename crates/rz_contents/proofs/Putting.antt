-- The events of a put.
use Rattle.std.proofs.Common.{ℕ, Bool, true, false, ◌≡◌, inl, inr, ◌+◌, ◌-◌, List, [], ◌∷◌, ◌++◌, Some, cond, refl, sym, ◌∙◌, ap, subst, nat_lt}
use Rattle.mj_angles.specs.declared.layout.Layout.{Layout}
use Rattle.mj_angles.specs.Layout.{forward_of, safe_of}
use Rattle.rz_events.specs.declared.keys.Key.{Key}
use Rattle.rz_events.specs.declared.keys.Actor.{Actor}
use Rattle.rz_events.specs.declared.ends.Why.{Why}
use Rattle.rz_events.specs.declared.ends.Why.TheVariants as why
use Rattle.std.specs.Prelude.{slice_set, slice_index}
use Rattle.rz_events.specs.declared.ends.WriteEnd.TheVariants as write
use Rattle.rz_events.specs.declared.tree.TreeReply.{TreeReply}
use Rattle.rz_events.specs.declared.tree.TreeReply.TheVariants as tree
use Rattle.rz_events.specs.declared.tree.TreeCall.TheVariants as calls
use Rattle.rz_events.specs.declared.export.Call.{Call}
use Rattle.rz_events.specs.declared.export.Call.TheVariants as call
use Rattle.rz_events.specs.declared.machines.WriterAsk.TheVariants as asks
use Rattle.rz_events.specs.declared.export.Reply.{Reply}
use Rattle.rz_events.specs.declared.export.Reply.TheVariants as reply
use Rattle.rz_events.specs.declared.nodes.KeepAnswer.{KeepAnswer}
use Rattle.rz_events.specs.declared.nodes.KeepAnswer.TheVariants as keep
use Rattle.rz_events.specs.declared.nodes.NodeAsk.TheVariants as ask
use Rattle.rz_events.specs.declared.nodes.NodeAnswer.{NodeAnswer}
use Rattle.rz_events.specs.declared.nodes.NodeAnswer.TheVariants as answer
use Rattle.rz_events.specs.declared.records.Head.{Head}
use Rattle.rz_events.specs.declared.events.Event.{Event}
use Rattle.rz_events.specs.declared.events.Event.TheVariants as e
use Rattle.rz_node_model.specs.NodeEvents.{node_event, keep_event}
use Rattle.rz_export_model.specs.ExportEvents.{export_event, begin_event, publish_event}
use Rattle.rz_client_model.specs.declared.writing.WriterState.{WriterState}
use Rattle.rz_client_model.specs.declared.writing.WriteStage.{WriteStage}
use Rattle.rz_client_model.specs.declared.writing.WriteStage.TheVariants as writing
use Rattle.rz_client_model.specs.declared.writing.SentRecords.{SentRecords}
use Rattle.rz_client_model.specs.Write.{mask_of, why_of, is_kept, next_position, after_keep, unless_too_few}
use Rattle.rz_operation_model.specs.Work.{Work, OnBlock, PutBlock, Alone, Opening, Writing, Ending, Over}
use Rattle.rz_operation_model.specs.Ask.{ask_of, head_of, write_asks}
use Rattle.rz_operation_model.specs.Steps.{Told, Replied, Answered, told, after_open}
use Rattle.rz_operation_model.specs.Turns.{IsStep, IsExportStep, IsNodeStep, Through, ReplyLost, RequestLost}
use Rattle.rz_core.proofs.NodeSteps.{the_some}
use Rattle.rz_contents.specs.Model.{changes, IsStill}
use Rattle.rz_contents.specs.Putting.{Starts, Goes, HasBegun, IsPutStage, IsPutCourse, PutsOnce}

begun-more : (ys xs : List Event) (by : Actor) (key : Key) (stamp : ℕ) (text : List ℕ) → HasBegun xs by key stamp text → HasBegun (ys ++ xs) by key stamp text
begun-more [] xs by key stamp text b = b
begun-more (y ∷ ys) xs by key stamp text b = let i = begun-more ys xs by key stamp text b in (i.0, inr i.1)

pub export-step : (by : Actor) (c : Call) (G : Told → List Event → Type 0)
    → ((r : Reply) (x : Event) → export_event by c r ≡ Some x → G (Replied r) (x ∷ []))
    → (t : Told) (ys : List Event) → IsExportStep by c t ys → G t ys
export-step by c G step t ys s = subst (λ z. G z ys) (sym s.2) (subst (λ zs. G (Replied s.0) zs) (sym s.4) (step s.0 s.1 s.3))

-- The file is opened.

opened : (layout : Layout) (by : Actor) (block : ℕ) (text : List ℕ) (xs : List Event) (r : TreeReply) → IsStill xs
    → IsPutCourse by text xs (after_open layout (OnBlock (PutBlock block text)) r)
opened layout by block text xs (tree.File info) still = (refl, refl, still)
opened layout by block text xs (tree.Refused fault) still = still
opened layout by block text xs _ still = tt

open-step : (layout : Layout) (by : Actor) (path : List ℕ) (block : ℕ) (text : List ℕ) (xs : List Event) → IsStill xs → (r : Reply) (x : Event)
    → export_event by (call.Tree (calls.OpenFile path)) r ≡ Some x
    → IsPutCourse by text (x ∷ xs) (told layout (Opening path (OnBlock (PutBlock block text))) (Replied r))
open-step layout by path block text xs still (reply.Tree r) x is =
    subst (λ y. IsPutCourse by text (y ∷ xs) (told layout (Opening path (OnBlock (PutBlock block text))) (Replied (reply.Tree r)))) (the_some _ x is)
    (opened layout by block text (e.Meta by (calls.OpenFile path) r ∷ xs) r (refl, still))
open-step layout by path block text xs still (_) x is = cc

-- The block is written.

module _ (by : Actor) (outer layout : Layout) (key : Key) (places : List ℕ) (size : ℕ) (text : List ℕ) (xs : List Event) where
  abbrev at : WriteStage → WriterState
  at stage = record { layout = layout; key = key; places = places; length = size; stage = stage }

  abbrev Next : WriteStage → Told → List Event → Type 0
  Next stage t ys = IsPutCourse by text (ys ++ xs) (told outer (Writing Alone text (at stage)) t)

  begin-step : IsStill xs → (r : Reply) (x : Event) → begin_event by (call.Begin key text) r ≡ Some x → Next writing.Beginning (Replied r) (x ∷ [])
  begin-step still (reply.Begun stamp base) x is =
      subst (λ y. Next writing.Beginning (Replied (reply.Begun stamp base)) (y ∷ [])) (the_some _ x is)
      (refl, refl, ((refl, still), (base, inl refl)))
  begin-step still (reply.Denied why) x is =
      subst (λ y. Next writing.Beginning (Replied (reply.Denied why)) (y ∷ [])) (the_some _ x is)
      (refl, refl, (refl, still))
  begin-step still (_) x is = cc

  module _ (t : SentRecords) (still : IsStill xs) (begun : HasBegun xs by key t.stamp text) where
    few : (ys : List Event) → IsStill (ys ++ xs) → (s : SentRecords) → s.stamp ≡ t.stamp → IsPutStage by (ys ++ xs) key text (unless_too_few layout s)
    few ys all s same = go (nat_lt (safe_of layout - forward_of layout) s.failed)
      where
        go : (b : Bool) → IsPutStage by (ys ++ xs) key text (cond b (writing.Ended (write.TooFew s.why)) (writing.Sending s))
        go true = all
        go false = (all, subst (λ n. HasBegun (ys ++ xs) by key n text) (sym same) (begun-more ys xs by key t.stamp text begun))

    kept : (ys : List Event) → IsStill (ys ++ xs) → (w : Why) → IsPutStage by (ys ++ xs) key text (after_keep layout t w)
    kept ys all w = go (is_kept w)
      where
        go : (b : Bool) → IsPutStage by (ys ++ xs) key text (cond b
            (writing.Sending (record t { kept = t.kept + 1; why = slice_set t.why (next_position t) w }))
            (unless_too_few layout (record t { failed = t.failed + 1; why = slice_set t.why (next_position t) w })))
        go true = (all, begun-more ys xs by key t.stamp text begun)
        go false = few ys all (record t { failed = t.failed + 1; why = slice_set t.why (next_position t) w }) refl

    keep-still : (node : ℕ) (k : Key) (stamp position : ℕ) (given : KeepAnswer) → changes (keep_event by node k stamp position given) ≡ false
    keep-still node k stamp position keep.Kept = refl
    keep-still node k stamp position (keep.Passed held) = refl
    keep-still node k stamp position keep.Lost = refl
    keep-still node k stamp position keep.Down = refl
    keep-still node k stamp position (keep.Fenced fence) = refl
    keep-still node k stamp position keep.Full = refl
    keep-still node k stamp position keep.DiskFault = refl

    keep-event : (n : ℕ) (head : Head) (given : NodeAnswer) (x : Event) → node_event by n (ask.Keep head) given ≡ Some x → changes x ≡ false
    keep-event n head (answer.Keep given) x is = subst (λ y. changes y ≡ false) (the_some _ x is) (keep-still n head.key head.stamp head.position given)
    keep-event n head (_) x is = cc

    answered : (n : ℕ) (head : Head) (given : NodeAnswer) (x : Event) → node_event by n (ask.Keep head) given ≡ Some x → Next (writing.Sending t) (Answered true given) (x ∷ [])
    answered n head (answer.Keep given) x is = (refl, refl, kept (x ∷ []) (keep-event n head (answer.Keep given) x is, still) (why_of given))
    answered n head (_) x is = cc

    keep-step : (n : ℕ) (head : Head) (t' : Told) (ys : List Event) → IsNodeStep by n (ask.Keep head) t' ys → Next (writing.Sending t) t' ys
    keep-step n head t' ys (Through given x is) = answered n head given x is
    keep-step n head t' ys (ReplyLost given x is lossy) = (refl, refl, kept (e.Missed by n true ∷ x ∷ []) (refl, (keep-event n head given x is, still)) why.Missed)
    keep-step n head t' ys (RequestLost lossy) = (refl, refl, kept (e.Missed by n false ∷ []) (refl, still) why.Missed)

    publish-step : (size' : ℕ) (r : Reply) (x : Event) → publish_event by (call.Publish key t.stamp (mask_of t.why) size') r ≡ Some x → Next (writing.Sending t) (Replied r) (x ∷ [])
    publish-step size' reply.Accepted x is =
        subst (λ y. Next (writing.Sending t) (Replied reply.Accepted) (y ∷ [])) (the_some _ x is)
        (refl, refl, record { earlier = xs; xs_is = refl; still = still; begun = begun })
    publish-step size' (reply.Enrolled position fence) x is =
        subst (λ y. Next (writing.Sending t) (Replied (reply.Enrolled position fence)) (y ∷ [])) (the_some _ x is)
        (refl, refl, few (e.Publish by key t.stamp (mask_of t.why) (Some (position, fence)) ∷ []) (refl, still) (record t { kept = t.kept - 1; failed = t.failed + 1; why = slice_set t.why position why.Enrolled }) refl)
    publish-step size' (reply.Revoked later) x is =
        subst (λ y. Next (writing.Sending t) (Replied (reply.Revoked later)) (y ∷ [])) (the_some _ x is) (refl, refl, (refl, still))
    publish-step size' (reply.Denied why) x is =
        subst (λ y. Next (writing.Sending t) (Replied (reply.Denied why)) (y ∷ [])) (the_some _ x is) (refl, refl, (refl, still))
    publish-step size' (_) x is = cc

  -- Each turn.

  stage-step : (number : ℕ) (stage : WriteStage) → IsPutStage by xs key text stage → (t' : Told) (ys : List Event)
      → IsStep by number (ask_of outer (Writing Alone text (at stage))) t' ys → Next stage t' ys
  stage-step number writing.Beginning is t' ys step = export-step by (call.Begin key text) (λ u us. Next writing.Beginning u us) (begin-step is) t' ys step
  stage-step number (writing.Sending t) is t' ys step = go (nat_lt t.kept (forward_of layout)) step
    where
      go : (b : Bool)
          → IsStep by number (write_asks false text (at (writing.Sending t)) (cond b (asks.Keep (next_position t) (slice_index places (next_position t)) t.stamp t.base) (asks.Publish t.stamp (mask_of t.why)))) t' ys
          → Next (writing.Sending t) t' ys
      go true step' = keep-step t is.0 is.1 (slice_index places (next_position t)) (head_of (at (writing.Sending t)) (next_position t) t.stamp t.base) t' ys step'
      go false step' = export-step by (call.Publish key t.stamp (mask_of t.why) size) (λ u us. Next (writing.Sending t) u us) (publish-step t is.0 is.1 size) t' ys step'
  stage-step number (writing.Ended end) is t' ys step = subst (λ u. Next (writing.Ended end) u ys) (sym step.1) tt

turn : (layout : Layout) (by : Actor) (number : ℕ) (text : List ℕ) (xs : List Event) (work : Work) → IsPutCourse by text xs work
    → (t : Told) (ys : List Event) → IsStep by number (ask_of layout work) t ys → IsPutCourse by text (ys ++ xs) (told layout work t)
turn layout by number text xs (Opening path plan) is t ys step =
    subst (λ p. IsPutCourse by text (ys ++ xs) (told layout (Opening path p) t)) (sym is.1.1)
    (export-step by (call.Tree (calls.OpenFile path)) (λ u us. IsPutCourse by text (us ++ xs) (told layout (Opening path (OnBlock (PutBlock is.1.0 text))) u))
    (open-step layout by path is.1.0 text xs is.0) t ys step)
turn layout by number text xs (Writing course written s) is t ys step =
    subst (λ w. IsStep by number (ask_of layout w) t ys → IsPutCourse by text (ys ++ xs) (told layout w t)) (sym (ap (λ c. Writing c written s) is.0 ∙ ap (λ w. Writing Alone w s) is.1))
    (stage-step by layout s.layout s.key s.places s.length text xs number s.stage is.2 t ys) step
turn layout by number text xs (Ending a) still t ys step = subst (λ u. IsPutCourse by text (ys ++ xs) (told layout (Ending a) u)) (sym step.1) tt
turn layout by number text xs Over is t ys step = absurd step
turn layout by number text xs (_) is t ys step = absurd is

pub puts_once : PutsOnce
puts_once layout by number path block text xs work (Starts) = (tt, (block, refl))
puts_once layout by number path block text xs work (Goes before was t ys course step) =
    turn layout by number text before was (puts_once layout by number path block text before was course) t ys step
