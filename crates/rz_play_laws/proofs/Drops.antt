-- Calls on names, opens, and the drop of a file that has no name left.
use Rattle.std.proofs.Common.{◌≡◌, inl, ℕ, ◌-◌, min, Bool, true, false, List, [], ◌∷◌, ◌++◌, length, refl, subst, Some, None}
use Rattle.rz_events.specs.Volume.{Volume}
use Rattle.rz_events.specs.declared.keys.Actor.{Actor}
use Rattle.rz_events.specs.declared.files.FileInfo.{FileInfo}
use Rattle.rz_events.specs.declared.tree.TreeCall.{TreeCall}
use Rattle.rz_events.specs.declared.tree.TreeCall.TheVariants as tree
use Rattle.rz_events.specs.declared.tree.TreeReply.{TreeReply}
use Rattle.rz_events.specs.declared.tree.TreeReply.TheVariants as given
use Rattle.rz_events.specs.declared.export.Call.TheVariants as call
use Rattle.rz_events.specs.declared.export.Reply.{Reply}
use Rattle.rz_events.specs.declared.export.Reply.TheVariants as reply
use Rattle.rz_events.specs.declared.nodes.DropAnswer.{DropAnswer}
use Rattle.rz_events.specs.declared.nodes.DropAnswer.TheVariants as drops
use Rattle.rz_events.specs.declared.nodes.NodeAsk.TheVariants as ask
use Rattle.rz_events.specs.declared.nodes.NodeAnswer.{NodeAnswer}
use Rattle.rz_events.specs.declared.nodes.NodeAnswer.TheVariants as answer
use Rattle.rz_events.specs.declared.events.Answer.{Answer}
use Rattle.rz_events.specs.declared.events.Event.{Event}
use Rattle.rz_events.specs.declared.events.Event.TheVariants as e
use Rattle.rz_node_model.specs.NodeEvents.{node_event, drop_event}
use Rattle.rz_export_model.specs.ExportEvents.{tree_event}
use Rattle.rz_core.specs.History.{Facts}
use Rattle.rz_core.specs.Own.{is_end, IsOpen}
use Rattle.std.specs.List.{AllByRecursion}
use Rattle.rz_core.specs.NodeRows.{HasGone, IsNodeOf}
use Rattle.rz_core.proofs.Extends.{Extends}
use Rattle.rz_core.proofs.NodeSteps.{the_some}
use Rattle.rz_operation_model.specs.Ranges.{Taking, Giving}
use Rattle.rz_operation_model.specs.Turns.{IsStep}
use Rattle.rz_operation_model.specs.Work.{Work, Plan, OnBlock, OnRange, RangePlan, PutBlock, GetBlock, WriteBytes, ReadBytes, Calling, Dropping, Opening, Locking, Ending}
use Rattle.rz_operation_model.specs.Ask.{SayDone, ask_of}
use Rattle.rz_operation_model.specs.Steps.{Told, Replied, Locked, Answered, Missed, told, after_call, after_open, after_lock, after_drop, drop_at, planned}
use Rattle.rz_play_laws.specs.Own.{IsPlacing, IsOpenReply, AreToldBy, IsBlockPlan, IsOnNames, IsOwnOf}
use Rattle.rz_play_laws.proofs.Blocks.{goes-on}
use Rattle.rz_play_laws.proofs.Words.{has-more}
use Rattle.rz_play_laws.proofs.Steps.{export-step, lock-step, node-step, say-step}

module _ (v : Volume) (f g : Facts) (ext : Extends f g) (o run : List Event) (by : Actor) (number : ℕ) where
  -- what is to be shown of a step
  abbrev IsNext : Work → Told → List Event → Type 0
  IsNext work t xs = AreToldBy v g xs → IsOwnOf v g (xs ++ o) (xs ++ run) by (told v.layout work t)

  -- Calls on names.

  no-file : (c : TreeCall) (info : FileInfo) → IsOnNames c → IsOpenReply v g c (given.File info) → ⊥
  no-file (tree.OpenFile path) info names is = names
  no-file (_) info names is = is

  gone-nodes : (c : TreeCall) (info : FileInfo) → IsOnNames c → IsOpenReply v g c (given.Gone (Some info)) → AllByRecursion (IsNodeOf v) info.places
  gone-nodes (tree.OpenFile path) info names is = absurd names
  gone-nodes (_) info names is = is

  -- the next node is asked, or the drop has come to its end
  drop-next : (xs : List Event) (fid : ℕ) (places : List ℕ) → IsOpen (xs ++ run) → HasGone (xs ++ o) by fid → AllByRecursion (IsNodeOf v) places
      → IsOwnOf v g (xs ++ o) (xs ++ run) by (drop_at fid places)
  drop-next xs fid [] going gone all = tt
  drop-next xs fid (n ∷ places) going gone all = (going, gone, all)

  called : (c : TreeCall) → IsOnNames c → (r : TreeReply) → IsOpenReply v g c r → (let x = e.Meta by c r in IsOwnOf v g (x ∷ o) (x ∷ run) by (after_call r))
  called c names (given.Gone (Some info)) is =
      drop-next (e.Meta by c (given.Gone (Some info)) ∷ []) info.fid info.places refl (c, info, inl refl, refl) (gone-nodes c info names is)
  called c names (given.File info) is = absurd (no-file c info names is)
  called c names (given.Gone None) is = tt
  called c names (_) is = tt

  call-step : (c : TreeCall) → IsOnNames c → (r : Reply) (x : Event) → tree_event by (call.Tree c) r ≡ Some x → IsNext (Calling c) (Replied r) (x ∷ [])
  call-step c names (reply.Tree r) x is =
      subst (λ y. IsNext (Calling c) (Replied (reply.Tree r)) (y ∷ [])) (the_some _ x is) (λ told. called c names r told.0)
  call-step c names (_) x is = cc

  pub own-calling : (c : TreeCall) → IsOnNames c → (t : Told) (xs : List Event)
      → IsStep by number (ask_of v.layout (Calling c)) t xs → IsNext (Calling c) t xs
  own-calling c own t xs step = export-step by (call.Tree c) (λ z zs. IsNext (Calling c) z zs) (call-step c own) t xs step

  -- Opens.

  opened : (x : Event) → is_end x ≡ false → (plan : Plan) (info : FileInfo) → IsBlockPlan v plan → IsPlacing v g info.fid info.places
      → IsOwnOf v g (x ∷ o) (x ∷ run) by (planned v.layout info plan)
  opened x going (OnBlock (PutBlock block text)) info fits placing = (going, record { layout_is = refl; placing = placing; size = refl; short = fits; stage = tt }, tt)
  opened x going (OnBlock (GetBlock block)) info fits placing = (going, record { layout_is = refl; placing = placing; stage = tt }, tt)
  opened x going (OnRange (WriteBytes offset bytes)) info fits placing =
      goes-on v g (x ∷ o) (x ∷ run) by going (record { info = info; offset = offset; size = length bytes; done = 0; aim = Giving bytes }) placing
  opened x going (OnRange (ReadBytes offset count)) info fits placing =
      goes-on v g (x ∷ o) (x ∷ run) by going (record { info = info; offset = offset; size = min count (info.size - offset); done = 0; aim = Taking [] }) placing

  answered : (path : List ℕ) (plan : Plan) → IsBlockPlan v plan → (r : TreeReply) → IsOpenReply v g (tree.OpenFile path) r
      → (let x = e.Meta by (tree.OpenFile path) r in IsOwnOf v g (x ∷ o) (x ∷ run) by (after_open v.layout plan r))
  answered path plan fits (given.File info) is = opened (e.Meta by (tree.OpenFile path) (given.File info)) refl plan info fits is
  answered path plan fits (given.Refused fault) is = tt
  answered path plan fits (_) is = absurd is

  open-step : (path : List ℕ) (plan : Plan) → IsBlockPlan v plan → (r : Reply) (x : Event) → tree_event by (call.Tree (tree.OpenFile path)) r ≡ Some x
      → IsNext (Opening path plan) (Replied r) (x ∷ [])
  open-step path plan fits (reply.Tree r) x is =
      subst (λ y. IsNext (Opening path plan) (Replied (reply.Tree r)) (y ∷ [])) (the_some _ x is) (λ told. answered path plan fits r told.0)
  open-step path plan fits (_) x is = cc

  pub own-opening : (path : List ℕ) (plan : Plan) → IsBlockPlan v plan → (t : Told) (xs : List Event)
      → IsStep by number (ask_of v.layout (Opening path plan)) t xs → IsNext (Opening path plan) t xs
  own-opening path plan own t xs step =
      export-step by (call.Tree (tree.OpenFile path)) (λ z zs. IsNext (Opening path plan) z zs) (open-step path plan own) t xs step

  -- Opens with a lock: where another holds one, the file is opened again.

  locked : (path : List ℕ) (plan : RangePlan) (granted : Bool) (r : TreeReply) → IsOpenReply v g (tree.OpenFile path) r
      → (let x = e.Meta by (tree.OpenFile path) r in IsOwnOf v g (x ∷ o) (x ∷ run) by (after_lock v.layout path plan granted r))
  locked path plan true r is = answered path (OnRange plan) tt r is
  locked path plan false (given.File info) is = tt
  locked path plan false (given.Refused fault) is = tt
  locked path plan false (_) is = absurd is

  lock-turn : (path : List ℕ) (plan : RangePlan) (granted : Bool) (r : Reply) (x : Event) → tree_event by (call.Tree (tree.OpenFile path)) r ≡ Some x
      → IsNext (Locking path plan) (Locked granted r) (x ∷ [])
  lock-turn path plan granted (reply.Tree r) x is =
      subst (λ y. IsNext (Locking path plan) (Locked granted (reply.Tree r)) (y ∷ [])) (the_some _ x is) (λ told. locked path plan granted r told.0)
  lock-turn path plan granted (_) x is = cc

  pub own-locking : (path : List ℕ) (plan : RangePlan) (t : Told) (xs : List Event)
      → IsStep by number (ask_of v.layout (Locking path plan)) t xs → IsNext (Locking path plan) t xs
  own-locking path (WriteBytes offset bytes) t xs step =
      lock-step by path (λ z zs. IsNext (Locking path (WriteBytes offset bytes)) z zs) (lock-turn path (WriteBytes offset bytes)) t xs step
  own-locking path (ReadBytes offset count) t xs step =
      lock-step by path (λ z zs. IsNext (Locking path (ReadBytes offset count)) z zs) (lock-turn path (ReadBytes offset count)) t xs step

  -- Drops.

  gone-more : (xs : List Event) (fid : ℕ) → HasGone o by fid → HasGone (xs ++ o) by fid
  gone-more xs fid h = (h.0, h.1, has-more xs o _ h.2, h.3)

  module _ (fid n : ℕ) (places : List ℕ) (own : IsOpen run × HasGone o by fid × AllByRecursion (IsNodeOf v) (n ∷ places)) where
    abbrev drops_at : DropAnswer → Event
    drops_at a = drop_event by n fid a

    dropped : (a : DropAnswer) → IsOwnOf v g (drops_at a ∷ o) (drops_at a ∷ run) by (after_drop fid n places a)
    dropped (drops.Dropped block stamp true) = (refl, gone-more (drops_at (drops.Dropped block stamp true) ∷ []) fid own.1, own.2)
    dropped (drops.Dropped block stamp false) =
        drop-next (drops_at (drops.Dropped block stamp false) ∷ []) fid places refl (gone-more (drops_at (drops.Dropped block stamp false) ∷ []) fid own.1) own.2.1
    dropped drops.Nothing = drop-next (drops_at drops.Nothing ∷ []) fid places refl (gone-more (drops_at drops.Nothing ∷ []) fid own.1) own.2.1
    dropped drops.Lost = drop-next (drops_at drops.Lost ∷ []) fid places refl (gone-more (drops_at drops.Lost ∷ []) fid own.1) own.2.1
    dropped drops.Down = drop-next (drops_at drops.Down ∷ []) fid places refl (gone-more (drops_at drops.Down ∷ []) fid own.1) own.2.1
    dropped (drops.DiskFault block stamp) =
        drop-next (drops_at (drops.DiskFault block stamp) ∷ []) fid places refl (gone-more (drops_at (drops.DiskFault block stamp) ∷ []) fid own.1) own.2.1

    through : (g' : NodeAnswer) (x : Event) → node_event by n (ask.Drop fid) g' ≡ Some x → IsNext (Dropping fid n places) (Answered true g') (x ∷ [])
    through (answer.Drop a) x is =
        subst (λ y. IsNext (Dropping fid n places) (Answered true (answer.Drop a)) (y ∷ [])) (the_some _ x is) (λ told. dropped a)
    through (_) x is = cc

    replied : (g' : NodeAnswer) (x : Event) → IsNext (Dropping fid n places) Missed (e.Missed by n true ∷ x ∷ [])
    replied g' x told = drop-next (e.Missed by n true ∷ x ∷ []) fid places refl (gone-more (e.Missed by n true ∷ x ∷ []) fid own.1) own.2.1

    requested : IsNext (Dropping fid n places) Missed (e.Missed by n false ∷ [])
    requested told = drop-next (e.Missed by n false ∷ []) fid places refl (gone-more (e.Missed by n false ∷ []) fid own.1) own.2.1

  pub own-dropping : (fid n : ℕ) (places : List ℕ) → IsOpen run × HasGone o by fid × AllByRecursion (IsNodeOf v) (n ∷ places) → (t : Told) (xs : List Event)
      → IsStep by number (ask_of v.layout (Dropping fid n places)) t xs → IsNext (Dropping fid n places) t xs
  own-dropping fid n places own t xs step =
      node-step by n (ask.Drop fid) (λ z zs. IsNext (Dropping fid n places) z zs) (through fid n places own)
      (λ given x event link. replied fid n places own given x) (λ link. requested fid n places own) t xs step

  pub own-ending : (a : Answer) (t : Told) (xs : List Event) → IsStep by number (ask_of v.layout (Ending a)) t xs → IsNext (Ending a) t xs
  own-ending a t xs step = say-step by number (SayDone a) (λ z zs. IsNext (Ending a) z zs) (λ text told. refl) t xs step
