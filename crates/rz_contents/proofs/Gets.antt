-- The events of a read of a block.
use Rattle.std.proofs.Common.{ℕ, Bool, true, false, ◌==◌, ◌≡◌, inl, inr, List, [], ◌∷◌, ◌++◌, Option, Some, None, cond, refl, sym, ◌∙◌, ap, subst, nat_lt}
use Rattle.std.specs.Prelude.{slice_index}
use Rattle.mj_angles.specs.declared.layout.Layout.{Layout}
use Rattle.mj_angles.specs.Layout.{inverse_of}
use Rattle.rz_events.specs.Volume.{Volume}
use Rattle.rz_events.specs.declared.keys.Key.{Key}
use Rattle.rz_events.specs.declared.keys.Actor.{Actor}
use Rattle.rz_events.specs.declared.keys.Actor.TheVariants.{Client, Rebuilder, Admin}
use Rattle.std.proofs.lemmas.Bool.{eq-eqb}
use Rattle.rz_events.specs.declared.files.Published.{Published}
use Rattle.rz_events.specs.declared.ends.Seen.TheVariants as seen
use Rattle.rz_events.specs.declared.ends.ReadMark.{ReadMark}
use Rattle.rz_events.specs.declared.ends.ReadMark.TheVariants as mark
use Rattle.rz_events.specs.declared.tree.TreeReply.{TreeReply}
use Rattle.rz_events.specs.declared.tree.TreeReply.TheVariants as tree
use Rattle.rz_events.specs.declared.tree.TreeCall.TheVariants as calls
use Rattle.rz_events.specs.declared.export.Call.TheVariants as call
use Rattle.rz_events.specs.declared.export.Reply.{Reply}
use Rattle.rz_events.specs.declared.export.Reply.TheVariants as reply
use Rattle.rz_events.specs.declared.nodes.FetchAnswer.{FetchAnswer}
use Rattle.rz_events.specs.declared.nodes.FetchAnswer.TheVariants as fetch
use Rattle.rz_events.specs.declared.nodes.NodeAsk.TheVariants as ask
use Rattle.rz_events.specs.declared.nodes.NodeAnswer.{NodeAnswer}
use Rattle.rz_events.specs.declared.nodes.NodeAnswer.TheVariants as answer
use Rattle.rz_events.specs.declared.machines.ReaderAsk.TheVariants as asks
use Rattle.rz_events.specs.declared.events.Event.{Event}
use Rattle.rz_events.specs.declared.events.Event.TheVariants as e
use Rattle.rz_events.specs.Events.{same_actor}
use Rattle.rz_events.specs.Masks.{stamp_told}
use Rattle.rz_node_model.specs.NodeEvents.{node_event, fetch_event}
use Rattle.rz_export_model.specs.ExportEvents.{export_event, look_event, recheck_event}
use Rattle.rz_client_model.specs.declared.reading.ReaderState.{ReaderState}
use Rattle.rz_client_model.specs.declared.reading.ReadStage.{ReadStage}
use Rattle.rz_client_model.specs.declared.reading.ReadStage.TheVariants as reading
use Rattle.rz_client_model.specs.declared.reading.Fetches.{Fetches}
use Rattle.rz_client_model.specs.Read.{next_position, after_look, after_fetch, after_recheck, unless_enough, with_record, with_seen}
use Rattle.rz_operation_model.specs.Work.{Work, OnBlock, GetBlock, Alone, Opening, Reading, Ending, Over}
use Rattle.rz_operation_model.specs.Ask.{ask_of, read_asks}
use Rattle.rz_operation_model.specs.Steps.{Told, Replied, Answered, told, after_open, read_end}
use Rattle.rz_operation_model.specs.Turns.{IsStep, IsNodeStep, Through, ReplyLost, RequestLost}
use Rattle.rz_core.specs.Legal.{IsLegalInRuns}
use Rattle.rz_core.proofs.NodeSteps.{the_some}
use Rattle.rz_safety.specs.Reads.{before_look}
use Rattle.rz_contents.specs.Contents.{contents, TellsContents}
use Rattle.rz_contents.specs.Model.{changes, IsStill}
use Rattle.rz_contents.specs.Putting.{IsCourseFrom, Starts, Goes}
use Rattle.rz_contents.specs.Getting.{HasLook, IsGetEnd, IsGetStage, IsGet, IsGetAlone}
use Rattle.rz_contents.proofs.Reading.{read_undisturbed}
use Rattle.rz_contents.proofs.Putting.{export-step}
use Rattle.rz_contents.proofs.Stillness.{unpublished, still}

look-more : (ys xs : List Event) (by : Actor) → HasLook by xs → HasLook by (ys ++ xs)
look-more [] xs by l = l
look-more (y ∷ ys) xs by l = let i = look-more ys xs by l in (i.0, i.1, inr i.2)

-- The file is opened.

opened : (layout : Layout) (by : Actor) (block : ℕ) (xs : List Event) (r : TreeReply) → IsStill xs
    → IsGet by xs (after_open layout (OnBlock (GetBlock block)) r)
opened layout by block xs (tree.File info) still = (still, refl, tt)
opened layout by block xs (tree.Refused fault) still = still
opened layout by block xs _ still = tt

open-step : (layout : Layout) (by : Actor) (path : List ℕ) (block : ℕ) (xs : List Event) → IsStill xs → (r : Reply) (x : Event)
    → export_event by (call.Tree (calls.OpenFile path)) r ≡ Some x
    → IsGet by (x ∷ xs) (told layout (Opening path (OnBlock (GetBlock block))) (Replied r))
open-step layout by path block xs still (reply.Tree r) x is =
    subst (λ y. IsGet by (y ∷ xs) (told layout (Opening path (OnBlock (GetBlock block))) (Replied (reply.Tree r)))) (the_some _ x is)
    (opened layout by block (e.Meta by (calls.OpenFile path) r ∷ xs) r (refl, still))
open-step layout by path block xs still (_) x is = cc

-- The block is read.

module _ (by : Actor) (outer layout : Layout) (key : Key) (places : List ℕ) (xs : List Event) (still : IsStill xs) where
  abbrev at : ReadStage → ReaderState
  at stage = record { layout = layout; key = key; places = places; stage = stage }

  abbrev Next : ReadStage → Told → List Event → Type 0
  Next stage t ys = IsGet by (ys ++ xs) (told outer (Reading Alone (at stage)) t)

  looked : (p : Option Published) → IsGetStage by (e.Look by key p ∷ xs) (after_look layout p)
  looked None = (key, None, inl refl)
  looked (Some p) = (key, Some p, inl refl)

  look-step : (r : Reply) (x : Event) → look_event by (call.Look key) r ≡ Some x → Next reading.Looking (Replied r) (x ∷ [])
  look-step (reply.Looked p) x is =
      subst (λ y. Next reading.Looking (Replied (reply.Looked p)) (y ∷ [])) (the_some _ x is) ((refl, still), refl, looked p)
  look-step (reply.Denied why) x is =
      subst (λ y. Next reading.Looking (Replied (reply.Denied why)) (y ∷ [])) (the_some _ x is) ((refl, still), refl, tt)
  look-step (_) x is = cc

  module _ (t : Fetches) (look : HasLook by xs) where
    marked : (ys : List Event) (b : Bool) (stamp length : ℕ) → IsGetEnd by (ys ++ xs) (cond b (mark.Found stamp length) mark.Inconsistent)
    marked ys true stamp length = look-more ys xs by look
    marked ys false stamp length = look-more ys xs by look

    enough : (ys : List Event) (fits : Bool) (u : Fetches) → IsGetStage by (ys ++ xs) (unless_enough layout fits u)
    enough ys fits u = go (nat_lt u.given (inverse_of layout))
      where
        go : (b : Bool) → IsGetStage by (ys ++ xs) (cond b (reading.Fetching u) (reading.Ended (cond fits (mark.Found u.stamp u.length) mark.Inconsistent)))
        go true = look-more ys xs by look
        go false = marked ys fits u.stamp u.length

    fetched : (ys : List Event) (given : FetchAnswer) → IsGetStage by (ys ++ xs) (after_fetch layout true t given)
    fetched ys (fetch.Held r) = go (r.stamp == t.stamp)
      where
        go : (b : Bool) → IsGetStage by (ys ++ xs) (cond b (unless_enough layout true (with_record t r.length)) (reading.Fetching (with_seen t seen.Held)))
        go true = enough ys true (with_record t r.length)
        go false = look-more ys xs by look
    fetched ys given = look-more ys xs by look

    fetch-still : (n : ℕ) (k : Key) (position stamp : ℕ) (given : FetchAnswer) → changes (fetch_event by n k position stamp given) ≡ false
    fetch-still n k position stamp (fetch.Held r) = refl
    fetch-still n k position stamp fetch.Nothing = refl
    fetch-still n k position stamp fetch.Lost = refl
    fetch-still n k position stamp fetch.Down = refl
    fetch-still n k position stamp fetch.DiskFault = refl

    fetch-event : (n : ℕ) (k : Key) (position stamp : ℕ) (given : NodeAnswer) (x : Event) → node_event by n (ask.Fetch k position stamp) given ≡ Some x → changes x ≡ false
    fetch-event n k position stamp (answer.Fetch given) x is = subst (λ y. changes y ≡ false) (the_some _ x is) (fetch-still n k position stamp given)
    fetch-event n k position stamp (_) x is = cc

    answered : (n : ℕ) (k : Key) (position stamp : ℕ) (given : NodeAnswer) (x : Event) → node_event by n (ask.Fetch k position stamp) given ≡ Some x → Next (reading.Fetching t) (Answered true given) (x ∷ [])
    answered n k position stamp (answer.Fetch given) x is = ((fetch-event n k position stamp (answer.Fetch given) x is, still), refl, fetched (x ∷ []) given)
    answered n k position stamp (_) x is = cc

    fetch-step : (n : ℕ) (k : Key) (position stamp : ℕ) (t' : Told) (ys : List Event) → IsNodeStep by n (ask.Fetch k position stamp) t' ys → Next (reading.Fetching t) t' ys
    fetch-step n k position stamp t' ys (Through given x is) = answered n k position stamp given x is
    fetch-step n k position stamp t' ys (ReplyLost given x is lossy) =
        ((refl, (fetch-event n k position stamp given x is, still)), refl, look-more (e.Missed by n true ∷ x ∷ []) xs by look)
    fetch-step n k position stamp t' ys (RequestLost lossy) = ((refl, still), refl, look-more (e.Missed by n false ∷ []) xs by look)

    rechecked : (x : Event) (p : Option Published) → IsGetStage by (x ∷ xs) (after_recheck t p)
    rechecked x p = go (stamp_told p == t.stamp)
      where
        go : (b : Bool) → IsGetEnd by (x ∷ xs) (cond b (mark.TooFew t.seen) (mark.Moved t.stamp (stamp_told p)))
        go true = look-more (x ∷ []) xs by look
        go false = look-more (x ∷ []) xs by look

    recheck-step : (r : Reply) (x : Event) → recheck_event by (call.Recheck key) r ≡ Some x → Next (reading.Fetching t) (Replied r) (x ∷ [])
    recheck-step (reply.Looked p) x is =
        subst (λ y. Next (reading.Fetching t) (Replied (reply.Looked p)) (y ∷ [])) (the_some _ x is) ((refl, still), refl, rechecked (e.Recheck by key p) p)
    recheck-step (reply.Denied why) x is =
        subst (λ y. Next (reading.Fetching t) (Replied (reply.Denied why)) (y ∷ [])) (the_some _ x is) ((refl, still), refl, tt)
    recheck-step (_) x is = cc

  stage-step : (number : ℕ) (stage : ReadStage) → IsGetStage by xs stage → (t' : Told) (ys : List Event)
      → IsStep by number (ask_of outer (Reading Alone (at stage))) t' ys → Next stage t' ys
  stage-step number reading.Looking is t' ys step = export-step by (call.Look key) (λ u us. Next reading.Looking u us) look-step t' ys step
  stage-step number (reading.Fetching t) is t' ys step = go (t.left == 0) step
    where
      go : (b : Bool)
          → IsStep by number (read_asks false key None (cond b asks.Recheck (asks.Fetch (next_position t) (slice_index places (next_position t)) t.stamp))) t' ys
          → Next (reading.Fetching t) t' ys
      go true step' = export-step by (call.Recheck key) (λ u us. Next (reading.Fetching t) u us) (recheck-step t is) t' ys step'
      go false step' = fetch-step t is (slice_index places (next_position t)) key (next_position t) t.stamp t' ys step'
  stage-step number (reading.Ended m) is t' ys step = subst (λ u. Next (reading.Ended m) u ys) (sym step.1) tt

turn : (layout : Layout) (by : Actor) (number : ℕ) (xs : List Event) (work : Work) → IsGet by xs work
    → (t : Told) (ys : List Event) → IsStep by number (ask_of layout work) t ys → IsGet by (ys ++ xs) (told layout work t)
turn layout by number xs (Opening path plan) is t ys step =
    subst (λ p. IsGet by (ys ++ xs) (told layout (Opening path p) t)) (sym is.1.1)
    (export-step by (call.Tree (calls.OpenFile path)) (λ u us. IsGet by (us ++ xs) (told layout (Opening path (OnBlock (GetBlock is.1.0))) u))
    (open-step layout by path is.1.0 xs is.0) t ys step)
turn layout by number xs (Reading course s) is t ys step =
    subst (λ w. IsStep by number (ask_of layout w) t ys → IsGet by (ys ++ xs) (told layout w t)) (sym (ap (λ c. Reading c s) is.1))
    (stage-step by layout s.layout s.key s.places xs is.0 number s.stage is.2 t ys) step
turn layout by number xs (Ending a) still t ys step = subst (λ u. IsGet by (ys ++ xs) (told layout (Ending a) u)) (sym step.1) tt
turn layout by number xs Over is t ys step = absurd step
turn layout by number xs (_) is t ys step = absurd is

pub gets : (layout : Layout) (by : Actor) (number : ℕ) (path : List ℕ) (block : ℕ) (xs : List Event) (work : Work)
    → IsCourseFrom layout by number (Opening path (OnBlock (GetBlock block))) xs work → IsGet by xs work
gets layout by number path block xs work (Starts) = (tt, (block, refl))
gets layout by number path block xs work (Goes before was t ys course step) =
    turn layout by number before was (gets layout by number path block before was course) t ys step

-- The look stands among them.

pub record IsInside (by : Actor) (xs old : List Event) : Type 0 where
  pub more : List Event
  pub there : more ++ before_look by (xs ++ old) ≡ xs ++ old
  pub still : IsStill more

pub same_actor-refl : (a : Actor) → same_actor a a ≡ true
same_actor-refl (Client a) = eq-eqb a a refl
same_actor-refl (Rebuilder a) = eq-eqb a a refl
same_actor-refl Admin = refl

pub inside : (by : Actor) (xs old : List Event) → IsStill xs → HasLook by xs → IsInside by xs old
inside by [] old still look = absurd look.2
inside by (e.Look a key answer ∷ xs) old still look = go (same_actor by a) refl (λ rest. inside by xs old still.1 rest)
  where
    go : (b : Bool) → same_actor by a ≡ b → (HasLook by xs → IsInside by xs old) → IsInside by (e.Look a key answer ∷ xs) old
    go true is again = record {
      more = e.Look a key answer ∷ [];
      there = ap (λ b. e.Look a key answer ∷ cond b (xs ++ old) (before_look by (xs ++ old))) is;
      still = (refl, tt);
    }
    go false is again = elim look.2 [
      | inl here ↦ (let same : a ≡ by = cc in let yes = subst (λ z. same_actor by z ≡ true) (sym same) (same_actor-refl by) in cc)
      | inr rest ↦ (let i = again (look.0, look.1, rest) in record {
        more = e.Look a key answer ∷ i.more;
        there = ap (λ b. e.Look a key answer ∷ (i.more ++ cond b (xs ++ old) (before_look by (xs ++ old)))) is ∙ ap (λ (l : List Event). e.Look a key answer ∷ l) i.there;
        still = (refl, i.still);
      })
    ]
inside by (x ∷ xs) old still look = elim look.2 [
  | inl here ↦ cc
  | inr old' ↦ (let i = inside by xs old still.1 (look.0, look.1, old') in record {
    more = x ∷ i.more;
    there = ap (λ (l : List Event). x ∷ l) i.there;
    still = (still.0, i.still);
  })
]

found : (v : Volume) (old xs : List Event) (by : Actor) (number : ℕ) (key : Key) (text : List ℕ) (m : ReadMark)
    → IsLegalInRuns v (e.Got by number key false (read_end text m) ∷ xs ++ old) → IsStill xs → IsGetEnd by xs m → TellsContents (xs ++ old) key (read_end text m)
found v old xs by number key text (mark.Found stamp length) legal still look =
    let i = inside by xs old still look in read_undisturbed v (xs ++ old) i.more by number key false (read_end text (mark.Found stamp length)) legal i.there (unpublished key i.more i.still)
found v old xs by number key text mark.Hole legal still look =
    let i = inside by xs old still look in read_undisturbed v (xs ++ old) i.more by number key false (read_end text mark.Hole) legal i.there (unpublished key i.more i.still)
found v old xs by number key text mark.Inconsistent legal still look = tt
found v old xs by number key text (mark.TooFew told) legal still look = tt
found v old xs by number key text (mark.Denied cause) legal still look = tt
found v old xs by number key text (mark.Moved was now) legal still look = tt

back : (newer older : List Event) (key : Key) (text : List ℕ) (m : ReadMark) → contents newer key ≡ contents older key → TellsContents newer key (read_end text m) → TellsContents older key (read_end text m)
back newer older key text (mark.Found stamp length) same is = sym same ∙ is
back newer older key text mark.Hole same is = sym same ∙ is
back newer older key text mark.Inconsistent same is = tt
back newer older key text (mark.TooFew told) same is = tt
back newer older key text (mark.Denied cause) same is = tt
back newer older key text (mark.Moved was now) same is = tt

pub get_alone : (v : Volume) → IsGetAlone v
get_alone v old xs by number path block text s m legal course is =
    let get = gets v.layout by number path block xs (Reading Alone s) course in
    let got : Event = e.Got by number s.key false (read_end text m) in
    let end = subst (λ g. IsGetStage by xs g) is get.2 in (
      back (xs ++ old) old s.key text m ((still v xs old legal.0 get.0).blocks s.key) (found v old xs by number s.key text m legal get.0 end),
      still v (got ∷ xs) old legal (refl, get.0),
    )
