-- No update is lost.
use Rattle.std.proofs.Common.{◌≡◌, inl, inr, ◌<◌, ◌+◌, ◌*◌, ◌/◌, ℕ, Bool, true, false, cond, List, [], ◌∷◌, ◌++◌, length, Option, Some, None, refl, sym, ◌∙◌, ap, subst, arith}
use Rattle.std.specs.Prelude.{slice_get}
use Rattle.std.specs.List.{AllByRecursion}
use Rattle.mj_angles.specs.declared.layout.Layout.{Layout}
use Rattle.mj_angles.specs.Layout.{block_bytes_of}
use Rattle.rz_events.specs.Volume.{Volume}
use Rattle.rz_events.specs.declared.keys.Actor.{Actor}
use Rattle.rz_events.specs.declared.keys.Actor.TheVariants.{Admin}
use Rattle.rz_events.specs.declared.keys.Key.{Key}
use Rattle.rz_events.specs.declared.ends.ReadMark.TheVariants as mark
use Rattle.rz_events.specs.declared.events.Word.TheVariants.{Export, Node}
use Rattle.rz_events.specs.declared.events.Event.{Event}
use Rattle.rz_events.specs.declared.events.Event.TheVariants as e
use Rattle.rz_events.specs.Events.{word_of, same_actor}
use Rattle.rz_core.specs.History.{facts, of_word, of_actor, text_in}
use Rattle.rz_core.specs.Legal.{IsLegalInRuns}
use Rattle.rz_core.specs.ExportWord.{accepted}
use Rattle.rz_node_model.specs.States.{NodeState}
use Rattle.rz_export_model.specs.Export.{Export as ExportState}
use Rattle.rz_client_model.specs.declared.reading.ReadStage.{ReadStage}
use Rattle.rz_client_model.specs.declared.reading.ReadStage.TheVariants as reading
use Rattle.rz_client_model.specs.declared.writing.WriteStage.{WriteStage}
use Rattle.rz_client_model.specs.declared.writing.WriteStage.TheVariants as writing
use Rattle.rz_events.specs.declared.operations.Operation.{Operation}
use Rattle.rz_events.specs.declared.operations.Operation.TheVariants as operation
use Rattle.rz_operation_model.specs.Ranges.{RangeState}
use Rattle.rz_operation_model.specs.Work.{Work, Plan, OnBlock, OnRange, RangePlan, PutBlock, WriteBytes, ReadBytes, Course, Alone, Within, Calling, Dropping, Opening, Locking, Writing, Reading, Rebuilding, Ending, Over}
use Rattle.rz_operation_model.specs.Ask.{Ask, AskExport, AskNode, AskLock, Say, Rest, ask_of, first_byte, whole_bytes}
use Rattle.rz_operation_model.specs.Steps.{Told, begun, told}
use Rattle.rz_play.specs.World.{World, Agenda, world_after, with_agenda, begin_next, at_work}
use Rattle.rz_locks.specs.declared.conflict.Lock.{Lock}
use Rattle.rz_locks.specs.Conflicts.{HasByte}
use Rattle.rz_play.specs.Lines.{with_operation, with_miss}
use Rattle.rz_play.specs.Turns.{IsTurn, counted, kind_of}
use Rattle.rz_play_laws.proofs.Scripts.{seated}
use Rattle.rz_play_laws.proofs.Turning.{in-runs}
use Rattle.rz_play_laws.specs.Own.{IsOwnOf, IsWriteStage}
use Rattle.rz_script.specs.Lines.{IsActor}
use Rattle.rz_play_laws.specs.Fine.{IsFine}
use Rattle.rz_play_laws.proofs.Frames.{AreBy, of_actor-other, same_actor-true}
use Rattle.rz_play_locks.specs.Operations.{ended, in_hand, IsUpdate, IsGuarded}
use Rattle.rz_play_locks.specs.Promises.{published_text, IsUpdated, NoneLost}
use Rattle.rz_play_locks.specs.Holding.{HasBlock, OfPlan, IsPlanLocked, IsRange, IsCourseLock, IsAlone, IsHolding, IsKeeping}
use Rattle.rz_play_locks.specs.Texts.{IsLocking, ReadsPublished, IsUpdateWritten, IsText, IsSafe}
use Rattle.rz_play_locks.proofs.Moves.{IsLockAfter}
use Rattle.rz_play_locks.proofs.Holds.{guarded-back, guarded-update}
use Rattle.rz_play_locks.proofs.Kept.{IsGoing, runs-on, going, hand-of, keeping-turn}
use Rattle.rz_play_locks.proofs.Carried.{IsAdmins}
use Rattle.rz_play_locks.proofs.Worlds.{keeping-gives, keeping-misses, keeping-admins, keeping-new}
use Rattle.rz_play_locks.proofs.Publishing.{publish-step, IsSendingOf, sending-of, lock-low, lock-high, barred}
use Rattle.rz_play_locks.proofs.Published.{publishes, AreSilent, accepted-same, text-same, IsPublished, MayPublish, may-publish}
use Rattle.rz_play_locks.proofs.OwnTexts.{IsSaid, text-turn}

-- The lock of an update or a view is on the block in hand.
pub record IsOn (layout : Layout) (lock : Option Lock) (key : Key) : Type 0 where
  pub held : Lock
  pub is : lock ≡ Some held
  pub block : HasBlock layout held key

pub never-opened : (op : Operation) (path : List ℕ) (plan : Plan) → IsLocking (Some op) → begun op ≡ Opening path plan → ⊥
never-opened (operation.Update p o d) path plan locking is = cc
never-opened (operation.View p o c) path plan locking is = cc
never-opened (_) path plan locking is = locking

pub range-on : (layout : Layout) (op : Operation) (lock : Option Lock) (r : RangeState) (key : Key) → IsLocking (Some op) → IsRange layout op lock r key → IsOn layout lock key
range-on layout op lock r key locking is = go is.plan is.held is.range
  where
    on : (offset count : ℕ) (exclusive : Bool) → r.offset ≡ offset → r.done < count → lock ≡ Some (record { range = record { fid = r.info.fid; from = first_byte layout offset; length = whole_bytes layout offset count }; kind = kind_of exclusive })
        → IsOn layout lock key
    on offset count exclusive at low lock_is = record {
      held = record { range = record { fid = r.info.fid; from = first_byte layout offset; length = whole_bytes layout offset count }; kind = kind_of exclusive };
      is = lock_is;
      block = subst (λ (k : Key). HasBlock layout (record { range = record { fid = r.info.fid; from = first_byte layout offset; length = whole_bytes layout offset count }; kind = kind_of exclusive }) k) (sym is.key_is) (
        refl,
        subst (λ z. HasByte (record { fid = r.info.fid; from = first_byte layout offset; length = whole_bytes layout offset count }) ((z + r.done) / block_bytes_of layout * block_bytes_of layout)) (sym at)
            (lock-low layout offset r.done count low, lock-high layout offset r.done count low),
      );
    }

    go : (plan : RangePlan) → IsPlanLocked layout op lock is.path plan r.info.fid → OfPlan plan r → IsOn layout lock key
    go plan (inl held) range = absurd (never-opened op is.path (OnRange plan) locking held.0)
    go (WriteBytes offset bytes) (inr held) range = on offset (length bytes) true range.0 (let left = is.left in let size = range.1 in omega (arith, left, size)) held.1
    go (ReadBytes offset count) (inr held) range = on offset count false range.0 (let left = is.left in let size = range.1 in omega (arith, left, size)) held.1

-- What others do leaves the text.

newest-frame : (h g : List Event) (key : Key) → accepted (of_word Export g) key ≡ accepted (of_word Export h) key → (stage : ReadStage) → ReadsPublished h key stage → ReadsPublished g key stage
newest-frame h g key same reading.Looking is = tt
newest-frame h g key same (reading.Fetching t) is = (is.0, same ∙ is.1)
newest-frame h g key same (reading.Ended (mark.Found s size)) is = (is.0, same ∙ is.1)
newest-frame h g key same (reading.Ended mark.Hole) is = same ∙ is
newest-frame h g key same (reading.Ended (mark.Moved was now)) is = is
newest-frame h g key same (reading.Ended (_)) is = tt

written-frame : (layout : Layout) (h g : List Event) (m : Option Operation) (key : Key) (text : List ℕ) → published_text g key ≡ published_text h key → (stage : WriteStage)
    → IsUpdateWritten layout h m key text stage → IsUpdateWritten layout g m key text stage
written-frame layout h g m key text same writing.Beginning is = subst (λ (z : List ℕ). IsUpdated layout m key.block z text) (sym same) is
written-frame layout h g m key text same (writing.Sending t) is = subst (λ (z : List ℕ). IsUpdated layout m key.block z text) (sym same) is
written-frame layout h g m key text same (writing.Ended end) is = tt

update-locks : (m : Option Operation) → IsUpdate m → IsLocking m
update-locks (Some (operation.Update p o d)) is = tt
update-locks (Some (_)) is = absurd is
update-locks None is = absurd is

module _ (v : Volume) (ops : Actor → List Operation) (run h xs : List Event) (legal : IsLegalInRuns v h) where
  pub text-frame : (op : Operation) (lock : Option Lock) → ((key : Key) → IsGuarded ops key (xs ++ run) → IsOn v.layout lock key → accepted (of_word Export (xs ++ h)) key ≡ accepted (of_word Export h) key)
      → (work : Work) → IsHolding v.layout op lock work → IsText v.layout ops run h (Some op) work → IsText v.layout ops (xs ++ run) (xs ++ h) (Some op) work
  text-frame op lock same (Reading (Within r) s) holds is = λ locking guarded.
      let less = guarded-back ops s.key xs run guarded in
      newest-frame h (xs ++ h) s.key (same s.key guarded (range-on v.layout op lock r s.key locking holds)) s.stage (is locking less)
  text-frame op lock same (Writing (Within r) text s) holds is = λ update guarded.
      let less = guarded-back ops s.key xs run guarded in
      written-frame v.layout h (xs ++ h) (Some op) s.key text
      (text-same v xs h s.key legal (same s.key guarded (range-on v.layout op lock r s.key (update-locks (Some op) update) holds.0))) s.stage (is update less)
  text-frame op lock same (Reading Alone s) holds is = tt
  text-frame op lock same (Writing Alone text s) holds is = tt
  text-frame op lock same (Calling c) holds is = tt
  text-frame op lock same (Dropping fid n places) holds is = tt
  text-frame op lock same (Opening path plan) holds is = tt
  text-frame op lock same (Locking path plan) holds is = tt
  text-frame op lock same (Rebuilding n s) holds is = tt
  text-frame op lock same (Ending a) holds is = tt
  text-frame op lock same Over holds is = tt

-- events that do not publish the key
pub none-silent : (layout : Layout) (ops : Actor → List Operation) (old run : List Event) (key : Key) (zs : List Event) → AreSilent key zs → NoneLost layout ops key old run → NoneLost layout ops key old (zs ++ run)
none-silent layout ops old run key [] silent is = is
none-silent layout ops old run key (e.Publish by at s mask None ∷ zs) silent is = (none-silent layout ops old run key zs silent.1 is, λ same. cc)
none-silent layout ops old run key (e.Publish by at s mask (Some refused) ∷ zs) silent is = none-silent layout ops old run key zs silent.1 is
none-silent layout ops old run key (_ ∷ zs) silent is = none-silent layout ops old run key zs silent.1 is

-- an operation that is taken up knows nothing yet
pub text-at_work : (layout : Layout) (ops : Actor → List Operation) (run h : List Event) (m : Option Operation) (s : Agenda) → IsText layout ops run h m s.work → IsText layout ops run h m (at_work s).work
text-at_work layout ops run h m s is = up s.work s.todo refl
  where
    first : (op : Operation) → IsText layout ops run h m (begun op)
    first (operation.Tree c) = tt
    first (operation.Put p b d) = tt
    first (operation.Get p b) = tt
    first (operation.Write p o d) = tt
    first (operation.Read p o c) = tt
    first (operation.Rebuild n) = tt
    first (operation.Update p o d) = tt
    first (operation.View p o c) = tt

    up : (work : Work) (todo : List Operation) → s.work ≡ work → IsText layout ops run h m (begin_next s work todo).work
    up Over (op ∷ rest) at = first op
    up Over [] at = is
    up (Calling c) todo at = is
    up (Dropping fid n places) todo at = is
    up (Opening path plan) todo at = is
    up (Locking path plan) todo at = is
    up (Writing c text w) todo at = is
    up (Reading c r) todo at = is
    up (Rebuilding n r) todo at = is
    up (Ending a) todo at = is

said-of : (v : Volume) (ops : Actor → List Operation) (run : List Event) (w : World) (op : Operation) (by : Actor) (s : Agenda) (a : Ask) (t : Told) (lock : Option Lock) → IsLockAfter w by s a t lock → IsSaid v ops run w.log op a t
said-of v ops run w op by s (Say said) t lock is = is.0
said-of v ops run w op by s (AskExport c) t lock is = tt
said-of v ops run w op by s (AskNode n question) t lock is = tt
said-of v ops run w op by s (AskLock path exclusive from count) t lock is = tt
said-of v ops run w op by s Rest t lock is = tt

-- an accepted publish is of the text that was published, with the update's bytes in place
published-updated : (v : Volume) (ops : Actor → List Operation) (run h o mine : List Event) (by : Actor) (op : Operation) (lock : Option Lock) (work : Work) (key : Key) (stamp : ℕ) → IsSendingOf work key stamp
    → IsHolding v.layout op lock work → IsText v.layout ops run h (Some op) work → IsOwnOf v (facts h) o mine by work → IsUpdate (Some op) → IsGuarded ops key run
    → IsUpdated v.layout (Some op) key.block (published_text h key) (text_in ((facts h).wrote stamp))
published-updated v ops run h o mine by op lock work key stamp k holds text own update guarded =
    subst (λ (z : Key). IsUpdated v.layout (Some op) z.block (published_text h z) (text_in ((facts h).wrote stamp))) k.key_is
    (subst (λ z. IsUpdated v.layout (Some op) k.state.key.block (published_text h k.state.key) (text_in ((facts h).wrote z))) k.stamp_is
    (subst (λ z. IsUpdated v.layout (Some op) k.state.key.block (published_text h k.state.key) (text_in z)) (sym sent.wrote) (by-course k.course is.0 is.1 at)))
  where
    is : IsHolding v.layout op lock (Writing k.course k.text k.state)
    is = subst (IsHolding v.layout op lock) k.work_is holds

    own_is : IsOwnOf v (facts h) o mine by (Writing k.course k.text k.state)
    own_is = subst (IsOwnOf v (facts h) o mine by) k.work_is own

    sent : IsWriteStage v (facts h) o by k.state.key k.state.places k.text (writing.Sending k.sent)
    sent = subst (IsWriteStage v (facts h) o by k.state.key k.state.places k.text) k.stage_is own_is.1.stage

    at : IsText v.layout ops run h (Some op) (Writing k.course k.text k.state)
    at = subst (IsText v.layout ops run h (Some op)) k.work_is text

    here : IsGuarded ops k.state.key run
    here = subst (λ z. IsGuarded ops z run) (sym k.key_is) guarded

    by-course : (course : Course) → IsCourseLock v.layout op lock course k.state.key → IsAlone op course → IsText v.layout ops run h (Some op) (Writing course k.text k.state)
        → IsUpdated v.layout (Some op) k.state.key.block (published_text h k.state.key) k.text
    by-course Alone in_course put text = absurd (never-opened op put.0 (OnBlock (PutBlock put.1 put.2)) (update-locks (Some op) update) put.3)
    by-course (Within r) in_course put text =
        subst (IsUpdateWritten v.layout h (Some op) k.state.key k.text) k.stage_is (text update here)

-- After a turn.
pub safe-turn : (v : Volume) (old : List Event) (ops more : Actor → List Operation) (by : Actor) → IsActor by → (w next : World) (fine : IsFine v old w) (fine_next : IsFine v old next)
    → IsSafe v.layout ops more old fine.run w → IsTurn v by w next → IsSafe v.layout ops more old fine_next.run next
safe-turn v old ops more by ok w next fine fine_next safe turn = elim (going v old ops more by ok w next fine fine_next safe.keeping turn) [
  | inl same ↦ subst (λ (r : List Event). IsSafe v.layout ops more old r next) (sym (runs-on v old w next fine fine_next [] (ap (λ (z : World). z.log) same)))
      (subst (IsSafe v.layout ops more old run) (sym same) (record { keeping = record { apart = safe.keeping.apart; agendas = safe.keeping.agendas }; texts = safe.texts; none_lost = safe.none_lost }))
  | inr g ↦ record {
    keeping = now;
    texts = λ a is. texts g a is (same_actor a by) refl;
    none_lost = λ key guarded. subst (λ (r : List Event). NoneLost v.layout ops key old r) (sym (run_is g)) (none g key (subst (λ (r : List Event). IsGuarded ops key r) (run_is g) guarded));
  }
]
  where
    run : List Event
    run = fine.run

    s : Agenda
    s = at_work (w.agendas by)

    Going : Type 0
    Going = IsGoing v ops run w by (at_work (w.agendas by)) next

    now : IsKeeping v.layout ops more fine_next.run next
    now = keeping-turn v old ops more by ok w next fine fine_next safe.keeping turn

    run_is : (g : Going) → fine_next.run ≡ g.move.xs ++ run
    run_is g = runs-on v old w next fine fine_next g.move.xs g.move.log_is

    published : (g : Going) (key : Key) → MayPublish by key g.move.xs
    published g key =
        may-publish v (facts w.log) (of_actor by w.log) (of_actor by run) by (at_work (w.agendas by)).number key (ask_of v.layout (at_work (w.agendas by)).work) g.proper g.move.t g.move.xs g.move.step

    -- an accepted publish of a guarded key is that of an update
    of-guarded : (g : Going) (key : Key) (p : IsPublished by key g.move.xs) → IsGuarded ops key (g.move.xs ++ run) → IsUpdate (in_hand (ops by) (of_actor by run))
    of-guarded g key p guarded = guarded-update ops by key p.stamp p.mask g.move.xs run p.is guarded

    -- the text that the actor itself knows
    known : (g : Going) → IsText v.layout ops run w.log (Some g.hand.op) (at_work (w.agendas by)).work
    known g = text-at_work v.layout ops run w.log (Some g.hand.op) (w.agendas by) (subst (λ z. IsText v.layout ops run w.log z (w.agendas by).work) g.hand.at (safe.texts by ok))

    after : (g : Going) → IsText v.layout ops (g.move.xs ++ run) (g.move.xs ++ w.log) (Some g.hand.op) (told v.layout (at_work (w.agendas by)).work g.move.t)
    after g =
        text-turn v ops run w.log g.hand.op by (at_work (w.agendas by)).number (at_work (w.agendas by)).lock g.move.t g.move.xs
        (subst (IsLegalInRuns v) g.move.log_is (in-runs v old next fine_next)) (in-runs v old w fine) (at_work (w.agendas by)).work g.hand.holds (known g) g.move.step
        (said-of v ops run (counted w) g.hand.op by (at_work (w.agendas by)) (ask_of v.layout (at_work (w.agendas by)).work) g.move.t (next.agendas by).lock g.move.lock_is)

    mine : (g : Going) → IsText v.layout ops fine_next.run next.log (in_hand (ops by) (of_actor by fine_next.run)) (next.agendas by).work
    mine g = elim (hand-of v.layout ops (of_actor by fine_next.run) by (next.agendas by).number (next.agendas by).lock (next.agendas by).work (now.agendas by ok).hand) [
      | inl over ↦ subst (IsText v.layout ops fine_next.run next.log (in_hand (ops by) (of_actor by fine_next.run))) (sym over) tt
      | inr hand ↦ (
          let a = hand.count in
          let b = g.hand.count in
          let n = g.move.number_is in
          let same : ended (of_actor by fine_next.run) ≡ ended (of_actor by run) = omega (arith, a, b, n) in
          subst (λ z. IsText v.layout ops fine_next.run next.log z (next.agendas by).work) (sym (ap (slice_get (ops by)) same ∙ g.hand.at))
          (subst (λ (r : List Event). IsText v.layout ops r next.log (Some g.hand.op) (next.agendas by).work) (sym (run_is g))
          (subst (λ (h : List Event). IsText v.layout ops (g.move.xs ++ run) h (Some g.hand.op) (next.agendas by).work) (sym g.move.log_is)
          (subst (IsText v.layout ops (g.move.xs ++ run) (g.move.xs ++ w.log) (Some g.hand.op)) (sym g.move.work_is) (after g))))
          )
    ]

    -- and the one that another actor knows
    other : (g : Going) (a : Actor) → IsActor a → same_actor a by ≡ false → IsText v.layout ops (g.move.xs ++ run) (g.move.xs ++ w.log) (in_hand (ops a) (of_actor a run)) (w.agendas a).work
    other g a is apart = elim (hand-of v.layout ops (of_actor a run) a (w.agendas a).number (w.agendas a).lock (w.agendas a).work (safe.keeping.agendas a is).hand) [
      | inl over ↦ subst (IsText v.layout ops (g.move.xs ++ run) (g.move.xs ++ w.log) (in_hand (ops a) (of_actor a run))) (sym over) tt
      | inr hand ↦ subst (λ z. IsText v.layout ops (g.move.xs ++ run) (g.move.xs ++ w.log) z (w.agendas a).work) (sym hand.at)
          (text-frame v ops run w.log g.move.xs (in-runs v old w fine) hand.op (w.agendas a).lock
          (λ key guarded on. elim (published g key) [
            | inl silent ↦ accepted-same g.move.xs w.log key silent
            | inr p ↦ absurd (barred v ops run w next by ok safe.keeping.apart g by key p.stamp p.mask [] p.is (of-guarded g key p guarded) a is apart on.held on.is on.block)
          ])
          (w.agendas a).work hand.holds (subst (λ z. IsText v.layout ops run w.log z (w.agendas a).work) hand.at (safe.texts a is)))
    ]

    texts : (g : Going) (a : Actor) → IsActor a → (b : Bool) → same_actor a by ≡ b → IsText v.layout ops fine_next.run next.log (in_hand (ops a) (of_actor a fine_next.run)) (next.agendas a).work
    texts g a is true at = subst (λ z. IsText v.layout ops fine_next.run next.log (in_hand (ops z) (of_actor z fine_next.run)) (next.agendas z).work) (sym (same_actor-true a by at)) (mine g)
    texts g a is false apart =
        subst (λ (r : List Event). IsText v.layout ops r next.log (in_hand (ops a) (of_actor a r)) (next.agendas a).work) (sym (run_is g))
        (subst (λ (h : List Event). IsText v.layout ops (g.move.xs ++ run) h (in_hand (ops a) (of_actor a (g.move.xs ++ run))) (next.agendas a).work) (sym g.move.log_is)
        (subst (λ (z : Agenda). IsText v.layout ops (g.move.xs ++ run) (g.move.xs ++ w.log) (in_hand (ops a) (of_actor a (g.move.xs ++ run))) z.work) (sym (g.move.others a apart))
        (subst (λ (o : List Event). IsText v.layout ops (g.move.xs ++ run) (g.move.xs ++ w.log) (in_hand (ops a) o) (w.agendas a).work) (sym (of_actor-other a by g.move.xs run apart g.mine)) (other g a is apart))))

    none : (g : Going) (key : Key) → IsGuarded ops key (g.move.xs ++ run) → NoneLost v.layout ops key old (g.move.xs ++ run)
    none g key guarded =
        let less = guarded-back ops key g.move.xs run guarded in
        elim (published g key) [
          | inl silent ↦ none-silent v.layout ops old run key g.move.xs silent (safe.none_lost key less)
          | inr p ↦ subst (λ (zs : List Event). NoneLost v.layout ops key old (zs ++ run)) (sym p.is) (
            safe.none_lost key less,
            λ same. subst (λ z. IsUpdated v.layout z key.block (published_text (run ++ old) key) (text_in ((facts (run ++ old)).wrote p.stamp))) (sym g.hand.at)
                (subst (λ (h : List Event). IsUpdated v.layout (Some g.hand.op) key.block (published_text h key) (text_in ((facts h).wrote p.stamp))) fine.log_is
                (let asks = publish-step by by (at_work (w.agendas by)).number key p.stamp p.mask [] v (facts w.log) (of_actor by w.log) (of_actor by run) (ask_of v.layout (at_work (w.agendas by)).work) g.proper g.move.t g.move.xs g.move.step p.is in
                published-updated v ops run w.log (of_actor by w.log) (of_actor by run) by g.hand.op (at_work (w.agendas by)).lock (at_work (w.agendas by)).work key p.stamp
                (sending-of v.layout key p.stamp p.mask asks.size (at_work (w.agendas by)).work asks.asks) g.hand.holds (known g) g.own (subst IsUpdate g.hand.at (of-guarded g key p guarded)) less)),
          )
        ]

-- Lines.

-- a line that changes one agenda, but not what it has in hand
text-line : (layout : Layout) (ops : Actor → List Operation) (run : List Event) (w : World) (by : Actor) (t : Agenda) → t.work ≡ (w.agendas by).work
    → ((a : Actor) → IsActor a → IsText layout ops run w.log (in_hand (ops a) (of_actor a run)) (w.agendas a).work)
    → (a : Actor) → IsActor a → IsText layout ops run w.log (in_hand (ops a) (of_actor a run)) ((with_agenda w by t).agendas a).work
text-line layout ops run w by t same texts a ok = go (same_actor a by) refl
  where
    go : (b : Bool) → same_actor a by ≡ b → IsText layout ops run w.log (in_hand (ops a) (of_actor a run)) (cond b t (w.agendas a)).work
    go true is = subst (IsText layout ops run w.log (in_hand (ops a) (of_actor a run))) (ap (λ z. (w.agendas z).work) (same_actor-true a by is) ∙ sym same) (texts a ok)
    go false is = texts a ok

module _ (v : Volume) (old : List Event) (ops : Actor → List Operation) where
  pub safe-gives : (more : Actor → List Operation) (by : Actor) (op : Operation) (run : List Event) (w : World) → IsSafe v.layout ops (λ a. cond (same_actor a by) (op ∷ more a) (more a)) old run w
      → IsSafe v.layout ops more old run (with_agenda w by (with_operation (w.agendas by) op))
  safe-gives more by op run w is = record {
    keeping = keeping-gives v ops more by op run w is.keeping;
    texts = text-line v.layout ops run w by (with_operation (w.agendas by) op) refl is.texts;
    none_lost = is.none_lost;
  }

  pub safe-misses : (more : Actor → List Operation) (by : Actor) (reply : Bool) (run : List Event) (w : World) → IsSafe v.layout ops more old run w
      → IsSafe v.layout ops more old run (with_agenda w by (with_miss (w.agendas by) reply))
  safe-misses more by reply run w is = record {
    keeping = keeping-misses v ops more by reply run w is.keeping;
    texts = text-line v.layout ops run w by (with_miss (w.agendas by) reply) refl is.texts;
    none_lost = is.none_lost;
  }

  node-silent : (x : Event) (key : Key) (n : ℕ) → word_of x ≡ Node n → publishes key x ≡ false
  node-silent (e.Publish by at s mask refused) key n is = cc
  node-silent (_) key n is = refl

  pub admins-silent : (key : Key) (xs : List Event) → AllByRecursion IsAdmins xs → AreSilent key xs
  admins-silent key [] all = tt
  admins-silent key (x ∷ xs) all = (node-silent x key all.0.at.0 all.0.at.1, admins-silent key xs all.1)

  pub admins-by : (xs : List Event) → AllByRecursion IsAdmins xs → AreBy Admin xs
  admins-by [] all = tt
  admins-by (x ∷ xs) all = (all.0.by_is, admins-by xs all.1)

  pub safe-admins : (more : Actor → List Operation) (run : List Event) (w next : World) (xs : List Event) → IsFine v old w → AllByRecursion IsAdmins xs → next.agendas ≡ w.agendas → next.log ≡ xs ++ w.log
      → IsSafe v.layout ops more old run w → IsSafe v.layout ops more old (xs ++ run) next
  safe-admins more run w next xs fine all agendas_are log_is is = record {
    keeping = keeping-admins v ops more run w next xs all agendas_are is.keeping;
    texts = λ a ok.
        subst (λ (h : List Event). IsText v.layout ops (xs ++ run) h (in_hand (ops a) (of_actor a (xs ++ run))) (next.agendas a).work) (sym log_is)
        (subst (λ (z : Actor → Agenda). IsText v.layout ops (xs ++ run) (xs ++ w.log) (in_hand (ops a) (of_actor a (xs ++ run))) (z a).work) (sym agendas_are)
        (subst (λ (o : List Event). IsText v.layout ops (xs ++ run) (xs ++ w.log) (in_hand (ops a) o) (w.agendas a).work) (sym (of_actor-other a Admin xs run (seated a ok) (admins-by xs all))) (text a ok)));
    none_lost = λ key guarded. none-silent v.layout ops old run key xs (admins-silent key xs all) (is.none_lost key (guarded-back ops key xs run guarded));
  }
    where
      text : (a : Actor) → IsActor a → IsText v.layout ops (xs ++ run) (xs ++ w.log) (in_hand (ops a) (of_actor a run)) (w.agendas a).work
      text a ok = elim (hand-of v.layout ops (of_actor a run) a (w.agendas a).number (w.agendas a).lock (w.agendas a).work (is.keeping.agendas a ok).hand) [
        | inl over ↦ subst (IsText v.layout ops (xs ++ run) (xs ++ w.log) (in_hand (ops a) (of_actor a run))) (sym over) tt
        | inr hand ↦ subst (λ z. IsText v.layout ops (xs ++ run) (xs ++ w.log) z (w.agendas a).work) (sym hand.at)
            (text-frame v ops run w.log xs (in-runs v old w fine) hand.op (w.agendas a).lock (λ key guarded on. accepted-same xs w.log key (admins-silent key xs all))
            (w.agendas a).work hand.holds (subst (λ z. IsText v.layout ops run w.log z (w.agendas a).work) hand.at (is.texts a ok)))
      ]

pub safe-new : (v : Volume) (ops : Actor → List Operation) (nodes : ℕ → NodeState) (export : ExportState) (old : List Event) → IsSafe v.layout ops ops old [] (world_after nodes export old)
safe-new v ops nodes export old = record { keeping = keeping-new v ops nodes export old; texts = λ by ok. tt; none_lost = λ key guarded. tt }
