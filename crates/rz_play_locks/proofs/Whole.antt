-- No view sees an update in part.
use Rattle.std.proofs.Common.{◌≡◌, ◌⊎◌, inl, inr, ◌<◌, ◌≤◌, ◌+◌, ◌-◌, ◌/◌, min, ℕ, Bool, true, false, cond, List, [], ◌∷◌, ◌++◌, length, Option, Some, None, refl, sym, ◌∙◌, ap, subst, arith}
use Rattle.std.specs.Prelude.{slice_get, nat_lt, ◌&&◌}
use Rattle.std.specs.List.{AllByRecursion}
use Rattle.mj_angles.specs.declared.layout.Layout.{Layout}
use Rattle.mj_angles.specs.Layout.{block_bytes_of}
use Rattle.rz_events.specs.Volume.{Volume}
use Rattle.rz_events.specs.declared.keys.Actor.{Actor}
use Rattle.rz_events.specs.declared.keys.Actor.TheVariants.{Admin}
use Rattle.rz_events.specs.declared.keys.Key.{Key}
use Rattle.rz_events.specs.declared.files.FileInfo.{FileInfo}
use Rattle.rz_events.specs.declared.tree.TreeCall.TheVariants as tree
use Rattle.rz_events.specs.declared.tree.TreeReply.TheVariants as answer
use Rattle.rz_events.specs.declared.export.Call.TheVariants as call
use Rattle.rz_events.specs.declared.ends.ReadMark.{ReadMark}
use Rattle.rz_events.specs.declared.ends.WriteEnd.{WriteEnd}
use Rattle.rz_events.specs.declared.machines.ReaderAsk.{ReaderAsk}
use Rattle.rz_events.specs.declared.machines.ReaderAsk.TheVariants as reads
use Rattle.rz_events.specs.declared.machines.WriterAsk.{WriterAsk}
use Rattle.rz_events.specs.declared.machines.WriterAsk.TheVariants as writes
use Rattle.rz_events.specs.declared.events.Answer.{Answer}
use Rattle.rz_events.specs.declared.events.Word.TheVariants.{Export, Node}
use Rattle.rz_events.specs.declared.events.Event.{Event}
use Rattle.rz_events.specs.declared.events.Event.TheVariants as e
use Rattle.rz_events.specs.Events.{word_of, same_actor, same_key}
use Rattle.rz_core.specs.History.{Facts, facts, of_word, of_actor, text_in}
use Rattle.rz_core.specs.Legal.{IsLegalInRuns}
use Rattle.rz_core.specs.ExportWord.{accepted, is_newer}
use Rattle.rz_core.proofs.Stamps.{cases_le, same_key-true}
use Rattle.rz_safety.specs.Reads.{IsAcked}
use Rattle.rz_safety.proofs.Acked.{accepted-acked}
use Rattle.rz_safety.proofs.OrderLaws.{ordered}
use Rattle.std.proofs.lemmas.Bool.{lt-ltb}
use Rattle.rz_node_model.specs.States.{NodeState, fresh}
use Rattle.rz_export_model.specs.Export.{Export as ExportState, new_export}
use Rattle.std.proofs.lemmas.List.{append-nil}
use Rattle.rz_client_model.specs.declared.writing.WriterState.{WriterState}
use Rattle.rz_client_model.specs.Read.{reader_ask, reader_end}
use Rattle.rz_client_model.specs.Write.{writer_ask, writer_end}
use Rattle.rz_events.specs.declared.operations.Operation.{Operation}
use Rattle.rz_events.specs.declared.operations.Operation.TheVariants as operation
use Rattle.rz_script.specs.declared.line.Line.{Line}
use Rattle.rz_operation_model.specs.Ranges.{RangeState}
use Rattle.rz_operation_model.specs.Rebuild.{ask_to_copy, Probing, Enrolling, Replacing, Listing, Copying, Refilling, Leaving}
use Rattle.rz_operation_model.specs.Work.{Work, OnRange, RangePlan, WriteBytes, ReadBytes, Alone, Within, Calling, Dropping, Opening, Locking, Writing, Reading, Rebuilding, Ending, Over}
use Rattle.rz_operation_model.specs.Ask.{Ask, AskExport, AskNode, AskLock, Say, Rest, Saying, SayGot, SayGave, SayLeft, SayDone, ask_of, is_part, read_asks, rebuild_asks, write_asks, gave, first_byte, whole_bytes}
use Rattle.rz_operation_model.specs.Steps.{Told, begun, told}
use Rattle.rz_operation_model.specs.Turns.{IsStep, said_event}
use Rattle.rz_play.specs.World.{World, Agenda, world_after, with_agenda, begin_next, at_work}
use Rattle.rz_locks.specs.declared.conflict.Lock.{Lock}
use Rattle.rz_locks.specs.declared.conflict.LockKind.TheVariants.{Shared}
use Rattle.rz_script.specs.Lines.{IsActor}
use Rattle.rz_play.specs.Lines.{with_operation, with_miss}
use Rattle.rz_play.specs.Turns.{IsTurn, counted}
use Rattle.rz_play.specs.Played.{IsBegun, IsBegunFrom}
use Rattle.rz_play_laws.specs.Runs.{IsScript}
use Rattle.rz_play_laws.proofs.Scripts.{seated}
use Rattle.rz_play_laws.proofs.Turning.{in-runs}
use Rattle.rz_play_laws.specs.Own.{IsProper}
use Rattle.rz_script.specs.Lines.{IsActor}
use Rattle.rz_play_laws.specs.Fine.{IsTelling, MayBegin, IsFine}
use Rattle.rz_play_laws.proofs.Frames.{AreBy, of_actor-other, same_actor-true}
use Rattle.rz_play_laws.proofs.Steps.{export-step, node-step, lock-step, say-step}
use Rattle.rz_play_laws.proofs.Events.{export-event, node-event}
use Rattle.rz_play_locks.specs.Operations.{given, ended, in_hand, IsUpdate, IsGuarded}
use Rattle.rz_play_locks.specs.Promises.{published_text, text_of, newest_text, last_open, key_at, IsViewWhole, IsViewedAt, IsViewed, NoneLost, AreWhole}
use Rattle.rz_play_locks.specs.Holding.{AreLocksApart, HasBlock, lock_for, OfPlan, IsPlanLocked, IsRange, IsHolding, IsKeeping}
use Rattle.rz_play_locks.specs.Texts.{IsText, IsSafe}
use Rattle.rz_play_locks.specs.Views.{IsSeenAt, IsSeeing}
use Rattle.rz_play_locks.specs.Kept.{IsKeptAfter}
use Rattle.rz_play_laws.proofs.Plays.{new-beginning}
use Rattle.rz_play_locks.proofs.Moves.{IsLockAfter}
use Rattle.rz_play_locks.proofs.Holds.{guarded-update}
use Rattle.rz_play_locks.proofs.Kept.{IsGoing, runs-on, going, hand-of}
use Rattle.rz_play_locks.proofs.Carried.{IsAdmins, reached-run}
use Rattle.rz_play_locks.proofs.Publishing.{lock-low, lock-high, barred}
use Rattle.rz_play_locks.proofs.Published.{accepted-same, text-same, may-publish}
use Rattle.rz_play_locks.proofs.Safe.{IsOn, never-opened, safe-turn, safe-gives, safe-misses, safe-admins, safe-new, admins-silent, admins-by, text-at_work}
use Rattle.rz_play_locks.proofs.Seen.{all-back, viewed-other, so-far-frame, seen-turn, IsSaid}

-- An operation says its end where it has come to it.
module _ (layout : Layout) (offset : ℕ) (a : Answer) where
  abbrev IsOther : Type 0
  IsOther = (info : FileInfo) (g : List Event) (size : ℕ) → IsViewWhole layout info g offset size a

  read-no : (part : Bool) (k : Key) (end : Option ReadMark) (z : ReaderAsk) → read_asks part k end z ≡ Say (SayDone a) → ⊥
  read-no part k end reads.Look is = cc
  read-no part k end (reads.Fetch p n s) is = cc
  read-no part k end reads.Recheck is = cc
  read-no part k None reads.End is = cc
  read-no part k (Some m) reads.End is = cc

  gave-no : (part : Bool) (k : Key) (end : Option WriteEnd) → gave part k end ≡ Say (SayDone a) → ⊥
  gave-no part k None is = cc
  gave-no part k (Some end) is = cc

  write-no : (part : Bool) (text : List ℕ) (s : WriterState) (z : WriterAsk) → write_asks part text s z ≡ Say (SayDone a) → ⊥
  write-no part text s (writes.Begin size) is = cc
  write-no part text s (writes.Keep p n stamp base) is = cc
  write-no part text s (writes.Publish stamp mask) is = cc
  write-no part text s writes.End is = gave-no part s.key (writer_end s) is

  copy-no : (n : ℕ) (k : Key) (z : ReaderAsk) → rebuild_asks layout n (ask_to_copy k z) ≡ Say (SayDone a) → ⊥
  copy-no n k reads.Look is = cc
  copy-no n k (reads.Fetch p m s) is = cc
  copy-no n k reads.Recheck is = cc
  copy-no n k reads.End is = cc

  the_answer : (b c : Answer) → Say (SayDone b) ≡ Say (SayDone c) → b ≡ c
  the_answer b c is = cc

  pub done-of : (work : Work) → ask_of layout work ≡ Say (SayDone a) → (work ≡ Ending a) ⊎ IsOther
  done-of (Ending b) is = inl (ap Ending (the_answer b a is))
  done-of (Calling c) is = cc
  done-of (Dropping fid n places) is = cc
  done-of (Opening path plan) is = cc
  done-of (Locking path (WriteBytes o bytes)) is = cc
  done-of (Locking path (ReadBytes o count)) is = cc
  done-of (Writing c text s) is = absurd (write-no (is_part c) text s (writer_ask s) is)
  done-of (Reading c s) is = absurd (read-no (is_part c) s.key (reader_end s) (reader_ask s) is)
  done-of (Rebuilding n Probing) is = cc
  done-of (Rebuilding n (Enrolling loss)) is = cc
  done-of (Rebuilding n (Replacing loss fence)) is = cc
  done-of (Rebuilding n (Listing t)) is = cc
  done-of (Rebuilding n (Copying t l base s)) is = absurd (copy-no n l.key (reader_ask s) is)
  done-of (Rebuilding n (Refilling t l size base)) is = cc
  done-of (Rebuilding n (Leaving t key why)) is = cc
  done-of Over is = cc

viewed : (layout : Layout) (ops : Actor → List Operation) (run : List Event) (opened : Option (FileInfo × List Event)) (a : Answer) (m : Option Operation)
    → ((path : List ℕ) (offset count : ℕ) → m ≡ Some (operation.View path offset count) → IsViewedAt layout ops run offset count opened a) → IsViewed layout ops run m opened a
viewed layout ops run opened a (Some (operation.View path offset count)) is = is path offset count refl
viewed layout ops run opened a (Some (_)) is = tt
viewed layout ops run opened a None is = tt

-- The log with the events of a turn.

module _ (v : Volume) (ops : Actor → List Operation) (old run : List Event) (whole : AreWhole v.layout ops old run) where
  by-export : (x : Event) → word_of x ≡ Export → AreWhole v.layout ops old (x ∷ run)
  by-export (e.Done by number a) is = cc
  by-export (_) is = whole

  pub by-node : (x : Event) (n : ℕ) → word_of x ≡ Node n → AreWhole v.layout ops old (x ∷ run)
  by-node (e.Done by number a) n is = cc
  by-node (_) n is = whole

  whole-turn : (f : Facts) (o mine : List Event) (by : Actor) (number : ℕ) (a : Ask) → IsProper v f o mine by number a
      → ((answer : Answer) → a ≡ Say (SayDone answer) → IsViewed v.layout ops run (in_hand (ops by) (of_actor by run)) (last_open by old run) answer)
      → (t : Told) (xs : List Event) → IsStep by number a t xs → AreWhole v.layout ops old (xs ++ run)
  whole-turn f o mine by number (AskExport c) ok done t xs step = export-step by c (λ t xs. AreWhole v.layout ops old (xs ++ run)) (λ r x is. by-export x (export-event by c r x is).word_is) t xs step
  whole-turn f o mine by number (AskNode n question) ok done t xs step =
      node-step by n question (λ t xs. AreWhole v.layout ops old (xs ++ run))
      (λ given x is. by-node x n (node-event by n question given x ok.2 is).word_is)
      (λ given x is link. by-node x n (node-event by n question given x ok.2 is).word_is)
      (λ link. whole) t xs step
  whole-turn f o mine by number (AskLock path exclusive from count) ok done t xs step =
      lock-step by path (λ t xs. AreWhole v.layout ops old (xs ++ run)) (λ granted r x is. by-export x (export-event by (call.Tree (tree.OpenFile path)) r x is).word_is) t xs step
  whole-turn f o mine by number (Say said) ok done t xs step = say-step by number said (λ t xs. AreWhole v.layout ops old (xs ++ run)) (λ text. saying said text done) t xs step
    where
      saying : (said : Saying) (text : List ℕ) → ((answer : Answer) → Say said ≡ Say (SayDone answer) → IsViewed v.layout ops run (in_hand (ops by) (of_actor by run)) (last_open by old run) answer)
          → AreWhole v.layout ops old (said_event by number text said ∷ run)
      saying (SayGot key part m) text done = whole
      saying (SayGave key part end) text done = whole
      saying (SayLeft key why) text done = whole
      saying (SayDone answer) text done = (whole, done answer refl)
  whole-turn f o mine by number Rest ok done t xs step = absurd step

-- Each block of a view's range is within its lock.
view-on : (layout : Layout) (path : List ℕ) (offset count : ℕ) (lock : Option Lock) (r : RangeState) (key : Key) → IsRange layout (operation.View path offset count) lock r key → (i : ℕ) → i < r.size
    → IsOn layout lock (key_at r.info ((offset + i) / block_bytes_of layout))
view-on layout path offset count lock r key is i low = go is.plan is.held is.range
  where
    plan-of : (plan : RangePlan) → begun (operation.View path offset count) ≡ Locking is.path plan → plan ≡ ReadBytes offset count
    plan-of plan at = cc

    go : (plan : RangePlan) → IsPlanLocked layout (operation.View path offset count) lock is.path plan r.info.fid → OfPlan plan r → IsOn layout lock (key_at r.info ((offset + i) / block_bytes_of layout))
    go plan (inl held) range = absurd (never-opened (operation.View path offset count) is.path (OnRange plan) tt held.0)
    go plan (inr held) range =
        let plan_is : plan ≡ ReadBytes offset count = plan-of plan held.0 in
        let k : OfPlan (ReadBytes offset count) r = subst (λ z. OfPlan z r) plan_is range in
        let size = k.1 in
        let few : i < count = omega (arith, low, size) in
        record {
          held = record { range = record { fid = r.info.fid; from = first_byte layout offset; length = whole_bytes layout offset count }; kind = Shared };
          is = held.1 ∙ ap (λ z. lock_for layout is.path z r.info.fid) plan_is;
          block = (refl, (lock-low layout offset i count few, lock-high layout offset i count few));
        }

-- What others do leaves what was seen.

open-other : (a by : Actor) (old xs run : List Event) → same_actor a by ≡ false → AreBy by xs → last_open a old (xs ++ run) ≡ last_open a old run
open-other a by old [] run apart all = refl
open-other a by old (e.Meta b (tree.OpenFile path) (answer.File info) ∷ xs) run apart all =
    ap (λ t. cond t (Some (info, (xs ++ run) ++ old)) (last_open a old (xs ++ run))) (ap (same_actor a) all.0 ∙ apart) ∙ open-other a by old xs run apart all.1
open-other a by old (e.Meta b (tree.OpenFile path) (_) ∷ xs) run apart all = open-other a by old xs run apart all.1
open-other a by old (e.Meta b (_) r ∷ xs) run apart all = open-other a by old xs run apart all.1
open-other a by old (_ ∷ xs) run apart all = open-other a by old xs run apart all.1

viewed-frame : (layout : Layout) (ops : Actor → List Operation) (run xs : List Event) (offset count : ℕ) (opened : Option (FileInfo × List Event)) (a : Answer)
    → IsViewedAt layout ops run offset count opened a → IsViewedAt layout ops (xs ++ run) offset count opened a
viewed-frame layout ops run xs offset count None a is = tt
viewed-frame layout ops run xs offset count (Some opened) a is = λ all. is (all-back layout ops xs run opened.0 offset (min count (opened.0.size - offset)) all)

seen-frame : (v : Volume) (ops : Actor → List Operation) (old run h xs : List Event) → IsLegalInRuns v h → (a : Actor) (path : List ℕ) (offset count : ℕ) (lock : Option Lock)
    → last_open a old (xs ++ run) ≡ last_open a old run
    → ((key : Key) → IsGuarded ops key (xs ++ run) → IsOn v.layout lock key → accepted (of_word Export (xs ++ h)) key ≡ accepted (of_word Export h) key)
    → (work : Work) → IsHolding v.layout (operation.View path offset count) lock work → IsSeenAt v.layout ops old run h a offset count work → IsSeenAt v.layout ops old (xs ++ run) (xs ++ h) a offset count work
seen-frame v ops old run h xs legal a path offset count lock opens same (Reading (Within r) s) holds is =
    so-far-frame v.layout ops old run h xs a offset count r opens
    (λ all i low. text-same v xs h (key_at r.info ((offset + i) / block_bytes_of v.layout)) legal
    (same (key_at r.info ((offset + i) / block_bytes_of v.layout)) (all i low) (view-on v.layout path offset count lock r s.key holds i low))) is
seen-frame v ops old run h xs legal a path offset count lock opens same (Ending b) holds is =
    subst (λ z. IsViewedAt v.layout ops (xs ++ run) offset count z b) (sym opens) (viewed-frame v.layout ops run xs offset count (last_open a old run) b is)
seen-frame v ops old run h xs legal a path offset count lock opens same (Reading Alone s) holds is = tt
seen-frame v ops old run h xs legal a path offset count lock opens same (Writing c text s) holds is = tt
seen-frame v ops old run h xs legal a path offset count lock opens same (Calling c) holds is = tt
seen-frame v ops old run h xs legal a path offset count lock opens same (Dropping fid n places) holds is = tt
seen-frame v ops old run h xs legal a path offset count lock opens same (Opening p plan) holds is = tt
seen-frame v ops old run h xs legal a path offset count lock opens same (Locking p plan) holds is = tt
seen-frame v ops old run h xs legal a path offset count lock opens same (Rebuilding n s) holds is = tt
seen-frame v ops old run h xs legal a path offset count lock opens same Over holds is = tt

-- an operation that is taken up has seen nothing yet
seen-at_work : (layout : Layout) (ops : Actor → List Operation) (old run h : List Event) (a : Actor) (offset count : ℕ) (s : Agenda) → IsSeenAt layout ops old run h a offset count s.work → IsSeenAt layout ops old run h a offset count (at_work s).work
seen-at_work layout ops old run h a offset count s is = up s.work s.todo
  where
    first : (op : Operation) → IsSeenAt layout ops old run h a offset count (begun op)
    first (operation.Tree c) = tt
    first (operation.Put p b d) = tt
    first (operation.Get p b) = tt
    first (operation.Write p o d) = tt
    first (operation.Read p o c) = tt
    first (operation.Rebuild n) = tt
    first (operation.Update p o d) = tt
    first (operation.View p o c) = tt

    up : (work : Work) (todo : List Operation) → IsSeenAt layout ops old run h a offset count (begin_next s work todo).work
    up Over (op ∷ rest) = first op
    up Over [] = is
    up (Calling c) todo = is
    up (Dropping fid n places) todo = is
    up (Opening path plan) todo = is
    up (Locking path plan) todo = is
    up (Writing c text w) todo = is
    up (Reading c r) todo = is
    up (Rebuilding n r) todo = is
    up (Ending b) todo = is

said-text : (v : Volume) (ops : Actor → List Operation) (old run : List Event) (w : World) (log_is : w.log ≡ run ++ old) (before : IsLegalInRuns v w.log) (path : List ℕ) (offset count number : ℕ) (xs : List Event) (by : Actor) (s : Agenda) (a : Ask) (t : Told) (lock now : Option Lock)
    → IsLockAfter w by s a t now → IsSaid v ops old run w.log log_is before by path offset count number lock t xs a t
said-text v ops old run w log_is before path offset count number xs by s (Say said) t lock now is = is.0
said-text v ops old run w log_is before path offset count number xs by s (AskExport c) t lock now is = tt
said-text v ops old run w log_is before path offset count number xs by s (AskNode n question) t lock now is = tt
said-text v ops old run w log_is before path offset count number xs by s (AskLock p exclusive from size) t lock now is = tt
said-text v ops old run w log_is before path offset count number xs by s Rest t lock now is = tt

-- After a turn.
seeing-turn : (v : Volume) (old : List Event) (ops more : Actor → List Operation) (by : Actor) → IsActor by → (w next : World) (fine : IsFine v old w) (fine_next : IsFine v old next)
    → IsSeeing v.layout ops more old fine.run w → IsTurn v by w next → IsSeeing v.layout ops more old fine_next.run next
seeing-turn v old ops more by ok w next fine fine_next see turn = elim (going v old ops more by ok w next fine fine_next see.safe.keeping turn) [
  | inl same ↦ (
      let run_same = runs-on v old w next fine fine_next [] (ap (λ (z : World). z.log) same) in
      record {
        safe = now;
        seen = subst (λ (r : List Event). Seen r next) (sym run_same) (subst (λ (z : World). Seen run z) (sym same) see.seen);
        whole = subst (λ (r : List Event). AreWhole v.layout ops old r) (sym run_same) see.whole;
      }
      )
  | inr g ↦ record {
    safe = now;
    seen = λ a is path offset count at. seen g a is path offset count (same_actor a by) refl at;
    whole = subst (λ (r : List Event). AreWhole v.layout ops old r) (sym (run_is g))
        (whole-turn v ops old run see.whole (facts w.log) (of_actor by w.log) (of_actor by run) by (at_work (w.agendas by)).number (ask_of v.layout (at_work (w.agendas by)).work) g.proper
        (λ answer asks. viewed v.layout ops run (last_open by old run) answer (in_hand (ops by) (of_actor by run)) (λ path offset count at.
        said path offset count answer at (done-of v.layout offset answer (at_work (w.agendas by)).work asks)))
        g.move.t g.move.xs g.move.step);
  }
]
  where
    run : List Event
    run = fine.run

    Going : Type 0
    Going = IsGoing v ops run w by (at_work (w.agendas by)) next

    run_is : (g : Going) → fine_next.run ≡ g.move.xs ++ run
    run_is g = runs-on v old w next fine fine_next g.move.xs g.move.log_is

    Seen : List Event → World → Type 0
    Seen r z = (a : Actor) → IsActor a → (path : List ℕ) (offset count : ℕ) → in_hand (ops a) (of_actor a r) ≡ Some (operation.View path offset count)
        → IsSeenAt v.layout ops old r z.log a offset count (z.agendas a).work

    now : IsSafe v.layout ops more old fine_next.run next
    now = safe-turn v old ops more by ok w next fine fine_next see.safe turn

    -- what the actor at work has seen
    known : (path : List ℕ) (offset count : ℕ) → in_hand (ops by) (of_actor by run) ≡ Some (operation.View path offset count) → IsSeenAt v.layout ops old run w.log by offset count (at_work (w.agendas by)).work
    known path offset count at = seen-at_work v.layout ops old run w.log by offset count (w.agendas by) (see.seen by ok path offset count at)

    said : (path : List ℕ) (offset count : ℕ) (answer : Answer) → in_hand (ops by) (of_actor by run) ≡ Some (operation.View path offset count)
        → ((at_work (w.agendas by)).work ≡ Ending answer) ⊎ ((info : FileInfo) (g : List Event) (size : ℕ) → IsViewWhole v.layout info g offset size answer)
        → IsViewedAt v.layout ops run offset count (last_open by old run) answer
    said path offset count answer at (inl is) = subst (IsSeenAt v.layout ops old run w.log by offset count) is (known path offset count at)
    said path offset count answer at (inr is) = viewed-other v.layout ops run offset count answer is (last_open by old run)

    after : (g : Going) (path : List ℕ) (offset count : ℕ) → g.hand.op ≡ operation.View path offset count
        → IsSeenAt v.layout ops old (g.move.xs ++ run) (g.move.xs ++ w.log) by offset count (told v.layout (at_work (w.agendas by)).work g.move.t)
    after g path offset count is =
        seen-turn v ops old run w.log fine.log_is (in-runs v old w fine) by path offset count (at_work (w.agendas by)).number (at_work (w.agendas by)).lock g.move.t g.move.xs (at_work (w.agendas by)).work
        (subst (λ z. IsHolding v.layout z (at_work (w.agendas by)).lock (at_work (w.agendas by)).work) is g.hand.holds)
        (text-at_work v.layout ops run w.log (Some (operation.View path offset count)) (w.agendas by)
        (subst (λ z. IsText v.layout ops run w.log z (w.agendas by).work) (g.hand.at ∙ ap Some is) (see.safe.texts by ok)))
        (known path offset count (g.hand.at ∙ ap Some is)) g.move.step
        (said-text v ops old run (counted w) fine.log_is (in-runs v old w fine) path offset count (at_work (w.agendas by)).number g.move.xs by (at_work (w.agendas by)) (ask_of v.layout (at_work (w.agendas by)).work) g.move.t (at_work (w.agendas by)).lock (next.agendas by).lock g.move.lock_is)

    same-op : (a b : Operation) → Some a ≡ Some b → a ≡ b
    same-op a b is = cc

    mine : (g : Going) (path : List ℕ) (offset count : ℕ) → in_hand (ops by) (of_actor by fine_next.run) ≡ Some (operation.View path offset count)
        → IsSeenAt v.layout ops old fine_next.run next.log by offset count (next.agendas by).work
    mine g path offset count at = elim (hand-of v.layout ops (of_actor by fine_next.run) by (next.agendas by).number (next.agendas by).lock (next.agendas by).work (now.keeping.agendas by ok).hand) [
      | inl over ↦ subst (IsSeenAt v.layout ops old fine_next.run next.log by offset count) (sym over) tt
      | inr hand ↦ (
          let a = hand.count in
          let b = g.hand.count in
          let n = g.move.number_is in
          let same : ended (of_actor by fine_next.run) ≡ ended (of_actor by run) = omega (arith, a, b, n) in
          let op_is : g.hand.op ≡ operation.View path offset count = same-op g.hand.op (operation.View path offset count) (sym g.hand.at ∙ sym (ap (slice_get (ops by)) same) ∙ at) in
          subst (λ (r : List Event). IsSeenAt v.layout ops old r next.log by offset count (next.agendas by).work) (sym (run_is g))
          (subst (λ (h : List Event). IsSeenAt v.layout ops old (g.move.xs ++ run) h by offset count (next.agendas by).work) (sym g.move.log_is)
          (subst (IsSeenAt v.layout ops old (g.move.xs ++ run) (g.move.xs ++ w.log) by offset count) (sym g.move.work_is) (after g path offset count op_is)))
          )
    ]

    other : (g : Going) (a : Actor) → IsActor a → same_actor a by ≡ false → (path : List ℕ) (offset count : ℕ)
        → in_hand (ops a) (of_actor a run) ≡ Some (operation.View path offset count) → IsSeenAt v.layout ops old (g.move.xs ++ run) (g.move.xs ++ w.log) a offset count (w.agendas a).work
    other g a is apart path offset count at = elim (hand-of v.layout ops (of_actor a run) a (w.agendas a).number (w.agendas a).lock (w.agendas a).work (see.safe.keeping.agendas a is).hand) [
      | inl over ↦ subst (IsSeenAt v.layout ops old (g.move.xs ++ run) (g.move.xs ++ w.log) a offset count) (sym over) tt
      | inr hand ↦ (
          let op_is : hand.op ≡ operation.View path offset count = same-op hand.op (operation.View path offset count) (sym hand.at ∙ at) in
          seen-frame v ops old run w.log g.move.xs (in-runs v old w fine) a path offset count (w.agendas a).lock (open-other a by old g.move.xs run apart g.mine)
          (λ key guarded on. elim (may-publish v (facts w.log) (of_actor by w.log) (of_actor by run) by (at_work (w.agendas by)).number key (ask_of v.layout (at_work (w.agendas by)).work) g.proper g.move.t g.move.xs g.move.step) [
            | inl silent ↦ accepted-same g.move.xs w.log key silent
            | inr p ↦ absurd (barred v ops run w next by ok see.safe.keeping.apart g by key p.stamp p.mask [] p.is (guarded-update ops by key p.stamp p.mask g.move.xs run p.is guarded) a is apart on.held on.is on.block)
          ])
          (w.agendas a).work (subst (λ z. IsHolding v.layout z (w.agendas a).lock (w.agendas a).work) op_is hand.holds) (see.seen a is path offset count at)
          )
    ]

    seen : (g : Going) (a : Actor) → IsActor a → (path : List ℕ) (offset count : ℕ) → (b : Bool) → same_actor a by ≡ b
        → in_hand (ops a) (of_actor a fine_next.run) ≡ Some (operation.View path offset count) → IsSeenAt v.layout ops old fine_next.run next.log a offset count (next.agendas a).work
    seen g a is path offset count true at hand =
        let same : a ≡ by = same_actor-true a by at in
        subst (λ z. IsSeenAt v.layout ops old fine_next.run next.log z offset count (next.agendas z).work) (sym same)
        (mine g path offset count (subst (λ z. in_hand (ops z) (of_actor z fine_next.run) ≡ Some (operation.View path offset count)) same hand))
    seen g a is path offset count false apart hand =
        subst (λ (r : List Event). IsSeenAt v.layout ops old r next.log a offset count (next.agendas a).work) (sym (run_is g))
        (subst (λ (h : List Event). IsSeenAt v.layout ops old (g.move.xs ++ run) h a offset count (next.agendas a).work) (sym g.move.log_is)
        (subst (λ (z : Agenda). IsSeenAt v.layout ops old (g.move.xs ++ run) (g.move.xs ++ w.log) a offset count z.work) (sym (g.move.others a apart))
        (other g a is apart path offset count
        (subst (λ (o : List Event). in_hand (ops a) o ≡ Some (operation.View path offset count)) (of_actor-other a by g.move.xs run apart g.mine)
        (subst (λ (r : List Event). in_hand (ops a) (of_actor a r) ≡ Some (operation.View path offset count)) (run_is g) hand)))))

-- Lines.

seen-line : (layout : Layout) (ops : Actor → List Operation) (old run : List Event) (w : World) (by : Actor) (t : Agenda) → t.work ≡ (w.agendas by).work
    → ((a : Actor) → IsActor a → (path : List ℕ) (offset count : ℕ) → in_hand (ops a) (of_actor a run) ≡ Some (operation.View path offset count) → IsSeenAt layout ops old run w.log a offset count (w.agendas a).work)
    → (a : Actor) → IsActor a → (path : List ℕ) (offset count : ℕ) → in_hand (ops a) (of_actor a run) ≡ Some (operation.View path offset count)
    → IsSeenAt layout ops old run w.log a offset count ((with_agenda w by t).agendas a).work
seen-line layout ops old run w by t same seen a ok path offset count at = go (same_actor a by) refl
  where
    go : (b : Bool) → same_actor a by ≡ b → IsSeenAt layout ops old run w.log a offset count (cond b t (w.agendas a)).work
    go true is = subst (IsSeenAt layout ops old run w.log a offset count) (ap (λ z. (w.agendas z).work) (same_actor-true a by is) ∙ sym same) (seen a ok path offset count at)
    go false is = seen a ok path offset count at

module _ (v : Volume) (old : List Event) (ops : Actor → List Operation) where
  seeing-gives : (more : Actor → List Operation) (by : Actor) (op : Operation) (run : List Event) (w : World) → IsSeeing v.layout ops (λ a. cond (same_actor a by) (op ∷ more a) (more a)) old run w
      → IsSeeing v.layout ops more old run (with_agenda w by (with_operation (w.agendas by) op))
  seeing-gives more by op run w is = record {
    safe = safe-gives v old ops more by op run w is.safe;
    seen = seen-line v.layout ops old run w by (with_operation (w.agendas by) op) refl is.seen;
    whole = is.whole;
  }

  seeing-misses : (more : Actor → List Operation) (by : Actor) (reply : Bool) (run : List Event) (w : World) → IsSeeing v.layout ops more old run w
      → IsSeeing v.layout ops more old run (with_agenda w by (with_miss (w.agendas by) reply))
  seeing-misses more by reply run w is = record {
    safe = safe-misses v old ops more by reply run w is.safe;
    seen = seen-line v.layout ops old run w by (with_miss (w.agendas by) reply) refl is.seen;
    whole = is.whole;
  }

  admins-whole : (xs run : List Event) → AllByRecursion IsAdmins xs → AreWhole v.layout ops old run → AreWhole v.layout ops old (xs ++ run)
  admins-whole [] run all is = is
  admins-whole (x ∷ xs) run all is = by-node v ops old (xs ++ run) (admins-whole xs run all.1 is) x all.0.at.0 all.0.at.1

  seeing-admins : (more : Actor → List Operation) (run : List Event) (w next : World) (xs : List Event) → IsFine v old w → AllByRecursion IsAdmins xs → next.agendas ≡ w.agendas → next.log ≡ xs ++ w.log
      → IsSeeing v.layout ops more old run w → IsSeeing v.layout ops more old (xs ++ run) next
  seeing-admins more run w next xs fine all agendas_are log_is is = record {
    safe = safe-admins v old ops more run w next xs fine all agendas_are log_is is.safe;
    seen = λ a ok path offset count at.
        subst (λ (h : List Event). IsSeenAt v.layout ops old (xs ++ run) h a offset count (next.agendas a).work) (sym log_is)
        (subst (λ (z : Actor → Agenda). IsSeenAt v.layout ops old (xs ++ run) (xs ++ w.log) a offset count (z a).work) (sym agendas_are)
        (seen a ok path offset count
        (subst (λ (o : List Event). in_hand (ops a) o ≡ Some (operation.View path offset count)) (of_actor-other a Admin xs run (seated a ok) (admins-by v old ops xs all)) at)));
    whole = admins-whole xs run all is.whole;
  }
    where
      same-op : (a b : Operation) → Some a ≡ Some b → a ≡ b
      same-op a b is = cc

      seen : (a : Actor) → IsActor a → (path : List ℕ) (offset count : ℕ) → in_hand (ops a) (of_actor a run) ≡ Some (operation.View path offset count)
          → IsSeenAt v.layout ops old (xs ++ run) (xs ++ w.log) a offset count (w.agendas a).work
      seen a ok path offset count at = elim (hand-of v.layout ops (of_actor a run) a (w.agendas a).number (w.agendas a).lock (w.agendas a).work (is.safe.keeping.agendas a ok).hand) [
        | inl over ↦ subst (IsSeenAt v.layout ops old (xs ++ run) (xs ++ w.log) a offset count) (sym over) tt
        | inr hand ↦ (
            let op_is : hand.op ≡ operation.View path offset count = same-op hand.op (operation.View path offset count) (sym hand.at ∙ at) in
            seen-frame v ops old run w.log xs (in-runs v old w fine) a path offset count (w.agendas a).lock (open-other a Admin old xs run (seated a ok) (admins-by v old ops xs all))
            (λ key guarded on. accepted-same xs w.log key (admins-silent v old ops key xs all))
            (w.agendas a).work (subst (λ z. IsHolding v.layout z (w.agendas a).lock (w.agendas a).work) op_is hand.holds) (is.seen a ok path offset count at)
            )
      ]

seeing-new : (v : Volume) (ops : Actor → List Operation) (nodes : ℕ → NodeState) (export : ExportState) (old : List Event) → IsSeeing v.layout ops ops old [] (world_after nodes export old)
seeing-new v ops nodes export old = record { safe = safe-new v ops nodes export old; seen = λ by ok path offset count at. tt; whole = tt }

-- What a play leaves.
pub kept-after : (v : Volume) → IsTelling v → (lines : List Line) → IsScript v lines → (nodes : ℕ → NodeState) (export : ExportState) (old : List Event) → MayBegin v nodes export old
    → (h : List Event) (p : IsBegunFrom v (world_after nodes export old) lines h) → IsKeptAfter v.layout (λ a. given a lines) old h p.last
kept-after v tells lines script nodes export old b h p =
    let k = reached-run v tells old (λ more run w. IsSeeing v.layout (λ a. given a lines) more old run w)
    (λ more by ok w next fine fine_next k turn. seeing-turn v old (λ a. given a lines) more by ok w next fine fine_next k turn)
    (seeing-gives v old (λ a. given a lines)) (seeing-misses v old (λ a. given a lines))
    (λ more run w next xs fine run_is all agendas_are log_is k. seeing-admins v old (λ a. given a lines) more run w next xs fine all agendas_are log_is k)
    lines script nodes export b (seeing-new v (λ a. given a lines) nodes export old) p.last p.played p.few in
    record {
      run = k.0.run;
      log_is = sym p.log_is ∙ k.0.log_is;
      apart = k.1.1.safe.keeping.apart;
      held = (k.1.0, k.1.1.safe.keeping);
      none_lost = k.1.1.safe.none_lost;
      whole_views = k.1.1.whole;
    }

-- A new volume: the whole log is that of the run.
module _ (v : Volume) (tells : IsTelling v) (lines : List Line) (script : IsScript v lines) (h : List Event) (p : IsBegun v lines h) where
  kept : IsKeptAfter v.layout (λ a. given a lines) [] h p.last
  kept = kept-after v tells lines script (λ n. fresh) (new_export v 0) [] (new-beginning v) h p

  whole-run : kept.run ≡ h
  whole-run = sym (append-nil kept.run) ∙ sym kept.log_is

  pub locks-apart : AreLocksApart p.last
  locks-apart = kept.apart

  pub locks-held : (more : Actor → List Operation) × IsKeeping v.layout (λ a. given a lines) more h p.last
  locks-held = (kept.held.0, subst (λ (r : List Event). IsKeeping v.layout (λ a. given a lines) kept.held.0 r p.last) whole-run kept.held.1)

  pub none-lost : (key : Key) → IsGuarded (λ a. given a lines) key h → NoneLost v.layout (λ a. given a lines) key [] h
  none-lost key guarded =
      subst (λ (r : List Event). NoneLost v.layout (λ a. given a lines) key [] r) whole-run
      (kept.none_lost key (subst (λ (r : List Event). IsGuarded (λ a. given a lines) key r) (sym whole-run) guarded))

  pub whole-views : AreWhole v.layout (λ a. given a lines) [] h
  whole-views = subst (λ (r : List Event). AreWhole v.layout (λ a. given a lines) [] r) whole-run kept.whole_views

-- A turn in which an update publishes a block: no other actor has a lock on it.
first-of : (x : Event) (xs h : List Event) → xs ++ h ≡ x ∷ h → (ys : List Event) × (xs ≡ x ∷ ys)
first-of x [] h is = absurd (longer h x is)
  where
    longer : (h : List Event) (x : Event) → h ≡ x ∷ h → ⊥
    longer h x is = let l = ap (λ (z : List Event). length z) is in omega (arith, l)
first-of x (y ∷ ys) h is = (ys, ap (λ (z : Event). z ∷ ys) (head y (ys ++ h) x h is))
  where
    head : (a : Event) (as_ : List Event) (b : Event) (bs : List Event) → a ∷ as_ ≡ b ∷ bs → a ≡ b
    head a as_ b bs is = ap (pick a) is
      where
        pick : Event → List Event → Event
        pick d [] = d
        pick d (z ∷ zs) = z

pub barred-turn : (v : Volume) (old : List Event) (ops more : Actor → List Operation) (w next : World) (fine : IsFine v old w) → IsFine v old next → IsKeeping v.layout ops more fine.run w → (by : Actor) → IsActor by → IsTurn v by w next
    → (b : Actor) (key : Key) (stamp mask : ℕ) → next.log ≡ e.Publish b key stamp mask None ∷ w.log → IsUpdate (in_hand (ops by) (of_actor by fine.run))
    → (a : Actor) → IsActor a → same_actor a by ≡ false → (lock : Lock) → (w.agendas a).lock ≡ Some lock → ¬ HasBlock v.layout lock key
barred-turn v old ops more w next fine fine_next keeping by ok turn b key stamp mask log_is update a ok_a apart lock at on = elim (going v old ops more by ok w next fine fine_next keeping turn) [
  | inl same ↦ longer w.log (e.Publish b key stamp mask None) (sym (ap (λ (z : World). z.log) same) ∙ log_is)
  | inr g ↦ (
      let k = first-of (e.Publish b key stamp mask None) g.move.xs w.log (sym g.move.log_is ∙ log_is) in
      barred v ops fine.run w next by ok keeping.apart g b key stamp mask k.0 k.1 update a ok_a apart lock at on
      )
]
  where
    longer : (h : List Event) (x : Event) → h ≡ x ∷ h → ⊥
    longer h x is = let l = ap (λ (z : List Event). length z) is in omega (arith, l)

-- What is published is the text of the newest accepted publish.

newest-of : (v : Volume) (f : Facts) (h : List Event) → IsLegalInRuns v h → (key : Key) → newest_text f h key ≡ text_of f (accepted (of_word Export h) key)
newest-of v f [] legal key = refl
newest-of v f (e.Publish by at stamp mask None ∷ h) legal key = go (newest-of v f h legal.0 key) (same_key key at) refl
  where
    not-above : (a stamp : ℕ) → nat_lt a stamp ≡ false → a ≤ stamp → a ≡ stamp
    not-above a stamp is low = elim (cases_le a stamp) [
      | inl l ↦ omega (arith, l, low)
      | inr l ↦ absurd (let w = lt-ltb a stamp l in cc)
    ]

    at-most : same_key key at ≡ true → (s : ℕ) → IsAcked h key s → s ≤ stamp
    at-most same s acked = (ordered v (e.Publish by at stamp mask None ∷ h) legal).1 s (inl (subst (λ (k : Key). IsAcked h k s) (same_key-true key at same) acked))

    newer : same_key key at ≡ true → (old : Option (ℕ × ℕ)) → accepted (of_word Export h) key ≡ old → (b : Bool) → is_newer stamp old ≡ b → text_in (f.wrote stamp) ≡ text_of f (cond b (Some (stamp, mask)) old)
    newer same old at_old true is = refl
    newer same None at_old false is = cc
    newer same (Some a) at_old false is =
        ap (λ s. text_in (f.wrote s)) (sym (not-above a.0 stamp is (at-most same a.0 (accepted-acked h key a at_old))))

    go : newest_text f h key ≡ text_of f (accepted (of_word Export h) key) → (b : Bool) → same_key key at ≡ b → cond b (text_in (f.wrote stamp)) (newest_text f h key) ≡ text_of f (cond (b && is_newer stamp (accepted (of_word Export h) key)) (Some (stamp, mask)) (accepted (of_word Export h) key))
    go before true is = newer is (accepted (of_word Export h) key) refl (is_newer stamp (accepted (of_word Export h) key)) refl
    go before false is = before
newest-of v f (e.Publish by at stamp mask (Some refused) ∷ h) legal key = newest-of v f h legal.0 key
newest-of v f (_ ∷ h) legal key = newest-of v f h legal.0 key

pub newest-published : (v : Volume) (h : List Event) → IsLegalInRuns v h → (key : Key) → newest_text (facts h) h key ≡ published_text h key
newest-published v h legal key = newest-of v (facts h) h legal key
