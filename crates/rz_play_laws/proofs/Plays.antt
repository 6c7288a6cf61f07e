-- The log of each play is legal.
use Rattle.std.proofs.Common.{◌≡◌, inl, inr, ◌<◌, ◌≤◌, ◌+◌, ◌-◌, ◌*◌, ◌^◌, ℕ, zero, suc, map, ◌==◌, Bool, true, false, cond, List, [], ◌∷◌, ◌++◌, length, refl, sym, ◌∙◌, ap, subst, arith, Option, Some, None}
use Rattle.std.specs.List.{AllByRecursion, filter, range_with_len}
use Rattle.std.proofs.lemmas.Bool.{eqb-true}
use Rattle.rz_events.specs.Nodes.{number_of}
use Rattle.rz_node_model.specs.States.{NodeState}
use Rattle.rz_node_model.specs.Afterwards.{after_answer}
use Rattle.rz_core.specs.NodeRows.{cells_of, IsNodeOf}
use Rattle.rz_core.specs.Tied.{IsNode, IsNodeStep, IsOpening, IsProperAsk}
use Rattle.rz_core.proofs.NodeSteps.{the_some}
use Rattle.rz_core.proofs.NodeRest.{node-law}
use Rattle.rz_core.proofs.NodeTies.{step, idle}
use Rattle.rz_play_laws.proofs.Frames.{same_actor-true, AreTied, with_state, tied-node, word-short}
use Rattle.rz_events.specs.Volume.{Volume}
use Rattle.rz_events.specs.declared.keys.Actor.{Actor}
use Rattle.rz_events.specs.declared.keys.Actor.TheVariants.{Client, Rebuilder, Admin}
use Rattle.rz_events.specs.declared.nodes.NodeAsk.{NodeAsk}
use Rattle.rz_events.specs.declared.nodes.NodeAsk.TheVariants as ask
use Rattle.rz_events.specs.declared.nodes.NodeAnswer.{NodeAnswer}
use Rattle.rz_events.specs.declared.nodes.NodeAnswer.TheVariants as answer
use Rattle.rz_events.specs.declared.nodes.StartAnswer.TheVariants as start
use Rattle.rz_events.specs.declared.events.Word.TheVariants.{Node}
use Rattle.rz_events.specs.declared.events.Event.{Event}
use Rattle.rz_events.specs.declared.events.Event.TheVariants as e
use Rattle.rz_events.specs.Events.{by_of, word_of, same_actor, same_word}
use Rattle.rz_node_model.specs.Answers.{IsNodeAnswer}
use Rattle.rz_node_model.specs.NodeEvents.{node_event}
use Rattle.rz_core.specs.History.{Facts, facts, of_word, of_actor}
use Rattle.rz_core.specs.Own.{IsBetween}
use Rattle.rz_operation_model.specs.Work.{Work, Calling, Dropping, Opening, Locking, Writing, Reading, Rebuilding, Ending, Over}
use Rattle.rz_operation_model.specs.Ask.{Ask, AskExport, AskNode, AskLock, Say, Rest, ask_of}
use Rattle.rz_events.specs.declared.operations.Operation.{Operation}
use Rattle.rz_script.specs.declared.line.Line.{Line}
use Rattle.rz_script.specs.declared.line.Line.TheVariants as line
use Rattle.rz_play.specs.World.{World, Agenda, world_after, with_agenda, with_node, at_work, begin_next, has_work, actors}
use Rattle.rz_play.specs.Stops.{StopCause, TurnsSpent, JournalRefused, HasCause, StopsLine, StopsLineOver, BeginsLine, BeginsLineOver, most_turns}
use Rattle.rz_node_model.specs.States.{fresh}
use Rattle.rz_export_model.specs.Export.{Export as ExportState, new_export}
use Rattle.rz_script.specs.Lines.{IsOperation, IsLine, AreLines}
use Rattle.rz_play.specs.Turns.{IsTurn, IsAskTurn, Through, ReplyLost, RequestLost, text_said, counted, answered}
use Rattle.rz_operation_model.specs.Turns.{said_event}
use Rattle.rz_core.specs.Courses.{Begun}
use Rattle.rz_play.specs.Lines.{IsTurns, IsTurnOr, IsRound, IsRounds, IsAnswerInPlay, PlaysLine, noted}
use Rattle.std.specs.FinMap as maps
use Rattle.std.proofs.Math.Path.{fun_ext}
use Rattle.rz_events.specs.declared.records.Held.{Held}
use Rattle.rz_events.specs.declared.keys.Key.{Key}
use Rattle.rz_events.specs.Keys.{key_cmp}
use Rattle.rz_node_model.specs.Records.{held_of, listed, IsWhole}
use Rattle.rz_core.specs.Legal.{IsLegal, IsAllowedIn, IsLegalInRuns, IsLegalAfter}
use Rattle.rz_core.specs.Longer.{IsNextRun}
use Rattle.rz_safety.specs.Sound.{IsSound, IsAnswering}
use Rattle.rz_safety.specs.Rebuilt.{AreRebuilt}
use Rattle.rz_safety.specs.Writes.{AreWritesEnded}
use Rattle.rz_play_laws.specs.Runs.{IsScript, IsRunAfter}
use Rattle.rz_play.specs.Played.{IsBegun, PlaysLines, PlaysLinesOver, StopsLines, StopsLinesOver, BeginsLines, BeginsLinesOver, IsPlayedFrom, IsStoppedFrom, IsBegunFrom}
use Rattle.rz_play_laws.specs.Own.{IsOwnOf, HasOwnEvents}
use Rattle.rz_play_laws.specs.Fine.{IsSeated, IsTelling, MayBegin, IsFine, IsFineIfShort}
use Rattle.rz_play_laws.proofs.OwnTurns.{proper, own-turn}
use Rattle.rz_play_laws.proofs.Scripts.{seated, node-of, begins, does-it}
use Rattle.rz_play_laws.proofs.Turning.{ask-turn, fine-after, grow, in-runs}

-- An operation is taken up.

-- An actor at work: its own events say where it stands, and it is under way, or has nothing to do.
pub record IsAtWork (v : Volume) (f : Facts) (o run : List Event) (by : Actor) (s : Agenda) : Type 0 where
  pub own : IsOwnOf v f o run by s.work
  pub way : HasOwnEvents v by s.number run s.work
  pub todo : AllByRecursion (IsOperation v by) s.todo

module _ (v : Volume) (f : Facts) (o run : List Event) (by : Actor) (s : Agenda) (is : IsAtWork v f o run by s) where
  over-between : (work : Work) → work ≡ Over → IsOwnOf v f o run by work → IsBetween run
  over-between work same own = subst (IsOwnOf v f o run by) same own

  pub taken : (work : Work) (ops : List Operation) → s.work ≡ work → s.todo ≡ ops → IsAtWork v f o run by (begin_next s work ops)
  taken Over (op ∷ ops) at todo =
      let all : AllByRecursion (IsOperation v by) (op ∷ ops) = subst (AllByRecursion (IsOperation v by)) todo is.todo in
      record { own = begins v f o run by op all.0; way = inr (Begun run op (does-it v by op all.0) (over-between s.work at is.own)); todo = all.1 }
  taken Over [] at todo = is
  taken (Calling c) ops at todo = is
  taken (Dropping fid n places) ops at todo = is
  taken (Opening path plan) ops at todo = is
  taken (Locking path plan) ops at todo = is
  taken (Writing course text w) ops at todo = is
  taken (Reading course r) ops at todo = is
  taken (Rebuilding n r) ops at todo = is
  taken (Ending a) ops at todo = is

-- A turn.

counts : (v : Volume) (old : List Event) (w : World) → IsFine v old w → IsFine v old (counted w)
counts v old w fine = record {
  run = fine.run;
  log_is = fine.log_is;
  legal = fine.legal;
  nodes_are = fine.nodes_are;
  export_is = fine.export_is;
  own = fine.own;
  under_way = fine.under_way;
  todo = fine.todo;
}

-- an actor that is at work in a world that is in order
pub working : (v : Volume) (old : List Event) (w : World) (fine : IsFine v old w) (by : Actor) → IsSeated by
    → IsAtWork v (facts w.log) (of_actor by w.log) (of_actor by fine.run) by (at_work (w.agendas by))
working v old w fine by ok =
    taken v (facts w.log) (of_actor by w.log) (of_actor by fine.run) by (w.agendas by)
    (record { own = fine.own by ok; way = fine.under_way by ok; todo = fine.todo by }) (w.agendas by).work (w.agendas by).todo refl refl

pub turn : (v : Volume) → IsTelling v → (old : List Event) (by : Actor) → IsSeated by → (w next : World) → IsTurn v by w next → IsFine v old w → IsFineIfShort v old next
unfolding counts
turn v tells old by ok w next is fine = go (at_work (w.agendas by)) (working v old w fine by ok) is
  where
    go : (s : Agenda) → IsAtWork v (facts w.log) (of_actor by w.log) (of_actor by fine.run) by s → IsAskTurn v (counted w) by s (ask_of v.layout s.work) next → IsFineIfShort v old next
    go s t turn = by_way t.way
      where
        by_way : HasOwnEvents v by s.number (of_actor by fine.run) s.work → IsFineIfShort v old next
        by_way (inl over) few =
            subst (IsFine v old) (sym (subst (λ z. IsAskTurn v (counted w) by s (ask_of v.layout z) next) over turn)) (counts v old w fine)
        by_way (inr course) few =
            ask-turn v tells old (counted w) (counts v old w fine) by s t.todo course next
            (proper v (facts w.log) (of_actor by w.log) (of_actor by fine.run) by s.number s.work t.own course)
            (λ g ext told xs step all. own-turn v (facts w.log) g ext (of_actor by w.log) (of_actor by fine.run) by s.number s.work t.own told xs step all) turn few

-- The log grows.

abbrev Grows : World → World → Type 0
Grows w next = (xs : List Event) × (next.log ≡ xs ++ w.log) × (length xs ≤ 2) × (next.turns ≡ w.turns)

grown : (v : Volume) (w : World) (by : Actor) (s : Agenda) (a : Ask) (next : World) → IsAskTurn v w by s a next → Grows w next
grown v w by s (AskExport c) next (x, is, next_is) = (x ∷ [], ap (λ (z : World). z.log) next_is, omega arith, ap (λ (z : World). z.turns) next_is)
grown v w by s (AskNode n question) next (Through t) = (t.1 ∷ [], ap (λ (z : World). z.log) t.4, omega arith, ap (λ (z : World). z.turns) t.4)
grown v w by s (AskNode n question) next (ReplyLost t) = (e.Missed by n true ∷ t.1 ∷ [], ap (λ (z : World). z.log) t.4, omega arith, ap (λ (z : World). z.turns) t.4)
grown v w by s (AskNode n question) next (RequestLost t) = (e.Missed by n false ∷ [], ap (λ (z : World). z.log) t.1, omega arith, ap (λ (z : World). z.turns) t.1)
grown v w by s (AskLock path exclusive from count) next (x, is, granted, free, next_is) = (x ∷ [], ap (λ (z : World). z.log) next_is, omega arith, ap (λ (z : World). z.turns) next_is)
grown v w by s (Say said) next next_is = (said_event by s.number (text_said (facts w.log) said) said ∷ [], ap (λ (z : World). z.log) next_is, omega arith, ap (λ (z : World). z.turns) next_is)
grown v w by s Rest next next_is = ([], ap (λ (z : World). z.log) next_is, omega arith, ap (λ (z : World). z.turns) next_is)

long-append : (xs h : List Event) → length h ≤ length (xs ++ h)
long-append [] h = omega arith
long-append (x ∷ xs) h = let l = long-append xs h in omega (arith, l)

longer : (w next : World) → Grows w next → length w.log ≤ length next.log
longer w next g = subst (λ (h : List Event). length w.log ≤ length h) (sym g.1) (long-append g.0 w.log)

long-both : (xs h : List Event) → length (xs ++ h) ≡ length xs + length h
long-both [] h = omega arith
long-both (x ∷ xs) h = let l = long-both xs h in omega (arith, l)

-- a turn adds two events at most
by-two : (w next : World) → Grows (counted w) next → length next.log + 2 * w.turns ≤ length w.log + 2 * next.turns + 0
by-two w next g =
    let l = ap (λ (h : List Event). length h) g.1 ∙ long-both g.0 w.log in
    let few = g.2 in
    let t = g.3 in
    omega (arith, l, few, t)

-- Between these worlds the log grew, by at most two events for each turn and so many more, and order was kept.
pub record Leads (v : Volume) (old : List Event) (w next : World) (more : ℕ) : Type 0 where
  pub grows : length w.log ≤ length next.log
  pub most : length next.log + 2 * w.turns ≤ length w.log + 2 * next.turns + more
  pub keeps : IsFine v old w → IsFineIfShort v old next

pub stays : (v : Volume) (old : List Event) (w next : World) → next ≡ w → Leads v old w next 0
stays v old w next is = record {
  grows = subst (λ (z : World). length w.log ≤ length z.log) (sym is) (omega arith);
  most = subst (λ (z : World). length z.log + 2 * w.turns ≤ length w.log + 2 * z.turns + 0) (sym is) (omega arith);
  keeps = λ fine few. subst (IsFine v old) (sym is) fine;
}

pub then : (v : Volume) (old : List Event) (w mid next : World) (j k : ℕ) → Leads v old w mid j → Leads v old mid next k → Leads v old w next (j + k)
then v old w mid next j k a b = record {
  grows = (let x = a.grows in let y = b.grows in omega (arith, x, y));
  most = (let x = a.most in let y = b.most in omega (arith, x, y));
  keeps = λ fine few. b.keeps (a.keeps fine (let y = b.grows in omega (arith, y, few))) few;
}

-- with room for more
pub wider : (v : Volume) (old : List Event) (w next : World) (j k : ℕ) → j ≤ k → Leads v old w next j → Leads v old w next k
wider v old w next j k few a = record { grows = a.grows; most = (let x = a.most in omega (arith, x, few)); keeps = a.keeps }

-- two turns without more
pub both : (v : Volume) (old : List Event) (w mid next : World) → Leads v old w mid 0 → Leads v old mid next 0 → Leads v old w next 0
both v old w mid next a b = wider v old w next (0 + 0) 0 (omega arith) (then v old w mid next 0 0 a b)

module _ (v : Volume) (tells : IsTelling v) (old : List Event) where
  pub by-turn : (by : Actor) → IsSeated by → (w next : World) → IsTurn v by w next → Leads v old w next 0
  by-turn by ok w next is =
      let s = at_work (w.agendas by) in
      let g = grown v (counted w) by s (ask_of v.layout s.work) next is in
      record { grows = longer (counted w) next g; most = by-two w next g; keeps = turn v tells old by ok w next is }

  pub by-turns : (by : Actor) → IsSeated by → (k : ℕ) (w next : World) → IsTurns v by k w next → Leads v old w next 0
  by-turns by ok zero w next is = stays v old w next is
  by-turns by ok (suc k) w next (mid, first, more) = both v old w mid next (by-turn by ok w mid first) (by-turns by ok k mid next more)

  pub by-turn-or : (b : Bool) (by : Actor) → IsSeated by → (w next : World) → IsTurnOr b v by w next → Leads v old w next 0
  by-turn-or true by ok w next is = by-turn by ok w next is
  by-turn-or false by ok w next is = stays v old w next is

  pub by-round : (agendas : List Actor) → AllByRecursion IsSeated agendas → (w next : World) → IsRound v agendas w next → Leads v old w next 0
  by-round [] ok w next is = stays v old w next is
  by-round (a ∷ agendas) ok w next (mid, first, more) =
      both v old w mid next (by-turn-or (has_work (w.agendas a)) a ok.0 w mid first) (by-round agendas ok.1 mid next more)

  all-rebuilders : (ns : List ℕ) → AllByRecursion IsSeated (map Rebuilder ns)
  all-rebuilders [] = tt
  all-rebuilders (n ∷ ns) = (refl, all-rebuilders ns)

  all-clients : (ns : List ℕ) (more : List Actor) → AllByRecursion IsSeated more → AllByRecursion IsSeated (map Client ns ++ more)
  all-clients [] more all = all
  all-clients (n ∷ ns) more all = (refl, all-clients ns more all)

  pub all-actors : AllByRecursion IsSeated actors
  all-actors = all-clients (range_with_len 1 64) (map Rebuilder (range_with_len 1 16)) (all-rebuilders (range_with_len 1 16))

  pub by-rounds : (k : ℕ) (w next : World) → IsRounds v k w next → Leads v old w next 0
  by-rounds zero w next is = stays v old w next is
  by-rounds (suc k) w next (mid, first, more) = both v old w mid next (by-round actors all-actors w mid first) (by-rounds k mid next more)

  -- The administrator.

  -- a line of an agenda alone
  pub by-agenda : (by : Actor) (w next : World) (t : Agenda) → t.work ≡ (w.agendas by).work → t.number ≡ (w.agendas by).number → (AllByRecursion (IsOperation v by) (w.agendas by).todo → AllByRecursion (IsOperation v by) t.todo)
      → next ≡ with_agenda w by t → Leads v old w next 0
  by-agenda by w next t same same_number todo is = record {
    grows = subst (λ (z : World). length w.log ≤ length z.log) (sym is) (omega arith);
    most = subst (λ (z : World). length z.log + 2 * w.turns ≤ length w.log + 2 * z.turns + 0) (sym is) (omega arith);
    keeps = λ fine few. subst (IsFine v old) (sym is) (record {
      run = fine.run;
      log_is = fine.log_is;
      legal = fine.legal;
      nodes_are = fine.nodes_are;
      export_is = fine.export_is;
      own = λ a ok. own-of fine a ok (same_actor a by) refl;
      under_way = λ a ok. way-of fine a ok (same_actor a by) refl;
      todo = λ a. todo-of fine a (same_actor a by) refl;
    });
  }
    where
      own-of : (fine : IsFine v old w) (a : Actor) → IsSeated a → (b : Bool) → same_actor a by ≡ b
          → IsOwnOf v (facts w.log) (of_actor a w.log) (of_actor a fine.run) a (cond b t (w.agendas a)).work
      own-of fine a ok true at =
          let is_by : a ≡ by = same_actor-true a by at in
          subst (IsOwnOf v (facts w.log) (of_actor a w.log) (of_actor a fine.run) a) (ap (λ z. (w.agendas z).work) is_by ∙ sym same) (fine.own a ok)
      own-of fine a ok false apart = fine.own a ok

      way-of : (fine : IsFine v old w) (a : Actor) → IsSeated a → (b : Bool) → same_actor a by ≡ b
          → HasOwnEvents v a (cond b t (w.agendas a)).number (of_actor a fine.run) (cond b t (w.agendas a)).work
      way-of fine a ok true at =
          let is_by : a ≡ by = same_actor-true a by at in
          subst (λ z. HasOwnEvents v a z (of_actor a fine.run) t.work) (ap (λ z. (w.agendas z).number) is_by ∙ sym same_number)
          (subst (HasOwnEvents v a (w.agendas a).number (of_actor a fine.run)) (ap (λ z. (w.agendas z).work) is_by ∙ sym same) (fine.under_way a ok))
      way-of fine a ok false apart = fine.under_way a ok

      todo-of : IsFine v old w → (a : Actor) (b : Bool) → same_actor a by ≡ b → AllByRecursion (IsOperation v a) (cond b t (w.agendas a)).todo
      todo-of fine a true at = subst (λ z. AllByRecursion (IsOperation v z) t.todo) (sym (same_actor-true a by at)) (todo (fine.todo by))
      todo-of fine a false apart = fine.todo a

  all-push : (by : Actor) (ops : List Operation) (op : Operation) → AllByRecursion (IsOperation v by) ops → IsOperation v by op → AllByRecursion (IsOperation v by) (ops ++ op ∷ [])
  all-push by [] op all is = (is, tt)
  all-push by (x ∷ ops) op all is = (all.0, all-push by ops op all.1 is)

  short-word : (p : Event → Bool) (h : List Event) → length h < 2 ^ 64 - 1 → length (filter p h) < 2 ^ 64 - 1
  short-word p h l = let z = word-short p h in omega (arith, z, l)

  -- an event of the administrator at node n, after which the node stands so
  pub by-admin : (w next : World) (n : ℕ) (x : Event) (after : NodeState) → by_of x ≡ Admin → word_of x ≡ Node n
      → (IsFine v old w → length w.log < 2 ^ 64 - 1 → IsNodeStep v w.log n x after) → next ≡ record (with_node w n after) { log = x ∷ w.log } → Leads v old w next 1
  by-admin w next n x after mine at step is = record {
    grows = subst (λ (z : World). length w.log ≤ length z.log) (sym is) (long-append (x ∷ []) w.log);
    most = subst (λ (z : World). length z.log + 2 * w.turns ≤ length w.log + 2 * z.turns + 1) (sym is) (omega arith);
    keeps = λ fine few.
        let long : length (x ∷ w.log) < 2 ^ 64 - 1 = subst (λ (z : World). length z.log < 2 ^ 64 - 1) is few in
        let now = step fine (omega (arith, long)) in
        fine-after v old w fine Admin (w.agendas Admin).number (w.agendas Admin).work (w.agendas Admin).todo (x ∷ []) next
        (record {
          log_is = ap (λ (z : World). z.log) is;
          mine = (mine, tt);
          legal = grow v old w fine x (now.allowed (of_actor (by_of x) fine.run));
          tied = subst (λ (z : World). AreTied v (x ∷ w.log) z.nodes z.export) (sym is)
              (tied-node v x w.log w.nodes w.export n after (in-runs v old w fine) (record { nodes_are = fine.nodes_are; export_is = fine.export_is }) at now.tied);
          own = λ ok. cc;
          course = λ ok. cc;
          number_is = ap (λ (z : World). (z.agendas Admin).number) is;
          agenda_is = λ a apart. ap (λ (z : World). z.agendas a) is;
          work_is = ap (λ (z : World). (z.agendas Admin).work) is;
          todo_is = ap (λ (z : World). (z.agendas Admin).todo) is;
          operations = fine.todo Admin;
        });
  }

  -- and a line that does not apply
  by-idle : (w next : World) (n : ℕ) (after : NodeState) → after ≡ w.nodes n → next ≡ record (with_node w n after) { log = w.log } → Leads v old w next 1
  by-idle w next n after same is = record {
    grows = subst (λ (z : World). length w.log ≤ length z.log) (sym is) (omega arith);
    most = subst (λ (z : World). length z.log + 2 * w.turns ≤ length w.log + 2 * z.turns + 1) (sym is) (omega arith);
    keeps = λ fine few. subst (IsFine v old) (sym is) (record {
      run = fine.run;
      log_is = fine.log_is;
      legal = fine.legal;
      nodes_are = λ m. node_of fine m (m == n) refl;
      export_is = fine.export_is;
      own = fine.own;
      under_way = fine.under_way;
      todo = fine.todo;
    });
  }
    where
      node_of : IsFine v old w → (m : ℕ) (b : Bool) → (m == n) ≡ b → IsNode (facts w.log) (of_word (Node m) w.log) (cond b after (w.nodes m))
      node_of fine m true at = subst (λ k. IsNode (facts w.log) (of_word (Node k) w.log) after) (sym (eqb-true m n at))
          (subst (IsNode (facts w.log) (of_word (Node n) w.log)) (sym same) (fine.nodes_are n))
      node_of fine m false apart = fine.nodes_are m

  -- what an administrator's call leaves, with or without an event
  call-of : (w next : World) (n : ℕ) → IsNodeOf v n → (question : NodeAsk) (given : NodeAnswer) → IsNodeAnswer (cells_of v n) (w.nodes n) question given → IsOpening given
      → IsProperAsk v (facts w.log) (of_actor Admin w.log) Admin n question
      → ((x : Event) → node_event Admin n question given ≡ Some x → (by_of x ≡ Admin) × (word_of x ≡ Node n))
      → (node_event Admin n question given ≡ None → after_answer question given (w.nodes n) ≡ w.nodes n)
      → (y : Option Event) → node_event Admin n question given ≡ y
      → next ≡ record (answered w n question given) { log = noted y w.log } → Leads v old w next 1
  call-of w next n there question given given_is opening proper whose idle None none is = by-idle w next n (after_answer question given (w.nodes n)) (idle none) is
  call-of w next n there question given given_is opening proper whose idle (Some x) some is =
      by-admin w next n x (after_answer question given (w.nodes n)) (whose x some).0 (whose x some).1
      (λ fine few. node-law v question w.log Admin n (w.nodes n) given x (in-runs v old w fine) there (fine.nodes_are n)
      (short-word (λ y. same_word (Node n) (word_of y)) w.log few) proper given_is opening some) is

  told-opening : (given : NodeAnswer) → IsAnswerInPlay given → IsOpening given
  told-opening (answer.Start start.NoMemory) is = absurd is
  told-opening (answer.Start (start.Started took)) is = is
  told-opening (answer.Start start.NotDown) is = is
  told-opening (answer.Start (start.Unopened cause)) is = is
  told-opening (_) is = is

  abbrev IsAdmins : ℕ → Event → Type 0
  IsAdmins n x = (by_of x ≡ Admin) × (word_of x ≡ Node n)

  by-stop : (w next : World) (n : ℕ) → IsNodeOf v n → (given : NodeAnswer) → IsNodeAnswer (cells_of v n) (w.nodes n) ask.Stop given → IsAnswerInPlay given
      → next ≡ record (answered w n ask.Stop given) { log = noted (node_event Admin n ask.Stop given) w.log } → Leads v old w next 1
  by-stop w next n there (answer.Stop true) given_is is_told is =
      call-of w next n there ask.Stop (answer.Stop true) given_is tt tt (λ x some. subst (IsAdmins n) (the_some _ x some) (refl, refl)) (λ none. cc) (Some (e.Stop n)) refl is
  by-stop w next n there (answer.Stop false) given_is is_told is =
      call-of w next n there ask.Stop (answer.Stop false) given_is tt tt (λ x some. cc) (λ none. refl) None refl is
  by-stop w next n there (_) given_is is_told is = absurd given_is

  by-start : (w next : World) (n : ℕ) → IsNodeOf v n → (given : NodeAnswer) → IsNodeAnswer (cells_of v n) (w.nodes n) ask.Start given → IsAnswerInPlay given
      → next ≡ record (answered w n ask.Start given) { log = noted (node_event Admin n ask.Start given) w.log } → Leads v old w next 1
  by-start w next n there (answer.Start (start.Started took)) given_is is_told is =
      call-of w next n there ask.Start (answer.Start (start.Started took)) given_is tt tt (λ x some. subst (IsAdmins n) (the_some _ x some) (refl, refl)) (λ none. cc) (Some (e.Start n took)) refl is
  by-start w next n there (answer.Start start.NotDown) given_is is_told is =
      call-of w next n there ask.Start (answer.Start start.NotDown) given_is tt tt (λ x some. cc) (λ none. refl) None refl is
  by-start w next n there (answer.Start start.NoMemory) given_is is_told is = absurd is_told
  by-start w next n there (answer.Start (start.Unopened cause)) given_is is_told is =
      call-of w next n there ask.Start (answer.Start (start.Unopened cause)) given_is is_told tt (λ x some. subst (IsAdmins n) (the_some _ x some) (refl, refl)) (λ none. cc)
      (Some (e.Unopened n (number_of cause))) refl is
  by-start w next n there (_) given_is is_told is = absurd given_is

  by-lose : (w next : World) (n : ℕ) → IsNodeOf v n → (given : NodeAnswer) → IsNodeAnswer (cells_of v n) (w.nodes n) ask.Lose given → IsAnswerInPlay given
      → next ≡ record (answered w n ask.Lose given) { log = noted (node_event Admin n ask.Lose given) w.log } → Leads v old w next 1
  by-lose w next n there (answer.Lose (Some loss)) given_is is_told is =
      call-of w next n there ask.Lose (answer.Lose (Some loss)) given_is tt tt (λ x some. subst (IsAdmins n) (the_some _ x some) (refl, refl)) (λ none. cc) (Some (e.Lose n loss)) refl is
  by-lose w next n there (answer.Lose None) given_is is_told is =
      call-of w next n there ask.Lose (answer.Lose None) given_is tt tt (λ x some. cc) (λ none. refl) None refl is
  by-lose w next n there (_) given_is is_told is = absurd given_is

  -- a fuse is armed
  armed : (h : List Event) (n k pick : ℕ) (s : NodeState) → IsNodeOf v n → IsNode (facts h) (of_word (Node n) h) s → length h < 2 ^ 64 - 1 → IsNodeStep v h n (e.Armed n k pick) s
  armed h n k pick s there t few =
      step v h n (e.Armed n k pick) s refl (record { begins = λ z. refl; makes = λ z. refl }) there (short-word (λ y. same_word (Node n) (word_of y)) h few) tt
      (idle (facts h) (of_word (Node n) h) (e.Armed n k pick ∷ of_word (Node n) h) s refl refl refl (λ key. refl) refl t)

  same-nodes : (nodes : ℕ → NodeState) (n : ℕ) → with_state nodes n (nodes n) ≡ nodes
  same-nodes nodes n = fun_ext (λ m. at m (m == n) refl)
    where
      at : (m : ℕ) (b : Bool) → (m == n) ≡ b → cond b (nodes n) (nodes m) ≡ nodes m
      at m true is = ap nodes (sym (eqb-true m n is))
      at m false is = refl

  -- Lines.

  wide : (w next : World) → Leads v old w next 0 → Leads v old w next 1
  wide w next is = wider v old w next 0 1 (omega arith) is

  pub by-line : (l : Line) → IsLine v l → (w next : World) → PlaysLine v l w next → Leads v old w next 1
  by-line (line.Op by op) ok w next is =
      wide w next (by-agenda by w next (record (w.agendas by) { todo = (w.agendas by).todo ++ op ∷ [] }) refl refl (λ all. all-push by (w.agendas by).todo op all ok.1) is)
  by-line (line.Turn by k) ok w next is = wide w next (by-turns by (seated by ok.0) k w next is)
  by-line (line.Rounds k) ok w next is = wide w next (by-rounds k w next is)
  by-line line.Rest ok w next (k, rounds, rest) = wide w next (by-rounds k w next rounds)
  by-line (line.Stop n) ok w next is = by-stop w next n (node-of v n ok) is.given is.given_is is.told is.next_is
  by-line (line.Start n) ok w next is = by-start w next n (node-of v n ok) is.given is.given_is is.told is.next_is
  by-line (line.Lose n) ok w next is = by-lose w next n (node-of v n ok) is.given is.given_is is.told is.next_is
  by-line (line.Break n k pick) ok w next is =
      by-admin w next n (e.Armed n k pick) (w.nodes n) refl refl (λ fine few. armed w.log n k pick (w.nodes n) (node-of v n ok.0) (fine.nodes_are n) few)
      (is ∙ ap (λ (nodes : ℕ → NodeState). record w { nodes = nodes; log = e.Armed n k pick ∷ w.log }) (sym (same-nodes w.nodes n)))
  by-line (line.Miss by reply) ok w next is = wide w next (by-agenda by w next (record (w.agendas by) { miss = Some reply }) refl refl (λ all. all) is)

  pub by-lines : (lines : List Line) → AllByRecursion (IsLine v) lines → (w next : World) → PlaysLines v lines w next → Leads v old w next (length lines)
  by-lines [] ok w next is = stays v old w next is
  by-lines (l ∷ lines) ok w next (mid, first, more) =
      wider v old w next (1 + length lines) (length (l ∷ lines)) (omega arith) (then v old w mid next 1 (length lines) (by-line l ok.0 w mid first) (by-lines lines ok.1 mid next more))

  -- a line that was cut off

  pub some-actors : (done more : List Actor) → actors ≡ done ++ more → AllByRecursion IsSeated done
  some-actors done more is = front done more (subst (AllByRecursion IsSeated) is all-actors)
    where
      front : (done more : List Actor) → AllByRecursion IsSeated (done ++ more) → AllByRecursion IsSeated done
      front [] more all = tt
      front (a ∷ done) more all = (all.0, front done more all.1)

  pub by-begun : (l : Line) → IsLine v l → (w next : World) → BeginsLine v l w next → Leads v old w next 0
  by-begun (line.Turn by k) ok w next (j, low, turns) = by-turns by (seated by ok.0) j w next turns
  by-begun (line.Rounds k) ok w next (j, low, (mid, rounds, (done, more, is, round))) =
      both v old w mid next (by-rounds j w mid rounds) (by-round done (some-actors done more is) mid next round)
  by-begun line.Rest ok w next (j, mid, rounds, (done, more, is, round)) =
      both v old w mid next (by-rounds j w mid rounds) (by-round done (some-actors done more is) mid next round)
  by-begun (line.Op by op) ok w next is = stays v old w next is
  by-begun (line.Stop n) ok w next is = stays v old w next is
  by-begun (line.Start n) ok w next is = stays v old w next is
  by-begun (line.Lose n) ok w next is = stays v old w next is
  by-begun (line.Break n k pick) ok w next is = stays v old w next is
  by-begun (line.Miss by reply) ok w next is = stays v old w next is

  pub by-beginning : (lines : List Line) → AllByRecursion (IsLine v) lines → (w next : World) → BeginsLines v lines w next → Leads v old w next (length lines)
  by-beginning [] ok w next is = stays v old w next is
  by-beginning (l ∷ lines) ok w next (inl begun) = wider v old w next 0 (length (l ∷ lines)) (omega arith) (by-begun l ok.0 w next begun)
  by-beginning (l ∷ lines) ok w next (inr (mid, first, more)) =
      wider v old w next (1 + length lines) (length (l ∷ lines)) (omega arith) (then v old w mid next 1 (length lines) (by-line l ok.0 w mid first) (by-beginning lines ok.1 mid next more))

-- Where a play stopped it has begun, and so it has where it came to its end.

stop-begins : (v : Volume) (cause : StopCause) (l : Line) (tells : Bool) (w next : World) → StopsLineOver v cause l tells w next → BeginsLineOver v l tells w next
stop-begins v cause (line.Turn by k) tells w next (j, low, turns, why) = (j, omega (arith, low), turns)
stop-begins v cause (line.Rounds k) tells w next (j, low, (mid, rounds, s)) = (j, low, (mid, rounds, (s.done, s.by ∷ s.more, s.order, s.played)))
stop-begins v cause line.Rest tells w next (j, mid, rounds, s) = (j, mid, rounds, (s.done, s.by ∷ s.more, s.order, s.played))
stop-begins v cause (_) tells w next is = absurd is

pub stops-begin : (v : Volume) (cause : StopCause) (lines : List Line) (tells : Bool) (w next : World) → StopsLinesOver v cause lines tells w next → BeginsLinesOver v lines tells w next
stops-begin v cause [] tells w next is = absurd is
stops-begin v cause (l ∷ lines) tells w next (inl stops) = inl (stop-begins v cause l tells w next stops)
stops-begin v cause (l ∷ lines) tells w next (inr (mid, first, more)) = inr (mid, first, stops-begin v cause lines tells mid next more)

pub plays-begin : (v : Volume) (lines : List Line) (tells : Bool) (w next : World) → PlaysLinesOver v lines tells w next → BeginsLinesOver v lines tells w next
plays-begin v [] tells w next is = is
plays-begin v (l ∷ lines) tells w next (mid, first, more) = inr (mid, first, plays-begin v lines tells mid next more)

-- a play stops with no more turns than it may have
cause-few : (v : Volume) (cause : StopCause) (w : World) (by : Actor) → HasCause v cause w by → w.turns ≤ most_turns
cause-few v TurnsSpent w by is = omega (arith, is)
cause-few v (JournalRefused c) w by is = let l = is.0 in omega (arith, l)

stop-few : (v : Volume) (cause : StopCause) (l : Line) (w next : World) → StopsLine v cause l w next → next.turns ≤ most_turns
stop-few v cause (line.Turn by k) w next (j, low, turns, why) = cause-few v cause next by why
stop-few v cause (line.Rounds k) w next (j, low, (mid, rounds, s)) = cause-few v cause next s.by s.why
stop-few v cause line.Rest w next (j, mid, rounds, s) = cause-few v cause next s.by s.why
stop-few v cause (_) w next is = absurd is

pub stops-few : (v : Volume) (cause : StopCause) (lines : List Line) (w next : World) → StopsLines v cause lines w next → next.turns ≤ most_turns
stops-few v cause [] w next is = absurd is
stops-few v cause (l ∷ lines) w next (inl stops) = stop-few v cause l w next stops
stops-few v cause (l ∷ lines) w next (inr (mid, first, more)) = stops-few v cause lines mid next more

pub stopped-begun : (v : Volume) (cause : StopCause) (first : World) (lines : List Line) (h : List Event) → (p : IsStoppedFrom v cause first lines h) → (begun : IsBegunFrom v first lines h) × (begun.last ≡ p.last)
stopped-begun v cause first lines h p = (
  record {
    last = p.last;
    played = stops-begin v cause lines true first p.last p.played;
    few = stops-few v cause lines first p.last p.played;
    log_is = p.log_is;
  },
  refl,
)

pub played-begun : (v : Volume) (first : World) (lines : List Line) (h : List Event) → (p : IsPlayedFrom v first lines h) → (begun : IsBegunFrom v first lines h) × (begun.last ≡ p.last)
played-begun v first lines h p = (record { last = p.last; played = plays-begin v lines true first p.last p.played; few = p.few; log_is = p.log_is }, refl)

-- The beginning.

pub begins-fine : (v : Volume) (nodes : ℕ → NodeState) (s : ExportState) (old : List Event) → MayBegin v nodes s old → IsFine v old (world_after nodes s old)
begins-fine v nodes s old b = record {
  run = [];
  log_is = refl;
  legal = b.legal;
  nodes_are = b.nodes_are;
  export_is = b.export_is;
  own = λ by ok. tt;
  under_way = λ by ok. inl refl;
  todo = λ by. tt;
}

-- a new volume
pub new-beginning : (v : Volume) → MayBegin v (λ n. fresh) (new_export v 0) []
new-beginning v = record {
  legal = tt;
  nodes_are = λ n. record { phase_is = refl; fence_is = refl; losses_is = refl; held_is = λ key. nothing key; whole = empty-whole; undecided_is = refl };
  export_is = refl;
  few = omega arith;
}
  where
    nothing : (key : Key) → held_of maps.empty key ≡ []
    nothing key = ap listed (maps.get-empty {X = List Held} key_cmp key)

    empty-whole : IsWhole maps.empty
    empty-whole key is = (let none = maps.get-empty {X = List Held} key_cmp key in cc)

-- A play leaves a world that is in order.

pub play-fine : (v : Volume) → IsTelling v → (lines : List Line) → AreLines v lines → length lines < 2 ^ 32
    → (nodes : ℕ → NodeState) (s : ExportState) (old : List Event) → MayBegin v nodes s old
    → (last : World) → BeginsLines v lines (world_after nodes s old) last → last.turns ≤ most_turns → IsFine v old last
play-fine v tells lines limits few nodes s old b last begun turns =
    let leads = by-beginning v tells old lines limits (world_after nodes s old) last begun in
    let most = leads.most in
    let room = b.few in
    leads.keeps (begins-fine v nodes s old b) (omega (arith, most, few, turns, room))

pub play-in-order : (v : Volume) → IsTelling v → (lines : List Line) → IsScript v lines → (nodes : ℕ → NodeState) (s : ExportState) (old : List Event) → MayBegin v nodes s old
    → (h : List Event) (p : IsBegunFrom v (world_after nodes s old) lines h) → IsFine v old p.last
play-in-order v tells lines script nodes s old b h p = play-fine v tells lines script.limits script.few nodes s old b p.last p.played p.few

-- The log of a play.

nothing-after : (h : List Event) → h ++ [] ≡ h
nothing-after [] = refl
nothing-after (x ∷ h) = ap (λ (z : List Event). x ∷ z) (nothing-after h)

-- a run that goes on after nothing is legal by itself
legal-alone : (v : Volume) (run : List Event) → IsLegalAfter v [] run → IsLegal v run
legal-alone v [] legal = tt
legal-alone v (x ∷ run) legal = (
  legal-alone v run legal.0,
  subst (λ (h : List Event). IsAllowedIn v h (of_actor (by_of x) run) x) (nothing-after run) legal.1,
)

pub play-legal : (v : Volume) → IsTelling v → (lines : List Line) → IsScript v lines → (h : List Event) → IsBegun v lines h → IsLegal v h
play-legal v tells lines script h p =
    let fine = play-in-order v tells lines script (λ n. fresh) (new_export v 0) [] (new-beginning v) h p in
    subst (IsLegal v) (sym (nothing-after fine.run) ∙ sym fine.log_is ∙ p.log_is) (legal-alone v fine.run fine.legal)

pub play-after : (v : Volume) → IsTelling v → IsNextRun v → ((h : List Event) → IsLegalInRuns v h → IsSound v h) → ((h : List Event) → IsLegalInRuns v h → IsAnswering v h)
    → ((h : List Event) → IsLegalInRuns v h → AreWritesEnded v h) → ((h : List Event) → IsLegalInRuns v h → AreRebuilt h)
    → (lines : List Line) → IsScript v lines → (nodes : ℕ → NodeState) (s : ExportState) (old : List Event) → MayBegin v nodes s old
    → (h : List Event) → IsBegunFrom v (world_after nodes s old) lines h → IsRunAfter v old h
play-after v tells next sound answering written rebuilt lines script nodes s old b h p =
    let fine = play-in-order v tells lines script nodes s old b h p in
    let is : h ≡ fine.run ++ old = sym p.log_is ∙ fine.log_is in
    let runs : IsLegalInRuns v h = subst (IsLegalInRuns v) (sym is) (next old fine.run fine.legal) in
    record { run = fine.run; log_is = is; legal = fine.legal; sound = sound h runs; answering = answering h runs; written = written h runs; rebuilt = rebuilt h runs }
