-- After a turn the world is in order again.
use Rattle.std.proofs.Common.{◌≡◌, inr, ◌<◌, ◌-◌, ◌^◌, ℕ, Bool, true, false, cond, List, [], ◌∷◌, ◌++◌, length, refl, sym, ◌∙◌, ap, subst, arith, Option, Some, None}
use Rattle.std.specs.List.{AllByRecursion, filter}
use Rattle.rz_events.specs.Volume.{Volume}
use Rattle.rz_events.specs.declared.keys.Actor.{Actor}
use Rattle.rz_events.specs.declared.export.Call.{Call}
use Rattle.rz_events.specs.declared.export.Call.TheVariants as call
use Rattle.rz_events.specs.declared.tree.TreeCall.TheVariants as tree
use Rattle.rz_events.specs.declared.nodes.NodeAsk.{NodeAsk}
use Rattle.rz_events.specs.declared.nodes.NodeAnswer.{NodeAnswer}
use Rattle.rz_events.specs.declared.events.Word.TheVariants.{Export, Node, Own}
use Rattle.rz_events.specs.declared.events.Event.{Event}
use Rattle.rz_events.specs.declared.events.Event.TheVariants as e
use Rattle.rz_events.specs.Events.{by_of, word_of, same_actor, same_word}
use Rattle.rz_node_model.specs.Answers.{IsNodeAnswer}
use Rattle.rz_node_model.specs.Afterwards.{after_answer}
use Rattle.rz_node_model.specs.NodeEvents.{node_event}
use Rattle.rz_export_model.specs.Export.{export_reply, export_after}
use Rattle.rz_core.specs.History.{Facts, facts, of_word, of_actor}
use Rattle.rz_core.specs.Own.{IsOpen}
use Rattle.rz_core.specs.NodeRows.{cells_of}
use Rattle.rz_core.specs.Legal.{Row, Allowed, IsAllowedIn, IsLegalInRuns, IsLegalAfter, HasWord}
use Rattle.rz_core.specs.Tied.{IsNode, IsExport, IsExportStep, IsNodeStep}
use Rattle.rz_core.proofs.Extends.{Extends, extends-more}
use Rattle.rz_core.proofs.ExportLaws.{export-law}
use Rattle.rz_core.proofs.NodeRest.{node-law}
use Rattle.rz_operation_model.specs.Work.{Work}
use Rattle.rz_operation_model.specs.Ask.{Ask, AskExport, AskNode, AskLock, Say, Rest, Saying, SayGot, SayGave, SayLeft, SayDone, ask_of}
use Rattle.rz_operation_model.specs.Steps.{Told, Replied, Locked, Answered, Missed, Noted, told}
use Rattle.rz_events.specs.declared.operations.Operation.{Operation}
use Rattle.rz_play.specs.World.{World, Agenda}
use Rattle.rz_play.specs.Turns.{IsAskTurn, IsExportTurn, IsLockTurn, IsNodeTurn, Through, ReplyLost, RequestLost, IsSayTurn, moved, advanced, answered, text_said, no_miss, with_lost, IsLost}
use Rattle.rz_play_laws.specs.Own.{IsToldBy, AreToldBy, IsOwnOf, IsProper, HasOwnEvents}
use Rattle.rz_core.proofs.Locality.{next-run}
use Rattle.rz_script.specs.Lines.{IsOperation}
use Rattle.rz_operation_model.specs.Turns.{said_event, goes_by_link, IsStep, Through as StepThrough, ReplyLost as StepReplyLost, RequestLost as StepRequestLost}
use Rattle.rz_core.specs.Courses.{IsCourse, Went}
use Rattle.rz_play_laws.specs.Fine.{IsSeated, IsTelling, IsFine, IsFineIfShort}
use Rattle.rz_play_laws.proofs.Frames.{AreBy, of_actor-mine, of_actor-other, same_actor-refl, same_actor-true, AreTied, with_state, tied-export, tied-own, tied-node, word-short}
use Rattle.rz_play_laws.proofs.Events.{export-event, node-event, no-opening}
use Rattle.rz_play_laws.proofs.OwnTurns.{own-others}
use Rattle.rz_play_laws.proofs.Telling.{told-extends}

-- The world after the events xs of one actor.

pub record IsAfter (v : Volume) (old run : List Event) (w : World) (by : Actor) (number : ℕ) (work : Work) (todo : List Operation) (xs : List Event) (next : World) : Type 0 where
  pub log_is : next.log ≡ xs ++ w.log
  pub mine : AreBy by xs
  pub legal : IsLegalAfter v old (xs ++ run)
  pub tied : AreTied v (xs ++ w.log) next.nodes next.export
  pub own : IsSeated by → IsOwnOf v (facts (xs ++ w.log)) (xs ++ of_actor by w.log) (xs ++ of_actor by run) by work
  pub course : IsSeated by → HasOwnEvents v by number (xs ++ of_actor by run) work
  pub number_is : (next.agendas by).number ≡ number
  pub agenda_is : (a : Actor) → same_actor a by ≡ false → next.agendas a ≡ w.agendas a
  pub work_is : (next.agendas by).work ≡ work
  pub todo_is : (next.agendas by).todo ≡ todo
  pub operations : AllByRecursion (IsOperation v by) todo

front-first : (xs run old : List Event) → xs ++ (run ++ old) ≡ (xs ++ run) ++ old
front-first [] run old = refl
front-first (x ∷ xs) run old = ap (λ (h : List Event). x ∷ h) (front-first xs run old)

pub fine-after : (v : Volume) (old : List Event) (w : World) (fine : IsFine v old w) (by : Actor) (number : ℕ) (work : Work) (todo : List Operation) (xs : List Event) (next : World)
    → IsAfter v old fine.run w by number work todo xs next → IsFine v old next
fine-after v old w fine by number work todo xs next after = record {
  run = xs ++ fine.run;
  log_is = after.log_is ∙ ap (λ (h : List Event). xs ++ h) fine.log_is ∙ front-first xs fine.run old;
  legal = after.legal;
  nodes_are = λ n. subst (λ (h : List Event). IsNode (facts h) (of_word (Node n) h) (next.nodes n)) (sym after.log_is) (after.tied.nodes_are n);
  export_is = subst (λ (h : List Event). IsExport v (facts h) (of_word Export h) next.export) (sym after.log_is) after.tied.export_is;
  own = λ a ok. subst (λ (h : List Event). IsOwnOf v (facts h) (of_actor a h) (of_actor a (xs ++ fine.run)) a (next.agendas a).work) (sym after.log_is) (of_a a ok (same_actor a by) refl);
  under_way = λ a ok. way_of a ok (same_actor a by) refl;
  todo = λ a. todo_of a (same_actor a by) refl;
}
  where
    of_a : (a : Actor) → IsSeated a → (b : Bool) → same_actor a by ≡ b → IsOwnOf v (facts (xs ++ w.log)) (of_actor a (xs ++ w.log)) (of_actor a (xs ++ fine.run)) a (next.agendas a).work
    of_a a ok true is =
        subst (λ z. IsOwnOf v (facts (xs ++ w.log)) (of_actor z (xs ++ w.log)) (of_actor z (xs ++ fine.run)) z (next.agendas z).work) (sym (same_actor-true a by is))
        (subst (λ (o : List Event). IsOwnOf v (facts (xs ++ w.log)) o (of_actor by (xs ++ fine.run)) by (next.agendas by).work) (sym (of_actor-mine by xs w.log after.mine))
        (subst (λ (r : List Event). IsOwnOf v (facts (xs ++ w.log)) (xs ++ of_actor by w.log) r by (next.agendas by).work) (sym (of_actor-mine by xs fine.run after.mine))
        (subst (λ z. IsOwnOf v (facts (xs ++ w.log)) (xs ++ of_actor by w.log) (xs ++ of_actor by fine.run) by z) (sym after.work_is) (after.own (subst IsSeated (same_actor-true a by is) ok)))))
    of_a a ok false apart =
        subst (λ (o : List Event). IsOwnOf v (facts (xs ++ w.log)) o (of_actor a (xs ++ fine.run)) a (next.agendas a).work) (sym (of_actor-other a by xs w.log apart after.mine))
        (subst (λ (r : List Event). IsOwnOf v (facts (xs ++ w.log)) (of_actor a w.log) r a (next.agendas a).work) (sym (of_actor-other a by xs fine.run apart after.mine))
        (subst (λ (s : Agenda). IsOwnOf v (facts (xs ++ w.log)) (of_actor a w.log) (of_actor a fine.run) a s.work) (sym (after.agenda_is a apart))
        (own-others v (facts w.log) (facts (xs ++ w.log)) (extends-more xs w.log) (of_actor a w.log) (of_actor a fine.run) a (w.agendas a).work (fine.own a ok))))

    way_of : (a : Actor) → IsSeated a → (b : Bool) → same_actor a by ≡ b → HasOwnEvents v a (next.agendas a).number (of_actor a (xs ++ fine.run)) (next.agendas a).work
    way_of a ok true is =
        subst (λ z. HasOwnEvents v z (next.agendas z).number (of_actor z (xs ++ fine.run)) (next.agendas z).work) (sym (same_actor-true a by is))
        (subst (λ (r : List Event). HasOwnEvents v by (next.agendas by).number r (next.agendas by).work) (sym (of_actor-mine by xs fine.run after.mine))
        (subst (λ k. HasOwnEvents v by k (xs ++ of_actor by fine.run) (next.agendas by).work) (sym after.number_is)
        (subst (λ z. HasOwnEvents v by number (xs ++ of_actor by fine.run) z) (sym after.work_is) (after.course (subst IsSeated (same_actor-true a by is) ok)))))
    way_of a ok false apart =
        subst (λ (r : List Event). HasOwnEvents v a (next.agendas a).number r (next.agendas a).work) (sym (of_actor-other a by xs fine.run apart after.mine))
        (subst (λ (s : Agenda). HasOwnEvents v a s.number (of_actor a fine.run) s.work) (sym (after.agenda_is a apart)) (fine.under_way a ok))

    todo_of : (a : Actor) (b : Bool) → same_actor a by ≡ b → AllByRecursion (IsOperation v a) (next.agendas a).todo
    todo_of a true is =
        subst (λ z. AllByRecursion (IsOperation v z) (next.agendas z).todo) (sym (same_actor-true a by is))
        (subst (λ (ops : List Operation). AllByRecursion (IsOperation v by) ops) (sym after.todo_is) after.operations)
    todo_of a false apart = subst (λ (s : Agenda). AllByRecursion (IsOperation v a) s.todo) (sym (after.agenda_is a apart)) (fine.todo a)

pub agenda-other : (a by : Actor) (b : Bool) (s t : Agenda) → b ≡ false → cond b s t ≡ t
agenda-other a by true s t is = cc
agenda-other a by false s t is = refl

pub agenda-mine : (by : Actor) (s t : Agenda) → cond (same_actor by by) s t ≡ s
agenda-mine by s t = ap (λ b. cond b s t) (same_actor-refl by)

-- what an event says for good is so for good
told-more : (v : Volume) (x : Event) (h : List Event) (y : Event) → IsToldBy v (facts h) y → IsToldBy v (facts (x ∷ h)) y
told-more v x h y t = told-extends v (facts h) (facts (x ∷ h)) (extends-more (x ∷ []) h) y t

-- The log of a world that is in order.

module _ (v : Volume) (old : List Event) (w : World) (fine : IsFine v old w) where
  -- the log so far is one of several runs
  pub in-runs : IsLegalInRuns v w.log
  in-runs = subst (IsLegalInRuns v) (sym fine.log_is) (next-run v old fine.run fine.legal)

  -- and with an event that is allowed, or two
  pub grow : (x : Event) → IsAllowedIn v w.log (of_actor (by_of x) fine.run) x → IsLegalAfter v old (x ∷ fine.run)
  grow x allowed = (fine.legal, subst (λ (h : List Event). IsAllowedIn v h (of_actor (by_of x) fine.run) x) fine.log_is allowed)

  pub grow-again : (m x : Event) → IsLegalAfter v old (x ∷ fine.run) → IsAllowedIn v (x ∷ w.log) (of_actor (by_of m) (x ∷ fine.run)) m → IsLegalAfter v old (m ∷ x ∷ fine.run)
  grow-again m x legal allowed = (legal, subst (λ (h : List Event). IsAllowedIn v (x ∷ h) (of_actor (by_of m) (x ∷ fine.run)) m) fine.log_is allowed)

  pub now-in-runs : (x : Event) → IsLegalAfter v old (x ∷ fine.run) → IsLegalInRuns v (x ∷ w.log)
  now-in-runs x legal = subst (λ (h : List Event). IsLegalInRuns v (x ∷ h)) (sym fine.log_is) (next-run v old (x ∷ fine.run) legal)

-- One turn, at the ask `a` of an actor that is at work.
module _ (v : Volume) (telling : IsTelling v) (old : List Event) (w : World) (fine : IsFine v old w) (by : Actor) (s : Agenda)
    (operations : AllByRecursion (IsOperation v by) s.todo) (course : IsCourse v.layout by s.number (of_actor by fine.run) s.work) where
  abbrev f : Facts
  f = facts w.log

  abbrev o : List Event
  o = of_actor by w.log

  abbrev r : List Event
  r = of_actor by fine.run

  abbrev tied : AreTied v w.log w.nodes w.export
  tied = record { nodes_are = fine.nodes_are; export_is = fine.export_is }

  -- what an operation gives for each step
  abbrev Turns : Ask → Type 0
  Turns a = (g : Facts) → Extends f g → (t : Told) (xs : List Event) → IsStep by s.number a t xs → AreToldBy v g xs
      → IsOwnOf v g (xs ++ o) (xs ++ r) by (told v.layout s.work t)

  -- and the step itself
  abbrev Steps : Ask → Type 0
  Steps a = (t : Told) (xs : List Event) → IsStep by s.number a t xs → HasOwnEvents v by s.number (xs ++ r) (told v.layout s.work t)

  short-word : (p : Event → Bool) (h : List Event) → length h < 2 ^ 64 - 1 → length (filter p h) < 2 ^ 64 - 1
  short-word p h l = let z = word-short p h in omega (arith, z, l)

  export-turn : (c : Call) (next : World) → IsProper v f o r by s.number (AskExport c) → Turns (AskExport c) → Steps (AskExport c) → IsExportTurn v w by s c next → IsFineIfShort v old next
  export-turn c next proper turns steps (x, is, next_is) few =
      let ev = export-event by c (export_reply w.export c) x is in
      let log_is : next.log ≡ x ∷ w.log = ap (λ (z : World). z.log) next_is in
      let long : length (x ∷ w.log) < 2 ^ 64 - 1 = subst (λ (h : List Event). length h < 2 ^ 64 - 1) log_is few in
      let step : IsExportStep v w.log x (export_after w.export c) =
      export-law v c w.log by w.export x (in-runs v old w fine) fine.export_is (short-word (λ y. same_word Export (word_of y)) w.log (omega (arith, long))) proper is in
      let legal = grow v old w fine x (step.allowed (of_actor (by_of x) fine.run)) in
      let seen = now-in-runs v old w fine x legal in
      fine-after v old w fine by s.number (told v.layout s.work (Replied (export_reply w.export c))) s.todo (x ∷ []) next
      (record {
        log_is = log_is;
        mine = (ev.by_is, tt);
        legal = legal;
        tied = subst (λ (z : World). AreTied v (x ∷ w.log) z.nodes z.export) (sym next_is) (tied-export v x w.log w.nodes w.export (export_after w.export c) (in-runs v old w fine) tied ev.word_is step.tied);
        own = λ ok. turns (facts (x ∷ w.log)) (extends-more (x ∷ []) w.log) (Replied (export_reply w.export c)) (x ∷ [])
            (export_reply w.export c, x, refl, is, refl) (telling w.log x seen, tt);
        course = λ ok. steps (Replied (export_reply w.export c)) (x ∷ []) (export_reply w.export c, x, refl, is, refl);
        number_is = ap (λ (z : World). (z.agendas by).number) next_is ∙ ap (λ (z : Agenda). z.number) (agenda-mine by _ _);
        agenda_is = λ a apart. ap (λ (z : World). z.agendas a) next_is ∙ agenda-other a by (same_actor a by) _ _ apart;
        work_is = ap (λ (z : World). (z.agendas by).work) next_is ∙ ap (λ (z : Agenda). z.work) (agenda-mine by _ _);
        todo_is = ap (λ (z : World). (z.agendas by).todo) next_is ∙ ap (λ (z : Agenda). z.todo) (agenda-mine by _ _);
        operations = operations;
      })

  lock-turn : (path : List ℕ) (exclusive : Bool) (from count : ℕ) (next : World) → Turns (AskLock path exclusive from count) → Steps (AskLock path exclusive from count)
      → IsLockTurn v w by s path exclusive from count next → IsFineIfShort v old next
  lock-turn path exclusive from count next turns steps (x, is, granted, free, next_is) few =
      let c = call.Tree (tree.OpenFile path) in
      let ev = export-event by c (export_reply w.export c) x is in
      let log_is : next.log ≡ x ∷ w.log = ap (λ (z : World). z.log) next_is in
      let long : length (x ∷ w.log) < 2 ^ 64 - 1 = subst (λ (h : List Event). length h < 2 ^ 64 - 1) log_is few in
      let step : IsExportStep v w.log x (export_after w.export c) =
      export-law v c w.log by w.export x (in-runs v old w fine) fine.export_is (short-word (λ y. same_word Export (word_of y)) w.log (omega (arith, long))) tt is in
      let legal = grow v old w fine x (step.allowed (of_actor (by_of x) fine.run)) in
      let seen = now-in-runs v old w fine x legal in
      fine-after v old w fine by s.number (told v.layout s.work (Locked granted (export_reply w.export c))) s.todo (x ∷ []) next
      (record {
        log_is = log_is;
        mine = (ev.by_is, tt);
        legal = legal;
        tied = subst (λ (z : World). AreTied v (x ∷ w.log) z.nodes z.export) (sym next_is) (tied-export v x w.log w.nodes w.export (export_after w.export c) (in-runs v old w fine) tied ev.word_is step.tied);
        own = λ ok. turns (facts (x ∷ w.log)) (extends-more (x ∷ []) w.log) (Locked granted (export_reply w.export c)) (x ∷ [])
            (granted, export_reply w.export c, x, refl, is, refl) (telling w.log x seen, tt);
        course = λ ok. steps (Locked granted (export_reply w.export c)) (x ∷ []) (granted, export_reply w.export c, x, refl, is, refl);
        number_is = ap (λ (z : World). (z.agendas by).number) next_is ∙ ap (λ (z : Agenda). z.number) (agenda-mine by _ _);
        agenda_is = λ a apart. ap (λ (z : World). z.agendas a) next_is ∙ agenda-other a by (same_actor a by) _ _ apart;
        work_is = ap (λ (z : World). (z.agendas by).work) next_is ∙ ap (λ (z : Agenda). z.work) (agenda-mine by _ _);
        todo_is = ap (λ (z : World). (z.agendas by).todo) next_is ∙ ap (λ (z : Agenda). z.todo) (agenda-mine by _ _);
        operations = operations;
      })

  said-by : (number : ℕ) (text : List ℕ) (said : Saying) → by_of (said_event by number text said) ≡ by
  said-by number text (SayGot key part mark) = refl
  said-by number text (SayGave key part end) = refl
  said-by number text (SayLeft key why) = refl
  said-by number text (SayDone answer) = refl

  said-word : (number : ℕ) (text : List ℕ) (said : Saying) → word_of (said_event by number text said) ≡ Own by
  said-word number text (SayGot key part mark) = refl
  said-word number text (SayGave key part end) = refl
  said-word number text (SayLeft key why) = refl
  said-word number text (SayDone answer) = refl

  -- the row of a word of the actor's own reads no other word
  said-row : (number : ℕ) (text : List ℕ) (said : Saying) (w' run : List Event) → Row v f [] o run (said_event by number text said) → Row v f w' o run (said_event by number text said)
  said-row number text (SayGot key part mark) w' run row = row
  said-row number text (SayGave key part end) w' run row = row
  said-row number text (SayLeft key why) w' run row = row
  said-row number text (SayDone answer) w' run row = row

  own-allowed : (x : Event) (h run : List Event) → by_of x ≡ by → word_of x ≡ Own by → length h < 2 ^ 64 - 1
      → Row v (facts h) (of_word (Own by) h) (of_actor by h) (of_actor by run) x → IsAllowedIn v h (of_actor (by_of x) run) x
  own-allowed x h run by_is word_is few row =
      subst (λ k. Allowed v (facts h) (of_word k h) (of_actor (by_of x) h) (of_actor (by_of x) run) x) (sym word_is)
      (subst (λ a. Allowed v (facts h) (of_word (Own by) h) (of_actor a h) (of_actor a run) x) (sym by_is)
      (record { room = short-word (λ y. same_word (Own by) (word_of y)) h few; word = subst (HasWord v) (sym word_is) tt; row = row }))

  say-turn : (said : Saying) (next : World) → IsProper v f o r by s.number (Say said) → Turns (Say said) → Steps (Say said) → IsSayTurn v w by s said next → IsFineIfShort v old next
  say-turn said next proper turns steps next_is few =
      let text = text_said f said in
      let x = said_event by s.number text said in
      let log_is : next.log ≡ x ∷ w.log = ap (λ (z : World). z.log) next_is in
      let long : length (x ∷ w.log) < 2 ^ 64 - 1 = subst (λ (h : List Event). length h < 2 ^ 64 - 1) log_is few in
      let allowed = own-allowed x w.log fine.run (said-by s.number text said) (said-word s.number text said) (omega (arith, long))
      (said-row s.number text said (of_word (Own by) w.log) r proper) in
      let legal = grow v old w fine x allowed in
      let seen = now-in-runs v old w fine x legal in
      fine-after v old w fine by s.number (told v.layout s.work (Noted text)) s.todo (x ∷ []) next
      (record {
        log_is = log_is;
        mine = (said-by s.number text said, tt);
        legal = legal;
        tied = subst (λ (z : World). AreTied v (x ∷ w.log) z.nodes z.export) (sym next_is) (tied-own v x w.log w.nodes w.export by (in-runs v old w fine) tied (said-word s.number text said));
        own = λ ok. turns (facts (x ∷ w.log)) (extends-more (x ∷ []) w.log) (Noted text) (x ∷ []) (text, refl, refl) (telling w.log x seen, tt);
        course = λ ok. steps (Noted text) (x ∷ []) (text, refl, refl);
        number_is = ap (λ (z : World). (z.agendas by).number) next_is ∙ ap (λ (z : Agenda). z.number) (agenda-mine by _ _);
        agenda_is = λ a apart. ap (λ (z : World). z.agendas a) next_is ∙ agenda-other a by (same_actor a by) _ _ apart;
        work_is = ap (λ (z : World). (z.agendas by).work) next_is ∙ ap (λ (z : Agenda). z.work) (agenda-mine by _ _);
        todo_is = ap (λ (z : World). (z.agendas by).todo) next_is ∙ ap (λ (z : Agenda). z.todo) (agenda-mine by _ _);
        operations = operations;
      })

  -- Messages.

  module _ (n : ℕ) (question : NodeAsk) (proper : IsProper v f o r by s.number (AskNode n question)) (turns : Turns (AskNode n question)) (steps : Steps (AskNode n question)) where
    node-step-of : (given : NodeAnswer) (x : Event) → length w.log < 2 ^ 64 - 1 → IsNodeAnswer (cells_of v n) (w.nodes n) question given → node_event by n question given ≡ Some x
        → IsNodeStep v w.log n x (after_answer question given (w.nodes n))
    node-step-of given x few answer is =
        node-law v question w.log by n (w.nodes n) given x (in-runs v old w fine) proper.1 (fine.nodes_are n) (short-word (λ y. same_word (Node n) (word_of y)) w.log few)
        proper.0 answer (no-opening by n question given x proper.2 is) is

    through-turn : (next : World) (given : NodeAnswer) (x : Event) → IsNodeAnswer (cells_of v n) (w.nodes n) question given → node_event by n question given ≡ Some x
        → next ≡ moved (answered w n question given) by (advanced v s (Answered true given)) (x ∷ []) → IsFineIfShort v old next
    through-turn next given x answer is next_is few =
        let ev = node-event by n question given x proper.2 is in
        let log_is : next.log ≡ x ∷ w.log = ap (λ (z : World). z.log) next_is in
        let long : length (x ∷ w.log) < 2 ^ 64 - 1 = subst (λ (h : List Event). length h < 2 ^ 64 - 1) log_is few in
        let step = node-step-of given x (omega (arith, long)) answer is in
        let legal = grow v old w fine x (step.allowed (of_actor (by_of x) fine.run)) in
        let seen = now-in-runs v old w fine x legal in
        fine-after v old w fine by s.number (told v.layout s.work (Answered true given)) s.todo (x ∷ []) next
        (record {
          log_is = log_is;
          mine = (ev.by_is, tt);
          legal = legal;
          tied = subst (λ (z : World). AreTied v (x ∷ w.log) z.nodes z.export) (sym next_is)
              (tied-node v x w.log w.nodes w.export n (after_answer question given (w.nodes n)) (in-runs v old w fine) tied ev.word_is step.tied);
          own = λ ok. turns (facts (x ∷ w.log)) (extends-more (x ∷ []) w.log) (Answered true given) (x ∷ []) (StepThrough given x is) (telling w.log x seen, tt);
          course = λ ok. steps (Answered true given) (x ∷ []) (StepThrough given x is);
          number_is = ap (λ (z : World). (z.agendas by).number) next_is ∙ ap (λ (z : Agenda). z.number) (agenda-mine by _ _);
          agenda_is = λ a apart. ap (λ (z : World). z.agendas a) next_is ∙ agenda-other a by (same_actor a by) _ _ apart;
          work_is = ap (λ (z : World). (z.agendas by).work) next_is ∙ ap (λ (z : Agenda). z.work) (agenda-mine by _ _);
          todo_is = ap (λ (z : World). (z.agendas by).todo) next_is ∙ ap (λ (z : Agenda). z.todo) (agenda-mine by _ _);
          operations = operations;
        })

    reply-turn : (next : World) (given : NodeAnswer) (x : Event) → goes_by_link question ≡ true → IsNodeAnswer (cells_of v n) (w.nodes n) question given
        → node_event by n question given ≡ Some x
        → next ≡ with_lost s (moved (answered w n question given) by (no_miss (advanced v s Missed)) (e.Missed by n true ∷ x ∷ [])) → IsFineIfShort v old next
    reply-turn next given x link answer is next_is few =
        let m = e.Missed by n true in
        let ev = node-event by n question given x proper.2 is in
        let log_is : next.log ≡ m ∷ x ∷ w.log = ap (λ (z : World). z.log) next_is in
        let long : length (m ∷ x ∷ w.log) < 2 ^ 64 - 1 = subst (λ (h : List Event). length h < 2 ^ 64 - 1) log_is few in
        let step = node-step-of given x (omega (arith, long)) answer is in
        let legal = grow v old w fine x (step.allowed (of_actor (by_of x) fine.run)) in
        let seen = now-in-runs v old w fine x legal in
        let going : IsOpen (of_actor by (x ∷ fine.run)) = subst (λ (h : List Event). IsOpen h) (sym (of_actor-mine by (x ∷ []) fine.run (ev.by_is, tt))) ev.going in
        let missed = grow-again v old w fine m x legal (own-allowed m (x ∷ w.log) (x ∷ fine.run) refl refl (omega (arith, long)) going) in
        let now = tied-node v x w.log w.nodes w.export n (after_answer question given (w.nodes n)) (in-runs v old w fine) tied ev.word_is step.tied in
        fine-after v old w fine by s.number (told v.layout s.work Missed) s.todo (m ∷ x ∷ []) next
        (record {
          log_is = log_is;
          mine = (refl, (ev.by_is, tt));
          legal = missed;
          tied = subst (λ (z : World). AreTied v (m ∷ x ∷ w.log) z.nodes z.export) (sym next_is)
              (tied-own v m (x ∷ w.log) (with_state w.nodes n (after_answer question given (w.nodes n))) w.export by seen now refl);
          own = λ ok. turns (facts (m ∷ x ∷ w.log)) (extends-more (m ∷ x ∷ []) w.log) Missed (m ∷ x ∷ []) (StepReplyLost given x is link)
              (tt, (told-more v m (x ∷ w.log) x (telling w.log x seen), tt));
          course = λ ok. steps Missed (m ∷ x ∷ []) (StepReplyLost given x is link);
          number_is = ap (λ (z : World). (z.agendas by).number) next_is ∙ ap (λ (z : Agenda). z.number) (agenda-mine by _ _);
          agenda_is = λ a apart. ap (λ (z : World). z.agendas a) next_is ∙ agenda-other a by (same_actor a by) _ _ apart;
          work_is = ap (λ (z : World). (z.agendas by).work) next_is ∙ ap (λ (z : Agenda). z.work) (agenda-mine by _ _);
          todo_is = ap (λ (z : World). (z.agendas by).todo) next_is ∙ ap (λ (z : Agenda). z.todo) (agenda-mine by _ _);
          operations = operations;
        })

    request-turn : (next : World) → goes_by_link question ≡ true → next ≡ with_lost s (moved w by (no_miss (advanced v s Missed)) (e.Missed by n false ∷ [])) → IsFineIfShort v old next
    request-turn next link next_is few =
        let m = e.Missed by n false in
        let log_is : next.log ≡ m ∷ w.log = ap (λ (z : World). z.log) next_is in
        let long : length (m ∷ w.log) < 2 ^ 64 - 1 = subst (λ (h : List Event). length h < 2 ^ 64 - 1) log_is few in
        let missed = grow v old w fine m (own-allowed m w.log fine.run refl refl (omega (arith, long)) (proper.3 link)) in
        fine-after v old w fine by s.number (told v.layout s.work Missed) s.todo (m ∷ []) next
        (record {
          log_is = log_is;
          mine = (refl, tt);
          legal = missed;
          tied = subst (λ (z : World). AreTied v (m ∷ w.log) z.nodes z.export) (sym next_is) (tied-own v m w.log w.nodes w.export by (in-runs v old w fine) tied refl);
          own = λ ok. turns (facts (m ∷ w.log)) (extends-more (m ∷ []) w.log) Missed (m ∷ []) (StepRequestLost link) (tt, tt);
          course = λ ok. steps Missed (m ∷ []) (StepRequestLost link);
          number_is = ap (λ (z : World). (z.agendas by).number) next_is ∙ ap (λ (z : Agenda). z.number) (agenda-mine by _ _);
          agenda_is = λ a apart. ap (λ (z : World). z.agendas a) next_is ∙ agenda-other a by (same_actor a by) _ _ apart;
          work_is = ap (λ (z : World). (z.agendas by).work) next_is ∙ ap (λ (z : Agenda). z.work) (agenda-mine by _ _);
          todo_is = ap (λ (z : World). (z.agendas by).todo) next_is ∙ ap (λ (z : Agenda). z.todo) (agenda-mine by _ _);
          operations = operations;
        })

    lost-link : (miss : Option Bool) (reply : Bool) → IsLost miss question reply → goes_by_link question ≡ true
    lost-link None reply is = is
    lost-link (Some planned) reply is = is.0

    node-turn : (next : World) → IsNodeTurn v w by s n question next → IsFineIfShort v old next
    node-turn next (Through t) = through-turn next t.0 t.1 t.2.given_is t.2.event t.4
    node-turn next (ReplyLost t) = reply-turn next t.0 t.1 (lost-link s.miss true t.3) t.2.given_is t.2.event t.4
    node-turn next (RequestLost t) = request-turn next (lost-link s.miss false t.0) t.1

  at-ask : (a : Ask) (next : World) → IsProper v f o r by s.number a → Turns a → Steps a → IsAskTurn v w by s a next → IsFineIfShort v old next
  at-ask (AskExport c) next proper turns steps turn = export-turn c next proper turns steps turn
  at-ask (AskNode n question) next proper turns steps turn = node-turn n question proper turns steps next turn
  at-ask (AskLock path exclusive from count) next proper turns steps turn = lock-turn path exclusive from count next turns steps turn
  at-ask (Say said) next proper turns steps turn = say-turn said next proper turns steps turn
  at-ask Rest next proper turns steps turn = λ few. subst (IsFine v old) (sym turn) fine

  pub ask-turn : (next : World) → IsProper v f o r by s.number (ask_of v.layout s.work) → Turns (ask_of v.layout s.work) → IsAskTurn v w by s (ask_of v.layout s.work) next → IsFineIfShort v old next
  ask-turn next proper turns turn =
      at-ask (ask_of v.layout s.work) next proper turns (λ t xs step. inr (Went r s.work t xs course step)) turn
