-- Each lost message was lost by a line of the script or by the link.
use Rattle.std.proofs.Common.{◌≡◌, ◌⊎◌, inl, inr, ◌≤◌, ◌+◌, ℕ, zero, suc, Bool, true, false, cond, List, [], ◌∷◌, ◌++◌, length, Option, Some, None, refl, sym, ◌∙◌, ap, subst, arith}
use Rattle.std.proofs.lemmas.List.Sums.{sum_by-cons}
use Rattle.rz_events.specs.Volume.{Volume}
use Rattle.rz_events.specs.declared.keys.Actor.{Actor}
use Rattle.rz_events.specs.declared.keys.Actor.TheVariants.{Admin}
use Rattle.rz_events.specs.declared.export.Call.TheVariants as call
use Rattle.rz_events.specs.declared.tree.TreeCall.TheVariants as tree
use Rattle.rz_events.specs.declared.nodes.NodeAsk.{NodeAsk}
use Rattle.rz_events.specs.declared.nodes.NodeAsk.TheVariants as ask
use Rattle.rz_events.specs.declared.nodes.NodeAnswer.{NodeAnswer}
use Rattle.rz_events.specs.declared.nodes.NodeAnswer.TheVariants as answer
use Rattle.rz_events.specs.declared.nodes.StartAnswer.TheVariants as start
use Rattle.rz_events.specs.declared.events.Word.TheVariants.{Export, Node}
use Rattle.rz_events.specs.declared.events.Event.{Event}
use Rattle.rz_events.specs.declared.events.Event.TheVariants as e
use Rattle.rz_events.specs.Events.{word_of, same_actor}
use Rattle.rz_node_model.specs.NodeEvents.{node_event}
use Rattle.rz_export_model.specs.Export.{export_reply}
use Rattle.rz_core.proofs.NodeSteps.{the_some}
use Rattle.rz_core.specs.History.{facts}
use Rattle.rz_events.specs.declared.operations.Operation.{Operation}
use Rattle.rz_operation_model.specs.Work.{Work, Calling, Dropping, Opening, Locking, Writing, Reading, Rebuilding, Ending, Over}
use Rattle.rz_operation_model.specs.Ask.{Ask, AskExport, AskNode, AskLock, Say, Rest, Saying, SayGot, SayGave, SayLeft, SayDone, ask_of}
use Rattle.rz_operation_model.specs.Turns.{said_event}
use Rattle.rz_script.specs.declared.line.Line.{Line}
use Rattle.rz_script.specs.declared.line.Line.TheVariants as line
use Rattle.rz_node_model.specs.States.{NodeState}
use Rattle.rz_export_model.specs.Export.{Export as ExportState}
use Rattle.rz_play.specs.World.{World, Agenda, world_after, at_work, begin_next, has_work, actors}
use Rattle.rz_play.specs.Turns.{IsAskTurn, IsNodeTurn, Through, ReplyLost, RequestLost, text_said, lost_after}
use Rattle.rz_play.specs.Free.{IsFreeAskTurn, IsTurnOver}
use Rattle.rz_play.specs.Lines.{IsTurnsOver, IsTurnIf, IsRoundOver, IsRoundsOver, IsAdminCall, IsFreeStart, noted, PlaysLine, PlaysLineOver}
use Rattle.rz_play.specs.Stops.{TurnsSpent, BeginsLineOver}
use Rattle.rz_play_laws.specs.Runs.{IsWorldReached}
use Rattle.rz_play_laws.proofs.Plays.{plays-begin, stops-begin}
use Rattle.rz_play.specs.Played.{BeginsLines, BeginsLinesOver}
use Rattle.rz_play.specs.Faults.{is_missed, missed, is_miss, misses}
use Rattle.rz_play_laws.proofs.Frames.{same_actor-true, same_actor-refl}
use Rattle.rz_play_laws.proofs.Events.{export-event, node-event}

-- Events that are no loss.

counted-one : (x : Event) (h : List Event) → missed (x ∷ h) ≡ cond (is_missed x) 1 0 + missed h
counted-one x h = sum_by-cons (λ y. cond (is_missed y) 1 0) x h

-- an event leaves the count, or adds one to it
quiet-count : (x : Event) (h : List Event) → is_missed x ≡ false → missed (x ∷ h) ≡ missed h
quiet-count x h quiet =
    let c = counted-one x h in
    let z : ◌≡◌ {A = ℕ} (cond (is_missed x) 1 0) 0 = ap (λ b. cond {A = ℕ} b 1 0) quiet in
    omega (arith, c, z)

lost-count : (by : Actor) (n : ℕ) (reply : Bool) (h : List Event) → missed (e.Missed by n reply ∷ h) ≡ missed h + 1
lost-count by n reply h = let c = counted-one (e.Missed by n reply) h in omega (arith, c)

export-quiet : (x : Event) → word_of x ≡ Export → is_missed x ≡ false
export-quiet (e.Missed by n reply) is = cc
export-quiet (_) is = refl

word-quiet : (x : Event) (n : ℕ) → word_of x ≡ Node n → is_missed x ≡ false
word-quiet (e.Missed by m reply) n is = cc
word-quiet (_) n is = refl

said-quiet : (by : Actor) (number : ℕ) (text : List ℕ) (said : Saying) → is_missed (said_event by number text said) ≡ false
said-quiet by number text (SayGot key part mark) = refl
said-quiet by number text (SayGave key part end) = refl
said-quiet by number text (SayLeft key why) = refl
said-quiet by number text (SayDone answer) = refl

stop-quiet : (by : Actor) (n : ℕ) (given : NodeAnswer) (x : Event) → node_event by n ask.Stop given ≡ Some x → is_missed x ≡ false
stop-quiet by n (answer.Stop true) x is = subst (λ y. is_missed y ≡ false) (the_some _ x is) refl
stop-quiet by n (_) x is = cc

start-quiet : (by : Actor) (n : ℕ) (given : NodeAnswer) (x : Event) → node_event by n ask.Start given ≡ Some x → is_missed x ≡ false
start-quiet by n (answer.Start (start.Started took)) x is = subst (λ y. is_missed y ≡ false) (the_some _ x is) refl
start-quiet by n (answer.Start (start.Unopened cause)) x is = subst (λ y. is_missed y ≡ false) (the_some _ x is) refl
start-quiet by n (_) x is = cc

lose-quiet : (by : Actor) (n : ℕ) (given : NodeAnswer) (x : Event) → node_event by n ask.Lose given ≡ Some x → is_missed x ≡ false
lose-quiet by n (answer.Lose (Some loss)) x is = subst (λ y. is_missed y ≡ false) (the_some _ x is) refl
lose-quiet by n (_) x is = cc

node-quiet : (by : Actor) (n : ℕ) (question : NodeAsk) (given : NodeAnswer) (x : Event) → node_event by n question given ≡ Some x → is_missed x ≡ false
node-quiet by n ask.Stop given x is = stop-quiet by n given x is
node-quiet by n ask.Start given x is = start-quiet by n given x is
node-quiet by n ask.Lose given x is = lose-quiet by n given x is
node-quiet by n (ask.Keep head) given x is = word-quiet x n (node-event by n (ask.Keep head) given x tt is).word_is
node-quiet by n (ask.Fetch key position stamp) given x is = word-quiet x n (node-event by n (ask.Fetch key position stamp) given x tt is).word_is
node-quiet by n (ask.Refill fence head) given x is = word-quiet x n (node-event by n (ask.Refill fence head) given x tt is).word_is
node-quiet by n (ask.Drop fid) given x is = word-quiet x n (node-event by n (ask.Drop fid) given x tt is).word_is
node-quiet by n (ask.Replace loss fence) given x is = word-quiet x n (node-event by n (ask.Replace loss fence) given x tt is).word_is
node-quiet by n ask.Probe given x is = word-quiet x n (node-event by n ask.Probe given x tt is).word_is

-- The actors that wait for a loss.

abbrev pub IsIn : Actor → List Actor → Type 0
IsIn a [] = ⊥
IsIn a (p ∷ ps) = (a ≡ p) ⊎ IsIn a ps

-- the list without this actor, once
pub record Without (by : Actor) (ps : List Actor) : Type 0 where
  pub rest : List Actor
  pub fewer : length rest + 1 ≡ length ps
  pub others : (a : Actor) → same_actor a by ≡ false → IsIn a ps → IsIn a rest

apart-from : (a by p : Actor) → same_actor a by ≡ false → by ≡ p → a ≡ p → ⊥
apart-from a by p apart at is =
    let same : same_actor a by ≡ true = subst (λ z. same_actor z by ≡ true) (at ∙ sym is) (same_actor-refl by) in cc

without : (by : Actor) (ps : List Actor) → IsIn by ps → Without by ps
without by [] is = absurd is
without by (p ∷ ps) (inl at) = record { rest = ps; fewer = omega arith; others = λ a apart is. other a apart is }
  where
    other : (a : Actor) → same_actor a by ≡ false → IsIn a (p ∷ ps) → IsIn a ps
    other a apart (inl is) = absurd (apart-from a by p apart at is)
    other a apart (inr is) = is
without by (p ∷ ps) (inr more) = go (without by ps more)
  where
    go : Without by ps → Without by (p ∷ ps)
    go r = record { rest = p ∷ r.rest; fewer = (let f = r.fewer in omega (arith, f)); others = λ a apart is. other a apart is }
      where
        other : (a : Actor) → same_actor a by ≡ false → IsIn a (p ∷ ps) → IsIn a (p ∷ r.rest)
        other a apart (inl is) = inl is
        other a apart (inr is) = inr (r.others a apart is)

-- Every actor with a line that was not used is among these, and with them no more messages were lost than k lines and the
-- link account for.
pub record Owes (k : ℕ) (w : World) : Type 0 where
  pub waiting : List Actor
  pub all : (a : Actor) (reply : Bool) → (w.agendas a).miss ≡ Some reply → IsIn a waiting
  pub few : missed w.log + length waiting ≤ k + w.lost

-- where no actor waits that did not
owes-still : (k : ℕ) (w next : World) → ((a : Actor) (reply : Bool) → (next.agendas a).miss ≡ Some reply → (w.agendas a).miss ≡ Some reply)
    → missed next.log + w.lost ≤ missed w.log + next.lost → Owes k w → Owes k next
owes-still k w next still counts o = record {
  waiting = o.waiting;
  all = λ a reply is. o.all a reply (still a reply is);
  few = (let f = o.few in omega (arith, f, counts));
}

-- where one's line is used
owes-used : (k : ℕ) (w next : World) (by : Actor) (planned : Bool) → (w.agendas by).miss ≡ Some planned → (next.agendas by).miss ≡ None
    → ((a : Actor) → same_actor a by ≡ false → next.agendas a ≡ w.agendas a)
    → missed next.log ≡ missed w.log + 1 → next.lost ≡ w.lost → Owes k w → Owes k next
owes-used k w next by planned waits used others counts same_lost o = go (without by o.waiting (o.all by planned waits))
  where
    go : Without by o.waiting → Owes k next
    go r = record {
      waiting = r.rest;
      all = λ a reply is. at a reply is (same_actor a by) refl;
      few = (let f = o.few in let l = r.fewer in omega (arith, f, l, counts, same_lost));
    }
      where
        at : (a : Actor) (reply : Bool) → (next.agendas a).miss ≡ Some reply → (b : Bool) → same_actor a by ≡ b → IsIn a r.rest
        at a reply is true same =
            let z : (next.agendas by).miss ≡ Some reply = subst (λ y. (next.agendas y).miss ≡ Some reply) (same_actor-true a by same) is in cc
        at a reply is false apart = r.others a apart (o.all a reply (ap (λ (s : Agenda). s.miss) (sym (others a apart)) ∙ is))

-- A turn.

kept-miss : (s : Agenda) (work : Work) (ops : List Operation) → (begin_next s work ops).miss ≡ s.miss
kept-miss s Over (op ∷ ops) = refl
kept-miss s Over [] = refl
kept-miss s (Calling c) ops = refl
kept-miss s (Dropping fid n places) ops = refl
kept-miss s (Opening path plan) ops = refl
kept-miss s (Locking path plan) ops = refl
kept-miss s (Writing course text w) ops = refl
kept-miss s (Reading course r) ops = refl
kept-miss s (Rebuilding n r) ops = refl
kept-miss s (Ending a) ops = refl

-- the next world has this agenda in place of the actor's, and the same others
agenda-still : (w next : World) (by : Actor) (t : Agenda) → next.agendas ≡ (λ a. cond (same_actor a by) t (w.agendas a)) → t.miss ≡ (w.agendas by).miss
    → (a : Actor) (reply : Bool) → (next.agendas a).miss ≡ Some reply → (w.agendas a).miss ≡ Some reply
agenda-still w next by t agendas same a reply is = go (same_actor a by) refl (ap (λ (z : Actor → Agenda). (z a).miss) (sym agendas) ∙ is)
  where
    go : (b : Bool) → same_actor a by ≡ b → (cond b t (w.agendas a)).miss ≡ Some reply → (w.agendas a).miss ≡ Some reply
    go true at is = ap (λ z. (w.agendas z).miss) (same_actor-true a by at) ∙ sym same ∙ is
    go false at is = is

agenda-others : (w next : World) (by : Actor) (t : Agenda) → next.agendas ≡ (λ a. cond (same_actor a by) t (w.agendas a))
    → (a : Actor) → same_actor a by ≡ false → next.agendas a ≡ w.agendas a
agenda-others w next by t agendas a apart = ap (λ (z : Actor → Agenda). z a) agendas ∙ ap (λ b. cond b t (w.agendas a)) apart

agenda-own : (w next : World) (by : Actor) (t : Agenda) → next.agendas ≡ (λ a. cond (same_actor a by) t (w.agendas a)) → (next.agendas by) ≡ t
agenda-own w next by t agendas = ap (λ (z : Actor → Agenda). z by) agendas ∙ ap (λ b. cond b t (w.agendas by)) (same_actor-refl by)

module _ (k : ℕ) (v : Volume) (w : World) (by : Actor) (s : Agenda) (same : s.miss ≡ (w.agendas by).miss) (o : Owes k w) where
  -- a turn with one event that is no loss
  quiet : (next : World) (t : Agenda) (x : Event) → next.agendas ≡ (λ a. cond (same_actor a by) t (w.agendas a)) → t.miss ≡ s.miss → next.log ≡ x ∷ w.log → next.lost ≡ w.lost
      → is_missed x ≡ false → Owes k next
  quiet next t x agendas keeps log_is lost_is no_loss =
      let c = ap missed log_is ∙ quiet-count x w.log no_loss in
      owes-still k w next (agenda-still w next by t agendas (keeps ∙ same)) (omega (arith, c, lost_is)) o

  -- a turn whose message is lost, as the link says or a line
  loss : (next : World) (t : Agenda) → next.agendas ≡ (λ a. cond (same_actor a by) t (w.agendas a)) → t.miss ≡ None → missed next.log ≡ missed w.log + 1
      → (m : Option Bool) → s.miss ≡ m → next.lost ≡ lost_after m w.lost → Owes k next
  loss next t agendas used counts None at lost_is =
      owes-still k w next (agenda-still w next by t agendas (used ∙ sym at ∙ same)) (omega (arith, counts, lost_is)) o
  loss next t agendas used counts (Some planned) at lost_is =
      owes-used k w next by planned (sym same ∙ at) (ap (λ (z : Agenda). z.miss) (agenda-own w next by t agendas) ∙ used) (agenda-others w next by t agendas) counts lost_is o

  node-owes : (n : ℕ) (question : NodeAsk) (next : World) → IsNodeTurn v w by s n question next → Owes k next
  node-owes n question next (Through t) =
      quiet next _ t.1 (ap (λ (z : World). z.agendas) t.4) refl (ap (λ (z : World). z.log) t.4) (ap (λ (z : World). z.lost) t.4) (node-quiet by n question t.0 t.1 t.2.event)
  node-owes n question next (ReplyLost t) =
      let log_is : next.log ≡ e.Missed by n true ∷ t.1 ∷ w.log = ap (λ (z : World). z.log) t.4 in
      let c = ap missed log_is ∙ lost-count by n true (t.1 ∷ w.log) in
      let q = quiet-count t.1 w.log (node-quiet by n question t.0 t.1 t.2.event) in
      loss next _ (ap (λ (z : World). z.agendas) t.4) refl (omega (arith, c, q)) s.miss refl (ap (λ (z : World). z.lost) t.4)
  node-owes n question next (RequestLost t) =
      let log_is : next.log ≡ e.Missed by n false ∷ w.log = ap (λ (z : World). z.log) t.1 in
      loss next _ (ap (λ (z : World). z.agendas) t.1) refl (ap missed log_is ∙ lost-count by n false w.log) s.miss refl (ap (λ (z : World). z.lost) t.1)

  ask-owes : (a : Ask) (next : World) → IsAskTurn v w by s a next → Owes k next
  ask-owes (AskExport c) next (x, is, next_is) =
      quiet next _ x (ap (λ (z : World). z.agendas) next_is) refl (ap (λ (z : World). z.log) next_is) (ap (λ (z : World). z.lost) next_is)
      (export-quiet x (export-event by c (export_reply w.export c) x is).word_is)
  ask-owes (AskNode n question) next turn = node-owes n question next turn
  ask-owes (AskLock path exclusive from count) next (x, is, granted, free, next_is) =
      let c = call.Tree (tree.OpenFile path) in
      quiet next _ x (ap (λ (z : World). z.agendas) next_is) refl (ap (λ (z : World). z.log) next_is) (ap (λ (z : World). z.lost) next_is)
      (export-quiet x (export-event by c (export_reply w.export c) x is).word_is)
  ask-owes (Say said) next next_is =
      quiet next _ (said_event by s.number (text_said (facts w.log) said) said) (ap (λ (z : World). z.agendas) next_is) refl (ap (λ (z : World). z.log) next_is)
      (ap (λ (z : World). z.lost) next_is) (said-quiet by s.number (text_said (facts w.log) said) said)
  ask-owes Rest next next_is = subst (Owes k) (sym next_is) o

  free-owes : (a : Ask) (next : World) → IsFreeAskTurn v w by s a next → Owes k next
  free-owes (AskExport c) next turn = ask-owes (AskExport c) next turn
  free-owes (AskNode n question) next (inl turn) = node-owes n question next turn
  free-owes (AskNode n question) next (inr t) =
      quiet next _ t.1 (ap (λ (z : World). z.agendas) t.6) refl (ap (λ (z : World). z.log) t.6) (ap (λ (z : World). z.lost) t.6) (node-quiet by n question t.0 t.1 t.4.event)
  free-owes (AskLock path exclusive from count) next turn = ask-owes (AskLock path exclusive from count) next turn
  free-owes (Say said) next (text, next_is) =
      quiet next _ (said_event by s.number text said) (ap (λ (z : World). z.agendas) next_is) refl (ap (λ (z : World). z.log) next_is)
      (ap (λ (z : World). z.lost) next_is) (said-quiet by s.number text said)
  free-owes Rest next turn = ask-owes Rest next turn

module _ (v : Volume) where
  owes-turn : (k : ℕ) (by : Actor) (tells : Bool) (w next : World) → IsTurnOver v by tells w next → Owes k w → Owes k next
  owes-turn k by true w next turn o =
      let s = at_work (w.agendas by) in
      ask-owes k v (record w { turns = w.turns + 1 }) by s (kept-miss (w.agendas by) (w.agendas by).work (w.agendas by).todo)
      (record { waiting = o.waiting; all = o.all; few = o.few }) (ask_of v.layout s.work) next turn
  owes-turn k by false w next turn o =
      let s = at_work (w.agendas by) in
      free-owes k v (record w { turns = w.turns + 1 }) by s (kept-miss (w.agendas by) (w.agendas by).work (w.agendas by).todo)
      (record { waiting = o.waiting; all = o.all; few = o.few }) (ask_of v.layout s.work) next turn

  owes-turns : (k : ℕ) (by : Actor) (j : ℕ) (tells : Bool) (w next : World) → IsTurnsOver v by j tells w next → Owes k w → Owes k next
  owes-turns k by zero tells w next is o = subst (Owes k) (sym is) o
  owes-turns k by (suc j) tells w next (mid, first, more) o = owes-turns k by j tells mid next more (owes-turn k by tells w mid first o)

  owes-turn-if : (k : ℕ) (b : Bool) (by : Actor) (tells : Bool) (w next : World) → IsTurnIf b v by tells w next → Owes k w → Owes k next
  owes-turn-if k true by tells w next is o = owes-turn k by tells w next is o
  owes-turn-if k false by tells w next is o = subst (Owes k) (sym is) o

  owes-round : (k : ℕ) (agendas : List Actor) (tells : Bool) (w next : World) → IsRoundOver v agendas tells w next → Owes k w → Owes k next
  owes-round k [] tells w next is o = subst (Owes k) (sym is) o
  owes-round k (a ∷ agendas) tells w next (mid, first, more) o = owes-round k agendas tells mid next more (owes-turn-if k (has_work (w.agendas a)) a tells w mid first o)

  owes-rounds : (k j : ℕ) (tells : Bool) (w next : World) → IsRoundsOver v j tells w next → Owes k w → Owes k next
  owes-rounds k zero tells w next is o = subst (Owes k) (sym is) o
  owes-rounds k (suc j) tells w next (mid, first, more) o = owes-rounds k j tells mid next more (owes-round k actors tells w mid first o)

  -- Lines.

  noted-quiet : (y : Option Event) (h : List Event) → ((x : Event) → y ≡ Some x → is_missed x ≡ false) → missed (noted y h) ≡ missed h
  noted-quiet None h all = refl
  noted-quiet (Some x) h all = quiet-count x h (all x refl)

  owes-admin : (k n : ℕ) (question : NodeAsk) (w next : World) → IsAdminCall v n question w next → Owes k w → Owes k next
  owes-admin k n question w next is o =
      let c = ap (λ (z : World). missed z.log) is.next_is ∙ noted-quiet (node_event Admin n question is.given) w.log (λ x at. node-quiet Admin n question is.given x at) in
      let l : next.lost ≡ w.lost = ap (λ (z : World). z.lost) is.next_is in
      owes-still k w next (λ a reply at. ap (λ (z : World). (z.agendas a).miss) (sym is.next_is) ∙ at) (omega (arith, c, l)) o

  owes-start : (k n : ℕ) (w next : World) → IsFreeStart v n w next → Owes k w → Owes k next
  owes-start k n w next is o =
      let c = ap (λ (z : World). missed z.log) is.next_is ∙ noted-quiet (node_event Admin n ask.Start is.given) w.log (λ x at. node-quiet Admin n ask.Start is.given x at) in
      let l : next.lost ≡ w.lost = ap (λ (z : World). z.lost) is.next_is in
      owes-still k w next (λ a reply at. ap (λ (z : World). (z.agendas a).miss) (sym is.next_is) ∙ at) (omega (arith, c, l)) o

  -- a line that says that a message is to be lost
  owes-miss : (k : ℕ) (by : Actor) (reply : Bool) (w next : World) → PlaysLine v (line.Miss by reply) w next → Owes k w → Owes (k + 1) next
  owes-miss k by reply w next is o = record {
    waiting = by ∷ o.waiting;
    all = λ a r at. go a r (same_actor a by) refl (ap (λ (z : World). (z.agendas a).miss) (sym is) ∙ at);
    few = (let f = o.few in
        let c : missed next.log ≡ missed w.log = ap (λ (z : World). missed z.log) is in
        let l : next.lost ≡ w.lost = ap (λ (z : World). z.lost) is in omega (arith, f, c, l));
  }
    where
      go : (a : Actor) (r : Bool) (b : Bool) → same_actor a by ≡ b → (cond b (record (w.agendas by) { miss = Some reply }) (w.agendas a)).miss ≡ Some r → IsIn a (by ∷ o.waiting)
      go a r true at is = inl (same_actor-true a by at)
      go a r false at is = inr (o.all a r is)

  -- so many lines are accounted for after this one
  abbrev with_line : ℕ → Line → ℕ
  with_line k l = cond (is_miss l) (k + 1) k

  owes-line : (k : ℕ) (l : Line) (tells : Bool) (w next : World) → PlaysLineOver v l tells w next → Owes k w → Owes (with_line k l) next
  owes-line k (line.Op by op) tells w next is o =
      let c : missed next.log ≡ missed w.log = ap (λ (z : World). missed z.log) is in
      let l : next.lost ≡ w.lost = ap (λ (z : World). z.lost) is in
      owes-still k w next (agenda-still w next by (record (w.agendas by) { todo = (w.agendas by).todo ++ op ∷ [] }) (ap (λ (z : World). z.agendas) is) refl) (omega (arith, c, l)) o
  owes-line k (line.Turn by j) tells w next is o = owes-turns k by j tells w next is o
  owes-line k (line.Rounds j) tells w next is o = owes-rounds k j tells w next is o
  owes-line k line.Rest tells w next (j, rounds, rest) o = owes-rounds k j tells w next rounds o
  owes-line k (line.Stop n) tells w next is o = owes-admin k n ask.Stop w next is o
  owes-line k (line.Start n) true w next is o = owes-admin k n ask.Start w next is o
  owes-line k (line.Start n) false w next is o = owes-start k n w next is o
  owes-line k (line.Lose n) tells w next is o = owes-admin k n ask.Lose w next is o
  owes-line k (line.Break n j pick) tells w next is o =
      let c = ap (λ (z : World). missed z.log) is ∙ quiet-count (e.Armed n j pick) w.log refl in
      let l : next.lost ≡ w.lost = ap (λ (z : World). z.lost) is in
      owes-still k w next (λ a reply at. ap (λ (z : World). (z.agendas a).miss) (sym is) ∙ at) (omega (arith, c, l)) o
  owes-line k (line.Miss by reply) tells w next is o = owes-miss k by reply w next is o

  owes-begun : (k : ℕ) (l : Line) (tells : Bool) (w next : World) → BeginsLineOver v l tells w next → Owes k w → Owes k next
  owes-begun k (line.Turn by n) tells w next (j, low, turns) o = owes-turns k by j tells w next turns o
  owes-begun k (line.Rounds n) tells w next (j, low, (mid, rounds, (done, more, is, round))) o = owes-round k done tells mid next round (owes-rounds k j tells w mid rounds o)
  owes-begun k line.Rest tells w next (j, mid, rounds, (done, more, is, round)) o = owes-round k done tells mid next round (owes-rounds k j tells w mid rounds o)
  owes-begun k (line.Op by op) tells w next is o = subst (Owes k) (sym is) o
  owes-begun k (line.Stop n) tells w next is o = subst (Owes k) (sym is) o
  owes-begun k (line.Start n) tells w next is o = subst (Owes k) (sym is) o
  owes-begun k (line.Lose n) tells w next is o = subst (Owes k) (sym is) o
  owes-begun k (line.Break n j pick) tells w next is o = subst (Owes k) (sym is) o
  owes-begun k (line.Miss by reply) tells w next is o = subst (Owes k) (sym is) o

  owes-more : (k j : ℕ) (w : World) → k ≤ j → Owes k w → Owes j w
  owes-more k j w low o = record { waiting = o.waiting; all = o.all; few = (let f = o.few in omega (arith, f, low)) }

  counted-line : (l : Line) (lines : List Line) → misses (l ∷ lines) ≡ cond (is_miss l) 1 0 + misses lines
  counted-line l lines = sum_by-cons (λ y. cond (is_miss y) 1 0) l lines

  line-by-line : (k : ℕ) (l : Line) (lines : List Line) → with_line k l + misses lines ≡ k + misses (l ∷ lines)
  line-by-line k l lines = go (is_miss l) refl
    where
      go : (b : Bool) → is_miss l ≡ b → cond b (k + 1) k + misses lines ≡ k + misses (l ∷ lines)
      go true is =
          let c = counted-line l lines in
          let z : ◌≡◌ {A = ℕ} (cond (is_miss l) 1 0) 1 = ap (λ b. cond {A = ℕ} b 1 0) is in
          omega (arith, c, z)
      go false is =
          let c = counted-line l lines in
          let z : ◌≡◌ {A = ℕ} (cond (is_miss l) 1 0) 0 = ap (λ b. cond {A = ℕ} b 1 0) is in
          omega (arith, c, z)

  owes-lines : (k : ℕ) (lines : List Line) (tells : Bool) (w next : World) → BeginsLinesOver v lines tells w next → Owes k w → Owes (k + misses lines) next
  owes-lines k [] tells w next is o = owes-more k (k + misses []) next (omega arith) (subst (Owes k) (sym is) o)
  owes-lines k (l ∷ lines) tells w next (inl begun) o = owes-more k (k + misses (l ∷ lines)) next (omega arith) (owes-begun k l tells w next begun o)
  owes-lines k (l ∷ lines) tells w next (inr (mid, first, more)) o =
      subst (λ j. Owes j next) (line-by-line k l lines) (owes-lines (with_line k l) lines tells mid next more (owes-line k l tells w mid first o))

  begun : (lines : List Line) (tells : Bool) (w next : World) → IsWorldReached v lines tells w next → BeginsLinesOver v lines tells w next
  begun lines tells w next (inl played) = plays-begin v lines tells w next played
  begun lines tells w next (inr (inl stopped)) = stops-begin v TurnsSpent lines tells w next stopped
  begun lines tells w next (inr (inr is)) = is

-- no actor waits at first, and the link lost nothing
pub losses-over : (v : Volume) (lines : List Line) (tells : Bool) (nodes : ℕ → NodeState) (s : ExportState) (old : List Event) (last : World)
    → IsWorldReached v lines tells (world_after nodes s old) last → missed last.log ≤ missed old + misses lines + last.lost
losses-over v lines tells nodes s old last is =
    let o : Owes (missed old) (world_after nodes s old) = record { waiting = []; all = λ a reply at. cc; few = omega arith } in
    let now = owes-lines v (missed old) lines tells (world_after nodes s old) last (begun v lines tells (world_after nodes s old) last is) o in
    let f = now.few in omega (arith, f)

-- over disks that tell their texts
pub losses-counted : (v : Volume) (lines : List Line) (nodes : ℕ → NodeState) (s : ExportState) (old : List Event) (last : World)
    → BeginsLines v lines (world_after nodes s old) last → missed last.log ≤ missed old + misses lines + last.lost
losses-counted v lines nodes s old last is = losses-over v lines true nodes s old last (inr (inr is))
