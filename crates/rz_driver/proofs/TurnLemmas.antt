-- What an actor did is its turn in the world of the play, behind any earlier log.
use Rattle.std.proofs.Common.{◌≡◌, inl, inr, ℕ, zero, suc, ◌+◌, ◌<◌, ◌≤◌, Bool, true, false, cond, List, [], ◌∷◌, ◌++◌, length, set, Option, Some, None, refl, sym, ◌∙◌, ap, subst}
use Rattle.std.specs.Prelude.{◌==◌, slice_get, IsSomeAnd}
use Rattle.std.specs.List.{AllByRecursion}
use Rattle.std.proofs.Math.Path.{fun_ext}
use Rattle.mj_angles.specs.declared.layout.Layout.{Layout}
use Rattle.rz_events.specs.Volume.{Volume}
use Rattle.rz_events.specs.declared.keys.Actor.{Actor}
use Rattle.rz_events.specs.declared.keys.Actor.TheVariants.{Client}
use Rattle.rz_events.specs.declared.events.Event.{Event}
use Rattle.rz_events.specs.declared.nodes.NodeAsk.{NodeAsk}
use Rattle.rz_events.specs.declared.nodes.NodeAnswer.{NodeAnswer}
use Rattle.rz_events.specs.declared.operations.Operation.{Operation}
use Rattle.rz_events.specs.declared.operations.Operation.TheVariants as operation
use Rattle.rz_events.specs.Events.{same_actor}
use Rattle.rz_node_model.specs.States.{NodeState}
use Rattle.rz_node_model.specs.Answers.{IsNodeAnswer}
use Rattle.rz_node_model.specs.Afterwards.{after_answer}
use Rattle.rz_node_model.specs.NodeEvents.{node_event}
use Rattle.rz_export_model.specs.Export.{export_reply}
use Rattle.rz_core.specs.History.{facts}
use Rattle.rz_core.specs.NodeRows.{cells_of}
use Rattle.rz_locks.specs.declared.conflict.Lock.{Lock}
use Rattle.rz_locks.specs.declared.conflict.LockKind.{LockKind}
use Rattle.rz_locks.specs.declared.conflict.Range.{Range}
use Rattle.rz_locks.specs.Conflicts.{Conflict}
use Rattle.rz_locks.specs.Held.{Held, Blocks}
use Rattle.rz_metadata.specs.Stands.{export_in}
use Rattle.rz_operation.specs.Answers.{IsWorkAfter}
use Rattle.rz_operation.specs.Machine.{Machine, text_of, work_in, HasLayout}
use Rattle.rz_operation_model.specs.Ask.{Ask, AskExport, AskNode, AskLock, Say, Rest, Saying, SayGot, SayGave, SayLeft, SayDone, ask_of}
use Rattle.rz_operation_model.specs.Work.{Work, Over, Calling, Dropping, Opening, Locking, Writing, Reading, Rebuilding, Ending}
use Rattle.rz_operation_model.specs.Steps.{Told, Replied, Locked, Answered, Missed, Noted, told, begun}
use Rattle.rz_play.specs.World.{World, Agenda as APlayer, at_work, begin_next, Bars, IsFree}
use Rattle.rz_play.specs.Turns.{IsTurn, IsAskTurn, IsLost, lost_after, Through as ComesThrough, ReplyLost as LosesReply, RequestLost as LosesRequest, IsGranted, IsGiven, lock_after, lock_on, locked, advanced, answered, moved, no_miss, counted, text_said}
use Rattle.rz_play.specs.Free.{IsFreeTurn, IsFreeAskTurn}
use Rattle.rz_driver_actors.specs.declared.actor_agenda.Agenda.{Agenda}
use Rattle.rz_driver_actors.specs.declared.shared.Shared.{Shared}
use Rattle.rz_nodes.specs.declared.formatting.Server.{Server}
use Rattle.rz_driver_actors.specs.Acts.{IsAct, Rests, Exports, Opens, Sends, Says, IsSameActor, IsActorMessage, IsFate, Through, ReplyLost, RequestLost, IsLockReleased, lock_left}
use Rattle.rz_driver_asks.specs.Locking.{lock_of, lock_if, open_reply, Grants, IsOpenPart}
use Rattle.rz_driver_nodes.specs.Nodes.{IsNodeServed, IsAsked, IsThroughPart, IsReplyLostPart, IsRequestLostPart}
use Rattle.rz_operation_model.specs.Turns.{said_event}
use Rattle.rz_driver_asks.specs.Parts.{IsMachineTold, IsExportPart, IsSayPart, is_done}
use Rattle.rz_player.specs.Behind.{behind}
use Rattle.rz_driver_actors.specs.Agendas.{agenda_of}
use Rattle.rz_driver_nodes.specs.Servers.{state_in, IsServer}
use Rattle.rz_driver.specs.Worlds.{place_of, agenda_at, agenda_in, world, AreLocks, HaveNoLocks}
use Rattle.rz_driver_nodes.proofs.Fits.{is_bad, told-true}
use Rattle.rz_driver_nodes.proofs.Rows.{state-at, state-set}
use Rattle.rz_driver.proofs.WorldLemmas.{set-same, agenda-here, agenda-set, agenda-same, actor-is, all-actors, at-client, client-place}

-- ---- the actor

-- an operation that is taken up asks for something
begun-asks : {A : Type 0} (layout : Layout) (op : Operation) → ask_of layout (begun op) ≡ Rest → A
begun-asks layout (operation.Tree c) is = absurd (cc)
begun-asks layout (operation.Put path block datum) is = absurd (cc)
begun-asks layout (operation.Get path block) is = absurd (cc)
begun-asks layout (operation.Write path offset datum) is = absurd (cc)
begun-asks layout (operation.Read path offset count) is = absurd (cc)
begun-asks layout (operation.Rebuild n) is = absurd (cc)
begun-asks layout (operation.Update path offset datum) is = absurd (cc)
begun-asks layout (operation.View path offset count) is = absurd (cc)

-- an actor that asks for nothing took nothing up
rest-same : (layout : Layout) (s : APlayer) (work : Work) (todo : List Operation) → ask_of layout (begin_next s work todo).work ≡ Rest → begin_next s work todo ≡ s
rest-same layout s Over [] is = refl
rest-same layout s Over (op ∷ todo) is = begun-asks layout op is
rest-same layout s (Calling c) todo is = refl
rest-same layout s (Dropping fid n places) todo is = refl
rest-same layout s (Opening path plan) todo is = refl
rest-same layout s (Locking path plan) todo is = refl
rest-same layout s (Writing course text w) todo is = refl
rest-same layout s (Reading course r) todo is = refl
rest-same layout s (Rebuilding n r) todo is = refl
rest-same layout s (Ending answer) todo is = refl

player-is : (s : APlayer) (a b : Agenda) → IsSameActor a b → agenda_of a ≡ s → (work : Work) → work_in b.machine ≡ work → (lock : Option Lock) → lock_of b.lock ≡ lock → (miss : Option Bool) → b.miss ≡ miss
    → agenda_of b ≡ record s { work = work; lock = lock; miss = miss }
player-is s a b same is work work_is lock lock_is miss miss_is =
    (λ i. record { todo = same.todo i; number = same.number i; work = work_is i; lock = lock_is i; miss = miss_is i })
    ∙ ap (λ (x : APlayer). record x { work = work; lock = lock; miss = miss }) is

told-of : (m new : Machine) (t : Told) → IsWorkAfter m m.pairs t new → IsMachineTold m new t
told-of m new t goes = record { layout = goes.layout; work = goes.work }

-- ---- what is said

-- Over disks that tell their texts.

-- what this machine says is the text of the write which it names, by the whole log
abbrev pub AreTexts : Option Machine → List Event → Type 0
AreTexts o whole = (m : Machine) (said : Saying) → o ≡ Some m → ask_of m.layout m.work ≡ Say said → text_of m ≡ text_said (facts whole) said

-- and it does not go on to say that records fit no block
abbrev pub IsGood : Option Machine → Type 0
IsGood None = Unit {0}
IsGood (Some m) = is_bad (ask_of m.layout m.work) ≡ false

-- Over disks that do not tell them: a turn over disks that do is one.

as-free : (v : Volume) (w : World) (by : Actor) (s : APlayer) (ask : Ask) (next : World) → IsAskTurn v w by s ask next → IsFreeAskTurn v w by s ask next
as-free v w by s (AskExport c) next turn = turn
as-free v w by s (AskNode n question) next turn = inl turn
as-free v w by s (AskLock path exclusive from count) next turn = turn
as-free v w by s (Say said) next turn = (text_said (facts w.log) said, turn)
as-free v w by s Rest next turn = turn

free-of : (v : Volume) (by : Actor) (w next : World) → IsTurn v by w next → IsFreeTurn v by w next
free-of v by w next turn = as-free v (counted w) by (at_work (w.agendas by)) (ask_of v.layout (at_work (w.agendas by)).work) next turn

-- ---- the turn

module _ {D J : Type 0} (v : Volume) (by : Actor) (ss : List Agenda) (place turns : ℕ) (at : place_of by ≡ Some place) (low : place < length ss) (a0 a : Agenda) (here : slice_get ss place ≡ Some a0) (taken : agenda_of a ≡ at_work (agenda_of a0))
    (layout : HasLayout v.layout a.machine) (p q : Shared D J) (earlier : List Event) where
  abbrev w : World
  w = counted (behind earlier (world p ss turns))

  abbrev s : APlayer
  s = agenda_of a

  -- the actor of the world goes to work
  works : at_work (w.agendas by) ≡ s
  works = ap at_work (agenda-here ss by place a0 at here) ∙ sym taken

  agendas-are : (b : Agenda) (t : APlayer) → agenda_of b ≡ t → agenda_in (set ss place b) ≡ (λ x. cond (same_actor x by) t (agenda_in ss x))
  agendas-are b t is = fun_ext (λ x. agenda-set ss by place b at low x ∙ ap (λ (y : APlayer). cond (same_actor x by) y (agenda_in ss x)) is)

  abbrev next : Agenda → World
  next b = behind earlier (world q (set ss place b) (turns + 1))

  asked : (m : Machine) (ask : Ask) → a.machine ≡ Some m → ask_of m.layout m.work ≡ ask → ask_of v.layout s.work ≡ ask
  asked m ask is asks =
      let same : m.layout ≡ v.layout = subst (HasLayout v.layout) is layout in
      ap (λ (o : Option Machine). ask_of v.layout (work_in o)) is ∙ ap (λ (y : Layout). ask_of y m.work) (sym same) ∙ asks

  told-is : (m new : Machine) (b : Agenda) (t : Told) → a.machine ≡ Some m → b.machine ≡ Some new → IsMachineTold m new t → work_in b.machine ≡ told v.layout s.work t
  told-is m new b t was is goes =
      let same : m.layout ≡ v.layout = subst (HasLayout v.layout) was layout in
      ap work_in is ∙ goes.work ∙ ap (λ (y : Layout). told y m.work t) same ∙ ap (λ (o : Option Machine). told v.layout (work_in o) t) (sym was)

  lift : (ask : Ask) (b : Agenda) → ask_of v.layout s.work ≡ ask → IsAskTurn v w by s ask (next b) → IsTurn v by (behind earlier (world p ss turns)) (next b)
  lift ask b is turn =
      subst (λ (x : APlayer). IsAskTurn v w by x (ask_of v.layout x.work) (next b)) (sym works) (subst (λ (y : Ask). IsAskTurn v w by s y (next b)) (sym is) turn)

  lift-free : (ask : Ask) (b : Agenda) → ask_of v.layout s.work ≡ ask → IsFreeAskTurn v w by s ask (next b) → IsFreeTurn v by (behind earlier (world p ss turns)) (next b)
  lift-free ask b is turn =
      subst (λ (x : APlayer). IsFreeAskTurn v w by x (ask_of v.layout x.work) (next b)) (sym works) (subst (λ (y : Ask). IsFreeAskTurn v w by s y (next b)) (sym is) turn)

  rests : (b : Agenda) → ask_of v.layout s.work ≡ Rest → b ≡ a → q ≡ p → IsTurn v by (behind earlier (world p ss turns)) (next b)
  rests b is same shared = lift Rest b is
      ((λ i. behind earlier (world (shared i) (set ss place (same i)) (turns + 1))) ∙ (λ i. record (behind earlier (world p ss (turns + 1))) { agendas = stays i }))
    where
      unchanged : at_work (agenda_of a0) ≡ agenda_of a0
      unchanged = rest-same v.layout (agenda_of a0) (agenda_of a0).work (agenda_of a0).todo (ap (λ (x : APlayer). ask_of v.layout x.work) (sym taken) ∙ is)

      stays : agenda_in (set ss place a) ≡ agenda_in ss
      stays = fun_ext (agenda-same ss by place a0 a at low here (taken ∙ unchanged))

  -- the actor went on so
  goes-on : (m new : Machine) (b : Agenda) (t : Told) → a.machine ≡ Some m → b.machine ≡ Some new → IsSameActor a b → IsMachineTold m new t → (lock : Option Lock) → lock_of b.lock ≡ lock → (miss : Option Bool) → b.miss ≡ miss
      → agenda_of b ≡ record s { work = told v.layout s.work t; lock = lock; miss = miss }
  goes-on m new b t was is same goes lock lock_is miss miss_is = player-is s a b same refl (told v.layout s.work t) (told-is m new b t was is goes) lock lock_is miss miss_is

  -- ---- the export is asked

  exports : (b : Agenda) (old new : Machine) → a.machine ≡ Some old → b.machine ≡ Some new → IsSameActor a b → b.lock ≡ a.lock → b.miss ≡ a.miss
      → IsExportPart by old new (export_in p.export) (export_in q.export) p.log.events q.log.events → q.servers.items ≡ p.servers.items → q.lost ≡ p.lost → IsTurn v by (behind earlier (world p ss turns)) (next b)
  exports b old new was is same lock miss (c, asks, replied) servers lost =
      let x = replied.noted.0 in
      let agendas = agendas-are b (advanced v s (Replied (export_reply (export_in p.export) c))) (goes-on old new b (Replied (export_reply (export_in p.export) c)) was is same (told-of old new (Replied (export_reply (export_in p.export) c)) replied.goes) s.lock (ap lock_of lock) s.miss miss) in
      lift (AskExport c) b (asked old (AskExport c) was asks) (
        x,
        replied.noted.1,
        λ i. record {
          nodes = state_in (servers i);
          export = replied.after i;
          agendas = agendas i;
          turns = turns + 1;
          lost = lost i;
          log = replied.noted.2 i ++ earlier;
        },
      )

  -- ---- a lock is asked for

  module _ (tied : AreLocks p.locks ss) (free : HaveNoLocks ss) where
    bars-blocks : (l : Lock) (o : Option Lock) → Bars o l → IsSomeAnd o (λ other. Conflict other l)
    bars-blocks l None bars = absurd bars
    bars-blocks l (Some x) bars = bars

    blocks-bars : (l : Lock) (o : Option Lock) → IsSomeAnd o (λ other. Conflict other l) → Bars o l
    blocks-bars l None blocks = absurd (not-some blocks)
      where
        not-some : IsSomeAnd None (λ (other : Lock). Conflict other l) → ⊥
        not-some none = none
    blocks-bars l (Some x) blocks = blocks

    -- an owner of a lock is a client of the row
    owner-place : (n : ℕ) (o : Option ℕ) → place_of (Client n) ≡ o → (l : Lock) → Bars (agenda_at ss o).lock l → (1 ≤ n) × (n ≤ 64)
    owner-place n None is l bars = absurd bars
    owner-place n (Some place') is l bars = let r = client-place n place' is in (r.0, r.1)

    is-free : (l : Lock) → ((other : ℕ) → Blocks p.locks l other → ⊥) → IsFree w by l
    is-free l none = all-actors (λ other. same_actor other by ≡ false → ¬ Bars (w.agendas other).lock l)
        (λ m apart bars. none m (subst (λ (o : Option Lock). IsSomeAnd o (λ other. Conflict other l)) (sym (tied m)) (bars-blocks l (agenda_in ss (Client m)).lock bars)))
        (λ m apart bars. subst (λ (o : Option Lock). Bars o l) (free m) bars)

    not-free : (l : Lock) (owner : ℕ) → by ≡ Client owner → lock_of a0.lock ≡ None → (other : ℕ) → Blocks p.locks l other → IsFree w by l → ⊥
    not-free l owner is none other blocks all =
        let bars : Bars (agenda_in ss (Client other)).lock l = blocks-bars l (agenda_in ss (Client other)).lock (subst (λ (o : Option Lock). IsSomeAnd o (λ x. Conflict x l)) (tied other) blocks) in
        let range = owner-place other (place_of (Client other)) refl l bars in
        at-client (λ x. same_actor x by ≡ false → ¬ Bars (w.agendas x).lock l) other all range.0 range.1 (apart (same_actor (Client other) by) refl bars) bars
      where
        apart : (b : Bool) → same_actor (Client other) by ≡ b → Bars (agenda_in ss (Client other)).lock l → same_actor (Client other) by ≡ false
        apart false no_ bars = no_
        apart true eq bars = absurd (subst (λ (o : Option Lock). Bars o l)
            (ap (λ (x : Actor). (agenda_in ss x).lock) (actor-is (Client other) by eq) ∙ ap (λ (x : APlayer). x.lock) (agenda-here ss by place a0 at here) ∙ none) bars)

    granted-is : (owner : ℕ) → by ≡ Client owner → lock_of a0.lock ≡ None → (o : Option Lock) (granted : Bool) (after : Held) → Grants p.locks owner o granted after → IsGranted w by o granted
    granted-is owner is none None granted after grants = grants.0
    granted-is owner is none (Some l) true after grants = (λ eq. is-free l grants.0, λ all. refl)
    granted-is owner is none (Some l) false after grants = (λ eq. (let never_ : false ≡ true = eq in absurd (cc)), λ all. absurd (not-free l owner is none grants.0.0 grants.0.1 all))

    if-cond : (b : Bool) (x y : Option Lock) → lock_if b x y ≡ cond b x y
    if-cond true x y = refl
    if-cond false x y = refl

    opens : (b : Agenda) (old new : Machine) → a.machine ≡ Some old → b.machine ≡ Some new → IsSameActor a b → b.miss ≡ a.miss → a.lock ≡ a0.lock
        → IsOpenPart by old new (export_in p.export) (export_in q.export) p.locks q.locks a.lock b.lock p.log.events q.log.events → q.servers.items ≡ p.servers.items → q.lost ≡ p.lost → IsTurn v by (behind earlier (world p ss turns)) (next b)
    opens b old new was is same miss kept (path, exclusive, from, count, asks, (owner, o)) servers lost =
        let answer = open_reply (export_in p.export) path in
        let lock = lock_on answer exclusive from count in
        let x = o.noted.0 in
        let agendas = agendas-are b (locked o.granted lock (advanced v s (Locked o.granted answer)))
        (goes-on old new b (Locked o.granted answer) was is same (told-of old new (Locked o.granted answer) o.goes) (cond o.granted lock s.lock) (o.held_is ∙ if-cond o.granted lock (lock_of a.lock)) s.miss miss) in
        lift (AskLock path exclusive from count) b (asked old (AskLock path exclusive from count) was asks) (
          x,
          o.noted.1,
          o.granted,
          granted-is owner o.owner_is (sym (ap lock_of kept) ∙ o.none_held) lock o.granted q.locks o.grants,
          λ i. record {
            nodes = state_in (servers i);
            export = o.after i;
            agendas = agendas i;
            turns = turns + 1;
            lost = lost i;
            log = o.noted.2 i ++ earlier;
          },
        )

  -- ---- a message is sent

  module _ (servers : AllByRecursion (IsServer v) p.servers.items) where
    server-at : (ss' : List (Server D)) (i : ℕ) (st : Server D) → AllByRecursion (IsServer v) ss' → slice_get ss' i ≡ Some st → IsServer v st
    server-at [] i st all is = absurd (cc)
    server-at (y ∷ ss') zero st all is = subst (IsServer v) (the-one y st is) all.0
      where
        the-one : (y st : Server D) → Some y ≡ Some st → y ≡ st
        the-one y st is = cc
    server-at (y ∷ ss') (suc i) st all is = server-at ss' i st all.1 is

    module _ (n : ℕ) (question : NodeAsk) (old new : Machine) (b : Agenda) (m : IsActorMessage by n question old new a.miss b.miss p q) (was : a.machine ≡ Some old) (is : b.machine ≡ Some new) (same : IsSameActor a b) (lock : b.lock ≡ a.lock) (asks : IsAsked old n question) where
      found : (m.server.sid ≡ n) × (state_in p.servers.items n ≡ m.server.node.state)
      found = state-at p.servers.items n m.place m.server m.at m.is

      shape : IsServer v m.server
      shape = server-at p.servers.items m.place m.server servers m.is

      -- the answer is that of the node in its state
      given-is : (given : NodeAnswer) (x : Event) → IsNodeServed m.server.node.geometry.cells question given m.server.node.state m.after.node.state → node_event by n question given ≡ Some x → IsGiven v w by n question given x
      given-is given x served event = record {
        given_is = subst (λ (st : NodeState). IsNodeAnswer (cells_of v n) st question given) (sym found.1)
            (subst (λ (k : ℕ). IsNodeAnswer k m.server.node.state question given) (shape.cells ∙ ap (cells_of v) found.0) served.given_is);
        event = event;
      }

      -- and its state is that after the answer
      states : (given : NodeAnswer) → m.after.node.state ≡ after_answer question given m.server.node.state → state_in q.servers.items ≡ (λ k. cond (k == n) (after_answer question given (w.nodes n)) (w.nodes k))
      states given after = ap state_in m.servers ∙ fun_ext (λ k. state-set p.servers.items n m.place m.after m.at (m.called.sid ∙ found.0) k
          ∙ ap (λ (st : NodeState). cond (k == n) st (state_in p.servers.items k)) (after ∙ ap (after_answer question given) (sym found.1)))

      -- it came through, and the actor goes on as it was told
      came : (fits : Bool) (part : IsThroughPart by n m.server.node.geometry.cells question m.server.node.state m.after.node.state old new p.log.events q.log.events) → IsMachineTold old new (Answered fits part.given)
          → b.miss ≡ a.miss → q.lost ≡ p.lost → next b ≡ moved (answered w n question part.given) by (advanced v s (Answered fits part.given)) (part.noted.0 ∷ [])
      came fits part goes miss lost =
          let nodes = states part.given part.served.after in
          let agendas = agendas-are b (advanced v s (Answered fits part.given)) (goes-on old new b (Answered fits part.given) was is same goes s.lock (ap lock_of lock) s.miss miss) in
          λ i. record {
            nodes = nodes i;
            export = export_in (m.export i);
            agendas = agendas i;
            turns = turns + 1;
            lost = lost i;
            log = part.noted.2 i ++ earlier;
          }

      reply-lost : (part : IsReplyLostPart by n m.server.node.geometry.cells question m.server.node.state m.after.node.state old new p.log.events q.log.events) → IsLost a.miss question true → b.miss ≡ None → q.lost ≡ lost_after a.miss p.lost
          → IsTurn v by (behind earlier (world p ss turns)) (next b)
      reply-lost part lost_so miss lost =
          let given = part.given in
          let nodes = states given part.served.after in
          let agendas = agendas-are b (no_miss (advanced v s Missed)) (goes-on old new b Missed was is same (told-of old new Missed part.goes) s.lock (ap lock_of lock) None miss) in
          lift (AskNode n question) b (asked old (AskNode n question) was asks) (LosesReply (
            given,
            part.event,
            given-is given part.event part.served part.event_is,
            lost_so,
            λ i. record {
              nodes = nodes i;
              export = export_in (m.export i);
              agendas = agendas i;
              turns = turns + 1;
              lost = lost i;
              log = part.noted i ++ earlier;
            },
          ))

      request-lost : m.after ≡ m.server → (part : IsRequestLostPart by n old new p.log.events q.log.events) → IsLost a.miss question false → b.miss ≡ None → q.lost ≡ lost_after a.miss p.lost
          → IsTurn v by (behind earlier (world p ss turns)) (next b)
      request-lost stays part lost_so miss lost =
          let nodes : state_in q.servers.items ≡ state_in p.servers.items =
          ap state_in (m.servers ∙ ap (set p.servers.items m.place) stays ∙ set-same p.servers.items m.place m.server m.is) in
          let agendas = agendas-are b (no_miss (advanced v s Missed)) (goes-on old new b Missed was is same (told-of old new Missed part.goes) s.lock (ap lock_of lock) None miss) in
          lift (AskNode n question) b (asked old (AskNode n question) was asks) (LosesRequest (
            lost_so,
            λ i. record {
              nodes = nodes i;
              export = export_in (m.export i);
              agendas = agendas i;
              turns = turns + 1;
              lost = lost i;
              log = part.noted i ++ earlier;
            },
          ))

      sent : IsGood b.machine → IsFate by n question m.server m.after old new a.miss b.miss p q → IsTurn v by (behind earlier (world p ss turns)) (next b)
      sent good (Through part comes miss lost) =
          let so = told-true old new part.given part.fits part.may_fit part.goes (subst IsGood is good) in
          lift (AskNode n question) b (asked old (AskNode n question) was asks)
          (ComesThrough (part.given, part.noted.0, given-is part.given part.noted.0 part.served part.noted.1, comes, came true part so miss lost))
      sent good (ReplyLost part lost_so miss lost) = reply-lost part lost_so miss lost
      sent good (RequestLost stays part lost_so miss lost) = request-lost stays part lost_so miss lost

      free-sent : IsFate by n question m.server m.after old new a.miss b.miss p q → IsFreeTurn v by (behind earlier (world p ss turns)) (next b)
      free-sent (Through part comes miss lost) =
          lift-free (AskNode n question) b (asked old (AskNode n question) was asks)
          (inr (part.given, part.noted.0, part.fits, part.may_fit, given-is part.given part.noted.0 part.served part.noted.1, comes, came part.fits part part.goes miss lost))
      free-sent (ReplyLost part lost_so miss lost) = free-of v by (behind earlier (world p ss turns)) (next b) (reply-lost part lost_so miss lost)
      free-sent (RequestLost stays part lost_so miss lost) = free-of v by (behind earlier (world p ss turns)) (next b) (request-lost stays part lost_so miss lost)

  -- ---- a word is said

  lock-said : (said : Saying) (done : Bool) (lock lock' : Option (Range × LockKind)) → done ≡ is_done said → lock' ≡ lock_left done lock → lock_of lock' ≡ lock_after said (lock_of lock)
  lock-said (SayDone answer) done lock lock' done_is left = ap lock_of (left ∙ ap (λ (d : Bool). lock_left d lock) done_is)
  lock-said (SayGot key part m) done lock lock' done_is left = ap lock_of (left ∙ ap (λ (d : Bool). lock_left d lock) done_is)
  lock-said (SayGave key part end) done lock lock' done_is left = ap lock_of (left ∙ ap (λ (d : Bool). lock_left d lock) done_is)
  lock-said (SayLeft key why) done lock lock' done_is left = ap lock_of (left ∙ ap (λ (d : Bool). lock_left d lock) done_is)

  module _ (b : Agenda) (m new : Machine) (was : a.machine ≡ Some m) (is : b.machine ≡ Some new) (same : IsSameActor a b) (miss : b.miss ≡ a.miss) (done : Bool) (part : IsSayPart by a.number done m new p.log.events q.log.events)
      (released : IsLockReleased done by a.lock b.lock p.locks q.locks) (servers : q.servers.items ≡ p.servers.items) (export : q.export ≡ p.export) (lost : q.lost ≡ p.lost) where
    -- with this text
    said-so : (text : List ℕ) → text_of m ≡ text → next b ≡ moved w by (record (advanced v s (Noted text)) { lock = lock_after part.0 s.lock }) (said_event by a.number text part.0 ∷ [])
    said-so text named =
        let said = part.0 in
        let noted : q.log.events ≡ said_event by a.number text said ∷ p.log.events = part.2.noted ∙ ap (λ (t : List ℕ). said_event by a.number t said ∷ p.log.events) named in
        let goes : IsWorkAfter m m.pairs (Noted text) new = subst (λ (t : List ℕ). IsWorkAfter m m.pairs (Noted t) new) named part.2.goes in
        let agendas = agendas-are b (record (advanced v s (Noted text)) { lock = lock_after said s.lock })
        (goes-on m new b (Noted text) was is same (told-of m new (Noted text) goes) (lock_after said s.lock) (lock-said said done a.lock b.lock part.2.done_is released.lock_is) s.miss miss) in
        λ i. record {
          nodes = state_in (servers i);
          export = export_in (export i);
          agendas = agendas i;
          turns = turns + 1;
          lost = lost i;
          log = noted i ++ earlier;
        }

    says : AreTexts a.machine (p.log.events ++ earlier) → IsTurn v by (behind earlier (world p ss turns)) (next b)
    says texts = lift (Say part.0) b (asked m (Say part.0) was part.1) (said-so (text_said (facts (p.log.events ++ earlier)) part.0) (texts m part.0 was part.1))

    free-says : IsFreeTurn v by (behind earlier (world p ss turns)) (next b)
    free-says = lift-free (Say part.0) b (asked m (Say part.0) was part.1) (text_of m, said-so (text_of m) refl)

  -- What the actor did is its turn.

  module _ (tied : AreLocks p.locks ss) (free : HaveNoLocks ss) (servers : AllByRecursion (IsServer v) p.servers.items) (kept : a.lock ≡ a0.lock) (b : Agenda) where
    pub turn-is : AreTexts a.machine (p.log.events ++ earlier) → IsGood b.machine → IsAct v.layout by a b p q → IsTurn v by (behind earlier (world p ss turns)) (next b)
    turn-is texts good (Rests is same shared) = rests b is same shared
    turn-is texts good (Exports old new was is same lock miss part sts lks lost) = exports b old new was is same lock miss part sts lost
    turn-is texts good (Opens old new was is same miss part sts lost) = opens tied free b old new was is same miss kept part sts lost
    turn-is texts good (Sends old new was is same lock n question asks message) = sent servers n question old new b message was is same lock asks good message.fate
    turn-is texts good (Says old new was is same miss done part released sts export lost) = says b old new was is same miss done part released sts export lost texts

    pub free-turn-is : IsAct v.layout by a b p q → IsFreeTurn v by (behind earlier (world p ss turns)) (next b)
    free-turn-is (Rests is same shared) = free-of v by (behind earlier (world p ss turns)) (next b) (rests b is same shared)
    free-turn-is (Exports old new was is same lock miss part sts lks lost) = free-of v by (behind earlier (world p ss turns)) (next b) (exports b old new was is same lock miss part sts lost)
    free-turn-is (Opens old new was is same miss part sts lost) = free-of v by (behind earlier (world p ss turns)) (next b) (opens tied free b old new was is same miss kept part sts lost)
    free-turn-is (Sends old new was is same lock n question asks message) = free-sent servers n question old new b message was is same lock asks message.fate
    free-turn-is (Says old new was is same miss done part released sts export lost) = free-says b old new was is same miss done part released sts export lost
