use Rattle.std.proofs.Common.{◌≡◌, List, None, ap, refl, sym, ◌∙◌, subst, rules, arith}
use Rattle.rz_events.specs.declared.nodes.NodeAsk.TheVariants as ask
use Rattle.rz_events.specs.declared.nodes.NodeAnswer.TheVariants as answer
use Rattle.rz_events.specs.declared.nodes.StartAnswer.{StartAnswer}
use Rattle.rz_events.specs.declared.nodes.StartAnswer.TheVariants as start
use Rattle.rz_events.specs.declared.nodes.OpenFault.TheVariants as fault
use Rattle.rz_disk.specs.Meter.{Meter, armed}
use Rattle.rz_cells_slots.specs.Opening.{opening_calls}
use Rattle.rz_events.specs.declared.nodes.Phase.TheVariants.{Down}
use Rattle.rz_node.specs.Opens.{Opens, IfStarted, UnlessStarted, IfUnopened}
use Rattle.rz_play.specs.Lines.{IsStartedAs, IsAnswerInPlay, noted}
use Rattle.rz_driver_nodes.specs.Meters.{OneNodeGoesOn}
use Rattle.rz_node_laws.proofs.MeterRises.{armed-there}
use Rattle.rz_driver_nodes.proofs.MeterLemmas.{armed-own, start-down, start-still, start-lasts}
use Rattle.std.specs.Prelude.{ℕ, Bool, IsTrue, Option}
use Rattle.rz_events.specs.declared.keys.Actor.TheVariants.{Admin}
use Rattle.rz_events.specs.declared.events.Event.{Event}
use Rattle.rz_node_model.specs.States.{NodeState, opened}
use Rattle.rz_node_model.specs.Answers.{IsNodeAnswer, IsStartAnswer}
use Rattle.rz_node_model.specs.Afterwards.{after_answer}
use Rattle.rz_node_model.specs.NodeEvents.{node_event, start_event}
use Rattle.rz_cells_slots.specs.declared.geometry.Geometry.{Geometry}
use Rattle.rz_node.specs.View.{NodeView}
use Rattle.rz_nodes.specs.declared.formatting.Server.{Server}
use Rattle.rz_driver_nodes.specs.Servers.{IsCalled}
use Rattle.rz_driver_nodes.specs.Administration.{IsOrderAnswered, IsFreeOrder, IsDiskArmed}
use Rattle.rz_driver_nodes.specs.Images.{KeepsImages}
use Rattle.rz_driver_nodes.proofs.OrderCoherence.{both-keep, call-keeps, crash-keeps, fewer-keeps, starts}
use Rattle.rz_driver_nodes.proofs.administration.start.Goals as goal
use Rattle.rz_driver_nodes.proofs.administration.start.Goals.{then-eq, else-eq}

start-told : (a : StartAnswer) → (a ≡ start.NoMemory → ⊥) → IfUnopened a (λ cause. cause ≡ fault.DiskFault) → IsAnswerInPlay (answer.Start a)
start-told (start.Started took) other fits = tt
start-told start.NotDown other fits = tt
start-told start.NoMemory other fits = other refl
start-told (start.Unopened cause) other fits = fits

the-start : (a : StartAnswer) → answer.Start a ≡ answer.Start start.NoMemory → a ≡ start.NoMemory
the-start a same = grind (arith, same)

-- a start leaves the node as it is before it starts
disarmed-first : {D : Type 0} (old mid : Server D) (n : NodeView D) → IsDiskArmed old.pick old mid → n.geometry ≡ mid.node.geometry
    → IsCalled old (record { sid = mid.sid; node = n; pick = mid.pick })
disarmed-first old mid n first kept = record { sid = first.sid; pick = first.pick_is; geometry = kept ∙ first.geometry }

order-of : {D : Type 0} (old mid : Server D) (n : NodeView D) (given : StartAnswer) (event : Option Event) → IsDiskArmed old.pick old mid → n.geometry ≡ mid.node.geometry
    → IsNodeAnswer mid.node.geometry.cells mid.node.state ask.Start (answer.Start given) → IsAnswerInPlay (answer.Start given) → n.state ≡ after_answer ask.Start (answer.Start given) mid.node.state
    → event ≡ node_event Admin mid.sid ask.Start (answer.Start given)
    → IsOrderAnswered ask.Start old (record { sid = mid.sid; node = n; pick = mid.pick }) event
order-of old mid n given event first kept is told after noted = record {
  given = answer.Start given;
  given_is = subst (λ (s : NodeState). IsNodeAnswer old.node.geometry.cells s ask.Start (answer.Start given)) first.state
      (subst (λ (k : Geometry). IsNodeAnswer k.cells mid.node.state ask.Start (answer.Start given)) first.geometry is);
  told = told;
  after = after ∙ ap (after_answer ask.Start (answer.Start given)) first.state;
  event_is = noted ∙ ap (λ (n : ℕ). node_event Admin n ask.Start (answer.Start given)) first.sid;
  called = disarmed-first old mid n first kept;
}

-- what it holds is free where it started
started-as : (a : StartAnswer) (s s' : NodeState) → IfStarted a (s' ≡ opened s.losses s'.fence s'.held) → UnlessStarted a (s' ≡ s) → IsStartedAs (answer.Start a) s s'
started-as (start.Started took) s s' started unstarted = started
started-as start.NotDown s s' started unstarted = unstarted
started-as start.NoMemory s s' started unstarted = unstarted
started-as (start.Unopened cause) s s' started unstarted = unstarted

free-order : {D : Type 0} (old mid : Server D) (n : NodeView D) (given : StartAnswer) (event : Option Event) → IsDiskArmed old.pick old mid → n.geometry ≡ mid.node.geometry
    → IsNodeAnswer mid.node.geometry.cells mid.node.state ask.Start (answer.Start given) → (given ≡ start.NoMemory → ⊥)
    → IsStartedAs (answer.Start given) old.node.state n.state → event ≡ node_event Admin mid.sid ask.Start (answer.Start given)
    → IsFreeOrder old (record { sid = mid.sid; node = n; pick = mid.pick }) event
free-order old mid n given event first kept is answered started noted = record {
  given = answer.Start given;
  given_is = subst (λ (s : NodeState). IsNodeAnswer old.node.geometry.cells s ask.Start (answer.Start given)) first.state
      (subst (λ (k : Geometry). IsNodeAnswer k.cells mid.node.state ask.Start (answer.Start given)) first.geometry is);
  answered = λ same. answered (the-start given same);
  started = started;
  event_is = noted ∙ ap (λ (n : ℕ). node_event Admin n ask.Start (answer.Start given)) first.sid;
  called = disarmed-first old mid n first kept;
}

-- a disk that tells is refused by a failed device call alone
exact-told : (b : Bool) (a : StartAnswer) → IsTrue b → IfUnopened a (λ cause. IsTrue b → cause ≡ fault.DiskFault) → IfUnopened a (λ cause. cause ≡ fault.DiskFault)
exact-told b (start.Started took) told fits = tt
exact-told b start.NotDown told fits = tt
exact-told b start.NoMemory told fits = tt
exact-told b (start.Unopened cause) told fits = fits told

pub returns-in_default : goal.returns-in_default
returns-in_default g c =
    let meter = g.D.Disk.meter in
    let old = c.args.server.now in
    let mid = c.if-eq.server in
    let new = c.start.new.self in
    let given = c.start.result in
    let calls = opening_calls mid.node.geometry in
    let first : IsDiskArmed old.pick old mid = elim c.if-eq.branch [
      | then-eq w ↦ rw w.server-is (record { sid = refl; geometry = w.arm.ensures.geometry ∙ w.crash.ensures.geometry; state = w.arm.ensures.state ∙ w.crash.ensures.state; pick_is = refl })
      | else-eq w ↦ rw w.server-is (record { sid = refl; geometry = refl; state = refl; pick_is = refl })
    ] in
    let replied = subst (λ (s : NodeState). IsStartAnswer s given) first.state c.start.ensures.answer in
    let started = subst (λ (s : NodeState). IfStarted given (new.state ≡ opened s.losses new.state.fence new.state.held)) first.state c.start.ensures.started in
    let unstarted = subst (λ (s : NodeState). UnlessStarted given (new.state ≡ s)) first.state c.start.ensures.unstarted in
    let event_is : c.node_event.result ≡ start_event old.sid given = c.node_event.ensures ∙ ap (λ (n : ℕ). start_event n given) first.sid in
    let same : (meter mid.node.disk).own ≡ (meter old.node.disk).own = elim c.if-eq.branch [
      | then-eq w ↦ ap (λ (s : Server g.row.D.Denot). (meter s.node.disk).own) w.server-is
          ∙ armed-own g.D.Disk.has_fuse None (meter w.crash.new.self.disk) (meter w.arm.new.self.disk) w.arm.ensures.meter ∙ ap (λ (m : Meter). m.own) w.crash.ensures.meter
      | else-eq w ↦ ap (λ (s : Server g.row.D.Denot). (meter s.node.disk).own) w.server-is
    ] in
    let keeps : IsTrue g.D.Disk.tells → KeepsImages g.D.Disk.image old mid = λ told. elim c.if-eq.branch [
      | then-eq w ↦
          let crashed : Server g.row.D.Denot = record { sid = old.sid; node = w.crash.new.self; pick = old.pick } in
          let disarmed : Server g.row.D.Denot = record { sid = old.sid; node = w.arm.new.self; pick = old.pick } in
          rw w.server-is (both-keep g.D.Disk.image old crashed disarmed
          (crash-keeps g.D.Disk.image g.D.Disk.text c.crashed.ensures old crashed refl w.crash.ensures.geometry w.crash.ensures.state (w.crash.ensures.left told) w.crash.ensures.only)
          (fewer-keeps g.D.Disk.image c.fewer.ensures crashed disarmed refl w.arm.ensures.geometry w.arm.ensures.state w.arm.ensures.within))
      | else-eq w ↦ rw w.server-is (λ v f has. has)
    ] in
    let after : Server g.row.D.Denot = record { sid = mid.sid; node = new; pick = mid.pick } in
    let images : IsTrue g.D.Disk.tells → KeepsImages g.D.Disk.image old after = λ told. both-keep g.D.Disk.image old mid after (keeps told)
    (call-keeps g.D.Disk.image g.D.Disk.text (c.called.ensures told) ask.Start (answer.Start c.start.result) (λ v f n. tt) mid after refl c.start.ensures.geometry (c.start.ensures.after told) c.start.ensures.answer
    (starts mid.node.geometry mid.node.state g.D.Disk.tells told (g.D.Disk.text mid.node.disk) (g.D.Disk.text new.disk) (g.D.Disk.image mid.node.disk) (g.D.Disk.image new.disk)
    c.start.result c.start.ensures.branch c.start.ensures.settled c.start.ensures.text c.start.ensures.within))
    in
    record {
      called = disarmed-first old mid new first c.start.ensures.geometry;
      started = free-order old mid new given c.node_event.result first c.start.ensures.geometry c.start.ensures.answer c.in_default.not-NoMemory (started-as given old.node.state new.state started unstarted) c.node_event.ensures;
      ok = λ told. order-of old mid new given c.node_event.result first c.start.ensures.geometry c.start.ensures.answer
          (start-told given c.in_default.not-NoMemory (exact-told g.D.Disk.tells given told c.start.ensures.exact)) (c.start.ensures.after told) c.node_event.ensures;
      crashed = λ down. elim c.if-eq.branch [
        | then-eq w ↦ subst (λ (t : List ℕ). g.D.Disk.picks old.node.disk old.pick t)
            (sym (c.start.ensures.text ∙ ap (λ (s : Server g.row.D.Denot). g.D.Disk.text s.node.disk) w.server-is ∙ w.arm.ensures.text)) w.crash.ensures.by_pick
        | else-eq w ↦ let other : old.node.state.phase ≡ Down → ⊥ = search rules in absurd (other down)
      ];
      metered = λ h. subst (λ (o : Option Event). OneNodeGoesOn meter old.sid old.node new h (noted o h)) (sym event_is) (elim c.if-eq.branch [
        | then-eq w ↦
            let down : old.node.state.phase ≡ Down = search rules in
            let disarmed : meter mid.node.disk ≡ armed None (meter old.node.disk) = ap (λ (s : Server g.row.D.Denot). meter s.node.disk) w.server-is
            ∙ armed-there g.D.Disk.has_fuse None (meter w.crash.new.self.disk) (meter w.arm.new.self.disk) c.requires.fuse w.arm.ensures.meter ∙ ap (armed None) w.crash.ensures.meter
            in
            start-down meter c.started.ensures old.sid calls given old.node new (meter mid.node.disk) down replied c.in_default.not-NoMemory disarmed c.start.ensures.opens started unstarted h
        | else-eq w ↦
            let other : old.node.state.phase ≡ Down → ⊥ = search rules in
            let opens = subst (λ (m : Meter). Opens calls given m (meter new.disk)) (ap (λ (s : Server g.row.D.Denot). meter s.node.disk) w.server-is) c.start.ensures.opens in
            start-still meter old.sid calls given old.node new other replied opens unstarted h
      ]);
      counted = start-lasts meter calls given old.node new (meter mid.node.disk) same c.start.ensures.opens;
      images = images;
      same = tt;
    }

pub returns-in-NoMemory : goal.returns-in-NoMemory
returns-in-NoMemory g c =
    let meter = g.D.Disk.meter in
    let old = c.args.server.now in
    let mid = c.if-eq.server in
    let new = c.start.new.self in
    let first : IsDiskArmed old.pick old mid = elim c.if-eq.branch [
      | then-eq w ↦ rw w.server-is (record { sid = refl; geometry = w.arm.ensures.geometry ∙ w.crash.ensures.geometry; state = w.arm.ensures.state ∙ w.crash.ensures.state; pick_is = refl })
      | else-eq w ↦ rw w.server-is (record { sid = refl; geometry = refl; state = refl; pick_is = refl })
    ] in
    let same : (meter mid.node.disk).own ≡ (meter old.node.disk).own = elim c.if-eq.branch [
      | then-eq w ↦ ap (λ (s : Server g.row.D.Denot). (meter s.node.disk).own) w.server-is
          ∙ armed-own g.D.Disk.has_fuse None (meter w.crash.new.self.disk) (meter w.arm.new.self.disk) w.arm.ensures.meter ∙ ap (λ (m : Meter). m.own) w.crash.ensures.meter
      | else-eq w ↦ ap (λ (s : Server g.row.D.Denot). (meter s.node.disk).own) w.server-is
    ] in
    let keeps : IsTrue g.D.Disk.tells → KeepsImages g.D.Disk.image old mid = λ told. elim c.if-eq.branch [
      | then-eq w ↦
          let crashed : Server g.row.D.Denot = record { sid = old.sid; node = w.crash.new.self; pick = old.pick } in
          let disarmed : Server g.row.D.Denot = record { sid = old.sid; node = w.arm.new.self; pick = old.pick } in
          rw w.server-is (both-keep g.D.Disk.image old crashed disarmed
          (crash-keeps g.D.Disk.image g.D.Disk.text c.crashed.ensures old crashed refl w.crash.ensures.geometry w.crash.ensures.state (w.crash.ensures.left told) w.crash.ensures.only)
          (fewer-keeps g.D.Disk.image c.fewer.ensures crashed disarmed refl w.arm.ensures.geometry w.arm.ensures.state w.arm.ensures.within))
      | else-eq w ↦ rw w.server-is (λ v f has. has)
    ] in
    let after : Server g.row.D.Denot = record { sid = mid.sid; node = new; pick = mid.pick } in
    let images : IsTrue g.D.Disk.tells → KeepsImages g.D.Disk.image old after = λ told. both-keep g.D.Disk.image old mid after (keeps told)
    (call-keeps g.D.Disk.image g.D.Disk.text (c.called.ensures told) ask.Start (answer.Start c.start.result) (λ v f n. tt) mid after refl c.start.ensures.geometry (c.start.ensures.after told) c.start.ensures.answer
    (starts mid.node.geometry mid.node.state g.D.Disk.tells told (g.D.Disk.text mid.node.disk) (g.D.Disk.text new.disk) (g.D.Disk.image mid.node.disk) (g.D.Disk.image new.disk)
    c.start.result c.start.ensures.branch c.start.ensures.settled c.start.ensures.text c.start.ensures.within))
    in
    record {
      called = disarmed-first old mid new first c.start.ensures.geometry;
      ok = tt;
      started = tt;
      crashed = λ down. elim c.if-eq.branch [
        | then-eq w ↦ subst (λ (t : List ℕ). g.D.Disk.picks old.node.disk old.pick t)
            (sym (c.start.ensures.text ∙ ap (λ (s : Server g.row.D.Denot). g.D.Disk.text s.node.disk) w.server-is ∙ w.arm.ensures.text)) w.crash.ensures.by_pick
        | else-eq w ↦ let other : old.node.state.phase ≡ Down → ⊥ = search rules in absurd (other down)
      ];
      metered = tt;
      counted = start-lasts meter (opening_calls mid.node.geometry) c.start.result old.node new (meter mid.node.disk) same c.start.ensures.opens;
      images = images;
      same = subst (λ (a : StartAnswer). UnlessStarted a (new.state ≡ mid.node.state)) c.in-NoMemory.is c.start.ensures.unstarted ∙ first.state;
    }
