use Rattle.std.proofs.Common.{◌+◌, ◌<◌, inl, inr, List, ◌++◌, refl, sym, ◌∙◌, ap, subst}
use Rattle.rz_events.specs.declared.events.Event.{Event}
use Rattle.rz_play.specs.Stops.{most_turns}
use Rattle.rz_driver.specs.declared.driver.Driver.{Driver}
use Rattle.rz_driver.specs.Worlds.{HasCounted, tells-known, IsDriver, HoldsBetweenTurns}
use Rattle.rz_driver.proofs.DriverCoherence.{turn-good, turn-lengths, turn-coherence, turn-texts, turn-unchanged, right-disks, still-right, still-counted}
use Rattle.rz_driver.proofs.DriverMeters.{log-kept}
use Rattle.rz_driver.proofs.JournalLemmas.{journal-goes-on, journal-ends, journal-still}
use Rattle.rz_driver_nodes.proofs.CoherenceLemmas.{on-err}
use Rattle.rz_driver_actors.proofs.ActCoherence.{act-grows}
use Rattle.rz_driver.proofs.TakeLemmas.{agenda-there, have-layouts, tied-at, drives, turn-sent, turned, turned-told}
use Rattle.rz_driver.proofs.Cuts.{ends-after, refused-none, turn-cause, turn-open, uncut}
use Rattle.rz_driver.proofs.driver.Driver.take_turn.Goals as goal

pub begin_next-requires : goal.begin_next-requires
begin_next-requires g c =
    let ready = subst (λ (x : Driver g.row.D.Denot g.D.Disk). IsDriver x) (sym c.self.view_is) c.requires.ready in
    (agenda-there c.args.by c.in-Some.place c.index_mut-agenda.result.now _ ready (sym c.place.ensures ∙ c.in-Some.is) c.index_mut-agenda.ensures.value).2

pub act-requires-clause-servers : goal.act-requires-clause-servers
act-requires-clause-servers g c =
    let ready = subst (λ (x : Driver g.row.D.Denot g.D.Disk). IsDriver x) (sym c.self.view_is) c.requires.ready in
    have-layouts _ _ ready.servers

pub act-requires-clause-tied : goal.act-requires-clause-tied
act-requires-clause-tied g c =
    let ready = subst (λ (x : Driver g.row.D.Denot g.D.Disk). IsDriver x) (sym c.self.view_is) c.requires.ready in
    let at = sym c.place.ensures ∙ c.in-Some.is in
    let there = agenda-there c.args.by c.in-Some.place c.index_mut-agenda.result.now _ ready at c.index_mut-agenda.ensures.value in
    tied-at c.args.by c.in-Some.place c.index_mut-agenda.result.now c.begin_next.new.self _ ready at there.0 c.begin_next.ensures.lock

pub returns-clause-ready : goal.returns-clause-ready
returns-clause-ready g c =
    let ready = subst (λ (x : Driver g.row.D.Denot g.D.Disk). IsDriver x) (sym c.self.view_is) c.requires.ready in
    let at = sym c.place.ensures ∙ c.in-Some.is in
    let there = agenda-there c.args.by c.in-Some.place c.index_mut-agenda.result.now _ ready at c.index_mut-agenda.ensures.value in
    drives c.args.by c.in-Some.place _ _ c.make_room.new.self c.index_mut-agenda.result.now c.begin_next.new.self c.act.new.agenda ready at there.0 there.1
    c.in_ok-begin_next.ensures.ok c.in_ok-begin_next.ensures.agenda c.begin_next.ensures.lock c.make_room.ensures.same c.in_ok-act.ensures.ok refl refl c.act.ensures.bins (turn-open g.D.Disk.tells g.D.Disk.meter g.D.Disk.image c.args.by c.begin_next.new.self.machine _ _ _ _ c.in_ok-act.ensures.kept ready.journal)

pub returns-clause-taken : goal.returns-clause-taken
returns-clause-taken g c = λ b held.
    let ready = subst (λ (x : Driver g.row.D.Denot g.D.Disk). IsDriver x) (sym c.self.view_is) c.requires.ready in
    let here = subst (λ (x : Driver g.row.D.Denot g.D.Disk). HoldsBetweenTurns x b) (sym c.self.view_is) held in
    let at = sym c.place.ensures ∙ c.in-Some.is in
    let there = agenda-there c.args.by c.in-Some.place c.index_mut-agenda.result.now _ ready at c.index_mut-agenda.ensures.value in
    let texts = turn-texts c.args.by c.in-Some.place _ c.args.self.now c.self.view_is c.make_room.new.self c.index_mut-agenda.result.now c.begin_next.new.self at there.0 c.in_ok-begin_next.ensures.agenda.machine
    c.in_ok-begin_next.ensures.ok c.make_room.ensures.same c.in_ok-begin_next.ensures.hand c.working.ensures b.log here.3.short c.in_ok-make_room.ensures.short here.1 (λ told. (here.2 (tells-known _ b told)).bytes told)
    in
    let good = turn-good c.args.by c.in-Some.place _ c.args.self.now c.self.view_is c.make_room.new.self c.index_mut-agenda.result.now c.begin_next.new.self at there.0 c.in_ok-begin_next.ensures.agenda.machine
    c.in_ok-begin_next.ensures.ok c.make_room.ensures.same c.in_ok-begin_next.ensures.hand c.working.ensures b.log here.3.short c.in_ok-make_room.ensures.short here.1 c.act.new.agenda c.act.new.shared.servers.items c.act.new.shared.log.events c.fitting.ensures
    c.in_ok-act.ensures.coherent
    in
    turned c.args.by c.in-Some.place _ c.act.new.shared c.make_room.new.self c.index_mut-agenda.result.now c.begin_next.new.self c.act.new.agenda ready at there.0 there.1
    c.in_ok-begin_next.ensures.ok c.in_ok-begin_next.ensures.agenda c.begin_next.ensures.lock c.make_room.ensures.same c.in_ok-act.ensures.ok b.log texts good c.args.self.now c.self.view_is

pub returns-clause-sent : goal.returns-clause-sent
returns-clause-sent g c =
    let ready = subst (λ (x : Driver g.row.D.Denot g.D.Disk). IsDriver x) (sym c.self.view_is) c.requires.ready in
    let at = sym c.place.ensures ∙ c.in-Some.is in
    let there = agenda-there c.args.by c.in-Some.place c.index_mut-agenda.result.now _ ready at c.index_mut-agenda.ensures.value in
    turn-sent g.L.Link.says c.args.by c.in-Some.place _ c.make_room.new.self c.index_mut-agenda.result.now c.begin_next.new.self at there.0
    c.in_ok-begin_next.ensures.ok c.make_room.ensures.same c.args.link.now c.act.new.link c.act.new.shared.log.events c.in_ok-act.ensures.sent c.args.self.now c.self.view_is

pub returns-clause-counted : goal.returns-clause-counted
returns-clause-counted g c = ap (λ (x : Driver g.row.D.Denot g.D.Disk). x.turns + 1) c.self.view_is

pub returns-clause-held : goal.returns-clause-held
returns-clause-held g c = λ b met.
    let ready = subst (λ (x : Driver g.row.D.Denot g.D.Disk). IsDriver x) (sym c.self.view_is) c.requires.ready in
    let here = subst (λ (x : Driver g.row.D.Denot g.D.Disk). HoldsBetweenTurns x b) (sym c.self.view_is) met in
    let at = sym c.place.ensures ∙ c.in-Some.is in
    let a0 = c.index_mut-agenda.result.now in
    let there = agenda-there c.args.by c.in-Some.place a0 _ ready at c.index_mut-agenda.ensures.value in
    let texts = turn-texts c.args.by c.in-Some.place _ c.args.self.now c.self.view_is c.make_room.new.self c.index_mut-agenda.result.now c.begin_next.new.self at there.0 c.in_ok-begin_next.ensures.agenda.machine
    c.in_ok-begin_next.ensures.ok c.make_room.ensures.same c.in_ok-begin_next.ensures.hand c.working.ensures b.log here.3.short c.in_ok-make_room.ensures.short here.1 (λ told. (here.2 (tells-known _ b told)).bytes told)
    in
    let good = turn-good c.args.by c.in-Some.place _ c.args.self.now c.self.view_is c.make_room.new.self c.index_mut-agenda.result.now c.begin_next.new.self at there.0 c.in_ok-begin_next.ensures.agenda.machine
    c.in_ok-begin_next.ensures.ok c.make_room.ensures.same c.in_ok-begin_next.ensures.hand c.working.ensures b.log here.3.short c.in_ok-make_room.ensures.short here.1 c.act.new.agenda c.act.new.shared.servers.items c.act.new.shared.log.events c.fitting.ensures
    c.in_ok-act.ensures.coherent
    in
    let turn = turned-told c.args.by c.in-Some.place _ c.act.new.shared c.make_room.new.self a0 c.begin_next.new.self c.act.new.agenda ready at there.0 there.1
    c.in_ok-begin_next.ensures.ok c.in_ok-begin_next.ensures.agenda c.begin_next.ensures.lock c.make_room.ensures.same c.in_ok-act.ensures.ok b.log texts good
    in
    let grown = act-grows _ c.args.by c.begin_next.new.self c.act.new.agenda _ c.act.new.shared c.in_ok-act.ensures.ok in (
      c.in_ok-act.ensures.held _ b.counts (log-kept _ ready c.make_room.new.self.events b c.make_room.ensures.same here),
      turn-coherence c.args.by c.in-Some.place _ c.args.self.now c.self.view_is c.make_room.new.self a0 c.begin_next.new.self at there.0 c.in_ok-begin_next.ensures.agenda.machine
          c.in_ok-begin_next.ensures.ok c.make_room.ensures.same c.in_ok-begin_next.ensures.hand c.working.ensures b.log c.act.new.agenda _ c.act.new.shared.servers.items c.turned.ensures c.facts_told.ensures c.lasting.ensures
          turn c.in_ok-act.ensures.coherent (grown.0, grown.1 ∙ ap (λ (k : List Event). grown.0 ++ k) c.make_room.ensures.same) met.1,
      (λ now. journal-goes-on _ _ refl c.act.ensures.store b c.make_room.new.self.events c.make_room.ensures.same here.2 now here.1 grown (c.told.ensures _) (c.untold.ensures _) c.args.by c.begin_next.new.self.machine
          (turn-lengths c.args.by c.in-Some.place _ c.args.self.now c.self.view_is c.make_room.new.self a0 c.begin_next.new.self at there.0 c.in_ok-begin_next.ensures.agenda.machine
          c.in_ok-begin_next.ensures.ok c.make_room.ensures.same c.in_ok-begin_next.ensures.hand c.working.ensures b.log c.own_proper.ensures here.1)
          c.in_ok-act.ensures.kept),
      here.3,
    )

pub returns-in_default-clause-left : goal.returns-in_default-clause-left
returns-in_default-clause-left g c = uncut c.args.self.now c.args.self.now _ c.requires.ready.journal (λ b met. inl (met, refl))

pub returns-in_err-make_room-clause-left : goal.returns-in_err-make_room-clause-left
returns-in_err-make_room-clause-left g c =
    let ready = subst (λ (x : Driver g.row.D.Denot g.D.Disk). IsDriver x) (sym c.self.view_is) c.requires.ready in
    on-err c.from_residual.result (uncut c.args.self.now _ _ ready.journal (λ b met.
    let here = subst (λ (x : Driver g.row.D.Denot g.D.Disk). HoldsBetweenTurns x b) (sym c.self.view_is) met in
    inr (
      still-counted _ c.args.self.now c.self.view_is c.make_room.new.self.events c.make_room.ensures.same b met,
      still-right _ c.args.self.now c.self.view_is c.make_room.new.self.events c.make_room.ensures.same b met,
      journal-still _ _ refl refl b here.2 c.make_room.ensures.same,
      here.3,
      refused-none _ ready.journal,
    )))

pub returns-in_err-begin_next-clause-left : goal.returns-in_err-begin_next-clause-left
returns-in_err-begin_next-clause-left g c =
    let ready = subst (λ (x : Driver g.row.D.Denot g.D.Disk). IsDriver x) (sym c.self.view_is) c.requires.ready in
    on-err c.from_residual-in_err-begin_next.result (uncut c.args.self.now _ _ ready.journal (λ b met.
    let here = subst (λ (x : Driver g.row.D.Denot g.D.Disk). HoldsBetweenTurns x b) (sym c.self.view_is) met in
    inr (
      still-counted _ c.args.self.now c.self.view_is c.make_room.new.self.events c.make_room.ensures.same b met,
      still-right _ c.args.self.now c.self.view_is c.make_room.new.self.events c.make_room.ensures.same b met,
      journal-still _ _ refl refl b here.2 c.make_room.ensures.same,
      here.3,
      refused-none _ ready.journal,
    )))

pub returns-in_err-act-clause-left : goal.returns-in_err-act-clause-left
returns-in_err-act-clause-left g c =
    let ready = subst (λ (x : Driver g.row.D.Denot g.D.Disk). IsDriver x) (sym c.self.view_is) c.requires.ready in
    let at = sym c.place.ensures ∙ c.in-Some.is in
    let a0 = c.index_mut-agenda.result.now in
    let there = agenda-there c.args.by c.in-Some.place a0 _ ready at c.index_mut-agenda.ensures.value in
    let asked = c.in_err-act.ensures.ended ready.journal in
    on-err c.from_residual-in_err-act.result (record {
      refused = asked.refused;
      ends = ends-after _ asked.refused asked.is_refused;
      left = λ b met.
          let here = subst (λ (x : Driver g.row.D.Denot g.D.Disk). HoldsBetweenTurns x b) (sym c.self.view_is) met in
          let counted = c.in_err-act.ensures.left _ b.counts (log-kept _ ready c.make_room.new.self.events b c.make_room.ensures.same here) in
          let ys = c.act.new.shared.servers.items in
          let unchanged = turn-unchanged c.args.by c.in-Some.place _ c.args.self.now c.self.view_is c.make_room.new.self a0 c.begin_next.new.self at there.0 c.in_ok-begin_next.ensures.agenda.machine
          c.in_ok-begin_next.ensures.ok c.make_room.ensures.same c.in_ok-begin_next.ensures.hand c.working.ensures b.log ys c.in_err-act.ensures.unchanged
          in
          inr (
            counted,
            right-disks _ c.args.self.now c.self.view_is c.act.new.shared.log.events (c.in_err-act.ensures.err ∙ c.make_room.ensures.same) b met ys (counted.named ∙ sym here.0.named) unchanged,
            (λ now. journal-ends _ _ refl c.act.ensures.store b c.make_room.new.self.events c.make_room.ensures.same here.2 now c.in_err-act.ensures.err asked.refused asked.ends),
            here.3,
            asked.is_refused,
          );
      stopped = λ refused is b met.
          turn-cause c.args.by c.in-Some.place _ c.args.self.now c.self.view_is a0 c.begin_next.new.self asked.refused at there.0 c.in_ok-begin_next.ensures.ok
          (subst (λ (x : Driver g.row.D.Denot g.D.Disk). x.turns < most_turns) (sym c.self.view_is) c.requires.few) asked.change refused is;
    })

pub returns-in_err-make_room-clause-faults : goal.returns-in_err-make_room-clause-faults
returns-in_err-make_room-clause-faults g c = λ first counted.
    let had = subst (λ (x : Driver g.row.D.Denot g.D.Disk). HasCounted x first) (sym c.self.view_is) counted in
    record { each = had.each; journal = had.journal }

pub returns-in_err-begin_next-clause-faults : goal.returns-in_err-begin_next-clause-faults
returns-in_err-begin_next-clause-faults g c = λ first counted.
    let had = subst (λ (x : Driver g.row.D.Denot g.D.Disk). HasCounted x first) (sym c.self.view_is) counted in
    record { each = had.each; journal = had.journal }

pub returns-in_err-act-clause-faults : goal.returns-in_err-act-clause-faults
returns-in_err-act-clause-faults g c = λ first counted.
    let ready = subst (λ (x : Driver g.row.D.Denot g.D.Disk). IsDriver x) (sym c.self.view_is) c.requires.ready in
    let had = subst (λ (x : Driver g.row.D.Denot g.D.Disk). HasCounted x first) (sym c.self.view_is) counted in
    record { each = c.act.ensures.count ∙ had.each; journal = c.act.ensures.store.counted ready.journal first had.journal }

pub returns-clause-faults : goal.returns-clause-faults
returns-clause-faults g c = λ first counted.
    let ready = subst (λ (x : Driver g.row.D.Denot g.D.Disk). IsDriver x) (sym c.self.view_is) c.requires.ready in
    let had = subst (λ (x : Driver g.row.D.Denot g.D.Disk). HasCounted x first) (sym c.self.view_is) counted in
    record { each = c.act.ensures.count ∙ had.each; journal = c.act.ensures.store.counted ready.journal first had.journal }
