use Rattle.std.proofs.Common.{◌≡◌, ◌<◌, ◌∙◌, IsTrue, get_or, inl, inr, length, refl, ap, rules}
use Rattle.std.proofs.lemmas.Option.{slice_get-get_or}
use Rattle.rz_events.specs.declared.nodes.NodeAsk.TheVariants as ask
use Rattle.rz_events.specs.declared.events.Event.{Event}
use Rattle.rz_play.specs.Lines.{noted}
use Rattle.rz_driver_nodes.proofs.MeterLemmas.{metered-counts, still-err, order-err, order-held, order-left}
use Rattle.rz_driver_nodes.proofs.Rows.{at-within}
use Rattle.rz_driver_nodes.proofs.OrderCoherence.{row-keeps, row-unchanged, still-row}
use Rattle.rz_driver_nodes.proofs.CoherenceLemmas.{noted-grows, on-err}
use Rattle.rz_driver_nodes.proofs.administration.start_node.Goals as goal

pub offset_bounds-servers-place : goal.offset_bounds-servers-place
offset_bounds-servers-place g c = let low : c.in-Some.place < length c.args.servers.now = at-within c.args.servers.now c.args.sid c.in-Some.place c.in-Some.ensures in search rules

pub bounds-servers-place : goal.bounds-servers-place
bounds-servers-place g c = at-within c.args.servers.now c.args.sid c.in-Some.place c.in-Some.ensures

pub returns-clause-ok : goal.returns-clause-ok
returns-clause-ok g c =
    let low = at-within c.args.servers.now c.args.sid c.in-Some.place c.in-Some.ensures in
    let h : c.note.new.log.events ≡ noted c.in_ok-event.event c.make_room.new.self.events = c.note.ensures in (λ (told : IsTrue g.D.Disk.tells). record {
      place = c.in-Some.place;
      server = get_or c.args.servers.now c.in-Some.place c.index-servers-place.result;
      after = c.start.new.server;
      event = c.in_ok-event.event;
      at = c.in-Some.ensures;
      is = slice_get-get_or c.args.servers.now c.in-Some.place c.index-servers-place.result low;
      servers = refl;
      order = c.in_ok-event.ensures.ok told;
      log_is = h ∙ ap (noted c.in_ok-event.event) c.make_room.ensures.same;
    })

pub returns-clause-started : goal.returns-clause-started
returns-clause-started g c =
    let low = at-within c.args.servers.now c.args.sid c.in-Some.place c.in-Some.ensures in
    let h : c.note.new.log.events ≡ noted c.in_ok-event.event c.make_room.new.self.events = c.note.ensures in (record {
      place = c.in-Some.place;
      server = get_or c.args.servers.now c.in-Some.place c.index-servers-place.result;
      after = c.start.new.server;
      event = c.in_ok-event.event;
      at = c.in-Some.ensures;
      is = slice_get-get_or c.args.servers.now c.in-Some.place c.index-servers-place.result low;
      servers = refl;
      order = c.in_ok-event.ensures.started;
      log_is = h ∙ ap (noted c.in_ok-event.event) c.make_room.ensures.same;
    })

pub returns-clause-called : goal.returns-clause-called
returns-clause-called g c =
    let low = at-within c.args.servers.now c.args.sid c.in-Some.place c.in-Some.ensures in
    let h : c.note.new.log.events ≡ noted c.in_ok-event.event c.make_room.new.self.events = c.note.ensures in (record {
      place = c.in-Some.place;
      server = get_or c.args.servers.now c.in-Some.place c.index-servers-place.result;
      after = c.start.new.server;
      at = c.in-Some.ensures;
      is = slice_get-get_or c.args.servers.now c.in-Some.place c.index-servers-place.result low;
      servers = refl;
      called = c.start.ensures.called;
    })

pub returns-clause-crashed : goal.returns-clause-crashed
returns-clause-crashed g c =
    let low = at-within c.args.servers.now c.args.sid c.in-Some.place c.in-Some.ensures in
    let h : c.note.new.log.events ≡ noted c.in_ok-event.event c.make_room.new.self.events = c.note.ensures in (record {
      place = c.in-Some.place;
      server = get_or c.args.servers.now c.in-Some.place c.index-servers-place.result;
      after = c.start.new.server;
      at = c.in-Some.ensures;
      is = slice_get-get_or c.args.servers.now c.in-Some.place c.index-servers-place.result low;
      servers = refl;
      crashed = c.start.ensures.crashed;
    })

pub returns-in_default-clause-stayed : goal.returns-in_default-clause-stayed
returns-in_default-clause-stayed g c = inl refl

pub returns-in_err-make_room-clause-stayed : goal.returns-in_err-make_room-clause-stayed
returns-in_err-make_room-clause-stayed g c = on-err c.from_residual.result (inl refl)

pub returns-in_err-event-clause-stayed : goal.returns-in_err-event-clause-stayed
returns-in_err-event-clause-stayed g c =
    let low = at-within c.args.servers.now c.args.sid c.in-Some.place c.in-Some.ensures in
    on-err c.from_residual-in_err-event.result (inr (record {
      place = c.in-Some.place;
      server = get_or c.args.servers.now c.in-Some.place c.index-servers-place.result;
      after = c.start.new.server;
      at = c.in-Some.ensures;
      is = slice_get-get_or c.args.servers.now c.in-Some.place c.index-servers-place.result low;
      servers = refl;
      crashed = c.start.ensures.crashed;
    }))

pub returns-clause-held : goal.returns-clause-held
returns-clause-held g c =
    let row = c.args.servers.now in
    let low = at-within row c.args.sid c.in-Some.place c.in-Some.ensures in
    let s = get_or row c.in-Some.place c.index-servers-place.result in
    let at = slice_get-get_or row c.in-Some.place c.index-servers-place.result low in
    let h : c.note.new.log.events ≡ noted c.in_ok-event.event c.make_room.new.self.events = c.note.ensures in (λ numbers first met.
    order-held g.D.Disk.meter first numbers row c.in-Some.place s c.start.new.server c.in_ok-event.event c.args.log.now.events c.note.new.log.events at c.start.ensures.called.sid c.in_ok-event.ensures.metered (h ∙ ap (noted c.in_ok-event.event) c.make_room.ensures.same) met)

pub returns-in_default-clause-left : goal.returns-in_default-clause-left
returns-in_default-clause-left g c = λ numbers first met. metered-counts g.D.Disk.meter first numbers c.args.servers.now c.args.log.now.events met

pub returns-in_err-make_room-clause-left : goal.returns-in_err-make_room-clause-left
returns-in_err-make_room-clause-left g c = still-err c.from_residual.result g.D.Disk.meter c.args.servers.now c.args.log.now.events c.make_room.new.self.events c.make_room.ensures.same

pub returns-in_err-event-clause-left : goal.returns-in_err-event-clause-left
returns-in_err-event-clause-left g c =
    let row = c.args.servers.now in
    let low = at-within row c.args.sid c.in-Some.place c.in-Some.ensures in
    let s = get_or row c.in-Some.place c.index-servers-place.result in
    let at = slice_get-get_or row c.in-Some.place c.index-servers-place.result low in
    order-err c.from_residual-in_err-event.result g.D.Disk.meter row c.in-Some.place s c.start.new.server c.args.log.now.events c.make_room.new.self.events at c.start.ensures.called.sid c.start.ensures.counted c.make_room.ensures.same

-- Beside the log.

pub returns-clause-coherent : goal.returns-clause-coherent
returns-clause-coherent g c =
    let row = c.args.servers.now in
    let low = at-within row c.args.sid c.in-Some.place c.in-Some.ensures in
    let s = get_or row c.in-Some.place c.index-servers-place.result in
    let at = slice_get-get_or row c.in-Some.place c.index-servers-place.result low in
    let event = c.in_ok-event.event in
    let h : c.note.new.log.events ≡ noted event c.make_room.new.self.events = c.note.ensures in (λ told.
    row-keeps g.D.Disk.image row c.in-Some.place s c.start.new.server at (c.start.ensures.images told) c.args.log.now.events c.longer.ensures c.note.new.log.events
    (noted-grows event c.args.log.now.events c.note.new.log.events (h ∙ ap (noted event) c.make_room.ensures.same)))

pub returns-in_default-clause-unchanged : goal.returns-in_default-clause-unchanged
returns-in_default-clause-unchanged g c = λ told. still-row g.D.Disk.image c.args.servers.now c.args.log.now.events

pub returns-in_err-make_room-clause-unchanged : goal.returns-in_err-make_room-clause-unchanged
returns-in_err-make_room-clause-unchanged g c = on-err c.from_residual.result (λ told. still-row g.D.Disk.image c.args.servers.now c.args.log.now.events)

pub returns-in_err-event-clause-unchanged : goal.returns-in_err-event-clause-unchanged
returns-in_err-event-clause-unchanged g c =
    let row = c.args.servers.now in
    let low = at-within row c.args.sid c.in-Some.place c.in-Some.ensures in
    let s = get_or row c.in-Some.place c.index-servers-place.result in
    let at = slice_get-get_or row c.in-Some.place c.index-servers-place.result low in
    on-err c.from_residual-in_err-event.result (λ told.
    row-unchanged g.D.Disk.image row c.in-Some.place s c.start.new.server at (c.start.ensures.images told) c.args.log.now.events c.start.ensures.called.sid c.in_err-event.ensures.same)
