use Rattle.std.proofs.Common.{◌≡◌, ◌<◌, ◌∙◌, get_or, length, refl, ap, rules}
use Rattle.std.proofs.lemmas.Option.{slice_get-get_or}
use Rattle.rz_events.specs.declared.events.Event.{Event}
use Rattle.rz_play.specs.Lines.{noted}
use Rattle.rz_driver_nodes.proofs.MeterLemmas.{metered-counts, still-err, order-held, order-left}
use Rattle.rz_driver_nodes.proofs.Rows.{at-within}
use Rattle.rz_driver_nodes.proofs.OrderCoherence.{row-keeps, still-row}
use Rattle.rz_driver_nodes.proofs.CoherenceLemmas.{noted-grows, on-err}
use Rattle.rz_driver_nodes.proofs.administration.order_node.Goals as goal

pub offset_bounds-servers-place : goal.offset_bounds-servers-place
offset_bounds-servers-place g c = let low : c.in-Some.place < length c.args.servers.now = at-within c.args.servers.now c.args.sid c.in-Some.place c.in-Some.ensures in search rules

pub bounds-servers-place : goal.bounds-servers-place
bounds-servers-place g c = at-within c.args.servers.now c.args.sid c.in-Some.place c.in-Some.ensures

pub returns-clause-ok : goal.returns-clause-ok
returns-clause-ok g c =
    let low = at-within c.args.servers.now c.args.sid c.in-Some.place c.in-Some.ensures in
    let h : c.note.new.log.events ≡ noted c.order-event.result c.make_room.new.self.events = c.note.ensures in (record {
      place = c.in-Some.place;
      server = get_or c.args.servers.now c.in-Some.place c.index-servers-place.result;
      after = c.order-event.new.server;
      event = c.order-event.result;
      at = c.in-Some.ensures;
      is = slice_get-get_or c.args.servers.now c.in-Some.place c.index-servers-place.result low;
      servers = refl;
      order = c.order-event.ensures.order;
      log_is = h ∙ ap (noted c.order-event.result) c.make_room.ensures.same;
    })

pub returns-clause-held : goal.returns-clause-held
returns-clause-held g c =
    let row = c.args.servers.now in
    let low = at-within row c.args.sid c.in-Some.place c.in-Some.ensures in
    let s = get_or row c.in-Some.place c.index-servers-place.result in
    let at = slice_get-get_or row c.in-Some.place c.index-servers-place.result low in
    let h : c.note.new.log.events ≡ noted c.order-event.result c.make_room.new.self.events = c.note.ensures in (λ numbers first met.
    order-held g.D.Disk.meter first numbers row c.in-Some.place s c.order-event.new.server c.order-event.result c.args.log.now.events c.note.new.log.events at c.order-event.ensures.order.called.sid c.order-event.ensures.metered (h ∙ ap (noted c.order-event.result) c.make_room.ensures.same) met)

pub returns-in_default-clause-left : goal.returns-in_default-clause-left
returns-in_default-clause-left g c = λ numbers first met. metered-counts g.D.Disk.meter first numbers c.args.servers.now c.args.log.now.events met

pub returns-in_err-make_room-clause-left : goal.returns-in_err-make_room-clause-left
returns-in_err-make_room-clause-left g c = still-err c.from_residual.result g.D.Disk.meter c.args.servers.now c.args.log.now.events c.make_room.new.self.events c.make_room.ensures.same

-- Beside the log.

pub returns-clause-coherent : goal.returns-clause-coherent
returns-clause-coherent g c =
    let row = c.args.servers.now in
    let low = at-within row c.args.sid c.in-Some.place c.in-Some.ensures in
    let s = get_or row c.in-Some.place c.index-servers-place.result in
    let at = slice_get-get_or row c.in-Some.place c.index-servers-place.result low in
    let h : c.note.new.log.events ≡ noted c.order-event.result c.make_room.new.self.events = c.note.ensures in (λ told.
    row-keeps g.D.Disk.image row c.in-Some.place s c.order-event.new.server at (c.order-event.ensures.images told) c.args.log.now.events c.longer.ensures c.note.new.log.events
    (noted-grows c.order-event.result c.args.log.now.events c.note.new.log.events (h ∙ ap (noted c.order-event.result) c.make_room.ensures.same)))

pub returns-in_default-clause-unchanged : goal.returns-in_default-clause-unchanged
returns-in_default-clause-unchanged g c = λ told. still-row g.D.Disk.image c.args.servers.now c.args.log.now.events

pub returns-in_err-make_room-clause-unchanged : goal.returns-in_err-make_room-clause-unchanged
returns-in_err-make_room-clause-unchanged g c = on-err c.from_residual.result (λ told. still-row g.D.Disk.image c.args.servers.now c.args.log.now.events)
