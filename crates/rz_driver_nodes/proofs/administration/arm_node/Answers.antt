use Rattle.std.proofs.Common.{◌≡◌, ℕ, List, [], ◌∷◌, Some, ◌<◌, ◌∙◌, get_or, length, refl, sym, ap, rules}
use Rattle.std.proofs.lemmas.Option.{slice_get-get_or}
use Rattle.rz_events.specs.declared.events.Event.{Event}
use Rattle.rz_events.specs.declared.events.Event.TheVariants as e
use Rattle.rz_driver_nodes.proofs.MeterLemmas.{metered-counts, still-err, order-held, order-left, sid-at}
use Rattle.rz_driver_nodes.proofs.Rows.{at-within}
use Rattle.rz_driver_nodes.proofs.OrderCoherence.{row-keeps, still-row}
use Rattle.rz_driver_nodes.proofs.CoherenceLemmas.{on-err}
use Rattle.rz_driver_nodes.proofs.administration.arm_node.Goals as goal

pub offset_bounds-servers-place : goal.offset_bounds-servers-place
offset_bounds-servers-place g c = let low : c.in-Some.place < length c.args.servers.now = at-within c.args.servers.now c.args.sid c.in-Some.place c.in-Some.ensures in search rules

pub bounds-servers-place : goal.bounds-servers-place
bounds-servers-place g c = at-within c.args.servers.now c.args.sid c.in-Some.place c.in-Some.ensures

pub returns-clause-ok : goal.returns-clause-ok
returns-clause-ok g c =
    let low = at-within c.args.servers.now c.args.sid c.in-Some.place c.in-Some.ensures in
    let h : c.note.new.self.events ≡ e.Armed c.args.sid c.args.passes c.args.pick ∷ c.make_room.new.self.events = c.note.ensures.noted in (record {
      place = c.in-Some.place;
      server = get_or c.args.servers.now c.in-Some.place c.index-servers-place.result;
      after = c.arm.new.server;
      at = c.in-Some.ensures;
      is = slice_get-get_or c.args.servers.now c.in-Some.place c.index-servers-place.result low;
      servers = refl;
      armed = c.arm.ensures.armed;
      log_is = h ∙ ap (λ (rest : List Event). e.Armed c.args.sid c.args.passes c.args.pick ∷ rest) c.make_room.ensures.same;
    })

pub returns-clause-held : goal.returns-clause-held
returns-clause-held g c =
    let row = c.args.servers.now in
    let low = at-within row c.args.sid c.in-Some.place c.in-Some.ensures in
    let s = get_or row c.in-Some.place c.index-servers-place.result in
    let at = slice_get-get_or row c.in-Some.place c.index-servers-place.result low in
    let named = sid-at row c.args.sid c.in-Some.place s c.in-Some.ensures at in
    let h : c.note.new.self.events ≡ e.Armed c.args.sid c.args.passes c.args.pick ∷ c.make_room.new.self.events = c.note.ensures.noted in (λ numbers first met.
    let log_is = h ∙ ap (λ (rest : List Event). e.Armed c.args.sid c.args.passes c.args.pick ∷ rest) c.make_room.ensures.same
    ∙ ap (λ (n : ℕ). e.Armed n c.args.passes c.args.pick ∷ c.args.log.now.events) (sym named) in
    order-held g.D.Disk.meter first numbers row c.in-Some.place s c.arm.new.server (Some (e.Armed s.sid c.args.passes c.args.pick)) c.args.log.now.events c.note.new.self.events at c.arm.ensures.armed.sid c.arm.ensures.metered log_is met)

pub returns-in_default-clause-left : goal.returns-in_default-clause-left
returns-in_default-clause-left g c = λ numbers first met. metered-counts g.D.Disk.meter first numbers c.args.servers.now c.args.log.now.events met

pub returns-in_err-make_room-clause-left : goal.returns-in_err-make_room-clause-left
returns-in_err-make_room-clause-left g c = still-err c.from_residual.result g.D.Disk.meter c.args.servers.now c.args.log.now.events c.make_room.new.self.events c.make_room.ensures.same

-- Beside the log.

pub returns-clause-coherent : goal.returns-clause-coherent
returns-clause-coherent g c =
    let row = c.args.servers.now in
    let low = at-within row c.args.sid c.in-Some.place c.in-Some.ensures in
    let s = get_or row c.in-Some.place c.index-servers-place.result in
    let at = slice_get-get_or row c.in-Some.place c.index-servers-place.result low in
    let x : Event = e.Armed c.args.sid c.args.passes c.args.pick in
    let h : c.note.new.self.events ≡ x ∷ c.make_room.new.self.events = c.note.ensures.noted in (λ told.
    row-keeps g.D.Disk.image row c.in-Some.place s c.arm.new.server at (c.arm.ensures.images told) c.args.log.now.events c.longer.ensures c.note.new.self.events
    (x ∷ [], h ∙ ap (λ (rest : List Event). x ∷ rest) c.make_room.ensures.same))

pub returns-in_default-clause-unchanged : goal.returns-in_default-clause-unchanged
returns-in_default-clause-unchanged g c = λ told. still-row g.D.Disk.image c.args.servers.now c.args.log.now.events

pub returns-in_err-make_room-clause-unchanged : goal.returns-in_err-make_room-clause-unchanged
returns-in_err-make_room-clause-unchanged g c = on-err c.from_residual.result (λ told. still-row g.D.Disk.image c.args.servers.now c.args.log.now.events)
