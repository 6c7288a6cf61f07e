-- The bytes of a record spell it in the slot.
use Rattle.std.proofs.Common.{rules, ◌≡◌, ◌-◌, ◌%◌, Option, Some, Ok, is_ok, IsErr, List, set, refl, sym, ◌∙◌, ap, subst, arith}
use Rattle.rz_events.specs.declared.records.Head.{Head}
use Rattle.rz_record.specs.Record.{IsValid}
use Rattle.rz_record.specs.Slot.{Rec}
use Rattle.rz_cells_slots.specs.Held.{Goes}
use Rattle.rz_cells_slots.specs.Open.{IsOpen}
use Rattle.rz_cells_slots.proofs.Meters.{counted_failed, counted_ok}
use Rattle.rz_cells_slots.proofs.Lifts.{fits_slot, some_is, spelled, suits_one, stands_either, stands_changed, open_after}
use Rattle.rz_cells.proofs.cells.Cells.put.Goals as goal

pub spell-size-requires-clause-room : goal.spell-size-requires-clause-room
spell-size-requires-clause-room g c =
    let s = c.args.self.now in
    let room = fits_slot s.geometry c.args.head.now c.requires.valid c.requires.layout in
    omega (arith, room, s.buffer_fits)

pub set-requires-clause-key : goal.set-requires-clause-key
set-requires-clause-key g c h k d is ne pair there =
    some_is (λ (x : Head). k.key ≡ x.key) c.args.head.now h is (c.requires.goes.one_key d k ne there pair)

pub returns-clause-open : goal.returns-clause-open
returns-clause-open g c =
    let s = c.args.self.now in
    let r : Rec = record { head = c.args.head.now; bins = c.args.bins.now } in
    let spells = spelled s.geometry r c.spell-size.result c.spell-size.new.buffer.items c.deref.result.now c.requires.valid c.requires.layout c.spell-size.ensures.size (c.spell-size.ensures.length ∙ s.buffer_fits) c.spell-size.ensures.record c.deref.ensures.value in
    subst (λ (hs : List (Option Head)). IsOpen g.D.Disk.tells (g.D.Disk.text c.switch.new.disk) (g.D.Disk.image c.switch.new.disk) c.args.self.now.geometry c.args.self.now.fence (set c.args.self.now.gates.items c.args.cell (1 - c.index-gate.result.now % 2)) hs) (sym c.set.ensures)
    (open_after g.D.Disk.tells (g.D.Disk.text s.disk) (g.D.Disk.text c.switch.new.disk) (g.D.Disk.image s.disk) (g.D.Disk.image c.switch.new.disk) s.geometry s.fence s.gates.items (set s.gates.items c.args.cell (1 - c.index-gate.result.now % 2)) s.heads c.args.cell (Some r) c.requires.cell
    c.requires.open c.in_ok-switch.ensures.settled c.switch.ensures.size
    (λ h is. some_is (Goes s.heads c.args.cell) c.args.head.now h is c.requires.goes)
    (λ h is. some_is IsValid c.args.head.now h is c.requires.valid)
    (λ h is. some_is (λ (k : Head). k.layout ≡ s.geometry.layout) c.args.head.now h is c.requires.layout)
    (λ told. c.in_ok-switch.ensures.done told s.fence (Some r) spells (suits_one s.geometry r c.requires.layout))
    (λ told. c.in_ok-switch.ensures.gates told s.gates.items s.gates_fit (c.requires.open.known told)))

pub returns-in_err-switch-clause-crash : goal.returns-in_err-switch-clause-crash
returns-in_err-switch-clause-crash g c told =
    let s = c.args.self.now in
    let r : Rec = record { head = c.args.head.now; bins = c.args.bins.now } in
    let spells = spelled s.geometry r c.spell-size.result c.spell-size.new.buffer.items c.deref.result.now c.requires.valid c.requires.layout c.spell-size.ensures.size (c.spell-size.ensures.length ∙ s.buffer_fits) c.spell-size.ensures.record c.deref.ensures.value in
    let held = c.switch.ensures.crash told s.fence (Some r) spells (suits_one s.geometry r c.requires.layout) in
    record {
      cells = held;
      records = stands_either s.geometry s.fence (g.D.Disk.text s.disk) s.heads (c.requires.open.holds told) c.args.cell (Some r) c.requires.cell (λ h is. some_is (Goes s.heads c.args.cell) c.args.head.now h is c.requires.goes) (g.D.Disk.image c.switch.new.disk) held;
    }

pub returns-clause-crash : goal.returns-clause-crash
returns-clause-crash g c told =
    let s = c.args.self.now in
    let r : Rec = record { head = c.args.head.now; bins = c.args.bins.now } in
    let spells = spelled s.geometry r c.spell-size.result c.spell-size.new.buffer.items c.deref.result.now c.requires.valid c.requires.layout c.spell-size.ensures.size (c.spell-size.ensures.length ∙ s.buffer_fits) c.spell-size.ensures.record c.deref.ensures.value in
    let held = c.switch.ensures.crash told s.fence (Some r) spells (suits_one s.geometry r c.requires.layout) in
    record {
      cells = held;
      records = stands_either s.geometry s.fence (g.D.Disk.text s.disk) s.heads (c.requires.open.holds told) c.args.cell (Some r) c.requires.cell (λ h is. some_is (Goes s.heads c.args.cell) c.args.head.now h is c.requires.goes) (g.D.Disk.image c.switch.new.disk) held;
    }

pub returns-clause-done : goal.returns-clause-done
returns-clause-done g c told =
    let s = c.args.self.now in
    let r : Rec = record { head = c.args.head.now; bins = c.args.bins.now } in
    let spells = spelled s.geometry r c.spell-size.result c.spell-size.new.buffer.items c.deref.result.now c.requires.valid c.requires.layout c.spell-size.ensures.size (c.spell-size.ensures.length ∙ s.buffer_fits) c.spell-size.ensures.record c.deref.ensures.value in
    let held = c.in_ok-switch.ensures.done told s.fence (Some r) spells (suits_one s.geometry r c.requires.layout) in
    record {
      cells = held;
      records = stands_changed s.geometry s.fence (g.D.Disk.text s.disk) s.heads (c.requires.open.holds told) c.args.cell (Some r) c.requires.cell (λ h is. some_is (Goes s.heads c.args.cell) c.args.head.now h is c.requires.goes) (g.D.Disk.text c.switch.new.disk) held;
    }

pub returns-in_err-switch-clause-meter : goal.returns-in_err-switch-clause-meter
returns-in_err-switch-clause-meter g c =
    let failed : IsErr c.from_residual.result = search rules in
    counted_failed 4 4 c.switch.result c.from_residual.result (g.D.Disk.meter c.args.self.now.disk) (g.D.Disk.meter c.switch.new.disk) (omega arith) failed c.switch.ensures.meter.took c.switch.ensures.meter.lasts
    (c.in_err-switch.ensures.meter.risen refl) (c.in_err-switch.ensures.meter.own_risen refl)

pub returns-clause-meter : goal.returns-clause-meter
returns-clause-meter g c =
    counted_ok 4 c.switch.result tt (g.D.Disk.meter c.args.self.now.disk) (g.D.Disk.meter c.switch.new.disk) (ap is_ok c.in_ok-switch.was) c.switch.ensures.meter
