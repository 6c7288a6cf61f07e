-- Eight zeros spell no record.
use Rattle.std.proofs.Common.{rules, ◌≡◌, ◌-◌, ◌%◌, Option, Some, None, Ok, is_ok, IsErr, List, set, refl, sym, ap, subst, arith}
use Rattle.rz_events.specs.declared.records.Head.{Head}
use Rattle.rz_record.specs.Slot.{Rec}
use Rattle.rz_cells_slots.specs.Open.{IsOpen}
use Rattle.rz_cells_slots.proofs.Meters.{counted_failed, counted_ok}
use Rattle.rz_cells_slots.proofs.Lifts.{slot_long, zeros_spell, stands_either, stands_changed, open_after}
use Rattle.rz_cells.proofs.cells.Cells.clear.Goals as goal

no_suit : (r : Rec) (P : Type 0) → None ≡ Some r → P
no_suit r P is = absurd (cc)

no_head : (h : Head) (P : Type 0) → None ≡ Some h → P
no_head h P is = absurd (cc)

pub switch-requires-clause-long : goal.switch-requires-clause-long
switch-requires-clause-long g c = let long = slot_long c.args.self.now.geometry in omega (arith, long)

pub returns-clause-open : goal.returns-clause-open
returns-clause-open g c =
    let s = c.args.self.now in
    subst (λ (hs : List (Option Head)). IsOpen g.D.Disk.tells (g.D.Disk.text c.switch.new.disk) (g.D.Disk.image c.switch.new.disk) c.args.self.now.geometry c.args.self.now.fence (set c.args.self.now.gates.items c.args.cell (1 - c.index-gate.result.now % 2)) hs) (sym c.set.ensures)
    (open_after g.D.Disk.tells (g.D.Disk.text s.disk) (g.D.Disk.text c.switch.new.disk) (g.D.Disk.image s.disk) (g.D.Disk.image c.switch.new.disk) s.geometry s.fence s.gates.items (set s.gates.items c.args.cell (1 - c.index-gate.result.now % 2)) s.heads c.args.cell None c.requires.cell
    c.requires.open c.in_ok-switch.ensures.settled c.switch.ensures.size (λ h is. no_head h _ is) (λ h is. no_head h _ is) (λ h is. no_head h _ is)
    (λ told. c.in_ok-switch.ensures.done told s.fence None (zeros_spell _) (λ r is. no_suit r _ is))
    (λ told. c.in_ok-switch.ensures.gates told s.gates.items (omega arith) (c.requires.open.known told)))

pub returns-in_err-switch-clause-crash : goal.returns-in_err-switch-clause-crash
returns-in_err-switch-clause-crash g c told =
    let s = c.args.self.now in
    let held = c.switch.ensures.crash told s.fence None (zeros_spell _) (λ r is. no_suit r _ is) in
    record {
      cells = held;
      records = stands_either s.geometry s.fence (g.D.Disk.text s.disk) s.heads (c.requires.open.holds told) c.args.cell None c.requires.cell (λ h is. no_head h _ is) (g.D.Disk.image c.switch.new.disk) held;
    }

pub returns-clause-crash : goal.returns-clause-crash
returns-clause-crash g c told =
    let s = c.args.self.now in
    let held = c.switch.ensures.crash told s.fence None (zeros_spell _) (λ r is. no_suit r _ is) in
    record {
      cells = held;
      records = stands_either s.geometry s.fence (g.D.Disk.text s.disk) s.heads (c.requires.open.holds told) c.args.cell None c.requires.cell (λ h is. no_head h _ is) (g.D.Disk.image c.switch.new.disk) held;
    }

pub returns-clause-done : goal.returns-clause-done
returns-clause-done g c told =
    let s = c.args.self.now in
    let held = c.in_ok-switch.ensures.done told s.fence None (zeros_spell _) (λ r is. no_suit r _ is) in
    record {
      cells = held;
      records = stands_changed s.geometry s.fence (g.D.Disk.text s.disk) s.heads (c.requires.open.holds told) c.args.cell None c.requires.cell (λ h is. no_head h _ is) (g.D.Disk.text c.switch.new.disk) held;
    }

pub returns-in_err-switch-clause-meter : goal.returns-in_err-switch-clause-meter
returns-in_err-switch-clause-meter g c =
    let failed : IsErr c.from_residual.result = search rules in
    counted_failed 4 4 c.switch.result c.from_residual.result (g.D.Disk.meter c.args.self.now.disk) (g.D.Disk.meter c.switch.new.disk) (omega arith) failed c.switch.ensures.meter.took c.switch.ensures.meter.lasts
    (c.in_err-switch.ensures.meter.risen refl) (c.in_err-switch.ensures.meter.own_risen refl)

pub returns-clause-meter : goal.returns-clause-meter
returns-clause-meter g c =
    counted_ok 4 c.switch.result tt (g.D.Disk.meter c.args.self.now.disk) (g.D.Disk.meter c.switch.new.disk) (ap is_ok c.in_ok-switch.was) c.switch.ensures.meter
