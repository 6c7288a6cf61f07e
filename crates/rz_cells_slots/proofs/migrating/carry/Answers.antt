-- The same under the result with what is known of the new disk.
use Rattle.std.proofs.Common.{◌≡◌, ◌+◌, Err, refl, ap}
use Rattle.rz_cells_slots.specs.declared.migrating.MigrateFault.TheVariants.{NoMemory}
use Rattle.rz_cells_slots.specs.OldOpening.{old_opening_calls}
use Rattle.rz_cells_slots.specs.Copied.{copy_calls}
use Rattle.rz_cells_slots.proofs.Counts.{counted_under, none_planned}
use Rattle.rz_cells_slots.proofs.Meters.{took_under}
use Rattle.rz_cells_slots.proofs.migrating.carry.Goals as goal

pub returns-in-Err-clause-old_calls : goal.returns-in-Err-clause-old_calls
returns-in-Err-clause-old_calls g c n most =
    counted_under (old_opening_calls c.args.geometry.now + n) _ _ _ _ (g.D.Disk.meter c.args.old.now) (g.D.Disk.meter c.carry_into-carried.new.old) (λ ok. ok) (λ is. ap Err is) (c.in-Err.ensures.old_most refl n most)

pub returns-in-Err-clause-calls : goal.returns-in-Err-clause-calls
returns-in-Err-clause-calls g c n most =
    counted_under (copy_calls n) _ _ _ _ (g.D.Disk.meter c.args.new.now) (g.D.Disk.meter c.carry_into-carried.new.new) (λ ok. ok) (λ is. ap Err is) (c.in-Err.ensures.most refl n most)

pub returns-in-Err-clause-old_unplanned : goal.returns-in-Err-clause-old_unplanned
returns-in-Err-clause-old_unplanned g c is =
    let same : c.in-Err.fault ≡ NoMemory = cc (is) in
    none_planned (old_opening_calls c.args.geometry.now) (g.D.Disk.meter c.args.old.now) (g.D.Disk.meter c.carry_into-carried.new.old) (c.in-Err.ensures.old_opened (ap Err same)) c.carry_into-carried.ensures.read.lasts

pub returns-in-Err-clause-old_refused : goal.returns-in-Err-clause-old_refused
returns-in-Err-clause-old_refused g c fault is not_call =
    took_under (old_opening_calls c.args.geometry.now) _ _ (g.D.Disk.meter c.args.old.now) (g.D.Disk.meter c.carry_into-carried.new.old) (λ ok. ok) (c.in-Err.ensures.old_refused fault is not_call)
