-- Both disks hold the same cells.
use Rattle.std.proofs.Common.{◌+◌, refl, sym, subst}
use Rattle.rz_cells_slots.specs.Old.{CarriesOver}
use Rattle.rz_cells_slots.specs.Held.{count_held}
use Rattle.rz_cells_slots.specs.OldOpening.{old_opening_calls}
use Rattle.rz_cells_slots.specs.Copied.{copy_calls}
use Rattle.rz_cells_slots.proofs.Carried.{carried, found, over}
use Rattle.rz_cells_slots.proofs.Counts.{counted_under}
use Rattle.rz_cells_slots.proofs.Meters.{took_under}
use Rattle.rz_cells_slots.proofs.OldOpened.{only_old_faults}
use Rattle.rz_cells.proofs.cells.Cells.migrate.Goals as goal

pub returns-in-Ok-clause-carried : goal.returns-in-Ok-clause-carried
returns-in-Ok-clause-carried g c told =
    carried c.args.geometry c.in-Ok.fence (g.D.Disk.text c.args.old.now) (g.D.Disk.text c.carry.new.new) (c.in-Ok.ensures.pairs told)

pub returns-in-Ok-clause-found : goal.returns-in-Ok-clause-found
returns-in-Ok-clause-found g c told =
    found c.args.geometry c.in-Ok.fence (g.D.Disk.text c.args.old.now) (g.D.Disk.text c.carry.new.new) (c.in-Ok.ensures.pairs told)

pub returns-in-Ok-clause-crash : goal.returns-in-Ok-clause-crash
returns-in-Ok-clause-crash g c told t left =
    subst (CarriesOver c.args.geometry (g.D.Disk.text c.args.old.now)) (sym (c.in-Ok.ensures.open.settled t left))
    (over c.args.geometry c.in-Ok.fence (g.D.Disk.text c.args.old.now) (g.D.Disk.text c.carry.new.new) (c.in-Ok.ensures.pairs told))

pub returns-in-Err-clause-exact : goal.returns-in-Err-clause-exact
returns-in-Err-clause-exact g c fault is told fence held stands =
    only_old_faults c.args.geometry fence (g.D.Disk.text c.args.old.now) held stands fault (c.in-Err.ensures.old_fault fault is told)

pub returns-in-Ok-clause-old_calls : goal.returns-in-Ok-clause-old_calls
returns-in-Ok-clause-old_calls g c = counted_under (old_opening_calls c.args.geometry + count_held c.in-Ok.room.heads) _ _ _ _ (g.D.Disk.meter c.args.old.now) (g.D.Disk.meter c.carry.new.old) (λ ok. refl) (λ never. absurd never) c.in-Ok.ensures.old_calls

pub returns-in-Ok-clause-calls : goal.returns-in-Ok-clause-calls
returns-in-Ok-clause-calls g c = counted_under (copy_calls (count_held c.in-Ok.room.heads)) _ _ _ _ (g.D.Disk.meter c.args.new) (g.D.Disk.meter c.carry.new.new) (λ ok. refl) (λ never. absurd never) c.in-Ok.ensures.calls

pub returns-in-Err-clause-old_calls : goal.returns-in-Err-clause-old_calls
returns-in-Err-clause-old_calls g c n most = counted_under (old_opening_calls c.args.geometry + n) _ _ _ _ (g.D.Disk.meter c.args.old.now) (g.D.Disk.meter c.carry.new.old) (λ ok. ok) (λ is. is) (c.in-Err.ensures.old_calls n most)

pub returns-in-Err-clause-calls : goal.returns-in-Err-clause-calls
returns-in-Err-clause-calls g c n most = counted_under (copy_calls n) _ _ _ _ (g.D.Disk.meter c.args.new) (g.D.Disk.meter c.carry.new.new) (λ ok. ok) (λ is. is) (c.in-Err.ensures.calls n most)

pub returns-in-Err-clause-old_refused : goal.returns-in-Err-clause-old_refused
returns-in-Err-clause-old_refused g c fault is not_call = took_under (old_opening_calls c.args.geometry) _ _ (g.D.Disk.meter c.args.old.now) (g.D.Disk.meter c.carry.new.old) (λ ok. ok) (c.in-Err.ensures.old_refused fault is not_call)
