use Rattle.std.proofs.Common.{subst}
use Rattle.std.specs.Prelude.{nat_eq}
use Rattle.std.specs.List.{IsDistinct}
use Rattle.rz_chronicle.specs.Keys.{sids_of}
use Rattle.rz_threads.proofs.Leaving.{distinct-rest, distinct-tail, left-all}
use Rattle.rz_threads.proofs.Tallies.{desk-keys}
use Rattle.rz_threads.proofs.playing.settled.Goals as goal

pub returns-clause-goes : goal.returns-clause-goes
returns-clause-goes g c = let e = c.settle.ensures in record { actor = e.same.0; more = _; keys = e.same.1; stays = e.stays; later = e.later }

pub returns-clause-keys : goal.returns-clause-keys
returns-clause-keys g c =
    let e = c.settle.ensures in
    let it = c.close-disks.ensures in
    let apart = distinct-tail _ _ (distinct-rest _ _ (subst (IsDistinct nat_eq) e.same.1 e.apart)) in
    desk-keys c.args.front.now.keys c.settle.new.front.keys c.close-disks.result.1.export c.close-disks.result.1.nodes.items (sids_of c.args.cluster) e.same.1 it.export (it.order apart)

pub returns-clause-disks : goal.returns-clause-disks
returns-clause-disks g c =
    let e = c.settle.ensures in
    let it = c.close-disks.ensures in
    let apart = distinct-tail _ _ (distinct-rest _ _ (subst (IsDistinct nat_eq) e.same.1 e.apart)) in
    left-all g.D.Disk.meter g.D.Disk.image g.J.Naming.kind g.J.Naming.earlier g.met.J.Counting.anew g.J.Metering.first _ _ _ _ it.returned e.settles.1 (it.order apart)
