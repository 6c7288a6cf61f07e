use Rattle.std.proofs.Common.{◌≡◌, ◌++◌, List, sym, subst}
use Rattle.std.specs.Prelude.{nat_eq, length}
use Rattle.std.specs.List.{IsDistinct, AllZip}
use Rattle.rz_events.specs.Volume.{Volume, nodes_of}
use Rattle.rz_events.specs.declared.events.Event.{Event}
use Rattle.rz_metadata.specs.Stands.{refusal_of}
use Rattle.rz_chronicle.specs.Kinds.{volume_in}
use Rattle.rz_shared_locked.specs.LockedExports.{AreMetadataOf, AreTextsOfBytes, faults_of}
use Rattle.rz_store_turns.specs.Closed.{IsDiskHere, IsDiskLeft}
use Rattle.rz_store_turns.proofs.Leaving.{distinct-rest, distinct-tail, left-all, here-all, metadata-at, texts-at}
use Rattle.rz_store_turns.proofs.Soles.{unmoved}
use Rattle.rz_store_turns.proofs.closing.taken_apart.Goals as goal

pub returns-clause-count : goal.returns-clause-count
returns-clause-count g c = subst (λ (v : Volume). length c.close_after-disks.result.disks.items ≡ length (nodes_of v.clusters)) c.requires.volume c.close_after-disks.ensures.count

pub returns-clause-disks : goal.returns-clause-disks
returns-clause-disks g c = λ legal.
    let e = c.settle.ensures in
    let it = c.close_after-disks.ensures in
    let kind = g.J.Naming.kind in
    let same = unmoved kind c.args.pass.keys c.args.pass.log c.settle.new.front.log c.added_alone.ensures c.requires.tokens c.actor-member.ensures.places e.later e.stays in
    let apart = distinct-tail _ _ (distinct-rest _ _ (subst (IsDistinct nat_eq) e.same.1 e.apart)) in
    let left = left-all g.D.Disk.meter g.D.Disk.image g.J.Metering.fixed kind g.J.Naming.earlier g.J.Metering.first legal c.settle.new.front.log _ _ (nodes_of c.args.cluster.clusters) it.returned e.settles.1 (it.order apart) in
    subst (λ (v : Volume). AllZip (IsDiskLeft g.D.Disk.image (volume_in kind) (c.args.pass.log ++ g.J.Naming.earlier)) (nodes_of v.clusters) c.close_after-disks.result.disks.items) c.requires.volume
    (subst (λ (h : List Event). AllZip (IsDiskLeft g.D.Disk.image (volume_in kind) (h ++ g.J.Naming.earlier)) (nodes_of c.args.cluster.clusters) c.close_after-disks.result.disks.items) same left)

pub returns-clause-here : goal.returns-clause-here
returns-clause-here g c = λ legal.
    let e = c.settle.ensures in
    let it = c.close_after-disks.ensures in
    let kind = g.J.Naming.kind in
    let same = unmoved kind c.args.pass.keys c.args.pass.log c.settle.new.front.log c.added_alone.ensures c.requires.tokens c.actor-member.ensures.places e.later e.stays in
    let apart = distinct-tail _ _ (distinct-rest _ _ (subst (IsDistinct nat_eq) e.same.1 e.apart)) in
    let here = here-all g.D.Disk.meter g.D.Disk.image g.J.Metering.fixed kind g.J.Naming.earlier g.J.Metering.first legal c.settle.new.front.log c.words_kept.ensures _ _ (nodes_of c.args.cluster.clusters) it.returned e.settles.1 (it.order apart) in
    subst (λ (v : Volume). AllZip (IsDiskHere (c.args.pass.log ++ g.J.Naming.earlier)) (nodes_of v.clusters) c.close_after-disks.result.disks.items) c.requires.volume
    (subst (λ (h : List Event). AllZip (IsDiskHere (h ++ g.J.Naming.earlier)) (nodes_of c.args.cluster.clusters) c.close_after-disks.result.disks.items) same here)

pub returns-clause-volume : goal.returns-clause-volume
returns-clause-volume g c = c.close_after-disks.ensures.volume

pub returns-clause-journal : goal.returns-clause-journal
returns-clause-journal g c = c.close_after-disks.ensures.journal

pub returns-clause-texts : goal.returns-clause-texts
returns-clause-texts g c = λ legal.
    let e = c.settle.ensures in
    let it = c.close_after-disks.ensures in
    let same = unmoved g.J.Naming.kind c.args.pass.keys c.args.pass.log c.settle.new.front.log c.added_alone.ensures c.requires.tokens c.actor-member.ensures.places e.later e.stays in
    subst (λ (h : List Event). AreTextsOfBytes (h ++ g.J.Naming.earlier)) same
    (texts-at g.J.Naming.earlier c.close_after-disks.result.desk.export c.settle.new.front.log it.export e.settles.0 (it.texts legal))

pub returns-clause-metadata : goal.returns-clause-metadata
returns-clause-metadata g c =
    let e = c.settle.ensures in
    let it = c.close_after-disks.ensures in
    let kind = g.J.Naming.kind in
    let same = unmoved kind c.args.pass.keys c.args.pass.log c.settle.new.front.log c.added_alone.ensures c.requires.tokens c.actor-member.ensures.places e.later e.stays in
    let m = c.close_after-disks.result.metadata in
    let there = metadata-at g.D.Disk.tells g.D.Disk.meter g.D.Disk.image (faults_of g.J.Metering.journal) kind g.J.Naming.earlier c.close_after-disks.result.desk.export m c.settle.new.front.log it.export e.settles.0 it.metadata in
    subst (λ (h : List Event). AreMetadataOf (refusal_of m) g.D.Disk.tells g.D.Disk.meter g.D.Disk.image (faults_of g.J.Metering.journal) kind (h ++ g.J.Naming.earlier) m) same there
