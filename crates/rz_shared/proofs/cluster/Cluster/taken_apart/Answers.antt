use Rattle.std.proofs.Common.{◌≡◌, ◌∙◌, List, length, map, sym, ap, subst, arith, vec_len}
use Rattle.std.specs.Prelude.{nat_eq}
use Rattle.std.specs.List.{IsDistinct}
use Rattle.rz_events.specs.Volume.{Volume}
use Rattle.rz_events.specs.declared.files.NodeSpec.{NodeSpec}
use Rattle.rz_events.specs.declared.events.Word.TheVariants as w
use Rattle.rz_events.specs.declared.events.Event.{Event}
use Rattle.rz_chronicle.specs.Keys.{sids_of}
use Rattle.rz_chronicle.specs.Rules.{WordTokenView}
use Rattle.rz_shared_locked.specs.LockedExports.{AreMetadataFrom, AreTextsFrom, faults_of}
use Rattle.rz_shared.specs.Arranged.{sids}
use Rattle.rz_shared.proofs.Ordered.{in-order}
use Rattle.rz_shared.proofs.cluster.Cluster.taken_apart.Goals as goal

pub arrange-all-requires-clause-apart : goal.arrange-all-requires-clause-apart
arrange-all-requires-clause-apart g c =
    subst (λ (ns : List NodeSpec). IsDistinct nat_eq (sids ns)) (sym (c.as_slice.ensures.value ∙ c.self.invariant.0)) c.self.invariant.3.distinct_sids

pub returns-clause-order : goal.returns-clause-order
returns-clause-order g c = λ apart.
    let nodes = ap length c.as_slice.ensures.value in
    let count = c.arrange-all.ensures.count in
    let all = c.unlock_all-locked_nodes.ensures.count in
    let locked_nodes : vec_len c.arrange-all.new.locked_nodes ≡ length c.arrange-all.new.locked_nodes.items = c.arrange-all.new.locked_nodes.ok.0 in
    let specs : vec_len c.self.inside.nodes ≡ length c.self.inside.nodes.items = c.self.inside.nodes.ok.0 in
    let locks = c.self.invariant.1 in
    in-order g.D.Disk.meter g.D.Disk.image g.J.Metering.fixed g.J.Naming.kind g.J.Naming.earlier g.J.Metering.first c.as_slice.result.now c.empty_all-disks.result.0.items c.empty_all-disks.result.1.items c.arrange-all.new.locked_nodes.items c.arrange-all.result (c.as_slice.ensures.value ∙ c.self.invariant.0)
    c.arrange-all.ensures.placed c.arrange-all.ensures.missing (omega (arith, nodes, count, all, locked_nodes, specs, locks)) c.empty_all-disks.ensures.words c.empty_all-disks.ensures.returned apart
    ∙ ap (λ (v : Volume). map w.Node (sids_of v)) c.self.view_is

pub returns-clause-metadata : goal.returns-clause-metadata
returns-clause-metadata g c =
    subst (λ (l : List Event). AreMetadataFrom g.D.Disk.tells g.D.Disk.meter g.D.Disk.image (faults_of g.J.Metering.journal) g.J.Naming.kind g.J.Naming.earlier l c.close-metadata.result.0)
    (sym (ap (λ (p : WordTokenView). p.log) c.close-metadata.ensures.word_token)) c.close-metadata.ensures.metadata

pub returns-clause-texts : goal.returns-clause-texts
returns-clause-texts g c = λ keeps.
    subst (AreTextsFrom g.J.Naming.earlier) (sym (ap (λ (p : WordTokenView). p.log) c.close-metadata.ensures.word_token)) (c.close-metadata.ensures.texts keeps)

pub returns-clause-home : goal.returns-clause-home
returns-clause-home g c =
    let count = c.empty_all-disks.ensures.count in
    let placed = c.arrange-all.ensures.count in
    let all = c.unlock_all-locked_nodes.ensures.count in
    let locks = c.self.invariant.2 in
    let room = c.room.invariant in
    let disks : vec_len c.empty_all-disks.result.0 ≡ length c.empty_all-disks.result.0.items = c.empty_all-disks.result.0.ok.0 in
    (room.4, λ fixed. (let low = room.5 fixed in omega (arith, count, placed, all, locks, disks, low)))
