use Rattle.std.proofs.Common.{List, subst}
use Rattle.rz_events.specs.declared.events.Event.{Event}
use Rattle.rz_metadata.specs.Stands.{refusal_of}
use Rattle.rz_chronicle.specs.Kinds.{volume_in}
use Rattle.rz_shared_locked.specs.LockedExports.{AreMetadataFrom, AreTextsFrom, faults_of}
use Rattle.rz_shared_locked.proofs.Texts.{bytes-same, bytes-behind}
use Rattle.rz_shared_locked.proofs.Journaled.{metadata-kept}
use Rattle.rz_shared_locked.proofs.locked_export.LockedExport.close.Goals as goal

pub returns-clause-metadata : goal.returns-clause-metadata
returns-clause-metadata g c =
    let kind = g.J.Naming.kind in
    let v = volume_in kind in
    let earlier = g.J.Naming.earlier in
    let disk = g.D.Disk in
    let m = c.self.inside.metadata in
    let old = c.self.inside.word_token.log in
    let from : AreMetadataFrom disk.tells disk.meter disk.image (faults_of g.J.Metering.journal) kind earlier old m = λ new later same.
    metadata-kept disk.tells disk.meter disk.image (faults_of g.J.Metering.journal) kind earlier old new m (c.locked_export_kept.ensures v) (c.calls_kept.ensures v)
    (λ keeps. c.one_rule.ensures.legal kind earlier old c.room-fit.ensures.earlier keeps (c.room-fit.ensures.fit, c.room-fit.ensures.after)) later same (refusal_of m) c.self.invariant.3 in
    subst (λ (l : List Event). AreMetadataFrom disk.tells disk.meter disk.image (faults_of g.J.Metering.journal) kind earlier l m) c.self.view_is from

pub returns-clause-texts : goal.returns-clause-texts
returns-clause-texts g c = λ keeps.
    let earlier = g.J.Naming.earlier in
    let old = c.self.inside.word_token.log in
    let from : AreTextsFrom earlier old = λ new later same. bytes-behind new earlier (bytes-same old new same c.self.invariant.5) (c.self.invariant.6 keeps) in
    subst (AreTextsFrom earlier) c.self.view_is from
