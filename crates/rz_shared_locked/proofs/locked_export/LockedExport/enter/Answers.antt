use Rattle.std.proofs.Common.{◌≡◌, ◌∙◌, List, ◌++◌, refl, sym, subst, inl}
use Rattle.rz_events.specs.declared.events.Word.{Word}
use Rattle.rz_events.specs.declared.events.Word.TheVariants as w
use Rattle.rz_events.specs.declared.events.Event.{Event}
use Rattle.rz_metadata.specs.Stands.{refusal_of}
use Rattle.rz_chronicle.specs.Keys.{events_at, word_key}
use Rattle.rz_chronicle.specs.Kinds.{volume_in}
use Rattle.rz_shared_locked.specs.LockedExports.{AreTextsOfBytes, AreMetadataOf, faults_of}
use Rattle.rz_shared_locked.proofs.Texts.{bytes-same}
use Rattle.rz_shared_locked.proofs.Journaled.{metadata-kept}
use Rattle.rz_shared_locked.proofs.locked_export.LockedExport.enter.Goals as goal

pub invariant_of-self : goal.invariant_of-self
invariant_of-self g c =
    let kind = g.J.Naming.kind in
    let v = volume_in kind in
    let earlier = g.J.Naming.earlier in
    let disk = g.D.Disk in
    let m = c.self.inside.metadata in
    let inv = c.self.invariant in
    let old = c.self.inside.word_token.log in
    let new = c.enter.new.pass.log in
    let same : events_at (word_key w.Export) new ≡ events_at (word_key w.Export) old =
    subst (λ (u : Word). events_at (word_key u) new ≡ events_at (word_key u) old) inv.0 (c.enter.ensures.serves (word_key c.self.inside.word_token.word) (inl refl)) in (
      c.enter.ensures.same.2 ∙ inv.0,
      inv.1,
      inv.2,
      subst (λ (l : List Event). AreMetadataOf (refusal_of m) disk.tells disk.meter disk.image (faults_of g.J.Metering.journal) kind (l ++ earlier) m) (sym c.enter.ensures.one)
          (metadata-kept disk.tells disk.meter disk.image (faults_of g.J.Metering.journal) kind earlier old new m (c.locked_export_kept.ensures v) (c.calls_kept.ensures v)
          (λ keeps. c.one_rule.ensures.legal kind earlier old c.room-fit.ensures.earlier keeps (c.room-fit.ensures.fit, c.room-fit.ensures.after))
          c.enter.ensures.later.1 same (refusal_of m) inv.3),
      inv.4,
      subst AreTextsOfBytes (sym c.enter.ensures.one) (bytes-same old new same inv.5),
      inv.6,
    )
