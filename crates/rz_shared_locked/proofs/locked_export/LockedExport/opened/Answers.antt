use Rattle.std.proofs.Common.{◌≡◌, List, [], ◌++◌, Some, None, sym, ap, subst}
use Rattle.rz_events.specs.declared.events.Word.TheVariants as w
use Rattle.rz_events.specs.declared.events.Event.{Event}
use Rattle.rz_metadata.specs.Stands.{refusal_of}
use Rattle.rz_chronicle.specs.Rules.{WordTokenView}
use Rattle.rz_shared_locked.specs.LockedExports.{AreTextsOfBytes, AreMetadataOf, faults_of}
use Rattle.rz_shared_locked.proofs.Texts.{bytes-none}
use Rattle.rz_shared_locked.proofs.Journaled.{opened-metadata}
use Rattle.rz_shared_locked.proofs.locked_export.LockedExport.opened.Goals as goal

pub invariant_of-result : goal.invariant_of-result
invariant_of-result g c =
    let disk = g.D.Disk in
    let kind = g.J.Naming.kind in
    let earlier = g.J.Naming.earlier in
    let m = c.args.metadata in
    let empty : c.args.word_token.log ≡ [] = ap (λ (p : WordTokenView). p.log) c.requires.word_token in (
      ap (λ (p : WordTokenView). p.word) c.requires.word_token,
      c.requires.volume,
      c.requires.journal,
      subst (λ (h : List Event). AreMetadataOf (refusal_of m) disk.tells disk.meter disk.image (faults_of g.J.Metering.journal) kind (h ++ earlier) m) (sym empty)
          (opened-metadata disk.tells disk.meter disk.image (faults_of g.J.Metering.journal) kind earlier m
          (record { is_open = c.requires.open; tied = c.requires.tied; stands = c.requires.stands })),
      c.requires.counted,
      subst AreTextsOfBytes (sym empty) bytes-none,
      c.requires.bytes,
    )
