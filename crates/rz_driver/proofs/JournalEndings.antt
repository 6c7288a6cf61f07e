-- For which calls a journal's disk stands that is handed back.
use Rattle.std.proofs.Common.{◌≡◌, ◌≢◌, ℕ, Bool, IsTrue, List, Option, Some, None, refl, sym, ◌∙◌, ap, subst}
use Rattle.rz_disk.specs.Meter.{Meter, Rises, faults}
use Rattle.rz_events.specs.Volume.{Volume}
use Rattle.rz_events.specs.declared.export.Call.{Call}
use Rattle.rz_events.specs.declared.events.Event.{Event}
use Rattle.rz_export_model.specs.Export.{Export, new_export}
use Rattle.rz_journal.specs.JournalText.{after_all}
use Rattle.rz_journal.specs.Kept.{AllStandFor, AllStandForEither}
use Rattle.rz_metadata.specs.declared.journaled.Journaled.{Journaled as Behind}
use Rattle.rz_metadata.specs.declared.journaled.JournalRefusal.{JournalRefusal}
use Rattle.rz_metadata.specs.declared.journaled.JournalRefusal.TheVariants.{Full, Failed}
use Rattle.rz_metadata.specs.declared.metadata.Metadata.{Metadata}
use Rattle.rz_metadata.specs.declared.metadata.Metadata.TheVariants.{InMemory, Journaled}
use Rattle.rz_metadata.specs.Stands.{CountsFaults, export_in, disk_of, refusal_of, IsJournalKept, IsLeftBy, OverfillsHalf, Stands}
use Rattle.rz_metadata.specs.Journals.{EndsWith, IsRefused}
use Rattle.rz_driver.specs.Endings.{AreCallsOf, StandFor, StandForEither, StandsForLog, EndsFor, EndsAsRefused}
use Rattle.rz_driver.specs.Journals.{KeepsLog, EndsLog}
use Rattle.rz_driver.proofs.KeptCalls.{exactly}

the-disk : {D : Type 0} (x y : D) → Some x ≡ Some y → x ≡ y
the-disk x y is = cc

module _ (image : List ℕ → Type 0) (s : Export) (v : Volume) (volume : s.volume ≡ v) (calls : List Call) where
  for-volume : AllStandFor image s calls → StandFor image v calls
  for-volume all = subst (λ (u : Volume). StandFor image u calls) volume all

  either-for-volume : (c : Call) → AllStandForEither image s calls c → StandForEither image v calls c
  either-for-volume c all = subst (λ (u : Volume). StandForEither image u calls c) volume all

  -- it refused one more call
  left-for : (tells : Bool) (first now : ℕ) (c : Call) (kept : Type 0) (why : Option JournalRefusal) → IsRefused why (Some c) → IsLeftBy why kept tells image first now s calls c → EndsFor why (Some c) tells image first now v calls
  left-for tells first now c kept None refused left = cc
  left-for tells first now c kept (Some Full) refused left = (
    subst (λ (x : Export). OverfillsHalf x c) (left.0.made ∙ ap (λ (u : Volume). after_all (new_export u 0) calls) volume) left.1,
    λ told. for-volume (left.2 told),
  )
  left-for tells first now c kept (Some Failed) refused left = (left.0, λ told. either-for-volume c (left.1 told))

module _ {D : Type 0} (tells : Bool) (meter : D → Meter) (image : D → List ℕ → Type 0) (first : ℕ) (v : Volume) (h : List Event) where
  kept-so : (j : Behind D) → j.journal.export.volume ≡ v → KeepsLog tells meter image first (Journaled j) h → IsTrue tells → StandsForLog (image j.journal.disk) v h
  kept-so j volume keeps told =
      let kept : IsJournalKept tells meter image first j keeps.0 = keeps.2 in
      subst (StandFor (image j.journal.disk) v) (exactly tells told h keeps.0 keeps.1) (for-volume (image j.journal.disk) j.journal.export v volume keeps.0 (kept.images told))

  -- between two turns
  pub stands-closed : (m : Metadata D) (disk : D) → (export_in m).volume ≡ v → disk_of m ≡ Some disk → KeepsLog tells meter image first m h → IsTrue tells → StandsForLog (image disk) v h
  stands-closed (InMemory s) disk volume is keeps told = absurd (cc)
  stands-closed (Journaled j) disk volume is keeps told = subst (λ (d : D). StandsForLog (image d) v h) (the-disk j.journal.disk disk is) (kept-so j volume keeps told)

  module _ (j : Behind D) (volume : j.journal.export.volume ≡ v) (calls : List Call) (tell : AreCallsOf tells h calls) where
    abbrev here : List ℕ → Type 0
    here = image j.journal.disk

    -- it refused none
    kept-ends : IsJournalKept tells meter image first j calls → EndsAsRefused j.refusal None tells here first (faults (meter j.journal.disk)) v h
    kept-ends kept = subst (λ (why : Option JournalRefusal). EndsAsRefused why None tells here first (faults (meter j.journal.disk)) v h) (sym kept.unrefused) (record {
      calls = calls;
      calls_are = tell;
      ends = λ told. for-volume here j.journal.export v volume calls (kept.images told);
    })

    ended-so : (refused : Option Call) → IsRefused j.refusal refused → EndsWith tells meter image first (Journaled j) refused calls → EndsAsRefused j.refusal refused tells here first (faults (meter j.journal.disk)) v h
    ended-so None is kept = kept-ends kept
    ended-so (Some c) is left = record {
      calls = calls;
      calls_are = tell;
      ends = left-for here j.journal.export v volume calls tells first (faults (meter j.journal.disk)) c (IsJournalKept tells meter image first j calls) j.refusal is left;
    }

  -- where a play ended
  pub ends-closed : (m : Metadata D) (refused : Option Call) (disk : D) → IsRefused (refusal_of m) refused → (export_in m).volume ≡ v → disk_of m ≡ Some disk → EndsLog tells meter image first m refused h
      → EndsAsRefused (refusal_of m) refused tells (image disk) first (faults (meter disk)) v h
  ends-closed (InMemory s) refused disk why volume is ends = absurd (cc)
  ends-closed (Journaled j) refused disk why volume is ends =
      subst (λ (d : D). EndsAsRefused j.refusal refused tells (image d) first (faults (meter d)) v h) (the-disk j.journal.disk disk is) (ended-so j volume ends.0 ends.1 refused why ends.2)

-- but where its disk failed it stands for the calls of the log
pub whole-stands : (why : Option JournalRefusal) (refused : Option Call) (tells : Bool) (image : List ℕ → Type 0) (first now : ℕ) (v : Volume) (h : List Event) → why ≢ Some Failed → EndsAsRefused why refused tells image first now v h → IsTrue tells
    → StandsForLog image v h
whole-stands why refused tells image first now v h whole ended told = subst (StandFor image v) (exactly tells told h ended.calls ended.calls_are) (by why refused whole ended.ends)
  where
    by : (o : Option JournalRefusal) (c : Option Call) → o ≢ Some Failed → EndsFor o c tells image first now v ended.calls → StandFor image v ended.calls
    by None None other ends = ends told
    by None (Some c) other ends = absurd ends
    by (Some Full) None other ends = absurd ends
    by (Some Full) (Some c) other ends = ends.1 told
    by (Some Failed) c other ends = absurd (other refl)

-- one that stands refused nothing
pub stands-refused : {D : Type 0} (tells : Bool) (meter : D → Meter) (image : D → List ℕ → Type 0) (first : ℕ) (m : Metadata D) (calls : List Call) → Stands tells meter image first m calls → IsRefused (refusal_of m) None
stands-refused tells meter image first (InMemory s) calls stands = refl
stands-refused tells meter image first (Journaled j) calls kept = subst (λ (why : Option JournalRefusal). IsRefused why None) (sym kept.unrefused) refl

-- where its disk failed its faults rose
pub failed-rises : {D : Type 0} (meter : D → Meter) (first : ℕ) (m : Metadata D) (disk : D) → CountsFaults meter first m → disk_of m ≡ Some disk → refusal_of m ≡ Some Failed → Rises first (faults (meter disk))
failed-rises meter first (InMemory s) disk counted is failed = absurd (cc)
failed-rises meter first (Journaled j) disk counted is failed = subst (λ (d : _). Rises first (faults (meter d))) (the-disk j.journal.disk disk is) (counted.risen failed)
