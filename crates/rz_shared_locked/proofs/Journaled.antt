-- What metadata have while the log grows: the export that it gives, and the calls for which their journal stands.
use Rattle.std.proofs.Common.{◌≡◌, ℕ, Bool, true, false, true≢false, IsTrue, List, ◌∷◌, ◌++◌, Option, Some, None, refl, sym, ap, ◌∙◌, subst}
use Rattle.std.specs.Prelude.{is_some}
use Rattle.rz_disk.specs.Meter.{Meter}
use Rattle.rz_events.specs.Volume.{Volume}
use Rattle.rz_events.specs.declared.keys.Actor.{Actor}
use Rattle.rz_events.specs.declared.export.Call.{Call}
use Rattle.rz_events.specs.declared.export.Call.TheVariants as call
use Rattle.rz_events.specs.declared.export.Reply.{Reply}
use Rattle.rz_events.specs.declared.events.Word.TheVariants.{Export}
use Rattle.rz_events.specs.declared.events.Event.{Event}
use Rattle.rz_export_model.specs.ExportEvents.{export_event}
use Rattle.rz_core.specs.History.{Facts, Begun, facts, of_word, of_actor, length_in}
use Rattle.rz_core.specs.Legal.{IsLegalAfter}
use Rattle.rz_core.specs.Longer.{IsNextRun, IsPermanent}
use Rattle.rz_core.specs.Tied.{IsExport, IsProperCall}
use Rattle.rz_journal.specs.Seen.{calls_after}
use Rattle.rz_export.specs.Calls.{MayWant}
use Rattle.rz_metadata.specs.Journals.{IsAsBefore, MayLack, MayRefuse}
use Rattle.rz_metadata.specs.declared.journaled.JournalRefusal.{JournalRefusal}
use Rattle.rz_metadata.specs.declared.metadata.Metadata.{Metadata}
use Rattle.rz_metadata.specs.declared.metadata.Metadata.TheVariants.{InMemory, Journaled}
use Rattle.rz_metadata.specs.Stands.{export_in, is_journaled, refusal_of, IsJournalOpen, Stands, StandsAtEnd}
use Rattle.rz_restart_laws.specs.Calls.{changing_calls, HasLength}
use Rattle.rz_restart_laws.specs.Laws.{IsCallTold, IsNoCall}
use Rattle.rz_chronicle.specs.Keys.{IsLater, events_at, word_key}
use Rattle.rz_chronicle.specs.Kinds.{keeps_legal, volume_in}
use Rattle.rz_shared_locked.specs.LockedExports.{AreAfterLog, AreMetadataOf}
use Rattle.rz_shared_locked.specs.Laws.{IsLockedExportKept, AreCallsKept, AreCallsAdded}
use Rattle.rz_shared_locked.proofs.Lasting.{AreWordsKept, ArePermanent}
use Rattle.rz_shared_locked.proofs.Behind.{word-behind, later-behind}

pub calls-kept : (v : Volume) → IsNextRun v → IsNoCall v → AreWordsKept → AreCallsKept v
calls-kept v next untold words earlier old new legal later same =
    let is = later-behind old new earlier later in
    let it : of_word Export (later.0 ++ (old ++ earlier)) ≡ of_word Export (old ++ earlier) =
    subst (λ (h : List Event). of_word Export h ≡ of_word Export (old ++ earlier)) is (word-behind Export earlier new old (words Export new old same)) in
    ap changing_calls is ∙ untold (old ++ earlier) later.0 (next earlier old legal) it

-- a call that a caller may make tells the length of its text, in each longer log too
proper-length : (v : Volume) (f g : Facts) (own : List Event) (by : Actor) (c : Call) → ((s : ℕ) (b : Begun) → f.wrote s ≡ Some b → g.wrote s ≡ Some b) → IsProperCall v f own by c → HasLength g c
proper-length v f g own by (call.Tree c) kept p = tt
proper-length v f g own by (call.Begin key text) kept p = tt
proper-length v f g own by (call.Publish key stamp mask size) kept p =
    let it = p.0.writer in
    p.1 ∙ ap length_in (it.1.found ∙ sym (kept stamp it.0 it.1.found))
proper-length v f g own by (call.Look key) kept p = tt
proper-length v f g own by (call.Recheck key) kept p = tt
proper-length v f g own by (call.Enroll node loss) kept p = tt
proper-length v f g own by (call.Next node after) kept p = tt

pub calls-added : (v : Volume) → IsNextRun v → ArePermanent → IsCallTold v → AreCallsKept v → AreCallsAdded v
calls-added v next permanent told kept earlier old before by question given x legal fits later same may is =
    let whole : x ∷ before ++ earlier ≡ (x ∷ later.0) ++ (old ++ earlier) = ap (λ (h : List Event). x ∷ h) (later-behind old before earlier later) in
    let long : HasLength (facts (x ∷ before ++ earlier)) question = subst (λ (h : List Event). HasLength (facts h) question) (sym whole)
    (proper-length v (facts (old ++ earlier)) (facts ((x ∷ later.0) ++ (old ++ earlier))) (of_actor by (old ++ earlier)) by question (permanent (old ++ earlier) (x ∷ later.0)).wrote may) in
    sym (told (before ++ earlier) x by question given (next earlier before fits) is long) ∙ ap (calls_after given question) (kept earlier old before legal later same)

-- Metadata that have entered have what the log gives.
module _ {D : Type 0} (tells : Bool) (meter : D → Meter) (image : D → List ℕ → Type 0) (first : ℕ) (kind : List ℕ) (earlier old new : List Event) (m : Metadata D) (kept : IsLockedExportKept (volume_in kind))
    (calls : AreCallsKept (volume_in kind)) (fit : IsTrue (keeps_legal kind) → IsLegalAfter (volume_in kind) earlier old) (later : IsLater old new) (same : events_at (word_key Export) new ≡ events_at (word_key Export) old) where
  same-calls : IsTrue (keeps_legal kind) → changing_calls (old ++ earlier) ≡ changing_calls (new ++ earlier)
  same-calls keeps = sym (calls earlier old new (fit keeps) later same)

  pub metadata-kept : (r : Option JournalRefusal) → AreMetadataOf r tells meter image first kind (old ++ earlier) m → AreMetadataOf r tells meter image first kind (new ++ earlier) m
  metadata-kept None it = record {
    is_open = it.is_open;
    tied = λ keeps. kept earlier old new (export_in m) (fit keeps) later same (it.tied keeps);
    stands = λ keeps. subst (Stands tells meter image first m) (same-calls keeps) (it.stands keeps);
  }
  metadata-kept (Some why) it = λ keeps. subst (λ (calls : List Call). (refused : Call) × StandsAtEnd tells meter image first m calls refused) (same-calls keeps) (it keeps)

-- metadata that are open refused no call
pub opened-metadata : {D : Type 0} (tells : Bool) (meter : D → Meter) (image : D → List ℕ → Type 0) (first : ℕ) (kind : List ℕ) (h : List Event) (m : Metadata D) → AreAfterLog tells meter image first kind h m
    → AreMetadataOf (refusal_of m) tells meter image first kind h m
opened-metadata tells meter image first kind h m it = subst (λ (r : Option JournalRefusal). AreMetadataOf r tells meter image first kind h m) (sym (unrefused m it.is_open)) it
  where
    unrefused : {D : Type 0} (m : Metadata D) → IsJournalOpen m → refusal_of m ≡ None
    unrefused (InMemory s) opened = refl
    unrefused (Journaled j) opened = opened.unrefused

-- What metadata are that were asked for a reply.
module _ {D : Type 0} (tells : Bool) (meter : D → Meter) (image : D → List ℕ → Type 0) (first : ℕ) (kind : List ℕ) (earlier h : List Event) (q : Call) (m m' : Metadata D)
    (was : AreMetadataOf (refusal_of m) tells meter image first kind (h ++ earlier) m) (none : refusal_of m ≡ None) where
  after-log : AreAfterLog tells meter image first kind (h ++ earlier) m
  after-log = subst (λ (r : Option JournalRefusal). AreMetadataOf r tells meter image first kind (h ++ earlier) m) none was

  pub open-metadata : IsJournalOpen m
  open-metadata = after-log.is_open

  pub tied-metadata : IsTrue (keeps_legal kind) → IsExport (volume_in kind) (facts (h ++ earlier)) (of_word Export (h ++ earlier)) (export_in m)
  tied-metadata = after-log.tied

  -- with a reply they have what the longer log gives
  pub replied-metadata : (given : Reply) (new : List Event) → (IsJournalOpen m → IsJournalOpen m') → ((base : ℕ) (calls : List Call) → Stands tells meter image base m calls → Stands tells meter image base m' (calls_after given q calls))
      → (IsTrue (keeps_legal kind) → IsExport (volume_in kind) (facts (new ++ earlier)) (of_word Export (new ++ earlier)) (export_in m')) → (IsTrue (keeps_legal kind) → changing_calls (new ++ earlier) ≡ calls_after given q (changing_calls (h ++ earlier)))
      → AreMetadataOf (refusal_of m') tells meter image first kind (new ++ earlier) m'
  replied-metadata given new opened kept tied calls = opened-metadata tells meter image first kind (new ++ earlier) m' (record {
    is_open = opened after-log.is_open;
    tied = tied;
    stands = λ keeps. subst (Stands tells meter image first m') (sym (calls keeps)) (kept first (changing_calls (h ++ earlier)) (after-log.stands keeps));
  })

  -- without one they are as they were, or refused the call
  pub unreplied-metadata : ((base : ℕ) (calls : List Call) → Stands tells meter image base m calls → StandsAtEnd tells meter image base m' calls q) → (IsJournalOpen m → MayRefuse (refusal_of m') q (IsJournalOpen m'))
      → (refusal_of m' ≡ None → IsAsBefore tells meter image m m') → AreMetadataOf (refusal_of m') tells meter image first kind (h ++ earlier) m'
  unreplied-metadata left refused unkept = go (refusal_of m') refl (refused after-log.is_open)
    where
      go : (r : Option JournalRefusal) → refusal_of m' ≡ r → MayRefuse r q (IsJournalOpen m') → AreMetadataOf r tells meter image first kind (h ++ earlier) m'
      go None is opened = record {
        is_open = opened;
        tied = λ keeps. subst (IsExport (volume_in kind) (facts (h ++ earlier)) (of_word Export (h ++ earlier))) (sym (unkept is).export_is) (after-log.tied keeps);
        stands = λ keeps. (unkept is).stands first (changing_calls (h ++ earlier)) (after-log.stands keeps);
      }
      go (Some why) is entry = λ keeps. (q, left first (changing_calls (h ++ earlier)) (after-log.stands keeps))

pub none-refused : (o : Option JournalRefusal) → is_some o ≡ false → o ≡ None
none-refused None is = refl
none-refused (Some why) is = absurd (cc)

-- Metadata in memory refuse no call, and give no reply only for want of memory.

pub never-refused : {D : Type 0} (m : Metadata D) → is_journaled m ≡ false → is_some (refusal_of m) ≡ true → ⊥
never-refused (InMemory s) absent is = true≢false (sym is)
never-refused (Journaled j) absent is = true≢false absent

in-memory : {D : Type 0} (m : Metadata D) → is_journaled m ≡ false → refusal_of m ≡ None
in-memory (InMemory s) absent = refl
in-memory (Journaled j) absent = absurd (true≢false absent)

pub lacks-memory : {D : Type 0} (m m' : Metadata D) (q : Call) → is_journaled m ≡ false → is_journaled m' ≡ is_journaled m → (refusal_of m' ≡ None → MayLack m q) → MayWant (export_in m) q
lacks-memory (InMemory s) m' q absent same lacks = lacks (in-memory m' same)
lacks-memory (Journaled j) m' q absent same lacks = absurd (true≢false absent)
