-- A journal that was formatted, one for whose call memory was wanting, and what no call changes.
use Rattle.std.proofs.Common.{◌≡◌, ◌==◌, ◌⊎◌, inl, inr, ⊎_elim, ℕ, ◌+◌, ◌≤◌, IsSome, Bool, true, false, cond, IsTrue, List, [], ◌∷◌, ◌++◌, Option, Some, None, Result, Ok, Err, OnOk, OnErr, refl, sym, ◌∙◌, ap, subst, arith}
use Rattle.std.specs.Prelude.{◌&&◌, is_some, nat_lt, unwrap_or}
use Rattle.std.specs.Option.{option_map, option_map_or, option_and_then}
use Rattle.std.specs.FinMap as maps
use Rattle.rz_disk.specs.Images.{Only}
use Rattle.rz_disk.specs.Meter.{Lasts, Meter, Rises, faults}
use Rattle.rz_events.specs.Volume.{Volume}
use Rattle.rz_events.specs.Masks.{has_bit}
use Rattle.rz_events.specs.declared.keys.Key.{Key}
use Rattle.rz_events.specs.declared.files.FileInfo.{FileInfo}
use Rattle.rz_events.specs.declared.ends.Denial.{Denial}
use Rattle.rz_events.specs.declared.ends.Denial.TheVariants as denial
use Rattle.rz_events.specs.declared.export.Call.{Call}
use Rattle.rz_events.specs.declared.export.Call.TheVariants as call
use Rattle.rz_events.specs.declared.export.Reply.{Reply}
use Rattle.rz_events.specs.declared.export.Reply.TheVariants.{Tree, Begun, Accepted, Enrolled, Looked, Fence, Listed, Denied, NoMemory, Revoked}
use Rattle.rz_export_model.specs.Firsts.{first_of, given_if}
use Rattle.rz_export_model.specs.Tree.{file_of}
use Rattle.rz_export_model.specs.Export.{Export, Enrolled as AnEnrolled, new_export, export_reply, export_after, no_begin, no_look, new_fence, spent, enroll_reply, barred, fence_of, no_publish, unknown_file, latest_of, published_of, published_stamp}
use Rattle.rz_export.specs.Calls.{IsAnswered, MayWant}
use Rattle.rz_journal.specs.JournalText.{IsTextOf}
use Rattle.rz_journal.specs.Kept.{IsExportAfter, AllStandFor}
use Rattle.rz_journal.specs.Said.{accepts, entry_of}
use Rattle.rz_journal.specs.Seen.{HasEntryRoom, IsFull, IsJournalAnswer, IsJournalReply, JournalView, calls_after}
use Rattle.rz_journal.specs.declared.journal.JournalReply.TheVariants as answer
use Rattle.rz_journal.proofs.Keepings.{answered_not}
use Rattle.rz_journal.proofs.Refused.{volume_same}
use Rattle.rz_metadata.specs.declared.journaled.Journaled.{Journaled as Behind}
use Rattle.rz_metadata.specs.declared.journaled.JournalRefusal.{JournalRefusal}
use Rattle.rz_metadata.specs.declared.journaled.JournalRefusal.TheVariants as refusal
use Rattle.rz_metadata.specs.declared.metadata.Metadata.TheVariants.{InMemory, Journaled}
use Rattle.rz_metadata.specs.Journals.{IsAsBefore, MayLackBehind}
use Rattle.rz_metadata.specs.Stands.{CountsOn, IsJournalKept, IsCallLeft, IsLeftBy, refusal_of, wants_memory}

-- a journal that was formatted kept no calls
pub made-anew : {D : Type 0} (tells : Bool) (meter : D → Meter) (text : D → List ℕ) (image : D → List ℕ → Type 0) (v : Volume) (j : JournalView D) → j.export ≡ new_export v 0 → j.closed ≡ false
    → (IsTrue tells → IsTextOf v (text j.disk) []) → Only (text j.disk) (image j.disk) → (first : ℕ) → first ≤ faults (meter j.disk) → IsJournalKept tells meter image first (record { journal = j; refusal = None }) []
made-anew tells meter text image v j made opened stands settled first counted =
    let volume : j.export.volume ≡ v = ap (λ (s : Export). s.volume) made in
    record {
      unrefused = refl;
      is_open = opened;
      after = record { accepted = tt; made = made ∙ ap (λ (u : Volume). new_export u 0) (sym volume) };
      images = λ told c is. subst (λ (b : List ℕ). IsTextOf j.export.volume b []) (sym (settled c is)) (subst (λ (u : Volume). IsTextOf u (text j.disk) []) (sym volume) (stands told));
      lasts = counted;
    }

pub is-wanting : (r : Reply) → wants_memory r ≡ true → r ≡ NoMemory
is-wanting NoMemory is = refl
is-wanting (Tree t) is = absurd (cc)
is-wanting (Begun stamp base) is = absurd (cc)
is-wanting Accepted is = absurd (cc)
is-wanting (Enrolled position fence) is = absurd (cc)
is-wanting (Looked p) is = absurd (cc)
is-wanting (Fence fence) is = absurd (cc)
is-wanting (Listed l) is = absurd (cc)
is-wanting (Denied why) is = absurd (cc)
is-wanting (Revoked later) is = absurd (cc)

-- any other reply is that of the model
pub told-so : (s u : Export) (c : Call) (r : Reply) → IsAnswered s c r u → wants_memory r ≡ false → (r ≡ export_reply s c) × (u ≡ export_after s c)
told-so s u c r answered other = ⊎_elim
    (λ (model : (r ≡ export_reply s c) × (u ≡ export_after s c)). model)
    (λ (want : MayWant s c × (r ≡ NoMemory) × (u ≡ s)). (let wrong : false ≡ true = sym other ∙ ap wants_memory want.1 in absurd (cc)))
    answered

-- where memory is wanting no call is added
none-added : (c : Call) (calls : List Call) → calls_after NoMemory c calls ≡ calls
none-added c calls = go (is_some (entry_of c))
  where
    go : (b : Bool) → cond (b && false) (calls ++ c ∷ []) calls ≡ calls
    go true = refl
    go false = refl

-- What an open journal answered.

module _ {D : Type 0} (old new : JournalView D) (c : Call) (is_open : old.closed ≡ false) where
  -- after a reply it is open
  pub replied-open : (r : Reply) → IsJournalAnswer old c (answer.Reply r) new → new.closed ≡ false
  replied-open r answered = ⊎_elim
      (λ (closed : (old.closed ≡ true) × (answer.Reply r ≡ answer.Closed) × (new ≡ old)). absurd (let is = closed.1 in cc))
      (λ (opened : (old.closed ≡ false) × ((new.closed ≡ false) × IsJournalReply old c r new)). opened.1.0)
      answered

  -- a call for which there is no room has an entry
  pub full-said : (need have : ℕ) → IsJournalAnswer old c (answer.Full need have) new → IsSome (entry_of c)
  full-said need have answered = ⊎_elim
      (λ (closed : (old.closed ≡ true) × (answer.Full need have ≡ answer.Closed) × (new ≡ old)). absurd (let is = closed.1 in cc))
      (λ (opened : (old.closed ≡ false) × ((new ≡ old) × IsFull old c need × (have ≡ 8_388_576))). ap is_some opened.1.1.1)
      answered

  -- and so has one for which the disk failed
  pub failed-said : IsJournalAnswer old c answer.DiskFault new → IsSome (entry_of c)
  failed-said answered = ⊎_elim
      (λ (closed : (old.closed ≡ true) × (answer.DiskFault ≡ answer.Closed) × (new ≡ old)). absurd (let is = closed.1 in cc))
      (λ (opened : (old.closed ≡ false) × ((new.closed ≡ true) × IsSome (entry_of c) × HasEntryRoom old c)). opened.1.1)
      answered

  pub never-closed : IsJournalAnswer old c answer.Closed new → ⊥
  never-closed answered = ⊎_elim
      (λ (closed : (old.closed ≡ true) × (answer.Closed ≡ answer.Closed) × (new ≡ old)). let was = closed.0 in cc)
      (λ (opened : (old.closed ≡ false) × ⊥). opened.1)
      answered

pub left-wanting : {D : Type 0} (tells : Bool) (meter : D → Meter) (image : D → List ℕ → Type 0) (first : ℕ) (old new : JournalView D) (c : Call) (calls : List Call) (refusal : Option JournalRefusal) (r : Reply) → r ≡ NoMemory
    → IsJournalAnswer old c (answer.Reply r) new → Lasts (meter old.disk) (meter new.disk)
    → (IsExportAfter old.export calls → IsExportAfter new.export (calls_after r c calls)) → (IsTrue tells → (later : List Call) → IsExportAfter new.export later → AllStandFor (image new.disk) new.export later)
    → IsJournalKept tells meter image first (record { journal = old; refusal = refusal }) calls → IsCallLeft tells meter image first (record { journal = new; refusal = refusal }) calls c
left-wanting tells meter image first old new c calls refusal r wants answered lasts more stands kept =
    let after : IsExportAfter new.export calls = subst (IsExportAfter new.export) (ap (λ (x : Reply). calls_after x c calls) wants ∙ none-added c calls) (more kept.after) in
    let still : IsJournalKept tells meter image first (record { journal = new; refusal = refusal }) calls = record {
      unrefused = kept.unrefused;
      is_open = replied-open old new c kept.is_open r answered;
      after = after;
      images = λ told. stands told calls after;
      lasts = (let had = kept.lasts in omega (arith, had, lasts.planned, lasts.own));
    } in
    subst (λ (o : Option JournalRefusal). IsLeftBy o (IsJournalKept tells meter image first (record { journal = new; refusal = refusal }) calls) tells (image new.disk) first (faults (meter new.disk)) new.export calls c)
    (sym kept.unrefused) still

-- a disk counts on, and more where it failed
pub counts-on : {D : Type 0} (meter : D → Meter) (first : ℕ) (old new : JournalView D) (why : Option JournalRefusal) → first ≤ faults (meter old.disk) → Lasts (meter old.disk) (meter new.disk)
    → (why ≡ Some refusal.Failed → Rises (faults (meter old.disk)) (faults (meter new.disk))) → CountsOn meter first (record { journal = new; refusal = why })
counts-on meter first old new why had lasts risen = record {
  lasts = omega (arith, had, lasts.planned, lasts.own);
  risen = λ is. (let rose = risen is in omega (arith, had, rose));
}

-- a journal that was full has the export from before, and no half has room for the call
pub left-full : {D : Type 0} (tells : Bool) (meter : D → Meter) (image : D → List ℕ → Type 0) (first : ℕ) (old new : JournalView D) (c : Call) (calls : List Call) (was : Option JournalRefusal) (need have : ℕ)
    → IsJournalAnswer old c (answer.Full need have) new → IsJournalKept tells meter image first (record { journal = old; refusal = was }) calls
    → IsCallLeft tells meter image first (record { journal = new; refusal = Some refusal.Full }) calls c
left-full tells meter image first old new c calls was need have answered kept = ⊎_elim
    (λ (closed : (old.closed ≡ true) × (answer.Full need have ≡ answer.Closed) × (new ≡ old)). absurd (let is = closed.1 in cc))
    (λ (opened : (old.closed ≡ false) × ((new ≡ old) × IsFull old c need × (have ≡ 8_388_576))).
    let full = opened.1.1 in
    subst (λ (j : JournalView _). IsCallLeft tells meter image first (record { journal = j; refusal = Some refusal.Full }) calls c) (sym opened.1.0)
    (kept.after, (full.0, full.1, full.2.not_there), kept.images))
    answered

-- no call changes the volume
pub volume-kept : {E : Type 0} (old new : Export) (c : Call) (result : Result Reply E) → OnOk result (new ≡ export_after old c) → OnErr result (new ≡ old) → new.volume ≡ old.volume
volume-kept old new c (Ok r) after same = ap (λ (s : Export). s.volume) after ∙ volume_same old c
volume-kept old new c (Err e) after same = ap (λ (s : Export). s.volume) same

-- The model never replies that memory is wanting.

denied-or : (o : Option Denial) (r : Reply) → ¬ (r ≡ NoMemory) → ¬ (option_map_or Denied o r ≡ NoMemory)
denied-or None r other is = other is
denied-or (Some why) r other is = cc

never-fence : (s : Export) → ¬ (new_fence s ≡ NoMemory)
never-fence s is = denied-or (spent s) (Fence (s.last + 1)) (λ q. cc) is

never-enroll : (s : Export) (loss : ℕ) (o : Option AnEnrolled) → ¬ (enroll_reply s loss o ≡ NoMemory)
never-enroll s loss None is = never-fence s is
never-enroll s loss (Some e) is = old (nat_lt loss e.loss) is
  where
    same : (b : Bool) → ¬ (cond b (Fence e.fence) (new_fence s) ≡ NoMemory)
    same true q = cc
    same false q = never-fence s q

    old : (b : Bool) → ¬ (cond b (Denied (denial.OldLoss e.loss)) (cond (loss == e.loss) (Fence e.fence) (new_fence s)) ≡ NoMemory)
    old true q = cc
    old false q = same (loss == e.loss) q

never-barred : (s : Export) (mask stamp i : ℕ) (places : List ℕ) → ¬ (barred s mask stamp i places ≡ Some NoMemory)
never-barred s mask stamp i [] is = cc
never-barred s mask stamp i (n ∷ places) is = go (never-barred s mask stamp (i + 1) places) (has_bit mask i && nat_lt stamp (fence_of s n)) is
  where
    go : ¬ (barred s mask stamp (i + 1) places ≡ Some NoMemory) → (b : Bool) → ¬ (cond b (Some (Enrolled i (fence_of s n))) (barred s mask stamp (i + 1) places) ≡ Some NoMemory)
    go rest true q = cc
    go rest false q = rest q

never-published : (s : Export) (key : Key) (stamp mask : ℕ) → ¬ (unwrap_or (no_publish s key stamp mask) Accepted ≡ NoMemory)
never-published s key stamp mask is = go _ _ _ unknown revoked enrolled is
  where
    unknown : ¬ (option_map Denied (unknown_file s key) ≡ Some NoMemory)
    unknown q = at (unknown_file s key) q
      where
        at : (o : Option Denial) → ¬ (option_map Denied o ≡ Some NoMemory)
        at None z = cc
        at (Some why) z = cc

    revoked : ¬ (given_if (nat_lt stamp (latest_of s.blocks key)) (Revoked (latest_of s.blocks key)) ≡ Some NoMemory)
    revoked q = at (nat_lt stamp (latest_of s.blocks key)) q
      where
        at : (b : Bool) → ¬ (given_if b (Revoked (latest_of s.blocks key)) ≡ Some NoMemory)
        at true z = cc
        at false z = cc

    enrolled : ¬ (option_and_then (λ (info : FileInfo). barred s mask stamp 0 info.places) (file_of s.tree key.fid) ≡ Some NoMemory)
    enrolled q = at (file_of s.tree key.fid) q
      where
        at : (o : Option FileInfo) → ¬ (option_and_then (λ (info : FileInfo). barred s mask stamp 0 info.places) o ≡ Some NoMemory)
        at None z = cc
        at (Some info) z = never-barred s mask stamp 0 info.places z

    go : (a b c : Option Reply) → ¬ (a ≡ Some NoMemory) → ¬ (b ≡ Some NoMemory) → ¬ (c ≡ Some NoMemory) → ¬ (unwrap_or (first_of (a ∷ b ∷ c ∷ [])) Accepted ≡ NoMemory)
    go (Some r) b c na nb nc q = na (ap Some q)
    go None (Some r) c na nb nc q = nb (ap Some q)
    go None None (Some r) na nb nc q = nc (ap Some q)
    go None None None na nb nc q = cc

never-wanting : (s : Export) (c : Call) → ¬ (export_reply s c ≡ NoMemory)
never-wanting s (call.Tree c) is = cc
never-wanting s (call.Begin key text) is = denied-or (no_begin s key) (Begun (s.last + 1) (published_stamp s.blocks key)) (λ q. cc) is
never-wanting s (call.Publish key stamp mask size) is = never-published s key stamp mask is
never-wanting s (call.Look key) is = denied-or (no_look s key) (Looked (published_of s.blocks key)) (λ q. cc) is
never-wanting s (call.Enroll node loss) is = never-enroll s loss (maps.get s.enrolled node) is
never-wanting s (call.Next node after) is = cc
never-wanting s (call.Recheck key) is = denied-or (no_look s key) (Looked (published_of s.blocks key)) (λ q. cc) is

-- So memory was wanting for a call for which it may be, and the export is as it was.

pub may-want : (s u : Export) (c : Call) (r : Reply) → IsAnswered s c r u → r ≡ NoMemory → MayWant s c
may-want s u c r answered is = ⊎_elim
    (λ (model : (r ≡ export_reply s c) × (u ≡ export_after s c)). absurd (never-wanting s c (sym model.0 ∙ is)))
    (λ (want : MayWant s c × (r ≡ NoMemory) × (u ≡ s)). want.0)
    answered

module _ {D : Type 0} (old new : JournalView D) (c : Call) (r : Reply) (is : r ≡ NoMemory) where
  pub may-lack : IsJournalAnswer old c (answer.Reply r) new → MayLackBehind old.export c
  may-lack answered = ⊎_elim
      (λ (closed : (old.closed ≡ true) × (answer.Reply r ≡ answer.Closed) × (new ≡ old)). absurd (let q = closed.1 in cc))
      (λ (opened : (old.closed ≡ false) × ((new.closed ≡ false) × IsJournalReply old c r new)). ⊎_elim
      (λ (replied : IsAnswered old.export c r new.export × HasEntryRoom old c). inl (may-want old.export new.export c r replied.0 is))
      (λ (want : IsSome (entry_of c) × (r ≡ NoMemory) × (new.export ≡ old.export)). inr want.0)
      opened.1.1)
      answered

  pub export-same : IsJournalAnswer old c (answer.Reply r) new → new.export ≡ old.export
  export-same answered = ⊎_elim
      (λ (closed : (old.closed ≡ true) × (answer.Reply r ≡ answer.Closed) × (new ≡ old)). absurd (let q = closed.1 in cc))
      (λ (opened : (old.closed ≡ false) × ((new.closed ≡ false) × IsJournalReply old c r new)). ⊎_elim
      (λ (replied : IsAnswered old.export c r new.export × HasEntryRoom old c). answered_not old.export new.export c r replied.0 (ap accepts is))
      (λ (want : IsSome (entry_of c) × (r ≡ NoMemory) × (new.export ≡ old.export)). want.2)
      opened.1.1)
      answered

-- A journal that gave no reply and refused nothing stands for what it stood for.
pub stands-still : {D : Type 0} (tells : Bool) (meter : D → Meter) (image : D → List ℕ → Type 0) (old new : Behind D) (c : Call)
    → ((first : ℕ) (calls : List Call) → IsJournalKept tells meter image first old calls → IsCallLeft tells meter image first new calls c) → new.refusal ≡ None
    → (first : ℕ) (calls : List Call) → IsJournalKept tells meter image first old calls → IsJournalKept tells meter image first new calls
stands-still tells meter image old new c left none first calls kept =
    subst (λ (o : Option JournalRefusal). IsLeftBy o (IsJournalKept tells meter image first new calls) tells (image new.journal.disk) first (faults (meter new.journal.disk)) new.journal.export calls c)
    none (left first calls kept)

-- The same of metadata, where there is no reply.

module _ {D : Type 0} {E : Type 0} (tells : Bool) (meter : D → Meter) (image : D → List ℕ → Type 0) (result : Result Reply E) where
  pub as-before-in : (s u : Export) → OnErr result (u ≡ s) → OnErr result (refusal_of {D = D} (InMemory u) ≡ None → IsAsBefore tells meter image (InMemory s) (InMemory u))
  as-before-in s u = go result
    where
      go : (r : Result Reply E) → OnErr r (u ≡ s) → OnErr r (refusal_of {D = D} (InMemory u) ≡ None → IsAsBefore tells meter image (InMemory s) (InMemory u))
      go (Ok reply) same = tt
      go (Err e) same = λ none. record { export_is = same; stands = λ first calls stood. tt }

  pub as-before-behind : (old new : Behind D) (c : Call) → OnErr result (new.refusal ≡ None → new.journal.export ≡ old.journal.export)
      → OnErr result ((first : ℕ) (calls : List Call) → IsJournalKept tells meter image first old calls → IsCallLeft tells meter image first new calls c)
      → OnErr result (refusal_of (Journaled new) ≡ None → IsAsBefore tells meter image (Journaled old) (Journaled new))
  as-before-behind old new c = go result
    where
      go : (r : Result Reply E) → OnErr r (new.refusal ≡ None → new.journal.export ≡ old.journal.export)
          → OnErr r ((first : ℕ) (calls : List Call) → IsJournalKept tells meter image first old calls → IsCallLeft tells meter image first new calls c)
          → OnErr r (refusal_of (Journaled new) ≡ None → IsAsBefore tells meter image (Journaled old) (Journaled new))
      go (Ok reply) same left = tt
      go (Err e) same left = λ none. record { export_is = same none; stands = stands-still tells meter image old new c left none }
