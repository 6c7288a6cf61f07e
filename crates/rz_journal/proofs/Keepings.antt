-- What stands on the disk of a journal keeps its export.
use Rattle.std.proofs.Common.{◌≡◌, ◌⊎◌, inl, inr, ⊎_elim, Option, Some, None, IsSome, is_some, cond, ◌&&◌, ℕ, ◌+◌, ◌-◌, ◌<◌, ◌≤◌, ◌↔◌, Bool, true, false, IsTrue, List, [], ◌∷◌, ◌++◌, length, refl, sym, ◌∙◌, ap, subst, arith}
use Rattle.std.proofs.lemmas.Bool.{cases_lt}
use Rattle.rz_events.specs.Volume.{Volume}
use Rattle.rz_events.specs.declared.export.Call.{Call}
use Rattle.rz_events.specs.declared.export.Reply.{Reply}
use Rattle.rz_events.specs.declared.export.Reply.TheVariants.{NoMemory}
use Rattle.rz_export_model.specs.Export.{Export, new_export, is_proper, export_reply, export_after}
use Rattle.rz_export.specs.Calls.{IsAnswered, MayWant}
use Rattle.rz_export_laws.specs.Whole.{IsWhole}
use Rattle.rz_journal_text.specs.declared.entry.JournalEntry.{JournalEntry}
use Rattle.rz_journal_text.specs.Spelling.{entry_bytes}
use Rattle.rz_journal.specs.Row.{taken}
use Rattle.rz_journal.specs.Stands.{StandsFor, IsJournal, IsSameHalf, IsHalfOpen, Either, Becomes, with_last, instead}
use Rattle.rz_cells_slots.specs.Stands.{IsShut}
use Rattle.rz_journal.proofs.FramedRows.{length-row_bytes}
use Rattle.rz_journal.specs.Said.{entry_of, accepts, used_after}
use Rattle.rz_journal.specs.JournalText.{IsAccepted, AreAccepted, after_all, Makes, Keeps, IsTextOf}
use Rattle.rz_journal.specs.Room.{bytes_of, part_entries, row_length, needed, FitsNowhere, IsRow}
use Rattle.rz_journal.specs.Kept.{IsJournalReady, IsRowOf, AllKeep, KeepsEither, AllKeepEither, IsExportAfter, AllStandFor, AllStandForEither}
use Rattle.rz_journal.specs.declared.journal.JournalReply.{JournalReply}
use Rattle.rz_journal.specs.declared.journal.JournalReply.TheVariants as answer
use Rattle.rz_journal.specs.Seen.{JournalView, HasEntryRoom, IsOpenAnswer, IsInPlace, IfReply, calls_after}
use Rattle.rz_journal.proofs.Makings.{after_more, accepted_more, makes_more, makes_none, spelled_more}
use Rattle.rz_journal.proofs.Refused.{unaccepted_same, unkept_same, volume_same}

-- how long a row is
pub row_long : (entries : List JournalEntry) (row : List ℕ) → IsRow entries row → length row ≡ taken (bytes_of entries) + 1
row_long entries row is = ap length is.1 ∙ length-row_bytes (bytes_of entries)

-- the one image keeps the export
pub ready_keeps : (tells : Bool) (text : List ℕ) (image : List ℕ → Type 0) (half used : ℕ) (s : Export) → IsJournalReady tells text image half used s → IsTrue tells → AllKeep image s
ready_keeps tells text image half used s ready told c left = subst (λ (t : List ℕ). Keeps s.volume t s) (sym (ready.is_open.settled c left)) (ready.keeps told)

-- the same entries on another text
kept_there : (volume : Volume) (text new : List ℕ) (s : Export) (keeps : Keeps volume text s) → StandsFor new keeps.bytes → Keeps volume new s
kept_there volume text new s keeps stands = record { bytes = keeps.bytes; entries = keeps.entries; stands = stands; spelled = keeps.spelled; makes = keeps.makes }

-- other entries that make the export
kept_instead : (volume : Volume) (entries : List JournalEntry) (row new : List ℕ) (s : Export) → IsRow entries row → Makes volume entries s → StandsFor new (bytes_of entries) → Keeps volume new s
kept_instead volume entries row new s is makes stands = record { bytes = bytes_of entries; entries = entries; stands = stands; spelled = is.0; makes = makes }

-- the same entries with one more
kept_more : (volume : Volume) (text new row : List ℕ) (s : Export) (c : Call) (e : JournalEntry) (keeps : Keeps volume text s) → IsRow (e ∷ []) row → IsAccepted s c → entry_of c ≡ Some e → StandsFor new (with_last (entry_bytes e) keeps.bytes) → Keeps volume new (export_after s c)
kept_more volume text new row s c e keeps is accepted at stands = record {
  bytes = keeps.bytes ++ entry_bytes e ∷ [];
  entries = keeps.entries ++ e ∷ [];
  stands = stands;
  spelled = spelled_more keeps.bytes keeps.entries (entry_bytes e) e keeps.spelled is.0.0;
  makes = makes_more volume keeps.entries s c e keeps.makes accepted at;
}

-- ---- the parts in the place of all entries

module _ (tells : Bool) (text : List ℕ) (image : List ℕ → Type 0) (half used : ℕ) (s : Export) (ready : IsJournalReady tells text image half used s) (row : List ℕ) (is : IsRow (part_entries s) row) (makes : Makes s.volume (part_entries s) s) (told : IsTrue tells) where
  pub replaced_images : (left : List ℕ → Type 0) → Either (instead (bytes_of (part_entries s))) text left → AllKeep left s
  replaced_images left either c at =
      let keeps = ready.keeps told in
      ⊎_elim
      (λ (same : StandsFor c keeps.bytes). kept_there s.volume text c s keeps same)
      (λ (new : StandsFor c (bytes_of (part_entries s))). kept_instead s.volume (part_entries s) row c s is makes new)
      (either keeps.bytes c keeps.stands at)

  pub replaced_text : (new : List ℕ) → Becomes (instead (bytes_of (part_entries s))) text new → Keeps s.volume new s
  replaced_text new becomes =
      let keeps = ready.keeps told in
      kept_instead s.volume (part_entries s) row new s is makes (becomes keeps.bytes keeps.stands)

-- ---- one entry more

module _ (tells : Bool) (text : List ℕ) (image : List ℕ → Type 0) (half used : ℕ) (s : Export) (ready : IsJournalReady tells text image half used s) (row : List ℕ) (c : Call) (e : JournalEntry) (at : entry_of c ≡ Some e) (is : IsRow (e ∷ []) row) (accepted : IsAccepted s c) (told : IsTrue tells) where
  pub added_images : (left : List ℕ → Type 0) → Either (with_last (entry_bytes e)) text left → AllKeepEither left s c
  added_images left either d there =
      let keeps = ready.keeps told in
      ⊎_elim
      (λ (same : StandsFor d keeps.bytes). inl (kept_there s.volume text d s keeps same))
      (λ (new : StandsFor d (with_last (entry_bytes e) keeps.bytes)). inr (accepted, kept_more s.volume text d row s c e keeps is accepted at new))
      (either keeps.bytes d keeps.stands there)

  pub added_text : (new : List ℕ) → Becomes (with_last (entry_bytes e)) text new → Keeps s.volume new (export_after s c)
  added_text new becomes =
      let keeps = ready.keeps told in
      kept_more s.volume text new row s c e keeps is accepted at (becomes keeps.bytes keeps.stands)

-- ---- what the export answered

-- an accepted reply is that of the model
pub answered_so : (s u : Export) (c : Call) (r : Reply) → IsAnswered s c r u → accepts r ≡ true → (accepts (export_reply s c) ≡ true) × (u ≡ export_after s c)
answered_so s u c r answered good = ⊎_elim
    (λ (model : (r ≡ export_reply s c) × (u ≡ export_after s c)). (ap accepts (sym model.0) ∙ good, model.1))
    (λ (want : MayWant s c × (r ≡ NoMemory) × (u ≡ s)). (let wrong : true ≡ false = sym good ∙ ap accepts want.1 in absurd (cc)))
    answered

-- after any other the export is as before
pub answered_not : (s u : Export) (c : Call) (r : Reply) → IsAnswered s c r u → accepts r ≡ false → u ≡ s
answered_not s u c r answered bad = ⊎_elim
    (λ (model : (r ≡ export_reply s c) × (u ≡ export_after s c)). model.1 ∙ unaccepted_same s c (ap accepts (sym model.0) ∙ bad))
    (λ (want : MayWant s c × (r ≡ NoMemory) × (u ≡ s)). want.2)
    answered

pub accepted_of : (s : Export) (c : Call) (e : JournalEntry) → entry_of c ≡ Some e → is_proper s c ≡ true → accepts (export_reply s c) ≡ true → IsAccepted s c
accepted_of s c e at proper good = record { kept = ap is_some at; proper = proper; accepted = good }

pub answered_volume : (s u : Export) (c : Call) (r : Reply) → IsAnswered s c r u → u.volume ≡ s.volume
answered_volume s u c r answered = ⊎_elim
    (λ (model : (r ≡ export_reply s c) × (u ≡ export_after s c)). ap (λ (x : Export). x.volume) model.1 ∙ volume_same s c)
    (λ (want : MayWant s c × (r ≡ NoMemory) × (u ≡ s)). ap (λ (x : Export). x.volume) want.2)
    answered

-- ---- the calls for which a text stands

pub stands_for : (s : Export) (calls : List Call) (text : List ℕ) → IsExportAfter s calls → Keeps s.volume text s → IsTextOf s.volume text calls
stands_for s calls text after keeps = record { accepted = after.accepted; keeps = subst (λ (u : Export). Keeps s.volume text u) after.made keeps }

pub stands_more : (s : Export) (calls : List Call) (c : Call) (text : List ℕ) → IsExportAfter s calls → IsAccepted s c → Keeps s.volume text (export_after s c) → IsTextOf s.volume text (calls ++ c ∷ [])
stands_more s calls c text after is keeps = record {
  accepted = accepted_more (new_export s.volume 0) calls c after.accepted (subst (λ (u : Export). IsAccepted u c) after.made is);
  keeps = subst (λ (u : Export). Keeps s.volume text u) (ap (λ (u : Export). export_after u c) after.made ∙ sym (after_more (new_export s.volume 0) calls c)) keeps;
}

pub stands_either : (s : Export) (calls : List Call) (c : Call) (text : List ℕ) → IsExportAfter s calls → KeepsEither s c text → IsTextOf s.volume text calls ⊎ IsTextOf s.volume text (calls ++ c ∷ [])
stands_either s calls c text after either = ⊎_elim
    (λ (same : Keeps s.volume text s). inl (stands_for s calls text after same))
    (λ (more : IsAccepted s c × Keeps s.volume text (export_after s c)). inr (stands_more s calls c text after more.0 more.1))
    either

-- ---- a new journal

pub none_kept : (volume : Volume) (text : List ℕ) → StandsFor text [] → Keeps volume text (new_export volume 0)
none_kept volume text stands = record { bytes = []; entries = []; stands = stands; spelled = tt; makes = makes_none volume }

pub none_text : (volume : Volume) (text : List ℕ) → StandsFor text [] → IsTextOf volume text []
none_text volume text stands = record { accepted = tt; keeps = none_kept volume text stands }

pub none_left : (Was : Type 0) (volume : Volume) (text : List ℕ) → Was ⊎ IsShut text ⊎ StandsFor text [] → Was ⊎ IsShut text ⊎ IsTextOf volume text []
none_left Was volume text left = ⊎_elim
    (λ (was : Was). inl was)
    (λ (new : IsShut text ⊎ StandsFor text []). inr (⊎_elim (λ (shut : IsShut text). inl shut) (λ (none : StandsFor text []). inr (none_text volume text none)) new))
    left

pub new_ready : (tells : Bool) (volume : Volume) (text : List ℕ) (image : List ℕ → Type 0) (half used : ℕ) (s : Export) → IsWhole (new_export volume 0) → s ≡ new_export volume 0 → IsHalfOpen tells text image half used → (IsTrue tells → StandsFor text []) → IsJournalReady tells text image half used s
new_ready tells volume text image half used s whole is is_open none =
    subst (λ (u : Export). IsJournalReady tells text image half used u) (sym is)
    record { is_open = is_open; keeps = λ told. none_kept volume text (none told); whole = whole }

-- ---- what fits

pub no_room : (b : Bool) (used row : ℕ) → IsTrue b ↔ (used + row ≤ 8_388_576) → b ≡ false → 8_388_576 < used + row
no_room b used row means shut = ⊎_elim
    (λ (past : 8_388_576 < used + row). past)
    (λ (fits : used + row ≤ 8_388_576). (let open_it : b ≡ true = means.1 fits in let wrong : true ≡ false = sym open_it ∙ shut in absurd (cc)))
    (cases_lt 8_388_576 (used + row))

pub full_halt : (s : Export) (used row parts need : ℕ) → 8_388_576 < used + row → parts ≡ taken (bytes_of (part_entries s)) + 1 → need ≡ (parts - 1) + row → 8_388_576 < need → FitsNowhere s used row × (need ≡ needed s row)
full_halt s used row parts need past long is more =
    let same : need ≡ needed s row = omega (arith, long, is) in
    (record { not_here = past; not_there = omega (arith, same, more) }, same)

pub room_there : (s : Export) (used row parts need : ℕ) → parts ≡ taken (bytes_of (part_entries s)) + 1 → need ≡ (parts - 1) + row → need ≤ 8_388_576 → ¬ FitsNowhere s used row
room_there s used row parts need long is fits nowhere =
    let same : need ≡ needed s row = omega (arith, long, is) in
    let past = nowhere.not_there in
    omega (arith, same, past, fits)

-- ---- one entry more, and the journal goes on

pub ready_after : (tells : Bool) (text : List ℕ) (image : List ℕ → Type 0) (half used : ℕ) (s : Export) → IsJournalReady tells text image half used s → (row : List ℕ) (c : Call) (e : JournalEntry) → entry_of c ≡ Some e → IsRow (e ∷ []) row → IsAccepted s c → IsWhole (export_after s c)
    → (new : List ℕ) (left : List ℕ → Type 0) (side count : ℕ) (u : Export) → u ≡ export_after s c → IsHalfOpen tells new left side count → (IsTrue tells → Becomes (with_last (entry_bytes e)) text new) → IsJournalReady tells new left side count u
ready_after tells text image half used s ready row c e at is accepted whole new left side count u same is_open becomes =
    subst (λ (v : Export). IsJournalReady tells new left side count v) (sym same)
    record {
      is_open = is_open;
      keeps = λ told. subst (λ (v : Volume). Keeps v new (export_after s c)) (sym (volume_same s c)) (added_text tells text image half used s ready row c e at is accepted told new (becomes told));
      whole = whole;
    }

pub answered_unkept : (s u : Export) (c : Call) (r : Reply) → IsAnswered s c r u → entry_of c ≡ None → u ≡ s
answered_unkept s u c r answered none = ⊎_elim
    (λ (model : (r ≡ export_reply s c) × (u ≡ export_after s c)). model.1 ∙ unkept_same s c none)
    (λ (want : MayWant s c × (r ≡ NoMemory) × (u ≡ s)). want.2)
    answered

-- ---- the calls after a reply

pub all_stand : (image : List ℕ → Type 0) (s : Export) → AllKeep image s → (calls : List Call) → IsExportAfter s calls → AllStandFor image s calls
all_stand image s keep calls after text left = stands_for s calls text after (keep text left)

pub all_either : (image : List ℕ → Type 0) (s : Export) (c : Call) → AllKeepEither image s c → (calls : List Call) → IsExportAfter s calls → AllStandForEither image s calls c
all_either image s c keep calls after text left = stands_either s calls c text after (keep text left)

after_one : (s u : Export) (c : Call) (calls : List Call) → IsExportAfter s calls → IsAccepted s c → u ≡ export_after s c → IsExportAfter u (calls ++ c ∷ [])
after_one s u c calls after is same =
    let volume : u.volume ≡ s.volume = ap (λ (x : Export). x.volume) same ∙ volume_same s c in
    record {
      accepted = subst (λ (v : Volume). AreAccepted (new_export v 0) (calls ++ c ∷ [])) (sym volume) (accepted_more (new_export s.volume 0) calls c after.accepted (subst (λ (x : Export). IsAccepted x c) after.made is));
      made = same ∙ ap (λ (x : Export). export_after x c) after.made ∙ sym (after_more (new_export s.volume 0) calls c) ∙ ap (λ (v : Volume). after_all (new_export v 0) (calls ++ c ∷ [])) (sym volume);
    }

same_after : (s u : Export) (calls : List Call) → IsExportAfter s calls → u ≡ s → IsExportAfter u calls
same_after s u calls after same = subst (λ (x : Export). IsExportAfter x calls) (sym same) after

-- after a call that the export answered: by whether it has an entry, and whether it was accepted
after_by : (s u : Export) (c : Call) (r : Reply) (calls : List Call) (kept good : Bool) → is_some (entry_of c) ≡ kept → accepts r ≡ good → is_proper s c ≡ true → IsAnswered s c r u → IsExportAfter s calls → IsExportAfter u (cond (kept && good) (calls ++ c ∷ []) calls)
after_by s u c r calls true true is_kept is_good proper answered after =
    let so = answered_so s u c r answered is_good in
    after_one s u c calls after (record { kept = is_kept; proper = proper; accepted = so.0 }) so.1
after_by s u c r calls true false is_kept is_good proper answered after = same_after s u calls after (answered_not s u c r answered is_good)
after_by s u c r calls false good is_kept is_good proper answered after = same_after s u calls after (answered_unkept s u c r answered (none_of (entry_of c) is_kept))
  where
    none_of : (o : Option JournalEntry) → is_some o ≡ false → o ≡ None
    none_of None is = refl
    none_of (Some e) is = absurd (cc)

pub after_answer : (s u : Export) (c : Call) (r : Reply) (calls : List Call) → is_proper s c ≡ true → IsAnswered s c r u → IsExportAfter s calls → IsExportAfter u (calls_after r c calls)
after_answer s u c r calls proper answered after = after_by s u c r calls (is_some (entry_of c)) (accepts r) refl refl proper answered after

pub after_want : (s u : Export) (c : Call) (calls : List Call) → u ≡ s → IsExportAfter s calls → IsExportAfter u (calls_after NoMemory c calls)
after_want s u c calls same after =
    subst (λ (b : Bool). IsExportAfter u (cond b (calls ++ c ∷ []) calls)) (sym (and_not (is_some (entry_of c)))) (same_after s u calls after same)
  where
    and_not : (a : Bool) → (a && false) ≡ false
    and_not true = refl
    and_not false = refl

-- the calls after a reply of an open journal give its export
pub calls_answer : {D : Type 0} (old new : JournalView D) (c : Call) (r : JournalReply) → is_proper old.export c ≡ true → IsOpenAnswer old c r new
    → IfReply r (λ told. (calls : List Call) → IsExportAfter old.export calls → IsExportAfter new.export (calls_after told c calls))
calls_answer old new c (answer.Reply told) proper is = λ calls after. ⊎_elim
    (λ (model : IsAnswered old.export c told new.export × HasEntryRoom old c). after_answer old.export new.export c told calls proper model.0 after)
    (λ (want : IsSome (entry_of c) × (told ≡ NoMemory) × (new.export ≡ old.export)).
    subst (λ (x : Reply). IsExportAfter new.export (calls_after x c calls)) (sym want.1) (after_want old.export new.export c calls want.2 after))
    is.1
calls_answer old new c (answer.Full need have) proper is = tt
calls_answer old new c answer.DiskFault proper is = tt
calls_answer old new c answer.Closed proper is = tt

-- ---- an entry that fits goes behind the others

-- a row is as long as its entry says
row_same : (c : Call) (row : List ℕ) → IsRowOf c row → (e : JournalEntry) → entry_of c ≡ Some e → length row ≡ row_length e
row_same c row (d, at, is) e there =
    let both : Some d ≡ Some e = sym at ∙ there in
    let same : d ≡ e = cc in
    let long = row_long (d ∷ []) row is in
    subst (λ (x : JournalEntry). length row ≡ row_length x) same (omega (arith, long))

-- where its number is the same, the half that counted still counts
pub same_half : (tells : Bool) (text : List ℕ) (image : List ℕ → Type 0) (half used : ℕ) (s : Export) → IsJournalReady tells text image half used s
    → (new : List ℕ) (left : List ℕ → Type 0) (side count : ℕ) (u : Export) → IsJournalReady tells new left side count u → side ≡ half → IsTrue tells → IsSameHalf text new
same_half tells text image half used s ready new left side count u after same told k is =
    let held = ready.is_open.holds told in
    let now = after.is_open.holds told in
    subst (λ (h : ℕ). IsJournal h new) (same ∙ sym held.1.journal.picked ∙ is.picked) now.1.journal

in_place : {D : Type 0} (tells : Bool) (text : D → List ℕ) (old new : JournalView D) (c : Call) (row : List ℕ) (r : Reply) → IsRowOf c row
    → (old.used + length row ≤ 8_388_576 → new.used ≡ used_after r (length row) old.used)
    → (IsTrue tells → old.used + length row ≤ 8_388_576 → IsSameHalf (text old.disk) (text new.disk)) → IsInPlace tells text old c r new
in_place tells text old new c row r is used half e at fits =
    let long = row_same c row is e at in
    let room : old.used + length row ≤ 8_388_576 = subst (λ (n : ℕ). old.used + n ≤ 8_388_576) (sym long) fits in
    (subst (λ (n : ℕ). new.used ≡ used_after r n old.used) long (used room), λ told. half told room)

pub place_there : {D : Type 0} (tells : Bool) (text : D → List ℕ) (old new : JournalView D) (c : Call) (row : List ℕ) (r : JournalReply) → IsRowOf c row
    → IfReply r (λ told. old.used + length row ≤ 8_388_576 → new.used ≡ used_after told (length row) old.used)
    → IfReply r (λ told. IsTrue tells → old.used + length row ≤ 8_388_576 → IsSameHalf (text old.disk) (text new.disk)) → IfReply r (λ told. IsInPlace tells text old c told new)
place_there tells text old new c row (answer.Reply told) is used half = in_place tells text old new c row told is used half
place_there tells text old new c row (answer.Full need have) is used half = tt
place_there tells text old new c row answer.DiskFault is used half = tt
place_there tells text old new c row answer.Closed is used half = tt

-- a call that has an entry is not one that only looks
pub kept_looked : {D : Type 0} (old new : D) (c : Call) (row : List ℕ) (r : JournalReply) → IsRowOf c row → IfReply r (λ told. entry_of c ≡ None → new ≡ old)
kept_looked old new c row (answer.Reply told) is = λ none. (let never : None ≡ Some is.0 = sym none ∙ is.1 in absurd (cc))
kept_looked old new c row (answer.Full need have) is = tt
kept_looked old new c row answer.DiskFault is = tt
kept_looked old new c row answer.Closed is = tt
