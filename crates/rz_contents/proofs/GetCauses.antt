-- What the event of a read that ended says, where nobody acted beside the read.
use Rattle.std.proofs.Common.{ℕ, Bool, true, false, ◌&&◌, ◌≡◌, inl, inr, List, [], ◌∷◌, ◌++◌, Option, Some, None, is_some, cond, refl, sym, ◌∙◌, ap, subst}
use Rattle.rz_events.specs.Volume.{Volume}
use Rattle.rz_events.specs.declared.keys.Key.{Key}
use Rattle.rz_events.specs.declared.keys.Actor.{Actor}
use Rattle.rz_events.specs.declared.files.Published.{Published}
use Rattle.rz_events.specs.declared.ends.Denial.{Denial}
use Rattle.rz_events.specs.declared.ends.Denial.TheVariants as denial
use Rattle.rz_events.specs.declared.ends.Seen.{Seen}
use Rattle.rz_events.specs.declared.ends.ReadEnd.TheVariants as read
use Rattle.rz_events.specs.declared.ends.ReadMark.{ReadMark}
use Rattle.rz_events.specs.declared.ends.ReadMark.TheVariants as mark
use Rattle.rz_events.specs.declared.tree.TreeReply.TheVariants as tree
use Rattle.rz_events.specs.declared.tree.TreeCall.TheVariants as calls
use Rattle.rz_events.specs.declared.export.Asked.{Asked}
use Rattle.rz_events.specs.declared.export.Asked.TheVariants as asked
use Rattle.rz_events.specs.declared.events.Event.{Event}
use Rattle.rz_events.specs.declared.events.Event.TheVariants as e
use Rattle.rz_events.specs.Events.{by_of, same_actor}
use Rattle.rz_export_model.specs.Tree.{file_of}
use Rattle.rz_client_model.specs.declared.reading.ReaderState.{ReaderState}
use Rattle.rz_client_model.specs.declared.reading.ReadStage.{ReadStage}
use Rattle.rz_client_model.specs.declared.reading.ReadStage.TheVariants as reading
use Rattle.rz_operation_model.specs.Work.{Course, OnBlock, GetBlock, Opening, Reading}
use Rattle.rz_operation_model.specs.Steps.{read_end}
use Rattle.rz_core.specs.History.{Facts, Has, facts, of_actor, length_in, wrote}
use Rattle.rz_core.specs.ExportWord.{accepted, with_length, published, is_live}
use Rattle.rz_core.specs.ExportRows.{DeniedRow}
use Rattle.rz_core.specs.OwnRows.{GotRow}
use Rattle.rz_core.specs.Own.{last, is_look, is_export}
use Rattle.rz_core.specs.Legal.{IsLegalInRuns}
use Rattle.rz_core.proofs.Extends.{wrote-more}
use Rattle.rz_core.proofs.Stamps.{export, accepted-begun}
use Rattle.rz_safety.specs.Reads.{before_look, before_export, before_read, IsAcked}
use Rattle.rz_safety.specs.Sound.{IsSoundRead}
use Rattle.rz_safety.proofs.ReadLaws.{looked}
use Rattle.rz_safety.proofs.VersionLaws.{sound}
use Rattle.rz_contents.specs.Model.{changes, export_at, IsStill}
use Rattle.rz_contents.specs.Getting.{HasLook, IsGetEnd, IsGetStage}
use Rattle.rz_contents.specs.Causes.{IsReadCaused, AreGetsCaused}
use Rattle.rz_contents.proofs.Gets.{gets, inside, same_actor-refl}
use Rattle.rz_contents.proofs.Opened.{earlier-legal, loud, opening, leads_to_block}
use Rattle.rz_contents.proofs.PutCauses.{live-file-at, stays-live}

-- What is published stays while nothing changes.

accepted-still : (xs w : List Event) (key : Key) → IsStill xs → accepted (export (xs ++ w)) key ≡ accepted (export w) key
accepted-still [] w key quiet = refl
accepted-still (e.Publish by at stamp mask None ∷ xs) w key quiet = (let is = quiet.0 in cc)
accepted-still (e.Publish by at stamp mask (Some refused) ∷ xs) w key quiet = accepted-still xs w key quiet.1
accepted-still (_ ∷ xs) w key quiet = accepted-still xs w key quiet.1

lengths : (v : Volume) (xs w : List Event) (key : Key) → IsLegalInRuns v w → (m : Option (ℕ × ℕ)) → accepted (export w) key ≡ m
    → with_length (facts (xs ++ w)) m ≡ with_length (facts w) m
lengths v xs w key legal None is = refl
lengths v xs w key legal (Some a) is =
    let b = accepted-begun v w legal key a is in
    ap (λ o. Some (record { stamp = a.0; mask = a.1; length = length_in o })) (wrote-more xs w a.0 b.0 b.1 ∙ sym b.1)

published-still : (v : Volume) (xs w : List Event) (key : Key) → IsLegalInRuns v (xs ++ w) → IsLegalInRuns v w → IsStill xs
    → published (facts (xs ++ w)) (export (xs ++ w)) key ≡ published (facts w) (export w) key
published-still v xs w key legal before quiet =
    ap (with_length (facts (xs ++ w))) (accepted-still xs w key quiet) ∙ lengths v xs w key before (accepted (export w) key) refl

-- Nothing is acknowledged while nothing changes.
acked-still : (more w : List Event) (key : Key) (s : ℕ) → IsStill more → IsAcked (more ++ w) key s → IsAcked w key s
acked-still [] w key s quiet is = is
acked-still (x ∷ more) w key s quiet (by, mask, inl here) = (let no : changes (e.Publish by key s mask None) ≡ false = ap changes (sym here) ∙ quiet.0 in cc)
acked-still (x ∷ more) w key s quiet (by, mask, inr older) = acked-still more w key s quiet.1 (by, mask, older)

-- The actor's newest call of the export.

newest-export : (a : Actor) (h : List Event) (x : Event) → last is_export (of_actor a h) ≡ Some x → (more : List Event) × (more ++ (x ∷ before_export a h) ≡ h)
newest-export a [] x is = cc
newest-export a (y ∷ h) x is = go (newest-export a h x) (same_actor a (by_of y)) (is_export y) refl is
  where
    go : (last is_export (of_actor a h) ≡ Some x → (more : List Event) × (more ++ (x ∷ before_export a h) ≡ h)) → (mine exports : Bool) → is_export y ≡ exports
        → last is_export (cond mine (y ∷ of_actor a h) (of_actor a h)) ≡ Some x → (more : List Event) × (more ++ (x ∷ cond (mine && exports) h (before_export a h)) ≡ y ∷ h)
    go next false exports own found = (let i = next found in (y ∷ i.0, ap (λ (l : List Event). y ∷ l) i.1))
    go next true false own found =
        let older : last is_export (of_actor a h) ≡ Some x = sym (ap (λ b. cond b (Some y) (last is_export (of_actor a h))) own) ∙ found in
        let i = next older in (y ∷ i.0, ap (λ (l : List Event). y ∷ l) i.1)
    go next true true own found =
        let here : Some y ≡ Some x = sym (ap (λ b. cond b (Some y) (last is_export (of_actor a h))) own) ∙ found in
        let same : y ≡ x = cc in ([], ap (λ (z : Event). z ∷ h) (sym same))

-- it is one of these events, where one of them is of the export
pub record IsWithin (by : Actor) (xs old : List Event) : Type 0 where
  pub rest : List Event
  pub still : IsStill rest
  pub before_is : before_export by (xs ++ old) ≡ rest ++ old

within : (by : Actor) (xs old : List Event) (x : Event) → IsStill xs → (same_actor by (by_of x) && is_export x) ≡ true → Has xs x → IsWithin by xs old
within by [] old x quiet own has = absurd has
within by (y ∷ xs) old x quiet own has = go (within by xs old x quiet.1 own) (same_actor by (by_of y) && is_export y) refl has
  where
    go : (Has xs x → IsWithin by xs old) → (b : Bool) → (same_actor by (by_of y) && is_export y) ≡ b → Has (y ∷ xs) x → IsWithin by (y ∷ xs) old
    go next true is there = record { rest = xs; still = quiet.1; before_is = ap (λ b. cond b (xs ++ old) (before_export by (xs ++ old))) is }
    go next false is (inl here) = (let yes = subst (λ z. (same_actor by (by_of z) && is_export z) ≡ true) (sym here) own in cc)
    go next false is (inr older) = (let i = next older in record {
      rest = i.rest;
      still = i.still;
      before_is = ap (λ b. cond b (xs ++ old) (before_export by (xs ++ old))) is ∙ i.before_is;
    })

has-last : (later : List Event) (x : Event) → Has (later ++ (x ∷ [])) x
has-last [] x = inl refl
has-last (y ∷ later) x = inr (has-last later x)

-- The event of the end.

module _ (v : Volume) (old xs : List Event) (by : Actor) (first : Event) (key : Key) (legal : IsLegalInRuns v (xs ++ old)) (before : IsLegalInRuns v old) (quiet : IsStill xs)
    (there : is_some (file_of (export_at v old).tree key.fid) ≡ true) (own : (same_actor by (by_of first) && is_export first) ≡ true) (has : Has xs first) where
  live : is_live (export (xs ++ old)) key.fid ≡ true
  live = stays-live v xs old legal quiet key.fid there

  -- what the look was told was published before the read
  told-before : HasLook by xs → (p : Published) → last is_look (of_actor by (xs ++ old)) ≡ Some (e.Look by key (Some p)) → published (facts old) (export old) key ≡ Some p
  told-before look p is =
      let l = looked v by (xs ++ old) legal key (Some p) is in
      let i = inside by xs old quiet look in
      let start = before_look by (xs ++ old) in
      let more : IsLegalInRuns v (i.more ++ start) = subst (IsLegalInRuns v) (sym i.there) legal in
      sym (published-still v xs old key legal before quiet)
      ∙ ap (λ (h : List Event). published (facts h) (export h) key) (sym i.there)
      ∙ published-still v i.more start key more l.legal.0 i.still
      ∙ sym l.legal.1.row.told

  denied : (question : Asked) (cause : Denial) → last is_export (of_actor by (xs ++ old)) ≡ Some (e.Denied by question cause)
      → (rest : List Event) × IsStill rest × IsLegalInRuns v (rest ++ old) × DeniedRow (export (rest ++ old)) question cause
  denied question cause is =
      let n = newest-export by (xs ++ old) (e.Denied by question cause) is in
      let w = within by xs old first quiet own has in
      let all : IsLegalInRuns v (n.0 ++ (e.Denied by question cause ∷ before_export by (xs ++ old))) = subst (IsLegalInRuns v) (sym n.1) legal in
      let one : IsLegalInRuns v (e.Denied by question cause ∷ before_export by (xs ++ old)) = earlier-legal v n.0 (e.Denied by question cause ∷ before_export by (xs ++ old)) all in
      let here : IsLegalInRuns v (e.Denied by question cause ∷ w.rest ++ old) = subst (λ (h : List Event). IsLegalInRuns v (e.Denied by question cause ∷ h)) w.before_is one in
      (w.rest, w.still, here.0, here.1.row)

  not-unknown : (rest : List Event) → IsStill rest → IsLegalInRuns v (rest ++ old) → is_live (export (rest ++ old)) key.fid ≡ false → ⊥
  not-unknown rest so at dead = let alive = stays-live v rest old at so key.fid there in cc

  look-denied : (cause : Denial) → last is_export (of_actor by (xs ++ old)) ≡ Some (e.Denied by (asked.Look key) cause) → IsReadCaused v old key (mark.Denied cause)
  look-denied denial.BlockTooFar is = (denied (asked.Look key) denial.BlockTooFar is).3.1
  look-denied denial.UnknownFile is = let d = denied (asked.Look key) denial.UnknownFile is in not-unknown d.0 d.1 d.2 d.3
  look-denied denial.StampsSpent is = (denied (asked.Look key) denial.StampsSpent is).3
  look-denied (denial.OldLoss kept) is = (denied (asked.Look key) (denial.OldLoss kept) is).3

  recheck-denied : (cause : Denial) → last is_export (of_actor by (xs ++ old)) ≡ Some (e.Denied by (asked.Recheck key) cause) → IsReadCaused v old key (mark.Denied cause)
  recheck-denied denial.BlockTooFar is = (denied (asked.Recheck key) denial.BlockTooFar is).3.1
  recheck-denied denial.UnknownFile is = let d = denied (asked.Recheck key) denial.UnknownFile is in not-unknown d.0 d.1 d.2 d.3
  recheck-denied denial.StampsSpent is = (denied (asked.Recheck key) denial.StampsSpent is).3
  recheck-denied (denial.OldLoss kept) is = (denied (asked.Recheck key) (denial.OldLoss kept) is).3

  module _ (number : ℕ) (text : List ℕ) where
    caused : (m : ReadMark) → IsLegalInRuns v (e.Got by number key false (read_end text m) ∷ xs ++ old) → IsGetEnd by xs m → IsReadCaused v old key m
    caused (mark.Found stamp size) got look = tt
    caused mark.Hole got look = tt
    caused mark.Inconsistent got look = got.1.row.0
    caused (mark.Denied cause) got look = elim got.1.row.0 [ inl is ↦ look-denied cause is | inr is ↦ recheck-denied cause is.0 ]
    caused (mark.TooFew seen) got look =
        let row = got.1.row.0 in
        let s = (sound v (e.Got by number key false (read.TooFew seen) ∷ xs ++ old) got).1 in
        (row.published, told-before look row.published row.looked, s.reached row.published (record { there = refl; told = row.looked }) live)
    caused (mark.Moved was now) got look =
        let row = got.1.row.0 in
        let s = (sound v (e.Got by number key false (read.Moved was now) ∷ xs ++ old) got).1 in
        let moved = s.reached row.looked.0 (record { there = refl; told = row.looked.1 }) live in
        let i = inside by xs old quiet look in
        let acked : IsAcked (i.more ++ before_look by (xs ++ old)) key now = subst (λ (h : List Event). IsAcked h key now) (sym i.there) moved.acked in
        moved.later (acked-still i.more (before_look by (xs ++ old)) key now i.still acked)

pub gets_caused : (v : Volume) → AreGetsCaused v
gets_caused v old xs by number path block text course s m got turns ended =
    let get = gets v.layout by number path block xs (Reading course s) (loud v.layout by number (Opening path (OnBlock (GetBlock block))) xs (Reading course s) turns) in
    let at = (leads_to_block v old xs by number path (GetBlock block) (Reading course s) got.0 turns).1 in
    let first = (opening v.layout by number path (GetBlock block) xs (Reading course s) turns).1 in
    let x : Event = e.Meta by (calls.OpenFile path) (tree.File first.0) in
    let there : is_some (file_of (export_at v old).tree s.key.fid) ≡ true =
    subst (λ (k : Key). is_some (file_of (export_at v old).tree k.fid) ≡ true) (sym at.key_is) (live-file-at (export_at v old).tree path at.file at.at) in
    caused v old xs by x s.key got.0 (earlier-legal v xs old got.0) get.0 there (ap (λ b. b && true) (same_actor-refl by))
    (subst (λ (l : List Event). Has l x) (sym first.1.xs_is) (has-last first.1.later x)) number text m got (subst (IsGetStage by xs) ended get.2)
