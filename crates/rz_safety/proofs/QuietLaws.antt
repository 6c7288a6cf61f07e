-- What a read of a quiet block is told, and how it then ends.
use Rattle.std.proofs.Common.{ℕ, Bool, true, false, ◌==◌, ◌≡◌, ◌⊎◌, inl, inr, ◌≤◌, List, [], ◌∷◌, ◌++◌, Option, Some, None, cond, refl, sym, ◌∙◌, ap, subst, arith}
use Rattle.std.proofs.lemmas.Bool.{eqb-true, eq-eqb}
use Rattle.rz_events.specs.Volume.{Volume}
use Rattle.rz_events.specs.declared.keys.Key.{Key}
use Rattle.rz_events.specs.declared.keys.Actor.{Actor}
use Rattle.rz_events.specs.declared.files.Published.{Published}
use Rattle.rz_events.specs.declared.ends.Denial.{Denial}
use Rattle.rz_events.specs.declared.ends.Denial.TheVariants as denial
use Rattle.rz_events.specs.declared.ends.ReadEnd.{ReadEnd}
use Rattle.rz_events.specs.declared.ends.ReadEnd.TheVariants as read
use Rattle.rz_events.specs.declared.export.Asked.TheVariants as asked
use Rattle.rz_events.specs.declared.events.Event.{Event}
use Rattle.rz_events.specs.declared.events.Event.TheVariants as e
use Rattle.rz_core.specs.History.{Facts, facts, of_actor, Has}
use Rattle.rz_core.specs.ExportWord.{accepted, with_length, is_live, is_made, is_gone}
use Rattle.rz_core.specs.ExportRows.{IsInFile, DeniedRow}
use Rattle.rz_core.specs.Own.{last, is_look, is_export}
use Rattle.rz_core.specs.OwnRows.{GotRow}
use Rattle.rz_core.specs.Legal.{IsLegalInRuns}
use Rattle.rz_core.proofs.Stamps.{export, accepted-latest, wrote-has}
use Rattle.rz_safety.specs.Reads.{IsAcked, IsQuiet, IsLookOf, is_look_denial, is_denied_look, before_look, before_export, before_read}
use Rattle.rz_safety.specs.Sound.{IsAnsweredBy, IsAnswering}
use Rattle.rz_safety.proofs.Acked.{acked-accepted, accepted-acked, acked-more}
use Rattle.rz_safety.proofs.ReadLaws.{IsLook, looked}
use Rattle.rz_safety.proofs.EndLaws.{IsNewest, newest-export, newest-legal, gone-more, gone_if, not_live, read_sound, answer_right}
use Rattle.rz_safety.proofs.KeptLaws.{acked-begun, accepted-made}

-- a read that was not denied at its look has looked the key up
has-looked : (v : Volume) (a : Actor) (h : List Event) (key : Key) (end : ReadEnd) → GotRow v (facts h) (of_actor a h) a key end → is_denied_look a h end ≡ false
    → (answer : Option Published) × (last is_look (of_actor a h) ≡ Some (e.Look a key answer))
has-looked v a h key (read.Found s text) r there = (Some r.looked.0, r.looked.1)
has-looked v a h key read.Hole r there = (None, r)
has-looked v a h key (read.TooFew seen) r there = (Some r.published, r.looked)
has-looked v a h key (read.Moved was now) r there = (Some r.looked.0, r.looked.1)
has-looked v a h key (read.Denied cause) (inl at_look) there = let so = ap is_look_denial at_look in cc
has-looked v a h key (read.Denied cause) (inr (again, (answer, is))) there = (answer, is)
has-looked v a h key read.Inconsistent r there = absurd r

-- and one that was denied at its look was told so of this key
was-denied : (v : Volume) (a : Actor) (h : List Event) (key : Key) (end : ReadEnd) → GotRow v (facts h) (of_actor a h) a key end → is_denied_look a h end ≡ true
    → (cause : Denial) × (last is_export (of_actor a h) ≡ Some (e.Denied a (asked.Look key) cause))
was-denied v a h key (read.Found s text) r there = cc
was-denied v a h key read.Hole r there = cc
was-denied v a h key (read.TooFew seen) r there = cc
was-denied v a h key (read.Moved was now) r there = cc
was-denied v a h key (read.Denied cause) (inl at_look) there = (cause, at_look)
was-denied v a h key (read.Denied cause) (inr (again, (answer, is))) there = let so = ap is_look_denial again in cc
was-denied v a h key read.Inconsistent r there = absurd r

-- a block that was written lies in its file
begun-in-file : (v : Volume) (h : List Event) → IsLegalInRuns v h → (by : Actor) (key : Key) (s base : ℕ) (text : List ℕ) → Has h (e.Begin by key s base text) → IsInFile key
begun-in-file v [] legal by key s base text has = absurd has
begun-in-file v (x ∷ h) legal by key s base text (inl is) = (subst (λ y. IsLegalInRuns v (y ∷ h)) is legal).1.row.block
begun-in-file v (x ∷ h) legal by key s base text (inr has) = begun-in-file v h legal.0 by key s base text has

acked-in-file : (v : Volume) (h : List Event) → IsLegalInRuns v h → (key : Key) (s : ℕ) → IsAcked h key s → IsInFile key
acked-in-file v h legal key s acked =
    let b = acked-begun v h legal key s acked in
    subst IsInFile b.2 (begun-in-file v h legal b.0.by b.0.key s b.0.base b.0.text (wrote-has h s b.0 b.1))

-- what was acknowledged earlier of a block that is quiet at s is at most s
quiet-most : (v : Volume) (more earlier : List Event) (key : Key) (s t : ℕ) → IsLegalInRuns v (more ++ earlier) → IsQuiet (more ++ earlier) key s → IsAcked earlier key t → t ≤ s
quiet-most v more earlier key s t legal quiet acked =
    let m = acked-accepted v (more ++ earlier) legal key t (acked-more more earlier key t acked) in
    let l = accepted-latest v (more ++ earlier) legal key m.0 m.1 in
    let q = quiet.newest in
    omega (arith, m.2, l, q)

-- a look of a key whose write was acknowledged is not denied where its file is live later
denied-none : (v : Volume) (a : Actor) (h : List Event) → IsLegalInRuns v h → (key : Key) (cause : Denial) → last is_export (of_actor a h) ≡ Some (e.Denied a (asked.Look key) cause)
    → is_live (export h) key.fid ≡ true → (s : ℕ) → ¬ IsAcked (before_export a h) key s
denied-none v a h legal key cause denied live s acked =
    by_cause cause rl.1.row
    (λ dead.
    let m = acked-accepted v hr rl.0 key s acked in
    let gone = gone_if (is_made (export hr) key.fid) (is_gone (export hr) key.fid) dead (accepted-made v hr rl.0 key m.0 m.1) in
    let still : is_gone (export h) key.fid ≡ true =
    subst (λ (z : List Event). is_gone (export z) key.fid ≡ true) n.rest.1 (gone-more n.rest.0 (e.Denied a (asked.Look key) cause ∷ hr) key.fid gone) in
    not_live (is_made (export h) key.fid) (is_gone (export h) key.fid) still live)
  where
    hr : List Event
    hr = before_export a h

    n : IsNewest h a (e.Denied a (asked.Look key) cause) hr
    n = newest-export a h (e.Denied a (asked.Look key) cause) denied

    rl : IsLegalInRuns v (e.Denied a (asked.Look key) cause ∷ hr)
    rl = newest-legal v a h hr (e.Denied a (asked.Look key) cause) legal n

    by_cause : (c : Denial) → DeniedRow (export hr) (asked.Look key) c → (is_live (export hr) key.fid ≡ false → ⊥) → ⊥
    by_cause denial.UnknownFile row dead = dead row
    by_cause denial.BlockTooFar row dead = let far = row.1 in let near = acked-in-file v hr rl.0 key s acked in absurd (omega (arith, far, near))
    by_cause denial.StampsSpent row dead = row
    by_cause (denial.OldLoss kept) row dead = row

-- nothing was told that is not accepted, and what is accepted is told
told_of : (f : Facts) (m : Option (ℕ × ℕ)) (a : ℕ × ℕ) → m ≡ Some a → (p : Published) × (with_length f m ≡ Some p) × (p.stamp ≡ a.0)
told_of f None a is = cc
told_of f (Some b) a is = let same : b ≡ a = cc in (record { stamp = b.0; mask = b.1; length = _ }, refl, ap (λ (z : ℕ × ℕ). z.0) same)

-- a read that looked the key up was told s, or s was not acknowledged then
looked-quiet : (v : Volume) (a : Actor) (h : List Event) → IsLegalInRuns v h → (key : Key) (s : ℕ) (answer : Option Published) → IsQuiet h key s
    → last is_look (of_actor a h) ≡ Some (e.Look a key answer)
    → ((p : Published) × (answer ≡ Some p) × (p.stamp ≡ s)) ⊎ ¬ IsAcked (before_look a h) key s
looked-quiet v a h legal key s answer quiet is = go (accepted (export earlier) key) refl
  where
    earlier : List Event
    earlier = before_look a h

    l : IsLook v earlier h a key answer
    l = looked v a h legal key answer is

    most : (t : ℕ) → IsAcked earlier key t → t ≤ s
    most t acked =
        let then : IsAcked (e.Look a key answer ∷ earlier) key t = (acked.0, acked.1, inr acked.2) in
        quiet-most v l.rest.0 (e.Look a key answer ∷ earlier) key s t (subst (IsLegalInRuns v) (sym l.rest.1) legal)
        (subst (λ (z : List Event). IsQuiet z key s) (sym l.rest.1) quiet) then

    go : (m : Option (ℕ × ℕ)) → accepted (export earlier) key ≡ m → ((p : Published) × (answer ≡ Some p) × (p.stamp ≡ s)) ⊎ ¬ IsAcked earlier key s
    go None none = inr (λ acked. let m = acked-accepted v earlier l.legal.0 key s acked in let e = sym none ∙ m.1 in cc)
    go (Some b) some =
        let t = told_of (facts earlier) (accepted (export earlier) key) b some in
        by_stamp t (b.0 == s) refl
      where
        by_stamp : (p : Published) × (with_length (facts earlier) (accepted (export earlier) key) ≡ Some p) × (p.stamp ≡ b.0) → (z : Bool) → (b.0 == s) ≡ z
            → ((p : Published) × (answer ≡ Some p) × (p.stamp ≡ s)) ⊎ ¬ IsAcked earlier key s
        by_stamp t true same = inl (t.0, l.legal.1.row.told ∙ t.1, t.2 ∙ eqb-true b.0 s same)
        by_stamp t false apart = inr (λ acked.
            let m = acked-accepted v earlier l.legal.0 key s acked in
            let e = sym some ∙ m.1 in
            let one : b ≡ m.0 = cc in
            let same = ap (λ (z : ℕ × ℕ). z.0) one in
            let up = m.2 in
            let low = most b.0 (accepted-acked earlier key b some) in
            let w = eq-eqb b.0 s (omega (arith, same, up, low)) in cc)

-- the law
quiet_read : (v : Volume) (a : Actor) (h : List Event) → IsLegalInRuns v h → (key : Key) (end : ReadEnd) → GotRow v (facts h) (of_actor a h) a key end
    → (s : ℕ) → IsQuiet h key s → is_live (export h) key.fid ≡ true → IsAnsweredBy v h a key s end ⊎ ¬ IsAcked (before_read a h end) key s
quiet_read v a h legal key end r s quiet live = go (is_denied_look a h end) refl
  where
    go : (b : Bool) → is_denied_look a h end ≡ b → IsAnsweredBy v h a key s end ⊎ ¬ IsAcked (cond b (before_export a h) (before_look a h)) key s
    go true there = let d = was-denied v a h key end r there in inr (denied-none v a h legal key d.0 d.1 live s)
    go false there =
        let w = has-looked v a h key end r there in
        elim (looked-quiet v a h legal key s w.0 quiet w.1) [
          | inl told ↦ (let look : IsLookOf a h end key told.0 = record { there = there; told = w.1 ∙ ap (λ (z : Option Published). Some (e.Look a key z)) told.1 } in
              let q = quiet.newest in
              let same = told.2 in
              inl (record {
                published = told.0;
                look = look;
                stamp_is = told.2;
                answer = answer_right v h legal (before_read a h end) key told.0 end (omega (arith, q, same)) ((read_sound v a h legal key end r).reached told.0 look live);
              }))
          | inr not_yet ↦ inr not_yet
        ]

pub answering : (v : Volume) (h : List Event) → IsLegalInRuns v h → IsAnswering v h
answering v [] legal = tt
answering v (e.Got by number key part end ∷ h) legal =
    (answering v h legal.0, λ s quiet live. quiet_read v by h legal.0 key end legal.1.row.0 s quiet live)
answering v (x ∷ h) legal = (answering v h legal.0, tt)
