-- What a read of a legal history found.
use Rattle.std.proofs.Common.{ℕ, Bool, true, false, ◌≡◌, List, [], ◌∷◌, ◌++◌, Option, Some, None, cond, refl, sym, ◌∙◌, ap, subst, arith}
use Rattle.rz_events.specs.Volume.{Volume}
use Rattle.rz_events.specs.declared.keys.Key.{Key}
use Rattle.rz_events.specs.declared.keys.Actor.{Actor}
use Rattle.rz_events.specs.declared.files.Published.{Published}
use Rattle.rz_events.specs.declared.events.Event.{Event}
use Rattle.rz_events.specs.declared.events.Event.TheVariants as e
use Rattle.rz_events.specs.Events.{by_of, same_actor}
use Rattle.rz_core.specs.History.{Facts, Begun, wrote, facts, of_actor, Has}
use Rattle.rz_core.specs.ExportWord.{accepted, with_length}
use Rattle.rz_core.specs.Own.{last, is_look}
use Rattle.rz_core.specs.OwnRows.{FoundRow}
use Rattle.rz_core.specs.Legal.{IsLegalInRuns}
use Rattle.rz_core.proofs.Extends.{wrote-more, some_length}
use Rattle.rz_core.proofs.Stamps.{export, wrote-has, accepted-begun}
use Rattle.rz_safety.specs.Reads.{IsAcked, before_look}
use Rattle.rz_safety.specs.Sound.{IsSoundFound}
use Rattle.rz_safety.proofs.Acked.{acked-accepted, accepted-acked}

-- the actor's newest look stands after `before`, was of a block of a live file, and was told what was published then
pub record IsLook (v : Volume) (before h : List Event) (a : Actor) (key : Key) (answer : Option Published) : Type 0 where
  pub legal : IsLegalInRuns v (e.Look a key answer ∷ before)
  pub rest : (more : List Event) × (more ++ (e.Look a key answer ∷ before) ≡ h)

keep_look : (v : Volume) (x : Event) (before h : List Event) (a : Actor) (key : Key) (answer : Option Published) → IsLook v before h a key answer → IsLook v before (x ∷ h) a key answer
keep_look v x before h a key answer i = record { legal = i.legal; rest = (x ∷ i.rest.0, ap (λ (l : List Event). x ∷ l) i.rest.1) }

look_cases : (v : Volume) (mine : Bool) (a : Actor) (at key : Key) (said answer : Option Published) (by : Actor) (h : List Event)
    → IsLegalInRuns v (e.Look by at said ∷ h)
    → last is_look (cond mine (e.Look by at said ∷ of_actor a h) (of_actor a h)) ≡ Some (e.Look a key answer)
    → (last is_look (of_actor a h) ≡ Some (e.Look a key answer) → IsLook v (before_look a h) h a key answer)
    → IsLook v (cond mine h (before_look a h)) (e.Look by at said ∷ h) a key answer
look_cases v true a at key said answer by h legal k rest =
    let same : e.Look by at said ≡ e.Look a key answer = cc in
    record { legal = subst (λ (x : Event). IsLegalInRuns v (x ∷ h)) same legal; rest = ([], ap (λ (x : Event). x ∷ h) (sym same)) }
look_cases v false a at key said answer by h legal k rest =
    keep_look v (e.Look by at said) (before_look a h) h a key answer (rest k)

pub skip : (mine : Bool) (x : Event) (o : List Event) → is_look x ≡ false → last is_look (cond mine (x ∷ o) o) ≡ last is_look o
skip true x o e = rw e refl
skip false x o e = refl

pub looked : (v : Volume) (a : Actor) (h : List Event) → IsLegalInRuns v h → (key : Key) (answer : Option Published) → last is_look (of_actor a h) ≡ Some (e.Look a key answer) → IsLook v (before_look a h) h a key answer
looked v a [] legal key answer k = cc
looked v a (e.Look by at said ∷ h) legal key answer k =
    look_cases v (same_actor a by) a at key said answer by h legal k (looked v a h legal.0 key answer)
looked v a (x ∷ h) legal key answer k =
    keep_look v x (before_look a h) h a key answer (looked v a h legal.0 key answer (sym (skip (same_actor a (by_of x)) x (of_actor a h) refl) ∙ k))

-- a write that was known at the look is known now
pub look-rest : (v : Volume) (before h : List Event) (a : Actor) (key : Key) (answer : Option Published) → IsLook v before h a key answer
    → (s : ℕ) (b : Begun) → wrote before s ≡ Some b → wrote h s ≡ Some b
look-rest v before h a key answer i s b k =
    subst (λ (l : List Event). wrote l s ≡ Some b) i.rest.1
    (wrote-more i.rest.0 (e.Look a key answer ∷ before) s b (wrote-more (e.Look a key answer ∷ []) before s b k))

-- nothing was published where nothing was told
none_length : (f : Facts) (m : Option (ℕ × ℕ)) → None ≡ with_length f m → m ≡ None
none_length f None k = refl
none_length f (Some a) k = cc

pub found_sound : (v : Volume) (a : Actor) (h : List Event) → IsLegalInRuns v h → (key : Key) (s : ℕ) (text : List ℕ) → FoundRow v (facts h) (of_actor a h) a key s text → IsSoundFound (before_look a h) h a key s text
found_sound v a h legal key s text r =
    let l = looked v a h legal key (Some r.looked.0) r.looked.1 in
    let told = l.legal.1.row.told in
    let p = some_length (facts (before_look a h)) (accepted (export (before_look a h)) key) r.looked.0 told in
    let same : p.0.0 ≡ s = sym p.2 ∙ r.looked.2 in
    let b = accepted-begun v (before_look a h) l.legal.0 key p.0 p.1 in
    let known : wrote h s ≡ Some b.0 = subst (λ n. wrote h n ≡ Some b.0) same (look-rest v (before_look a h) h a key (Some r.looked.0) l _ _ b.1) in
    let one : b.0 ≡ r.wrote.0 = cc in
    let has = wrote-has h s b.0 known in
    record {
      one_write = (b.0.by, b.0.base, subst (λ q. Has h (e.Begin b.0.by q.0 s b.0.base q.1)) (pair b.2 (ap (λ (w : Begun). w.text) one ∙ r.wrote.2)) has);
      looked = (r.looked.0, record { there = refl; told = r.looked.1 }, r.looked.2);
      acked = subst (λ n. IsAcked (before_look a h) key n) same (accepted-acked (before_look a h) key p.0 p.1);
      newest = λ t k. let m = acked-accepted v (before_look a h) l.legal.0 key t k in
          let agree : m.0 ≡ p.0 = cc in let agree0 = ap (λ (w : ℕ × ℕ). w.0) agree in omega (arith, m.2, same, agree0);
    }
  where
    pair : {A B : Type 0} {x y : A} {u v : B} → x ≡ y → u ≡ v → (let p : A × B = (x, u) in p) ≡ (y, v)
    pair p q = cc

pub hole_sound : (v : Volume) (a : Actor) (h : List Event) → IsLegalInRuns v h → (key : Key) → last is_look (of_actor a h) ≡ Some (e.Look a key None) → (t : ℕ) → ¬ IsAcked (before_look a h) key t
hole_sound v a h legal key k t acked =
    let l = looked v a h legal key None k in
    let none = none_length (facts (before_look a h)) (accepted (export (before_look a h)) key) l.legal.1.row.told in
    let m = acked-accepted v (before_look a h) l.legal.0 key t acked in let e = sym none ∙ m.1 in cc
