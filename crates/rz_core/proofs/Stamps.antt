-- Stamps and publishes of a legal history.
use Rattle.std.proofs.Common.{ℕ, Bool, true, false, ◌==◌, ◌≡◌, ◌⊎◌, inl, inr, ◌≤◌, ◌<◌, List, [], ◌∷◌, ◌++◌, Option, Some, None, cond, refl, sym, ◌∙◌, ap, subst, arith, ◌&&◌, nat_lt}
use Rattle.std.proofs.lemmas.Bool.{eqb-true, eq-eqb, and_parts, ltb-true, lt-ltb}
use Rattle.rz_events.specs.Volume.{Volume}
use Rattle.rz_events.specs.declared.keys.Key.{Key}
use Rattle.rz_events.specs.declared.keys.Actor.{Actor}
use Rattle.rz_events.specs.declared.events.Word.TheVariants.{Export}
use Rattle.rz_events.specs.declared.events.Event.{Event}
use Rattle.rz_events.specs.declared.events.Event.TheVariants as e
use Rattle.rz_events.specs.Events.{same_key}
use Rattle.rz_export_model.specs.Export.{is_mask}
use Rattle.rz_core.specs.History.{Begun, wrote, begun_by, first_some, of_word, Has}
use Rattle.rz_core.specs.ExportWord.{last_drawn, latest, accepted, is_newer, greater}
use Rattle.rz_core.specs.Legal.{IsLegalInRuns}
use Rattle.rz_core.proofs.Extends.{wrote-more}

-- the events of the export
abbrev pub export : List Event → List Event
export h = of_word Export h

pub key_ext : (a b : Key) → a.fid ≡ b.fid → a.block ≡ b.block → a ≡ b
key_ext a b p q =
    let on_fid = λ (n : ℕ). (let k : Key = record { fid = n; block = a.block } in k) in
    let on_block = λ (n : ℕ). (let k : Key = record { fid = b.fid; block = n } in k) in
    ap on_fid p ∙ ap on_block q

pub same_key-true : (a b : Key) → same_key a b ≡ true → a ≡ b
same_key-true a b h = let p = and_parts _ _ h in key_ext a b (eqb-true _ _ p.0) (eqb-true _ _ p.1)

pub same_key-refl : (a : Key) → same_key a a ≡ true
same_key-refl a = rw (eq-eqb a.fid a.fid refl, eq-eqb a.block a.block refl) refl

-- where a write stands
first_cases : {A : Type 0} (m n : Option A) (b : A) → first_some m n ≡ Some b → (m ≡ Some b) ⊎ (n ≡ Some b)
first_cases None n b e = inr e
first_cases (Some a) n b e = inl e

pub wrote-cases : (x : Event) (h : List Event) (s : ℕ) (b : Begun) → wrote (x ∷ h) s ≡ Some b → (wrote h s ≡ Some b) ⊎ (begun_by s x ≡ Some b)
wrote-cases x h s b k = first_cases (wrote h s) (begun_by s x) b k

begin_is : (t : Bool) (by : Actor) (key : Key) (stamp base s : ℕ) (text : List ℕ) (b : Begun) → (s == stamp) ≡ t
    → cond t (Some (let r : Begun = record { by = by; key = key; base = base; text = text } in r)) None ≡ Some b
    → e.Begin by key stamp base text ≡ e.Begin b.by b.key s b.base b.text
begin_is true by key stamp base s text b same k = rw (eqb-true s stamp same) (cc)
begin_is false by key stamp base s text b same k = cc

pub begun_by-is : (s : ℕ) (x : Event) (b : Begun) → begun_by s x ≡ Some b → x ≡ e.Begin b.by b.key s b.base b.text
begun_by-is s (e.Begin by key stamp base text) b k = begin_is (s == stamp) by key stamp base s text b refl k
begun_by-is s (_) b k = cc

pub cases_le : (a b : ℕ) → (b ≤ a) ⊎ (a < b)
cases_le a b = grind arith

pub greater-left : (a b : ℕ) → a ≤ greater a b
greater-left a b = go (nat_lt a b) refl
  where
    go : (t : Bool) → nat_lt a b ≡ t → a ≤ cond t b a
    go true q = let l = ltb-true a b q in omega arith
    go false q = omega arith

pub greater-right : (a b : ℕ) → b ≤ greater a b
greater-right a b = go (nat_lt a b) refl
  where
    go : (t : Bool) → nat_lt a b ≡ t → b ≤ cond t b a
    go true q = omega arith
    go false q = elim (cases_le a b) [ inl l ↦ l | inr l ↦ (let w = lt-ltb a b l in cc) ]

-- the greatest number drawn rises
pub last_drawn-more : (v : Volume) (x : Event) (h : List Event) → IsLegalInRuns v (x ∷ h) → last_drawn (export h) ≤ last_drawn (export (x ∷ h))
last_drawn-more v (e.Begin by key stamp base text) h legal = let n = legal.1.row.next in omega arith
last_drawn-more v (e.Enroll by node loss fence) h legal = greater-right fence (last_drawn (export h))
last_drawn-more v (_) h legal = omega arith

-- each begun stamp was drawn
pub drawn : (v : Volume) (h : List Event) → IsLegalInRuns v h → (s : ℕ) (b : Begun) → wrote h s ≡ Some b → s ≤ last_drawn (export h)
drawn v [] legal s b k = cc
drawn v (x ∷ h) legal s b k =
    elim (wrote-cases x h s b k) [
      | inl old ↦ (let i = drawn v h legal.0 s b old in let m = last_drawn-more v x h legal in omega arith)
      | inr new ↦ rw (begun_by-is s x b new) (omega arith)
    ]

begin_latest : (t : Bool) (old stamp : ℕ) → old ≤ stamp → cond t stamp old ≤ stamp
begin_latest true old stamp l = omega arith
begin_latest false old stamp l = l

latest_rises : (t : Bool) (old stamp : ℕ) → old ≤ stamp → old ≤ cond t stamp old
latest_rises true old stamp l = l
latest_rises false old stamp l = omega arith

-- the newest stamp begun on a key was drawn
pub latest-drawn : (v : Volume) (h : List Event) → IsLegalInRuns v h → (key : Key) → latest (export h) key ≤ last_drawn (export h)
latest-drawn v [] legal key = omega arith
latest-drawn v (e.Begin by at stamp base text ∷ h) legal key =
    let n = legal.1.row.next in
    let i = latest-drawn v h legal.0 key in
    begin_latest (same_key key at) (latest (export h) key) stamp (omega arith)
latest-drawn v (e.Enroll by node loss fence ∷ h) legal key =
    let i = latest-drawn v h legal.0 key in
    let g = greater-right fence (last_drawn (export h)) in omega arith
latest-drawn v (x ∷ h) legal key = latest-drawn v h legal.0 key

-- the newest stamp of a key rises
pub latest-more : (v : Volume) (x : Event) (h : List Event) → IsLegalInRuns v (x ∷ h) → (key : Key) → latest (export h) key ≤ latest (export (x ∷ h)) key
latest-more v (e.Begin by at stamp base text) h legal key =
    let n = legal.1.row.next in
    let i = latest-drawn v h legal.0 key in
    latest_rises (same_key key at) (latest (export h) key) stamp (omega arith)
latest-more v (_) h legal key = omega arith

-- each write of a key is at most the newest
pub begun-latest : (v : Volume) (h : List Event) → IsLegalInRuns v h → (s : ℕ) (b : Begun) → wrote h s ≡ Some b → s ≤ latest (export h) b.key
begun-latest v [] legal s b k = cc
begun-latest v (x ∷ h) legal s b k =
    elim (wrote-cases x h s b k) [
      | inl old ↦ (let i = begun-latest v h legal.0 s b old in let m = latest-more v x h legal b.key in omega arith)
      | inr new ↦ rw (begun_by-is s x b new, same_key-refl b.key) (omega arith)
    ]

-- the accepted publish of a key is of a write of the key
pub accepted_cases : (t : Bool) (s m : ℕ) (old : Option (ℕ × ℕ)) (a : ℕ × ℕ) → cond t (Some (s, m)) old ≡ Some a → ((t ≡ true) × (s ≡ a.0) × (m ≡ a.1)) ⊎ ((t ≡ false) × (old ≡ Some a))
accepted_cases true s m old a k = inl (refl, cc, cc)
accepted_cases false s m old a k = inr (refl, k)

pub accepted-begun : (v : Volume) (h : List Event) → IsLegalInRuns v h → (key : Key) (a : ℕ × ℕ) → accepted (export h) key ≡ Some a
    → (b : Begun) × (wrote h a.0 ≡ Some b) × (b.key ≡ key)
accepted-begun v [] legal key a k = cc
accepted-begun v (e.Publish by at stamp mask None ∷ h) legal key a k =
    elim (accepted_cases (same_key key at && is_newer stamp (accepted (export h) key)) stamp mask (accepted (export h) key) a k) [
      | inl here ↦ (let w = legal.1.row.publishable.publishing.writer in
          (w.0, wrote-more (e.Publish by at stamp mask None ∷ []) h a.0 w.0 (ap (wrote h) (sym here.1) ∙ w.1.found), w.1.key_is ∙ sym (same_key-true key at (and_parts _ _ here.0).0)))
      | inr old ↦ (let i = accepted-begun v h legal.0 key a old.1 in (i.0, wrote-more (e.Publish by at stamp mask None ∷ []) h a.0 i.0 i.1, i.2))
    ]
accepted-begun v (x ∷ h) legal key a k =
    let i = accepted-begun v h legal.0 key a k in (i.0, wrote-more (x ∷ []) h a.0 i.0 i.1, i.2)

-- its stamp is at most the newest begun
pub accepted-latest : (v : Volume) (h : List Event) → IsLegalInRuns v h → (key : Key) (a : ℕ × ℕ) → accepted (export h) key ≡ Some a → a.0 ≤ latest (export h) key
accepted-latest v h legal key a k =
    let b = accepted-begun v h legal key a k in
    let l = begun-latest v h legal a.0 b.0 b.1 in
    subst (λ q. a.0 ≤ latest (export h) q) b.2 l

-- a write that is known stands as its begin
pub wrote-has : (h : List Event) (s : ℕ) (b : Begun) → wrote h s ≡ Some b → Has h (e.Begin b.by b.key s b.base b.text)
wrote-has [] s b k = cc
wrote-has (x ∷ h) s b k =
    elim (wrote-cases x h s b k) [ inl old ↦ inr (wrote-has h s b old) | inr new ↦ inl (begun_by-is s x b new) ]

-- the mask that counts names a quorum
pub accepted-mask : (v : Volume) (h : List Event) → IsLegalInRuns v h → (key : Key) (a : ℕ × ℕ) → accepted (export h) key ≡ Some a → is_mask v.layout a.1 ≡ true
accepted-mask v [] legal key a k = cc
accepted-mask v (e.Publish by at stamp mask None ∷ h) legal key a k =
    elim (accepted_cases (same_key key at && is_newer stamp (accepted (export h) key)) stamp mask (accepted (export h) key) a k) [
      | inl here ↦ subst (λ m. is_mask v.layout m ≡ true) here.2 legal.1.row.publishable.publishing.quorum
      | inr old ↦ accepted-mask v h legal.0 key a old.1
    ]
accepted-mask v (x ∷ h) legal key a k = accepted-mask v h legal.0 key a k

some_more : (u : Bool) (stamp mask : ℕ) (a : ℕ × ℕ)
    → (c : ℕ × ℕ) × (cond (u && nat_lt a.0 stamp) (Some (stamp, mask)) (Some a) ≡ Some c) × (a.0 ≤ c.0)
some_more false stamp mask a = (a, refl, omega arith)
some_more true stamp mask a = go (nat_lt a.0 stamp) refl
  where
    go : (t : Bool) → nat_lt a.0 stamp ≡ t → (c : ℕ × ℕ) × (cond t (Some (stamp, mask)) (Some a) ≡ Some c) × (a.0 ≤ c.0)
    go true q = let l = ltb-true a.0 stamp q in ((stamp, mask), refl, omega arith)
    go false q = (a, refl, omega arith)

-- what is accepted rises
pub accepted-more : (more h : List Event) (key : Key) (a : ℕ × ℕ) → accepted (export h) key ≡ Some a
    → (c : ℕ × ℕ) × (accepted (export (more ++ h)) key ≡ Some c) × (a.0 ≤ c.0)
accepted-more [] h key a k = (a, k, omega arith)
accepted-more (e.Publish by at stamp mask None ∷ more) h key a k =
    let (c, is, l) = accepted-more more h key a k in
    let (d, so, m) = some_more (same_key key at) stamp mask c in
    (d, subst (λ (o : Option (ℕ × ℕ)). cond (same_key key at && is_newer stamp o) (Some (stamp, mask)) o ≡ Some d) (sym is) so, omega arith)
accepted-more (x ∷ more) h key a k = accepted-more more h key a k

-- each begun stamp is at least 1
pub positive : (v : Volume) (h : List Event) → IsLegalInRuns v h → (s : ℕ) (b : Begun) → wrote h s ≡ Some b → 1 ≤ s
positive v [] legal s b k = cc
positive v (e.Begin by at stamp base text ∷ h) legal s b k =
    elim (wrote-cases (e.Begin by at stamp base text) h s b k) [
      | inl old ↦ positive v h legal.0 s b old
      | inr new ↦ (let same = begun_by-is s (e.Begin by at stamp base text) b new in let st : stamp ≡ s = cc in let n = legal.1.row.next in omega arith)
    ]
positive v (x ∷ h) legal s b k = elim (wrote-cases x h s b k) [ inl old ↦ positive v h legal.0 s b old | inr new ↦ cc ]
