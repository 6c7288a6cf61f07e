-- Records of a key that fall by stamp: the ones that are found decide them.
use Rattle.std.proofs.Common.{ℕ, Bool, true, false, ◌==◌, ◌||◌, ◌≡◌, ◌⊎◌, inl, inr, ◌<◌, ◌≤◌, List, [], ◌∷◌, map, Some, None, is_some, cond, refl, sym, ◌∙◌, ap, ap₂, arith, eq-eqb}
use Rattle.std.proofs.lemmas.Bool.{eqb-true, cases_lt}
use Rattle.std.specs.List.{AllByRecursion}
use Rattle.rz_events.specs.declared.records.Held.{Held}
use Rattle.rz_node_model.specs.Records.{found, stamp_of}
use Rattle.rz_node_model.specs.Versions.{has_stamp}
use Rattle.rz_node.specs.HeldOnDisk.{Falls}
use Rattle.rz_core.specs.NodeWord.{itself}
use Rattle.rz_core.proofs.NodeLaws.{IsPair}

-- a record is found exactly where its stamp is there
pub found-has : (s : ℕ) (rs : List Held) → is_some (found s rs) ≡ has_stamp stamp_of s rs
found-has s [] = refl
found-has s (r ∷ rs) = go (r.stamp == s) (found-has s rs)
  where
    go : (b : Bool) → is_some (found s rs) ≡ has_stamp stamp_of s rs → is_some (cond b (Some r) (found s rs)) ≡ (b || has_stamp stamp_of s rs)
    go true rest = refl
    go false rest = rest

unlike : (a b : ℕ) → ¬ (a ≡ b) → (a == b) ≡ false
unlike a b other = go (a == b) refl
  where
    go : (t : Bool) → (a == b) ≡ t → (a == b) ≡ false
    go true is = absurd (other (eqb-true a b is))
    go false is = is

-- each record has a smaller stamp
abbrev AreBelow : ℕ → List Held → Type 0
AreBelow s rs = AllByRecursion (λ (r : Held). r.stamp < s) rs

below-more : (s t : ℕ) (rs : List Held) → s < t → AreBelow s rs → AreBelow t rs
below-more s t [] low all = tt
below-more s t (r ∷ rs) low all = let first = all.0 in (omega (arith, low, first), below-more s t rs low all.1)

falls-below : (r : Held) (rs : List Held) → Falls (r ∷ rs) → AreBelow r.stamp rs
falls-below r [] falls = tt
falls-below r (q ∷ rs) falls = (falls.0, below-more q.stamp r.stamp rs falls.0 (falls-below q rs falls.1))

falls-tail : (r : Held) (rs : List Held) → Falls (r ∷ rs) → Falls rs
falls-tail r [] falls = tt
falls-tail r (q ∷ rs) falls = falls.1

-- a stamp above all is not found
found-above : (s t : ℕ) (rs : List Held) → s ≤ t → AreBelow s rs → found t rs ≡ None
found-above s t [] low all = refl
found-above s t (r ∷ rs) low all =
    let first = all.0 in
    ap (λ b. cond b (Some r) (found t rs)) (unlike r.stamp t (λ is. omega (arith, low, first, is))) ∙ found-above s t rs low all.1

found-first : (r : Held) (rs : List Held) → found r.stamp (r ∷ rs) ≡ Some r
found-first r rs = ap (λ b. cond b (Some r) (found r.stamp rs)) (eq-eqb r.stamp r.stamp refl)

found-later : (s : ℕ) (r : Held) (rs : List Held) → ¬ (r.stamp ≡ s) → found s (r ∷ rs) ≡ found s rs
found-later s r rs other = ap (λ b. cond b (Some r) (found s rs)) (unlike r.stamp s other)

abbrev AreSame : List Held → List Held → Type 0
AreSame rs qs = (s : ℕ) → found s rs ≡ found s qs

the-one : (r q : Held) → Some r ≡ Some q → r ≡ q
the-one r q is = cc

-- the first record of one list is not above that of the other
not-above : (r q : Held) (rs qs : List Held) → Falls (q ∷ qs) → AreSame (r ∷ rs) (q ∷ qs) → q.stamp < r.stamp → ⊥
not-above r q rs qs falls same low =
    let none : found r.stamp (q ∷ qs) ≡ None =
    found-later r.stamp q qs (λ is. omega (arith, low, is)) ∙ found-above q.stamp r.stamp qs (omega (arith, low)) (falls-below q qs falls) in
    let never : Some r ≡ None = sym (found-first r rs) ∙ same r.stamp ∙ none in
    absurd (cc)

first-same : (r q : Held) (rs qs : List Held) → Falls (r ∷ rs) → Falls (q ∷ qs) → AreSame (r ∷ rs) (q ∷ qs) → r ≡ q
first-same r q rs qs falls down same = go (cases_lt r.stamp q.stamp) (cases_lt q.stamp r.stamp)
  where
    go : (r.stamp < q.stamp) ⊎ (q.stamp ≤ r.stamp) → (q.stamp < r.stamp) ⊎ (r.stamp ≤ q.stamp) → r ≡ q
    go (inl low) other = absurd (not-above q r qs rs falls (λ s. sym (same s)) low)
    go (inr high) (inl low) = absurd (not-above r q rs qs down same low)
    go (inr high) (inr low) =
        let one : r.stamp ≡ q.stamp = omega (arith, high, low) in
        the-one r q (sym (found-first r rs) ∙ same r.stamp ∙ ap (λ z. found z (q ∷ qs)) one ∙ found-first q qs)

rest-same : (r q : Held) (rs qs : List Held) → Falls (r ∷ rs) → Falls (q ∷ qs) → r ≡ q → AreSame (r ∷ rs) (q ∷ qs) → AreSame rs qs
rest-same r q rs qs falls down one same s = go (r.stamp == s) refl
  where
    go : (b : Bool) → (r.stamp == s) ≡ b → found s rs ≡ found s qs
    go true is =
        let at : r.stamp ≡ s = eqb-true r.stamp s is in
        let too : q.stamp ≡ s = ap (λ (z : Held). z.stamp) (sym one) ∙ at in
        found-above r.stamp s rs (omega (arith, at)) (falls-below r rs falls) ∙ sym (found-above q.stamp s qs (omega (arith, too)) (falls-below q qs down))
    go false is =
        let other : ¬ (r.stamp ≡ s) = λ at. (let z : (r.stamp == s) ≡ true = eq-eqb r.stamp s at in cc) in
        let otherwise : ¬ (q.stamp ≡ s) = λ at. other (ap (λ (z : Held). z.stamp) one ∙ at) in
        sym (found-later s r rs other) ∙ same s ∙ found-later s q qs otherwise

-- lists that fall and of which the same are found are the same
pub same-list : (rs qs : List Held) → Falls rs → Falls qs → AreSame rs qs → rs ≡ qs
same-list [] [] falls down same = refl
same-list (r ∷ rs) [] falls down same = let never : Some r ≡ None = sym (found-first r rs) ∙ same r.stamp in absurd (cc)
same-list [] (q ∷ qs) falls down same = let never : None ≡ Some q = same q.stamp ∙ found-first q qs in absurd (cc)
same-list (r ∷ rs) (q ∷ qs) falls down same =
    let one = first-same r q rs qs falls down same in
    ap₂ (λ (z : Held) (zs : List Held). z ∷ zs) one (same-list rs qs (falls-tail r rs falls) (falls-tail q qs down) (rest-same r q rs qs falls down one same))

-- ---- the records of stamps

module _ (record_of : ℕ → Held) (named : (s : ℕ) → (record_of s).stamp ≡ s) where
  -- of each stamp that is there its record is found
  pub found-of : (s : ℕ) (stamps : List ℕ) → found s (map record_of stamps) ≡ cond (has_stamp itself s stamps) (Some (record_of s)) None
  found-of s [] = refl
  found-of s (t ∷ stamps) = ap (λ z. cond (z == s) (Some (record_of t)) (found s (map record_of stamps))) (named t) ∙ go (t == s) refl (found-of s stamps)
    where
      go : (b : Bool) → (t == s) ≡ b → found s (map record_of stamps) ≡ cond (has_stamp itself s stamps) (Some (record_of s)) None
          → cond b (Some (record_of t)) (found s (map record_of stamps)) ≡ cond (b || has_stamp itself s stamps) (Some (record_of s)) None
      go true is rest = ap (λ z. Some (record_of z)) (eqb-true t s is)
      go false is rest = rest

  -- those of one or two stamps fall
  pub falls-of : (stamps : List ℕ) → IsPair stamps → Falls (map record_of stamps)
  falls-of [] pair = tt
  falls-of (a ∷ []) pair = tt
  falls-of (a ∷ b ∷ []) pair = let one = named a in let two = named b in (omega (arith, pair, one, two), tt)
  falls-of (a ∷ b ∷ c ∷ more) pair = absurd pair
