-- Enrolments: what the export's map of them says, and the last number drawn.
use Rattle.std.proofs.Common.{ℕ, Bool, true, false, ◌==◌, ◌&&◌, ◌≡◌, ◌⊎◌, inl, inr, ◌≤◌, ◌<◌, ◌+◌, ◌-◌, ◌^◌, nat_lt, nat_le, is_none, List, [], ◌∷◌, length, Option, Some, None, cond, refl, sym, ◌∙◌, ap, subst, arith}
use Rattle.std.specs.List.{AllByRecursion}
use Rattle.std.specs.FinMap as maps
use Rattle.std.specs.FinMap.{FinMap}
use Rattle.std.specs.Ordering.{nat_cmp, eq_by_cmp}
use Rattle.std.specs.Cmp.{nat_cmp_total, unsigned_tied}
use Rattle.std.proofs.lemmas.Bool.{eqb-true, eqb-false, eq-eqb, and_parts, ltb-true, ltb-false, leb-true}
use Rattle.rz_events.specs.Volume.{Volume}
use Rattle.rz_events.specs.declared.keys.Actor.{Actor}
use Rattle.rz_events.specs.declared.ends.Denial.{Denial}
use Rattle.rz_events.specs.declared.ends.Denial.TheVariants as denial
use Rattle.rz_events.specs.declared.events.Word.{Word}
use Rattle.rz_events.specs.declared.events.Word.TheVariants.{Export, Node, Own}
use Rattle.rz_events.specs.declared.events.Event.{Event}
use Rattle.rz_events.specs.declared.events.Event.TheVariants as e
use Rattle.rz_events.specs.Events.{by_of, word_of, same_word}
use Rattle.rz_export_model.specs.Export.{Export as ExportState, Enrolled, spent, draws, after_enroll}
use Rattle.rz_core.specs.History.{Facts, facts, of_word, of_actor, Has}
use Rattle.rz_core.specs.ExportWord.{last_drawn, greater, enrolled, or_new, export_of}
use Rattle.rz_core.specs.Legal.{IsLegalInRuns, Row}
use Rattle.rz_core.proofs.Extends.{Knows, extends-more}
use Rattle.rz_core.proofs.Rows.{row-extends}
use Rattle.rz_core.proofs.Locality.{legal-knows, all-filter}
use Rattle.rz_core.proofs.Stamps.{export, greater-left, greater-right}
use Rattle.rz_core.proofs.NodeLaws.{IsRows, rows-extends}
use Rattle.rz_core.proofs.NodeSteps.{the_some}

enrolled_cases : (t : Bool) (g f : ℕ) (old : Option ℕ) → cond t (Some g) old ≡ Some f → ((t ≡ true) × (g ≡ f)) ⊎ (old ≡ Some f)
enrolled_cases true g f old k = inl (refl, cc)
enrolled_cases false g f old k = inr k

pub enrolled-has : (w : List Event) (n loss f : ℕ) → enrolled w n loss ≡ Some f → (by : Actor) × Has w (e.Enroll by n loss f)
enrolled-has [] n loss f k = cc
enrolled-has (e.Enroll by m l g ∷ w) n loss f k =
    elim (enrolled_cases ((n == m) && (loss == l)) g f (enrolled w n loss) k) [
      | inl here ↦ (let p = and_parts _ _ here.0 in let en = eqb-true n m p.0 in let el = eqb-true loss l p.1 in let ef = here.1 in (by, inl (cc)))
      | inr old ↦ (let i = enrolled-has w n loss f old in (i.0, inr i.1))
    ]
enrolled-has (x ∷ w) n loss f k = let i = enrolled-has w n loss f k in (i.0, inr i.1)

pub new_cases : (old : Option ℕ) (last f : ℕ) → f ≡ or_new old last → (old ≡ Some f) ⊎ (f ≡ last + 1)
new_cases None last f k = inr k
new_cases (Some g) last f k = inl (ap Some (sym k))

-- the rows of the export's word
same_export_word : (w : Word) → same_word Export w ≡ true → w ≡ Export
same_export_word Export q = refl
same_export_word (Node m) q = cc
same_export_word (Own a) q = cc

pub export-rows : (v : Volume) (h : List Event) → IsLegalInRuns v h → IsRows v (facts h) (export h)
export-rows v [] legal = tt
export-rows v (x ∷ h) legal =
    let ext = extends-more (x ∷ []) h in
    let k = all-filter (Knows (facts h)) (λ y. same_word Export (word_of y)) h (legal-knows v h legal.0) in
    go k (rows-extends v (facts h) (facts (x ∷ h)) ext (export h) k (export-rows v h legal.0)) (same_word Export (word_of x)) refl
  where
    go : AllByRecursion (Knows (facts h)) (export h) → IsRows v (facts (x ∷ h)) (export h) → (t : Bool) → same_word Export (word_of x) ≡ t → IsRows v (facts (x ∷ h)) (cond t (x ∷ export h) (export h))
    go k ih true is = (
      ih,
      (
        of_actor (by_of x) h,
        legal.1.run,
        row-extends v (facts h) (facts (x ∷ h)) (extends-more (x ∷ []) h) (export h) _ _ x k
            (subst (λ w. Row v (facts h) (of_word w h) (of_actor (by_of x) h) legal.1.run x) (same_export_word (word_of x) is) legal.1.row),
      ),
    )
    go k ih false is = ih

-- numbers
greater_most : (a b c : ℕ) → a ≤ c → b ≤ c → greater a b ≤ c
greater_most a b c p q = go (nat_lt a b)
  where
    go : (t : Bool) → cond t b a ≤ c
    go true = q
    go false = p

greater_first : (a b : ℕ) → b ≤ a → greater a b ≡ a
greater_first a b p = let l = greater_most a b a (omega arith) p in let m = greater-left a b in omega (arith, l, m)

greater_second : (a b : ℕ) → a ≤ b → greater a b ≡ b
greater_second a b p = let l = greater_most a b b p (omega arith) in let m = greater-right a b in omega (arith, l, m)

pub fence_drawn : (v : Volume) (f : Facts) (w : List Event) → IsRows v f w → (by : Actor) (n l g : ℕ) → Has w (e.Enroll by n l g) → g ≤ last_drawn w
fence_drawn v f [] r by n l g has = absurd has
fence_drawn v f (e.Begin a key stamp base text ∷ w) r by n l g (inl is) = cc
fence_drawn v f (e.Begin a key stamp base text ∷ w) r by n l g (inr has) =
    let i = fence_drawn v f w r.0 by n l g has in let next = r.1.2.next in omega (arith, i, next)
fence_drawn v f (e.Enroll a m k j ∷ w) r by n l g (inl is) = let same : j ≡ g = cc in subst (λ z. z ≤ greater j (last_drawn w)) same (greater-left j (last_drawn w))
fence_drawn v f (e.Enroll a m k j ∷ w) r by n l g (inr has) =
    let i = fence_drawn v f w r.0 by n l g has in let m = greater-right j (last_drawn w) in omega (arith, i, m)
fence_drawn v f (x ∷ w) r by n l g (inl is) = cc
fence_drawn v f (x ∷ w) r by n l g (inr has) = fence_drawn v f w r.0 by n l g has

-- no more numbers are drawn than there are events
pub drawn-room : (v : Volume) (f : Facts) (w : List Event) → IsRows v f w → last_drawn w ≤ length w
drawn-room v f [] r = omega arith
drawn-room v f (e.Begin a key stamp base text ∷ w) r = let i = drawn-room v f w r.0 in let next = r.1.2.next in omega (arith, i, next)
drawn-room v f (e.Enroll a n l g ∷ w) r =
    let i = drawn-room v f w r.0 in
    greater_most g (last_drawn w) (length (e.Enroll a n l g ∷ w)) (few i (new_cases (enrolled w n l) (last_drawn w) g r.1.2.fence_is)) (omega (arith, i))
  where
    few : last_drawn w ≤ length w → (enrolled w n l ≡ Some g) ⊎ (g ≡ last_drawn w + 1) → g ≤ length (e.Enroll a n l g ∷ w)
    few i (inl old) = let has = enrolled-has w n l g old in let d = fence_drawn v f w r.0 has.0 n l g has.1 in omega (arith, i, d)
    few i (inr new) = omega (arith, i, new)
drawn-room v f (x ∷ w) r = let i = drawn-room v f w r.0 in omega (arith, i)

pub unspent : (s : ExportState) → s.last < 2 ^ 64 - 1 → spent s ≡ None
unspent s few = go (nat_le (2 ^ 64 - 1) s.last) refl
  where
    go : (t : Bool) → nat_le (2 ^ 64 - 1) s.last ≡ t → (let o : Option Denial = cond t (Some denial.StampsSpent) None in o) ≡ None
    go true q = let l = leb-true (2 ^ 64 - 1) s.last q in absurd (omega (arith, l, few))
    go false q = refl

-- the export's map of enrolments is the log's
pub record AreEnrolled (s : ExportState) (w : List Event) : Type 0 where
  pub last : s.last ≡ last_drawn w
  pub none : (n : ℕ) → maps.get s.enrolled n ≡ None → (by : Actor) (l g : ℕ) → ¬ Has w (e.Enroll by n l g)
  pub some : (n : ℕ) (r : Enrolled) → maps.get s.enrolled n ≡ Some r → (enrolled w n r.loss ≡ Some r.fence) × ((by : Actor) (l g : ℕ) → Has w (e.Enroll by n l g) → l ≤ r.loss)

-- an event that enrols nothing
quiet : (s t : ExportState) (x : Event) (w : List Event) → t.last ≡ last_drawn (x ∷ w) → t.enrolled ≡ s.enrolled
    → ((by : Actor) (n l g : ℕ) → ¬ (x ≡ e.Enroll by n l g)) → ((n l : ℕ) → enrolled (x ∷ w) n l ≡ enrolled w n l) → AreEnrolled s w → AreEnrolled t (x ∷ w)
quiet s t x w last same other old a = record {
  last = last;
  none = λ n q by l g has. none n (ap (λ (m : FinMap nat_cmp Enrolled). maps.get m n) (sym same) ∙ q) by l g has;
  some = λ n r q. (let i = a.some n r (ap (λ (m : FinMap nat_cmp Enrolled). maps.get m n) (sym same) ∙ q) in
      (old n r.loss ∙ i.0, λ by l g has. top n l g by has (i.1 by l g)));
}
  where
    none : (n : ℕ) → maps.get s.enrolled n ≡ None → (by : Actor) (l g : ℕ) → Has (x ∷ w) (e.Enroll by n l g) → ⊥
    none n q by l g (inl is) = other by n l g is
    none n q by l g (inr has) = a.none n q by l g has

    top : (n l g : ℕ) (by : Actor) {r : ℕ} → Has (x ∷ w) (e.Enroll by n l g) → (Has w (e.Enroll by n l g) → l ≤ r) → l ≤ r
    top n l g by (inl is) rest = absurd (other by n l g is)
    top n l g by (inr has) rest = rest has

-- an enrolment that draws a number
module _ (s : ExportState) (w : List Event) (a : AreEnrolled s w) (by : Actor) (m l g : ℕ) (top : (b : Actor) (k j : ℕ) → Has w (e.Enroll b m k j) → k ≤ l) where
  drew : g ≡ last_drawn w + 1
      → AreEnrolled (record s { enrolled = maps.insert s.enrolled m (record { loss = l; fence = s.last + 1 }); last = s.last + 1 }) (e.Enroll by m l g ∷ w)
  drew new = record {
    last = let i = a.last in let gr = greater_first g (last_drawn w) (omega (arith, new)) in omega (arith, i, new, gr);
    none = λ n q b k j has. none n (eq_by_cmp nat_cmp n m) refl (sym (maps.get-insert nat_cmp_total s.enrolled m (record { loss = l; fence = s.last + 1 }) n) ∙ q) b k j has;
    some = λ n r q. some n r (eq_by_cmp nat_cmp n m) refl (sym (maps.get-insert nat_cmp_total s.enrolled m (record { loss = l; fence = s.last + 1 }) n) ∙ q);
  }
    where
      apart : (n : ℕ) (b : Actor) (k j : ℕ) → eq_by_cmp nat_cmp n m ≡ false → ¬ (e.Enroll by m l g ≡ e.Enroll b n k j)
      apart n b k j off is = let there : m ≡ n = cc in eqb-false n m (sym (unsigned_tied n m) ∙ off) (sym there)

      none : (n : ℕ) (t : Bool) → eq_by_cmp nat_cmp n m ≡ t → (let o : Option Enrolled = cond t (Some (record { loss = l; fence = s.last + 1 })) (maps.get s.enrolled n) in o) ≡ None
          → (b : Actor) (k j : ℕ) → Has (e.Enroll by m l g ∷ w) (e.Enroll b n k j) → ⊥
      none n true on q b k j has = cc
      none n false off q b k j (inl is) = apart n b k j off is
      none n false off q b k j (inr has) = a.none n q b k j has

      here : (n : ℕ) (r : Enrolled) → n ≡ m → r.loss ≡ l → r.fence ≡ s.last + 1 → cond ((n == m) && (r.loss == l)) (Some g) (enrolled w n r.loss) ≡ Some r.fence
      here n r on loss fence = let i = a.last in let same : g ≡ r.fence = omega (arith, i, new, fence) in rw (eq-eqb n m on, eq-eqb r.loss l loss) (ap Some same)

      least : (n : ℕ) (r : Enrolled) → n ≡ m → r.loss ≡ l → (b : Actor) (k j : ℕ) → Has (e.Enroll by m l g ∷ w) (e.Enroll b n k j) → k ≤ r.loss
      least n r on loss b k j (inl is) = let there : l ≡ k = cc in omega (arith, there, loss)
      least n r on loss b k j (inr has) = let t = top b k j (subst (λ z. Has w (e.Enroll b z k j)) on has) in omega (arith, t, loss)

      other : (n : ℕ) (r : Enrolled) → eq_by_cmp nat_cmp n m ≡ false → ((b : Actor) (k j : ℕ) → Has w (e.Enroll b n k j) → k ≤ r.loss)
          → (b : Actor) (k j : ℕ) → Has (e.Enroll by m l g ∷ w) (e.Enroll b n k j) → k ≤ r.loss
      other n r off rest b k j (inl is) = absurd (apart n b k j off is)
      other n r off rest b k j (inr has) = rest b k j has

      some : (n : ℕ) (r : Enrolled) (t : Bool) → eq_by_cmp nat_cmp n m ≡ t → (let o : Option Enrolled = cond t (Some (record { loss = l; fence = s.last + 1 })) (maps.get s.enrolled n) in o) ≡ Some r
          → (cond ((n == m) && (r.loss == l)) (Some g) (enrolled w n r.loss) ≡ Some r.fence) × ((b : Actor) (k j : ℕ) → Has (e.Enroll by m l g ∷ w) (e.Enroll b n k j) → k ≤ r.loss)
      some n r true on q =
          let same : (let z : Enrolled = record { loss = l; fence = s.last + 1 } in z) ≡ r = the_some _ r q in
          let at = eqb-true n m (sym (unsigned_tied n m) ∙ on) in
          let loss = ap (λ (z : Enrolled). z.loss) (sym same) in
          (here n r at loss (ap (λ (z : Enrolled). z.fence) (sym same)), least n r at loss)
      some n r false off q =
          let i = a.some n r q in
          (rw (sym (unsigned_tied n m) ∙ off) i.0, other n r off i.1)

  -- one that gives the fence of the loss again
  gave-again : (r : Enrolled) → maps.get s.enrolled m ≡ Some r → l ≡ r.loss → g ≡ r.fence → g ≤ last_drawn w → AreEnrolled s (e.Enroll by m l g ∷ w)
  gave-again r known loss fence low = record {
    last = a.last ∙ sym (greater_second g (last_drawn w) low);
    none = λ n q b k j has. none n q b k j has;
    some = λ n q is. some n q is;
  }
    where
      none : (n : ℕ) → maps.get s.enrolled n ≡ None → (b : Actor) (k j : ℕ) → Has (e.Enroll by m l g ∷ w) (e.Enroll b n k j) → ⊥
      none n q b k j (inl is) = let there : m ≡ n = cc in let z = ap (λ i. maps.get s.enrolled i) there ∙ q in cc
      none n q b k j (inr has) = a.none n q b k j has

      least : (n : ℕ) (q : Enrolled) → maps.get s.enrolled n ≡ Some q → ((b : Actor) (k j : ℕ) → Has w (e.Enroll b n k j) → k ≤ q.loss)
          → (b : Actor) (k j : ℕ) → Has (e.Enroll by m l g ∷ w) (e.Enroll b n k j) → k ≤ q.loss
      least n q is rest b k j (inl same) =
          let there : m ≡ n = cc in
          let of : l ≡ k = cc in
          let both : r ≡ q = the_some r q (sym known ∙ ap (λ i. maps.get s.enrolled i) there ∙ is) in
          let z = ap (λ (y : Enrolled). y.loss) both in omega (arith, of, z, loss)
      least n q is rest b k j (inr has) = rest b k j has

      fences : (n : ℕ) (q : Enrolled) → maps.get s.enrolled n ≡ Some q → enrolled w n q.loss ≡ Some q.fence → (t : Bool) → ((n == m) && (q.loss == l)) ≡ t
          → cond t (Some g) (enrolled w n q.loss) ≡ Some q.fence
      fences n q is old true on =
          let at = eqb-true n m (and_parts _ _ on).0 in
          let both : r ≡ q = the_some r q (sym known ∙ ap (λ i. maps.get s.enrolled i) (sym at) ∙ is) in
          ap Some (fence ∙ ap (λ (y : Enrolled). y.fence) both)
      fences n q is old false off = old

      some : (n : ℕ) (q : Enrolled) → maps.get s.enrolled n ≡ Some q
          → (cond ((n == m) && (q.loss == l)) (Some g) (enrolled w n q.loss) ≡ Some q.fence) × ((b : Actor) (k j : ℕ) → Has (e.Enroll by m l g ∷ w) (e.Enroll b n k j) → k ≤ q.loss)
      some n q is = let i = a.some n q is in (fences n q is i.0 ((n == m) && (q.loss == l)) refl, least n q is i.1)

pub none_before : (w : List Event) (n l : ℕ) → ((by : Actor) (g : ℕ) → ¬ Has w (e.Enroll by n l g)) → enrolled w n l ≡ None
none_before w n l never = go (enrolled w n l) refl
  where
    go : (o : Option ℕ) → enrolled w n l ≡ o → o ≡ None
    go None q = refl
    go (Some g) q = let has = enrolled-has w n l g q in absurd (never has.0 g has.1)

newly : (w : List Event) (m l g : ℕ) → g ≡ or_new (enrolled w m l) (last_drawn w) → enrolled w m l ≡ None → g ≡ last_drawn w + 1
newly w m l g is none = is ∙ ap (λ o. or_new o (last_drawn w)) none

again : (w : List Event) (m l g fence : ℕ) → g ≡ or_new (enrolled w m l) (last_drawn w) → enrolled w m l ≡ Some fence → g ≡ fence
again w m l g fence is some = is ∙ ap (λ o. or_new o (last_drawn w)) some

one_more : (s : ExportState) (w : List Event) → AreEnrolled s w → spent s ≡ None → (by : Actor) (m l g : ℕ)
    → ((b : Actor) (k j : ℕ) → Has w (e.Enroll b m k j) → k ≤ l) → g ≡ or_new (enrolled w m l) (last_drawn w)
    → ((b : Actor) (k j : ℕ) → Has w (e.Enroll b m k j) → j ≤ last_drawn w) → AreEnrolled (after_enroll s m l) (e.Enroll by m l g ∷ w)
one_more s w a left by m l g top is low = go (maps.get s.enrolled m) refl
  where
    new : ExportState
    new = record s { enrolled = maps.insert s.enrolled m (record { loss = l; fence = s.last + 1 }); last = s.last + 1 }

    by_test : (r : Enrolled) → maps.get s.enrolled m ≡ Some r → (t : Bool) → nat_lt r.loss l ≡ t
        → AreEnrolled (cond (t && is_none (spent s)) new s) (e.Enroll by m l g ∷ w)
    by_test r q true less =
        let i = a.some m r q in
        let lt = ltb-true r.loss l less in
        let none = none_before w m l (λ b j has. (let le = i.1 b l j has in omega (arith, le, lt))) in
        subst (λ o. AreEnrolled (cond (is_none o) new s) (e.Enroll by m l g ∷ w)) (sym left) (drew s w a by m l g top (newly w m l g is none))
    by_test r q false less =
        let i = a.some m r q in
        let has = enrolled-has w m r.loss r.fence i.0 in
        let up = top has.0 r.loss r.fence has.1 in
        let down = ltb-false r.loss l less in
        let same : l ≡ r.loss = omega (arith, up, down) in
        let fence = again w m l g r.fence is (ap (λ z. enrolled w m z) same ∙ i.0) in
        let small = low has.0 r.loss r.fence has.1 in
        gave-again s w a by m l g top r q same fence (omega (arith, fence, small))

    go : (o : Option Enrolled) → maps.get s.enrolled m ≡ o → AreEnrolled (cond (draws s l o) new s) (e.Enroll by m l g ∷ w)
    go None q = subst (λ o. AreEnrolled (cond (is_none o) new s) (e.Enroll by m l g ∷ w)) (sym left)
        (drew s w a by m l g top (newly w m l g is (none_before w m l (λ b j has. a.none m q b l j has))))
    go (Some r) q = by_test r q (nat_lt r.loss l) refl

pub enrols : (v : Volume) (f : Facts) (w : List Event) → IsRows v f w → length w < 2 ^ 64 - 1 → AreEnrolled (export_of v f w) w
enrols v f [] r few = record { last = refl; none = λ n q by l g has. has; some = λ n q is. (let z = maps.get-empty {X = Enrolled} nat_cmp n in cc) }
enrols v f (e.Enroll by m l g ∷ w) r few =
    let a = enrols v f w r.0 (omega (arith, few)) in
    let d = drawn-room v f w r.0 in
    let last = a.last in
    one_more (export_of v f w) w a (unspent (export_of v f w) (omega (arith, few, d, last))) by m l g r.1.2.top r.1.2.fence_is
    (λ b k j has. fence_drawn v f w r.0 b m k j has)
enrols v f (e.Begin by key stamp base text ∷ w) r few =
    let a = enrols v f w r.0 (omega (arith, few)) in
    let last = a.last in
    let next = r.1.2.next in
    quiet (export_of v f w) (export_of v f (e.Begin by key stamp base text ∷ w)) (e.Begin by key stamp base text) w (omega (arith, last, next)) refl (λ b n l g is. cc) (λ n l. refl) a
enrols v f (e.Publish by key stamp mask None ∷ w) r few =
    let a = enrols v f w r.0 (omega (arith, few)) in
    quiet (export_of v f w) (export_of v f (e.Publish by key stamp mask None ∷ w)) (e.Publish by key stamp mask None) w a.last refl (λ b n l g is. cc) (λ n l. refl) a
enrols v f (x ∷ w) r few =
    let a = enrols v f w r.0 (omega (arith, few)) in
    quiet (export_of v f w) (export_of v f (x ∷ w)) x w a.last refl (λ b n l g is. cc) (λ n l. refl) a
