-- Tables of outcomes by node and by position, and distinct positions.
use Rattle.std.proofs.Common.{ℕ, zero, suc, Bool, true, false, ◌==◌, ◌≡◌, ◌≢◌, ◌⊎◌, inl, inr, ◌<◌, ◌≤◌, ◌+◌, List, [], ◌∷◌, Some, refl, sym, ◌∙◌, ap, subst, arith, length}
use Rattle.std.specs.Prelude.{slice_get, slice_set}
use Rattle.std.specs.List.{AllByRecursion}
use Rattle.std.proofs.lemmas.Bool.{eqb-true, eq-eqb, cases_lt}
use Rattle.rz_events.specs.declared.keys.Key.{Key}
use Rattle.rz_events.specs.declared.keys.Actor.{Actor}
use Rattle.rz_events.specs.declared.records.Change.TheVariants as change
use Rattle.rz_events.specs.declared.ends.Why.{Why}
use Rattle.rz_events.specs.declared.ends.Why.TheVariants as why
use Rattle.rz_events.specs.declared.events.Event.{Event}
use Rattle.rz_events.specs.declared.events.Event.TheVariants as e
use Rattle.rz_node_model.specs.Versions.{Stands}
use Rattle.rz_core.specs.Own.{IsFalling}
use Rattle.rz_core.specs.Outcomes.{seen_at, seens, why_at, whys}
use Rattle.rz_core.proofs.Stamps.{same_key-refl}
use Rattle.rz_safety.specs.Positions.{AreApart, IsInAnyOrder, node_in, AreByPosition}

-- Distinct positions.

-- a position in its place among falling ones
abbrev before_or_after : (p q : ℕ) (qs rest : List ℕ) → (q < p) ⊎ (p ≤ q) → List ℕ
before_or_after p q qs rest (inl below) = p ∷ q ∷ qs
before_or_after p q qs rest (inr above) = q ∷ rest

abbrev placed : ℕ → List ℕ → List ℕ
placed p [] = p ∷ []
placed p (q ∷ qs) = before_or_after p q qs (placed p qs) (cases_lt q p)

placed-all : (P : ℕ → Type 0) (p : ℕ) (qs : List ℕ) → P p → AllByRecursion P qs → AllByRecursion P (placed p qs)
placed-all P p [] here all = (here, tt)
placed-all P p (q ∷ qs) here all = go (cases_lt q p) (placed-all P p qs here all.1)
  where
    go : (c : (q < p) ⊎ (p ≤ q)) → AllByRecursion P (placed p qs) → AllByRecursion P (before_or_after p q qs (placed p qs) c)
    go (inl below) rest = (here, all)
    go (inr above) rest = (all.0, rest)

placed-length : (p : ℕ) (qs : List ℕ) → length (placed p qs) ≡ length qs + 1
placed-length p [] = refl
placed-length p (q ∷ qs) = go (cases_lt q p) (placed-length p qs)
  where
    go : (c : (q < p) ⊎ (p ≤ q)) → length (placed p qs) ≡ length qs + 1 → length (before_or_after p q qs (placed p qs) c) ≡ length (q ∷ qs) + 1
    go (inl below) rest = omega arith
    go (inr above) rest = omega (arith, rest)

all-below : (p q : ℕ) (qs : List ℕ) → q < p → AllByRecursion (λ r. r < q) qs → AllByRecursion (λ r. r < p) qs
all-below p q [] less all = tt
all-below p q (r ∷ qs) less all = ((let l = all.0 in omega (arith, l, less)), all-below p q qs less all.1)

placed-falling : (p : ℕ) (qs : List ℕ) → AllByRecursion (λ q. ¬ (p ≡ q)) qs → IsFalling qs → IsFalling (placed p qs)
placed-falling p [] apart falls = (tt, tt)
placed-falling p (q ∷ qs) apart falls = go (cases_lt q p) (placed-falling p qs apart.1 falls.1)
  where
    less : p ≤ q → p < q
    less above = elim (cases_lt p q) [ inl l ↦ l | inr l ↦ absurd (apart.0 (omega (arith, l, above))) ]

    go : (c : (q < p) ⊎ (p ≤ q)) → IsFalling (placed p qs) → IsFalling (before_or_after p q qs (placed p qs) c)
    go (inl below) rest = ((below, all-below p q qs below falls.0), falls)
    go (inr above) rest = (placed-all (λ r. r < q) p qs (less above) falls.0, rest)

abbrev sorted : List ℕ → List ℕ
sorted [] = []
sorted (p ∷ ps) = placed p (sorted ps)

sorted-all : (P : ℕ → Type 0) (ps : List ℕ) → AllByRecursion P ps → AllByRecursion P (sorted ps)
sorted-all P [] all = tt
sorted-all P (p ∷ ps) all = placed-all P p (sorted ps) all.0 (sorted-all P ps all.1)

sorted-length : (ps : List ℕ) → length (sorted ps) ≡ length ps
sorted-length [] = refl
sorted-length (p ∷ ps) = let i = sorted-length ps in let l = placed-length p (sorted ps) in omega (arith, i, l)

sorted-falling : (ps : List ℕ) → AreApart ps → IsFalling (sorted ps)
sorted-falling [] apart = tt
sorted-falling (p ∷ ps) apart = placed-falling p (sorted ps) (sorted-all (λ q. ¬ (p ≡ q)) ps apart.0) (sorted-falling ps apart.1)

pub enough : (given : List ℕ) → IsInAnyOrder given
enough given ps apart stands = (sorted ps, sorted-falling ps apart, sorted-length ps, sorted-all (λ p. Stands p given) ps stands)

-- Tables.

seen-at : (key : Key) (s : ℕ) (o : List Event) (i : ℕ) (places : List ℕ) (p n : ℕ) → slice_get places p ≡ Some n → slice_get (seens key s o i places) p ≡ Some (seen_at key s n o)
seen-at key s o i [] p n at = cc
seen-at key s o i (m ∷ places) zero n at = let same : m ≡ n = cc in ap (λ z. Some (seen_at key s z o)) same
seen-at key s o i (m ∷ places) (suc p) n at = seen-at key s o (i + 1) places p n at

why-at : (key : Key) (s : ℕ) (o : List Event) (i : ℕ) (places : List ℕ) (p n : ℕ) → slice_get places p ≡ Some n → slice_get (whys key s o i places) p ≡ Some (why_at key s (i + p) n o)
why-at key s o i [] p n at = cc
why-at key s o i (m ∷ places) zero n at =
    let same : m ≡ n = cc in
    let first : i ≡ i + 0 = omega arith in
    subst (λ z. Some (why_at key s i m o) ≡ Some (why_at key s z n o)) first (ap (λ z. Some (why_at key s i z o)) same)
why-at key s o i (m ∷ places) (suc p) n at =
    let next : (i + 1) + p ≡ i + suc p = omega arith in
    subst (λ z. slice_get (whys key s o (i + 1) places) p ≡ Some (why_at key s z n o)) next (why-at key s o (i + 1) places p n at)

-- an event of one node leaves the outcomes of the others
seen-other : (key : Key) (s : ℕ) (o : List Event) (x : Event) (n m : ℕ) → node_in x ≡ Some n → (m == n) ≡ false → seen_at key s m (x ∷ o) ≡ seen_at key s m o
seen-other key s o (e.Fetch by node at position asked answer) n m is apart = let same : node ≡ n = cc in rw (same, apart) refl
seen-other key s o (e.Refused by node cause told) n m is apart = let same : node ≡ n = cc in rw (same, apart) refl
seen-other key s o (e.Broke by node c) n m is apart = let same : node ≡ n = cc in rw (same, apart) refl
seen-other key s o (e.Missed by node reply) n m is apart = let same : node ≡ n = cc in rw (same, apart) refl
seen-other key s o (_) n m is apart = refl

why-other : (key : Key) (s : ℕ) (o : List Event) (x : Event) (p n m : ℕ) → node_in x ≡ Some n → (m == n) ≡ false → why_at key s p m (x ∷ o) ≡ why_at key s p m o
why-other key s o (e.Did by node (change.Keep at t q)) p n m is apart = let same : node ≡ n = cc in rw (same, apart) refl
why-other key s o (e.Did by node (change.Refill f at t q)) p n m is apart = refl
why-other key s o (e.Did by node (change.Drop at t)) p n m is apart = refl
why-other key s o (e.Passed by node at t held) p n m is apart = let same : node ≡ n = cc in rw (same, apart) refl
why-other key s o (e.Refused by node cause told) p n m is apart = let same : node ≡ n = cc in rw (same, apart) refl
why-other key s o (e.Broke by node c) p n m is apart = let same : node ≡ n = cc in rw (same, apart) refl
why-other key s o (e.Missed by node reply) p n m is apart = let same : node ≡ n = cc in rw (same, apart) refl
why-other key s o (e.Publish by at t mask refused) p n m is apart = cc
why-other key s o (_) p n m is apart = refl

-- a node has one position
node-once : (places : List ℕ) (p : ℕ) (n : ℕ) → AllByRecursion (λ m. ¬ (n ≡ m)) places → slice_get places p ≡ Some n → ⊥
node-once [] p n all at = cc
node-once (m ∷ places) zero n all at = all.0 (cc)
node-once (m ∷ places) (suc p) n all at = node-once places p n all.1 at

position-once : (places : List ℕ) → AreApart places → (p q n m : ℕ) → slice_get places p ≡ Some n → slice_get places q ≡ Some m → q ≢ p → (m == n) ≡ false
position-once [] apart p q n m at_p at_q other = cc
position-once (k ∷ places) apart zero zero n m at_p at_q other = absurd (other refl)
position-once (k ∷ places) apart zero (suc q) n m at_p at_q other = go (m == n) refl
  where
    go : (b : Bool) → (m == n) ≡ b → (m == n) ≡ false
    go true is =
        let first : k ≡ n = cc in
        absurd (node-once places q k apart.0 (subst (λ z. slice_get places q ≡ Some z) (eqb-true m n is ∙ sym first) at_q))
    go false is = is
position-once (k ∷ places) apart (suc p) zero n m at_p at_q other = go (m == n) refl
  where
    go : (b : Bool) → (m == n) ≡ b → (m == n) ≡ false
    go true is =
        let first : k ≡ m = cc in
        absurd (node-once places p k apart.0 (subst (λ z. slice_get places p ≡ Some z) (sym (eqb-true m n is) ∙ sym first) at_p))
    go false is = is
position-once (k ∷ places) apart (suc p) (suc q) n m at_p at_q other = position-once places apart.1 p q n m at_p at_q (λ same. other (ap suc same))

-- a table in which the outcome of one position changes
pub seens-same : (key : Key) (s : ℕ) (new old : List Event) (i : ℕ) (places : List ℕ)
    → ((q n : ℕ) → slice_get places q ≡ Some n → seen_at key s n new ≡ seen_at key s n old) → seens key s new i places ≡ seens key s old i places
seens-same key s new old i [] same = refl
seens-same key s new old i (n ∷ places) same =
    ap (λ w. w ∷ seens key s new (i + 1) places) (same 0 n refl)
    ∙ ap (λ ws. seen_at key s n old ∷ ws) (seens-same key s new old (i + 1) places (λ q m at. same (suc q) m at))

seens-set : (key : Key) (s : ℕ) (new old : List Event) (i : ℕ) (places : List ℕ) (r n : ℕ) → slice_get places r ≡ Some n
    → ((q m : ℕ) → q ≢ r → slice_get places q ≡ Some m → seen_at key s m new ≡ seen_at key s m old)
    → seens key s new i places ≡ slice_set (seens key s old i places) r (seen_at key s n new)
seens-set key s new old i [] r n at same = cc
seens-set key s new old i (m ∷ places) zero n at same =
    let first : m ≡ n = cc in
    ap (λ z. seen_at key s z new ∷ seens key s new (i + 1) places) first
    ∙ ap (λ ws. seen_at key s n new ∷ ws) (seens-same key s new old (i + 1) places (λ q k there. same (suc q) k (λ z. omega (arith, z)) there))
seens-set key s new old i (m ∷ places) (suc r) n at same =
    ap (λ w. w ∷ seens key s new (i + 1) places) (same 0 m (λ z. omega (arith, z)) refl)
    ∙ ap (λ ws. seen_at key s m old ∷ ws) (seens-set key s new old (i + 1) places r n at (λ q k other there. same (suc q) k (λ z. other (omega (arith, z))) there))

pub whys-same : (key : Key) (s : ℕ) (new old : List Event) (i : ℕ) (places : List ℕ)
    → ((q n : ℕ) → slice_get places q ≡ Some n → why_at key s (i + q) n new ≡ why_at key s (i + q) n old)
    → whys key s new i places ≡ whys key s old i places
whys-same key s new old i [] same = refl
whys-same key s new old i (n ∷ places) same =
    let first : i + 0 ≡ i = omega arith in
    let here : why_at key s i n new ≡ why_at key s i n old =
    subst (λ z. why_at key s z n new ≡ why_at key s z n old) first (same 0 n refl) in
    let rest = whys-same key s new old (i + 1) places (λ q m at.
    let next : i + suc q ≡ (i + 1) + q = omega arith in
    subst (λ z. why_at key s z m new ≡ why_at key s z m old) next (same (suc q) m at)) in
    ap (λ w. w ∷ whys key s new (i + 1) places) here ∙ ap (λ ws. why_at key s i n old ∷ ws) rest

whys-set : (key : Key) (s : ℕ) (new old : List Event) (i : ℕ) (places : List ℕ) (r : ℕ) (w : Why) → r < length places
    → ((n : ℕ) → slice_get places r ≡ Some n → why_at key s (i + r) n new ≡ w)
    → ((q n : ℕ) → q ≢ r → slice_get places q ≡ Some n → why_at key s (i + q) n new ≡ why_at key s (i + q) n old)
    → whys key s new i places ≡ slice_set (whys key s old i places) r w
whys-set key s new old i [] r w low here same = absurd (omega (arith, low))
whys-set key s new old i (n ∷ places) zero w low here same =
    let first : i + 0 ≡ i = omega arith in
    let head : why_at key s i n new ≡ w = subst (λ z. why_at key s z n new ≡ w) first (here n refl) in
    let rest = whys-same key s new old (i + 1) places (λ q m at.
    let next : i + suc q ≡ (i + 1) + q = omega arith in
    let apart : suc q ≢ 0 = λ k. omega (arith, k) in
    subst (λ z. why_at key s z m new ≡ why_at key s z m old) next (same (suc q) m apart at)) in
    ap (λ x. x ∷ whys key s new (i + 1) places) head ∙ ap (λ ws. w ∷ ws) rest
whys-set key s new old i (n ∷ places) (suc r) w low here same =
    let first : i + 0 ≡ i = omega arith in
    let apart : 0 ≢ suc r = λ k. omega (arith, k) in
    let head : why_at key s i n new ≡ why_at key s i n old =
    subst (λ z. why_at key s z n new ≡ why_at key s z n old) first (same 0 n apart refl) in
    let at_r : i + suc r ≡ (i + 1) + r = omega arith in
    let rest = whys-set key s new old (i + 1) places r w (omega (arith, low))
    (λ m at. subst (λ z. why_at key s z m new ≡ w) at_r (here m at))
    (λ q m other at.
    let next : i + suc q ≡ (i + 1) + q = omega arith in
    let more : suc q ≢ suc r = λ k. other (omega (arith, k)) in
    subst (λ z. why_at key s z m new ≡ why_at key s z m old) next (same (suc q) m more at)) in
    ap (λ x. x ∷ whys key s new (i + 1) places) head ∙ ap (λ ws. why_at key s i n old ∷ ws) rest

within : (places : List ℕ) (p n : ℕ) → slice_get places p ≡ Some n → p < length places
within [] p n at = cc
within (m ∷ places) zero n at = omega arith
within (m ∷ places) (suc p) n at = let i = within places p n at in omega (arith, i)

one_node : (places : List ℕ) (p n m : ℕ) → slice_get places p ≡ Some n → slice_get places p ≡ Some m → n ≡ m
one_node places p n m at there = let both = sym at ∙ there in cc

-- the outcome of a publish that was refused for a position
why-barred : (key : Key) (s : ℕ) (o : List Event) (by : Actor) (mask p fence n : ℕ) → why_at key s p n (e.Publish by key s mask (Some (p, fence)) ∷ o) ≡ why.Enrolled
why-barred key s o by mask p fence n = rw (same_key-refl key, eq-eqb s s refl, eq-eqb p p refl) refl

why-unbarred : (key : Key) (s : ℕ) (o : List Event) (by : Actor) (mask p fence q n : ℕ) → q ≢ p → why_at key s q n (e.Publish by key s mask (Some (p, fence)) ∷ o) ≡ why_at key s q n o
why-unbarred key s o by mask p fence q n other = go (q == p) refl
  where
    go : (b : Bool) → (q == p) ≡ b → why_at key s q n (e.Publish by key s mask (Some (p, fence)) ∷ o) ≡ why_at key s q n o
    go true is = absurd (other (eqb-true q p is))
    go false is = rw (same_key-refl key, eq-eqb s s refl, is) refl

first : (p : ℕ) → 0 + p ≡ p
first p = omega arith

pub tables : (key : Key) (s : ℕ) (places : List ℕ) (o : List Event) → AreApart places → AreByPosition key s places o
tables key s places o apart = record {
  seen_is = λ p n at. seen-at key s o 0 places p n at;
  why_is = λ p n at. subst (λ z. slice_get (whys key s o 0 places) p ≡ Some (why_at key s z n o)) (first p) (why-at key s o 0 places p n at);
  seen_next = λ x p n at is.
      seens-set key s (x ∷ o) o 0 places p n at (λ q m other there. seen-other key s o x n m is (position-once places apart p q n m at there other));
  why_next = λ x p n at is.
      whys-set key s (x ∷ o) o 0 places p (why_at key s p n (x ∷ o)) (within places p n at)
      (λ m there.
      subst (λ z. why_at key s z m (x ∷ o) ≡ why_at key s p n (x ∷ o)) (sym (first p)) (ap (λ z. why_at key s p z (x ∷ o)) (one_node places p m n there at)))
      (λ q m other there. why-other key s o x (0 + q) n m is (position-once places apart p q n m at there other));
  barred = λ by mask p n fence at.
      whys-set key s (e.Publish by key s mask (Some (p, fence)) ∷ o) o 0 places p why.Enrolled (within places p n at)
      (λ m there.
      subst (λ z. why_at key s z m (e.Publish by key s mask (Some (p, fence)) ∷ o) ≡ why.Enrolled) (sym (first p)) (why-barred key s o by mask p fence m))
      (λ q m other there. why-unbarred key s o by mask p fence (0 + q) m (λ k. other (sym (first q) ∙ k)));
}
