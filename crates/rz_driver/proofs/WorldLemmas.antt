-- Actors in their row.
use Rattle.std.proofs.Common.{◌≡◌, ◌≢◌, ◌⊎◌, inl, inr, ⊎_elim, ℕ, zero, suc, ◌+◌, ◌-◌, ◌<◌, ◌≤◌, Bool, true, false, cond, List, [], ◌∷◌, ◌++◌, map, length, set, Option, Some, None, refl, sym, ◌∙◌, ap, subst, arith, eq-eqb}
use Rattle.std.specs.Prelude.{◌==◌, ◌&&◌, nat_le, slice_get}
use Rattle.std.specs.List.{AllByRecursion, range_with_len}
use Rattle.std.proofs.lemmas.Bool.{and_parts, eqb-true}
use Rattle.std.proofs.lemmas.Bool.Decides.{nat_tests}
use Rattle.rz_events.specs.declared.keys.Actor.{Actor}
use Rattle.rz_events.specs.declared.keys.Actor.TheVariants.{Client, Rebuilder, Admin}
use Rattle.rz_events.specs.Events.{same_actor}
use Rattle.rz_play.specs.World.{actors}
use Rattle.rz_driver_actors.specs.declared.actor_agenda.Agenda.{Agenda}
use Rattle.rz_driver_actors.specs.Agendas.{agenda_of}
use Rattle.rz_driver.specs.Worlds.{place_if, place_of, agenda_there, agenda_at, agenda_in}

never : {A : Type 0} (b : Bool) → b ≡ true → b ≡ false → A
never b t f = let none : true ≡ false = sym t ∙ f in absurd (cc)

-- ---- rows

module _ {A : Type 0} where
  pub get-set-same : (xs : List A) (i : ℕ) (v : A) → i < length xs → slice_get (set xs i v) i ≡ Some v
  get-set-same [] i v low = absurd (omega (arith, low))
  get-set-same (x ∷ xs) zero v low = refl
  get-set-same (x ∷ xs) (suc i) v low = get-set-same xs i v (omega (arith, low))

  pub get-set-other : (xs : List A) (i j : ℕ) (v : A) → j ≢ i → slice_get (set xs i v) j ≡ slice_get xs j
  get-set-other [] i j v ne = refl
  get-set-other (x ∷ xs) zero zero v ne = absurd (ne refl)
  get-set-other (x ∷ xs) zero (suc j) v ne = refl
  get-set-other (x ∷ xs) (suc i) zero v ne = refl
  get-set-other (x ∷ xs) (suc i) (suc j) v ne = get-set-other xs i j v (λ same. ne (ap suc same))

  pub set-same : (xs : List A) (i : ℕ) (v : A) → slice_get xs i ≡ Some v → set xs i v ≡ xs
  set-same [] i v is = refl
  set-same (x ∷ xs) zero v is = ap (λ (y : A). y ∷ xs) (the-item v x (sym is))
    where
      the-item : (v x : A) → Some v ≡ Some x → v ≡ x
      the-item v x is = cc
  set-same (x ∷ xs) (suc i) v is = ap (λ (ys : List A). x ∷ ys) (set-same xs i v is)

  pub set-set : (xs : List A) (i : ℕ) (v u : A) → set (set xs i v) i u ≡ set xs i u
  set-set [] i v u = refl
  set-set (x ∷ xs) zero v u = refl
  set-set (x ∷ xs) (suc i) v u = ap (λ (ys : List A). x ∷ ys) (set-set xs i v u)

-- ---- actors

if-some : (b : Bool) (p q : ℕ) → place_if b p ≡ Some q → (b ≡ true) × (p ≡ q)
if-some true p q is = (refl, (cc))
if-some false p q is = absurd (cc)

at-most : (m n : ℕ) → nat_le m n ≡ true → m ≤ n
at-most m n is = grind (arith, nat_tests)

pub client-place : (m q : ℕ) → place_of (Client m) ≡ Some q → (1 ≤ m) × (m ≤ 64) × (m - 1 ≡ q)
client-place m q is =
    let p = if-some (nat_le 1 m && nat_le m 64) (m - 1) q is in
    let r = and_parts (nat_le 1 m) (nat_le m 64) p.0 in
    (at-most 1 m r.0, at-most m 64 r.1, p.1)

pub rebuilder-place : (m q : ℕ) → place_of (Rebuilder m) ≡ Some q → (1 ≤ m) × (m ≤ 16) × (m + 63 ≡ q)
rebuilder-place m q is =
    let p = if-some (nat_le 1 m && nat_le m 16) (m + 63) q is in
    let r = and_parts (nat_le 1 m) (nat_le m 16) p.0 in
    (at-most 1 m r.0, at-most m 16 r.1, p.1)

pub same-place : (a b : Actor) (q : ℕ) → place_of a ≡ Some q → place_of b ≡ Some q → a ≡ b
same-place (Client m) (Client n) q x y = let one = client-place m q x in let two = client-place n q y in ap Client (omega (arith, one.0, one.2, two.0, two.2))
same-place (Rebuilder m) (Rebuilder n) q x y = let one = rebuilder-place m q x in let two = rebuilder-place n q y in ap Rebuilder (omega (arith, one.2, two.2))
same-place (Client m) (Rebuilder n) q x y = let one = client-place m q x in let two = rebuilder-place n q y in absurd (omega (arith, one.1, one.2, two.0, two.2))
same-place (Rebuilder m) (Client n) q x y = let one = rebuilder-place m q x in let two = client-place n q y in absurd (omega (arith, one.0, one.2, two.1, two.2))
same-place Admin b q x y = absurd (cc)
same-place (Client m) Admin q x y = absurd (cc)
same-place (Rebuilder m) Admin q x y = absurd (cc)

pub actor-is : (a b : Actor) → same_actor a b ≡ true → a ≡ b
actor-is (Client m) (Client n) is = ap Client (eqb-true m n is)
actor-is (Rebuilder m) (Rebuilder n) is = ap Rebuilder (eqb-true m n is)
actor-is Admin Admin is = refl
actor-is (Client m) (Rebuilder n) is = absurd (cc)
actor-is (Client m) Admin is = absurd (cc)
actor-is (Rebuilder m) (Client n) is = absurd (cc)
actor-is (Rebuilder m) Admin is = absurd (cc)
actor-is Admin (Client n) is = absurd (cc)
actor-is Admin (Rebuilder n) is = absurd (cc)

pub actor-same : (a : Actor) → same_actor a a ≡ true
actor-same (Client n) = eq-eqb n n refl
actor-same (Rebuilder n) = eq-eqb n n refl
actor-same Admin = refl

the-place : (p q : ℕ) → Some p ≡ Some q → p ≡ q
the-place p q is = cc

pub agenda-here : (ss : List Agenda) (by : Actor) (place : ℕ) (s : Agenda) → place_of by ≡ Some place → slice_get ss place ≡ Some s → agenda_in ss by ≡ agenda_of s
agenda-here ss by place s at is = ap (agenda_at ss) at ∙ ap agenda_there is

-- the actors after one was changed
pub agenda-set : (ss : List Agenda) (by : Actor) (place : ℕ) (s : Agenda) → place_of by ≡ Some place → place < length ss → (a : Actor) → agenda_in (set ss place s) a ≡ cond (same_actor a by) (agenda_of s) (agenda_in ss a)
agenda-set ss by place s at low a = go (same_actor a by) refl
  where
    other : (o : Option ℕ) → place_of a ≡ o → same_actor a by ≡ false → agenda_at (set ss place s) o ≡ agenda_at ss o
    other None is apart = refl
    other (Some q) is apart = ap agenda_there (get-set-other ss place q s (λ same. never (same_actor a by)
        (ap (λ (x : Actor). same_actor x by) (same-place a by place (is ∙ ap (λ (k : ℕ). Some k) same) at) ∙ actor-same by) apart))

    go : (b : Bool) → same_actor a by ≡ b → agenda_in (set ss place s) a ≡ cond b (agenda_of s) (agenda_in ss a)
    go true is = ap (agenda_in (set ss place s)) (actor-is a by is) ∙ ap (agenda_at (set ss place s)) at ∙ ap agenda_there (get-set-same ss place s low)
    go false is = ap (agenda_at (set ss place s)) refl ∙ other (place_of a) refl is

-- an actor that is as it was
pub agenda-same : (ss : List Agenda) (by : Actor) (place : ℕ) (s t : Agenda) → place_of by ≡ Some place → place < length ss → slice_get ss place ≡ Some s → agenda_of t ≡ agenda_of s → (a : Actor) → agenda_in (set ss place t) a ≡ agenda_in ss a
agenda-same ss by place s t at low is same a = agenda-set ss by place t at low a ∙ go (same_actor a by) refl
  where
    go : (b : Bool) → same_actor a by ≡ b → cond b (agenda_of t) (agenda_in ss a) ≡ agenda_in ss a
    go true eq = same ∙ sym (agenda-here ss by place s at is) ∙ ap (agenda_in ss) (sym (actor-is a by eq))
    go false no_ = refl

-- ---- all actors

module _ (P : Actor → Type 0) where
  all-clients : (a n : ℕ) (more : List Actor) → ((m : ℕ) → P (Client m)) → AllByRecursion P more → AllByRecursion P (map Client (range_with_len a n) ++ more)
  all-clients a zero more each rest = rest
  all-clients a (suc n) more each rest = (each a, all-clients (a + 1) n more each rest)

  all-rebuilders : (a n : ℕ) → ((m : ℕ) → P (Rebuilder m)) → AllByRecursion P (map Rebuilder (range_with_len a n))
  all-rebuilders a zero each = tt
  all-rebuilders a (suc n) each = (each a, all-rebuilders (a + 1) n each)

  pub all-actors : ((m : ℕ) → P (Client m)) → ((m : ℕ) → P (Rebuilder m)) → AllByRecursion P actors
  all-actors clients rebuilders = all-clients 1 64 (map Rebuilder (range_with_len 1 16)) clients (all-rebuilders 1 16 rebuilders)

  a-client : (a n m : ℕ) (more : List Actor) → AllByRecursion P (map Client (range_with_len a n) ++ more) → a ≤ m → m < a + n → P (Client m)
  a-client a zero m more all low high = absurd (omega (arith, low, high))
  a-client a (suc n) m more all low high = ⊎_elim
      (λ (same : m ≡ a). subst (λ (k : ℕ). P (Client k)) (sym same) all.0)
      (λ (above : m ≢ a). a-client (a + 1) n m more all.1 (omega (arith, low, above)) (omega (arith, high)))
      (cases m a)
    where
      cases : (m a : ℕ) → (m ≡ a) ⊎ (m ≢ a)
      cases m a = by-test (m == a) refl
        where
          by-test : (b : Bool) → (m == a) ≡ b → (m ≡ a) ⊎ (m ≢ a)
          by-test true is = inl (eqb-true m a is)
          by-test false is = inr (λ same. never (m == a) (eq-eqb m a same) is)

  pub at-client : (m : ℕ) → AllByRecursion P actors → 1 ≤ m → m ≤ 64 → P (Client m)
  at-client m all low high = a-client 1 64 m (map Rebuilder (range_with_len 1 16)) all low (omega (arith, high))
