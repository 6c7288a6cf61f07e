-- Nodes in a row.
use Rattle.std.proofs.Common.{ℕ, zero, suc, ◌≡◌, ◌≢◌, ◌+◌, ◌<◌, ◌≤◌, ⊎_elim, List, [], ◌∷◌, Some, length, ap, refl, ◌∙◌, sym, arith, Bool, true, false, cond, set, subst, eq-eqb}
use Rattle.std.specs.Prelude.{slice_get, ◌==◌}
use Rattle.std.proofs.lemmas.Bool.{cases_lt, eqb-true}
use Rattle.rz_nodes.specs.declared.formatting.Server.{Server}
use Rattle.rz_driver_nodes.specs.Servers.{IsServerAt, IsNowhere, state_in}
use Rattle.std.specs.List.{AllByRecursion}
use Rattle.rz_node_model.specs.States.{NodeState}

-- ---- rows

module _ {A : Type 0} (P : A → Type 0) where
  pub all-set : (xs : List A) (i : ℕ) (v : A) → AllByRecursion P xs → P v → AllByRecursion P (set xs i v)
  all-set [] i v all holds = tt
  all-set (x ∷ xs) zero v all holds = (holds, all.1)
  all-set (x ∷ xs) (suc i) v all holds = (all.0, all-set xs i v all.1 holds)

  pub all-at : (xs : List A) (i : ℕ) (v : A) → AllByRecursion P xs → slice_get xs i ≡ Some v → P v
  all-at [] i v all is = absurd (cc)
  all-at (x ∷ xs) zero v all is = subst P (the-item x v is) all.0
    where
      the-item : (x v : A) → Some x ≡ Some v → x ≡ v
      the-item x v is = cc
  all-at (x ∷ xs) (suc i) v all is = all-at xs i v all.1 is

-- ---- places

module _ {D : Type 0} where
  the-one : (x s : Server D) → Some x ≡ Some s → x ≡ s
  the-one x s is = cc

  -- the first one with a number that none before it has
  pub first-at : (xs : List (Server D)) (n i : ℕ) (s : Server D) → slice_get xs i ≡ Some s → s.sid ≡ n
      → ((k : ℕ) (x : Server D) → k < i → slice_get xs k ≡ Some x → x.sid ≢ n) → IsServerAt xs n i
  first-at [] n i s is same others = absurd (cc)
  first-at (x ∷ xs) n zero s is same others = ap (λ (y : Server D). y.sid) (the-one x s is) ∙ same
  first-at (x ∷ xs) n (suc i) s is same others = (others 0 x (omega arith) refl, first-at xs n i s is same (λ k y low at. others (suc k) y (omega arith) at))

  -- so is one more
  pub none-more : (xs : List (Server D)) (n i : ℕ) (s : Server D) → slice_get xs i ≡ Some s → s.sid ≢ n
      → ((k : ℕ) (x : Server D) → k < i → slice_get xs k ≡ Some x → x.sid ≢ n)
      → (k : ℕ) (x : Server D) → k < i + 1 → slice_get xs k ≡ Some x → x.sid ≢ n
  none-more xs n i s is other others k x low at = ⊎_elim
      (λ (below : k < i). others k x below at)
      (λ (above : i ≤ k). let here : k ≡ i = omega (arith, low, above) in
      let same = the-one x s (sym at ∙ ap (slice_get xs) here ∙ is) in
      λ named. other (ap (λ (y : Server D). y.sid) (sym same) ∙ named))
      (cases_lt k i)

  -- none has it, where none does at any place
  pub none-at : (xs : List (Server D)) (n : ℕ) → ((k : ℕ) (x : Server D) → k < length xs → slice_get xs k ≡ Some x → x.sid ≢ n) → IsNowhere xs n
  none-at [] n others = tt
  none-at (x ∷ xs) n others = (others 0 x (omega arith) refl, none-at xs n (λ k y low at. others (suc k) y (omega (arith, low)) at))

  pub at-within : (xs : List (Server D)) (n i : ℕ) → IsServerAt xs n i → i < length xs
  at-within [] n i at = absurd at
  at-within (x ∷ xs) n zero at = omega arith
  at-within (x ∷ xs) n (suc i) at = let low = at-within xs n i at.1 in omega (arith, low)

-- ---- states

differ : (n m : ℕ) → n ≢ m → (n == m) ≡ false
differ n m ne = go (n == m) refl
  where
    go : (b : Bool) → (n == m) ≡ b → (n == m) ≡ false
    go false is = is
    go true is = absurd (ne (eqb-true n m is))

twice : (b : Bool) (s x r : NodeState) → cond b s r ≡ cond b s (cond b x r)
twice true s x r = refl
twice false s x r = refl

swap : (c b : Bool) (x s r : NodeState) → (c ≡ true → b ≡ true → ⊥) → cond c x (cond b s r) ≡ cond b s (cond c x r)
swap true true x s r apart = absurd (apart refl refl)
swap true false x s r apart = refl
swap false true x s r apart = refl
swap false false x s r apart = refl

module _ {D : Type 0} where
  -- the node at the place of a number
  pub state-at : (ss : List (Server D)) (n i : ℕ) (s : Server D) → IsServerAt ss n i → slice_get ss i ≡ Some s → (s.sid ≡ n) × (state_in ss n ≡ s.node.state)
  state-at [] n i s at is = absurd at
  state-at (x ∷ ss) n zero s at is =
      let same = the-one x s is in (
        ap (λ (y : Server D). y.sid) (sym same) ∙ at,
        ap (λ b. cond b x.node.state (state_in ss n)) (eq-eqb n x.sid (sym at)) ∙ ap (λ (y : Server D). y.node.state) same,
      )
  state-at (x ∷ ss) n (suc i) s at is =
      let rest = state-at ss n i s at.1 is in
      (rest.0, ap (λ b. cond b x.node.state (state_in ss n)) (differ n x.sid (λ same. at.0 (sym same))) ∙ rest.1)

  -- and after it was changed
  pub state-set : (ss : List (Server D)) (n i : ℕ) (s : Server D) → IsServerAt ss n i → s.sid ≡ n → (m : ℕ) → state_in (set ss i s) m ≡ cond (m == n) s.node.state (state_in ss m)
  state-set [] n i s at sid m = absurd at
  state-set (x ∷ ss) n zero s at sid m =
      ap (λ (k : ℕ). cond (m == k) s.node.state (state_in ss m)) sid
      ∙ twice (m == n) s.node.state x.node.state (state_in ss m)
      ∙ ap (λ (k : ℕ). cond (m == n) s.node.state (cond (m == k) x.node.state (state_in ss m))) (sym at)
  state-set (x ∷ ss) n (suc i) s at sid m =
      ap (cond (m == x.sid) x.node.state) (state-set ss n i s at.1 sid m)
      ∙ swap (m == x.sid) (m == n) x.node.state s.node.state (state_in ss m) (λ one two. at.0 (sym (eqb-true m x.sid one) ∙ eqb-true m n two))

  -- a node that has its state
  pub state-same : (xs : List (Server D)) (n m : ℕ) (x : NodeState) → x ≡ state_in xs n → cond (m == n) x (state_in xs m) ≡ state_in xs m
  state-same xs n m x is = go (m == n) refl
    where
      go : (b : Bool) → (m == n) ≡ b → cond b x (state_in xs m) ≡ state_in xs m
      go true same = is ∙ ap (λ (k : ℕ). state_in xs k) (sym (eqb-true m n same))
      go false apart = refl
