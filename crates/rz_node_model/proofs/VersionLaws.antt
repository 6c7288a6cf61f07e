-- The rule of versions, seen through a function on versions, and its tests as facts.
use Rattle.std.proofs.Common.{ℕ, Bool, true, false, ◌≡◌, ◌⊎◌, inl, inr, ◌<◌, ◌≤◌, ◌==◌, ◌||◌, nat_lt, nat_le, List, [], ◌∷◌, map, Option, Some, None, cond, refl, sym, arith}
use Rattle.std.specs.Option.{option_map}
use Rattle.std.proofs.lemmas.Bool.{eqb-true, eq-eqb, and_parts, ltb-true, lt-ltb, leb-true, le-leb, leb-false}
use Rattle.rz_node_model.specs.Versions.{kept, refilled, without, has_stamp, is_past, passes_keep, passes_refill, lesser_of, greater_goes, Stands, IsPast, greatest}

module _ {A B : Type 0} (f : A → B) (from : A → ℕ) (to : B → ℕ) (same : (a : A) → to (f a) ≡ from a) where
  -- a choice of two lists, mapped
  chosen : (t : Bool) (xs ys : List A) → cond t (map f xs) (map f ys) ≡ map f (cond t xs ys)
  chosen true xs ys = refl
  chosen false xs ys = refl

  pub kept-map : (base : ℕ) (new : A) (held : List A) → kept to base (f new) (map f held) ≡ map f (kept from base new held)
  kept-map base new [] = refl
  kept-map base new (a ∷ []) = refl
  kept-map base new (greater ∷ lesser ∷ more) = rw (same greater, same lesser) (chosen (greater_goes base (from greater) (from lesser)) (new ∷ lesser ∷ []) (new ∷ greater ∷ []))

  pub refilled-map : (new : A) (held : List A) → refilled to (f new) (map f held) ≡ map f (refilled from new held)
  refilled-map new [] = refl
  refilled-map new (greater ∷ more) = rw (same greater, same new) (chosen (nat_lt (from greater) (from new)) (new ∷ greater ∷ []) (greater ∷ new ∷ []))

  pub without-map : (s : ℕ) (held : List A) → without to s (map f held) ≡ map f (without from s held)
  without-map s [] = refl
  without-map s (a ∷ more) = rw (same a, without-map s more) (chosen (from a == s) more (a ∷ without from s more))

  pub has_stamp-map : (s : ℕ) (held : List A) → has_stamp to s (map f held) ≡ has_stamp from s held
  has_stamp-map s [] = refl
  has_stamp-map s (a ∷ more) = rw (same a, has_stamp-map s more) refl

  pub passes_keep-map : (s : ℕ) (held : List A) → passes_keep to s (map f held) ≡ passes_keep from s held
  passes_keep-map s [] = refl
  passes_keep-map s (greatest ∷ more) = rw (same greatest) refl

  pub lesser_of-map : (held : List A) → lesser_of (map f held) ≡ option_map f (lesser_of held)
  lesser_of-map [] = refl
  lesser_of-map (a ∷ []) = refl
  lesser_of-map (greater ∷ lesser ∷ more) = refl

  module _ (base_from : A → ℕ) (base_to : B → ℕ) (same_base : (a : A) → base_to (f a) ≡ base_from a) where
    pub is_past-map : (s : ℕ) (held : List A) → is_past to base_to s (map f held) ≡ is_past from base_from s held
    is_past-map s [] = refl
    is_past-map s (a ∷ []) = refl
    is_past-map s (greater ∷ lesser ∷ more) = rw (same greater, same lesser, same_base greater) refl

    pub passes_refill-map : (s : ℕ) (held : List A) → passes_refill to base_to s (map f held) ≡ passes_refill from base_from s held
    passes_refill-map s [] = refl
    passes_refill-map s (greatest ∷ more) =
        rw (has_stamp-map s (greatest ∷ more), is_past-map s (greatest ∷ more), same greatest) refl

-- a stamp read as itself
abbrev pub itself : ℕ → ℕ
itself s = s

pub has_stamp-stands : (s : ℕ) (held : List ℕ) → has_stamp itself s held ≡ true → Stands s held
has_stamp-stands s [] h = cc
has_stamp-stands s (t ∷ more) h = go (t == s) refl h (has_stamp-stands s more)
  where
    go : (b : Bool) → (t == s) ≡ b → (b || has_stamp itself s more) ≡ true → (has_stamp itself s more ≡ true → Stands s more)
        → (t ≡ s) ⊎ Stands s more
    go true e h rest = inl (eqb-true t s e)
    go false e h rest = inr (rest h)

pub stands-has_stamp : (s : ℕ) (held : List ℕ) → Stands s held → has_stamp itself s held ≡ true
stands-has_stamp s [] there = elim there [ ]
stands-has_stamp s (t ∷ more) (inl is) = rw (eq-eqb t s is) refl
stands-has_stamp s (t ∷ more) (inr there) = rw (stands-has_stamp s more there) (or_true (t == s))
  where
    or_true : (b : Bool) → (b || true) ≡ true
    or_true true = refl
    or_true false = refl

pub absent-stands : (s : ℕ) (held : List ℕ) → has_stamp itself s held ≡ false → ¬ Stands s held
absent-stands s held h there = let p = stands-has_stamp s held there in cc

pub is_past-holds : (base : ℕ → ℕ) (s : ℕ) (held : List ℕ) → is_past itself base s held ≡ true → IsPast base s held
is_past-holds base s [] h = cc
is_past-holds base s (a ∷ []) h = cc
is_past-holds base s (greater ∷ lesser ∷ more) h =
    let p = and_parts _ _ h in
    let q = and_parts _ _ p.0 in
    (ltb-true _ _ q.0, ltb-true _ _ q.1, leb-true _ _ p.1)

pub past-is_past : (base : ℕ → ℕ) (s : ℕ) (held : List ℕ) → IsPast base s held → is_past itself base s held ≡ true
past-is_past base s [] h = elim h [ ]
past-is_past base s (greater ∷ []) h = elim h [ ]
past-is_past base s (greater ∷ lesser ∷ more) h = rw (lt-ltb _ _ h.0, lt-ltb _ _ h.1, le-leb _ _ h.2) refl

pub dated-past : (base : ℕ → ℕ) (s : ℕ) (held : List ℕ) → is_past itself base s held ≡ false → ¬ IsPast base s held
dated-past base s held h past = let p = past-is_past base s held past in cc

-- a keep that is not passed over is above the greatest stamp
pub keep-above : (s greatest : ℕ) (more : List ℕ) → passes_keep itself s (greatest ∷ more) ≡ None → greatest < s
keep-above s greatest more h = go (nat_le s greatest) refl h
  where
    go : (b : Bool) → nat_le s greatest ≡ b → cond {A = Option ℕ} b (Some greatest) None ≡ None → greatest < s
    go true e h = cc
    go false e h = leb-false _ _ e

-- one that is passed over is not
pub keep-passed : (s now : ℕ) (held : List ℕ) → passes_keep itself s held ≡ Some now → (now ≡ greatest held) × (s ≤ now)
keep-passed s now [] h = cc
keep-passed s now (top ∷ more) h = go (nat_le s top) refl h
  where
    go : (b : Bool) → nat_le s top ≡ b → cond {A = Option ℕ} b (Some top) None ≡ Some now → (now ≡ top) × (s ≤ now)
    go true e h = let same : top ≡ now = cc in let le = leb-true _ _ e in (sym same, omega arith)
    go false e h = cc

-- a refill that is not passed over is neither held nor out of date
pub refill-dated : (base : ℕ → ℕ) (s : ℕ) (held : List ℕ) → passes_refill itself base s held ≡ None → (¬ Stands s held) × (¬ IsPast base s held)
refill-dated base s [] h = (λ there. there, λ past. past)
refill-dated base s (top ∷ more) h = go (has_stamp itself s (top ∷ more)) (is_past itself base s (top ∷ more)) refl refl h
  where
    go : (a b : Bool) → has_stamp itself s (top ∷ more) ≡ a → is_past itself base s (top ∷ more) ≡ b
        → cond {A = Option ℕ} (a || b) (Some top) None ≡ None → (¬ Stands s (top ∷ more)) × (¬ IsPast base s (top ∷ more))
    go true b p q h = cc
    go false true p q h = cc
    go false false p q h = (absent-stands s (top ∷ more) p, dated-past base s (top ∷ more) q)

-- one that is passed over is held, or out of date
pub refill-passed : (base : ℕ → ℕ) (s now : ℕ) (held : List ℕ) → passes_refill itself base s held ≡ Some now
    → (now ≡ greatest held) × (Stands s held ⊎ IsPast base s held)
refill-passed base s now [] h = cc
refill-passed base s now (top ∷ more) h = go (has_stamp itself s (top ∷ more)) (is_past itself base s (top ∷ more)) refl refl h
  where
    go : (a b : Bool) → has_stamp itself s (top ∷ more) ≡ a → is_past itself base s (top ∷ more) ≡ b
        → cond {A = Option ℕ} (a || b) (Some top) None ≡ Some now → (now ≡ top) × (Stands s (top ∷ more) ⊎ IsPast base s (top ∷ more))
    go true b p q h = let same : top ≡ now = cc in (sym same, inl (has_stamp-stands s (top ∷ more) p))
    go false true p q h = let same : top ≡ now = cc in (sym same, inr (is_past-holds base s (top ∷ more) q))
    go false false p q h = cc
