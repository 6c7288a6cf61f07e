-- Blocks and rows in the order.
use Rattle.std.proofs.Common.{◌≡◌, ℕ, ◌/◌, ◌^◌, ◌<◌, ◌≤◌, Bool, true, false, sym, ap, ◌∙◌, refl, arith, inl, inr, eqb-true}
use Rattle.std.specs.Prelude.{◌==◌, ◌&&◌, ◌⊎◌, nat_lt}
use Rattle.std.specs.Ordering.{is_le, is_lt, nat_cmp, ordering_then}
use Rattle.std.specs.declared.cmp.Ordering.TheVariants.{Less, Equal, Greater}
use Rattle.std.proofs.lemmas.Bool.{cases_lt, cases_order, lt-ltb, le-ltb, eq-eqb, ne_eqb}
use Rattle.std.proofs.lemmas.Bool.Decides.{nat_tests}
use Rattle.rz_events.specs.Keys.{key_cmp}
use Rattle.rz_events.specs.declared.keys.Key.{Key}
use Rattle.rz_blocks.specs.declared.row.Row.{Row}
use Rattle.rz_blocks.specs.Marks.{is_row_of}
use Rattle.rz_blocks.specs.Rows.{rank, rank_of, is_upto}

less-cmp : (a b : ℕ) → a < b → nat_cmp a b ≡ Less
less-cmp a b h = grind (arith, nat_tests)

same-cmp : (a b : ℕ) → a ≡ b → nat_cmp a b ≡ Equal
same-cmp a b h = grind (arith, nat_tests)

more-cmp : (a b : ℕ) → b < a → nat_cmp a b ≡ Greater
more-cmp a b h = grind (arith, nat_tests)

le-cmp : (a b : ℕ) → a ≤ b → is_le (nat_cmp a b) ≡ true
le-cmp a b h = grind (arith, nat_tests)

cmp-le : (a b : ℕ) → is_le (nat_cmp a b) ≡ true → a ≤ b
cmp-le a b h = grind (arith, nat_tests)

cmp-lt : (a b : ℕ) → is_lt (nat_cmp a b) ≡ true → a < b
cmp-lt a b h = grind (arith, nat_tests)

pub both : (a b : Bool) → (a && b) ≡ true → (a ≡ true) × (b ≡ true)
both true true h = (refl, refl)
both true false h = cc
both false b h = cc

pub same-eq : (a b : ℕ) → (a == b) ≡ (b == a)
same-eq a b = go (a == b) refl
  where
    go : (t : Bool) → (a == b) ≡ t → t ≡ (b == a)
    go true h = sym (eq-eqb b a (sym (eqb-true a b h)))
    go false h = sym (ne_eqb b a (λ same. let never : true ≡ false = sym (eq-eqb a b (sym same)) ∙ h in cc))

-- ---- blocks

module _ (a b : Key) where
  lesser-file : a.fid < b.fid → key_cmp a b ≡ Less
  lesser-file h = ap (λ r. ordering_then r (nat_cmp a.block b.block)) (less-cmp a.fid b.fid h)

  same-file : a.fid ≡ b.fid → key_cmp a b ≡ nat_cmp a.block b.block
  same-file h = ap (λ r. ordering_then r (nat_cmp a.block b.block)) (same-cmp a.fid b.fid h)

  greater-file : b.fid < a.fid → key_cmp a b ≡ Greater
  greater-file h = ap (λ r. ordering_then r (nat_cmp a.block b.block)) (more-cmp a.fid b.fid h)

  pub upto-lesser : a.fid < b.fid → is_upto a b ≡ true
  upto-lesser h = ap is_le (lesser-file h)

  pub upto-same : a.fid ≡ b.fid → a.block ≤ b.block → is_upto a b ≡ true
  upto-same same h = ap is_le (same-file same) ∙ le-cmp a.block b.block h

  pub upto-parts : is_upto a b ≡ true → (a.fid < b.fid) ⊎ ((a.fid ≡ b.fid) × (a.block ≤ b.block))
  upto-parts h = elim (cases_order a.fid b.fid) [
    | inl same ↦ inr (same, cmp-le a.block b.block (sym (ap is_le (same-file same)) ∙ h))
    | inr other ↦ elim other [
      | inl less ↦ inl less
      | inr more ↦ let never : false ≡ true = sym (ap is_le (greater-file more)) ∙ h in cc
    ]
  ]

  pub lt-parts : is_lt (key_cmp a b) ≡ true → (a.fid < b.fid) ⊎ ((a.fid ≡ b.fid) × (a.block < b.block))
  lt-parts h = elim (cases_order a.fid b.fid) [
    | inl same ↦ inr (same, cmp-lt a.block b.block (sym (ap is_lt (same-file same)) ∙ h))
    | inr other ↦ elim other [
      | inl less ↦ inl less
      | inr more ↦ let never : false ≡ true = sym (ap is_lt (greater-file more)) ∙ h in cc
    ]
  ]

  -- the rows of blocks rise with them
  pub rank-upto : (list : ℕ) → a.block < 2 ^ 64 → is_upto a b ≡ true → rank_of list a ≤ rank_of list b
  rank-upto list small h = elim (upto-parts h) [ inl less ↦ omega arith | inr same ↦ omega arith ]

  pub rank-lt : (list : ℕ) → a.block < 2 ^ 64 → is_lt (key_cmp a b) ≡ true → rank_of list a ≤ rank_of list b
  rank-lt list small h = elim (lt-parts h) [ inl less ↦ omega arith | inr same ↦ omega arith ]

-- ---- rows against rows

module _ (a b : Row) (a_fid : a.fid < 2 ^ 128) (b_fid : b.fid < 2 ^ 128) (a_index : a.index < 2 ^ 64) (b_index : b.index < 2 ^ 64) where
  pub by-list : (a.list ≡ b.list → ⊥) → nat_lt a.list b.list ≡ nat_lt (rank a) (rank b)
  by-list other = elim (cases_lt a.list b.list) [
    | inl less ↦ lt-ltb a.list b.list less ∙ sym (lt-ltb (rank a) (rank b) (omega arith))
    | inr more ↦ le-ltb a.list b.list more ∙ sym (le-ltb (rank a) (rank b) (omega arith))
  ]

  pub by-fid : a.list ≡ b.list → (a.fid ≡ b.fid → ⊥) → nat_lt a.fid b.fid ≡ nat_lt (rank a) (rank b)
  by-fid same other = elim (cases_lt a.fid b.fid) [
    | inl less ↦ lt-ltb a.fid b.fid less ∙ sym (lt-ltb (rank a) (rank b) (omega arith))
    | inr more ↦ le-ltb a.fid b.fid more ∙ sym (le-ltb (rank a) (rank b) (omega arith))
  ]

  pub same-list : rank a ≡ rank b → a.list ≡ b.list
  same-list h = omega arith

  pub same-fid : rank a ≡ rank b → a.fid ≡ b.fid
  same-fid h = let list : a.list ≡ b.list = same-list h in omega arith

  pub same-index : rank a ≡ rank b → a.index ≡ b.index
  same-index h = let list : a.list ≡ b.list = same-list h in let fid : a.fid ≡ b.fid = same-fid h in omega arith

-- ---- the row of a block

module _ (list : ℕ) (key : Key) (r : Row) where
  pub own-list : is_row_of list key r ≡ true → r.list ≡ list
  own-list h = eqb-true r.list list (both _ _ (both _ _ h).0).0

  pub own-fid : is_row_of list key r ≡ true → r.fid ≡ key.fid
  own-fid h = eqb-true r.fid key.fid (both _ _ (both _ _ h).0).1

  pub own-index : is_row_of list key r ≡ true → r.index ≡ key.block / 64
  own-index h = eqb-true r.index (key.block / 64) (both _ _ h).1

  pub own-rank : is_row_of list key r ≡ true → rank r ≡ rank_of list key
  own-rank h = let l : r.list ≡ list = own-list h in let f : r.fid ≡ key.fid = own-fid h in let i : r.index ≡ key.block / 64 = own-index h in omega arith

  pub is-own : r.list ≡ list → r.fid ≡ key.fid → r.index ≡ key.block / 64 → is_row_of list key r ≡ true
  is-own l f i = ap (λ b. (b && (r.fid == key.fid)) && (r.index == key.block / 64)) (eq-eqb r.list list l)
      ∙ ap (λ b. b && (r.index == key.block / 64)) (eq-eqb r.fid key.fid f) ∙ eq-eqb r.index (key.block / 64) i
