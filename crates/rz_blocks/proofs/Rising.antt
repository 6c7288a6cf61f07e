-- Rows that rise in the order.
use Rattle.std.proofs.Common.{◌≡◌, ℕ, suc, ◌+◌, ◌<◌, ◌≤◌, Bool, true, false, cond, List, [], ◌∷◌, ◌++◌, length, take, drop, sym, ap, ◌∙◌, subst, refl, arith, inl, inr}
use Rattle.std.specs.Prelude.{nat_lt, ◌||◌, ◌⊎◌}
use Rattle.std.specs.List.{list_any}
use Rattle.std.proofs.lemmas.Bool.{cases_lt, lt-ltb, le-ltb}
use Rattle.rz_blocks.specs.declared.row.Row.{Row}
use Rattle.rz_blocks.specs.Rows.{rank, rows_before, IsSmall, IsRising}

-- ---- the bounds

pub spans : (low high : ℕ) (rows : List Row) → IsRising low high rows → low ≤ high
spans low high [] h = h
spans low high (r ∷ rows) h = omega (arith, h.1, spans (rank r + 1) high rows h.2)

pub lower : (low high l : ℕ) (rows : List Row) → l ≤ low → IsRising low high rows → IsRising l high rows
lower low high l [] le h = omega arith
lower low high l (r ∷ rows) le h = (h.0, omega (arith, h.1), h.2)

pub higher : (low high m : ℕ) (rows : List Row) → high ≤ m → IsRising low high rows → IsRising low m rows
higher low high m [] le h = omega arith
higher low high m (r ∷ rows) le h = (h.0, h.1, higher (rank r + 1) high m rows le h.2)

-- ---- joined lists and parts

pub join : (low m k high : ℕ) (a b : List Row) → m ≤ k → IsRising low m a → IsRising k high b → IsRising low high (a ++ b)
join low m k high [] b le h g = lower k high low b (omega arith) g
join low m k high (r ∷ a) b le h g = (h.0, h.1, join (rank r + 1) m k high a b le h.2 g)

pub front : (low high : ℕ) (a : List Row) (r : Row) (b : List Row) → IsRising low high (a ++ r ∷ b) → IsRising low (rank r) a
front low high [] r b h = h.1
front low high (x ∷ a) r b h = (h.0, h.1, front (rank x + 1) high a r b h.2)

pub middle : (low high : ℕ) (a : List Row) (r : Row) (b : List Row) → IsRising low high (a ++ r ∷ b) → IsSmall r
middle low high [] r b h = h.0
middle low high (x ∷ a) r b h = middle (rank x + 1) high a r b h.2

pub back : (low high : ℕ) (a : List Row) (r : Row) (b : List Row) → IsRising low high (a ++ r ∷ b) → IsRising (rank r + 1) high b
back low high [] r b h = h.2
back low high (x ∷ a) r b h = back (rank x + 1) high a r b h.2

-- ---- how many stand before a place

pub none-before : (low high n : ℕ) (rows : List Row) → n ≤ low → IsRising low high rows → rows_before n rows ≡ 0
none-before low high n [] le h = refl
none-before low high n (r ∷ rows) le h =
    ap (λ b. cond b (suc (rows_before n rows)) (rows_before n rows)) (le-ltb (rank r) n (omega (arith, h.1))) ∙ none-before (rank r + 1) high n rows (omega (arith, h.1)) h.2

pub all-before : (low high n : ℕ) (rows : List Row) → high ≤ n → IsRising low high rows → rows_before n rows ≡ length rows
all-before low high n [] le h = refl
all-before low high n (r ∷ rows) le h =
    let below : rank r < n = omega (arith, spans (rank r + 1) high rows h.2) in
    ap (λ b. cond b (suc (rows_before n rows)) (rows_before n rows)) (lt-ltb (rank r) n below) ∙ ap (λ k. suc k) (all-before (rank r + 1) high n rows le h.2)

pub count-le : (n : ℕ) (rows : List Row) → rows_before n rows ≤ length rows
count-le n [] = omega arith
count-le n (r ∷ rows) = elim (nat_lt (rank r) n) as (λ b. cond b (suc (rows_before n rows)) (rows_before n rows) ≤ suc (length rows)) [ true ↦ omega (arith, count-le n rows) | false ↦ omega (arith, count-le n rows) ]

pub count-append : (n : ℕ) (a b : List Row) → rows_before n (a ++ b) ≡ rows_before n a + rows_before n b
count-append n [] b = omega arith
count-append n (r ∷ a) b = go (nat_lt (rank r) n) (count-append n a b)
  where
    go : (t : Bool) → rows_before n (a ++ b) ≡ rows_before n a + rows_before n b
        → cond t (suc (rows_before n (a ++ b))) (rows_before n (a ++ b)) ≡ cond t (suc (rows_before n a)) (rows_before n a) + rows_before n b
    go true h = omega arith
    go false h = h

-- the rows are cut where a place in the order is
pub cut : (low high n : ℕ) (rows : List Row) → low ≤ n → n ≤ high → IsRising low high rows
    → IsRising low n (take (rows_before n rows) rows) × IsRising n high (drop (rows_before n rows) rows)
cut low high n [] from to h = (from, to)
cut low high n (r ∷ rows) from to h = go (cases_lt (rank r) n) (λ below. cut (rank r + 1) high n rows (omega arith) to h.2)
  where
    go : (rank r < n) ⊎ (n ≤ rank r)
        → (rank r < n → IsRising (rank r + 1) n (take (rows_before n rows) rows) × IsRising n high (drop (rows_before n rows) rows))
        → IsRising low n (take (rows_before n (r ∷ rows)) (r ∷ rows)) × IsRising n high (drop (rows_before n (r ∷ rows)) (r ∷ rows))
    go (inl below) rest =
        let one : rows_before n (r ∷ rows) ≡ suc (rows_before n rows) = ap (λ b. cond b (suc (rows_before n rows)) (rows_before n rows)) (lt-ltb (rank r) n below) in
        subst (λ k. IsRising low n (take k (r ∷ rows)) × IsRising n high (drop k (r ∷ rows))) (sym one) ((h.0, h.1, (rest below).0), (rest below).1)
    go (inr above) rest =
        let none : rows_before n (r ∷ rows) ≡ 0 = none-before n high n (r ∷ rows) (omega arith) (h.0, above, h.2) in
        subst (λ k. IsRising low n (take k (r ∷ rows)) × IsRising n high (drop k (r ∷ rows))) (sym none) (from, (h.0, above, h.2))

-- ---- rows that a test tells

-- no row passes a test that only rows below or above pass
pub none-within : (low high : ℕ) (p : Row → Bool) (rows : List Row) → ((r : Row) → IsSmall r → p r ≡ true → low ≤ rank r → rank r < high → ⊥) → IsRising low high rows → list_any p rows ≡ false
none-within low high p [] out h = refl
none-within low high p (r ∷ rows) out h =
    ap (λ b. b || list_any p rows) (not-this (p r) refl)
    ∙ none-within (rank r + 1) high p rows (λ x small is from to. out x small is (omega (arith, h.1)) to) h.2
  where
    not-this : (b : Bool) → p r ≡ b → p r ≡ false
    not-this true is = absurd (out r h.0 is h.1 (omega (arith, spans (rank r + 1) high rows h.2)))
    not-this false is = is

-- what is true of each small row that passes a test is true where some row passes
pub some-small : (low high : ℕ) (p : Row → Bool) (P : Type 0) (rows : List Row) → ((r : Row) → IsSmall r → p r ≡ true → P) → IsRising low high rows → list_any p rows ≡ true → P
some-small low high p P [] then h is = cc
some-small low high p P (r ∷ rows) then h is = this (p r) refl (some-small (rank r + 1) high p P rows then h.2)
  where
    this : (b : Bool) → p r ≡ b → (list_any p rows ≡ true → P) → P
    this true here more = then r h.0 here
    this false here more = more (sym (ap (λ b. b || list_any p rows) here) ∙ is)
