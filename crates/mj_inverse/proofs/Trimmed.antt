-- What trimming a series keeps.
use Rattle.std.proofs.Common.{◌≡◌, ℕ, ◌+◌, ◌*◌, ◌<◌, ◌≤◌, ◌/◌, ◌%◌, sym, ap, ◌∙◌, arith, rules, ◌⊎◌, inl, inr, List, [], ◌∷◌, length, get_or, subst}
use Rattle.std.specs.Prelude.{slice_range, ◌-◌, vec_capacity, vec_items}
use Rattle.std.proofs.Math.Nat.{div-add-mod, mod-lt}
use Rattle.std.proofs.lemmas.Bool.{cases_lt}
use Rattle.std.proofs.lemmas.List.{places}
use Rattle.mj_inverse.specs.declared.series.Series.{Series}
use Rattle.mj_inverse_sums.specs.Polynomials.{times}
use Rattle.mj_inverse.specs.Rows.{Both, IsDividedOut}
use Rattle.mj_inverse.specs.Series.{seq, angle, IsNext, IsSeries, IsTrimmed}
use Rattle.mj_inverse_sums.proofs.Taken.{place_below, place_le}

-- the words of places that are all zero
pub zero_within : (unit from to : ℕ) (xs ys : List ℕ) → ys ≡ xs → 0 < unit → unit * to ≤ length xs →
    ((t j : ℕ) → from ≤ t → t < to → j < unit → get_or xs (unit * t + j) 0 ≡ 0) →
    (k : ℕ) → k < length (slice_range ys (unit * from) (unit * to)) → get_or (slice_range ys (unit * from) (unit * to)) k 0 ≡ 0
zero_within unit from to xs ys same some room zeros =
    let P : List ℕ → Type 0 = λ zs. (k : ℕ) → k < length (slice_range zs (unit * from) (unit * to)) → get_or (slice_range zs (unit * from) (unit * to)) k 0 ≡ 0 in
    subst P (sym same) at
  where
    after : (i t j : ℕ) → unit * t + j ≡ i → j < unit → unit * from ≤ i → (t < from) ⊎ (from ≤ t) → from ≤ t
    after i t j e h low (inl less) = (let l = place_below unit t j from h less in absurd (omega arith))
    after i t j e h low (inr more) = more

    before : (i t j : ℕ) → unit * t + j ≡ i → i < unit * to → (t < to) ⊎ (to ≤ t) → t < to
    before i t j e high (inl less) = less
    before i t j e high (inr more) = (let l = place_le unit to t more in absurd (omega arith))

    word : (i t j : ℕ) → unit * t + j ≡ i → j < unit → unit * from ≤ i → i < unit * to → get_or xs i 0 ≡ 0
    word i t j e h low high = ap (λ n. get_or xs n 0) (sym e) ∙ zeros t j (after i t j e h low (cases_lt t from)) (before i t j e high (cases_lt t to)) h

    at : (k : ℕ) → k < length (slice_range xs (unit * from) (unit * to)) → get_or (slice_range xs (unit * from) (unit * to)) k 0 ≡ 0
    at k h =
        let i : ℕ = unit * from + k in
        let long : length (slice_range xs (unit * from) (unit * to)) ≡ unit * to - unit * from = search (rules, places) in
        let same : get_or (slice_range xs (unit * from) (unit * to)) k 0 ≡ get_or xs (unit * from + k) 0 = search (rules, places) in
        same ∙ word (unit * from + k) ((unit * from + k) / unit) ((unit * from + k) % unit) (div-add-mod (unit * from + k) unit) (mod-lt (unit * from + k) some) (omega arith) (omega arith)

-- one more place that is zero, behind the others
pub zero_up : (unit a t : ℕ) (w : ℕ → ℕ) → ((t' j : ℕ) → a ≤ t' → t' < t → j < unit → w (unit * t' + j) ≡ 0) → ((j : ℕ) → j < unit → w (unit * t + j) ≡ 0) →
    (t' j : ℕ) → a ≤ t' → t' < t + 1 → j < unit → w (unit * t' + j) ≡ 0
zero_up unit a t w before now t' j from less h = by (cases_lt t' t)
  where
    by : (t' < t) ⊎ (t ≤ t') → w (unit * t' + j) ≡ 0
    by (inl l) = before t' j from l h
    by (inr l) = let e : t' ≡ t = omega arith in ap (λ x. w (unit * x + j)) e ∙ now j h

-- one more place that is zero, before the others
pub zero_down : (unit b n t : ℕ) (w : ℕ → ℕ) → t + (n + 1) ≡ b → ((t' j : ℕ) → b ≤ t' + n → t' < b → j < unit → w (unit * t' + j) ≡ 0) → ((j : ℕ) → j < unit → w (unit * t + j) ≡ 0) →
    (t' j : ℕ) → b ≤ t' + (n + 1) → t' < b → j < unit → w (unit * t' + j) ≡ 0
zero_down unit b n t w is after now t' j from less h = by (cases_lt t t')
  where
    by : (t < t') ⊎ (t' ≤ t) → w (unit * t' + j) ≡ 0
    by (inl l) = after t' j (omega arith) less h
    by (inr l) = let e : t' ≡ t = omega arith in ap (λ x. w (unit * x + j)) e ∙ now j h

-- fewer places, where the words left out are zero
pub trimmed_series : (unit : ℕ) (s : Series) (f t : ℕ) → IsSeries unit s → s.from ≤ f → f ≤ t → t ≤ s.to →
    ((k j : ℕ) → s.from ≤ k → k < f → j < unit → get_or s.words.items (unit * k + j) 0 ≡ 0) →
    ((k j : ℕ) → t ≤ k → k < s.to → j < unit → get_or s.words.items (unit * k + j) 0 ≡ 0) →
    IsSeries unit (record { direction = s.direction; angle = s.angle; origin = s.origin; from = f; to = t; room = s.room; words = s.words })
trimmed_series unit s f t is low order high before behind = record {
  some = is.some;
  angle = is.angle;
  order = order;
  within = (let w = is.within in omega arith);
  room = is.room;
  below = λ k j l h. below k j l h (cases_lt k s.from);
  above = λ k j l h. above k j l h (cases_lt k s.to);
}
  where
    below : (k j : ℕ) → k < f → j < unit → (k < s.from) ⊎ (s.from ≤ k) → get_or s.words.items (unit * k + j) 0 ≡ 0
    below k j l h (inl b) = is.below k j b h
    below k j l h (inr b) = before k j b l h

    above : (k j : ℕ) → t ≤ k → j < unit → (k < s.to) ⊎ (s.to ≤ k) → get_or s.words.items (unit * k + j) 0 ≡ 0
    above k j l h (inl b) = behind k j l b h
    above k j l h (inr b) = is.above k j b h

pub seq_trimmed : (unit j : ℕ) (x y : Series) → IsTrimmed unit x y → seq unit j y ≡ seq unit j x
seq_trimmed unit j x y t =
    let at : ℕ → ℕ → ℕ = λ o e. get_or y.words.items (unit * (o + e) + j) 0 in
    let from : List ℕ → ℕ → ℕ = λ ws e. get_or ws (unit * (x.origin + e) + j) 0 in
    ap at t.origin ∙ ap from (ap vec_items t.words)

pub next_series : (unit : ℕ) (p m : Series) (xs ms : List Series) → Both (IsNext unit p) xs (m ∷ ms) → IsSeries unit m
next_series unit p m [] ms both = absurd both
next_series unit p m (x ∷ xs) ms (n, both) = n.is

-- the first has been trimmed
pub next_trimmed : (unit : ℕ) (p m y : Series) (xs ms : List Series) → IsTrimmed unit m y → Both (IsNext unit p) xs (m ∷ ms) → Both (IsNext unit p) xs (y ∷ ms)
next_trimmed unit p m y [] ms t both = absurd both
next_trimmed unit p m y (x ∷ xs) ms t (n, both) = (
  (let to = t.to in
      let from = t.from in
      let low = n.low in
      let o = t.origin in
      record {
        is = t.is;
        angle = t.angle ∙ n.angle;
        room = t.room ∙ n.room;
        capacity = (let c = n.capacity in let w = ap vec_capacity t.words in omega arith);
        origin = t.origin ∙ n.origin;
        low = omega arith;
        reach = λ high a b. (let r = n.reach high a b in omega arith);
      }),
  both,
)

pub divided_trimmed : (unit j : ℕ) (p m y : Series) (xs ms : List Series) → IsTrimmed unit m y →
    Both (IsDividedOut angle (seq unit j) p) xs (m ∷ ms) → Both (IsDividedOut angle (seq unit j) p) xs (y ∷ ms)
divided_trimmed unit j p m y [] ms t both = absurd both
divided_trimmed unit j p m y (x ∷ xs) ms t (d, both) =
    (record { angle = t.angle ∙ d.angle; exact = d.exact ∙ ap (times x.angle p.angle) (sym (seq_trimmed unit j m y t)) }, both)
