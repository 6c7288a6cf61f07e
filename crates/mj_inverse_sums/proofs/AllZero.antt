-- Words that are all zero.
use Rattle.std.proofs.Common.{◌≡◌, ℕ, ◌+◌, ◌<◌, ◌≤◌, sym, ap, ◌∙◌, arith, rules, List, length, get_or, subst}
use Rattle.std.specs.Prelude.{slice_range, ◌-◌}
use Rattle.std.proofs.lemmas.List.{places}

-- a word among those that are all zero
pub zero_between : (xs ys : List ℕ) (a b i : ℕ) → ys ≡ xs → ((k : ℕ) → k < length (slice_range ys a b) → get_or (slice_range ys a b) k 0 ≡ 0) → b ≤ length xs → a ≤ i → i < b → get_or xs i 0 ≡ 0
zero_between xs ys a b i same all room low high =
    let P : List ℕ → Type 0 = λ zs. (k : ℕ) → k < length (slice_range zs a b) → get_or (slice_range zs a b) k 0 ≡ 0 in
    let now = subst P same all in
    let long : length (slice_range xs a b) ≡ b - a = search (rules, places) in
    let at : get_or (slice_range xs a b) (i - a) 0 ≡ get_or xs (a + (i - a)) 0 = search (rules, places) in
    let e : a + (i - a) ≡ i = omega arith in
    ap (λ k. get_or xs k 0) (sym e) ∙ sym at ∙ now (i - a) (omega arith)
