-- The mask of a table of outcomes: which positions it names, and how many.
use Rattle.std.proofs.Common.{◌≡◌, ℕ, suc, zero, ◌+◌, ◌*◌, ◌/◌, ◌%◌, ◌^◌, ◌<◌, ◌≤◌, Bool, true, false, cond, List, [], ◌∷◌, ◌++◌, length, get_or, replicate, arith, ap, ◌∙◌, refl, inl, inr}
use Rattle.std.specs.Prelude.{count_by}
use Rattle.std.specs.Int.{bit_at}
use Rattle.std.specs.Int.Count.{ones, ones_step}
use Rattle.std.proofs.lemmas.List.Sums.{sum_by-cons}
use Rattle.std.proofs.lemmas.Bool.{cases_lt}
use Rattle.std.proofs.lemmas.Nat.Bits.{bit_at-zero, bit_at_above, bit_at_lowest, bit_at-suc}
use Rattle.std.proofs.Math.Nat.{pow-suc}
use Rattle.mj_angles.specs.declared.layout.Layout.{Layout}
use Rattle.mj_angles.specs.Layout.{forward_of, safe_of}
use Rattle.rz_events.specs.declared.ends.Why.{Why}
use Rattle.rz_events.specs.declared.ends.Why.TheVariants.{NotAsked}
use Rattle.rz_client_model.specs.Write.{is_kept, mask_of}

-- Layouts.

pub safe-few : (layout : Layout) → safe_of layout ≤ 16
safe-few layout = grind arith

pub forward-less : (layout : Layout) → forward_of layout ≤ safe_of layout
forward-less layout = grind arith

-- Single bits.

-- a position in a set of positions below n is below n
pub in-below : (a n p : ℕ) → a < 2 ^ n → bit_at a p ≡ 1 → p < n
in-below a n p few h = elim (cases_lt p n) [ inl below ↦ below | inr above ↦ absurd (omega (arith, bit_at_above a n p few above, h)) ]

pub bit-le : (b : Bool) → cond b 1 0 ≤ 1
bit-le true = omega arith
bit-le false = omega arith

pub one-if : (b : Bool) → ◌≡◌ {A = ℕ} (cond b 1 0) 1 → b ≡ true
one-if true h = refl
one-if false h = absurd (omega (arith, h))

low : (c m : ℕ) → c ≤ 1 → (c + 2 * m) % 2 ≡ c
low c m h = omega arith

high : (c m : ℕ) → c ≤ 1 → (c + 2 * m) / 2 ≡ m
high c m h = omega arith

-- a bit of a mask says whether the position has the record
pub bit_at-mask_of : (ws : List Why) (p : ℕ) → bit_at (mask_of ws) p ≡ cond (is_kept (get_or ws p NotAsked)) 1 0
bit_at-mask_of [] p = bit_at-zero p
bit_at-mask_of (w ∷ ws) zero =
    bit_at_lowest (mask_of (w ∷ ws)) ∙ low (cond (is_kept w) 1 0) (mask_of ws) (bit-le (is_kept w))
bit_at-mask_of (w ∷ ws) (suc p) =
    bit_at-suc (mask_of (w ∷ ws)) p ∙ ap (λ m. bit_at m p) (high (cond (is_kept w) 1 0) (mask_of ws) (bit-le (is_kept w))) ∙ bit_at-mask_of ws p

-- Whole masks.

-- as many bits as positions have the record
pub ones-mask_of : (ws : List Why) → ones (mask_of ws) ≡ count_by is_kept ws
unfolding ones
ones-mask_of [] = refl
ones-mask_of (w ∷ ws) =
    let b = bit-le (is_kept w) in
    let step = ones_step (mask_of (w ∷ ws)) in
    let h = ap ones (high (cond (is_kept w) 1 0) (mask_of ws) b) in
    let l = low (cond (is_kept w) 1 0) (mask_of ws) b in
    let ih = ones-mask_of ws in
    let more = sum_by-cons (λ x. cond (is_kept x) 1 0) w ws in
    omega (arith, step, h, l, ih, more)

-- a mask of n positions is below 2 ^ n
pub mask_of-lt : (ws : List Why) → mask_of ws < 2 ^ length ws
mask_of-lt [] = omega arith
mask_of-lt (w ∷ ws) = omega (arith, mask_of-lt ws, bit-le (is_kept w), pow-suc 2 (length ws))

-- positions that were not asked are in no mask
pub mask_of-replicate : (k : ℕ) → mask_of (replicate k NotAsked) ≡ 0
mask_of-replicate zero = refl
mask_of-replicate (suc k) = omega (arith, mask_of-replicate k)

pub mask_of-append : (ws : List Why) (k : ℕ) → mask_of (ws ++ replicate k NotAsked) ≡ mask_of ws
mask_of-append [] k = mask_of-replicate k
mask_of-append (w ∷ ws) k = ap (λ m. cond (is_kept w) 1 0 + 2 * m) (mask_of-append ws k)
