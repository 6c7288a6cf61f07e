-- Sets of positions as masks.
use Rattle.std.proofs.Common.{◌≡◌, ℕ, ◌-◌, ◌^◌, ◌<◌, ◌≤◌, ◌≢◌, List, arith, ap, w16, bit_and}
use Rattle.std.specs.Prelude.{All, bit_xor}
use Rattle.std.specs.Int.{bit_at}
use Rattle.std.specs.Int.Count.{count_trailing_zeros}
use Rattle.std.proofs.lemmas.Nat.{xor_lt, pow_below}
use Rattle.std.proofs.Math.Pow.{pow_mono}
use Rattle.std.proofs.lemmas.Nat.Bits.{bit_at-trailing_zeros, bit_at_and, bit_at_xor, bit_at-pow_other, bit_at-pow_same, bit_at-lt}
use Rattle.std.proofs.lemmas.List.Elements.{All-weaker}
use Rattle.mj_angles.specs.declared.layout.Layout.{Layout}
use Rattle.mj_angles.specs.Layout.{safe_of}
use Rattle.mj_inverse.specs.Fits.{Pair}
use Rattle.rz_events.specs.declared.ends.Seen.{Seen}
use Rattle.rz_client_model.specs.declared.reading.Fetches.{Fetches}
use Rattle.rz_client_model.specs.Read.{next_position, with_seen}
use Rattle.rz_reader.specs.Inside.{IsAsked, IsFetching}

pub small : (a n : ℕ) → a < 2 ^ n → n ≤ 16 → a < 2 ^ 16
small a n few h = omega (arith, few, pow_mono {i = n} {j = 16} h)

-- the least position of a set is in it
pub least-in : (n : ℕ) → 0 < n → n < 2 ^ 16 → bit_at n (count_trailing_zeros 16 n) ≡ 1
least-in n some few = (bit_at-trailing_zeros w16 n some few).1

-- and a position in two sets is in the first
pub in-first : (a b p : ℕ) → bit_at (bit_and a b) p ≡ 1 → bit_at a p ≡ 1
in-first a b p h = omega (arith, bit_at_and a b p, h, bit_at-lt a p)

-- without one of its positions it has fewer
pub without-below : (a n p : ℕ) → a < 2 ^ n → p < n → bit_xor a (2 ^ p) < 2 ^ n
without-below a n p few place = xor_lt n a (2 ^ p) few (pow_below p n place)

pub without-same : (a p : ℕ) → bit_at a p ≡ 1 → bit_at (bit_xor a (2 ^ p)) p ≡ 0
without-same a p h = omega (arith, bit_at_xor a (2 ^ p) p, bit_at-pow_same p, h)

pub without-other : (a p q : ℕ) → bit_at a p ≡ 1 → bit_at a q ≡ 0 → bit_at (bit_xor a (2 ^ p)) q ≡ 0
without-other a p q h other =
    let apart : q ≢ p = λ same. (let e : bit_at a q ≡ bit_at a p = ap (bit_at a) same in omega (arith, e, h, other)) in
    omega (arith, bit_at_xor a (2 ^ p) q, bit_at-pow_other p q apart, other)

-- positions that were asked stay so
pub asked-more : (layout : Layout) (left p : ℕ) (pairs : List Pair) → bit_at left p ≡ 1 → All (IsAsked layout left) pairs →
    All (IsAsked layout (bit_xor left (2 ^ p))) pairs
asked-more layout left p pairs h all =
    All-weaker (IsAsked layout left) (IsAsked layout (bit_xor left (2 ^ p)))
    (λ pair asked. (asked.0, asked.1, without-other left p asked.0 h asked.2, asked.3)) pairs all

-- a position is asked, of which no record of the stamp came
pub seen-more : (layout : Layout) (pairs : List Pair) (t : Fetches) (w : Seen) → IsFetching layout pairs t → bit_at t.left (next_position t) ≡ 1 →
    next_position t < safe_of layout → IsFetching layout pairs (with_seen t w)
seen-more layout pairs t w h in_left place = record {
  few = without-below t.left (safe_of layout) (next_position t) h.few place;
  given = h.given;
  fewer = h.fewer;
  short = h.short;
  asked = asked-more layout t.left (next_position t) pairs in_left h.asked;
}
