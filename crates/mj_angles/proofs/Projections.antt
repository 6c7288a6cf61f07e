-- What a projection is, bin by bin.
use Rattle.std.proofs.Common.{◌≡◌, ◌<◌, ℕ, ℤ, List, length, get_or, arith}
use Rattle.std.proofs.lemmas.List.FromFn.{get_or-map-range_with_len, length-map-range_with_len, fill_by_all}
use Rattle.mj_angles.specs.Projection.{bin, bins, projection}

pub length-projection : (f : ℕ → ℕ → ℕ) (rows cols : ℕ) (p : ℤ) → length (projection f rows cols p) ≡ bins p rows cols
unfolding projection
length-projection f rows cols p = length-map-range_with_len (bin f rows cols p) 0 (bins p rows cols)

pub get_or-projection : (f : ℕ → ℕ → ℕ) (rows cols : ℕ) (p : ℤ) (b : ℕ) → b < bins p rows cols → get_or (projection f rows cols p) b 0 ≡ bin f rows cols p b
unfolding projection
get_or-projection f rows cols p b h = get_or-map-range_with_len (bin f rows cols p) 0 (bins p rows cols) b b 0 h (omega arith)

pub projection-from_bins : (f : ℕ → ℕ → ℕ) (rows cols : ℕ) (p : ℤ) (xs : List ℕ) → length xs ≡ bins p rows cols →
    ((b : ℕ) → b < bins p rows cols → get_or xs b 0 ≡ bin f rows cols p b) → xs ≡ projection f rows cols p
unfolding projection
projection-from_bins f rows cols p xs long same = fill_by_all (bin f rows cols p) xs (bins p rows cols) 0 long same
