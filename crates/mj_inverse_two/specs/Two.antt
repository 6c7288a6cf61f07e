-- A block of two rows, and what it has to do with two projections.
use Rattle.std.specs.Prelude.{◌≡◌, ℕ, ◌+◌, ◌-◌, ◌<◌, ◌==◌, if◌then◌else◌, ℤ, List, [], ◌∷◌, slice_index, bit_xor}
use Rattle.mj_angles.specs.Xor.{xor_below}
use Rattle.mj_inverse.specs.Fits.{Search}
use Rattle.mj_inverse_two.specs.declared.starts.Starts.{Starts}

-- the search for the block of two rows with the bins a at the angle p, and b at q
abbrev pub two_search : ℕ → ℤ → List ℕ → ℤ → List ℕ → Search
two_search cols p a q b = record { rows = 2; cols = cols; pairs = (p, a) ∷ (q, b) ∷ [] }

-- what bin b has of a row f whose column 0 is in bin s
abbrev pub share : ℕ → ℕ → (ℕ → ℕ) → ℕ → ℕ
share cols s f b = xor_below cols (λ k. if s + k == b then f k else 0)

-- the word in column k of row 0, by the bins b and row 1
abbrev pub first_row : ℕ → Starts → List ℕ → (ℕ → ℕ) → ℕ → ℕ
first_row cols q b f k = bit_xor (slice_index b (q.first + k)) (share cols q.second f (q.first + k))

-- f is row 1, by the bins a and b
abbrev pub IsSecond : ℕ → Starts → Starts → List ℕ → List ℕ → (ℕ → ℕ) → Type 0
IsSecond cols p q a b f = (e : ℕ) → e < cols → f e ≡ bit_xor (slice_index a (p.second + e)) (share cols p.first (first_row cols q b f) (p.second + e))

-- the rows have the bins that gave no word
pub record AreEnds (cols : ℕ) (p q : Starts) (a b : List ℕ) (f : ℕ → ℕ) : Type 0 where
  pub low_second : (i : ℕ) → i < q.first → slice_index b i ≡ f i
  pub high_second : (i : ℕ) → i < q.second → slice_index b (cols + i) ≡ f (cols + i - q.second)
  pub low_first : (i : ℕ) → i < p.second → slice_index a i ≡ first_row cols q b f i
  pub high_first : (i : ℕ) → i < p.first → slice_index a (cols + i) ≡ first_row cols q b f (cols + i - p.first)
