-- What a part of a list of words holds, and what the list holds once the part was written.
use Rattle.std.proofs.Common.{◌≡◌, ℕ, ◌+◌, ◌<◌, ◌≤◌, sym, ap, ◌∙◌, rules, List, ◌++◌, length, get_or, take, drop}
use Rattle.std.specs.Prelude.{bit_xor}
use Rattle.std.proofs.lemmas.List.{places, get_or-take, get_or-drop, take_at}
use borrow.Rule.Slice.PartMut.{put_mid}

pub part_long : (xs ws : List ℕ) (a n : ℕ) → ws ≡ xs → a + n ≤ length xs → length (take n (drop a ws)) ≡ n
part_long xs ws a n value fits =
    let l : length (take n (drop a xs)) ≡ n = search (rules, places) in
    ap (λ zs. length (take n (drop a zs))) value ∙ l

pub part_at : (xs ws : List ℕ) (a n i : ℕ) → ws ≡ xs → i < n → get_or (take n (drop a ws)) i 0 ≡ get_or xs (a + i) 0
part_at xs ws a n i value h = get_or-take n (drop a ws) i 0 h ∙ get_or-drop a ws i 0 ∙ ap (λ zs. get_or zs (a + i) 0) value

-- the words of two parts, added
pub xor_parts : (xs ws ys vs : List ℕ) (a n b m i : ℕ) → ws ≡ xs → vs ≡ ys → i < n → i < m →
    bit_xor (get_or (take n (drop a ws)) i 0) (get_or (take m (drop b vs)) i 0) ≡ bit_xor (get_or xs (a + i) 0) (get_or ys (b + i) 0)
xor_parts xs ws ys vs a n b m i value by h l =
    ap (λ x. bit_xor x (get_or (take m (drop b vs)) i 0)) (part_at xs ws a n i value h) ∙ ap (bit_xor (get_or xs (a + i) 0)) (part_at ys vs b m i by l)

-- ys stands in the place of k words from place a on
module _ (a k : ℕ) (xs ys : List ℕ) (fits : a + k ≤ length xs) (long : length ys ≡ k) where
  mid_long : length (put_mid a k xs ys) ≡ length xs
  mid_long = search (rules, places)

  pub mid_in : (i : ℕ) → i < k → get_or (put_mid a k xs ys) (a + i) 0 ≡ get_or ys i 0
  mid_in i h = search (rules, places)

  pub mid_below : (i : ℕ) → i < a → get_or (put_mid a k xs ys) i 0 ≡ get_or xs i 0
  mid_below i h = search (rules, places)

  pub mid_above : (i : ℕ) → a + k ≤ i → get_or (put_mid a k xs ys) i 0 ≡ get_or xs i 0
  mid_above i h = search (rules, places)

-- the same of a vector: n is its length, xs what it held, and ws the slice of it that was written
module _ (n a k : ℕ) (xs ws ys : List ℕ) (value : ws ≡ xs) (full : n ≡ length xs) (fits : a + k ≤ length xs) (long : length ys ≡ k) where
  now_is : take n (put_mid a k ws ys ++ drop (length (put_mid a k ws ys)) xs) ≡ put_mid a k xs ys
  now_is =
      ap (λ zs. take n (put_mid a k zs ys ++ drop (length (put_mid a k zs ys)) xs)) value
      ∙ take_at (put_mid a k xs ys) (drop (length (put_mid a k xs ys)) xs) n (mid_long a k xs ys fits long ∙ sym full)

  at : (i : ℕ) → get_or (take n (put_mid a k ws ys ++ drop (length (put_mid a k ws ys)) xs)) i 0 ≡ get_or (put_mid a k xs ys) i 0
  at i = ap (λ zs. get_or zs i 0) now_is

  pub written_in : (i : ℕ) → i < k → get_or (take n (put_mid a k ws ys ++ drop (length (put_mid a k ws ys)) xs)) (a + i) 0 ≡ get_or ys i 0
  written_in i h = at (a + i) ∙ mid_in a k xs ys fits long i h

  pub written_below : (i : ℕ) → i < a → get_or (take n (put_mid a k ws ys ++ drop (length (put_mid a k ws ys)) xs)) i 0 ≡ get_or xs i 0
  written_below i h = at i ∙ mid_below a k xs ys fits long i h

  pub written_above : (i : ℕ) → a + k ≤ i → get_or (take n (put_mid a k ws ys ++ drop (length (put_mid a k ws ys)) xs)) i 0 ≡ get_or xs i 0
  written_above i h = at i ∙ mid_above a k xs ys fits long i h
