-- Blocks that stand one after the other, of which the first ones are done.
use Rattle.std.proofs.Common.{rules, ◌≡◌, ℕ, ◌+◌, ◌-◌, ◌*◌, ◌<◌, ◌≤◌, sym, ap, ◌∙◌, arith, subst, get_or-set_same, get_or-set_other, List, length, get_or, ◌⊎◌, inl, inr}
use Rattle.std.specs.Prelude.{slice_range, slice_set}
use Rattle.std.proofs.lemmas.List.{places, ext_get_or}
use Rattle.std.proofs.lemmas.Nat.{row_fits}
use Rattle.std.proofs.lemmas.Bool.{cases_lt}
use borrow.Rule.Slice.PartMut.{put_mid}
use Rattle.mj_angles.specs.declared.layout.Layout.{Layout}
use Rattle.mj_c.specs.Layouts.{IsDone, part_of, words_of}

pub put_before : (xs ys : List ℕ) (s n k : ℕ) → k < s → s + n ≤ length xs → length ys ≡ n → get_or (put_mid s n xs ys) k 0 ≡ get_or xs k 0
put_before xs ys s n k h fits long = search (rules, places)

pub put_inside : (xs ys : List ℕ) (s n k : ℕ) → k < n → s + n ≤ length xs → length ys ≡ n → get_or (put_mid s n xs ys) (s + k) 0 ≡ get_or ys k 0
put_inside xs ys s n k h fits long = search (rules, places)

put_behind : (xs ys : List ℕ) (s n k : ℕ) → s + n ≤ k → s + n ≤ length xs → length ys ≡ n → get_or (put_mid s n xs ys) k 0 ≡ get_or xs k 0
put_behind xs ys s n k h fits long = search (rules, places)

put_long : (xs ys : List ℕ) (s n : ℕ) → s + n ≤ length xs → length ys ≡ n → length (put_mid s n xs ys) ≡ length xs
put_long xs ys s n fits long = search (rules, places)

pub slice_at : (xs : List ℕ) (a w i : ℕ) → a + w ≤ length xs → i < w → get_or (slice_range xs a (a + w)) i 0 ≡ get_or xs (a + i) 0
slice_at xs a w i fits h = search (rules, places)

pub slice_long : (xs : List ℕ) (a w : ℕ) → a + w ≤ length xs → length (slice_range xs a (a + w)) ≡ w
slice_long xs a w fits = search (rules, places)

-- parts with the same words are the same
part_same : (xs ys : List ℕ) (a b w : ℕ) → a + w ≤ length xs → b + w ≤ length ys → ((m : ℕ) → m < w → get_or xs (a + m) 0 ≡ get_or ys (b + m) 0) → slice_range xs a (a + w) ≡ slice_range ys b (b + w)
part_same xs ys a b w fits fits' same =
    ext_get_or 0 (slice_range xs a (a + w)) (slice_range ys b (b + w)) (slice_long xs a w fits ∙ sym (slice_long ys b w fits'))
    (λ m h.
    let near : m < w = (let l = slice_long xs a w fits in omega arith) in
    slice_at xs a w m fits near ∙ same m near ∙ sym (slice_at ys b w m fits' near))

-- a part of a part
pub part_slice : (y : Layout) (xs : List ℕ) (first count i : ℕ) → i < count → first * words_of y + count * words_of y ≤ length xs →
    part_of y (slice_range xs (first * words_of y) (first * words_of y + count * words_of y)) i ≡ part_of y xs (first + i)
part_slice y xs first count i h fits =
    let w : ℕ = words_of y in
    let a : ℕ = first * words_of y in
    let n : ℕ = count * words_of y in
    let long = slice_long xs a n fits in
    let row : i * w + w ≤ count * w = row_fits i w count w h (omega arith) in
    let place : (first + i) * w ≡ a + i * w = omega arith in
    part_same (slice_range xs a (a + n)) xs (i * w) ((first + i) * w) w (omega arith) (omega arith)
    (λ m near.
    let e : a + (i * w + m) ≡ (first + i) * w + m = omega arith in
    slice_at xs a n (i * w + m) fits (omega arith) ∙ ap (λ k. get_or xs k 0) e)

module _ (y : Layout) (Q : ℕ → List ℕ → ℕ → Type 0) (blocks first : ℕ) (old now lost : List ℕ) (long : length now ≡ blocks * words_of y) (bytes_long : length lost ≡ blocks) (before : IsDone y Q blocks first old now lost) where
  fits_in : (count : ℕ) → first + count ≤ blocks → first * words_of y + count * words_of y ≤ length now
  fits_in count few =
      let w : ℕ = words_of y in
      let e : (blocks - (first + count)) + (first + count) ≡ blocks = omega arith in
      let sum : (blocks - (first + count)) * w + (first + count) * w ≡ blocks * w = (let d : ((blocks - (first + count)) + (first + count)) * w ≡ blocks * w = ap (λ x. x * w) e in omega arith) in
      omega arith

  -- so many more
  module _ (count : ℕ) (few : first + count ≤ blocks) (room bytes : List ℕ) (room_long : length room ≡ count * words_of y) (count_long : length bytes ≡ count)
      (new : (i : ℕ) → i < count → Q (first + i) (part_of y room i) (get_or bytes i 0)) where
    w : ℕ
    w = words_of y

    earlier : (i : ℕ) → i < first → part_of y (put_mid (first * words_of y) (count * words_of y) now room) i ≡ part_of y now i
    earlier i h =
        let fits = fits_in count few in
        let whole = put_long now room (first * words_of y) (count * words_of y) fits room_long in
        let row : i * words_of y + words_of y ≤ first * words_of y = row_fits i (words_of y) first (words_of y) h (omega arith) in
        part_same (put_mid (first * words_of y) (count * words_of y) now room) now (i * words_of y) (i * words_of y) (words_of y) (omega arith) (omega arith)
        (λ m near. put_before now room (first * words_of y) (count * words_of y) (i * words_of y + m) (omega arith) fits room_long)

    later : (i : ℕ) → first + count ≤ i → i < blocks → part_of y (put_mid (first * words_of y) (count * words_of y) now room) i ≡ part_of y now i
    later i h m =
        let fits = fits_in count few in
        let whole = put_long now room (first * words_of y) (count * words_of y) fits room_long in
        let row : i * words_of y + words_of y ≤ blocks * words_of y = row_fits i (words_of y) blocks (words_of y) m (omega arith) in
        let low : first * words_of y + count * words_of y ≤ i * words_of y = (let e : (i - (first + count)) + (first + count) ≡ i = omega arith in let d : ((i - (first + count)) + (first + count)) * words_of y ≡ i * words_of y = ap (λ x. x * words_of y) e in omega arith) in
        part_same (put_mid (first * words_of y) (count * words_of y) now room) now (i * words_of y) (i * words_of y) (words_of y) (omega arith) (omega arith)
        (λ k near. put_behind now room (first * words_of y) (count * words_of y) (i * words_of y + k) (omega arith) fits room_long)

    here : (j : ℕ) → j < count → part_of y (put_mid (first * words_of y) (count * words_of y) now room) (first + j) ≡ part_of y room j
    here j h =
        let fits = fits_in count few in
        let whole = put_long now room (first * words_of y) (count * words_of y) fits room_long in
        let row : j * words_of y + words_of y ≤ count * words_of y = row_fits j (words_of y) count (words_of y) h (omega arith) in
        let place : (first + j) * words_of y ≡ first * words_of y + j * words_of y = omega arith in
        part_same (put_mid (first * words_of y) (count * words_of y) now room) room ((first + j) * words_of y) (j * words_of y) (words_of y) (omega arith) (omega arith)
        (λ m near.
        let e : (first + j) * words_of y + m ≡ first * words_of y + (j * words_of y + m) = omega arith in
        ap (λ k. get_or (put_mid (first * words_of y) (count * words_of y) now room) k 0) e ∙ put_inside now room (first * words_of y) (count * words_of y) (j * words_of y + m) (omega arith) fits room_long)

    pub done_more : IsDone y Q blocks (first + count) old (put_mid (first * words_of y) (count * words_of y) now room) (put_mid first count lost bytes)
    done_more = record {
      known = λ i h. by i h (cases_lt i first);
      kept = λ i h m. later i h m ∙ before.kept i (omega arith) m;
    }
      where
        all : List ℕ
        all = put_mid (first * words_of y) (count * words_of y) now room

        by : (i : ℕ) → i < first + count → (i < first) ⊎ (first ≤ i) → Q i (part_of y (put_mid (first * words_of y) (count * words_of y) now room) i) (get_or (put_mid first count lost bytes) i 0)
        by i h (inl less) =
            let byte : get_or (put_mid first count lost bytes) i 0 ≡ get_or lost i 0 = put_before lost bytes first count i less (omega arith) count_long in
            let P : List ℕ → Type 0 = λ xs. Q i xs (get_or lost i 0) in
            let R : ℕ → Type 0 = λ b. Q i (part_of y (put_mid (first * words_of y) (count * words_of y) now room) i) b in
            subst R (sym byte) (subst P (sym (earlier i less)) (before.known i less))
        by i h (inr more) =
            let j : ℕ = i - first in
            let e : first + (i - first) ≡ i = omega arith in
            let near : i - first < count = omega arith in
            let byte : get_or (put_mid first count lost bytes) (first + (i - first)) 0 ≡ get_or bytes (i - first) 0 = put_inside lost bytes first count (i - first) near (omega arith) count_long in
            let P : List ℕ → Type 0 = λ xs. Q (first + (i - first)) xs (get_or bytes (i - first) 0) in
            let R : ℕ → Type 0 = λ b. Q (first + (i - first)) (part_of y (put_mid (first * words_of y) (count * words_of y) now room) (first + (i - first))) b in
            let S : ℕ → Type 0 = λ x. Q x (part_of y (put_mid (first * words_of y) (count * words_of y) now room) x) (get_or (put_mid first count lost bytes) x 0) in
            subst S e (subst R (sym byte) (subst P (sym (here (i - first) near)) (new (i - first) near)))

  -- one more
  module _ (few : first < blocks) (room : List ℕ) (byte : ℕ) (room_long : length room ≡ words_of y) (new : Q first room byte) where
    fits_one : first * words_of y + words_of y ≤ length now
    fits_one = (let f = fits_in 1 (omega arith) in let e : 1 * words_of y ≡ words_of y = omega arith in omega arith)

    earlier_one : (i : ℕ) → i < first → part_of y (put_mid (first * words_of y) (words_of y) now room) i ≡ part_of y now i
    earlier_one i h =
        let fits = fits_one in
        let whole = put_long now room (first * words_of y) (words_of y) fits room_long in
        let row : i * words_of y + words_of y ≤ first * words_of y = row_fits i (words_of y) first (words_of y) h (omega arith) in
        part_same (put_mid (first * words_of y) (words_of y) now room) now (i * words_of y) (i * words_of y) (words_of y) (omega arith) (omega arith)
        (λ m near. put_before now room (first * words_of y) (words_of y) (i * words_of y + m) (omega arith) fits room_long)

    later_one : (i : ℕ) → first + 1 ≤ i → i < blocks → part_of y (put_mid (first * words_of y) (words_of y) now room) i ≡ part_of y now i
    later_one i h m =
        let fits = fits_one in
        let whole = put_long now room (first * words_of y) (words_of y) fits room_long in
        let row : i * words_of y + words_of y ≤ blocks * words_of y = row_fits i (words_of y) blocks (words_of y) m (omega arith) in
        let low : first * words_of y + words_of y ≤ i * words_of y = row_fits first (words_of y) i (words_of y) (omega arith) (omega arith) in
        part_same (put_mid (first * words_of y) (words_of y) now room) now (i * words_of y) (i * words_of y) (words_of y) (omega arith) (omega arith)
        (λ k near. put_behind now room (first * words_of y) (words_of y) (i * words_of y + k) (omega arith) fits room_long)

    here_one : part_of y (put_mid (first * words_of y) (words_of y) now room) first ≡ room
    here_one =
        let fits = fits_one in
        let whole = put_long now room (first * words_of y) (words_of y) fits room_long in
        let long' = slice_long (put_mid (first * words_of y) (words_of y) now room) (first * words_of y) (words_of y) (omega arith) in
        ext_get_or 0 (part_of y (put_mid (first * words_of y) (words_of y) now room) first) room (long' ∙ sym room_long)
        (λ m h.
        let near : m < words_of y = omega arith in
        slice_at (put_mid (first * words_of y) (words_of y) now room) (first * words_of y) (words_of y) m (omega arith) near ∙ put_inside now room (first * words_of y) (words_of y) m near fits room_long)

    pub done_one : IsDone y Q blocks (first + 1) old (put_mid (first * words_of y) (words_of y) now room) (slice_set lost first byte)
    done_one = record {
      known = λ i h. by i h (cases_lt i first);
      kept = λ i h m. later_one i h m ∙ before.kept i (omega arith) m;
    }
      where
        by : (i : ℕ) → i < first + 1 → (i < first) ⊎ (first ≤ i) → Q i (part_of y (put_mid (first * words_of y) (words_of y) now room) i) (get_or (slice_set lost first byte) i 0)
        by i h (inl less) =
            let kept : get_or (slice_set lost first byte) i 0 ≡ get_or lost i 0 = get_or-set_other lost first i byte 0 (omega arith) in
            let P : List ℕ → Type 0 = λ xs. Q i xs (get_or lost i 0) in
            let R : ℕ → Type 0 = λ b. Q i (part_of y (put_mid (first * words_of y) (words_of y) now room) i) b in
            subst R (sym kept) (subst P (sym (earlier_one i less)) (before.known i less))
        by i h (inr more) =
            let e : first ≡ i = omega arith in
            let set : get_or (slice_set lost first byte) first 0 ≡ byte = get_or-set_same lost first byte 0 (omega arith) in
            let P : List ℕ → Type 0 = λ xs. Q first xs byte in
            let R : ℕ → Type 0 = λ b. Q first (part_of y (put_mid (first * words_of y) (words_of y) now room) first) b in
            let S : ℕ → Type 0 = λ x. Q x (part_of y (put_mid (first * words_of y) (words_of y) now room) x) (get_or (slice_set lost first byte) x 0) in
            subst S e (subst R (sym set) (subst P (sym here_one) new))
