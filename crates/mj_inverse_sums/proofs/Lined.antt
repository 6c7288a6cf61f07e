-- Sums of lines, eight lanes at a time.
use Rattle.std.proofs.Common.{◌≡◌, ℕ, ◌+◌, ◌*◌, ◌<◌, ◌≤◌, sym, ap, ◌∙◌, arith, List, length, get_or}
use Rattle.std.specs.Prelude.{bit_xor, bit_or}
use Rattle.std.specs.Simd.Lanes.{zip2, chunk}
use Rattle.std.proofs.lemmas.Simd.{get_or-chunk, get_or-zip2, length-chunk, length-zip2}
use Rattle.mj_angles.proofs.Sums.{xor_below-more}
use Rattle.mj_inverse_sums.specs.Line.{line_sum}

pub zip_long : (xs ys : List ℕ) (a : ℕ) → a + 8 ≤ length xs → length ys ≡ 8 → length (zip2 bit_xor (chunk a 8 xs) ys) ≡ 8
zip_long xs ys a room long = length-zip2 bit_xor (chunk a 8 xs) ys (length-chunk a 8 xs room ∙ sym long) ∙ length-chunk a 8 xs room

pub zip_at : (xs ys : List ℕ) (a i : ℕ) → a + 8 ≤ length xs → length ys ≡ 8 → i < 8 → get_or (zip2 bit_xor (chunk a 8 xs) ys) i 0 ≡ bit_xor (get_or xs (a + i) 0) (get_or ys i 0)
zip_at xs ys a i room long small =
    let l = length-chunk a 8 xs room in
    get_or-zip2 bit_xor (chunk a 8 xs) ys i 0 0 0 (omega arith) (omega arith) ∙ ap (λ w. bit_xor w (get_or ys i 0)) (get_or-chunk a 8 xs i 0 small)

-- one more place
pub line_more : (g sum : List ℕ) (at step j i : ℕ) → length sum ≡ 8 → 8 * (at + j * step) + 8 ≤ length g → i < 8 → get_or sum i 0 ≡ line_sum g i j at step →
    get_or (zip2 bit_xor sum (chunk (8 * (at + j * step)) 8 g)) i 0 ≡ line_sum g i (j + 1) at step
line_more g sum at step j i long room small before =
    let l = length-chunk (8 * (at + j * step)) 8 g room in
    get_or-zip2 bit_xor sum (chunk (8 * (at + j * step)) 8 g) i 0 0 0 (omega arith) (omega arith)
    ∙ ap (λ w. bit_xor w (get_or (chunk (8 * (at + j * step)) 8 g) i 0)) before
    ∙ ap (bit_xor (line_sum g i j at step)) (get_or-chunk (8 * (at + j * step)) 8 g i 0 small)
    ∙ sym (xor_below-more j (λ j. get_or g (8 * (at + j * step) + i) 0))

pub added : (rest given sum : List ℕ) (bin i x : ℕ) → 8 * bin + 8 ≤ length given → length rest ≡ 8 → length sum ≡ 8 → i < 8 → get_or sum i 0 ≡ x →
    get_or (zip2 bit_or rest (zip2 bit_xor (chunk (8 * bin) 8 given) sum)) i 0 ≡ bit_or (get_or rest i 0) (bit_xor (get_or given (8 * bin + i) 0) x)
added rest given sum bin i x room rest_long long small is =
    let told = zip_long given sum (8 * bin) room long in
    get_or-zip2 bit_or rest (zip2 bit_xor (chunk (8 * bin) 8 given) sum) i 0 0 0 (omega arith) (omega arith)
    ∙ ap (bit_or (get_or rest i 0)) (zip_at given sum (8 * bin) i room long small ∙ ap (bit_xor (get_or given (8 * bin + i) 0)) is)
