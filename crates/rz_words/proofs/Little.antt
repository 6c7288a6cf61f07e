-- Words and the bytes that they stand in.
use Rattle.std.proofs.Common.{◌≡◌, ℕ, zero, suc, ◌+◌, ◌-◌, ◌*◌, ◌/◌, ◌%◌, ◌^◌, ◌<◌, ◌≤◌, refl, sym, ap, ◌∙◌, subst, arith, ◌⊎◌, inl, inr, List, [], ◌∷◌, ◌++◌, length, get_or, take, drop, length-append}
use Rattle.std.specs.Prelude.{All, slice_index}
use Rattle.std.specs.List.{flat_map}
use Rattle.std.specs.Int.{byte_at, bytes_low_first}
use Rattle.std.proofs.lemmas.Bool.{cases_lt}
use Rattle.std.proofs.lemmas.List.{get_or-drop, get_or_past, get_or-take, length-replicate, get_or-replicate, length-take-le, take_at, take-append-drop, same_lists, get_or_default}
use Rattle.std.proofs.lemmas.List.FromFn.{fill_by_all, length-map-range_with_len, get_or-map-range_with_len}
use Rattle.std.proofs.lemmas.List.Concat.{get_or-flat_map}
use Rattle.std.proofs.lemmas.Grind.{flat_map-append}
use Rattle.std.proofs.Math.Nat.{div-div-eq-div-mul, div-one, mul_comm, pow-suc, div-add-mod', mod-lt}
use Rattle.byteorder.specs.Endian.{little_from, little_number, little_bytes}
use Rattle.rz_words.specs.Grid.{words_from, bytes_from, zero_words}

pub length-zero_words : (n : ℕ) → length (zero_words n) ≡ n
unfolding zero_words
length-zero_words n = length-replicate n 0

pub get_or-zero_words : (n i : ℕ) → get_or (zero_words n) i 0 ≡ 0
unfolding zero_words
get_or-zero_words n i = by_place (cases_lt i n)
  where
    by_place : (i < n) ⊎ (n ≤ i) → get_or (zero_words n) i 0 ≡ 0
    by_place (inl within) = get_or-replicate n i 0 0 within
    by_place (inr past) = let long : length (zero_words n) ≡ n = length-replicate n 0 in get_or_past (zero_words n) i 0 (omega arith)

pub length-words_from : (bytes : List ℕ) (n : ℕ) → length (words_from bytes n) ≡ n
unfolding words_from
length-words_from bytes n = length-map-range_with_len (λ j. little_number 8 (drop (8 * j) bytes)) 0 n

pub get_or-words_from : (bytes : List ℕ) (n j : ℕ) → j < n → get_or (words_from bytes n) j 0 ≡ little_number 8 (drop (8 * j) bytes)
unfolding words_from
get_or-words_from bytes n j h = get_or-map-range_with_len (λ j. little_number 8 (drop (8 * j) bytes)) 0 n j j 0 h (omega arith)

pub words_from-by_all : (bytes words : List ℕ) (n : ℕ) → length words ≡ n →
    ((k : ℕ) → k < n → get_or words k 0 ≡ little_number 8 (drop (8 * k) bytes)) → words ≡ words_from bytes n
unfolding words_from
words_from-by_all bytes words n long same = fill_by_all (λ j. little_number 8 (drop (8 * j) bytes)) words n 0 long same

-- past the end the bytes count as zeros
little_from-past : (i n : ℕ) (xs : List ℕ) → length xs ≤ i → little_from i n xs ≡ 0
little_from-past i zero xs h = refl
little_from-past i (suc n) xs h =
    let byte : get_or xs i 0 ≡ 0 = get_or_past xs i 0 h in
    let rest = little_from-past (suc i) n xs (omega arith) in
    rw (byte, rest) refl

-- so more bytes than there are give the same number
pub little_from-all : (i n m : ℕ) (xs : List ℕ) → length xs ≤ i + n → little_from i (n + m) xs ≡ little_from i n xs
little_from-all i zero m xs h = little_from-past i (zero + m) xs (omega arith)
little_from-all i (suc n) m xs h =
    let e : suc n + m ≡ suc (n + m) = omega arith in
    rw e (ap (λ r. slice_index xs i + 256 * r) (little_from-all (suc i) n m xs (omega arith)))

pub little_number-short : (n : ℕ) (xs : List ℕ) → length xs ≡ n → n ≤ 8 → little_number n xs ≡ little_number 8 xs
little_number-short n xs long h =
    let e : n + (8 - n) ≡ 8 = omega arith in
    let P : ℕ → Type 0 = λ x. little_from 0 n xs ≡ little_from 0 x xs in
    subst P e (sym (little_from-all 0 n (8 - n) xs (omega arith)))

pub little_number-none : (xs : List ℕ) → length xs ≡ 0 → little_number 8 xs ≡ 0
little_number-none xs long = little_from-past 0 8 xs (omega arith)

length-bytes_low_first : (j k x : ℕ) → length (bytes_low_first j k x) ≡ k
length-bytes_low_first j zero x = refl
length-bytes_low_first j (suc k) x = ap suc (length-bytes_low_first (suc j) k x)

get_or-bytes_low_first : (j k x r : ℕ) → r < k → get_or (bytes_low_first j k x) r 0 ≡ byte_at (j + r) x
get_or-bytes_low_first j zero x r h = absurd (omega arith)
get_or-bytes_low_first j (suc k) x zero h = let e : j + zero ≡ j = omega arith in rw e refl
get_or-bytes_low_first j (suc k) x (suc r) h =
    let e : j + suc r ≡ suc j + r = omega arith in
    rw e (get_or-bytes_low_first (suc j) k x r (omega arith))

-- byte r of a word
get_or-little_bytes : (x r : ℕ) → r < 8 → get_or (little_bytes 8 x) r 0 ≡ byte_at r x
get_or-little_bytes x r h = let e : 0 + r ≡ r = omega arith in get_or-bytes_low_first 0 8 x r h ∙ ap (λ n. byte_at n x) e

byte_at-pow : (k x : ℕ) → byte_at k x ≡ x / 256 ^ k % 256
byte_at-pow zero x = ap (λ y. y % 256) (sym (div-one x))
byte_at-pow (suc k) x = refl

pub length-bytes_from : (ws : List ℕ) → length (bytes_from ws) ≡ 8 * length ws
unfolding bytes_from
length-bytes_from [] = refl
length-bytes_from (w ∷ ws) =
    let here = length-bytes_low_first 0 8 w in
    let rest = length-bytes_from ws in
    omega (arith, length-append (little_bytes 8 w) (flat_map (little_bytes 8) ws), here, rest)

pub take-bytes_from : (ws : List ℕ) (w n : ℕ) → n ≡ 8 * w → w ≤ length ws → take n (bytes_from ws) ≡ flat_map (little_bytes 8) (take w ws)
unfolding bytes_from
take-bytes_from ws w n is h =
    let all : bytes_from ws ≡ bytes_from (take w ws) ++ bytes_from (drop w ws) =
    ap bytes_from (sym (take-append-drop w ws)) ∙ flat_map-append (little_bytes 8) (take w ws) (drop w ws) in
    let long : length (bytes_from (take w ws)) ≡ n = length-bytes_from (take w ws) ∙ ap (λ x. 8 * x) (length-take-le w ws h) ∙ sym is in
    ap (take n) all ∙ take_at (bytes_from (take w ws)) (bytes_from (drop w ws)) n long

pub get_or-bytes_from : (ws : List ℕ) (q r : ℕ) → q < length ws → r < 8 → get_or (bytes_from ws) (8 * q + r) 0 ≡ byte_at r (get_or ws q 0)
unfolding bytes_from
get_or-bytes_from ws q r h small =
    let before : length (flat_map (little_bytes 8) (take q ws)) ≡ 8 * q = length-bytes_from (take q ws) ∙ ap (λ x. 8 * x) (length-take-le q ws (omega arith)) in
    let long = length-bytes_low_first 0 8 (get_or ws q 0) in
    ap (λ n. get_or (bytes_from ws) (n + r) 0) (sym before)
    ∙ get_or-flat_map (little_bytes 8) ws q r 0 0 h (omega arith)
    ∙ get_or-little_bytes (get_or ws q 0) r small

-- byte r of a word is the byte at place r of the eight that stand for it
pub byte-bytes_from : (ws bs : List ℕ) (i b : ℕ) → i < 8 * length ws → bs ≡ little_bytes 8 (get_or ws (i / 8) 0) → b ≡ get_or bs (i % 8) 0 →
    b ≡ get_or (bytes_from ws) i 0
byte-bytes_from ws bs i b h is e =
    let split : i / 8 * 8 + i % 8 ≡ i = div-add-mod' i 8 in
    let small : i % 8 < 8 = mod-lt i (omega arith) in
    let place : 8 * (i / 8) + i % 8 ≡ i = omega arith in
    let row : i / 8 < length ws = omega arith in
    e ∙ ap (λ xs. get_or xs (i % 8) 0) is ∙ get_or-little_bytes (get_or ws (i / 8) 0) (i % 8) small
    ∙ sym (get_or-bytes_from ws (i / 8) (i % 8) row small) ∙ ap (λ n. get_or (bytes_from ws) n 0) place

-- a byte of the number that bytes spell
byte_at-little_from : (r i n : ℕ) (xs : List ℕ) → ((k : ℕ) → get_or xs k 0 < 256) → r < n → byte_at r (little_from i n xs) ≡ get_or xs (i + r) 0
byte_at-little_from r i zero xs small h = absurd (omega arith)
byte_at-little_from zero i (suc n) xs small h =
    let e : i + zero ≡ i = omega arith in
    let b = small i in
    rw e (omega arith)
byte_at-little_from (suc r) i (suc n) xs small h =
    let e : i + suc r ≡ suc i + r = omega arith in
    let b = small i in
    let m : ℕ = little_from (suc i) n xs in
    let x : ℕ = get_or xs i 0 + 256 * m in
    let high : x / 256 ≡ m = omega arith in
    let moved : byte_at (suc r) x ≡ byte_at r m =
    byte_at-pow (suc r) x
    ∙ ap (λ p. x / p % 256) (pow-suc 256 r ∙ mul_comm (256 ^ r) 256)
    ∙ ap (λ y. y % 256) (sym (div-div-eq-div-mul x 256 (256 ^ r)))
    ∙ ap (λ y. y / 256 ^ r % 256) high
    ∙ sym (byte_at-pow r m) in
    rw e (moved ∙ byte_at-little_from r (suc i) n xs small (omega arith))

all_small : (text : List ℕ) → All (λ b. b < 256) text → (k : ℕ) → get_or text k 0 < 256
all_small text bytes k = by_place (cases_lt k (length text))
  where
    by_place : (k < length text) ⊎ (length text ≤ k) → get_or text k 0 < 256
    by_place (inl within) = bytes k 0 within
    by_place (inr past) = let none = get_or_past text k 0 past in omega (arith, none)

-- the bytes of the words of a text are the text, and then zeros
pub bytes_from-words_from : (text : List ℕ) (n m : ℕ) → All (λ b. b < 256) text → length text ≡ m → m ≤ 8 * n →
    take m (bytes_from (words_from text n)) ≡ text
bytes_from-words_from text n m bytes long fits =
    same_lists (take m (bytes_from ws)) text (length-take-le m (bytes_from ws) room ∙ sym long)
    (λ i d h. let small : i < m = rw (length-take-le m (bytes_from ws) room) at h in
    get_or-take m (bytes_from ws) i d small ∙ get_or_default (bytes_from ws) i d 0 (let more = room in omega arith) ∙ at i small ∙ get_or_default text i 0 d (omega arith))
  where
    ws : List ℕ
    ws = words_from text n

    room : m ≤ length (bytes_from ws)
    room = let a = length-bytes_from ws in let b = length-words_from text n in omega (arith, a, b)

    at : (i : ℕ) → i < m → get_or (bytes_from ws) i 0 ≡ get_or text i 0
    at i h =
        let split : i / 8 * 8 + i % 8 ≡ i = div-add-mod' i 8 in
        let small : i % 8 < 8 = mod-lt i (omega arith) in
        let place : 8 * (i / 8) + i % 8 ≡ i = omega arith in
        let row : i / 8 < n = omega arith in
        let row' : i / 8 < length ws = rw (length-words_from text n) row in
        ap (λ x. get_or (bytes_from ws) x 0) (sym place)
        ∙ get_or-bytes_from ws (i / 8) (i % 8) row' small
        ∙ ap (byte_at (i % 8)) (get_or-words_from text n (i / 8) row)
        ∙ byte_at-little_from (i % 8) 0 8 (drop (8 * (i / 8)) text) (λ k. rw (get_or-drop (8 * (i / 8)) text k 0) (all_small text bytes (8 * (i / 8) + k))) small
        ∙ ap (λ x. get_or (drop (8 * (i / 8)) text) x 0) (let e : 0 + i % 8 ≡ i % 8 = omega arith in e)
        ∙ get_or-drop (8 * (i / 8)) text (i % 8) 0
        ∙ ap (λ x. get_or text x 0) place
