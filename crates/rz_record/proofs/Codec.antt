-- Numbers and bytes at their places, read and written.
use Rattle.std.proofs.Common.{◌≡◌, ◌⊎◌, ⊎_elim, ℕ, zero, suc, ◌+◌, ◌-◌, ◌*◌, ◌/◌, ◌^◌, ◌<◌, ◌≤◌, List, [], ◌∷◌, ◌++◌, length, take, drop, get_or, sym, ◌∙◌, ap, subst, arith, lit≤, length-take, length-drop}
use Rattle.std.proofs.lemmas.Bool.{cases_lt}
use Rattle.std.proofs.lemmas.List.{append_assoc, drop_at, drop-append-le, drop-drop, drop-take, ext_get_or, get_or-drop, get_or-take, length-take-le, take-append-drop, take-take}
use Rattle.std.specs.List.{flat_map}
use borrow.Rule.Slice.PartMut.{put_mid, mid_of, post_of}
use Rattle.byteorder.specs.Endian.{IsRead, little_from, little_number, little_bytes}
use Rattle.byteorder.specs.Numbers.{length-bytes_low_first, little_from-take, little_number-reads_back}
use Rattle.mj_angles.specs.declared.layout.Layout.{Layout}
use Rattle.mj_angles.specs.declared.layout.Layout.TheVariants.{L0, L1, L2, L0B1, L0B2, L0B3, L1B1, L1B2, L1B3, L2B1, L2B2, L2B3}
use Rattle.mj_angles.specs.Layout.{max_bins_of}
use Rattle.rz_events.specs.declared.records.Head.{Head}
use Rattle.rz_record.specs.Fields.{number_at}
use Rattle.rz_record.specs.Record.{IsHead, HasBins, IsRecord, record_bytes}

-- a number that was written is read there
pub number_at-put : (at n k : ℕ) (xs ys rest : List ℕ) (v : ℕ) → at ≤ length xs → ys ≡ little_bytes n v ++ rest → v < 256 ^ n → number_at at n (put_mid at k xs ys) ≡ v
unfolding number_at
number_at-put at n k xs ys rest v fits is small =
    ap (little_number n) (drop_at (take at xs) (ys ++ post_of at k xs) at (length-take-le at xs fits) ∙ ap (λ (l : List ℕ). l ++ post_of at k xs) is ∙ append_assoc (little_bytes n v) rest (post_of at k xs))
    ∙ little_number-reads_back n v (rest ++ post_of at k xs) small

-- what stands behind a number that was written stays
pub drop-put : (at n : ℕ) (xs ys : List ℕ) (v : ℕ) → at + n ≤ length xs → ys ≡ little_bytes n v ++ drop n (mid_of at (length xs - at) xs) → drop (at + n) (put_mid at (length xs - at) xs ys) ≡ drop (at + n) xs
drop-put at n xs ys v fits is =
    let k : ℕ = length xs - at in
    let mid : List ℕ = mid_of at k xs in
    let post : List ℕ = post_of at k xs in
    let room : n ≤ length mid = simp (length-take, length-drop) (omega arith) in
    sym (drop-drop n at (put_mid at k xs ys))
    ∙ ap (drop n) (drop_at (take at xs) (ys ++ post) at (length-take-le at xs (omega arith)) ∙ ap (λ (l : List ℕ). l ++ post) is ∙ append_assoc (little_bytes n v) (drop n mid) post)
    ∙ drop_at (little_bytes n v) (drop n mid ++ post) n (length-bytes_low_first 0 n v)
    ∙ sym (drop-append-le n mid post room)
    ∙ ap (drop n) (take-append-drop k (drop at xs))
    ∙ drop-drop n at xs

-- a number reads its own bytes alone
pub number_at-take : (at n m : ℕ) (xs : List ℕ) → at + n ≤ m → number_at at n (take m xs) ≡ number_at at n xs
unfolding number_at
number_at-take at n m xs le =
    ap (λ (k : ℕ). little_number n (drop at (take k xs))) (omega arith)
    ∙ ap (little_number n) (drop-take at (m - at) xs)
    ∙ little_from-take 0 n (m - at) (drop at xs) (omega arith)

-- texts that begin alike have the same numbers there
pub number_at-front : (at n m : ℕ) (new old : List ℕ) → take m new ≡ take m old → at + n ≤ m → number_at at n new ≡ number_at at n old
number_at-front at n m new old same le =
    sym (number_at-take at n m new le) ∙ ap (number_at at n) same ∙ number_at-take at n m old le

-- and the same bytes
pub byte-front : (i m : ℕ) (new old : List ℕ) → take m new ≡ take m old → i < m → get_or new i 0 ≡ get_or old i 0
byte-front i m new old same lt =
    sym (get_or-take m new i 0 lt) ∙ ap (λ (l : List ℕ). get_or l i 0) same ∙ get_or-take m old i 0 lt

-- texts that begin alike begin alike up to any earlier place
pub lower : (k m : ℕ) (new old : List ℕ) → take m new ≡ take m old → k ≤ m → take k new ≡ take k old
lower k m new old same le = sym (take-take k m new le) ∙ ap (take k) same ∙ take-take k m old le

-- a head stands in the first 48 bytes alone
pub head-front : (new old : List ℕ) (h : Head) → take 48 new ≡ take 48 old → 48 ≤ length new → IsHead old h → IsHead new h
head-front new old h same long is = record {
  room = long;
  valid = is.valid;
  stamp = is.stamp ∙ sym (number_at-front 0 8 48 new old same (omega arith));
  fid = is.fid ∙ sym (number_at-front 8 16 48 new old same (omega arith));
  block = is.block ∙ sym (number_at-front 24 8 48 new old same (omega arith));
  layout = is.layout ∙ sym (byte-front 32 48 new old same (omega arith));
  bsize = is.bsize ∙ sym (byte-front 33 48 new old same (omega arith));
  position = is.position ∙ sym (byte-front 34 48 new old same (omega arith));
  reserved = byte-front 35 48 new old same (omega arith) ∙ is.reserved;
  text_length = is.text_length ∙ sym (number_at-front 36 4 48 new old same (omega arith));
  base = is.base ∙ sym (number_at-front 40 8 48 new old same (omega arith));
}

-- a record stands in its own bytes alone
pub record-front : (new old : List ℕ) (h : Head) (bins : List ℕ) → take (record_bytes h) new ≡ take (record_bytes h) old → record_bytes h ≤ length new → IsRecord old h bins → IsRecord new h bins
record-front new old h bins same long is = record {
  head = head-front new old h (lower 48 (record_bytes h) new old same (omega arith)) (omega arith) is.head;
  count = is.count;
  behind = record {
    room = omega (arith, is.count);
    each = λ k lt. is.behind.each k lt ∙ sym (number_at-front (48 + 8 * k) 8 (record_bytes h) new old same (omega (arith, is.count)));
  };
}

-- a list of numbers as bytes, with something behind it
bin_at : (xs rest : List ℕ) (k : ℕ) → ((i : ℕ) → get_or xs i 0 < 256 ^ 8) → k < length xs → little_number 8 (drop (8 * k) (flat_map (little_bytes 8) xs ++ rest)) ≡ get_or xs k 0
bin_at [] rest k small lt = absurd (omega arith)
bin_at (x ∷ xs) rest zero small lt =
    ap (little_number 8) (append_assoc (little_bytes 8 x) (flat_map (little_bytes 8) xs) rest) ∙ little_number-reads_back 8 x (flat_map (little_bytes 8) xs ++ rest) (small 0)
bin_at (x ∷ xs) rest (suc k) small lt =
    let all : List ℕ = flat_map (little_bytes 8) xs ++ rest in
    let moved : drop (8 * suc k) ((little_bytes 8 x ++ flat_map (little_bytes 8) xs) ++ rest) ≡ drop (8 * k) all =
    ap (λ (n : ℕ). drop n ((little_bytes 8 x ++ flat_map (little_bytes 8) xs) ++ rest)) (omega arith)
    ∙ sym (drop-drop (8 * k) 8 ((little_bytes 8 x ++ flat_map (little_bytes 8) xs) ++ rest))
    ∙ ap (drop (8 * k)) (ap (drop 8) (append_assoc (little_bytes 8 x) (flat_map (little_bytes 8) xs) rest) ∙ drop_at (little_bytes 8 x) all 8 (length-bytes_low_first 0 8 x)) in
    ap (little_number 8) moved ∙ bin_at xs rest k (λ i. small (suc i)) (omega arith)

-- bins that were written behind a head
pub bins-put : (k : ℕ) (xs bins : List ℕ) → 48 ≤ length xs → ((i : ℕ) → get_or bins i 0 < 256 ^ 8) → (out : List ℕ) → out ≡ put_mid 48 k xs (flat_map (little_bytes 8) bins) → 48 + 8 * length bins ≤ length out → HasBins out bins
unfolding number_at
bins-put k xs bins long small out is room = record {
  room = room;
  each = λ i lt.
      sym (bin_at bins (post_of 48 k xs) i small lt)
      ∙ ap (little_number 8)
      (ap (drop (8 * i)) (sym (drop_at (take 48 xs) (flat_map (little_bytes 8) bins ++ post_of 48 k xs) 48 (length-take-le 48 xs long)) ∙ ap (drop 48) (sym is))
      ∙ drop-drop (8 * i) 48 out);
}

-- numbers of bytes are equal at equal bytes alone
same_from : (i n : ℕ) (xs ys : List ℕ) → ((k : ℕ) → get_or xs k 0 < 256) → ((k : ℕ) → get_or ys k 0 < 256) → little_from i n xs ≡ little_from i n ys → (k : ℕ) → i ≤ k → k < i + n → get_or xs k 0 ≡ get_or ys k 0
same_from i zero xs ys small-x small-y same k low high = absurd (omega arith)
same_from i (suc n) xs ys small-x small-y same k low high =
    let x = small-x i in
    let y = small-y i in
    let first : get_or xs i 0 ≡ get_or ys i 0 = omega arith in
    let later : little_from (suc i) n xs ≡ little_from (suc i) n ys = omega arith in
    ⊎_elim (λ (lt : i < k). same_from (suc i) n xs ys small-x small-y later k (omega arith) (omega arith))
    (λ (le : k ≤ i). let at : i ≡ k = omega arith in subst (λ (j : ℕ). get_or xs j 0 ≡ get_or ys j 0) at first)
    (cases_lt i k)

pub same_at : (at n : ℕ) (xs ys : List ℕ) → ((k : ℕ) → get_or xs k 0 < 256) → ((k : ℕ) → get_or ys k 0 < 256) → number_at at n xs ≡ number_at at n ys → (k : ℕ) → at ≤ k → k < at + n → get_or xs k 0 ≡ get_or ys k 0
unfolding number_at
same_at at n xs ys small-x small-y same k low high =
    let back : at + (k - at) ≡ k = omega arith in
    let moved : (zs : List ℕ) → get_or (drop at zs) (k - at) 0 ≡ get_or zs k 0 = λ zs. get_or-drop at zs (k - at) 0 ∙ ap (λ (j : ℕ). get_or zs j 0) back in
    sym (moved xs)
    ∙ same_from 0 n (drop at xs) (drop at ys) (λ j. rw (get_or-drop at xs j 0) (small-x (at + j))) (λ j. rw (get_or-drop at ys j 0) (small-y (at + j))) same (k - at) (omega arith) (omega arith)
    ∙ moved ys

-- A record has one spelling.
module _ (xs ys : List ℕ) (h : Head) (bins : List ℕ) (small-x : (k : ℕ) → get_or xs k 0 < 256) (small-y : (k : ℕ) → get_or ys k 0 < 256) (is-x : IsRecord xs h bins) (is-y : IsRecord ys h bins) where
  field_same : (at n : ℕ) → number_at at n xs ≡ number_at at n ys → (i : ℕ) → at ≤ i → i < at + n → get_or xs i 0 ≡ get_or ys i 0
  field_same at n same = same_at at n xs ys small-x small-y same

  byte_same : (at i : ℕ) → get_or xs at 0 ≡ get_or ys at 0 → at ≡ i → get_or xs i 0 ≡ get_or ys i 0
  byte_same at i same is = subst (λ (j : ℕ). get_or xs j 0 ≡ get_or ys j 0) is same

  low_same : (i : ℕ) → i < 32 → get_or xs i 0 ≡ get_or ys i 0
  low_same i lt = ⊎_elim
      (λ (below : i < 8). field_same 0 8 (sym is-x.head.stamp ∙ is-y.head.stamp) i (omega arith) (omega arith))
      (λ (from : 8 ≤ i). ⊎_elim
      (λ (below : i < 24). field_same 8 16 (sym is-x.head.fid ∙ is-y.head.fid) i from (omega arith))
      (λ (from : 24 ≤ i). field_same 24 8 (sym is-x.head.block ∙ is-y.head.block) i from (omega arith))
      (cases_lt i 24))
      (cases_lt i 8)

  single_same : (i : ℕ) → 32 ≤ i → i < 36 → get_or xs i 0 ≡ get_or ys i 0
  single_same i low high = ⊎_elim
      (λ (below : i < 33). byte_same 32 i (sym is-x.head.layout ∙ is-y.head.layout) (omega arith))
      (λ (from : 33 ≤ i). ⊎_elim
      (λ (below : i < 34). byte_same 33 i (sym is-x.head.bsize ∙ is-y.head.bsize) (omega arith))
      (λ (from : 34 ≤ i). ⊎_elim
      (λ (below : i < 35). byte_same 34 i (sym is-x.head.position ∙ is-y.head.position) (omega arith))
      (λ (from : 35 ≤ i). byte_same 35 i (is-x.head.reserved ∙ sym is-y.head.reserved) (omega arith))
      (cases_lt i 35))
      (cases_lt i 34))
      (cases_lt i 33)

  high_same : (i : ℕ) → 36 ≤ i → i < 48 → get_or xs i 0 ≡ get_or ys i 0
  high_same i low high = ⊎_elim
      (λ (below : i < 40). field_same 36 4 (sym is-x.head.text_length ∙ is-y.head.text_length) i low (omega arith))
      (λ (from : 40 ≤ i). field_same 40 8 (sym is-x.head.base ∙ is-y.head.base) i from (omega arith))
      (cases_lt i 40)

  bin_same : (i : ℕ) → 48 ≤ i → i < 48 + 8 * length bins → get_or xs i 0 ≡ get_or ys i 0
  bin_same i low high =
      let k : ℕ = (i - 48) / 8 in
      let lt : (i - 48) / 8 < length bins = omega arith in
      field_same (48 + 8 * ((i - 48) / 8)) 8 (sym (is-x.behind.each k lt) ∙ is-y.behind.each k lt) i (omega arith) (omega arith)

  each_same : (i : ℕ) → i < 48 + 8 * length bins → get_or xs i 0 ≡ get_or ys i 0
  each_same i lt = ⊎_elim
      (λ (below : i < 32). low_same i below)
      (λ (from : 32 ≤ i). ⊎_elim
      (λ (below : i < 36). single_same i from below)
      (λ (from : 36 ≤ i). ⊎_elim (λ (below : i < 48). high_same i from below) (λ (from : 48 ≤ i). bin_same i from lt) (cases_lt i 48))
      (cases_lt i 36))
      (cases_lt i 32)

  pub one_spelling : length xs ≡ record_bytes h → length ys ≡ record_bytes h → xs ≡ ys
  one_spelling long-x long-y = ext_get_or 0 xs ys (long-x ∙ sym long-y) (λ i lt. each_same i (omega (arith, is-x.count)))

-- bins that were read from behind a head
pub bins-read : (bytes dst : List ℕ) (m : ℕ) → 8 * length dst ≤ m → 48 + m ≤ length bytes → IsRead little_number 8 (take m (drop 48 bytes)) dst → HasBins bytes dst
unfolding number_at
bins-read bytes dst m fits long read = record {
  room = omega arith;
  each = λ k lt.
      read k lt
      ∙ number_at-take (8 * k) 8 m (drop 48 bytes) (omega arith)
      ∙ ap (little_number 8) (drop-drop (8 * k) 48 bytes);
}

-- the bins behind a head are determined
pub one_bins : (bytes xs ys : List ℕ) → length xs ≡ length ys → HasBins bytes xs → HasBins bytes ys → xs ≡ ys
one_bins bytes xs ys same is-x is-y = ext_get_or 0 xs ys same (λ k lt. is-x.each k lt ∙ sym (is-y.each k (omega arith)))

-- no layout has more bins
pub few_bins : (y : Layout) → max_bins_of y ≤ 2050
few_bins L0 = lit≤ tt
few_bins L1 = lit≤ tt
few_bins L2 = lit≤ tt
few_bins L0B1 = lit≤ tt
few_bins L0B2 = lit≤ tt
few_bins L0B3 = lit≤ tt
few_bins L1B1 = lit≤ tt
few_bins L1B2 = lit≤ tt
few_bins L1B3 = lit≤ tt
few_bins L2B1 = lit≤ tt
few_bins L2B2 = lit≤ tt
few_bins L2B3 = lit≤ tt
