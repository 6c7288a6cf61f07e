-- The bytes of a file, block by block.
use Rattle.std.proofs.Common.{ℕ, Bool, true, false, ◌==◌, ◌≡◌, ◌≢◌, ◌⊎◌, inl, inr, ◌+◌, ◌-◌, ◌*◌, ◌/◌, ◌%◌, ◌<◌, ◌≤◌, List, [], ◌++◌, length, take, drop, replicate, get_or, Option, Some, cond, refl, sym, ◌∙◌, ap, arith, eq-eqb, length-append}
use Rattle.std.specs.Prelude.{unwrap_or}
use Rattle.std.proofs.lemmas.Bool.{eqb-true}
use Rattle.std.proofs.lemmas.List.{get_or_append_left, get_or-append_right, get_or-append-add, get_or-take, get_or-drop, get_or_past, get_or-replicate, length-take, length-take-le, length-replicate}
use Rattle.std.proofs.lemmas.Nat.{div-add-mod', div-mul-add}
use Rattle.mj_angles.specs.declared.layout.Layout.{Layout}
use Rattle.mj_angles.specs.Layout.{block_bytes_of}
use Rattle.rz_events.specs.declared.keys.Key.{Key}
use Rattle.rz_events.specs.declared.ends.WriteEnd.TheVariants as write
use Rattle.rz_events.specs.Events.{same_key}
use Rattle.rz_core.proofs.Stamps.{cases_le, same_key-true, same_key-refl}
use Rattle.rz_contents.specs.Model.{Model, byte_at, IsSame}
use Rattle.rz_contents.specs.Putting.{model_put}
use Rattle.rz_contents.specs.Ranges.{text_at, offset_of, patched, WritesBytes, WritesPatch, WritesTogether, bytes_from, ReadsText, ReadsTogether}

-- ---- texts

either-part : (i n : ℕ) → (i < n) ⊎ (n ≤ i)
either-part i n = elim (cases_le i n) [ inl high ↦ inr high | inr low ↦ inl low ]

abbrev zeros : ℕ → List ℕ
zeros n = replicate n 0

abbrev at : List ℕ → ℕ → ℕ
at bytes i = get_or bytes i 0

zero-at : (n i : ℕ) → at (zeros n) i ≡ at [] i
zero-at n i = go (either-part i n)
  where
    go : (i < n) ⊎ (n ≤ i) → at (zeros n) i ≡ at [] i
    go (inl low) = get_or-replicate {A = ℕ} n i 0 0 low
    go (inr high) = let long = length-replicate {A = ℕ} n 0 in get_or_past (zeros n) i 0 (omega (arith, high, long))

-- a text behind which zeros stand
padded-at : (text : List ℕ) (n i : ℕ) → at (text ++ zeros n) i ≡ at text i
padded-at text n i = go (either-part i (length text))
  where
    go : (i < length text) ⊎ (length text ≤ i) → at (text ++ zeros n) i ≡ at text i
    go (inl low) = get_or_append_left text (zeros n) 0 i low
    go (inr high) = get_or-append_right text (zeros n) (length text) i 0 refl high ∙ zero-at n (i - length text) ∙ sym (get_or_past text i 0 high)

head-length : (text : List ℕ) (from : ℕ) → length (take from (text ++ zeros from)) ≡ from
head-length text from =
    let both = length-append text (zeros from) in
    let long = length-replicate {A = ℕ} from 0 in
    length-take-le from (text ++ zeros from) (omega (arith, both, long))

module _ (text : List ℕ) (from : ℕ) (bytes : List ℕ) where
  abbrev head : List ℕ
  head = take from (text ++ zeros from)

  abbrev tail : List ℕ
  tail = drop (from + length bytes) text

  patched-low : (i : ℕ) → i < from → at (patched text from bytes) i ≡ at text i
  patched-low i low =
      let long = head-length text from in
      get_or_append_left head (bytes ++ tail) 0 i (omega (arith, low, long)) ∙ get_or-take from (text ++ zeros from) i 0 low ∙ padded-at text from i

  behind-head : (i : ℕ) → at (head ++ (bytes ++ tail)) (from + i) ≡ at (bytes ++ tail) i
  behind-head i = ap (λ (n : ℕ). at (head ++ (bytes ++ tail)) (n + i)) (sym (head-length text from)) ∙ get_or-append-add head (bytes ++ tail) i 0

  patched-mid : (i : ℕ) → i < length bytes → at (patched text from bytes) (from + i) ≡ at bytes i
  patched-mid i low = behind-head i ∙ get_or_append_left bytes tail 0 i low

  patched-high : (i : ℕ) → from + length bytes ≤ i → at (patched text from bytes) i ≡ at text i
  patched-high i high =
      let j = i - (from + length bytes) in
      let place : from + (length bytes + j) ≡ i = omega (arith, high) in
      let there : from + length bytes + j ≡ i = omega (arith, high) in
      sym (ap (λ (n : ℕ). at (head ++ (bytes ++ tail)) n) place)
      ∙ behind-head (length bytes + j)
      ∙ get_or-append-add bytes tail j 0
      ∙ get_or-drop (from + length bytes) text j 0
      ∙ ap (λ (n : ℕ). at text n) there

from-at : (text : List ℕ) (from count i : ℕ) → i < count → at (bytes_from text from count) i ≡ at text (from + i)
from-at text from count i low =
    get_or-take count (drop from (text ++ zeros (from + count))) i 0 low
    ∙ get_or-drop from (text ++ zeros (from + count)) i 0
    ∙ padded-at text (from + count) (from + i)

from-length : (text : List ℕ) (from count : ℕ) → length (bytes_from text from count) ≤ count
from-length text from count = let same = length-take count (drop from (text ++ zeros (from + count))) in omega (arith, same)

-- ---- the block of a byte

block-is : (bsize block r : ℕ) → r < bsize → ((block * bsize + r) / bsize ≡ block) × ((block * bsize + r) % bsize ≡ r)
block-is bsize block r low =
    let q = div-mul-add block bsize r low in
    let all = div-add-mod' (block * bsize + r) bsize in
    let same : (block * bsize + r) / bsize * bsize ≡ block * bsize = ap (λ (z : ℕ). z * bsize) q in
    (q, omega (arith, all, same))

either-number : (b : Bool) (n m : ℕ) → (m == n) ≡ b → (m ≡ n) ⊎ (m ≢ n)
either-number true n m is = inl (eqb-true m n is)
either-number false n m is = inr (λ same. (let z : (m == n) ≡ true = eq-eqb m n same in cc))

-- ---- a block that is put

module _ (layout : Layout) (m : Model) (stamp mask : ℕ) (key : Key) (text : List ℕ) where
  abbrev bsize : ℕ
  bsize = block_bytes_of layout

  abbrev put : Model
  put = model_put layout (write.Acked stamp mask) key text m

  abbrev key-of : ℕ → Key
  key-of i = record { fid = key.fid; block = i / bsize }

  the-key : (i : ℕ) → i / bsize ≡ key.block → key-of i ≡ key
  the-key i is = ap (λ (b : ℕ). record { fid = key.fid; block = b }) is

  byte-in : (i : ℕ) → i / bsize ≡ key.block → byte_at layout put key.fid i ≡ get_or text (i % bsize) 0
  byte-in i is =
      ap (λ (k : Key). get_or (unwrap_or (put.blocks k) []) (i % bsize) 0) (the-key i is)
      ∙ ap (λ (t : Bool). get_or (unwrap_or (cond t (Some text) (m.blocks key)) []) (i % bsize) 0) (same_key-refl key)

  byte-was : (i : ℕ) → i / bsize ≡ key.block → byte_at layout m key.fid i ≡ get_or (text_at m key) (i % bsize) 0
  byte-was i is = ap (λ (k : Key). get_or (unwrap_or (m.blocks k) []) (i % bsize) 0) (the-key i is)

  block-out : (k : Key) → (k ≡ key → ⊥) → put.blocks k ≡ m.blocks k
  block-out k other = go (same_key k key) refl
    where
      go : (t : Bool) → same_key k key ≡ t → cond t (Some text) (m.blocks k) ≡ m.blocks k
      go true is = absurd (other (same_key-true k key is))
      go false is = refl

  byte-out : (i : ℕ) → i / bsize ≢ key.block → byte_at layout put key.fid i ≡ byte_at layout m key.fid i
  byte-out i other = ap (λ (o : Option (List ℕ)). get_or (unwrap_or o []) (i % bsize) 0) (block-out (key-of i) (λ is. other (ap (λ (k : Key). k.block) is)))

-- the bytes are the same where one sees the same
same-byte : (layout : Layout) (a b : Model) → IsSame a b → (fid i : ℕ) → byte_at layout b fid i ≡ byte_at layout a fid i
same-byte layout a b same fid i =
    ap (λ (o : Option (List ℕ)). get_or (unwrap_or o []) (i % block_bytes_of layout) 0) (same.blocks (record { fid = fid; block = i / block_bytes_of layout }))

module _ (layout : Layout) (m : Model) (stamp mask : ℕ) (key : Key) (from : ℕ) (bytes : List ℕ) (fits : from + length bytes ≤ block_bytes_of layout) where
  abbrev size : ℕ
  size = block_bytes_of layout

  abbrev made : List ℕ
  made = patched (text_at m key) from bytes

  abbrev new : Model
  new = model_put layout (write.Acked stamp mask) key made m

  these : (i : ℕ) → i < length bytes → byte_at layout new key.fid (offset_of layout key from + i) ≡ get_or bytes i 0
  these i low =
      let n = offset_of layout key from + i in
      let place : key.block * size + (from + i) ≡ n = omega arith in
      let inside = block-is size key.block (from + i) (omega (arith, fits, low)) in
      let block : n / size ≡ key.block = ap (λ (z : ℕ). z / size) (sym place) ∙ inside.0 in
      let rest : n % size ≡ from + i = ap (λ (z : ℕ). z % size) (sym place) ∙ inside.1 in
      byte-in layout m stamp mask key made n block ∙ ap (λ (r : ℕ). get_or made r 0) rest ∙ patched-mid (text_at m key) from bytes i low

  -- a byte of the block that is not among them, or one of another block
  other-byte : (i : ℕ) → (i / size ≡ key.block → get_or made (i % size) 0 ≡ get_or (text_at m key) (i % size) 0) → byte_at layout new key.fid i ≡ byte_at layout m key.fid i
  other-byte i inside = go (either-number (i / size == key.block) key.block (i / size) refl)
    where
      go : (i / size ≡ key.block) ⊎ (i / size ≢ key.block) → byte_at layout new key.fid i ≡ byte_at layout m key.fid i
      go (inl is) = byte-in layout m stamp mask key made i is ∙ inside is ∙ sym (byte-was layout m stamp mask key made i is)
      go (inr other) = byte-out layout m stamp mask key made i other

  place-of : (i : ℕ) → i / size ≡ key.block → key.block * size + i % size ≡ i
  place-of i is = ap (λ (b : ℕ). b * size + i % size) (sym is) ∙ div-add-mod' i size

  pub put-bytes : WritesBytes layout m key.fid (offset_of layout key from) bytes new
  put-bytes = record {
    these = these;
    before = λ i low. other-byte i (λ is. (let place = place-of i is in patched-low (text_at m key) from bytes (i % size) (omega (arith, place, low))));
    behind = λ i high. other-byte i (λ is. (let place = place-of i is in patched-high (text_at m key) from bytes (i % size) (omega (arith, place, high))));
    others = λ k other. block-out layout m stamp mask key made k (λ is. other (ap (λ (z : Key). z.fid) is));
  }

  pub same-bytes : (seen : Model) → IsSame new seen → WritesBytes layout m key.fid (offset_of layout key from) bytes seen
  same-bytes seen same = record {
    these = λ i low. same-byte layout new seen same key.fid (offset_of layout key from + i) ∙ put-bytes.these i low;
    before = λ i low. same-byte layout new seen same key.fid i ∙ put-bytes.before i low;
    behind = λ i high. same-byte layout new seen same key.fid i ∙ put-bytes.behind i high;
    others = λ k other. same.blocks k ∙ put-bytes.others k other;
  }

pub writes-patch : WritesPatch
writes-patch layout m new stamp mask key from bytes fits same = same-bytes layout m stamp mask key from bytes fits new same

-- ---- behind one another

pub writes-together : WritesTogether
writes-together layout old mid new fid offset a b first second = record {
  these = λ i low. go i low (either-part i (length a));
  before = λ i low. second.before i (omega (arith, low)) ∙ first.before i low;
  behind = λ i high. (let long = length-append a b in second.behind i (omega (arith, high, long)) ∙ first.behind i (omega (arith, high, long)));
  others = λ key other. second.others key other ∙ first.others key other;
}
  where
    go : (i : ℕ) → i < length (a ++ b) → (i < length a) ⊎ (length a ≤ i) → byte_at layout new fid (offset + i) ≡ get_or (a ++ b) i 0
    go i low (inl front) = second.before (offset + i) (omega (arith, front)) ∙ first.these i front ∙ sym (get_or_append_left a b 0 i front)
    go i low (inr back) =
        let j = i - length a in
        let long = length-append a b in
        let place : offset + length a + j ≡ offset + i = omega (arith, back) in
        let index : length a + j ≡ i = omega (arith, back) in
        ap (λ (n : ℕ). byte_at layout new fid n) (sym place) ∙ second.these j (omega (arith, low, long, back))
        ∙ sym (get_or-append-add a b j 0) ∙ ap (λ (n : ℕ). get_or (a ++ b) n 0) index

pub reads-together : ReadsTogether
reads-together layout m fid offset a b first second i low = go (either-part i (length a))
  where
    go : (i < length a) ⊎ (length a ≤ i) → get_or (a ++ b) i 0 ≡ byte_at layout m fid (offset + i)
    go (inl front) = get_or_append_left a b 0 i front ∙ first i front
    go (inr back) =
        let j = i - length a in
        let long = length-append a b in
        let place : offset + length a + j ≡ offset + i = omega (arith, back) in
        let index : length a + j ≡ i = omega (arith, back) in
        sym (ap (λ (n : ℕ). get_or (a ++ b) n 0) index) ∙ get_or-append-add a b j 0 ∙ second j (omega (arith, low, long, back))
        ∙ ap (λ (n : ℕ). byte_at layout m fid n) place

pub reads-text : ReadsText
reads-text layout m key from count fits i low =
    let size : ℕ = block_bytes_of layout in
    let few = from-length (text_at m key) from count in
    let n = offset_of layout key from + i in
    let place : key.block * size + (from + i) ≡ n = omega arith in
    let inside = block-is size key.block (from + i) (omega (arith, fits, low, few)) in
    let block : n / size ≡ key.block = ap (λ (z : ℕ). z / size) (sym place) ∙ inside.0 in
    let rest : n % size ≡ from + i = ap (λ (z : ℕ). z % size) (sym place) ∙ inside.1 in
    from-at (text_at m key) from count i (omega (arith, low, few))
    ∙ ap (λ (r : ℕ). get_or (text_at m key) r 0) (sym rest)
    ∙ sym (byte-was layout m 0 0 key [] n block)
