-- Bytes of a file that are read, block by block.
use Rattle.std.proofs.Common.{ℕ, ◌≡◌, ◌⊎◌, inl, inr, ◌+◌, ◌*◌, ◌/◌, ◌%◌, ◌<◌, ◌≤◌, List, [], ◌++◌, length, take, drop, Option, Some, refl, sym, ◌∙◌, ap, subst, arith, rules, length-append}
use borrow.Rule.Slice.PartMut.{put_mid}
use Rattle.std.specs.Prelude.{unwrap_or}
use Rattle.std.proofs.lemmas.List.{length-take-le, length-drop}
use Rattle.std.proofs.lemmas.Nat.{div-add-mod', le-div}
use Rattle.std.proofs.Math.Nat.{div-mul-le_self}
use Rattle.std.proofs.lemmas.Option.{same_Some}
use Rattle.mj_angles.specs.Layout.{block_bytes_of}
use Rattle.rz_events.specs.Volume.{Volume}
use Rattle.rz_export_model.specs.Tree.{Tree, Found}
use Rattle.rz_contents.specs.Files.{IsFileAt, key_in}
use Rattle.rz_contents.specs.Ranges.{bytes_from, ReadsBytes, ReadsText, ReadsTogether}
use Rattle.mj_angles.specs.declared.layout.Layout.{Layout}
use Rattle.rz_store.specs.Causes.{IsBlockOf}
use Rattle.rz_store.specs.Store.{StoreView, model_in, LooksSame, HasGot, HasPart}
use Rattle.rz_store.proofs.Looks.{same-byte}
use Rattle.rz_store.proofs.Writing.{got-text}

-- bytes of one block
pub part-got : ReadsText → (s : StoreView) (path : List ℕ) (block from count : ℕ) (text : Option (List ℕ)) → from + count ≤ block_bytes_of s.volume.layout → HasGot s path block text
    → HasPart s path (block * block_bytes_of s.volume.layout + from) (bytes_from (unwrap_or text []) from count)
part-got reads s path block from count text fits got = (
  got.file,
  got.at,
  subst (λ (l : List ℕ). ReadsBytes s.volume.layout (model_in s) got.file.fid (block * block_bytes_of s.volume.layout + from) (bytes_from l from count))
      (sym (got-text s path block text got.file got got.at))
      (reads s.volume.layout (model_in s) (key_in got.file block) from count fits),
)

-- those from an offset on
pub part-read : ReadsText → (s : StoreView) (path : List ℕ) (offset size from count : ℕ) (text : Option (List ℕ)) → size ≡ block_bytes_of s.volume.layout → from ≡ offset % block_bytes_of s.volume.layout
    → offset % block_bytes_of s.volume.layout + count ≤ block_bytes_of s.volume.layout → HasGot s path (offset / size) text → (out : List ℕ) → out ≡ bytes_from (unwrap_or text []) from count
    → HasPart s path offset out
part-read reads s path offset size from count text size-is from-is fits was out out-is =
    let bsize = block_bytes_of s.volume.layout in
    let got : HasGot s path (offset / bsize) text = subst (λ (n : ℕ). HasGot s path (offset / n) text) size-is was in
    let place = div-add-mod' offset bsize in
    let part = part-got reads s path (offset / bsize) from count text (omega (arith, fits, from-is)) got in
    subst (λ (n : ℕ). HasPart s path n out) (let there : offset / bsize * bsize + from ≡ offset = omega (arith, place, from-is) in there)
    (subst (λ (l : List ℕ). HasPart s path (offset / bsize * bsize + from) l) (sym out-is) part)

-- where nothing was changed before
pub part-before : (old mid : StoreView) (path : List ℕ) (offset : ℕ) (bytes : List ℕ) → LooksSame old mid → mid.volume ≡ old.volume → HasPart mid path offset bytes → HasPart old path offset bytes
part-before old mid path offset bytes same volume part = (
  part.0,
  subst (λ (t : Tree). IsFileAt t path part.0) same.names part.1,
  λ (i : ℕ) (low : i < length bytes).
      subst (λ (v : Volume). ReadsBytes v.layout (model_in mid) part.0.fid offset bytes) volume part.2 i low ∙ same-byte old.volume.layout (model_in old) (model_in mid) same part.0.fid (offset + i),
)

-- no bytes
pub part-none : (s : StoreView) (path : List ℕ) (offset : ℕ) (file : Found) → IsFileAt (model_in s).names path file → HasPart s path offset []
part-none s path offset file at = (file, at, λ (i : ℕ) (low : i < 0). absurd (omega (arith, low)))

-- one part behind another
pub parts-together : ReadsTogether → (s : StoreView) (path : List ℕ) (offset : ℕ) (a b : List ℕ) → HasPart s path offset a → HasPart s path (offset + length a) b → HasPart s path offset (a ++ b)
parts-together together s path offset a b first second =
    let one : second.0 ≡ first.0 = same_Some second.0 first.0 (sym second.1.there ∙ first.1.there) in (
      first.0,
      first.1,
      together s.volume.layout (model_in s) first.0.fid offset a b first.2
          (subst (λ (f : Found). ReadsBytes s.volume.layout (model_in s) f.fid (offset + length a) b) one second.2),
    )

-- The block of a byte that is wanted is one of those in which the wanted bytes stand.

bsize-some : (layout : Layout) → 0 < block_bytes_of layout
bsize-some layout = search rules

pub block-of : (layout : Layout) (offset at count : ℕ) → at ≤ count → IsBlockOf layout offset count ((offset + at) / block_bytes_of layout)
block-of layout offset at count within =
    let bsize = block_bytes_of layout in
    let first = div-mul-le_self offset bsize in
    let last = div-mul-le_self (offset + at) bsize in
    record { low = le-div (offset / bsize) (offset + at) bsize (bsize-some layout) (omega (arith, first)); high = omega (arith, last, within) }

-- Bytes that are put at their place.

pub length-put : (at count : ℕ) (xs ys : List ℕ) → at + count ≤ length xs → length ys ≡ count → length (put_mid at count xs ys) ≡ length xs
length-put at count xs ys fits many =
    let rest = drop count (drop at xs) in
    let whole = length-append (take at xs) (ys ++ rest) in
    let two = length-append ys rest in
    let front = length-take-le at xs (omega (arith, fits)) in
    let back = length-drop count (drop at xs) in
    let tail = length-drop at xs in
    omega (arith, whole, two, front, back, tail, many, fits)
