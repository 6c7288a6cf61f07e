-- Bytes of a file that are written, block by block.
use Rattle.std.proofs.Common.{ℕ, ◌≡◌, ◌⊎◌, inl, inr, ◌+◌, ◌-◌, ◌*◌, ◌/◌, ◌%◌, ◌<◌, ◌≤◌, List, [], ◌++◌, length, take, drop, replicate, cond, Option, Some, None, refl, sym, ◌∙◌, ap, subst, arith, length-append}
use Rattle.std.specs.Prelude.{unwrap_or}
use Rattle.std.specs.FinMap as maps
use Rattle.std.proofs.lemmas.Bool.{cases_lt}
use Rattle.std.proofs.lemmas.Option.{same_Some}
use Rattle.std.proofs.lemmas.List.{length-take-le, length-drop, length-replicate, append-nil, take-append-drop}
use Rattle.std.proofs.lemmas.Nat.{div-add-mod'}
use Rattle.std.proofs.Math.ListN.{drop_of_length-le}
use Rattle.std.proofs.Math.Seq.{take-add}
use Rattle.mj_angles.specs.declared.layout.Layout.{Layout}
use Rattle.mj_angles.specs.Layout.{block_bytes_of}
use Rattle.rz_events.specs.Volume.{Volume}
use Rattle.rz_events.specs.declared.keys.Key.{Key}
use Rattle.rz_events.specs.declared.ends.WriteEnd.TheVariants as write
use Rattle.rz_events.specs.Events.{same_key}
use Rattle.rz_export_model.specs.Tree.{Tree, Object, Found, found_at, info_of, grown}
use Rattle.rz_export_model.specs.Refusals.{path_in}
use Rattle.rz_core.specs.Legal.{IsLegalInRuns}
use Rattle.rz_contents.specs.Model.{Model, byte_at, IsSame}
use Rattle.rz_contents.specs.Putting.{model_put}
use Rattle.rz_contents.specs.Files.{IsFileAt, key_in}
use Rattle.rz_contents.specs.Ranges.{text_at, patched, offset_of, WritesBytes, WritesPatch, WritesTogether}
use Rattle.rz_contents.specs.Sizes.{AreCovered}
use Rattle.rz_store.specs.Store.{StoreView, model_in, LooksSame, HasPut, HasGot, HasWritten, IsUpTo}
use Rattle.rz_store.proofs.Looks.{same-then, same-byte}
use Rattle.rz_store.proofs.Grown.{grown-twice, grown-within, fid-there, found-grown}
use Rattle.rz_store.proofs.Opens.{file-there}

-- Where nothing was changed before.

module _ (old mid new : StoreView) (same : LooksSame old mid) (volume : mid.volume ≡ old.volume) where
  at-before : (path : List ℕ) (file : Found) → IsFileAt (model_in mid).names path file → IsFileAt (model_in old).names path file
  at-before path file at = subst (λ (t : Tree). IsFileAt t path file) same.names at

  pub put-before : (path : List ℕ) (block : ℕ) (text : List ℕ) → HasPut mid path block text new → HasPut old path block text new
  put-before path block text put = record {
    file = put.file;
    at = at-before path put.file put.at;
    stamp = put.stamp;
    mask = put.mask;
    put = subst (λ (v : Volume). IsSame (model_put v.layout (write.Acked put.stamp put.mask) (key_in put.file block) text (model_in old)) (model_in new)) volume
        (same-then (model_put mid.volume.layout (write.Acked put.stamp put.mask) (key_in put.file block) text (model_in old))
        (model_put mid.volume.layout (write.Acked put.stamp put.mask) (key_in put.file block) text (model_in mid)) (model_in new)
        (record {
          names = ap (λ (t : Tree). grown t put.file.fid (block * block_bytes_of mid.volume.layout + length text)) same.names;
          blocks = λ key. ap (λ (o : Option (List ℕ)). cond (same_key key (key_in put.file block)) (Some text) o) (same.blocks key);
        })
        put.put);
  }

  bytes-before : (fid offset : ℕ) (bytes : List ℕ) → WritesBytes mid.volume.layout (model_in mid) fid offset bytes (model_in new) → WritesBytes old.volume.layout (model_in old) fid offset bytes (model_in new)
  bytes-before fid offset bytes w =
      subst (λ (v : Volume). WritesBytes v.layout (model_in old) fid offset bytes (model_in new)) volume
      (record {
        these = w.these;
        before = λ i low. w.before i low ∙ same-byte mid.volume.layout (model_in old) (model_in mid) same fid i;
        behind = λ i high. w.behind i high ∙ same-byte mid.volume.layout (model_in old) (model_in mid) same fid i;
        others = λ key other. w.others key other ∙ same.blocks key;
      })

  pub written-before : (path : List ℕ) (offset : ℕ) (bytes : List ℕ) → HasWritten mid path offset bytes new → HasWritten old path offset bytes new
  written-before path offset bytes w = record {
    file = w.file;
    at = at-before path w.file w.at;
    written = bytes-before w.file.fid offset bytes w.written;
    names = w.names ∙ ap (λ (t : Tree). grown t w.file.fid (offset + length bytes)) same.names;
  }

-- One part behind another.

pub written-then : WritesTogether → (old mid new : StoreView) (path : List ℕ) (offset : ℕ) (a b : List ℕ) → mid.volume ≡ old.volume → HasWritten old path offset a mid
    → HasWritten mid path (offset + length a) b new → HasWritten old path offset (a ++ b) new
written-then together old mid new path offset a b volume first second =
    let t : Tree = (model_in old).names in
    let fid : ℕ = first.file.fid in
    let here : found_at (grown t fid (offset + length a)) (path_in path) ≡ Some second.file = subst (λ (z : Tree). found_at z (path_in path) ≡ Some second.file) first.names second.at.there in
    let one : second.file.fid ≡ fid = found-grown t (path_in path) fid (offset + length a) first.file second.file first.at.there here in
    let next : WritesBytes old.volume.layout (model_in mid) fid (offset + length a) b (model_in new) =
    subst (λ (n : ℕ). WritesBytes old.volume.layout (model_in mid) n (offset + length a) b (model_in new)) one
    (subst (λ (v : Volume). WritesBytes v.layout (model_in mid) second.file.fid (offset + length a) b (model_in new)) volume second.written) in
    let size : offset + length a + length b ≡ offset + length (a ++ b) = (let both = length-append a b in omega (arith, both)) in
    record {
      file = first.file;
      at = first.at;
      written = together old.volume.layout (model_in old) (model_in mid) (model_in new) fid offset a b first.written next;
      names = second.names
          ∙ ap (λ (n : ℕ). grown (model_in mid).names n (offset + length a + length b)) one
          ∙ ap (λ (z : Tree). grown z fid (offset + length a + length b)) first.names
          ∙ grown-twice t fid (offset + length a) (offset + length a + length b) (omega arith)
          ∙ ap (λ (n : ℕ). grown t fid n) size;
    }

module _ (together : WritesTogether) (old mid new : StoreView) (volume : mid.volume ≡ old.volume) (path : List ℕ) (offset at count : ℕ) (bytes : List ℕ) where
  more-some : at + count ≤ length bytes → 0 < count → IsUpTo old path offset at bytes mid → HasWritten mid path (offset + at) (take count (drop at bytes)) new → (at ≡ 0) ⊎ (0 < at)
      → HasWritten old path offset (take (at + count) bytes) new
  more-some fits some upto part (inl none) =
      let part-at-first : HasWritten mid path (offset + 0) (take count (drop 0 bytes)) new = subst (λ (k : ℕ). HasWritten mid path (offset + k) (take count (drop k bytes)) new) none part in
      let part-at-offset : HasWritten mid path offset (take count bytes) new =
      subst (λ (k : ℕ). HasWritten mid path k (take count bytes) new) (let same : offset + 0 ≡ offset = omega arith in same) part-at-first in
      subst (λ (k : ℕ). HasWritten old path offset (take k bytes) new) (let same : count ≡ at + count = omega (arith, none) in same)
      (written-before old mid new (upto.none none) volume path offset (take count bytes) part-at-offset)
  more-some fits some upto part (inr low) =
      let long : length (take at bytes) ≡ at = length-take-le at bytes (omega (arith, fits)) in
      subst (λ (l : List ℕ). HasWritten old path offset l new) (sym (take-add at count bytes))
      (written-then together old mid new path offset (take at bytes) (take count (drop at bytes)) volume (upto.some low)
      (subst (λ (k : ℕ). HasWritten mid path (offset + k) (take count (drop at bytes)) new) (sym long) part))

  pub upto-more : at + count ≤ length bytes → 0 < count → IsUpTo old path offset at bytes mid → HasWritten mid path (offset + at) (take count (drop at bytes)) new
      → IsUpTo old path offset (at + count) bytes new
  upto-more fits some upto part = record {
    within = fits;
    none = λ none. absurd (omega (arith, none, some));
    some = λ low. more-some fits some upto part (elim (cases_lt 0 at) [ inl above ↦ inr above | inr under ↦ inl (omega (arith, under)) ]);
  }

-- One block.

length-patched : (text bytes : List ℕ) (from : ℕ) → length (patched text from bytes) ≡ from + length bytes + (length text - (from + length bytes))
length-patched text bytes from =
    let head = take from (text ++ replicate from 0) in
    let tail = drop (from + length bytes) text in
    let padded = length-append text (replicate from 0) in
    let zeros = length-replicate {A = ℕ} from 0 in
    let front : length head ≡ from = length-take-le from (text ++ replicate from 0) (omega (arith, padded, zeros)) in
    let whole = length-append head (bytes ++ tail) in
    let rest = length-append bytes tail in
    let cut = length-drop (from + length bytes) text in
    omega (arith, front, whole, rest, cut)

-- a text no longer than a block with bytes put in is none longer
pub patched-short : (text bytes : List ℕ) (from size : ℕ) → length text ≤ size → from + length bytes ≤ size → length (patched text from bytes) ≤ size
patched-short text bytes from size short fits = (let long = length-patched text bytes from in omega (arith, long, short, fits))

-- with bytes for all of it they are the text
pub patched-whole : (text bytes : List ℕ) → length text ≤ length bytes → patched text 0 bytes ≡ bytes
patched-whole text bytes short =
    let none : drop (0 + length bytes) text ≡ [] = drop_of_length-le text (omega (arith, short)) in
    ap (λ (l : List ℕ). bytes ++ l) none ∙ append-nil bytes

module _ (s : StoreView) (covered : AreCovered s.volume) (legal : IsLegalInRuns s.volume s.log) where
  abbrev size : ℕ
  size = block_bytes_of s.volume.layout

  -- a block has no more text than a block
  pub text-short : (key : Key) → length (text_at (model_in s) key) ≤ size
  text-short key = go ((model_in s).blocks key) refl
    where
      go : (o : Option (List ℕ)) → (model_in s).blocks key ≡ o → length (unwrap_or o []) ≤ size
      go None is = omega arith
      go (Some text) is = (covered s.log key text legal is).short

  -- and it ends within its file
  text-within : (path : List ℕ) (file : Found) (block : ℕ) → IsFileAt (model_in s).names path file → 0 < length (text_at (model_in s) (key_in file block))
      → block * size + length (text_at (model_in s) (key_in file block)) ≤ file.object.size
  text-within path file block at some = go ((model_in s).blocks (key_in file block)) refl some
    where
      go : (o : Option (List ℕ)) → (model_in s).blocks (key_in file block) ≡ o → 0 < length (unwrap_or o []) → block * size + length (unwrap_or o []) ≤ file.object.size
      go None is none = absurd (omega (arith, none))
      go (Some text) is none = (covered s.log (key_in file block) text legal is).within (info_of file) (file-there (model_in s).names path file at)

  module _ (patch : WritesPatch) (new : StoreView) (path : List ℕ) (block from : ℕ) (bytes text : List ℕ) (fits : from + length bytes ≤ size) where
    abbrev t : Tree
    t = (model_in s).names

    module _ (put : HasPut s path block text new) where
      abbrev key : Key
      key = key_in put.file block

      abbrev was : List ℕ
      was = text_at (model_in s) key

      module _ (is : text ≡ patched was from bytes) where
        names-end : (from + length bytes < length was) ⊎ (length was ≤ from + length bytes)
            → grown t put.file.fid (block * size + length text) ≡ grown t put.file.fid (block * size + from + length bytes)
        names-end (inl longer) =
            let long = length-patched was bytes from in
            let same = ap length is in
            let high = text-within path put.file block put.at (omega (arith, longer)) in
            grown-within t put.file.fid (block * size + length text) (block * size + from + length bytes)
            (λ (o : Object) (there : maps.get t.objects put.file.fid ≡ Some o).
            (let here : put.file.object ≡ o = same_Some put.file.object o (sym (fid-there t (path_in path) put.file put.at.there).1 ∙ there) in
            let up : block * size + length was ≤ o.size = subst (λ (z : Object). block * size + length was ≤ z.size) here high in
            (omega (arith, up, long, same, longer), omega (arith, up, longer))))
        names-end (inr shorter) =
            let long = length-patched was bytes from in
            let same = ap length is in
            ap (λ (n : ℕ). grown t put.file.fid n) (let ends : block * size + length text ≡ block * size + from + length bytes = omega (arith, long, same, shorter) in ends)

        pub put-written : HasWritten s path (block * size + from) bytes new
        put-written = record {
          file = put.file;
          at = put.at;
          written = patch s.volume.layout (model_in s) (model_in new) put.stamp put.mask key from bytes fits
              (subst (λ (l : List ℕ). IsSame (model_put s.volume.layout (write.Acked put.stamp put.mask) key l (model_in s)) (model_in new)) is put.put);
          names = put.put.names ∙ names-end (cases_lt (from + length bytes) (length was));
        }

-- what a get told of a block is its text
pub got-text : (s : StoreView) (path : List ℕ) (block : ℕ) (text : Option (List ℕ)) (file : Found) → HasGot s path block text → IsFileAt (model_in s).names path file
    → unwrap_or text [] ≡ text_at (model_in s) (key_in file block)
got-text s path block text file got at =
    let one : got.file ≡ file = same_Some got.file file (sym got.at.there ∙ at.there) in
    ap (λ (o : Option (List ℕ)). unwrap_or o []) (sym got.got) ∙ ap (λ (f : Found). text_at (model_in s) (key_in f block)) one

-- Bytes of one block are written.

module _ (s new : StoreView) (covered : AreCovered s.volume) (legal : IsLegalInRuns s.volume s.log) (patch : WritesPatch) (path : List ℕ) (offset size : ℕ) (bytes : List ℕ)
    (size-is : size ≡ block_bytes_of s.volume.layout) (fits : offset % block_bytes_of s.volume.layout + length bytes ≤ block_bytes_of s.volume.layout) where
  abbrev bsize : ℕ
  bsize = block_bytes_of s.volume.layout

  -- all of them
  pub whole-written : length bytes ≡ size → HasPut s path (offset / size) bytes new → HasWritten s path offset bytes new
  whole-written all was =
      let put : HasPut s path (offset / bsize) bytes new = subst (λ (n : ℕ). HasPut s path (offset / n) bytes new) size-is was in
      let whole : length bytes ≡ bsize = all ∙ size-is in
      let short = text-short s covered legal (key_in put.file (offset / bsize)) in
      let is : bytes ≡ patched (text_at (model_in s) (key_in put.file (offset / bsize))) 0 bytes =
      sym (patched-whole (text_at (model_in s) (key_in put.file (offset / bsize))) bytes (omega (arith, short, whole))) in
      let place = div-add-mod' offset bsize in
      subst (λ (n : ℕ). HasWritten s path n bytes new) (let same : offset / bsize * bsize + 0 ≡ offset = omega (arith, place, fits, whole) in same)
      (put-written s covered legal patch new path (offset / bsize) 0 bytes bytes (omega (arith, fits)) put is)

  -- or some, beside what was there
  pub part-written : (mid : StoreView) (from : ℕ) (whole : List ℕ) (text : Option (List ℕ)) → LooksSame s mid → mid.volume ≡ s.volume → from ≡ offset % bsize → HasGot s path (offset / size) text
      → whole ≡ patched (unwrap_or text []) from bytes → HasPut mid path (offset / size) whole new → HasWritten s path offset bytes new
  part-written mid from whole text same volume from-is was whole-is done =
      let got : HasGot s path (offset / bsize) text = subst (λ (n : ℕ). HasGot s path (offset / n) text) size-is was in
      let put : HasPut s path (offset / bsize) whole new = put-before s mid new same volume path (offset / bsize) whole (subst (λ (n : ℕ). HasPut mid path (offset / n) whole new) size-is done) in
      let is : whole ≡ patched (text_at (model_in s) (key_in put.file (offset / bsize))) from bytes =
      whole-is ∙ ap (λ (l : List ℕ). patched l from bytes) (got-text s path (offset / bsize) text put.file got put.at) in
      let place = div-add-mod' offset bsize in
      subst (λ (n : ℕ). HasWritten s path n bytes new) (let there : offset / bsize * bsize + from ≡ offset = omega (arith, place, from-is) in there)
      (put-written s covered legal patch new path (offset / bsize) from bytes whole (omega (arith, fits, from-is)) put is)
