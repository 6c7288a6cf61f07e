-- A block that is written anew with the text that it contains.
use Rattle.std.proofs.Common.{ℕ, Bool, true, false, ◌≡◌, inl, ◌+◌, ◌*◌, ◌≤◌, List, [], ◌∷◌, ◌++◌, length, Option, Some, cond, refl, sym, ◌∙◌, ap, subst, append_assoc}
use Rattle.std.specs.Prelude.{Result, Ok, Err, OnOk, OnErr}
use Rattle.std.specs.FinMap as maps
use Rattle.std.proofs.lemmas.Option.{same_Some}
use Rattle.mj_angles.specs.Layout.{block_bytes_of}
use Rattle.rz_events.specs.declared.keys.Key.{Key}
use Rattle.rz_events.specs.declared.ends.WriteEnd.TheVariants as write
use Rattle.rz_events.specs.declared.events.Event.{Event}
use Rattle.rz_events.specs.Events.{same_key}
use Rattle.rz_export_model.specs.Tree.{Tree, Object, Found, info_of, grown}
use Rattle.rz_export_model.specs.Refusals.{path_in}
use Rattle.rz_core.specs.Legal.{IsLegalInRuns}
use Rattle.rz_core.proofs.Stamps.{same_key-true}
use Rattle.rz_chronicle.specs.Keys.{IsLater}
use Rattle.rz_contents.specs.Contents.{IsUnpublished}
use Rattle.rz_contents.specs.Putting.{model_put}
use Rattle.rz_contents.specs.Files.{IsFileAt, key_in}
use Rattle.rz_contents.specs.Sizes.{AreCovered}
use Rattle.rz_store.specs.Store.{StoreView, model_in, LooksSame, HasPut, HasGot, HasPublished, HasRenewed}
use Rattle.rz_store.proofs.Looks.{same-then}
use Rattle.rz_store.proofs.Grown.{grown-still, fid-there}
use Rattle.rz_store.proofs.Opens.{file-there}
use Rattle.rz_store.proofs.Writing.{put-before}

-- What nobody published in all these events nobody did in some of them.

pub front-unpublished : (key : Key) (xs ys : List Event) → IsUnpublished key (xs ++ ys) → IsUnpublished key xs
front-unpublished key [] ys all = tt
front-unpublished key (x ∷ xs) ys all = (all.0, front-unpublished key xs ys all.1)

pub front-published : (key : Key) (xs ys : List Event) → IsUnpublished key (xs ++ ys) → IsUnpublished key ys
front-published key [] ys all = all
front-published key (x ∷ xs) ys all = front-published key xs ys all.1

-- The same text.

module _ (was : Key → Option (List ℕ)) (at : Key) (text : List ℕ) (contains : was at ≡ Some text) where
  text-again : (key : Key) → was key ≡ cond (same_key key at) (Some text) (was key)
  text-again key = go (same_key key at) refl
    where
      go : (b : Bool) → same_key key at ≡ b → was key ≡ cond b (Some text) (was key)
      go true same = ap was (same_key-true key at same) ∙ contains
      go false other = refl

-- the put of the text that the block contains
pub put-again : (s new : StoreView) (path : List ℕ) (block : ℕ) (text : List ℕ) → AreCovered s.volume → IsLegalInRuns s.volume s.log → HasPut s path block text new
    → ((file : Found) → IsFileAt (model_in s).names path file → (model_in s).blocks (key_in file block) ≡ Some text) → LooksSame s new
put-again s new path block text covered legal put contains =
    let t : Tree = (model_in s).names in
    let key : Key = key_in put.file block in
    let size = block_bytes_of s.volume.layout in
    let there : (model_in s).blocks key ≡ Some text = contains put.file put.at in
    let within = (covered s.log key text legal there).within (info_of put.file) (file-there t path put.file put.at) in
    let names : grown t put.file.fid (block * size + length text) ≡ t =
    grown-still t put.file.fid (block * size + length text)
    (λ (o : Object) (is : maps.get t.objects put.file.fid ≡ Some o).
    (let here : put.file.object ≡ o = same_Some put.file.object o (sym (fid-there t (path_in path) put.file put.at.there).1 ∙ is) in
    subst (λ (z : Object). block * size + length text ≤ z.size) here within)) in
    same-then (model_in s) (model_put s.volume.layout (write.Acked put.stamp put.mask) key text (model_in s)) (model_in new)
    (record { names = names; blocks = λ k. sym (text-again (model_in s).blocks key text there k) })
    put.put

-- A block that was read and then written.

module _ (old mid new : StoreView) (path : List ℕ) (block : ℕ) (same : LooksSame old mid) where
  pub repaired-same : (text : List ℕ) → mid.volume ≡ old.volume → AreCovered old.volume → IsLegalInRuns old.volume old.log → HasGot old path block (Some text) → HasPut mid path block text new
      → LooksSame old new
  repaired-same text volume covered legal got put =
      put-again old new path block text covered legal (put-before old mid new same volume path block text put)
      (λ (file : Found) at.
      (let one : got.file ≡ file = same_Some got.file file (sym got.at.there ∙ at.there) in
      ap (λ (f : Found). (model_in old).blocks (key_in f block)) (sym one) ∙ got.got))

  pub repaired-anew : IsLater old.log mid.log → HasPublished mid path block new → HasRenewed old path block new
  repaired-anew later put = record {
    file = put.file;
    at = subst (λ (t : Tree). IsFileAt t path put.file) same.names put.at;
    renewed = inl (
      put.published.0 ++ later.0,
      put.published.1 ∙ ap (λ (h : List Event). put.published.0 ++ h) later.1 ∙ sym (append_assoc put.published.0 later.0 old.log),
      λ none. put.published.2 (front-unpublished (key_in put.file block) put.published.0 later.0 none),
    );
  }

pub either-way : {T E : Type 0} (r : Result T E) (P : Type 0) → OnOk r P → OnErr r P → P
either-way (Ok x) P done kept = done
either-way (Err f) P done kept = kept

pub on-err-so : {T E : Type 0} (r : Result T E) (P Q : Type 0) → (P → Q) → OnErr r P → OnErr r Q
on-err-so (Ok x) P Q so is = tt
on-err-so (Err f) P Q so is = so is
