-- Blocks of a file that are counted out one by one.
use Rattle.std.proofs.Common.{◌≡◌, ℕ, ◌+◌, Bool, true, false, List, map, Option, Some, None, is_some, sym, ap, ◌∙◌, refl, arith, eqb-true}
use Rattle.std.specs.Option.{option_and_then}
use Rattle.std.specs.FinMap as maps
use Rattle.std.specs.FinMap.{get-entries}
use Rattle.std.proofs.lemmas.List.Elements.{All-map, All-weaker}
use Rattle.std.proofs.lemmas.Option.{same_Some}
use Rattle.rz_events.specs.declared.keys.Key.{Key}
use Rattle.rz_events.specs.declared.files.FileInfo.{FileInfo}
use Rattle.rz_events.specs.declared.tree.TreeReply.{TreeReply}
use Rattle.rz_events.specs.declared.tree.TreeReply.TheVariants as told
use Rattle.rz_export_model.specs.Tree.{Tree}
use Rattle.rz_export_model.specs.Export.{Block, Blocks, published_of, without_file, blocks_after}
use Rattle.rz_export.specs.declared.nodes.KeptNode.{KeptNode}
use Rattle.rz_export.specs.Nodes.{is_named, moved, recounted}
use Rattle.rz_export.specs.Kept.{lies_on, used_in, AreCounted, lies_at, gone_in}
use Rattle.rz_export_model.proofs.Files.{view}
use Rattle.rz_export.proofs.Counts.{one_if, count-remove}
use Rattle.rz_export.proofs.Used.{counts_at, counts-view, file-view}
use Rattle.rz_export_model.proofs.Forgets.{first_of_file, first-own, first-found}

moved-down : (was : Bool) (old new : ℕ) → new + one_if was ≡ old → moved was false old ≡ new
moved-down true old new e = omega arith
moved-down false old new e = omega arith

held : (o : Option Block) → is_some o ≡ true → (b : Block) × (o ≡ Some b)
held None there = cc
held (Some b) there = (b, refl)

pub first-there : (m : Blocks) (fid : ℕ) (k : Key) → first_of_file fid (maps.entries m) ≡ Some k → is_some (maps.get m k) ≡ true
first-there m fid k is = ap is_some (get-entries m k) ∙ first-found fid (maps.entries m) k is

-- with one block less the nodes that it named use one cell less
pub counted-out : (t : Tree) (m : Blocks) (ns : List KeptNode) (info : FileInfo) (k : Key) → first_of_file info.fid (maps.entries m) ≡ Some k
    → lies_at t info.fid ≡ Some info.places → AreCounted t m ns → AreCounted t (maps.remove m k) (map (recounted info.places (published_of m k) None) ns)
counted-out t m ns info k first lies all =
    let f : KeptNode → KeptNode = recounted info.places (published_of m k) None in
    All-map (λ (n : KeptNode). n.used ≡ used_in t (maps.remove m k) n.spec.sid) f ns
    (All-weaker (λ (n : KeptNode). n.used ≡ used_in t m n.spec.sid) (λ (n : KeptNode). (f n).used ≡ used_in t (maps.remove m k) (f n).spec.sid) (λ n is. less n.spec.sid n.used is) ns all)
  where
    less : (node old : ℕ) → old ≡ used_in t m node → moved (is_named node info.places (published_of m k)) false old ≡ used_in t (maps.remove m k) node
    less node old is =
        let b = held (maps.get m k) (first-there m info.fid k first) in
        let own : k.fid ≡ info.fid = eqb-true k.fid info.fid (first-own info.fid (maps.entries m) k first) in
        let there : view t.objects k.fid ≡ Some info.places = ap (view t.objects) own ∙ sym (file-view t info.fid) ∙ lies in
        let told : lies_on t node (k, b.0) ≡ is_named node info.places (published_of m k)
        = counts-view t node k b.0 ∙ ap (λ o. counts_at node o b.0.published) there ∙ ap (is_named node info.places) (sym (ap (option_and_then (λ (x : Block). x.published)) b.1)) in
        moved-down (is_named node info.places (published_of m k)) old (used_in t (maps.remove m k) node)
        (ap (λ (x : Bool). used_in t (maps.remove m k) node + one_if x) (sym told) ∙ count-remove (lies_on t node) m k b.0 b.1 ∙ sym is)

-- the blocks of a file that goes are taken away
pub settled-some : (m : Blocks) (r : TreeReply) (info : FileInfo) → gone_in r ≡ Some info → without_file m info.fid ≡ blocks_after m r
settled-some m (told.Gone None) info is = cc
settled-some m (told.Gone (Some i)) info is = ap (λ (x : FileInfo). without_file m x.fid) (sym (same_Some i info is))
settled-some m (_) info is = cc

-- no other reply takes blocks away
pub settled-none : (m : Blocks) (r : TreeReply) → gone_in r ≡ None → m ≡ blocks_after m r
settled-none m (told.Gone None) is = refl
settled-none m (told.Gone (Some i)) is = cc
settled-none m (_) is = refl

pub not-gone : (r : TreeReply) → ((gone : Option FileInfo) → r ≡ told.Gone gone → ⊥) → None ≡ gone_in r
not-gone (told.Gone gone) other = absurd (other gone refl)
not-gone (_) other = refl
