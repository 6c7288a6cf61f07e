-- The rules of what an export keeps, after a call on names.
use Rattle.std.proofs.Common.{◌≡◌, ℕ, ◌-◌, Bool, true, false, cond, not, ◌==◌, List, [], ◌∷◌, map, Option, Some, None, is_some, sym, ap, ◌∙◌, subst, refl, eq-eqb}
use Rattle.std.specs.Option.{option_or}
use Rattle.std.specs.FinMap as maps
use Rattle.std.proofs.lemmas.List.Elements.{All-weaker}
use Rattle.std.proofs.lemmas.Option.{same_Some}
use Rattle.std.proofs.lemmas.List.Elements.{All-head, All-tail}
use Rattle.rz_events.specs.Volume.{Volume}
use Rattle.rz_events.specs.declared.keys.Key.{Key}
use Rattle.rz_events.specs.declared.files.FileInfo.{FileInfo}
use Rattle.rz_events.specs.declared.files.NodeSpec.{NodeSpec}
use Rattle.rz_export_model.specs.Place.{Placed}
use Rattle.rz_events.specs.declared.tree.TreeCall.{TreeCall}
use Rattle.rz_events.specs.declared.tree.TreeCall.TheVariants as call
use Rattle.rz_events.specs.declared.tree.TreeReply.{TreeReply}
use Rattle.rz_events.specs.declared.tree.TreeReply.TheVariants as told
use Rattle.rz_export_model.specs.Tree.{Tree}
use Rattle.rz_export_model.specs.TreeCalls.{reply_to, tree_after}
use Rattle.rz_export_model.specs.Export.{Export, Block, Blocks, new_places, blocks_after}
use Rattle.rz_export.specs.declared.nodes.KeptNode.{KeptNode}
use Rattle.rz_export.specs.Calls.{placed_for}
use Rattle.rz_export.specs.Kept.{used_in, AreCounted, AreMarked, HaveRoom, IsKept, lies_at, LayThere}
use Rattle.rz_export_model.specs.Files.{makes, ends}
use Rattle.rz_export_model.proofs.Files.{seen, view, made_at, IsBlank, IsStep}
use Rattle.rz_export.proofs.Used.{file-view, live-view, used-alike}
use Rattle.rz_export.proofs.Marked.{Marks, marked-alike, room-alike}
use Rattle.rz_export.proofs.States.{same-block}
use Rattle.rz_export_model.proofs.Forgets.{get-without}

-- only a new file needs places
pub reply-placed : (t : Tree) (s : Export) (c : TreeCall) → reply_to t (placed_for s c).cid (placed_for s c).places c ≡ reply_to t (new_places s).cid (new_places s).places c
reply-placed t s (call.Create path) = refl
reply-placed t s (_) = refl

pub tree-placed : (t : Tree) (s : Export) (c : TreeCall) → tree_after t (placed_for s c).cid (placed_for s c).places c ≡ tree_after t (new_places s).cid (new_places s).places c
tree-placed t s (call.Create path) = refl
tree-placed t s (_) = refl

-- a file that a reply ends lay where the reply says
pub lay-there : (t u : Tree) (r : TreeReply) → IsStep t u r → LayThere t r
lay-there t u (told.Gone None) s info is = cc
lay-there t u (told.Gone (Some i)) s info is =
    let own : lies_at t i.fid ≡ Some i.places
    = file-view t i.fid ∙ s.was i.fid (eq-eqb i.fid i.fid refl) ∙ ap (λ b. cond b (Some i.places) None) (eq-eqb i.fid i.fid refl) in
    subst (λ (x : FileInfo). lies_at t x.fid ≡ Some x.places) (same_Some i info is) own
lay-there t u (_) s info is = cc

made-some : (r : TreeReply) (fid : ℕ) (places : List ℕ) → made_at r fid ≡ Some places → makes r fid ≡ true
made-some (told.MadeFile info) fid places k = go (fid == info.fid) refl k
  where
    go : (b : Bool) → (fid == info.fid) ≡ b → cond b (Some info.places) None ≡ Some places → b ≡ true
    go true on k = refl
    go false off k = cc
made-some (_) fid places k = cc

-- a live file that a call does not end lies as before
carried : (t u : Tree) (r : TreeReply) → IsBlank t → IsStep t u r → (fid : ℕ) → is_some (view t.objects fid) ≡ true → ends r fid ≡ false → view u.objects fid ≡ view t.objects fid
carried t u r blank s fid live stays =
    s.views fid ∙ ap (λ b. option_or (made_at r fid) (cond b None (view t.objects fid))) stays ∙ go (made_at r fid) refl
  where
    go : (m : Option (List ℕ)) → made_at r fid ≡ m → option_or m (view t.objects fid) ≡ view t.objects fid
    go None is = refl
    go (Some places) is =
        let none = blank fid (s.new fid (made-some r fid places is)).0 in
        let gone : is_some (view t.objects fid) ≡ false = ap (λ o. is_some (seen o)) none in
        absurd (let never : true ≡ false = sym live ∙ gone in cc)

-- the blocks that stay are of files that stay
pub stays : (m : Blocks) (r : TreeReply) (k : Key) (b : Block) → maps.get (blocks_after m r) k ≡ Some b → (maps.get m k ≡ Some b) × (ends r k.fid ≡ false)
stays m (told.Gone (Some info)) k b at = go (k.fid == info.fid) refl (sym (get-without m info.fid k) ∙ at)
  where
    go : (t : Bool) → (k.fid == info.fid) ≡ t → cond (not t) (maps.get m k) None ≡ Some b → (maps.get m k ≡ Some b) × (t ≡ false)
    go true on e = cc
    go false off e = (e, refl)
stays m (_) k b at = (at, refl)

-- after a call on names
pub kept-name : (v : Volume) (t u : Tree) (m after : Blocks) (r : TreeReply) (ns new : List KeptNode) (rs marks : Marks) (last : ℕ) → IsKept v t m ns rs last → IsStep t u r
    → after ≡ blocks_after m r → map (λ (n : KeptNode). n.spec) new ≡ map (λ (n : KeptNode). n.spec) ns → AreCounted t after new
    → AreMarked t after marks → HaveRoom t after marks → IsKept v u after new marks last
kept-name v t u m after r ns new rs marks last h s is specs counted marked room = record {
  all_nodes = specs ∙ h.all_nodes;
  counted = All-weaker (λ (n : KeptNode). n.used ≡ used_in t after n.spec.sid) (λ (n : KeptNode). n.used ≡ used_in u after n.spec.sid)
      (λ n e. e ∙ sym (used-alike t u after n.spec.sid lies)) new counted;
  marked = marked-alike t u after marks lies marked;
  room = room-alike t u after marks lies room;
  made = s.blank;
  each_block = λ k b at. same-block t u last k b (lies k b at) (h.each_block k b (stays m r k b (ap (λ x. maps.get x k) (sym is) ∙ at)).0);
}
  where
    lies : (k : Key) (b : Block) → maps.get after k ≡ Some b → view u.objects k.fid ≡ view t.objects k.fid
    lies k b at =
        let old = stays m r k b (ap (λ x. maps.get x k) (sym is) ∙ at) in
        carried t u r h.made s k.fid (sym (live-view t k.fid) ∙ (h.each_block k b old.0).live) old.1

-- the free cells, by the counts
pub free-kept : (t : Tree) (m : Blocks) (ns : List KeptNode) → AreCounted t m ns
    → map (λ (n : KeptNode). n.spec.cells - n.used) ns ≡ map (λ (n : NodeSpec). n.cells - used_in t m n.sid) (map (λ (n : KeptNode). n.spec) ns)
free-kept t m [] all = refl
free-kept t m (n ∷ ns) all =
    let rest = map (λ (x : KeptNode). x.spec.cells - x.used) ns in
    ap (λ u. (n.spec.cells - u) ∷ rest) (All-head (λ (x : KeptNode). x.used ≡ used_in t m x.spec.sid) n ns all)
    ∙ ap (λ l. (n.spec.cells - used_in t m n.spec.sid) ∷ l) (free-kept t m ns (All-tail (λ (x : KeptNode). x.used ≡ used_in t m x.spec.sid) n ns all))

-- a call that makes no file needs no places
pub none-placed : (s : Export) (c : TreeCall) → ((path : List ℕ) → c ≡ call.Create path → ⊥) → (let p : Placed = record { cid = 0; places = [] } in p) ≡ placed_for s c
none-placed s (call.Create path) other = absurd (other path refl)
none-placed s (_) other = refl
