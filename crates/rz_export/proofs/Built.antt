-- An export to which a part is added keeps the rules.
use Rattle.std.proofs.Common.{◌≡◌, ℕ, ◌+◌, ◌^◌, ◌<◌, ◌≤◌, ◌⊎◌, ◌&&◌, Bool, true, false, cond, List, map, Option, Some, None, is_some, sym, ap, ◌∙◌, subst, refl, arith, inl, inr, eqb-true, eq-eqb}
use Rattle.std.specs.Prelude.{◌==◌, nat_le}
use Rattle.std.specs.Option.{option_map, option_map_or}
use Rattle.std.specs.Ordering.{nat_cmp, is_eq, eq_by_cmp}
use Rattle.std.specs.Cmp.{nat_cmp_total}
use Rattle.std.specs.FinMap as maps
use Rattle.std.specs.FinMap.{FinMap, get-insert, get-empty, len-empty}
use Rattle.std.proofs.lemmas.List.Elements.{All-map, All-weaker}
use Rattle.std.proofs.lemmas.Option.{same_Some}
use Rattle.std.proofs.lemmas.Bool.{and_parts, leb-true}
use Rattle.rz_events.specs.Volume.{Volume}
use Rattle.rz_events.specs.Keys.{key_cmp, keys_total, exact_keys}
use Rattle.rz_events.specs.declared.keys.Key.{Key}
use Rattle.rz_events.specs.declared.files.FileInfo.{FileInfo}
use Rattle.rz_events.specs.declared.files.NodeSpec.{NodeSpec}
use Rattle.rz_blocks.specs.Marks.{is_marked, has_room}
use Rattle.rz_export_model.specs.Tree.{Tree, Object, file_of, empty_tree, new_dir}
use Rattle.rz_export_model.specs.Export.{Export, Block, Blocks, is_drawn}
use Rattle.rz_tree.specs.declared.parts.Part.{Part}
use Rattle.rz_tree.specs.declared.parts.Part.TheVariants as part
use Rattle.rz_tree.specs.Added as trees
use Rattle.rz_tree.specs.Added.{IsFirstObject, IsNextObject}
use Rattle.rz_export.specs.declared.nodes.Enrolment.{Enrolment}
use Rattle.rz_export.specs.declared.nodes.KeptNode.{KeptNode}
use Rattle.rz_export.specs.Nodes.{is_named, moved, recounted, with_enrolment}
use Rattle.rz_export.specs.Kept.{lies_on, lies_at, used_in, is_place, AreRoomy, HaveRoom, IsBlock, IsKept}
use Rattle.rz_export_model.proofs.Files.{IsBlank, apart}
use Rattle.rz_export_model.proofs.Tests.{eq_true}
use Rattle.rz_export.proofs.Counts.{one_if, at_key, count-insert, count-len}
use Rattle.rz_export.proofs.Used.{file-view, counts-live, moved-count}
use Rattle.rz_export.proofs.Enrolled.{map-same, specs-set, use-set}
use Rattle.rz_export.proofs.Marked.{Marks, marked-set, room-kept, room-set}

abbrev no_objects : FinMap nat_cmp Object
no_objects = maps.empty

absent : (m : Blocks) → m ≡ maps.empty → (k : Key) → maps.get m k ≡ None
absent m none k = ap (λ x. maps.get x k) none ∙ get-empty key_cmp k

-- without blocks no node uses a cell
unused : (t : Tree) (m : Blocks) → m ≡ maps.empty → (node : ℕ) → used_in t m node ≡ 0
unused t m none node =
    let most : used_in t m node ≤ maps.len m = count-len (lies_on t node) m in
    let e : maps.len m ≡ 0 = ap maps.len none ∙ len-empty key_cmp Block in
    omega (arith, most, e)

-- without blocks the tree and the last number may be any
pub kept-blockless : (v : Volume) (t u : Tree) (m : Blocks) (ns : List KeptNode) (rs : Marks) (last later : ℕ) → m ≡ maps.empty → IsBlank u
    → IsKept v t m ns rs last → IsKept v u m ns rs later
kept-blockless v t u m ns rs last later none blank h = record {
  all_nodes = h.all_nodes;
  counted = All-weaker (λ (n : KeptNode). n.used ≡ used_in t m n.spec.sid) (λ (n : KeptNode). n.used ≡ used_in u m n.spec.sid)
      (λ n is. is ∙ unused t m none n.spec.sid ∙ sym (unused u m none n.spec.sid)) ns h.counted;
  marked = λ node k. h.marked node k
      ∙ ap (λ o. option_map_or (λ b. lies_on t node (k, b)) o false) (absent m none k)
      ∙ sym (ap (λ o. option_map_or (λ b. lies_on u node (k, b)) o false) (absent m none k));
  room = λ k b places at lies. (let gone : None ≡ Some b = sym (absent m none k) ∙ at in cc);
  made = blank;
  each_block = λ k b at. (let gone : None ≡ Some b = sym (absent m none k) ∙ at in cc);
}

-- ---- a part of the tree

-- an object under a number that was given
blank-given : (t : Tree) (fid : ℕ) (o : Object) → fid ≤ t.made → IsBlank t → IsBlank (trees.with_given t fid o)
blank-given t fid o given blank f up =
    get-insert nat_cmp_total t.objects fid o f ∙ ap (λ b. cond b (Some o) (maps.get t.objects f)) (apart f fid (λ is. omega (arith, is, up, given))) ∙ blank f up

blank_object : (t : Tree) (fid : ℕ) (o : Object) → IsFirstObject t fid o ⊎ IsNextObject t fid o → IsBlank t → IsBlank (trees.with_given t fid o)
blank_object t fid o (inl first) blank = let zero = first.1.number in blank-given t fid o (omega (arith, zero)) blank
blank_object t fid o (inr next) blank = blank-given t fid o next.given blank

fresh_above : (t : Tree) (made : ℕ) → ((fid : ℕ) → is_some (maps.get t.objects fid) ≡ true → fid ≤ made) → (fid : ℕ) → made < fid → maps.get t.objects fid ≡ None
fresh_above t made all fid up = go (maps.get t.objects fid) refl
  where
    go : (o : Option Object) → maps.get t.objects fid ≡ o → o ≡ None
    go None is = refl
    go (Some o) is = let low = all fid (ap is_some is) in absurd (omega (arith, low, up))

-- no object has a number above the last one that was given
pub blank-part : (t : Tree) (p : Part) → trees.MayAdd t p → IsBlank t → IsBlank (trees.with_part t p)
blank-part t (part.Counters last made) may blank = fresh_above t made may
blank-part t (part.Object fid kind mode mtime size cid places target) may blank =
    blank_object t fid (record { kind = kind; mode = mode; mtime = mtime; target = target; size = size; cid = cid; places = places }) may blank
blank-part t (part.Name path fid) may blank = blank
blank-part t (part.Block key latest published) may blank = blank
blank-part t (part.Enrolled node loss fence) may blank = blank

-- in a new tree there is the root alone
pub root-only : (made fid : ℕ) → is_some (maps.get empty_tree.objects fid) ≡ true → fid ≤ made
root-only made fid there = go (fid == 0) refl
  where
    go : (b : Bool) → (fid == 0) ≡ b → fid ≤ made
    go true is = let zero : fid ≡ 0 = eqb-true fid 0 is in omega (arith, zero)
    go false is =
        let other : eq_by_cmp nat_cmp fid 0 ≡ false = apart fid 0 (λ same. (let yes : (fid == 0) ≡ true = eq-eqb fid 0 same in let never : true ≡ false = sym yes ∙ is in cc)) in
        let none : maps.get empty_tree.objects fid ≡ None = get-insert nat_cmp_total no_objects 0 new_dir fid ∙ ap (λ b. cond b (Some new_dir) (maps.get no_objects fid)) other ∙ get-empty nat_cmp fid in
        (let never : true ≡ false = sym there ∙ ap is_some none in cc)

-- ---- a block

module _ (v : Volume) (t : Tree) (m : Blocks) (ns : List KeptNode) (rs : Marks) (last : ℕ) (h : IsKept v t m ns rs last)
    (key : Key) (info : FileInfo) (w : Block) (live : file_of t key.fid ≡ Some info) (fresh : maps.get m key ≡ None)
    (near : key.block < 1048576) (begun : 1 ≤ w.latest) (drawn : w.latest ≤ last)
    (short : maps.len (maps.insert m key w) < 2 ^ 64)
    (new : Marks) (marks : (l : ℕ) (q : Key) → is_marked new l q ≡ cond (is_place l info.places && is_eq (key_cmp key q)) (is_named l info.places w.published) (is_marked rs l q))
    (kept_room : (l : ℕ) (q : Key) → has_room new l q ≡ has_room rs l q) (roomy : AreRoomy rs info.places key) where
  abbrev after : Blocks
  after = maps.insert m key w

  used_after : (node old : ℕ) → old ≡ used_in t m node → moved false (is_named node info.places w.published) old ≡ used_in t after node
  used_after node old is =
      let count = count-insert (lies_on t node) m key w in
      let was : at_key (lies_on t node) key (maps.get m key) ≡ false = ap (at_key (lies_on t node) key) fresh in
      let now : lies_on t node (key, w) ≡ is_named node info.places w.published = counts-live t node key w info live in
      let few : used_in t after node ≤ maps.len after = count-len (lies_on t node) after in
      ap (moved false (is_named node info.places w.published)) is
      ∙ moved-count false (is_named node info.places w.published) (used_in t m node) (used_in t after node)
      (ap (λ b. used_in t after node + one_if b) (sym was) ∙ count ∙ ap (λ b. used_in t m node + one_if b) now) (omega (arith, few, short))

  block_after : (k : Key) (b : Block) (s : Bool) → eq_by_cmp key_cmp k key ≡ s → cond s (Some w) (maps.get m k) ≡ Some b → IsBlock t last k b
  block_after k b true on e =
      let same : key ≡ k = sym (exact_keys k key (eq_true _ on)) in
      let is : w ≡ b = same_Some w b e in
      let own : IsBlock t last key w = record { live = ap is_some live; near = near; begun = begun; drawn = drawn } in
      subst (λ (x : Key). IsBlock t last x b) same (subst (λ (x : Block). IsBlock t last key x) is own)
  block_after k b false off e = h.each_block k b e

  lies : lies_at t key.fid ≡ Some info.places
  lies = ap (option_map (λ (i : FileInfo). i.places)) live

  roomy_still : AreRoomy new info.places key
  roomy_still = All-weaker (λ n. has_room rs n key ≡ true) (λ n. has_room new n key ≡ true) (λ n had. kept_room n key ∙ had) info.places roomy

  room_still : HaveRoom t m new
  room_still = room-kept t m rs new (λ l q had. kept_room l q ∙ had) h.room

  pub kept-added : IsKept v t after (map (recounted info.places None w.published) ns) new last
  kept-added =
      let f : KeptNode → KeptNode = recounted info.places None w.published in
      record {
        all_nodes = map-same (λ (n : KeptNode). n.spec) f (λ n. refl) ns ∙ h.all_nodes;
        counted = All-map (λ (n : KeptNode). n.used ≡ used_in t after n.spec.sid) f ns
            (All-weaker (λ (n : KeptNode). n.used ≡ used_in t m n.spec.sid) (λ (n : KeptNode). (f n).used ≡ used_in t after (f n).spec.sid) (λ n is. used_after n.spec.sid n.used is) ns h.counted);
        marked = marked-set t m rs new key w info.places (sym (file-view t key.fid) ∙ lies) marks h.marked;
        room = room-set t m new key w info.places lies roomy_still room_still;
        made = h.made;
        each_block = λ k b at. block_after k b (eq_by_cmp key_cmp k key) refl (sym (get-insert keys_total m key w k) ∙ at);
      }

-- ---- an enrolment

pub kept-enrolled : (v : Volume) (t : Tree) (m : Blocks) (ns : List KeptNode) (rs : Marks) (last : ℕ) → IsKept v t m ns rs last
    → (node : ℕ) (e : Enrolment) → IsKept v t m (map (with_enrolment node e) ns) rs last
kept-enrolled v t m ns rs last h node e = record {
  all_nodes = specs-set node e ns ∙ h.all_nodes;
  counted = All-map (λ (n : KeptNode). n.used ≡ used_in t m n.spec.sid) (with_enrolment node e) ns
      (All-weaker (λ (n : KeptNode). n.used ≡ used_in t m n.spec.sid) (λ (n : KeptNode). (with_enrolment node e n).used ≡ used_in t m (with_enrolment node e n).spec.sid)
      (λ n is. use-set node e (λ (s : NodeSpec). used_in t m s.sid) n is) ns h.counted);
  marked = h.marked;
  room = h.room;
  made = h.made;
  each_block = h.each_block;
}

-- a number that was drawn
pub is-drawn : (s : Export) (stamp : ℕ) → is_drawn s stamp ≡ true → (1 ≤ stamp) × (stamp ≤ s.last)
is-drawn s stamp h = let parts = and_parts (nat_le 1 stamp) (nat_le stamp s.last) h in (leb-true 1 stamp parts.0, leb-true stamp s.last parts.1)
