-- The rules of what an export keeps, after each of its changes.
use Rattle.std.proofs.Common.{◌≡◌, ℕ, ◌+◌, ◌^◌, ◌<◌, ◌≤◌, ◌&&◌, Bool, true, false, cond, List, map, Option, Some, None, is_some, get_or, sym, ap, ◌∙◌, subst, refl, arith}
use Rattle.std.specs.Prelude.{nat_lt}
use Rattle.std.specs.Option.{option_map, option_map_or, option_and_then}
use Rattle.std.specs.Ordering.{nat_cmp, is_eq, eq_by_cmp}
use Rattle.std.specs.Cmp.{nat_cmp_total, tied_itself}
use Rattle.std.specs.FinMap as maps
use Rattle.std.specs.FinMap.{FinMap, same_map, get-insert, get-empty, len-insert, len-empty}
use Rattle.std.proofs.lemmas.List.Elements.{All-map, All-weaker}
use Rattle.std.proofs.lemmas.Option.{same_Some}
use Rattle.std.proofs.lemmas.Bool.{lt-ltb}
use Rattle.rz_events.specs.Volume.{Volume, nodes_of}
use Rattle.rz_events.specs.Keys.{key_cmp, keys_total, exact_keys}
use Rattle.rz_events.specs.declared.keys.Key.{Key}
use Rattle.rz_events.specs.declared.files.FileInfo.{FileInfo}
use Rattle.rz_events.specs.declared.files.NodeSpec.{NodeSpec}
use Rattle.rz_events.specs.declared.files.Published.{Published}
use Rattle.rz_blocks.specs.Marks.{is_marked, has_room}
use Rattle.rz_export_model.specs.Tree.{Tree, Object, file_of, empty_tree, new_dir, grown}
use Rattle.rz_export_model.specs.Export.{Block, Blocks, latest_of, published_of, prepared, begun, with_published, newer_of}
use Rattle.rz_export.specs.declared.nodes.Enrolment.{Enrolment}
use Rattle.rz_export.specs.declared.nodes.KeptNode.{KeptNode}
use Rattle.rz_export.specs.Nodes.{new_node, is_named, moved, recounted, with_enrolment}
use Rattle.rz_export.specs.Kept.{lies_on, lies_at, used_in, is_place, AreRoomy, HaveRoom, IsBlock, IsKept}
use Rattle.rz_export_model.proofs.Files.{view, apart, grows}
use Rattle.rz_export_model.proofs.Tests.{eq_true}
use Rattle.rz_export.proofs.Counts.{one_if, at_key, count-insert, count-len}
use Rattle.rz_export.proofs.Used.{live-view, file-view, counts-live, counts-published, used-alike, moved-count}
use Rattle.rz_export.proofs.Enrolled.{map-same, map-undone, specs-set, use-set}
use Rattle.rz_export.proofs.Marked.{Marks, marked-begin, marked-set, marked-alike, marked-new, room-kept, room-set, room-alike, room-new}

-- ---- a block that is made ready

pub get-own : (m : Blocks) (k : Key) (b : Block) → maps.get (maps.insert m k b) k ≡ Some b
get-own m k b = get-insert keys_total m k b k ∙ ap (λ r. cond (is_eq r) (Some b) (maps.get m k)) (tied_itself keys_total k)

abbrev fresh : Block
fresh = record { latest = 0; published = None }

pub some-prepared : (m : Blocks) (k : Key) → is_some (maps.get (prepared m k) k) ≡ true
some-prepared m k = go (maps.get m k) refl
  where
    go : (o : Option Block) → maps.get m k ≡ o → is_some (maps.get (cond (is_some o) m (maps.insert m k fresh)) k) ≡ true
    go None is = ap is_some (get-own m k fresh)
    go (Some b) is = ap is_some is

pub latest-prepared : (m : Blocks) (k : Key) → latest_of (prepared m k) k ≡ latest_of m k
latest-prepared m k = go (maps.get m k) refl
  where
    go : (o : Option Block) → maps.get m k ≡ o → latest_of (cond (is_some o) m (maps.insert m k fresh)) k ≡ latest_of m k
    go None is = ap (λ o. option_map_or (λ (b : Block). b.latest) o 0) (get-own m k fresh) ∙ sym (ap (λ o. option_map_or (λ (b : Block). b.latest) o 0) is)
    go (Some b) is = refl

published-prepared : (m : Blocks) (k : Key) → published_of (prepared m k) k ≡ published_of m k
published-prepared m k = go (maps.get m k) refl
  where
    go : (o : Option Block) → maps.get m k ≡ o → published_of (cond (is_some o) m (maps.insert m k fresh)) k ≡ published_of m k
    go None is = ap (option_and_then (λ (b : Block). b.published)) (get-own m k fresh) ∙ sym (ap (option_and_then (λ (b : Block). b.published)) is)
    go (Some b) is = refl

other-prepared : (m : Blocks) (k q : Key) → eq_by_cmp key_cmp q k ≡ false → maps.get (prepared m k) q ≡ maps.get m q
other-prepared m k q other = go (maps.get m k)
  where
    go : (o : Option Block) → maps.get (cond (is_some o) m (maps.insert m k fresh)) q ≡ maps.get m q
    go None = get-insert keys_total m k fresh q ∙ ap (λ t. cond t (Some fresh) (maps.get m q)) other
    go (Some b) = refl

pub begun-prepared : (m : Blocks) (k : Key) (n : ℕ) → begun (prepared m k) k n ≡ begun m k n
begun-prepared m k n = same_map keys_total exact_keys _ _ (λ q.
    get-insert keys_total (prepared m k) k (record { latest = n; published = published_of (prepared m k) k }) q ∙ go q (eq_by_cmp key_cmp q k) refl
    ∙ sym (get-insert keys_total m k (record { latest = n; published = published_of m k }) q))
  where
    go : (q : Key) (t : Bool) → eq_by_cmp key_cmp q k ≡ t
        → (let o : Option Block = cond t (Some (record { latest = n; published = published_of (prepared m k) k })) (maps.get (prepared m k) q) in o)
        ≡ (let o : Option Block = cond t (Some (record { latest = n; published = published_of m k })) (maps.get m q) in o)
    go q true on = ap (λ (p : Option Published). (let o : Option Block = Some (record { latest = n; published = p }) in o)) (published-prepared m k)
    go q false off = other-prepared m k q off

-- ---- the rules

cancel : (a b x y : ℕ) → a + x ≡ b + y → x ≡ y → a ≡ b
cancel a b x y e is = omega arith

moved_sum : (a b x y x' y' : ℕ) → a + x ≡ b + y → x ≡ x' → y ≡ y' → a + x' ≡ b + y'
moved_sum a b x y x' y' e p q = omega arith

pub later-block : (t : Tree) (last : ℕ) (k : Key) (b : Block) → IsBlock t last k b → IsBlock t (last + 1) k b
later-block t last k b i = record { live = i.live; near = i.near; begun = i.begun; drawn = (let low = i.drawn in omega (arith, low)) }

-- a block of a file that lies as before
pub same-block : (t u : Tree) (last : ℕ) (k : Key) (b : Block) → view u.objects k.fid ≡ view t.objects k.fid → IsBlock t last k b → IsBlock u last k b
same-block t u last k b same i = record { live = live-view u k.fid ∙ ap is_some same ∙ sym (live-view t k.fid) ∙ i.live; near = i.near; begun = i.begun; drawn = i.drawn }

-- the room that a begin makes
pub record IsRoomier (old new : Marks) : Type 0 where
  pub marks : (l : ℕ) (q : Key) → is_marked new l q ≡ is_marked old l q
  pub kept : (l : ℕ) (q : Key) → has_room old l q ≡ true → has_room new l q ≡ true

-- the marks of a block that is published
pub record IsRemarked (old new : Marks) (key : Key) (places : List ℕ) (published : Option Published) : Type 0 where
  pub marks : (l : ℕ) (q : Key) → is_marked new l q ≡ cond (is_place l places && is_eq (key_cmp key q)) (is_named l places published) (is_marked old l q)
  pub room : (l : ℕ) (q : Key) → has_room new l q ≡ has_room old l q

-- a block that is there has room, so only one that is not has to get it
pub roomy-either : (t : Tree) (m : Blocks) (rs : Marks) (key : Key) (places : List ℕ) → lies_at t key.fid ≡ Some places → HaveRoom t m rs → (maps.get m key ≡ None → AreRoomy rs places key) → AreRoomy rs places key
roomy-either t m rs key places lies had new = go (maps.get m key) refl
  where
    go : (o : Option Block) → maps.get m key ≡ o → AreRoomy rs places key
    go None is = new is
    go (Some b) is = had key b places is lies

module _ (v : Volume) (t : Tree) (m : Blocks) (ns : List KeptNode) (rs : Marks) (last : ℕ) (h : IsKept v t m ns rs last) where
  -- with more room
  pub kept-room : (more : Marks) → IsRoomier rs more → IsKept v t m ns more last
  kept-room more w = record {
    all_nodes = h.all_nodes;
    counted = h.counted;
    marked = λ node k. w.marks node k ∙ h.marked node k;
    room = room-kept t m rs more w.kept h.room;
    made = h.made;
    each_block = h.each_block;
  }

  -- no number above the last one was drawn
  pub latest-low : (key : Key) → latest_of m key ≤ last
  latest-low key = go (maps.get m key) refl
    where
      go : (o : Option Block) → maps.get m key ≡ o → option_map_or (λ (b : Block). b.latest) o 0 ≤ last
      go None is = omega arith
      go (Some b) is = (h.each_block key b is).drawn

  -- a begun block has a stamp
  pub begun-test : (key : Key) → nat_lt 0 (latest_of m key) ≡ is_some (maps.get m key)
  begun-test key = go (maps.get m key) refl
    where
      go : (o : Option Block) → maps.get m key ≡ o → nat_lt 0 (option_map_or (λ (b : Block). b.latest) o 0) ≡ is_some o
      go None is = refl
      go (Some b) is = lt-ltb 0 b.latest (let low = (h.each_block key b is).begun in omega (arith, low))

  -- a block that was begun stands near
  pub begun-near : (key : Key) → is_some (maps.get m key) ≡ true → key.block < 1048576
  begun-near key there = go (maps.get m key) refl there
    where
      go : (o : Option Block) → maps.get m key ≡ o → is_some o ≡ true → key.block < 1048576
      go None is there = cc
      go (Some b) is there = (h.each_block key b is).near

  module _ (key : Key) (places : List ℕ) (lies : lies_at t key.fid ≡ Some places) (roomy : AreRoomy rs places key) (live : is_some (file_of t key.fid) ≡ true) (near : key.block < 1048576) where
    abbrev newly_begun : Block
    newly_begun = record { latest = last + 1; published = published_of m key }

    used_begun : (node : ℕ) → used_in t (begun m key (last + 1)) node ≡ used_in t m node
    used_begun node =
        cancel (used_in t (begun m key (last + 1)) node) (used_in t m node) (one_if (at_key (lies_on t node) key (maps.get m key))) (one_if (lies_on t node (key, newly_begun)))
        (count-insert (lies_on t node) m key newly_begun) (ap one_if (counts-published t node key (maps.get m key) (last + 1)))

    begun_block : (k : Key) (b : Block) (s : Bool) → eq_by_cmp key_cmp k key ≡ s → cond s (Some newly_begun) (maps.get m k) ≡ Some b → IsBlock t (last + 1) k b
    begun_block k b true on e =
        let same : key ≡ k = sym (exact_keys k key (eq_true _ on)) in
        let is : newly_begun ≡ b = same_Some newly_begun b e in
        let own : IsBlock t (last + 1) key newly_begun = record { live = live; near = near; begun = omega arith; drawn = omega arith } in
        subst (λ (x : Key). IsBlock t (last + 1) x b) same (subst (λ (x : Block). IsBlock t (last + 1) key x) is own)
    begun_block k b false off e = later-block t last k b (h.each_block k b e)

    -- after a begin
    pub kept-begin : IsKept v t (begun m key (last + 1)) ns rs (last + 1)
    kept-begin = record {
      all_nodes = h.all_nodes;
      counted = All-weaker (λ (n : KeptNode). n.used ≡ used_in t m n.spec.sid) (λ (n : KeptNode). n.used ≡ used_in t (begun m key (last + 1)) n.spec.sid) (λ n is. is ∙ sym (used_begun n.spec.sid)) ns h.counted;
      marked = marked-begin t m rs key (last + 1) h.marked;
      room = room-set t m rs key newly_begun places lies roomy h.room;
      made = h.made;
      each_block = λ k b at. begun_block k b (eq_by_cmp key_cmp k key) refl (sym (get-insert keys_total m key newly_begun k) ∙ at);
    }

  module _ (key : Key) (info : FileInfo) (p : Published) (size : ℕ) (live : file_of t key.fid ≡ Some info) (b0 : Block) (there : maps.get m key ≡ Some b0) (short : maps.len m < 2 ^ 64)
      (new : Marks) (remarked : IsRemarked rs new key info.places (published_of (with_published m key p) key)) where
    abbrev u : Tree
    u = grown t key.fid size

    abbrev w : Block
    w = record { latest = latest_of m key; published = Some (newer_of (published_of m key) p) }

    abbrev after : Blocks
    after = with_published m key p

    same : (fid : ℕ) → view u.objects fid ≡ view t.objects fid
    same fid = (grows t key.fid size h.made).views fid

    -- what is published then
    after-is : published_of after key ≡ Some (newer_of (published_of m key) p)
    after-is = ap (option_and_then (λ (b : Block). b.published)) (get-own m key w)

    len_after : maps.len after ≡ maps.len m
    len_after = len-insert keys_total m key w ∙ ap (λ o. cond (is_some o) (maps.len m) (maps.len m + 1)) there

    used_after : (node old : ℕ) → old ≡ used_in t m node → moved (is_named node info.places (published_of m key)) (is_named node info.places (published_of after key)) old ≡ used_in u after node
    used_after node old is =
        let kept : used_in u after node ≡ used_in t after node = used-alike t u after node (λ k b at. same k.fid) in
        let count = count-insert (lies_on t node) m key w in
        let was : at_key (lies_on t node) key (maps.get m key) ≡ is_named node info.places (published_of m key)
        = counts-published t node key (maps.get m key) 0 ∙ counts-live t node key (record { latest = 0; published = published_of m key }) info live in
        let now : lies_on t node (key, w) ≡ is_named node info.places (published_of after key)
        = counts-live t node key w info live ∙ ap (is_named node info.places) (sym after-is) in
        let total = moved_sum (used_in t after node) (used_in t m node) (one_if (at_key (lies_on t node) key (maps.get m key))) (one_if (lies_on t node (key, w)))
        (one_if (is_named node info.places (published_of m key))) (one_if (is_named node info.places (published_of after key))) count (ap one_if was) (ap one_if now) in
        let few : used_in t after node ≤ maps.len after = count-len (lies_on t node) after in
        let low : used_in t after node < 2 ^ 64 = (let most = len_after in omega (arith, few, most, short)) in
        ap (moved (is_named node info.places (published_of m key)) (is_named node info.places (published_of after key))) is
        ∙ moved-count (is_named node info.places (published_of m key)) (is_named node info.places (published_of after key)) (used_in t m node) (used_in t after node) total low
        ∙ sym kept

    after_block : (k : Key) (b : Block) (s : Bool) → eq_by_cmp key_cmp k key ≡ s → cond s (Some w) (maps.get m k) ≡ Some b → IsBlock t last k b
    after_block k b true on e =
        let at : key ≡ k = sym (exact_keys k key (eq_true _ on)) in
        let is : w ≡ b = same_Some w b e in
        let old = h.each_block key b0 there in
        let stamp : latest_of m key ≡ b0.latest = ap (λ o. option_map_or (λ (x : Block). x.latest) o 0) there in
        let own : IsBlock t last key w = record { live = old.live; near = old.near; begun = subst (λ n. 1 ≤ n) (sym stamp) old.begun; drawn = subst (λ n. n ≤ last) (sym stamp) old.drawn } in
        subst (λ (x : Key). IsBlock t last x b) at (subst (λ (x : Block). IsBlock t last key x) is own)
    after_block k b false off e = h.each_block k b e

    lies : lies_at t key.fid ≡ Some info.places
    lies = ap (option_map (λ (i : FileInfo). i.places)) live

    -- the marks are those of what is published then
    marks_after : (l : ℕ) (q : Key) → is_marked new l q ≡ cond (is_place l info.places && is_eq (key_cmp key q)) (is_named l info.places w.published) (is_marked rs l q)
    marks_after l q = remarked.marks l q ∙ ap (λ o. cond (is_place l info.places && is_eq (key_cmp key q)) (is_named l info.places o) (is_marked rs l q)) after-is

    -- there is room for the block
    roomy : AreRoomy new info.places key
    roomy = All-weaker (λ n. has_room rs n key ≡ true) (λ n. has_room new n key ≡ true) (λ n had. remarked.room n key ∙ had) info.places (h.room key b0 info.places there lies)

    -- after an accepted publish
    pub kept-publish : IsKept v u after (map (recounted info.places (published_of m key) (published_of after key)) ns) new last
    kept-publish =
        let f : KeptNode → KeptNode = recounted info.places (published_of m key) (published_of after key) in
        record {
          all_nodes = map-same (λ (n : KeptNode). n.spec) f (λ n. refl) ns ∙ h.all_nodes;
          counted = All-map (λ (n : KeptNode). n.used ≡ used_in u after n.spec.sid) f ns
              (All-weaker (λ (n : KeptNode). n.used ≡ used_in t m n.spec.sid) (λ (n : KeptNode). (f n).used ≡ used_in u after (f n).spec.sid) (λ n is. used_after n.spec.sid n.used is) ns h.counted);
          marked = marked-alike t u after new (λ k b at. same k.fid) (marked-set t m rs new key w info.places (sym (file-view t key.fid) ∙ lies) marks_after h.marked);
          room = room-alike t u after new (λ k b at. same k.fid)
              (room-set t m new key w info.places lies roomy (room-kept t m rs new (λ l q had. remarked.room l q ∙ had) h.room));
          made = (grows t key.fid size h.made).blank;
          each_block = λ k b at. same-block t u last k b (same k.fid) (after_block k b (eq_by_cmp key_cmp k key) refl (sym (get-insert keys_total m key w k) ∙ at));
        }

  -- after a fence
  pub kept-draw : (node : ℕ) (e : Enrolment) → IsKept v t m (map (with_enrolment node e) ns) rs (last + 1)
  kept-draw node e = record {
    all_nodes = specs-set node e ns ∙ h.all_nodes;
    counted = All-map (λ (n : KeptNode). n.used ≡ used_in t m n.spec.sid) (with_enrolment node e) ns
        (All-weaker (λ (n : KeptNode). n.used ≡ used_in t m n.spec.sid) (λ (n : KeptNode). (with_enrolment node e n).used ≡ used_in t m (with_enrolment node e n).spec.sid)
        (λ n is. use-set node e (λ (s : NodeSpec). used_in t m s.sid) n is) ns h.counted);
    marked = h.marked;
    room = h.room;
    made = h.made;
    each_block = λ k b at. later-block t last k b (h.each_block k b at);
  }

abbrev no_blocks : Blocks
no_blocks = maps.empty

abbrev no_objects : FinMap nat_cmp Object
no_objects = maps.empty

-- at first
pub kept-new : (v : Volume) (rs : Marks) (last : ℕ) → ((l : ℕ) (q : Key) → is_marked rs l q ≡ false) → IsKept v empty_tree maps.empty (map new_node (nodes_of v.clusters)) rs last
kept-new v rs last none = record {
  all_nodes = map-undone (λ (n : KeptNode). n.spec) new_node (λ s. refl) (nodes_of v.clusters);
  counted = All-map (λ (n : KeptNode). n.used ≡ used_in empty_tree maps.empty n.spec.sid) new_node (nodes_of v.clusters)
      (λ k d low. none_used (get_or (nodes_of v.clusters) k d).sid);
  marked = marked-new empty_tree rs none;
  room = room-new empty_tree rs;
  made = λ fid up. get-insert nat_cmp_total no_objects 0 new_dir fid
      ∙ ap (λ b. cond b (Some new_dir) (maps.get no_objects fid)) (apart fid 0 (λ is. omega (arith, is, up))) ∙ get-empty nat_cmp fid;
  each_block = λ k b at. (let none : maps.get no_blocks k ≡ None = get-empty key_cmp k in cc);
}
  where
    none_used : (node : ℕ) → (let n : ℕ = 0 in n) ≡ used_in empty_tree no_blocks node
    none_used node =
        let most : used_in empty_tree no_blocks node ≤ maps.len no_blocks = count-len (lies_on empty_tree node) no_blocks in
        let e : maps.len no_blocks ≡ 0 = len-empty key_cmp Block in omega (arith, most, e)

pub held-block : (o : Option Block) → is_some o ≡ true → (b : Block) × (o ≡ Some b)
held-block None there = cc
held-block (Some b) there = (b, refl)
