-- The marks of blocks in the lists of the nodes, after each change of an export.
use Rattle.std.proofs.Common.{◌≡◌, ℕ, ◌+◌, Bool, true, false, cond, not, ◌==◌, ◌&&◌, ◌||◌, List, [], ◌∷◌, Option, Some, None, Ordering, sym, ap, ◌∙◌, subst, refl, eqb-true}
use Rattle.std.specs.Option.{option_and_then}
use Rattle.std.specs.Ordering.{is_eq, eq_by_cmp, ordering_reverse}
use Rattle.std.specs.declared.cmp.Ordering.TheVariants.{Less, Equal, Greater}
use Rattle.std.specs.FinMap as maps
use Rattle.std.specs.FinMap.{get-insert, get-empty}
use Rattle.std.proofs.lemmas.List.Elements.{All-weaker}
use Rattle.std.proofs.lemmas.Option.{same_Some}
use Rattle.rz_events.specs.Keys.{key_cmp, keys_total, exact_keys}
use Rattle.rz_events.specs.declared.keys.Key.{Key}
use Rattle.rz_events.specs.declared.files.Published.{Published}
use Rattle.rz_blocks.specs.declared.row.Row.{Row}
use Rattle.rz_blocks.specs.Marks.{is_marked, has_room}
use Rattle.rz_export_model.specs.Tree.{Tree}
use Rattle.rz_export_model.specs.Export.{Block, Blocks, published_of, begun, without_file, names_node}
use Rattle.rz_events.specs.Masks.{has_bit}
use Rattle.rz_export.specs.Nodes.{is_named}
use Rattle.rz_export.specs.Kept.{lies_on, lies_at, is_place, AreMarked, AreRoomy, HaveRoom}
use Rattle.rz_export_model.proofs.Files.{view}
use Rattle.rz_export.proofs.Counts.{at_key}
use Rattle.rz_export.proofs.Used.{counts_at, counts-view, file-view}
use Rattle.rz_export_model.proofs.Forgets.{get-without}
use Rattle.rz_export_model.proofs.Tests.{eq_true}

abbrev pub Marks : Type 0
Marks = List Row

-- ---- tests

pub and_false : (b : Bool) → (b && false) ≡ false
and_false true = refl
and_false false = refl

or_off : (a b : Bool) → (a || b) ≡ false → (a ≡ false) × (b ≡ false)
or_off true b h = cc
or_off false b h = (refl, h)

reversed : (r : Ordering) → is_eq (ordering_reverse r) ≡ is_eq r
reversed Less = refl
reversed Equal = refl
reversed Greater = refl

-- keys are one from either side
one_key : (a b : Key) → is_eq (key_cmp a b) ≡ is_eq (key_cmp b a)
one_key a b = ap is_eq (keys_total.antisymm a b) ∙ reversed (key_cmp b a)

unnamed_from : (node mask i : ℕ) (places : List ℕ) → is_place node places ≡ false → names_node node mask i places ≡ false
unnamed_from node mask i [] off = refl
unnamed_from node mask i (n ∷ places) off =
    let parts : ((n == node) ≡ false) × (is_place node places ≡ false) = or_off (n == node) (is_place node places) off in
    ap (λ t. (t && has_bit mask i) || names_node node mask (i + 1) places) parts.0 ∙ unnamed_from node mask (i + 1) places parts.1

-- a node where the file does not lie is not named
pub unnamed : (node : ℕ) (places : List ℕ) (o : Option Published) → is_place node places ≡ false → is_named node places o ≡ false
unnamed node places None off = refl
unnamed node places (Some p) off = unnamed_from node p.mask 0 places off

-- ---- marks by where files lie and what is published

lies-view : (t : Tree) (m : Blocks) (node : ℕ) (k : Key) → at_key (lies_on t node) k (maps.get m k) ≡ counts_at node (view t.objects k.fid) (published_of m k)
lies-view t m node k = go (maps.get m k)
  where
    none : (o : Option (List ℕ)) → false ≡ counts_at node o None
    none None = refl
    none (Some places) = refl

    go : (o : Option Block) → at_key (lies_on t node) k o ≡ counts_at node (view t.objects k.fid) (option_and_then (λ b. b.published) o)
    go None = none (view t.objects k.fid)
    go (Some b) = counts-view t node k b

pub seen-mark : (t : Tree) (m : Blocks) (rs : Marks) → AreMarked t m rs → (node : ℕ) (k : Key) → is_marked rs node k ≡ counts_at node (view t.objects k.fid) (published_of m k)
seen-mark t m rs marked node k = marked node k ∙ lies-view t m node k

pub told-mark : (t : Tree) (m : Blocks) (rs : Marks) (node : ℕ) (k : Key) → is_marked rs node k ≡ counts_at node (view t.objects k.fid) (published_of m k)
    → is_marked rs node k ≡ at_key (lies_on t node) k (maps.get m k)
told-mark t m rs node k is = is ∙ sym (lies-view t m node k)

published-set : (m : Blocks) (key : Key) (b : Block) (k : Key) → published_of (maps.insert m key b) k ≡ cond (eq_by_cmp key_cmp k key) b.published (published_of m k)
published-set m key b k = ap (option_and_then (λ (x : Block). x.published)) (get-insert keys_total m key b k) ∙ go (eq_by_cmp key_cmp k key)
  where
    go : (s : Bool) → option_and_then (λ (x : Block). x.published) (cond s (Some b) (maps.get m k)) ≡ cond s b.published (published_of m k)
    go true = refl
    go false = refl

-- ---- a begin

pub marked-begin : (t : Tree) (m : Blocks) (rs : Marks) (key : Key) (n : ℕ) → AreMarked t m rs → AreMarked t (begun m key n) rs
marked-begin t m rs key n marked node k =
    told-mark t (begun m key n) rs node k (seen-mark t m rs marked node k ∙ ap (counts_at node (view t.objects k.fid)) (sym same))
  where
    go : (s : Bool) → eq_by_cmp key_cmp k key ≡ s → cond s (published_of m key) (published_of m k) ≡ published_of m k
    go true on = ap (published_of m) (sym (exact_keys k key (eq_true _ on)))
    go false off = refl

    same : published_of (begun m key n) k ≡ published_of m k
    same = published-set m key (record { latest = n; published = published_of m key }) k ∙ go (eq_by_cmp key_cmp k key) refl

-- where no room goes
pub room-kept : (t : Tree) (m : Blocks) (old new : Marks) → ((l : ℕ) (q : Key) → has_room old l q ≡ true → has_room new l q ≡ true) → HaveRoom t m old → HaveRoom t m new
room-kept t m old new more room k b places at lies =
    All-weaker (λ n. has_room old n k ≡ true) (λ n. has_room new n k ≡ true) (λ n. more n k) places (room k b places at lies)

-- a block that has room
pub room-set : (t : Tree) (m : Blocks) (rs : Marks) (key : Key) (b : Block) (places : List ℕ) → lies_at t key.fid ≡ Some places → AreRoomy rs places key → HaveRoom t m rs
    → HaveRoom t (maps.insert m key b) rs
room-set t m rs key b places lies roomy room k x ps at there = go (eq_by_cmp key_cmp k key) refl (sym (get-insert keys_total m key b k) ∙ at)
  where
    go : (s : Bool) → eq_by_cmp key_cmp k key ≡ s → cond s (Some b) (maps.get m k) ≡ Some x → AreRoomy rs ps k
    go true on e =
        let same : key ≡ k = sym (exact_keys k key (eq_true _ on)) in
        let own : places ≡ ps = same_Some places ps (sym lies ∙ ap (λ (y : Key). lies_at t y.fid) same ∙ there) in
        subst (λ (y : Key). AreRoomy rs ps y) same (subst (λ (l : List ℕ). AreRoomy rs l key) own roomy)
    go false off e = room k x ps e there

-- ---- a publish

module _ (t : Tree) (m : Blocks) (old new : Marks) (key : Key) (b : Block) (places : List ℕ) (lies : view t.objects key.fid ≡ Some places)
    (set : (l : ℕ) (q : Key) → is_marked new l q ≡ cond (is_place l places && is_eq (key_cmp key q)) (is_named l places b.published) (is_marked old l q)) where
  pub marked-set : AreMarked t m old → AreMarked t (maps.insert m key b) new
  marked-set marked node k =
      told-mark t (maps.insert m key b) new node k
      (set node k ∙ go (eq_by_cmp key_cmp k key) refl ∙ ap (counts_at node (view t.objects k.fid)) (sym (published-set m key b k)))
    where
      at : k ≡ key → (p : Bool) → is_place node places ≡ p → cond (p && true) (is_named node places b.published) (is_marked old node k) ≡ is_named node places b.published
      at same true on = refl
      at same false off =
          seen-mark t m old marked node k ∙ ap (λ v. counts_at node v (published_of m k)) (ap (λ (x : Key). view t.objects x.fid) same ∙ lies)
          ∙ unnamed node places (published_of m k) off ∙ sym (unnamed node places b.published off)

      go : (s : Bool) → eq_by_cmp key_cmp k key ≡ s
          → cond (is_place node places && is_eq (key_cmp key k)) (is_named node places b.published) (is_marked old node k) ≡ counts_at node (view t.objects k.fid) (cond s b.published (published_of m k))
      go true on =
          let same : k ≡ key = exact_keys k key (eq_true _ on) in
          ap (λ e. cond (is_place node places && e) (is_named node places b.published) (is_marked old node k)) (one_key key k ∙ on)
          ∙ at same (is_place node places) refl
          ∙ sym (ap (λ v. counts_at node v b.published) (ap (λ (x : Key). view t.objects x.fid) same ∙ lies))
      go false off =
          ap (λ e. cond (is_place node places && e) (is_named node places b.published) (is_marked old node k)) (one_key key k ∙ off)
          ∙ ap (λ e. cond e (is_named node places b.published) (is_marked old node k)) (and_false (is_place node places))
          ∙ seen-mark t m old marked node k

-- ---- where the files of the blocks lie as before

pub marked-alike : (t u : Tree) (m : Blocks) (rs : Marks) → ((k : Key) (b : Block) → maps.get m k ≡ Some b → view u.objects k.fid ≡ view t.objects k.fid) → AreMarked t m rs → AreMarked u m rs
marked-alike t u m rs same marked node k = marked node k ∙ go (maps.get m k) refl
  where
    go : (o : Option Block) → maps.get m k ≡ o → at_key (lies_on t node) k o ≡ at_key (lies_on u node) k o
    go None is = refl
    go (Some b) is = counts-view t node k b ∙ ap (λ o. counts_at node o b.published) (sym (same k b is)) ∙ sym (counts-view u node k b)

pub room-alike : (t u : Tree) (m : Blocks) (rs : Marks) → ((k : Key) (b : Block) → maps.get m k ≡ Some b → view u.objects k.fid ≡ view t.objects k.fid) → HaveRoom t m rs → HaveRoom u m rs
room-alike t u m rs same room k b places at lies = room k b places at (file-view t k.fid ∙ sym (same k b at) ∙ sym (file-view u k.fid) ∙ lies)

-- ---- a file that goes

module _ (m : Blocks) (old new : Marks) (places : List ℕ) (fid : ℕ) where
  pub marked-gone : ((l : ℕ) (q : Key) → is_marked new l q ≡ (not (is_place l places && (q.fid == fid)) && is_marked old l q))
      → (t : Tree) → lies_at t fid ≡ Some places → AreMarked t m old → AreMarked t (without_file m fid) new
  marked-gone marks t lies marked node k = marks node k ∙ go (k.fid == fid) refl ∙ sym (ap (at_key (lies_on t node) k) (get-without m fid k))
    where
      at : k.fid ≡ fid → (p : Bool) → is_place node places ≡ p → (not (p && true) && is_marked old node k) ≡ false
      at own true on = refl
      at own false off =
          seen-mark t m old marked node k ∙ ap (λ v. counts_at node v (published_of m k)) (ap (view t.objects) own ∙ sym (file-view t fid) ∙ lies)
          ∙ unnamed node places (published_of m k) off

      go : (s : Bool) → (k.fid == fid) ≡ s
          → (not (is_place node places && (k.fid == fid)) && is_marked old node k) ≡ at_key (lies_on t node) k (cond (not (k.fid == fid)) (maps.get m k) None)
      go true on =
          ap (λ s. not (is_place node places && s) && is_marked old node k) on ∙ at (eqb-true k.fid fid on) (is_place node places) refl
          ∙ sym (ap (λ s. at_key (lies_on t node) k (cond (not s) (maps.get m k) None)) on)
      go false off =
          ap (λ s. not (is_place node places && s) && is_marked old node k) off ∙ ap (λ e. not e && is_marked old node k) (and_false (is_place node places))
          ∙ marked node k ∙ sym (ap (λ s. at_key (lies_on t node) k (cond (not s) (maps.get m k) None)) off)

  pub room-gone : ((l : ℕ) (q : Key) → has_room new l q ≡ (not (is_place l places && (q.fid == fid)) && has_room old l q)) → (t : Tree) → HaveRoom t m old → HaveRoom t (without_file m fid) new
  room-gone rooms t room k b ps at lies = go (k.fid == fid) refl (sym (get-without m fid k) ∙ at)
    where
      go : (s : Bool) → (k.fid == fid) ≡ s → cond (not s) (maps.get m k) None ≡ Some b → AreRoomy new ps k
      go true on e = cc
      go false off e =
          All-weaker (λ n. has_room old n k ≡ true) (λ n. has_room new n k ≡ true)
          (λ n had. rooms n k ∙ ap (λ s. not (is_place n places && s) && has_room old n k) off ∙ ap (λ x. not x && has_room old n k) (and_false (is_place n places)) ∙ had)
          ps (room k b ps e lies)

-- ---- at first

pub marked-new : (t : Tree) (rs : Marks) → ((l : ℕ) (q : Key) → is_marked rs l q ≡ false) → AreMarked t maps.empty rs
marked-new t rs none node k = none node k ∙ sym (ap (at_key (lies_on t node) k) (get-empty key_cmp k))

pub room-new : (t : Tree) (rs : Marks) → HaveRoom t maps.empty rs
room-new t rs k b places at lies = absurd (let never : (let o : Option Block = None in o) ≡ Some b = sym (get-empty key_cmp k) ∙ at in cc)
