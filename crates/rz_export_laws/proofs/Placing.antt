-- Where a new file goes it may lie: on as many nodes of one cluster as the layout has positions, no two alike.
use Rattle.std.proofs.Common.{◌≡◌, ◌==◌, ◌&&◌, ◌||◌, ◌<◌, ◌≤◌, ◌+◌, ℕ, zero, suc, Bool, true, false, cond, List, [], ◌∷◌, ◌++◌, length, map, take, drop, All, nat_eq, refl, sym, ◌∙◌, ap, subst, arith, eq-eqb}
use Rattle.std.proofs.lemmas.Bool.Decides.{nat_tests}
use Rattle.std.specs.List.{AllByRecursion, IsDistinct, list_any, list_all}
use Rattle.mj_angles.specs.Layout.{safe_of}
use Rattle.rz_events.specs.Volume.{Volume, Cluster, nodes_of, IsCluster, IsVolume}
use Rattle.rz_events.specs.declared.files.NodeSpec.{NodeSpec}
use Rattle.rz_export_model.specs.Place.{NodeRoom, Rooms, rooms_of, clusters_of, is_better, best_of, is_before, at_its_place, in_order, placed_in, placed_among}
use Rattle.rz_export_model.specs.Tree.{new_file}
use Rattle.rz_export_model.specs.Export.{Export, new_places, free_of}
use Rattle.rz_export_model.proofs.Rooms.{sids, all-insert, all-order, all-take, long-insert, long-order, long-take, rooms-sids, rooms-long, long-both, long-drop, best-of, clusters-long, map-long, all-there}
use Rattle.rz_export.specs.Building.{LiesIn, is_home}

abbrev sids_of : Cluster → List ℕ
sids_of c = map (λ n. n.sid) c.nodes

turned : (a b : ℕ) → nat_eq a b ≡ false → nat_eq b a ≡ false
turned a b h = grind (arith, nat_tests)

-- ---- the rooms of a cluster, in order

all-other : (m : ℕ) (ns : List ℕ) → AllByRecursion (λ z. nat_eq m z ≡ false) ns → AllByRecursion (λ z. nat_eq z m ≡ false) ns
all-other m [] all = tt
all-other m (n ∷ ns) all = (turned m n all.0, all-other m ns all.1)

distinct-insert : (n : NodeRoom) (ms : List NodeRoom) → AllByRecursion (λ z. nat_eq n.sid z ≡ false) (sids ms) → IsDistinct nat_eq (sids ms) → IsDistinct nat_eq (sids (at_its_place n ms))
unfolding IsDistinct
distinct-insert n [] fresh distinct = (tt, tt)
distinct-insert n (m ∷ ms) fresh distinct = go (is_before n m) (distinct-insert n ms fresh.1 distinct.1)
  where
    go : (b : Bool) → IsDistinct nat_eq (sids (at_its_place n ms)) → IsDistinct nat_eq (sids (cond b (n ∷ m ∷ ms) (m ∷ at_its_place n ms)))
    go true rest = (fresh, distinct)
    go false rest = (all-insert (λ z. nat_eq m.sid z ≡ false) n ms (turned n.sid m.sid fresh.0) distinct.0, rest)

distinct-order : (ns : List NodeRoom) → IsDistinct nat_eq (sids ns) → IsDistinct nat_eq (sids (in_order ns))
unfolding IsDistinct
distinct-order [] all = tt
distinct-order (n ∷ ns) all = distinct-insert n (in_order ns) (all-order (λ z. nat_eq n.sid z ≡ false) ns all.0) (distinct-order ns all.1)

distinct-take : (k : ℕ) (ns : List NodeRoom) → IsDistinct nat_eq (sids ns) → IsDistinct nat_eq (sids (take k ns))
unfolding IsDistinct
distinct-take zero ns all = tt
distinct-take (suc k) [] all = tt
distinct-take (suc k) (n ∷ ns) all = (all-take (λ z. nat_eq n.sid z ≡ false) k ns all.0, distinct-take k ns all.1)

-- ---- the rooms are those of a cluster of the volume

-- a cluster has enough nodes, and no two of one number
record IsWide (safe : ℕ) (c : Cluster) : Type 0 where
  enough : safe ≤ length c.nodes
  distinct : IsDistinct nat_eq (sids_of c)

-- what some cluster meets, one of these meets
abbrev HasCluster : List Cluster → Cluster → Type 0
HasCluster cs c = (test : Cluster → Bool) → test c ≡ true → list_any test cs ≡ true

-- rooms of such a cluster, which is one of the volume
record AreOf (v : Volume) (r : Rooms) : Type 0 where
  cluster : Cluster
  there : HasCluster v.clusters cluster
  wide : IsWide (safe_of v.layout) cluster
  number : r.cid ≡ cluster.cid
  nodes : sids r.nodes ≡ sids_of cluster
  many : length r.nodes ≡ length cluster.nodes

either : (a b : Bool) → b ≡ true → (a || b) ≡ true
either true b h = refl
either false b h = h

first : (a b : Bool) → a ≡ true → (a || b) ≡ true
first true b h = refl
first false b h = absurd (let never : false ≡ true = h in cc)

has-first : (c : Cluster) (cs : List Cluster) → HasCluster (c ∷ cs) c
has-first c cs test h = first (test c) (list_any test cs) h

has-later : (d : Cluster) (cs : List Cluster) (c : Cluster) → HasCluster cs c → HasCluster (d ∷ cs) c
has-later d cs c has test h = either (test d) (list_any test cs) (has test h)

rooms-of : (v : Volume) (cs : List Cluster) (free : List ℕ) → length free ≡ length (nodes_of cs) → AllByRecursion (IsWide (safe_of v.layout)) cs
    → ((c : Cluster) → HasCluster cs c → HasCluster v.clusters c) → AllByRecursion (AreOf v) (clusters_of cs free)
rooms-of v [] free many all in_volume = tt
rooms-of v (c ∷ cs) free many all in_volume =
    let both = long-both c.nodes (nodes_of cs) in
    let few : length c.nodes ≤ length free = omega (arith, many, both) in
    let rest = long-drop (length c.nodes) free few in (
      record { cluster = c; there = in_volume c (has-first c cs); wide = all.0; number = refl; nodes = rooms-sids c.nodes free few; many = rooms-long c.nodes free few },
      rooms-of v cs (drop (length c.nodes) free) (omega (arith, many, both, rest)) all.1 (λ d has. in_volume d (has-later c cs d has)),
    )

-- ---- the places

abbrev stands_in : List NodeSpec → ℕ → Bool
stands_in ns node = list_any (λ n. n.sid == node) ns

all-stand : (ns ms : List NodeSpec) → ((node : ℕ) → stands_in ns node ≡ true → stands_in ms node ≡ true) → AllByRecursion (λ node. stands_in ms node ≡ true) (map (λ n. n.sid) ns)
all-stand [] ms has = tt
all-stand (n ∷ ns) ms has = (
  has n.sid (first (n.sid == n.sid) (stands_in ns n.sid) (eq-eqb n.sid n.sid refl)),
  all-stand ns ms (λ node is. has node (either (n.sid == node) (stands_in ns node) is)),
)

as-test : (test : ℕ → Bool) (ns : List ℕ) → AllByRecursion (λ n. test n ≡ true) ns → list_all test ns ≡ true
as-test test [] all = refl
as-test test (n ∷ ns) all = ap (λ b. b && list_all test ns) all.0 ∙ as-test test ns all.1

lies-placed : (v : Volume) (r : Rooms) → AreOf v r → LiesIn v (new_file (placed_in (safe_of v.layout) r).cid (placed_in (safe_of v.layout) r).places)
lies-placed v r is =
    let safe = safe_of v.layout in
    let l = long-order r.nodes in
    let few = is.wide.enough in
    let many = is.many in
    let nodes = is.cluster.nodes in
    let distinct = subst (IsDistinct nat_eq) (sym is.nodes) is.wide.distinct in
    let own : AllByRecursion (λ node. stands_in nodes node ≡ true) (sids r.nodes)
    = subst (AllByRecursion (λ node. stands_in nodes node ≡ true)) (sym is.nodes) (all-stand nodes nodes (λ node h. h)) in
    let all = all-take (λ node. stands_in nodes node ≡ true) safe (in_order r.nodes) (all-order (λ node. stands_in nodes node ≡ true) r.nodes own) in
    let here : is_home r.cid (sids (take safe (in_order r.nodes))) is.cluster ≡ true
    = ap (λ b. b && list_all (stands_in nodes) (sids (take safe (in_order r.nodes)))) (eq-eqb is.cluster.cid r.cid (sym is.number))
    ∙ as-test (stands_in nodes) (sids (take safe (in_order r.nodes))) all in
    record {
      home = is.there (is_home r.cid (sids (take safe (in_order r.nodes)))) here;
      all_places = long-take safe (in_order r.nodes) (omega (arith, l, few, many));
      distinct = distinct-take safe (in_order r.nodes) (distinct-order r.nodes distinct);
      short = omega arith;
    }

lies-among : (v : Volume) (rs : List Rooms) → 0 < length rs → AllByRecursion (AreOf v) rs → LiesIn v (new_file (placed_among (safe_of v.layout) rs).cid (placed_among (safe_of v.layout) rs).places)
lies-among v [] some all = absurd (omega (arith, some))
lies-among v (r ∷ rs) some all = lies-placed v (best_of r rs) (best-of (AreOf v) r rs all.0 all.1)

-- ---- volumes

front : (P : ℕ → Type 0) (ns ms : List NodeSpec) → AllByRecursion P (map (λ n. n.sid) (ns ++ ms)) → AllByRecursion P (map (λ n. n.sid) ns)
front P [] ms all = tt
front P (n ∷ ns) ms all = (all.0, front P ns ms all.1)

distinct-left : (ns ms : List NodeSpec) → IsDistinct nat_eq (map (λ n. n.sid) (ns ++ ms)) → IsDistinct nat_eq (map (λ n. n.sid) ns)
unfolding IsDistinct
distinct-left [] ms all = tt
distinct-left (n ∷ ns) ms all = (front (λ z. nat_eq n.sid z ≡ false) ns ms all.0, distinct-left ns ms all.1)

distinct-right : (ns ms : List NodeSpec) → IsDistinct nat_eq (map (λ n. n.sid) (ns ++ ms)) → IsDistinct nat_eq (map (λ n. n.sid) ms)
unfolding IsDistinct
distinct-right [] ms all = all
distinct-right (n ∷ ns) ms all = distinct-right ns ms all.1

wide-all : (safe : ℕ) (cs : List Cluster) → AllByRecursion (IsCluster safe) cs → IsDistinct nat_eq (map (λ n. n.sid) (nodes_of cs)) → AllByRecursion (IsWide safe) cs
wide-all safe [] all distinct = tt
wide-all safe (c ∷ cs) all distinct = (
  record { enough = all.0.enough_nodes; distinct = distinct-left c.nodes (nodes_of cs) distinct },
  wide-all safe cs all.1 (distinct-right c.nodes (nodes_of cs) distinct),
)

wide : (v : Volume) → IsVolume v → AllByRecursion (IsWide (safe_of v.layout)) v.clusters
wide v is = wide-all (safe_of v.layout) v.clusters (all-there (IsCluster (safe_of v.layout)) v.clusters is.clusters) is.distinct_sids

-- a new file lies in the volume
pub lies-new : (s : Export) → IsVolume s.volume → LiesIn s.volume (new_file (new_places s).cid (new_places s).places)
lies-new s volume =
    let v = s.volume in
    let l = clusters-long v.clusters (free_of s) in
    let some = volume.some_cluster in
    lies-among v (clusters_of v.clusters (free_of s)) (omega (arith, l, some))
    (rooms-of v v.clusters (free_of s) (map-long _ (nodes_of v.clusters)) (wide v volume) (λ c has. has))
