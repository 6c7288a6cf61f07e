-- What is read meets the rules of a volume.
use Rattle.std.proofs.Common.{◌≡◌, ℕ, ◌+◌, ◌≤◌, Bool, true, false, ◌==◌, ◌&&◌, List, [], ◌∷◌, ◌++◌, length, map, codes, Option, Some, None, Ok, Err, refl, sym, ap, subst, ◌∙◌, arith, length-append}
use Rattle.std.specs.Prelude.{All, nat_eq, nat_lt, nat_le, if◌then◌else◌}
use Rattle.std.specs.List.{IsDistinct, list_any}
use Rattle.std.specs.Cmp.{nat_eq_equiv}
use Rattle.std.proofs.lemmas.List.{append-nil, append_assoc, map-append}
use Rattle.std.proofs.lemmas.List.Elements.{All-nil, All-push}
use Rattle.std.proofs.lemmas.Bool.Decides.{nat_tests}
use Rattle.std.proofs.lemmas.Map.Keys.{IsDistinct-push}
use Rattle.serde_json.specs.Data.{Data, Items, no_items, item}
use Rattle.serde_json.specs.Find.{as_array, get}
use Rattle.mj_angles.specs.declared.layout.Layout.{Layout}
use Rattle.mj_angles.specs.Layout.{safe_of}
use Rattle.rz_events.specs.declared.files.NodeSpec.{NodeSpec}
use Rattle.rz_events.specs.Volume.{Volume, Cluster, nodes_of, IsNode, IsCluster, IsVolume}
use Rattle.rz_config.specs.declared.fault.VolumeCause.{VolumeCause}
use Rattle.rz_config.specs.declared.fault.VolumeCause.TheVariants.{OutOfRange, Twice, TooFewNodes, TooMany}
use Rattle.rz_config.specs.declared.parts.ObjectKind.TheVariants as kinds
use Rattle.rz_config.specs.Described.{Path, Read, fails, ◌>>=◌, refused_if, number_at, number_within, item_count, items_within, list_at, object_at, at_key, at_index, has_sid, has_cid, described_node, nodes_from, described_cid, described_nodes, described_cluster, clusters_from, described_layout, described_clusters, described_volume}

-- a reading of two steps that gives something gives something at each
pub bind_ok : {A B : Type 0} (r : Read A) (f : A → Read B) (y : B) → (r >>= f) ≡ Ok y → (x : A) × (r ≡ Ok x) × (f x ≡ Ok y)
bind_ok (Ok x) f y e = (x, refl, e)
bind_ok (Err fault) f y e = absurd cc

abbrev given : {A : Type 0} → A → Read A
given x = Ok x

same_given : {A : Type 0} (x y : A) → given x ≡ given y → x ≡ y
same_given x y e = cc

pub refused_ok : (b : Bool) (path : Path) (cause : VolumeCause) (u : Unit {0}) → refused_if b path cause ≡ Ok u → b ≡ false
refused_ok true path cause u e = absurd cc
refused_ok false path cause u e = refl

choice_ok : (b : Bool) (m : ℕ) (path : Path) (cause : VolumeCause) (n : ℕ) → (if b then Ok m else fails path cause) ≡ Ok n → (b ≡ true) × (m ≡ n)
choice_ok true m path cause n e = (refl, cc)
choice_ok false m path cause n e = absurd cc

within : (low high m n : ℕ) → (nat_le low m && nat_le m high) ≡ true → m ≡ n → (low ≤ n) × (n ≤ high)
within low high m n t e = (grind (arith, nat_tests), grind (arith, nat_tests))

pub number_ok : (path : Path) (low high : ℕ) (o : Option Data) (n : ℕ) → number_within path low high o ≡ Ok n → (low ≤ n) × (n ≤ high)
unfolding number_within
number_ok path low high o n e =
    let b = bind_ok (number_at path o) (λ (m : ℕ). if nat_le low m && nat_le m high then Ok m else fails path OutOfRange) n e in
    let c = choice_ok (nat_le low b.0 && nat_le b.0 high) b.0 path OutOfRange n b.2 in
    within low high b.0 n c.0 c.1

not_below : (m n : ℕ) → nat_lt m n ≡ false → n ≤ m
not_below m n e = grind (arith, nat_tests)

items_ok : (path : Path) (least : ℕ) (few : VolumeCause) (most : ℕ) (o : Option Items) (ds : Items) → items_within path least few most o ≡ Ok ds → (least ≤ item_count ds) × (item_count ds ≤ most)
items_ok path least few most None ds e = absurd cc
items_ok path least few most (Some xs) ds e =
    let a = bind_ok _ _ _ e in
    let b = bind_ok _ _ _ a.2 in
    let same = same_given xs ds b.2 in
    subst (λ (ys : Items). (least ≤ item_count ys) × (item_count ys ≤ most)) same
    (not_below _ _ (refused_ok _ _ _ _ a.1), not_below _ _ (refused_ok _ _ _ _ b.1))

pub list_ok : (path : Path) (least : ℕ) (few : VolumeCause) (most : ℕ) (o : Option Data) (ds : Items) → list_at path least few most o ≡ Ok ds → (least ≤ item_count ds) × (item_count ds ≤ most)
unfolding list_at
list_ok path least few most None ds e = absurd cc
list_ok path least few most (Some d) ds e = items_ok path least few most (as_array d) ds e

-- ---- lists of numbers

any_of : {X : Type 0} (f : X → ℕ) (n : ℕ) (xs : List X) → list_any (nat_eq n) (map f xs) ≡ list_any (λ x. f x == n) xs
any_of f n [] = refl
any_of f n (x ∷ xs) = rw (nat_eq_equiv.symm n (f x), any_of f n xs) refl

distinct_push : {X : Type 0} (f : X → ℕ) (xs : List X) (y : X) → IsDistinct nat_eq (map f xs) → list_any (λ x. f x == f y) xs ≡ false → IsDistinct nat_eq (map f (xs ++ y ∷ []))
distinct_push f xs y h none = rw map-append (IsDistinct-push nat_eq_equiv (map f xs) (f y) h (any_of f (f y) xs ∙ none))

pub nodes_of-push : (cs : List Cluster) (c : Cluster) → nodes_of (cs ++ c ∷ []) ≡ nodes_of cs ++ c.nodes
nodes_of-push [] c = append-nil c.nodes
nodes_of-push (b ∷ cs) c = ap (λ ns. b.nodes ++ ns) (nodes_of-push cs c) ∙ sym (append_assoc b.nodes (nodes_of cs) c.nodes)

-- ---- nodes

pub record NewNode (before : List NodeSpec) (n : NodeSpec) : Type 0 where
  pub node : IsNode n
  pub first : has_sid n.sid before ≡ false

abbrev after_object : Path → List NodeSpec → Data → Read NodeSpec
after_object path before d = do
  sid ← number_within (at_key path (codes "sid")) 1 65535 (get (codes "sid") d)
  first ← refused_if (has_sid sid before) (at_key path (codes "sid")) Twice
  cells ← number_within (at_key path (codes "cells")) 1 1048576 (get (codes "cells") d)
  Ok (record { sid = sid; cells = cells })

pub node_ok : (path : Path) (before : List NodeSpec) (d : Data) (n : NodeSpec) → described_node path before d ≡ Ok n → NewNode before n
unfolding described_node
node_ok path before d n e =
    let known = bind_ok (object_at path kinds.Node d) (λ (known : Unit {0}). after_object path before d) n e in
    let sid = bind_ok _ _ _ known.2 in
    let first = bind_ok _ _ _ sid.2 in
    let cells = bind_ok _ _ _ first.2 in
    let is = same_given (record { sid = sid.0; cells = cells.0 }) n cells.2 in
    let s = number_ok _ _ _ _ _ sid.1 in
    let c = number_ok _ _ _ _ _ cells.1 in
    subst (NewNode before) is
    (record { node = record { numbered = s.0; least_cells = c.0; most_cells = c.1 }; first = refused_ok _ _ _ _ first.1 })

pub record GoodNodes (clusters : List Cluster) (nodes : List NodeSpec) : Type 0 where
  pub nodes_are : All IsNode nodes
  pub distinct : IsDistinct nat_eq (map (λ n. n.sid) (nodes_of clusters ++ nodes))

nodes_push : (clusters : List Cluster) (nodes : List NodeSpec) (n : NodeSpec) → GoodNodes clusters nodes → NewNode (nodes_of clusters ++ nodes) n → GoodNodes clusters (nodes ++ n ∷ [])
nodes_push clusters nodes n g new =
    record {
      nodes_are = All-push IsNode nodes n g.nodes_are new.node;
      distinct = rw (← append_assoc) (distinct_push (λ (m : NodeSpec). m.sid) (nodes_of clusters ++ nodes) n g.distinct new.first);
    }

pub nodes_ok : (path : Path) (clusters : List Cluster) (i : ℕ) (nodes : List NodeSpec) (ds : Items) (out : List NodeSpec) → GoodNodes clusters nodes → nodes_from path clusters i nodes ds ≡ Ok out → GoodNodes clusters out × (length out ≡ length nodes + item_count ds)
unfolding nodes_from
nodes_ok path clusters i nodes no_items out g e =
    let same = same_given nodes out e in
    (subst (GoodNodes clusters) same g, omega (arith, ap length same))
nodes_ok path clusters i nodes (item d ds) out g e =
    let n = bind_ok (described_node (at_index path i) (nodes_of clusters ++ nodes) d) (λ (m : NodeSpec). nodes_from path clusters (i + 1) (nodes ++ m ∷ []) ds) out e in
    let more = nodes_ok path clusters (i + 1) (nodes ++ n.0 ∷ []) ds out (nodes_push clusters nodes n.0 g (node_ok _ _ _ _ n.1)) n.2 in
    (more.0, omega (arith, more.1, length-append nodes (n.0 ∷ [])))

-- ---- clusters

pub record NewCluster (safe : ℕ) (before : List Cluster) (c : Cluster) : Type 0 where
  pub cluster : IsCluster safe c
  pub first : has_cid c.cid before ≡ false
  pub distinct : IsDistinct nat_eq (map (λ n. n.sid) (nodes_of before ++ c.nodes))

pub record GoodClusters (safe : ℕ) (clusters : List Cluster) : Type 0 where
  pub clusters_are : All (IsCluster safe) clusters
  pub distinct_cids : IsDistinct nat_eq (map (λ c. c.cid) clusters)
  pub distinct_sids : IsDistinct nat_eq (map (λ n. n.sid) (nodes_of clusters))

cid_ok : (path : Path) (before : List Cluster) (d : Data) (cid : ℕ) → described_cid path before d ≡ Ok cid → (1 ≤ cid) × (has_cid cid before ≡ false)
unfolding described_cid
cid_ok path before d cid e =
    let found =
    bind_ok (number_within (at_key path (codes "cid")) 1 65535 (get (codes "cid") d))
    (λ (m : ℕ). refused_if (has_cid m before) (at_key path (codes "cid")) Twice >>= (λ (first : Unit {0}). given m)) cid e
    in
    let first = bind_ok _ _ _ found.2 in
    let same = same_given found.0 cid first.2 in
    let n = number_ok _ _ _ _ _ found.1 in
    subst (λ (m : ℕ). (1 ≤ m) × (has_cid m before ≡ false)) same (n.0, refused_ok _ _ _ _ first.1)

-- so many nodes, after those of the clusters before
record NewNodes (safe : ℕ) (before : List Cluster) (nodes : List NodeSpec) : Type 0 where
  good : GoodNodes before nodes
  enough : safe ≤ length nodes
  few : length nodes ≤ 64

list_of_nodes_ok : (path : Path) (safe : ℕ) (before : List Cluster) (d : Data) (nodes : List NodeSpec) → GoodNodes before [] → described_nodes path safe before d ≡ Ok nodes → NewNodes safe before nodes
unfolding described_nodes
list_of_nodes_ok path safe before d nodes none e =
    let items =
    bind_ok (list_at (at_key path (codes "nodes")) safe TooFewNodes 64 (get (codes "nodes") d))
    (λ (ds : Items). nodes_from (at_key path (codes "nodes")) before 0 [] ds) nodes e
    in
    let count = list_ok _ _ _ _ _ _ items.1 in
    let all = nodes_ok _ before 0 [] items.0 nodes none items.2 in
    record { good = all.0; enough = omega (arith, all.1, count.0); few = omega (arith, all.1, count.1) }

abbrev after_cluster : Path → ℕ → List Cluster → Data → Read Cluster
after_cluster path safe before d = do
  cid ← described_cid path before d
  nodes ← described_nodes path safe before d
  Ok (record { cid = cid; nodes = nodes })

pub cluster_ok : (path : Path) (safe : ℕ) (before : List Cluster) (d : Data) (c : Cluster) → GoodClusters safe before → described_cluster path safe before d ≡ Ok c → NewCluster safe before c
unfolding described_cluster
cluster_ok path safe before d c g e =
    let known = bind_ok (object_at path kinds.Cluster d) (λ (known : Unit {0}). after_cluster path safe before d) c e in
    let cid = bind_ok _ _ _ known.2 in
    let nodes = bind_ok _ _ _ cid.2 in
    let is = same_given (record { cid = cid.0; nodes = nodes.0 }) c nodes.2 in
    let number = cid_ok _ before d cid.0 cid.1 in
    let none : GoodNodes before [] = record { nodes_are = All-nil IsNode; distinct = rw append-nil g.distinct_sids } in
    let new = list_of_nodes_ok _ safe before d nodes.0 none nodes.1 in
    subst (NewCluster safe before) is
    (record {
      cluster = record { numbered = number.0; enough_nodes = new.enough; few_nodes = new.few; nodes = new.good.nodes_are };
      first = number.1;
      distinct = new.good.distinct;
    })

clusters_push : (safe : ℕ) (clusters : List Cluster) (c : Cluster) → GoodClusters safe clusters → NewCluster safe clusters c → GoodClusters safe (clusters ++ c ∷ [])
clusters_push safe clusters c g new =
    record {
      clusters_are = All-push (IsCluster safe) clusters c g.clusters_are new.cluster;
      distinct_cids = distinct_push (λ (b : Cluster). b.cid) clusters c g.distinct_cids new.first;
      distinct_sids = rw nodes_of-push new.distinct;
    }

pub clusters_ok : (path : Path) (safe i : ℕ) (clusters : List Cluster) (ds : Items) (out : List Cluster) → GoodClusters safe clusters → clusters_from path safe i clusters ds ≡ Ok out → GoodClusters safe out × (length out ≡ length clusters + item_count ds)
unfolding clusters_from
clusters_ok path safe i clusters no_items out g e =
    let same = same_given clusters out e in
    (subst (GoodClusters safe) same g, omega (arith, ap length same))
clusters_ok path safe i clusters (item d ds) out g e =
    let c = bind_ok (described_cluster (at_index path i) safe clusters d) (λ (b : Cluster). clusters_from path safe (i + 1) (clusters ++ b ∷ []) ds) out e in
    let more = clusters_ok path safe (i + 1) (clusters ++ c.0 ∷ []) ds out (clusters_push safe clusters c.0 g (cluster_ok _ _ _ _ _ g c.1)) c.2 in
    (more.0, omega (arith, more.1, length-append clusters (c.0 ∷ [])))

no_clusters : (safe : ℕ) → GoodClusters safe []
unfolding IsDistinct
no_clusters safe = record { clusters_are = All-nil (IsCluster safe); distinct_cids = tt; distinct_sids = tt }

-- the clusters of a list of few
pub record FewClusters (safe : ℕ) (clusters : List Cluster) : Type 0 where
  pub good : GoodClusters safe clusters
  pub some : 1 ≤ length clusters
  pub few : length clusters ≤ 16

pub few_ok : (path : Path) (cause : VolumeCause) (safe : ℕ) (o : Option Data) (ds : Items) (out : List Cluster) → list_at path 1 cause 16 o ≡ Ok ds → clusters_from path safe 0 [] ds ≡ Ok out → FewClusters safe out
few_ok path cause safe o ds out listed e =
    let count = list_ok path 1 cause 16 o ds listed in
    let all = clusters_ok path safe 0 [] ds out (no_clusters safe) e in
    record { good = all.0; some = omega (arith, all.1, count.0); few = omega (arith, all.1, count.1) }

-- ---- the volume

record AllClusters (safe : ℕ) (clusters : List Cluster) : Type 0 where
  are : FewClusters safe clusters
  few_nodes : length (nodes_of clusters) ≤ 256

abbrev after_list : ℕ → Items → Read (List Cluster)
after_list safe items = do
  clusters ← clusters_from (codes "clusters") safe 0 [] items
  within ← refused_if (nat_lt 256 (length (nodes_of clusters))) (codes "clusters") TooMany
  Ok clusters

all_ok : (safe : ℕ) (d : Data) (out : List Cluster) → described_clusters safe d ≡ Ok out → AllClusters safe out
unfolding described_clusters
all_ok safe d out e =
    let items = bind_ok (list_at (codes "clusters") 1 OutOfRange 16 (get (codes "clusters") d)) (λ (ds : Items). after_list safe ds) out e in
    let clusters = bind_ok _ _ _ items.2 in
    let few = bind_ok _ _ _ clusters.2 in
    let is = same_given clusters.0 out few.2 in
    subst (AllClusters safe) is
    (record {
      are = few_ok _ _ safe _ items.0 clusters.0 items.1 clusters.1;
      few_nodes = not_below _ _ (refused_ok _ _ _ _ few.1);
    })

abbrev with_layout : Layout → List Cluster → Volume
with_layout y clusters = record { layout = y; clusters = clusters }

abbrev after_layout : Layout → Data → Read Volume
after_layout y d = described_clusters (safe_of y) d >>= (λ (clusters : List Cluster). given (with_layout y clusters))

abbrev after_volume : Data → Read Volume
after_volume d = described_layout d >>= (λ (y : Layout). after_layout y d)

pub volume_ok : (d : Data) (v : Volume) → described_volume d ≡ Ok v → IsVolume v
unfolding described_volume
volume_ok d v e =
    let known = bind_ok (object_at [] kinds.Volume d) (λ (known : Unit {0}). after_volume d) v e in
    let y = bind_ok (described_layout d) (λ (y : Layout). after_layout y d) v known.2 in
    let clusters = bind_ok (described_clusters (safe_of y.0) d) (λ (cs : List Cluster). given (with_layout y.0 cs)) v y.2 in
    let is = same_given (with_layout y.0 clusters.0) v clusters.2 in
    let all = all_ok (safe_of y.0) d clusters.0 clusters.1 in
    subst IsVolume is
    (record {
      some_cluster = all.are.some;
      few_clusters = all.are.few;
      clusters = all.are.good.clusters_are;
      distinct_cids = all.are.good.distinct_cids;
      distinct_sids = all.are.good.distinct_sids;
      few_nodes = all.few_nodes;
    })
