-- The value of a volume is read as that volume.
use Rattle.std.proofs.Common.{◌≡◌, ℕ, suc, ◌+◌, ◌≤◌, true, false, ◌==◌, ◌&&◌, List, [], ◌∷◌, ◌++◌, length, map, codes, Some, Ok, refl, sym, ap, ◌∙◌, arith}
use Rattle.std.specs.Prelude.{All, nat_eq, nat_lt, nat_le}
use Rattle.std.specs.List.{IsDistinct, AllByRecursion, list_any}
use Rattle.std.proofs.lemmas.List.{append-nil, append_assoc}
use Rattle.std.proofs.lemmas.List.Elements.{All-head, All-tail}
use Rattle.std.proofs.lemmas.Bool.Decides.{nat_tests}
use Rattle.serde_json.specs.Data.{Data, number, unsigned, array}
use Rattle.serde_json.specs.View.{items_of}
use Rattle.serde_json.proofs.OnLiterals.{serde_json_on_literals}
use Rattle.mj_angles.specs.declared.layout.Layout.{Layout}
use Rattle.mj_angles.specs.declared.layout.Layout.TheVariants.{L0, L1, L2, L0B1, L0B2, L0B3, L1B1, L1B2, L1B3, L2B1, L2B2, L2B3}
use Rattle.mj_angles.specs.Layout.{number_of, block_bytes_of, safe_of}
use Rattle.rz_events.specs.declared.files.NodeSpec.{NodeSpec}
use Rattle.rz_events.specs.Volume.{Volume, Cluster, nodes_of, IsNode, IsCluster, IsVolume}
use Rattle.rz_config.specs.declared.fault.VolumeCause.{VolumeCause}
use Rattle.rz_config.specs.declared.fault.VolumeCause.TheVariants.{OutOfRange, TooFewNodes}
use Rattle.rz_config.specs.declared.parts.ObjectKind.TheVariants as kinds
use Rattle.rz_config.specs.Described.{Path, number_at, number_within, item_count, list_at, object_at, at_key, at_index, has_sid, has_cid, layout_of, described_node, nodes_from, described_cid, described_nodes, described_cluster, clusters_from, described_layout, described_clusters, described_volume}
use Rattle.rz_store_file.specs.Written.{node_data, cluster_data, volume_data, AreSmall, IsSmall}

-- ---- numbers and lists

within_true : (low high n : ℕ) → low ≤ n → n ≤ high → (nat_le low n && nat_le n high) ≡ true
within_true low high n a b = grind (arith, nat_tests)

above : (m n : ℕ) → n ≤ m → nat_lt m n ≡ false
above m n h = grind (arith, nat_tests)

number_back : (path : Path) (low high n : ℕ) → low ≤ n → n ≤ high → number_within path low high (Some (number (unsigned n))) ≡ Ok n
unfolding number_within number_at
number_back path low high n a b = rw (within_true low high n a b) refl

count_of : {X : Type 0} (f : X → Data) (xs : List X) → item_count (items_of (map f xs)) ≡ length xs
count_of f [] = refl
count_of f (x ∷ xs) = ap suc (count_of f xs)

list_back : {X : Type 0} (f : X → Data) (xs : List X) (path : Path) (least : ℕ) (few : VolumeCause) (most : ℕ) → least ≤ length xs → length xs ≤ most
    → list_at path least few most (Some (array (items_of (map f xs)))) ≡ Ok (items_of (map f xs))
unfolding list_at
list_back f xs path least few most a b = rw (count_of f xs, above (length xs) least a, above most (length xs) b) refl

-- ---- distinct numbers

in_middle : {X : Type 0} (P : ℕ → Type 0) (f : X → ℕ) (xs : List X) (y : X) (ys : List X) → AllByRecursion P (map f (xs ++ y ∷ ys)) → P (f y)
in_middle P f [] y ys h = h.0
in_middle P f (x ∷ xs) y ys h = in_middle P f xs y ys h.1

at_front : {X : Type 0} (P : ℕ → Type 0) (f : X → ℕ) (xs ys : List X) → AllByRecursion P (map f (xs ++ ys)) → AllByRecursion P (map f xs)
at_front P f [] ys h = tt
at_front P f (x ∷ xs) ys h = (h.0, at_front P f xs ys h.1)

-- none before it has its number
pub none_before : {X : Type 0} (f : X → ℕ) (xs : List X) (y : X) (ys : List X) → IsDistinct nat_eq (map f (xs ++ y ∷ ys)) → list_any (λ x. f x == f y) xs ≡ false
unfolding IsDistinct
none_before f [] y ys h = refl
none_before f (x ∷ xs) y ys h = rw (in_middle (λ n. nat_eq (f x) n ≡ false) f xs y ys h.0, none_before f xs y ys h.1) refl

pub distinct_front : {X : Type 0} (f : X → ℕ) (xs ys : List X) → IsDistinct nat_eq (map f (xs ++ ys)) → IsDistinct nat_eq (map f xs)
unfolding IsDistinct
distinct_front f [] ys h = tt
distinct_front f (x ∷ xs) ys h = (at_front (λ n. nat_eq (f x) n ≡ false) f xs ys h.0, distinct_front f xs ys h.1)

-- ---- nodes

node_keys : (path : Path) (n : NodeSpec) → object_at path kinds.Node (node_data n) ≡ Ok tt
unfolding object_at serde_json_on_literals
node_keys path n = refl

node_back : (path : Path) (before : List NodeSpec) (n : NodeSpec) → IsNode n → n.sid ≤ 65535 → has_sid n.sid before ≡ false → described_node path before (node_data n) ≡ Ok n
unfolding described_node serde_json_on_literals
node_back path before n is small first =
    rw (node_keys path n, number_back (at_key path (codes "sid")) 1 65535 n.sid is.numbered small, first, number_back (at_key path (codes "cells")) 1 1048576 n.cells is.least_cells is.most_cells) refl

nodes_back : (path : Path) (clusters : List Cluster) (i : ℕ) (before ns : List NodeSpec) → All IsNode ns → AreSmall ns → IsDistinct nat_eq (map (λ n. n.sid) ((nodes_of clusters ++ before) ++ ns))
    → nodes_from path clusters i before (items_of (map node_data ns)) ≡ Ok (before ++ ns)
unfolding nodes_from
nodes_back path clusters i before [] are small apart = rw append-nil refl
nodes_back path clusters i before (n ∷ ns) are small apart =
    let first : has_sid n.sid (nodes_of clusters ++ before) ≡ false = none_before (λ (m : NodeSpec). m.sid) (nodes_of clusters ++ before) n ns apart in
    let this = node_back (at_index path i) (nodes_of clusters ++ before) n (All-head IsNode n ns are) (All-head (λ m. m.sid ≤ 65535) n ns small) first in
    let moved : (nodes_of clusters ++ (before ++ n ∷ [])) ++ ns ≡ (nodes_of clusters ++ before) ++ n ∷ ns = simp (append_assoc) refl in
    let rest = nodes_back path clusters (i + 1) (before ++ n ∷ []) ns (All-tail IsNode n ns are) (All-tail (λ m. m.sid ≤ 65535) n ns small) (rw moved apart) in
    rw this (rest ∙ ap Ok (append_assoc before (n ∷ []) ns))

-- ---- clusters

nodes_of-append : (cs ds : List Cluster) → nodes_of (cs ++ ds) ≡ nodes_of cs ++ nodes_of ds
nodes_of-append [] ds = refl
nodes_of-append (c ∷ cs) ds = ap (λ ns. c.nodes ++ ns) (nodes_of-append cs ds) ∙ sym (append_assoc c.nodes (nodes_of cs) (nodes_of ds))

cluster_keys : (path : Path) (c : Cluster) → object_at path kinds.Cluster (cluster_data c) ≡ Ok tt
unfolding object_at serde_json_on_literals
cluster_keys path c = refl

cid_back : (path : Path) (before : List Cluster) (c : Cluster) → 1 ≤ c.cid → c.cid ≤ 65535 → has_cid c.cid before ≡ false → described_cid path before (cluster_data c) ≡ Ok c.cid
unfolding described_cid serde_json_on_literals
cid_back path before c low high first = rw (number_back (at_key path (codes "cid")) 1 65535 c.cid low high, first) refl

list_of_nodes_back : (path : Path) (safe : ℕ) (before : List Cluster) (c : Cluster) → IsCluster safe c → IsSmall c → IsDistinct nat_eq (map (λ n. n.sid) (nodes_of before ++ c.nodes))
    → described_nodes path safe before (cluster_data c) ≡ Ok c.nodes
unfolding described_nodes serde_json_on_literals
list_of_nodes_back path safe before c is small apart =
    let none : (nodes_of before ++ []) ++ c.nodes ≡ nodes_of before ++ c.nodes = rw append-nil refl in
    rw (list_back node_data c.nodes (at_key path (codes "nodes")) safe TooFewNodes 64 is.enough_nodes is.few_nodes)
    (nodes_back (at_key path (codes "nodes")) before 0 [] c.nodes is.nodes small.1 (rw none apart))

cluster_back : (path : Path) (safe : ℕ) (before : List Cluster) (c : Cluster) → IsCluster safe c → IsSmall c → has_cid c.cid before ≡ false
    → IsDistinct nat_eq (map (λ n. n.sid) (nodes_of before ++ c.nodes)) → described_cluster path safe before (cluster_data c) ≡ Ok c
unfolding described_cluster
cluster_back path safe before c is small first apart =
    rw (cluster_keys path c, cid_back path before c is.numbered small.0 first, list_of_nodes_back path safe before c is small apart) refl

clusters_back : (path : Path) (safe i : ℕ) (before cs : List Cluster) → All (IsCluster safe) cs → All IsSmall cs → IsDistinct nat_eq (map (λ c. c.cid) (before ++ cs))
    → IsDistinct nat_eq (map (λ n. n.sid) (nodes_of (before ++ cs))) → clusters_from path safe i before (items_of (map cluster_data cs)) ≡ Ok (before ++ cs)
unfolding clusters_from
clusters_back path safe i before [] are small cids sids = rw append-nil refl
clusters_back path safe i before (c ∷ cs) are small cids sids =
    let first : has_cid c.cid before ≡ false = none_before (λ (b : Cluster). b.cid) before c cs cids in
    let parts : nodes_of (before ++ c ∷ cs) ≡ (nodes_of before ++ c.nodes) ++ nodes_of cs = nodes_of-append before (c ∷ cs) ∙ sym (append_assoc (nodes_of before) c.nodes (nodes_of cs)) in
    let apart = distinct_front (λ (n : NodeSpec). n.sid) (nodes_of before ++ c.nodes) (nodes_of cs) (rw (← parts) sids) in
    let this = cluster_back (at_index path i) safe before c (All-head (IsCluster safe) c cs are) (All-head IsSmall c cs small) first apart in
    let moved : (before ++ c ∷ []) ++ cs ≡ before ++ c ∷ cs = append_assoc before (c ∷ []) cs in
    let rest = clusters_back path safe (i + 1) (before ++ c ∷ []) cs (All-tail (IsCluster safe) c cs are) (All-tail IsSmall c cs small) (rw moved cids) (rw moved sids) in
    rw this (rest ∙ ap Ok moved)

-- ---- the volume

layout_there : (y : Layout) → layout_of (number_of y) (block_bytes_of y) ≡ Some y
unfolding layout_of
layout_there L0 = refl
layout_there L0B1 = refl
layout_there L0B2 = refl
layout_there L0B3 = refl
layout_there L1 = refl
layout_there L1B1 = refl
layout_there L1B2 = refl
layout_there L1B3 = refl
layout_there L2 = refl
layout_there L2B1 = refl
layout_there L2B2 = refl
layout_there L2B3 = refl

number_most : (y : Layout) → number_of y ≤ 2
number_most L0 = omega arith
number_most L0B1 = omega arith
number_most L0B2 = omega arith
number_most L0B3 = omega arith
number_most L1 = omega arith
number_most L1B1 = omega arith
number_most L1B2 = omega arith
number_most L1B3 = omega arith
number_most L2 = omega arith
number_most L2B1 = omega arith
number_most L2B2 = omega arith
number_most L2B3 = omega arith

volume_keys : (v : Volume) → object_at [] kinds.Volume (volume_data v) ≡ Ok tt
unfolding object_at serde_json_on_literals
volume_keys v = refl

layout_back : (v : Volume) → described_layout (volume_data v) ≡ Ok v.layout
unfolding described_layout number_at serde_json_on_literals
layout_back v = rw (number_back (codes "layout") 0 2 (number_of v.layout) (omega arith) (number_most v.layout), layout_there v.layout) refl

list_of_clusters_back : (v : Volume) → IsVolume v → All IsSmall v.clusters → described_clusters (safe_of v.layout) (volume_data v) ≡ Ok v.clusters
unfolding described_clusters serde_json_on_literals
list_of_clusters_back v is small =
    rw (
      list_back cluster_data v.clusters (codes "clusters") 1 OutOfRange 16 is.some_cluster is.few_clusters,
      clusters_back (codes "clusters") (safe_of v.layout) 0 [] v.clusters is.clusters small is.distinct_cids is.distinct_sids,
      above 256 (length (nodes_of v.clusters)) is.few_nodes,
    ) refl

pub volume_back : (v : Volume) → IsVolume v → All IsSmall v.clusters → described_volume (volume_data v) ≡ Ok v
unfolding described_volume
volume_back v is small = rw (volume_keys v, layout_back v, list_of_clusters_back v is small) refl
