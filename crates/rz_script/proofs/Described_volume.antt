-- The value that the description of a volume is describes this volume.
use Rattle.std.proofs.Common.{◌≡◌, ℕ, suc, ◌+◌, ◌^◌, ◌<◌, ◌≤◌, ◌==◌, ◌||◌, Bool, false, nat_lt, List, [], ◌∷◌, ◌++◌, length, map, codes, Option, Some, option_map, Ok, refl, sym, ap, subst, ◌∙◌, append_assoc, arith, le-leb, lit≤}
use Rattle.std.specs.Prelude.{nat_eq}
use Rattle.std.specs.List.{AllByRecursion, IsDistinct}
use Rattle.std.specs.Option.{option_and_then}
use Rattle.std.specs.Fmt.{decimal}
use Rattle.std.proofs.lemmas.Bool.{le-ltb}
use Rattle.std.proofs.lemmas.List.{append-nil}
use Rattle.serde_json.specs.Data as data_
use Rattle.serde_json.specs.Find.{get}
use Rattle.serde_json.specs.Read.{of_json, of_items, of_members}
use Rattle.serde_json.proofs.Numbers.{number_of-decimal}
use Rattle.json.specs.Json as json
use Rattle.mj_angles.specs.declared.layout.Layout.{Layout}
use Rattle.mj_angles.specs.declared.layout.Layout.TheVariants.{L0, L1, L2, L0B1, L0B2, L0B3, L1B1, L1B2, L1B3, L2B1, L2B2, L2B3}
use Rattle.mj_angles.specs.Layout.{number_of, block_bytes_of, safe_of}
use Rattle.rz_events.specs.declared.files.NodeSpec.{NodeSpec}
use Rattle.rz_events.specs.Volume.{Volume, Cluster, nodes_of}
use Rattle.rz_config.specs.declared.fault.VolumeCause.{VolumeCause}
use Rattle.rz_config.specs.declared.fault.VolumeCause.TheVariants.{OutOfRange, Twice, TooFewNodes, TooMany}
use Rattle.rz_config.specs.Described.{Path, Read, ◌>>=◌, at_key, at_index, refused_if, object_at, number_at, number_within, item_count, list_at, layout_of, some_layout, has_sid, has_cid, described_node, nodes_from, described_cid, described_nodes, described_cluster, clusters_from, described_layout, described_clusters, described_volume}
use Rattle.rz_script.proofs.Printed_volume.{node_json, nodes_json, cluster_json, clusters_json, volume_json, SmallNode, SmallCluster}

-- ---- what the value is as data

abbrev number_data : ℕ → data_.Data
number_data n = data_.number (data_.unsigned n)

abbrev pub node_data : NodeSpec → data_.Data
node_data n = data_.object (data_.member (codes "cells") (number_data n.cells) (data_.member (codes "sid") (number_data n.sid) data_.no_members))

abbrev pub nodes_data : List NodeSpec → data_.Items
nodes_data [] = data_.no_items
nodes_data (n ∷ ns) = data_.item (node_data n) (nodes_data ns)

abbrev pub cluster_data : Cluster → data_.Data
cluster_data c = data_.object (data_.member (codes "cid") (number_data c.cid) (data_.member (codes "nodes") (data_.array (nodes_data c.nodes)) data_.no_members))

abbrev pub clusters_data : List Cluster → data_.Items
clusters_data [] = data_.no_items
clusters_data (c ∷ cs) = data_.item (cluster_data c) (clusters_data cs)

abbrev pub volume_data : Layout → List Cluster → data_.Data
volume_data y cs = data_.object (data_.member (codes "bsize") (number_data (block_bytes_of y)) (data_.member (codes "clusters") (data_.array (clusters_data cs)) (data_.member (codes "layout") (number_data (number_of y)) data_.no_members)))

number_is : (n : ℕ) → n < 2 ^ 64 → of_json (json.number (decimal n)) ≡ Some (number_data n)
number_is n fits = ap (option_map data_.number) (number_of-decimal n fits)

abbrev and_members : json.Members → List ℕ → data_.Members → Option data_.Data → Option data_.Data
and_members ms k found o = option_map data_.object (option_and_then (λ d. of_members ms (data_.put k d found)) o)

node_is : (n : NodeSpec) → SmallNode n → of_json (node_json n) ≡ Some (node_data n)
node_is n h =
    let sid = h.sid in
    let cells = h.cells in
    ap (and_members (json.member (codes "cells") (json.number (decimal n.cells)) json.no_members) (codes "sid") data_.no_members) (number_is n.sid (omega (arith, sid)))
    ∙ ap (and_members json.no_members (codes "cells") (data_.member (codes "sid") (number_data n.sid) data_.no_members)) (number_is n.cells (omega (arith, cells)))

nodes_are : (ns : List NodeSpec) → AllByRecursion SmallNode ns → of_items (nodes_json ns) ≡ Some (nodes_data ns)
nodes_are [] h = refl
nodes_are (n ∷ ns) h =
    ap (λ o. option_and_then (λ d. option_map (data_.item d) (of_items (nodes_json ns))) o) (node_is n h.0)
    ∙ ap (option_map (data_.item (node_data n))) (nodes_are ns h.1)

cluster_is : (c : Cluster) → SmallCluster c → of_json (cluster_json c) ≡ Some (cluster_data c)
cluster_is c h =
    let cid = h.cid in
    ap (and_members (json.member (codes "nodes") (json.array (nodes_json c.nodes)) json.no_members) (codes "cid") data_.no_members) (number_is c.cid (omega (arith, cid)))
    ∙ ap (λ o. and_members json.no_members (codes "nodes") (data_.member (codes "cid") (number_data c.cid) data_.no_members) (option_map data_.array o)) (nodes_are c.nodes h.nodes)

clusters_are : (cs : List Cluster) → AllByRecursion SmallCluster cs → of_items (clusters_json cs) ≡ Some (clusters_data cs)
clusters_are [] h = refl
clusters_are (c ∷ cs) h =
    ap (λ o. option_and_then (λ d. option_map (data_.item d) (of_items (clusters_json cs))) o) (cluster_is c h.0)
    ∙ ap (option_map (data_.item (cluster_data c))) (clusters_are cs h.1)

pub volume_is : (y : Layout) (cs : List Cluster) → number_of y < 2 ^ 64 → block_bytes_of y < 2 ^ 64 → AllByRecursion SmallCluster cs → of_json (volume_json y cs) ≡ Some (volume_data y cs)
volume_is y cs a b h =
    ap (and_members (json.member (codes "bsize") (json.number (decimal (block_bytes_of y))) (json.member (codes "clusters") (json.array (clusters_json cs)) json.no_members)) (codes "layout") data_.no_members) (number_is (number_of y) a)
    ∙ ap (and_members (json.member (codes "clusters") (json.array (clusters_json cs)) json.no_members) (codes "bsize") (data_.member (codes "layout") (number_data (number_of y)) data_.no_members)) (number_is (block_bytes_of y) b)
    ∙ ap (λ o. and_members json.no_members (codes "clusters") (data_.member (codes "bsize") (number_data (block_bytes_of y)) (data_.member (codes "layout") (number_data (number_of y)) data_.no_members)) (option_map data_.array o)) (clusters_are cs h)

-- ---- the reading of its parts

bind : {A B : Type 0} (x : Read A) (f : A → Read B) (a : A) → x ≡ Ok a → (x >>= f) ≡ f a
bind {A} x f a e = ap (λ (r : Read A). r >>= f) e

within_again : (path : Path) (low high n : ℕ) → low ≤ n → n ≤ high → number_within path low high (Some (number_data n)) ≡ Ok n
unfolding number_within number_at
within_again path low high n l h = rw (le-leb low n l, le-leb n high h) refl

not_refused : (b : Bool) (path : Path) → b ≡ false → (cause : VolumeCause) → refused_if b path cause ≡ Ok tt
not_refused b path h cause = ap (λ (t : Bool). refused_if t path cause) h

count_nodes : (ns : List NodeSpec) → item_count (nodes_data ns) ≡ length ns
count_nodes [] = refl
count_nodes (n ∷ ns) = ap suc (count_nodes ns)

count_clusters : (cs : List Cluster) → item_count (clusters_data cs) ≡ length cs
count_clusters [] = refl
count_clusters (c ∷ cs) = ap suc (count_clusters cs)

-- ---- numbers that differ

-- no node has the number of one before it, or of one of these
abbrev Fresh : List NodeSpec → List NodeSpec → Type 0
Fresh before [] = Unit {0}
Fresh before (n ∷ ns) = (has_sid n.sid before ≡ false) × Fresh (before ++ n ∷ []) ns

at_middle : (P : ℕ → Type 0) (bs : List NodeSpec) (n : NodeSpec) (ns : List NodeSpec) → AllByRecursion P (map (λ m. m.sid) (bs ++ n ∷ ns)) → P n.sid
at_middle P [] n ns h = h.0
at_middle P (b ∷ bs) n ns h = at_middle P bs n ns h.1

differs : (before : List NodeSpec) (n : NodeSpec) (ns : List NodeSpec) → IsDistinct nat_eq (map (λ m. m.sid) (before ++ n ∷ ns)) → has_sid n.sid before ≡ false
unfolding IsDistinct
differs [] n ns h = refl
differs (b ∷ bs) n ns h =
    let other : (b.sid == n.sid) ≡ false = at_middle (λ y. nat_eq b.sid y ≡ false) bs n ns h.0 in
    ap (λ (t : Bool). t || has_sid n.sid bs) other ∙ differs bs n ns h.1

fresh : (before ns : List NodeSpec) → IsDistinct nat_eq (map (λ m. m.sid) (before ++ ns)) → Fresh before ns
fresh before [] h = tt
fresh before (n ∷ ns) h = (differs before n ns h, fresh (before ++ n ∷ []) ns (subst (λ l. IsDistinct nat_eq (map (λ m. m.sid) l)) (sym (append_assoc before (n ∷ []) ns)) h))

fresh_front : (before ns more : List NodeSpec) → Fresh before (ns ++ more) → Fresh before ns
fresh_front before [] more h = tt
fresh_front before (n ∷ ns) more h = (h.0, fresh_front (before ++ n ∷ []) ns more h.1)

fresh_rest : (before ns more : List NodeSpec) → Fresh before (ns ++ more) → Fresh (before ++ ns) more
fresh_rest before [] more h = subst (λ l. Fresh l more) (sym (append-nil before)) h
fresh_rest before (n ∷ ns) more h = subst (λ l. Fresh l more) (append_assoc before (n ∷ []) ns) (fresh_rest (before ++ n ∷ []) ns more h.1)

abbrev FreshCids : List Cluster → List Cluster → Type 0
FreshCids before [] = Unit {0}
FreshCids before (c ∷ cs) = (has_cid c.cid before ≡ false) × FreshCids (before ++ c ∷ []) cs

cid_at_middle : (P : ℕ → Type 0) (bs : List Cluster) (c : Cluster) (cs : List Cluster) → AllByRecursion P (map (λ m. m.cid) (bs ++ c ∷ cs)) → P c.cid
cid_at_middle P [] c cs h = h.0
cid_at_middle P (b ∷ bs) c cs h = cid_at_middle P bs c cs h.1

cid_differs : (before : List Cluster) (c : Cluster) (cs : List Cluster) → IsDistinct nat_eq (map (λ m. m.cid) (before ++ c ∷ cs)) → has_cid c.cid before ≡ false
unfolding IsDistinct
cid_differs [] c cs h = refl
cid_differs (b ∷ bs) c cs h =
    let other : (b.cid == c.cid) ≡ false = cid_at_middle (λ y. nat_eq b.cid y ≡ false) bs c cs h.0 in
    ap (λ (t : Bool). t || has_cid c.cid bs) other ∙ cid_differs bs c cs h.1

fresh_cids : (before cs : List Cluster) → IsDistinct nat_eq (map (λ m. m.cid) (before ++ cs)) → FreshCids before cs
fresh_cids before [] h = tt
fresh_cids before (c ∷ cs) h = (cid_differs before c cs h, fresh_cids (before ++ c ∷ []) cs (subst (λ l. IsDistinct nat_eq (map (λ m. m.cid) l)) (sym (append_assoc before (c ∷ []) cs)) h))

nodes_of_more : (before : List Cluster) (c : Cluster) → nodes_of (before ++ c ∷ []) ≡ nodes_of before ++ c.nodes
nodes_of_more [] c = append-nil c.nodes
nodes_of_more (b ∷ bs) c = ap (λ l. b.nodes ++ l) (nodes_of_more bs c) ∙ sym (append_assoc b.nodes (nodes_of bs) c.nodes)

-- ---- nodes, clusters and the volume

-- the bounds of the numbers of a node and of a cluster
pub record BoundNode (n : NodeSpec) : Type 0 where
  pub sid_least : 1 ≤ n.sid
  pub sid_most : n.sid ≤ 65535
  pub cells_least : 1 ≤ n.cells
  pub cells_most : n.cells ≤ 1048576

pub record BoundCluster (safe : ℕ) (c : Cluster) : Type 0 where
  pub cid_least : 1 ≤ c.cid
  pub cid_most : c.cid ≤ 65535
  pub enough : safe ≤ length c.nodes
  pub few : length c.nodes ≤ 64
  pub nodes : AllByRecursion BoundNode c.nodes

node_again : (path : Path) (before : List NodeSpec) (n : NodeSpec) → has_sid n.sid before ≡ false → BoundNode n → described_node path before (node_data n) ≡ Ok n
unfolding described_node object_at
node_again path before n new h =
    let cells : Unit {0} → Read NodeSpec = λ first. (number_within (at_key path (codes "cells")) 1 1048576 (get (codes "cells") (node_data n)) >>= λ cells. Ok (record { sid = n.sid; cells = cells })) in
    bind (number_within (at_key path (codes "sid")) 1 65535 (Some (number_data n.sid))) (λ sid. (refused_if (has_sid sid before) (at_key path (codes "sid")) Twice >>= λ first. (number_within (at_key path (codes "cells")) 1 1048576 (get (codes "cells") (node_data n)) >>= λ cells. Ok (record { sid = sid; cells = cells })))) n.sid (within_again (at_key path (codes "sid")) 1 65535 n.sid h.sid_least h.sid_most)
    ∙ bind (refused_if (has_sid n.sid before) (at_key path (codes "sid")) Twice) cells tt (not_refused (has_sid n.sid before) (at_key path (codes "sid")) new Twice)
    ∙ bind (number_within (at_key path (codes "cells")) 1 1048576 (Some (number_data n.cells))) (λ cells. Ok (record { sid = n.sid; cells = cells })) n.cells (within_again (at_key path (codes "cells")) 1 1048576 n.cells h.cells_least h.cells_most)

nodes_again : (path : Path) (before : List Cluster) (i : ℕ) (nodes ns : List NodeSpec) → Fresh (nodes_of before ++ nodes) ns → AllByRecursion BoundNode ns → nodes_from path before i nodes (nodes_data ns) ≡ Ok (nodes ++ ns)
unfolding nodes_from
nodes_again path before i nodes [] f h = ap (λ (l : List NodeSpec). Ok l) (sym (append-nil nodes))
nodes_again path before i nodes (n ∷ ns) f h =
    bind (described_node (at_index path i) (nodes_of before ++ nodes) (node_data n)) (λ n. nodes_from path before (i + 1) (nodes ++ n ∷ []) (nodes_data ns)) n (node_again (at_index path i) (nodes_of before ++ nodes) n f.0 h.0)
    ∙ nodes_again path before (i + 1) (nodes ++ n ∷ []) ns (subst (λ l. Fresh l ns) (append_assoc (nodes_of before) nodes (n ∷ [])) f.1) h.1
    ∙ ap (λ (l : List NodeSpec). Ok l) (append_assoc nodes (n ∷ []) ns)

not_less : (a b : ℕ) → b ≤ a → nat_lt a b ≡ false
not_less a b h = le-ltb a b h

list_again : (path : Path) (least most : ℕ) (few : VolumeCause) (ds : data_.Items) → least ≤ item_count ds → item_count ds ≤ most → list_at path least few most (Some (data_.array ds)) ≡ Ok ds
unfolding list_at
list_again path least most few ds enough within =
    bind (refused_if (nat_lt (item_count ds) least) path few) (λ enough. (refused_if (nat_lt most (item_count ds)) path TooMany >>= λ within. Ok ds)) tt (not_refused (nat_lt (item_count ds) least) path (not_less (item_count ds) least enough) few)
    ∙ bind (refused_if (nat_lt most (item_count ds)) path TooMany) (λ within. Ok ds) tt (not_refused (nat_lt most (item_count ds)) path (not_less most (item_count ds) within) TooMany)

cid_again : (path : Path) (before : List Cluster) (c : Cluster) → has_cid c.cid before ≡ false → 1 ≤ c.cid → c.cid ≤ 65535 → described_cid path before (cluster_data c) ≡ Ok c.cid
unfolding described_cid
cid_again path before c new l m =
    bind (number_within (at_key path (codes "cid")) 1 65535 (Some (number_data c.cid))) (λ cid. (refused_if (has_cid cid before) (at_key path (codes "cid")) Twice >>= λ first. Ok cid)) c.cid (within_again (at_key path (codes "cid")) 1 65535 c.cid l m)
    ∙ bind (refused_if (has_cid c.cid before) (at_key path (codes "cid")) Twice) (λ first. Ok c.cid) tt (not_refused (has_cid c.cid before) (at_key path (codes "cid")) new Twice)

nodes_of_cluster : (path : Path) (safe : ℕ) (before : List Cluster) (c : Cluster) → Fresh (nodes_of before) c.nodes → BoundCluster safe c → described_nodes path safe before (cluster_data c) ≡ Ok c.nodes
unfolding described_nodes
nodes_of_cluster path safe before c f h =
    let count = count_nodes c.nodes in
    let enough = h.enough in
    let few = h.few in
    bind (list_at (at_key path (codes "nodes")) safe TooFewNodes 64 (Some (data_.array (nodes_data c.nodes)))) (λ items. nodes_from (at_key path (codes "nodes")) before 0 [] items) (nodes_data c.nodes) (list_again (at_key path (codes "nodes")) safe 64 TooFewNodes (nodes_data c.nodes) (omega (arith, count, enough)) (omega (arith, count, few)))
    ∙ nodes_again (at_key path (codes "nodes")) before 0 [] c.nodes (subst (λ l. Fresh l c.nodes) (sym (append-nil (nodes_of before))) f) h.nodes

cluster_again : (path : Path) (safe : ℕ) (before : List Cluster) (c : Cluster) → has_cid c.cid before ≡ false → Fresh (nodes_of before) c.nodes → BoundCluster safe c → described_cluster path safe before (cluster_data c) ≡ Ok c
unfolding described_cluster object_at
cluster_again path safe before c new f h =
    bind (described_cid path before (cluster_data c)) (λ cid. (described_nodes path safe before (cluster_data c) >>= λ nodes. Ok (record { cid = cid; nodes = nodes }))) c.cid (cid_again path before c new h.cid_least h.cid_most)
    ∙ bind (described_nodes path safe before (cluster_data c)) (λ nodes. Ok (record { cid = c.cid; nodes = nodes })) c.nodes (nodes_of_cluster path safe before c f h)

clusters_again : (path : Path) (safe i : ℕ) (before cs : List Cluster) → FreshCids before cs → Fresh (nodes_of before) (nodes_of cs) → AllByRecursion (BoundCluster safe) cs → clusters_from path safe i before (clusters_data cs) ≡ Ok (before ++ cs)
unfolding clusters_from
clusters_again path safe i before [] new f h = ap (λ (l : List Cluster). Ok l) (sym (append-nil before))
clusters_again path safe i before (c ∷ cs) new f h =
    let others = subst (λ l. Fresh l (nodes_of cs)) (sym (nodes_of_more before c)) (fresh_rest (nodes_of before) c.nodes (nodes_of cs) f) in
    bind (described_cluster (at_index path i) safe before (cluster_data c)) (λ c. clusters_from path safe (i + 1) (before ++ c ∷ []) (clusters_data cs)) c (cluster_again (at_index path i) safe before c new.0 (fresh_front (nodes_of before) c.nodes (nodes_of cs) f) h.0)
    ∙ clusters_again path safe (i + 1) (before ++ c ∷ []) cs new.1 others h.1
    ∙ ap (λ (l : List Cluster). Ok l) (append_assoc before (c ∷ []) cs)

layout_again : (y : Layout) → layout_of (number_of y) (block_bytes_of y) ≡ Some y
unfolding layout_of
layout_again L0 = refl
layout_again L1 = refl
layout_again L2 = refl
layout_again L0B1 = refl
layout_again L0B2 = refl
layout_again L0B3 = refl
layout_again L1B1 = refl
layout_again L1B2 = refl
layout_again L1B3 = refl
layout_again L2B1 = refl
layout_again L2B2 = refl
layout_again L2B3 = refl

pub few_layouts : (y : Layout) → number_of y ≤ 2
few_layouts L0 = lit≤ tt
few_layouts L1 = lit≤ tt
few_layouts L2 = lit≤ tt
few_layouts L0B1 = lit≤ tt
few_layouts L0B2 = lit≤ tt
few_layouts L0B3 = lit≤ tt
few_layouts L1B1 = lit≤ tt
few_layouts L1B2 = lit≤ tt
few_layouts L1B3 = lit≤ tt
few_layouts L2B1 = lit≤ tt
few_layouts L2B2 = lit≤ tt
few_layouts L2B3 = lit≤ tt

layout_described : (y : Layout) (cs : List Cluster) → described_layout (volume_data y cs) ≡ Ok y
unfolding described_layout number_at
layout_described y cs =
    bind (number_within (codes "layout") 0 2 (Some (number_data (number_of y)))) (λ number. (number_at (codes "bsize") (get (codes "bsize") (volume_data y cs)) >>= λ bytes. some_layout (codes "bsize") (layout_of number bytes))) (number_of y) (within_again (codes "layout") 0 2 (number_of y) (omega arith) (few_layouts y))
    ∙ ap (some_layout (codes "bsize")) (layout_again y)

clusters_described : (safe : ℕ) (y : Layout) (cs : List Cluster) → 1 ≤ length cs → length cs ≤ 16 → length (nodes_of cs) ≤ 256 → FreshCids [] cs → Fresh [] (nodes_of cs) → AllByRecursion (BoundCluster safe) cs → described_clusters safe (volume_data y cs) ≡ Ok cs
unfolding described_clusters
clusters_described safe y cs some few small new f h =
    let count = count_clusters cs in
    bind (list_at (codes "clusters") 1 OutOfRange 16 (Some (data_.array (clusters_data cs)))) (λ items. (clusters_from (codes "clusters") safe 0 [] items >>= λ clusters. (refused_if (nat_lt 256 (length (nodes_of clusters))) (codes "clusters") TooMany >>= λ within. Ok clusters))) (clusters_data cs) (list_again (codes "clusters") 1 16 OutOfRange (clusters_data cs) (omega (arith, count, some)) (omega (arith, count, few)))
    ∙ bind (clusters_from (codes "clusters") safe 0 [] (clusters_data cs)) (λ clusters. (refused_if (nat_lt 256 (length (nodes_of clusters))) (codes "clusters") TooMany >>= λ within. Ok clusters)) cs (clusters_again (codes "clusters") safe 0 [] cs new f h)
    ∙ bind (refused_if (nat_lt 256 (length (nodes_of cs))) (codes "clusters") TooMany) (λ within. Ok cs) tt (not_refused (nat_lt 256 (length (nodes_of cs))) (codes "clusters") (not_less 256 (length (nodes_of cs)) small) TooMany)

pub volume_described : (v : Volume) → 1 ≤ length v.clusters → length v.clusters ≤ 16 → length (nodes_of v.clusters) ≤ 256
    → IsDistinct nat_eq (map (λ c. c.cid) v.clusters) → IsDistinct nat_eq (map (λ n. n.sid) (nodes_of v.clusters)) → AllByRecursion (BoundCluster (safe_of v.layout)) v.clusters
    → described_volume (volume_data v.layout v.clusters) ≡ Ok v
unfolding described_volume object_at
volume_described v some few small cids sids h =
    bind (described_layout (volume_data v.layout v.clusters)) (λ y. (described_clusters (safe_of y) (volume_data v.layout v.clusters) >>= λ clusters. Ok (record { layout = y; clusters = clusters }))) v.layout (layout_described v.layout v.clusters)
    ∙ bind (described_clusters (safe_of v.layout) (volume_data v.layout v.clusters)) (λ clusters. Ok (record { layout = v.layout; clusters = clusters })) v.clusters (clusters_described (safe_of v.layout) v.layout v.clusters some few small (fresh_cids [] v.clusters cids) (fresh [] (nodes_of v.clusters) sids) h)
