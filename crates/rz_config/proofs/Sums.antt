-- Sums over the nodes of a volume.
use Rattle.std.proofs.Common.{◌≡◌, ℕ, ◌+◌, ◌*◌, ◌^◌, ◌<◌, ◌≤◌, List, [], ◌∷◌, length, take, get_or, refl, sym, ap, ◌∙◌, arith, lit≤, length-append}
use Rattle.std.specs.Prelude.{All, sum_by}
use Rattle.std.proofs.lemmas.List.Elements.{All-weaker}
use Rattle.std.proofs.lemmas.List.Sums.{sum_by-le, sum_by-cons, sum_by_more_le}
use Rattle.std.proofs.Math.Nat.{mul-le-mul_left}
use Rattle.mj_angles.specs.declared.layout.Layout.{Layout}
use Rattle.mj_angles.specs.declared.layout.Layout.TheVariants.{L0, L1, L2, L0B1, L0B2, L0B3, L1B1, L1B2, L1B3, L2B1, L2B2, L2B3}
use Rattle.mj_angles.specs.Layout.{max_bins_of, safe_of}
use Rattle.rz_events.specs.declared.files.NodeSpec.{NodeSpec}
use Rattle.rz_events.specs.Volume.{Volume, Cluster, nodes_of, IsNode, IsCluster, IsVolume}
use Rattle.rz_config.specs.Sizes.{slot_bytes_of, disk_bytes_of, cluster_bytes_of, all_disk_bytes}

pub nodes_of_length : (cs : List Cluster) → length (nodes_of cs) ≡ sum_by (λ c. length c.nodes) cs
nodes_of_length [] = refl
nodes_of_length (c ∷ cs) = length-append c.nodes (nodes_of cs) ∙ ap (λ n. length c.nodes + n) (nodes_of_length cs) ∙ sym (sum_by-cons (λ (b : Cluster). length b.nodes) c cs)

-- few clusters of few nodes have few nodes
pub few_fit : (safe : ℕ) (cs : List Cluster) → length cs ≤ 16 → All (IsCluster safe) cs → length (nodes_of cs) < 2 ^ 64
few_fit safe cs few h =
    let at_most = sum_by-le (λ (c : Cluster). length c.nodes) 64 cs (All-weaker (IsCluster safe) (λ c. length c.nodes ≤ 64) (λ c g. g.few_nodes) cs h) in
    omega (arith, at_most, nodes_of_length cs)

bins_most : (y : Layout) → max_bins_of y ≤ 2104
bins_most L0 = lit≤ tt
bins_most L1 = lit≤ tt
bins_most L2 = lit≤ tt
bins_most L0B1 = lit≤ tt
bins_most L0B2 = lit≤ tt
bins_most L0B3 = lit≤ tt
bins_most L1B1 = lit≤ tt
bins_most L1B2 = lit≤ tt
bins_most L1B3 = lit≤ tt
bins_most L2B1 = lit≤ tt
bins_most L2B2 = lit≤ tt
bins_most L2B3 = lit≤ tt

-- what a disk of some cells has, where a slot has at most so many bytes
disk_most : (cells slot : ℕ) → cells ≤ 1048576 → slot ≤ 16880 → 64 + 2 * cells + 4 * cells * slot ≤ 2 ^ 37
disk_most cells slot few small = let most = mul-le-mul_left (4 * cells) small in omega (arith, most)

cluster_most : (y : Layout) (safe : ℕ) (c : Cluster) → IsCluster safe c → cluster_bytes_of y c ≤ 2 ^ 43
cluster_most y safe c is =
    let bins = bins_most y in
    let small : slot_bytes_of y ≤ 16880 = omega (arith, bins) in
    let each =
    sum_by-le (λ (n : NodeSpec). disk_bytes_of y n.cells) (2 ^ 37) c.nodes
    (All-weaker IsNode (λ n. disk_bytes_of y n.cells ≤ 2 ^ 37) (λ n g. disk_most n.cells (slot_bytes_of y) g.most_cells small) c.nodes is.nodes)
    in
    omega (arith, each, is.few_nodes)

pub bytes_fit : (v : Volume) → IsVolume v → all_disk_bytes v < 2 ^ 64
bytes_fit v is =
    let each =
    sum_by-le (λ (c : Cluster). cluster_bytes_of v.layout c) (2 ^ 43) v.clusters
    (All-weaker (IsCluster (safe_of v.layout)) (λ c. cluster_bytes_of v.layout c ≤ 2 ^ 43) (λ c g. cluster_most v.layout (safe_of v.layout) c g) v.clusters is.clusters)
    in
    omega (arith, each, is.few_clusters)

-- the sum so far and the next one fit where the whole sum does
pub more_fit : (f : Cluster → ℕ) (cs : List Cluster) (i : ℕ) (c : Cluster) → i < length cs → c ≡ get_or cs i c → sum_by f cs < 2 ^ 64 → sum_by f (take i cs) + f c < 2 ^ 64
more_fit f cs i c lt is fit =
    let le = sum_by_more_le f cs i c lt in
    let same : f c ≡ f (get_or cs i c) = ap f is in
    omega (arith, le, same, fit)
