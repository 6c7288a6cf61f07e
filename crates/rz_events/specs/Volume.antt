-- What a volume is to every definition: a layout, and clusters of nodes; and the rules that it meets.
use Rattle.std.specs.Prelude.{ℕ, ◌≤◌, List, [], ◌∷◌, ◌++◌, length, map, All, nat_eq}
use Rattle.std.specs.List.{IsDistinct}
use Rattle.mj_angles.specs.declared.layout.Layout.{Layout}
use Rattle.mj_angles.specs.Layout.{safe_of}
use Rattle.rz_events.specs.declared.files.NodeSpec.{NodeSpec}

-- a cluster: its number, and its nodes in the order of the description
pub record Cluster : Type 0 where
  pub cid : ℕ
  pub nodes : List NodeSpec

-- a volume: the layout, which also says the block size, and the clusters in the order of the description
pub record Volume : Type 0 where
  pub layout : Layout
  pub clusters : List Cluster

-- all nodes of a volume, in the order of the description
abbrev pub nodes_of : List Cluster → List NodeSpec
nodes_of [] = []
nodes_of (c ∷ cs) = c.nodes ++ nodes_of cs

-- The rules of a volume.

-- a node has a number and some pairs of cells
pub record IsNode (n : NodeSpec) : Type 0 where
  pub numbered : 1 ≤ n.sid
  pub least_cells : 1 ≤ n.cells
  pub most_cells : n.cells ≤ 1048576

-- a cluster has a number, and enough nodes for the positions of a file
pub record IsCluster (safe : ℕ) (c : Cluster) : Type 0 where
  pub numbered : 1 ≤ c.cid
  pub enough_nodes : safe ≤ length c.nodes
  pub few_nodes : length c.nodes ≤ 64
  pub nodes : All IsNode c.nodes

-- no two clusters have one number, and no two nodes of the whole volume
pub record IsVolume (v : Volume) : Type 0 where
  pub some_cluster : 1 ≤ length v.clusters
  pub few_clusters : length v.clusters ≤ 16
  pub clusters : All (IsCluster (safe_of v.layout)) v.clusters
  pub distinct_cids : IsDistinct nat_eq (map (λ c. c.cid) v.clusters)
  pub distinct_sids : IsDistinct nat_eq (map (λ n. n.sid) (nodes_of v.clusters))
  pub few_nodes : length (nodes_of v.clusters) ≤ 256
