-- Each node of a volume meets its rules.
use Rattle.std.proofs.Common.{ℕ, suc, List, [], ◌∷◌, arith}
use Rattle.std.specs.Prelude.{All}
use Rattle.std.specs.List.{AllByRecursion}
use Rattle.std.proofs.lemmas.List.Elements.{All-append}
use Rattle.mj_angles.specs.Layout.{safe_of}
use Rattle.rz_events.specs.Volume.{Volume, Cluster, IsNode, IsCluster, IsVolume, nodes_of}

nodes-proper : (safe : ℕ) (cs : List Cluster) → AllByRecursion (IsCluster safe) cs → All IsNode (nodes_of cs)
nodes-proper safe [] all = λ k d low. absurd (omega (arith, low))
nodes-proper safe (c ∷ cs) all = All-append IsNode c.nodes (nodes_of cs) all.0.nodes (nodes-proper safe cs all.1)

all-to : {A : Type 0} (P : A → Type 0) (xs : List A) → All P xs → AllByRecursion P xs
all-to P [] all = tt
all-to P (x ∷ xs) all = (all 0 x (omega arith), all-to P xs (λ k d low. all (suc k) d (omega (arith, low))))

pub proper-nodes : (v : Volume) → IsVolume v → AllByRecursion IsNode (nodes_of v.clusters)
proper-nodes v rules = all-to IsNode (nodes_of v.clusters) (nodes-proper (safe_of v.layout) v.clusters (all-to (IsCluster (safe_of v.layout)) v.clusters rules.clusters))
