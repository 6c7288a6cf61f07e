use Rattle.std.proofs.Common.{◌≡◌, ℕ, ◌≤◌, ◌∙◌, sym, List, ◌∷◌, length}
use Rattle.std.specs.Prelude.{All}
use Rattle.std.proofs.lemmas.List.Elements.{All-weaker, All-head, All-tail, All-same}
use Rattle.mj_angles.specs.Layout.{safe_of}
use Rattle.rz_events.specs.Volume.{Cluster, IsCluster}
use Rattle.rz_place.proofs.place.Goals as goal

clusters_good : (safe : ℕ) (all : List Cluster) (first : Cluster) (others : List Cluster) → All (IsCluster safe) all → all ≡ first ∷ others → All (IsCluster safe) (first ∷ others)
clusters_good safe all first others h e = All-same (IsCluster safe) (first ∷ others) all (sym e) h

few_each : (safe : ℕ) (first : Cluster) (others : List Cluster) → All (IsCluster safe) (first ∷ others) → All (λ c. length c.nodes ≤ 64) others
few_each safe first others h =
    All-weaker (IsCluster safe) (λ c. length c.nodes ≤ 64) (λ c g. g.few_nodes) others (All-tail (IsCluster safe) first others h)

enough_each : (safe : ℕ) (first : Cluster) (others : List Cluster) → All (IsCluster safe) (first ∷ others) → All (λ c. safe ≤ length c.nodes) others
enough_each safe first others h =
    All-weaker (IsCluster safe) (λ c. safe ≤ length c.nodes) (λ c g. g.enough_nodes) others (All-tail (IsCluster safe) first others h)

pub best_of-best-requires-clause-few_each : goal.best_of-best-requires-clause-few_each
best_of-best-requires-clause-few_each c =
    let all =
    clusters_good (safe_of c.volume.inside.layout) c.volume.inside.clusters.items c.in-Some.first.now c.in-Some.others.now c.volume.invariant.1.clusters
    (sym c.as_slice.ensures.value ∙ c.in-Some.ensures.cases.0)
    in
    few_each (safe_of c.volume.inside.layout) c.in-Some.first.now c.in-Some.others.now all

pub first_nodes-requires-clause-least : goal.first_nodes-requires-clause-least
first_nodes-requires-clause-least c =
    let safe = safe_of c.volume.inside.layout in
    let all =
    clusters_good safe c.volume.inside.clusters.items c.in-Some.first.now c.in-Some.others.now c.volume.invariant.1.clusters
    (sym c.as_slice.ensures.value ∙ c.in-Some.ensures.cases.0)
    in
    rw c.safe-safe.ensures.value
    (c.best_of-best.ensures.least safe (All-head (IsCluster safe) c.in-Some.first.now c.in-Some.others.now all).enough_nodes
    (enough_each safe c.in-Some.first.now c.in-Some.others.now all))
