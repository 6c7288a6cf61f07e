-- Where the projections of a new file go.
use Rattle.std.specs.Prelude.{ℕ, Bool, ◌&&◌, ◌||◌, ◌==◌, nat_lt, cond, List, [], ◌∷◌, ◌++◌, length, map, take, drop, sum_by}
use Rattle.mj_angles.specs.Layout.{safe_of}
use Rattle.rz_events.specs.declared.files.NodeSpec.{NodeSpec}
use Rattle.rz_events.specs.Volume.{Volume, Cluster}

-- a node with its free cells
pub record NodeRoom : Type 0 where
  pub sid : ℕ
  pub free : ℕ

-- a cluster with the free cells of its nodes
pub record Rooms : Type 0 where
  pub cid : ℕ
  pub nodes : List NodeRoom

-- the cluster and the nodes that a new file gets
pub record Placed : Type 0 where
  pub cid : ℕ
  pub places : List ℕ

-- the nodes with their free cells, one number per node
abbrev pub rooms_of : List NodeSpec → List ℕ → List NodeRoom
rooms_of [] free = []
rooms_of (n ∷ ns) [] = []
rooms_of (n ∷ ns) (f ∷ free) = record { sid = n.sid; free = f } ∷ rooms_of ns free

-- the clusters with the free cells of their nodes, one number per node in the order of the description
abbrev pub clusters_of : List Cluster → List ℕ → List Rooms
clusters_of [] free = []
clusters_of (c ∷ cs) free = record { cid = c.cid; nodes = rooms_of c.nodes free } ∷ clusters_of cs (drop (length c.nodes) free)

-- all free cells of a cluster
abbrev pub free_cells : Rooms → ℕ
free_cells c = sum_by (λ n. n.free) c.nodes

-- more free cells, or as many and a lesser number
abbrev pub is_better : Rooms → Rooms → Bool
is_better a b = nat_lt (free_cells b) (free_cells a) || ((free_cells a == free_cells b) && nat_lt a.cid b.cid)

-- the best of a cluster and some more
abbrev pub best_of : Rooms → List Rooms → Rooms
best_of best [] = best
best_of best (c ∷ cs) = best_of (cond (is_better c best) c best) cs

-- whether a node stands before another: it has more free cells, or as many and a lesser number
abbrev pub is_before : NodeRoom → NodeRoom → Bool
is_before a b = nat_lt b.free a.free || ((a.free == b.free) && nat_lt a.sid b.sid)

-- a node at its place among nodes in order
abbrev pub at_its_place : NodeRoom → List NodeRoom → List NodeRoom
at_its_place n [] = n ∷ []
at_its_place n (m ∷ ms) = cond (is_before n m) (n ∷ m ∷ ms) (m ∷ at_its_place n ms)

-- the nodes in order: the most free cells first, and of as many the least number
abbrev pub in_order : List NodeRoom → List NodeRoom
in_order [] = []
in_order (n ∷ ns) = at_its_place n (in_order ns)

-- the first nodes of a cluster, as many as the layout has positions
abbrev pub placed_in : ℕ → Rooms → Placed
placed_in safe c = record { cid = c.cid; places = map (λ n. n.sid) (take safe (in_order c.nodes)) }

abbrev pub placed_among : ℕ → List Rooms → Placed
placed_among safe [] = record { cid = 0; places = [] }
placed_among safe (c ∷ cs) = placed_in safe (best_of c cs)

-- the best cluster, and its nodes with the most free cells; `free` has one number per node in the order
-- of the description
abbrev pub place : Volume → List ℕ → Placed
place volume free = placed_among (safe_of volume.layout) (clusters_of volume.clusters free)
