-- The volume that a JSON value describes, or the first fault with its path.
use Rattle.std.specs.Prelude.{ℕ, suc, ◌+◌, Bool, nat_lt, nat_le, ◌==◌, ◌&&◌, ◌||◌, if◌then◌else◌, List, [], ◌∷◌, ◌++◌, length, find, codes, bytes_eq, Option, Some, None, option_and_then, Result, Ok, Err}
use Rattle.std.specs.List.{list_any}
use Rattle.std.specs.Fmt.{decimal}
use Rattle.serde_json.specs.Data.{Data, Items, no_items, item, Members, no_members, member}
use Rattle.serde_json.specs.Find.{get, as_number, as_u64, as_array, as_object}
use Rattle.serde_json.specs.Read.{read as json}
use Rattle.mj_angles.specs.declared.layout.Layout.{Layout}
use Rattle.mj_angles.specs.declared.layout.Layout.TheVariants.{L0, L1, L2, L0B1, L0B2, L0B3, L1B1, L1B2, L1B3, L2B1, L2B2, L2B3}
use Rattle.mj_angles.specs.Layout.{number_of, block_bytes_of, safe_of}
use Rattle.rz_events.specs.declared.files.NodeSpec.{NodeSpec}
use Rattle.rz_events.specs.Volume.{Volume, Cluster, nodes_of}
use Rattle.rz_config.specs.declared.fault.VolumeFault.{VolumeFault}
use Rattle.rz_config.specs.declared.fault.VolumeCause.{VolumeCause}
use Rattle.rz_config.specs.declared.fault.VolumeCause.TheVariants.{NotJson, NotObject, UnknownKey, Missing, NotNumber, OutOfRange, NotList, Twice, TooFewNodes, TooMany}
use Rattle.rz_config.specs.declared.parts.ObjectKind.{ObjectKind}
use Rattle.rz_config.specs.declared.parts.ObjectKind.TheVariants as kinds

-- where a value stands, as `clusters[0].nodes[3].sid`; the whole value has the empty path
abbrev pub Path : Type 0
Path = List ℕ

-- the path of a member of an object, and of an item of a list
abbrev pub at_key : Path → List ℕ → Path
at_key [] key = key
at_key (b ∷ path) key = (b ∷ path) ++ codes "." ++ key

abbrev pub at_index : Path → ℕ → Path
at_index path i = path ++ (codes "[" ++ (decimal i ++ codes "]"))

-- what is read, or the first fault
abbrev pub Read : Type 0 → Type 0
Read A = Result A VolumeFault

abbrev pub fails : {A : Type 0} → Path → VolumeCause → Read A
fails path cause = Err (record { path = path; cause = cause })

infixl 10 ◌>>=◌
abbrev pub ◌>>=◌ : {A B : Type 0} → Read A → (A → Read B) → Read B
(Ok x) >>= f = f x
(Err e) >>= f = Err e

-- a fault where this holds
abbrev pub refused_if : Bool → Path → VolumeCause → Read (Unit {0})
refused_if b path cause = if b then fails path cause else Ok tt

-- ---- an object, a number and a list

-- the keys of each kind of object
abbrev pub is_key : ObjectKind → List ℕ → Bool
is_key kinds.Volume k = bytes_eq k (codes "layout") || bytes_eq k (codes "bsize") || bytes_eq k (codes "clusters")
is_key kinds.Cluster k = bytes_eq k (codes "cid") || bytes_eq k (codes "nodes")
is_key kinds.Node k = bytes_eq k (codes "sid") || bytes_eq k (codes "cells")

-- the first key that is none of them; the members of an object stand in the byte order of their keys
abbrev pub unknown_key : ObjectKind → Members → Option (List ℕ)
unknown_key kind no_members = None
unknown_key kind (member k d ms) = if is_key kind k then unknown_key kind ms else Some k

abbrev pub all_known : Path → Option (List ℕ) → Read (Unit {0})
all_known path None = Ok tt
all_known path (Some key) = fails (at_key path key) UnknownKey

-- the path of the whole value as it is told
abbrev pub told : Path → Path
told [] = codes "."
told (b ∷ path) = b ∷ path

abbrev pub members_at : Path → ObjectKind → Option Members → Read (Unit {0})
members_at path kind None = fails (told path) NotObject
members_at path kind (Some ms) = all_known path (unknown_key kind ms)

-- an object with none but these keys
unfoldable pub object_at : Path → ObjectKind → Data → Read (Unit {0})
object_at path kind d = members_at path kind (as_object d)

abbrev pub some_number : Path → Option ℕ → Read ℕ
some_number path None = fails path NotNumber
some_number path (Some n) = Ok n

-- a whole number of 64 bits
unfoldable pub number_at : Path → Option Data → Read ℕ
number_at path None = fails path Missing
number_at path (Some d) = some_number path (option_and_then as_u64 (as_number d))

-- a number from low to high
unfoldable pub number_within : Path → ℕ → ℕ → Option Data → Read ℕ
number_within path low high o = do
  n ← number_at path o
  if nat_le low n && nat_le n high then Ok n else fails path OutOfRange

-- how many items there are
abbrev pub item_count : Items → ℕ
item_count no_items = 0
item_count (item d ds) = suc (item_count ds)

abbrev pub items_within : Path → ℕ → VolumeCause → ℕ → Option Items → Read Items
items_within path least few most None = fails path NotList
items_within path least few most (Some ds) = do
  enough ← refused_if (nat_lt (item_count ds) least) path few
  within ← refused_if (nat_lt most (item_count ds)) path TooMany
  Ok ds

-- a list of so many items; the cause where there are fewer is given
unfoldable pub list_at : Path → ℕ → VolumeCause → ℕ → Option Data → Read Items
list_at path least few most None = fails path Missing
list_at path least few most (Some d) = items_within path least few most (as_array d)

-- ---- the layout

abbrev pub layouts : List Layout
layouts = L0 ∷ L0B1 ∷ L0B2 ∷ L0B3 ∷ L1 ∷ L1B1 ∷ L1B2 ∷ L1B3 ∷ L2 ∷ L2B1 ∷ L2B2 ∷ L2B3 ∷ []

-- the layout with a number and so many bytes of a block
unfoldable pub layout_of : ℕ → ℕ → Option Layout
layout_of number bytes = find (λ y. (number_of y == number) && (block_bytes_of y == bytes)) layouts

abbrev pub some_layout : Path → Option Layout → Read Layout
some_layout path None = fails path OutOfRange
some_layout path (Some y) = Ok y

-- ---- a node

-- whether a node has this number
abbrev pub has_sid : ℕ → List NodeSpec → Bool
has_sid sid nodes = list_any (λ n. n.sid == sid) nodes

-- a node, whose number is none of those before it
unfoldable pub described_node : Path → List NodeSpec → Data → Read NodeSpec
described_node path before d = do
  known ← object_at path kinds.Node d
  sid ← number_within (at_key path (codes "sid")) 1 65535 (get (codes "sid") d)
  first ← refused_if (has_sid sid before) (at_key path (codes "sid")) Twice
  cells ← number_within (at_key path (codes "cells")) 1 1048576 (get (codes "cells") d)
  Ok (record { sid = sid; cells = cells })

-- ---- a cluster

-- whether a cluster has this number
abbrev pub has_cid : ℕ → List Cluster → Bool
has_cid cid clusters = list_any (λ c. c.cid == cid) clusters

-- the nodes of a cluster from number i on, after these clusters and these nodes of its own
unfoldable pub nodes_from : Path → List Cluster → ℕ → List NodeSpec → Items → Read (List NodeSpec)
nodes_from path clusters i nodes no_items = Ok nodes
nodes_from path clusters i nodes (item d ds) = do
  n ← described_node (at_index path i) (nodes_of clusters ++ nodes) d
  nodes_from path clusters (i + 1) (nodes ++ n ∷ []) ds

-- the number of a cluster, which is none of those before it
unfoldable pub described_cid : Path → List Cluster → Data → Read ℕ
described_cid path before d = do
  cid ← number_within (at_key path (codes "cid")) 1 65535 (get (codes "cid") d)
  first ← refused_if (has_cid cid before) (at_key path (codes "cid")) Twice
  Ok cid

-- its nodes, of which there are at least so many
unfoldable pub described_nodes : Path → ℕ → List Cluster → Data → Read (List NodeSpec)
described_nodes path safe before d = do
  items ← list_at (at_key path (codes "nodes")) safe TooFewNodes 64 (get (codes "nodes") d)
  nodes_from (at_key path (codes "nodes")) before 0 [] items

unfoldable pub described_cluster : Path → ℕ → List Cluster → Data → Read Cluster
described_cluster path safe before d = do
  known ← object_at path kinds.Cluster d
  cid ← described_cid path before d
  nodes ← described_nodes path safe before d
  Ok (record { cid = cid; nodes = nodes })

-- ---- the volume

-- the clusters from number i on, after these
unfoldable pub clusters_from : Path → ℕ → ℕ → List Cluster → Items → Read (List Cluster)
clusters_from path safe i clusters no_items = Ok clusters
clusters_from path safe i clusters (item d ds) = do
  c ← described_cluster (at_index path i) safe clusters d
  clusters_from path safe (i + 1) (clusters ++ c ∷ []) ds

-- the layout of a volume, by its number and the bytes of its blocks
unfoldable pub described_layout : Data → Read Layout
described_layout d = do
  number ← number_within (codes "layout") 0 2 (get (codes "layout") d)
  bytes ← number_at (codes "bsize") (get (codes "bsize") d)
  some_layout (codes "bsize") (layout_of number bytes)

-- the clusters of a volume whose files have so many positions
unfoldable pub described_clusters : ℕ → Data → Read (List Cluster)
described_clusters safe d = do
  items ← list_at (codes "clusters") 1 OutOfRange 16 (get (codes "clusters") d)
  clusters ← clusters_from (codes "clusters") safe 0 [] items
  within ← refused_if (nat_lt 256 (length (nodes_of clusters))) (codes "clusters") TooMany
  Ok clusters

unfoldable pub described_volume : Data → Read Volume
described_volume d = do
  known ← object_at [] kinds.Volume d
  y ← described_layout d
  clusters ← described_clusters (safe_of y) d
  Ok (record { layout = y; clusters = clusters })

abbrev pub volume_of_value : Option Data → Read Volume
volume_of_value None = fails (codes ".") NotJson
volume_of_value (Some d) = described_volume d

-- the volume that a text describes
unfoldable pub volume_of_text : List ℕ → Read Volume
volume_of_text text = volume_of_value (json text)
