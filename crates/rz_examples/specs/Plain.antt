-- The volume, the file and the actors of the examples.
use Rattle.std.specs.Prelude.{ℕ, List, [], ◌∷◌}
use Rattle.mj_angles.specs.declared.layout.Layout.TheVariants.{L0}
use Rattle.rz_events.specs.Volume.{Volume, Cluster}
use Rattle.rz_events.specs.declared.keys.Key.{Key}
use Rattle.rz_events.specs.declared.keys.Actor.{Actor}
use Rattle.rz_events.specs.declared.keys.Actor.TheVariants.{Client, Rebuilder}
use Rattle.rz_events.specs.declared.files.NodeSpec.{NodeSpec}
use Rattle.rz_events.specs.declared.files.FileInfo.{FileInfo}

-- a node with so many pairs of cells
abbrev pub node_with : ℕ → ℕ → NodeSpec
node_with cells sid = record { sid = sid; cells = cells }

abbrev pub cluster_with : ℕ → Cluster
cluster_with cells = record { cid = 1; nodes = node_with cells 1 ∷ node_with cells 2 ∷ node_with cells 3 ∷ node_with cells 4 ∷ [] }

-- Four nodes, where each block is written as three projections, of which any two give it back.
abbrev pub volume_with : ℕ → Volume
volume_with cells = record { layout = L0; clusters = cluster_with cells ∷ [] }

abbrev pub plain : Volume
plain = volume_with 64

-- each node has room for the records of one block
abbrev pub small : Volume
small = volume_with 1

abbrev pub one : Actor
one = Client 1

abbrev pub two : Actor
two = Client 2

abbrev pub mender : Actor
mender = Rebuilder 1

abbrev pub rival : Actor
rival = Rebuilder 2

abbrev pub third : Actor
third = Rebuilder 3

-- the path /f
abbrev pub path : List ℕ
path = 47 ∷ 102 ∷ []

-- the first block of the first file
abbrev pub block : Key
block = record { fid = 1; block = 0 }

abbrev pub next_block : Key
next_block = record { fid = 1; block = 1 }

abbrev pub places : List ℕ
places = 1 ∷ 2 ∷ 3 ∷ 4 ∷ []

-- the first file, when it has so many bytes
abbrev pub file : ℕ → FileInfo
file size = record { fid = 1; cid = 1; places = places; size = size }

-- the text `hello`
abbrev pub hello : List ℕ
hello = 104 ∷ 101 ∷ 108 ∷ 108 ∷ 111 ∷ []

-- the text `world`
abbrev pub world : List ℕ
world = 119 ∷ 111 ∷ 114 ∷ 108 ∷ 100 ∷ []
