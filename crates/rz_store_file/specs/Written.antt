-- The JSON value that describes a store. The members of an object stand in the byte order of their keys.
use Rattle.std.specs.Prelude.{◌≤◌, List, All, map, codes}
use Rattle.serde_json.specs.Data.{Data, number, unsigned, string, array, object, no_members, member}
use Rattle.serde_json.specs.View.{items_of}
use Rattle.mj_angles.specs.Layout.{number_of, block_bytes_of}
use Rattle.rz_events.specs.declared.files.NodeSpec.{NodeSpec}
use Rattle.rz_events.specs.Volume.{Volume, Cluster}
use Rattle.rz_store_file.specs.Described.{Description}

abbrev pub node_data : NodeSpec → Data
node_data n = object (member (codes "cells") (number (unsigned n.cells)) (member (codes "sid") (number (unsigned n.sid)) no_members))

abbrev pub cluster_data : Cluster → Data
cluster_data c = object (member (codes "cid") (number (unsigned c.cid)) (member (codes "nodes") (array (items_of (map node_data c.nodes))) no_members))

abbrev pub volume_data : Volume → Data
volume_data v = object (member (codes "bsize") (number (unsigned (block_bytes_of v.layout)))
    (member (codes "clusters") (array (items_of (map cluster_data v.clusters)))
    (member (codes "layout") (number (unsigned (number_of v.layout))) no_members)))

abbrev pub store_data : Description → Data
store_data s = object (member (codes "disks") (array (items_of (map string s.disks)))
    (member (codes "journal") (string s.journal)
    (member (codes "volume") (volume_data s.volume) no_members)))

-- the numbers of nodes and clusters have 16 bits
abbrev pub AreSmall : List NodeSpec → Type 0
AreSmall nodes = All (λ n. n.sid ≤ 65535) nodes

abbrev pub IsSmall : Cluster → Type 0
IsSmall c = (c.cid ≤ 65535) × AreSmall c.nodes
