-- How many bytes the disks of a volume have.
use Rattle.std.specs.Prelude.{ℕ, ◌+◌, ◌*◌, sum_by}
use Rattle.mj_angles.specs.declared.layout.Layout.{Layout}
use Rattle.mj_angles.specs.Layout.{max_bins_of}
use Rattle.rz_events.specs.Volume.{Volume, Cluster}

-- a slot has room for the head of a record and for its bins, at most so many
abbrev pub slot_bytes_of : Layout → ℕ
slot_bytes_of y = 48 + 8 * max_bins_of y

-- a disk has a header, a gate for each of its cells, and two slots for each; two cells are a pair
abbrev pub disk_bytes_of : Layout → ℕ → ℕ
disk_bytes_of y pairs = 64 + 2 * pairs + 4 * pairs * slot_bytes_of y

-- the disks of a cluster
abbrev pub cluster_bytes_of : Layout → Cluster → ℕ
cluster_bytes_of y c = sum_by (λ n. disk_bytes_of y n.cells) c.nodes

-- the disks of a volume
abbrev pub all_disk_bytes : Volume → ℕ
all_disk_bytes v = sum_by (λ c. cluster_bytes_of v.layout c) v.clusters
