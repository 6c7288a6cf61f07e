-- What operands are measured by: the nodes of a volume, the bytes of a datum, and how far a range may go.
use Rattle.std.specs.Prelude.{ℕ, Bool, length}
use Rattle.std.specs.List.{list_any}
use Rattle.rz_events.specs.Volume.{Volume}
use Rattle.rz_events.specs.declared.operations.Datum.{Datum}
use Rattle.rz_events.specs.declared.operations.Datum.TheVariants.{Bytes, Made}
use Rattle.rz_config.specs.Described.{has_sid}

-- a node of the volume has this number
abbrev pub has_node : Volume → ℕ → Bool
has_node v sid = list_any (λ c. has_sid sid c.nodes) v.clusters

-- the bytes of a range, and where it may end
abbrev pub most_bytes : ℕ
most_bytes = 134217728

abbrev pub last_byte : ℕ
last_byte = 4294967296

-- how many bytes a datum has
abbrev pub datum_length : Datum → ℕ
datum_length (Bytes bytes) = length bytes
datum_length (Made len seed) = len
