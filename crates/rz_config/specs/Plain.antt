-- The volume of a script without a volume line.
use Rattle.std.specs.Prelude.{ℕ, [], ◌∷◌}
use Rattle.mj_angles.specs.declared.layout.Layout.TheVariants.{L0}
use Rattle.rz_events.specs.declared.files.NodeSpec.{NodeSpec}
use Rattle.rz_events.specs.Volume.{Volume}

-- a node of 64 pairs of cells
abbrev pub plain_node : ℕ → NodeSpec
plain_node sid = record { sid = sid; cells = 64 }

-- one cluster of four nodes
abbrev pub plain_volume : Volume
plain_volume = record {
  layout = L0;
  clusters = record { cid = 1; nodes = plain_node 1 ∷ plain_node 2 ∷ plain_node 3 ∷ plain_node 4 ∷ [] } ∷ [];
}
