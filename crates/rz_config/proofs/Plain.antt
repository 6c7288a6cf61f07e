-- The plain volume meets the rules.
use Rattle.std.proofs.Common.{ℕ, List, [], ◌∷◌, refl, lit≤}
use Rattle.std.specs.Prelude.{All}
use Rattle.std.specs.List.{IsDistinct}
use Rattle.std.proofs.lemmas.List.Elements.{All-nil, All-cons}
use Rattle.rz_events.specs.declared.files.NodeSpec.{NodeSpec}
use Rattle.rz_events.specs.Volume.{IsVolume, IsCluster, IsNode}
use Rattle.rz_config.specs.Plain.{plain_node, plain_volume}

more : (sid : ℕ) (nodes : List NodeSpec) → IsNode (plain_node sid) → All IsNode nodes → All IsNode (plain_node sid ∷ nodes)
more sid nodes one others = All-cons IsNode (plain_node sid) nodes one others

four : All IsNode (plain_node 1 ∷ plain_node 2 ∷ plain_node 3 ∷ plain_node 4 ∷ [])
four =
    more 1 (plain_node 2 ∷ plain_node 3 ∷ plain_node 4 ∷ []) (record { numbered = lit≤ tt; least_cells = lit≤ tt; most_cells = lit≤ tt })
    (more 2 (plain_node 3 ∷ plain_node 4 ∷ []) (record { numbered = lit≤ tt; least_cells = lit≤ tt; most_cells = lit≤ tt })
    (more 3 (plain_node 4 ∷ []) (record { numbered = lit≤ tt; least_cells = lit≤ tt; most_cells = lit≤ tt })
    (more 4 [] (record { numbered = lit≤ tt; least_cells = lit≤ tt; most_cells = lit≤ tt }) (All-nil IsNode))))

pub plain_ok : IsVolume plain_volume
unfolding IsDistinct
plain_ok =
    record {
      some_cluster = lit≤ tt;
      few_clusters = lit≤ tt;
      clusters = All-cons (IsCluster 4) (record { cid = 1; nodes = plain_node 1 ∷ plain_node 2 ∷ plain_node 3 ∷ plain_node 4 ∷ [] }) [] (record { numbered = lit≤ tt; enough_nodes = lit≤ tt; few_nodes = lit≤ tt; nodes = four }) (All-nil (IsCluster 4));
      distinct_cids = (tt, tt);
      distinct_sids = ((refl, (refl, (refl, tt))), ((refl, (refl, tt)), ((refl, tt), (tt, tt))));
      few_nodes = lit≤ tt;
    }
