-- The volume of the workload meets the rules.
use Rattle.std.proofs.Common.{ℕ, Bool, true, false, ◌≡◌, ◌&&◌, not, nat_le, List, [], ◌∷◌, map, refl, lit≤}
use Rattle.std.specs.Prelude.{All, nat_eq}
use Rattle.std.specs.List.{IsDistinct, AllByRecursion, list_all, range_with_len}
use Rattle.std.proofs.lemmas.Bool.{leb-true, and_parts, not-true}
use Rattle.std.proofs.lemmas.List.Elements.{All-nil, All-cons}
use Rattle.rz_events.specs.Volume.{IsVolume, IsCluster, IsNode}
use Rattle.rz_generate.specs.Workload.{node_of, cluster_of, volume}

-- whether no number equals one after it
distinct : List ℕ → Bool
distinct [] = true
distinct (x ∷ xs) = list_all (λ y. not (nat_eq x y)) xs && distinct xs

others : (x : ℕ) (xs : List ℕ) → list_all (λ y. not (nat_eq x y)) xs ≡ true → AllByRecursion (λ y. nat_eq x y ≡ false) xs
others x [] h = tt
others x (y ∷ ys) h = let p = and_parts (not (nat_eq x y)) (list_all (λ z. not (nat_eq x z)) ys) h in (not-true (nat_eq x y) p.0, others x ys p.1)

are_distinct : (xs : List ℕ) → distinct xs ≡ true → IsDistinct nat_eq xs
unfolding IsDistinct distinct
are_distinct [] h = tt
are_distinct (x ∷ xs) h = let p = and_parts (list_all (λ y. not (nat_eq x y)) xs) (distinct xs) h in (others x xs p.0, are_distinct xs p.1)

-- nodes with numbers
nodes_ok : (sids : List ℕ) → list_all (nat_le 1) sids ≡ true → All IsNode (map node_of sids)
nodes_ok [] h = All-nil IsNode
nodes_ok (sid ∷ sids) h =
    let p = and_parts (nat_le 1 sid) (list_all (nat_le 1) sids) h in
    All-cons IsNode (node_of sid) (map node_of sids) (record { numbered = leb-true 1 sid p.0; least_cells = lit≤ tt; most_cells = lit≤ tt }) (nodes_ok sids p.1)

cluster_one : IsCluster 8 (cluster_of 1 1)
cluster_one = record { numbered = lit≤ tt; enough_nodes = lit≤ tt; few_nodes = lit≤ tt; nodes = nodes_ok (range_with_len 1 8) refl }

cluster_two : IsCluster 8 (cluster_of 2 9)
cluster_two = record { numbered = lit≤ tt; enough_nodes = lit≤ tt; few_nodes = lit≤ tt; nodes = nodes_ok (range_with_len 9 8) refl }

pub volume_ok : IsVolume volume
unfolding volume distinct
volume_ok = record {
  some_cluster = lit≤ tt;
  few_clusters = lit≤ tt;
  clusters = All-cons (IsCluster 8) (cluster_of 1 1) (cluster_of 2 9 ∷ []) cluster_one (All-cons (IsCluster 8) (cluster_of 2 9) [] cluster_two (All-nil (IsCluster 8)));
  distinct_cids = are_distinct (1 ∷ 2 ∷ []) refl;
  distinct_sids = are_distinct (1 ∷ 2 ∷ 3 ∷ 4 ∷ 5 ∷ 6 ∷ 7 ∷ 8 ∷ 9 ∷ 10 ∷ 11 ∷ 12 ∷ 13 ∷ 14 ∷ 15 ∷ 16 ∷ []) refl;
  few_nodes = lit≤ tt;
}
