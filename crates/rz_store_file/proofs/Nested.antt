-- How deep values nest.
use Rattle.std.proofs.Common.{◌≡◌, ℕ, ◌≤◌, List, [], ◌∷◌, map, Option, Some, Ordering, Less, Equal, Greater, arith}
use Rattle.std.specs.Ordering.{nat_cmp, match_ordering}
use Rattle.std.specs.Cmp.Lexicographic.{slice_cmp}
use Rattle.serde_json.specs.Data.{Data, null, boolean, number, string, array, object, Members, no_members, member, depth, items_depth, members_depth}
use Rattle.serde_json.specs.Find.{get, get_member}
use Rattle.serde_json.specs.View.{items_of}
use Rattle.rz_events.specs.Volume.{Cluster, Volume}
use Rattle.rz_store_file.specs.Described.{Description}
use Rattle.rz_store_file.specs.Written.{node_data, cluster_data, volume_data, store_data}

-- a member of an object nests less deep
found : (o : Ordering) (e : Data) (rest : Option Data) (n : ℕ) (d : Data) → depth e ≤ n → ((x : Data) → rest ≡ Some x → depth x ≤ n) → match_ordering o rest (Some e) rest ≡ Some d → depth d ≤ n
found Less e rest n d here later is = later d is
found Equal e rest n d here later is = let same : e ≡ d = cc in rw (← same) here
found Greater e rest n d here later is = later d is

within : (k : List ℕ) (ms : Members) (d : Data) → get_member k ms ≡ Some d → depth d ≤ members_depth ms
within k no_members d is = absurd cc
within k (member l e ms) d is =
    found (slice_cmp nat_cmp k l) e (get_member k ms) (members_depth (member l e ms)) d (omega arith) (λ x later. let less = within k ms x later in omega (arith, less)) is

pub inner : (k : List ℕ) (d e : Data) (n : ℕ) → get k d ≡ Some e → depth d ≤ n → depth e ≤ n
inner k null e n is most = absurd cc
inner k (boolean b) e n is most = absurd cc
inner k (number m) e n is most = absurd cc
inner k (string s) e n is most = absurd cc
inner k (array ds) e n is most = absurd cc
inner k (object ms) e n is most = let less = within k ms e is in omega (arith, less, most)

items_most : {X : Type 0} (f : X → Data) (n : ℕ) → ((x : X) → depth (f x) ≤ n) → (xs : List X) → items_depth (items_of (map f xs)) ≤ n
items_most f n each [] = omega arith
items_most f n each (x ∷ xs) = let more = items_most f n each xs in let this = each x in omega (arith, more, this)

cluster_most : (c : Cluster) → depth (cluster_data c) ≤ 3
cluster_most c = let nodes = items_most node_data 1 (λ n. omega arith) c.nodes in omega (arith, nodes)

volume_most : (v : Volume) → depth (volume_data v) ≤ 5
volume_most v = let clusters = items_most cluster_data 3 cluster_most v.clusters in omega (arith, clusters)

-- that of a store stays far below what a text may have
pub store_most : (s : Description) → depth (store_data s) ≤ 127
store_most s =
    let disks = items_most string 0 (λ p. omega arith) s.disks in
    let volume = volume_most s.volume in
    omega (arith, disks, volume)
