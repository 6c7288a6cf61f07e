-- The description of a volume is the text of a JSON value.
use Rattle.std.proofs.Common.{◌≡◌, ℕ, ◌^◌, ◌<◌, ◌≤◌, Bool, true, false, List, [], ◌∷◌, ◌++◌, codes, refl, sym, ap, ◌∙◌, append_assoc, arith}
use Rattle.std.specs.List.{flat_map, join_by, AllByRecursion}
use Rattle.std.specs.Fmt.{decimal}
use Rattle.json.specs.Token.{Token}
use Rattle.json.specs.Json as json
use Rattle.json.specs.Tree.{json_tokens, items_tokens, depth, items_depth, HasNumbers, ItemsHaveNumbers}
use Rattle.json.specs.Print.{print_from, separator, escape_byte}
use Rattle.json.proofs.Printed.Decimals.{IsNumber-decimal}
use Rattle.mj_angles.specs.declared.layout.Layout.{Layout}
use Rattle.mj_angles.specs.Layout.{number_of, block_bytes_of}
use Rattle.rz_events.specs.declared.files.NodeSpec.{NodeSpec}
use Rattle.rz_events.specs.Volume.{Cluster}
use Rattle.rz_script.specs.Spelling.{node_text, cluster_text, description_text}

-- ---- the value

abbrev pub node_json : NodeSpec → json.Json
node_json n = json.object (json.member (codes "sid") (json.number (decimal n.sid)) (json.member (codes "cells") (json.number (decimal n.cells)) json.no_members))

abbrev pub nodes_json : List NodeSpec → json.Items
nodes_json [] = json.no_items
nodes_json (n ∷ ns) = json.item (node_json n) (nodes_json ns)

abbrev pub cluster_json : Cluster → json.Json
cluster_json c = json.object (json.member (codes "cid") (json.number (decimal c.cid)) (json.member (codes "nodes") (json.array (nodes_json c.nodes)) json.no_members))

abbrev pub clusters_json : List Cluster → json.Items
clusters_json [] = json.no_items
clusters_json (c ∷ cs) = json.item (cluster_json c) (clusters_json cs)

abbrev pub volume_json : Layout → List Cluster → json.Json
volume_json y cs =
    json.object (json.member (codes "layout") (json.number (decimal (number_of y)))
    (json.member (codes "bsize") (json.number (decimal (block_bytes_of y)))
    (json.member (codes "clusters") (json.array (clusters_json cs)) json.no_members)))

-- ---- its text

five : (a b c d e x : List ℕ) → (a ++ (b ++ (c ++ (d ++ e)))) ++ x ≡ a ++ (b ++ (c ++ (d ++ (e ++ x))))
five a b c d e x =
    append_assoc a (b ++ (c ++ (d ++ e))) x
    ∙ ap (λ (z : List ℕ). a ++ z) (append_assoc b (c ++ (d ++ e)) x)
    ∙ ap (λ (z : List ℕ). a ++ (b ++ z)) (append_assoc c (d ++ e) x)
    ∙ ap (λ (z : List ℕ). a ++ (b ++ (c ++ z))) (append_assoc d e x)

node_joined : (n : NodeSpec) (x : List ℕ) → node_text n ++ x ≡ codes "{\"sid\":" ++ (decimal n.sid ++ (codes ",\"cells\":" ++ (decimal n.cells ++ (codes "}" ++ x))))
unfolding node_text
node_joined n x = five (codes "{\"sid\":") (decimal n.sid) (codes ",\"cells\":") (decimal n.cells) (codes "}") x

cluster_joined : (c : Cluster) (x : List ℕ) → cluster_text c ++ x ≡ codes "{\"cid\":" ++ (decimal c.cid ++ (codes ",\"nodes\":[" ++ (join_by node_text (codes ",") c.nodes ++ (codes "]}" ++ x))))
unfolding cluster_text
cluster_joined c x = five (codes "{\"cid\":") (decimal c.cid) (codes ",\"nodes\":[") (join_by node_text (codes ",") c.nodes) (codes "]}") x

print_node : (later : Bool) (n : NodeSpec) (us : List Token) → print_from later (json_tokens (node_json n) ++ us) ≡ separator later Token.begin_object ++ (node_text n ++ print_from true us)
unfolding print_from escape_byte
print_node later n us = ap (λ (z : List ℕ). separator later Token.begin_object ++ z) (sym (node_joined n (print_from true us)))

print_more_nodes : (ns : List NodeSpec) (us : List Token) → print_from true (items_tokens (nodes_json ns) ++ us) ≡ flat_map (λ n. codes "," ++ node_text n) ns ++ (93 ∷ print_from true us)
unfolding print_from
print_more_nodes [] us = refl
print_more_nodes (n ∷ ns) us =
    print_node true n (items_tokens (nodes_json ns) ++ us)
    ∙ ap (λ (z : List ℕ). 44 ∷ (node_text n ++ z)) (print_more_nodes ns us)
    ∙ ap (λ (z : List ℕ). 44 ∷ z) (sym (append_assoc (node_text n) (flat_map (λ n. codes "," ++ node_text n) ns) (93 ∷ print_from true us)))

print_nodes : (ns : List NodeSpec) (us : List Token) → print_from false (items_tokens (nodes_json ns) ++ us) ≡ join_by node_text (codes ",") ns ++ (93 ∷ print_from true us)
unfolding print_from
print_nodes [] us = refl
print_nodes (n ∷ ns) us =
    print_node false n (items_tokens (nodes_json ns) ++ us)
    ∙ ap (λ (z : List ℕ). node_text n ++ z) (print_more_nodes ns us)
    ∙ sym (append_assoc (node_text n) (flat_map (λ n. codes "," ++ node_text n) ns) (93 ∷ print_from true us))

print_cluster : (later : Bool) (c : Cluster) (us : List Token) → print_from later (json_tokens (cluster_json c) ++ us) ≡ separator later Token.begin_object ++ (cluster_text c ++ print_from true us)
unfolding print_from escape_byte
print_cluster later c us =
    let apart = append_assoc (items_tokens (nodes_json c.nodes)) (Token.end_object ∷ []) us in
    let inner : print_from false ((items_tokens (nodes_json c.nodes) ++ (Token.end_object ∷ [])) ++ us) ≡ join_by node_text (codes ",") c.nodes ++ (93 ∷ 125 ∷ print_from true us) =
    ap (print_from false) apart ∙ print_nodes c.nodes (Token.end_object ∷ us) in
    ap (λ (z : List ℕ). separator later Token.begin_object ++ (codes "{\"cid\":" ++ (decimal c.cid ++ (codes ",\"nodes\":[" ++ z)))) inner
    ∙ ap (λ (z : List ℕ). separator later Token.begin_object ++ z) (sym (cluster_joined c (print_from true us)))

print_more_clusters : (cs : List Cluster) (us : List Token) → print_from true (items_tokens (clusters_json cs) ++ us) ≡ flat_map (λ c. codes "," ++ cluster_text c) cs ++ (93 ∷ print_from true us)
unfolding print_from
print_more_clusters [] us = refl
print_more_clusters (c ∷ cs) us =
    ap (print_from true) (append_assoc (json_tokens (cluster_json c)) (items_tokens (clusters_json cs)) us)
    ∙ print_cluster true c (items_tokens (clusters_json cs) ++ us)
    ∙ ap (λ (z : List ℕ). 44 ∷ (cluster_text c ++ z)) (print_more_clusters cs us)
    ∙ ap (λ (z : List ℕ). 44 ∷ z) (sym (append_assoc (cluster_text c) (flat_map (λ c. codes "," ++ cluster_text c) cs) (93 ∷ print_from true us)))

print_clusters : (cs : List Cluster) (us : List Token) → print_from false (items_tokens (clusters_json cs) ++ us) ≡ join_by cluster_text (codes ",") cs ++ (93 ∷ print_from true us)
unfolding print_from
print_clusters [] us = refl
print_clusters (c ∷ cs) us =
    ap (print_from false) (append_assoc (json_tokens (cluster_json c)) (items_tokens (clusters_json cs)) us)
    ∙ print_cluster false c (items_tokens (clusters_json cs) ++ us)
    ∙ ap (λ (z : List ℕ). cluster_text c ++ z) (print_more_clusters cs us)
    ∙ sym (append_assoc (cluster_text c) (flat_map (λ c. codes "," ++ cluster_text c) cs) (93 ∷ print_from true us))

pub print_volume : (y : Layout) (cs : List Cluster) → print_from false (json_tokens (volume_json y cs)) ≡ description_text y cs
unfolding print_from escape_byte description_text
print_volume y cs =
    ap (λ (z : List ℕ). codes "{\"layout\":" ++ (decimal (number_of y) ++ (codes ",\"bsize\":" ++ (decimal (block_bytes_of y) ++ (codes ",\"clusters\":[" ++ z))))) (print_clusters cs (Token.end_object ∷ []))

-- ---- what a printed value needs

-- the numbers of nodes and clusters
pub record SmallNode (n : NodeSpec) : Type 0 where
  pub sid : n.sid ≤ 65535
  pub cells : n.cells ≤ 1048576

pub record SmallCluster (c : Cluster) : Type 0 where
  pub cid : c.cid ≤ 65535
  pub nodes : AllByRecursion SmallNode c.nodes

nodes_number : (ns : List NodeSpec) → AllByRecursion SmallNode ns → ItemsHaveNumbers (nodes_json ns)
nodes_number [] h = tt
nodes_number (n ∷ ns) h =
    let sid = h.0.sid in
    let cells = h.0.cells in
    ((IsNumber-decimal n.sid (omega (arith, sid)), (IsNumber-decimal n.cells (omega (arith, cells)), tt)), nodes_number ns h.1)

clusters_number : (cs : List Cluster) → AllByRecursion SmallCluster cs → ItemsHaveNumbers (clusters_json cs)
clusters_number [] h = tt
clusters_number (c ∷ cs) h =
    let cid = h.0.cid in
    ((IsNumber-decimal c.cid (omega (arith, cid)), (nodes_number c.nodes h.0.nodes, tt)), clusters_number cs h.1)

pub volume_numbers : (y : Layout) (cs : List Cluster) → number_of y < 2 ^ 64 → block_bytes_of y < 2 ^ 64 → AllByRecursion SmallCluster cs → HasNumbers (volume_json y cs)
volume_numbers y cs a b h = (IsNumber-decimal (number_of y) a, (IsNumber-decimal (block_bytes_of y) b, (clusters_number cs h, tt)))

nodes_depth : (ns : List NodeSpec) → items_depth (nodes_json ns) ≤ 1
nodes_depth [] = omega arith
nodes_depth (n ∷ ns) = let rest = nodes_depth ns in omega (arith, rest)

clusters_depth : (cs : List Cluster) → items_depth (clusters_json cs) ≤ 3
clusters_depth [] = omega arith
clusters_depth (c ∷ cs) =
    let nodes = nodes_depth c.nodes in
    let rest = clusters_depth cs in
    omega (arith, nodes, rest)

pub volume_depth : (y : Layout) (cs : List Cluster) → depth (volume_json y cs) ≤ 127
volume_depth y cs = let clusters = clusters_depth cs in omega (arith, clusters)
