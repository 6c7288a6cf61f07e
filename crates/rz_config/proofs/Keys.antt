-- Keys of an object, items of a list, and nodes of clusters.
use Rattle.std.proofs.Common.{◌≡◌, ℕ, suc, false, cond, ◌||◌, List, [], ◌∷◌, map, Option, Some, None, String, string_bytes, Global, length, ◌==◌, codes, ◌++◌, refl, ap, ◌∙◌}
use Rattle.std.specs.List.{list_any}
use Rattle.std.proofs.lemmas.List.Folds.{list_any-append}
use Rattle.serde_json.specs.View.{members_view, items_view}
use Rattle.serde_json.specs.declared.value.Value.{Value}
use Rattle.rz_config.specs.declared.parts.ObjectKind.{ObjectKind}
use Rattle.rz_events.specs.declared.files.NodeSpec.{NodeSpec}
use Rattle.rz_events.specs.Volume.{Cluster, nodes_of}
use Rattle.rz_config.specs.Described.{unknown_key, is_key, at_key, item_count, has_sid}

abbrev pub unknown_name : ObjectKind → List (String Global) → Option (List ℕ)
unknown_name kind [] = None
unknown_name kind (k ∷ ks) = cond (is_key kind (string_bytes k)) (unknown_name kind ks) (Some (string_bytes k))

pub by_names : (kind : ObjectKind) (ms : List (String Global × Value)) → unknown_key kind (members_view ms) ≡ unknown_name kind (map (λ m. m.0) ms)
by_names kind [] = refl
by_names kind (m ∷ ms) = ap (λ (o : Option (List ℕ)). cond (is_key kind (string_bytes m.0)) o (Some (string_bytes m.0))) (by_names kind ms)

pub stops : (kind : ObjectKind) (it ks : List (String Global)) (k : String Global) → it ≡ k ∷ ks → is_key kind (string_bytes k) ≡ false → unknown_name kind it ≡ Some (string_bytes k)
stops kind it ks k e unknown = rw (e, unknown) refl

pub full_path : (path key : List ℕ) → (length path == 0) ≡ false → at_key path key ≡ path ++ codes "." ++ key
full_path [] key h = absurd cc
full_path (b ∷ path) key h = refl

pub item_count_view : (vs : List Value) → item_count (items_view vs) ≡ length vs
item_count_view [] = refl
item_count_view (v ∷ vs) = ap suc (item_count_view vs)

-- a node of the clusters has the number, or one of the others
pub has_sid_in : (sid : ℕ) (cs : List Cluster) → has_sid sid (nodes_of cs) ≡ list_any (λ c. has_sid sid c.nodes) cs
has_sid_in sid [] = refl
has_sid_in sid (c ∷ cs) = list_any-append (λ n. n.sid == sid) c.nodes (nodes_of cs) ∙ ap (λ b. has_sid sid c.nodes || b) (has_sid_in sid cs)

pub has_sid_split : (sid : ℕ) (cs : List Cluster) (ns : List NodeSpec) → has_sid sid (nodes_of cs ++ ns) ≡ (list_any (λ c. has_sid sid c.nodes) cs || has_sid sid ns)
has_sid_split sid cs ns = list_any-append (λ n. n.sid == sid) (nodes_of cs) ns ∙ ap (λ b. b || has_sid sid ns) (has_sid_in sid cs)
