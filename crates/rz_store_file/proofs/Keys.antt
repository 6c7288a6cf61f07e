-- Keys of an object.
use Rattle.std.proofs.Common.{◌≡◌, ℕ, false, cond, List, [], ◌∷◌, map, Option, Some, None, String, string_bytes, Global, refl, ap}
use Rattle.serde_json.specs.View.{members_view}
use Rattle.serde_json.specs.declared.value.Value.{Value}
use Rattle.rz_store_file.specs.Described.{unknown_key, is_key}

abbrev pub unknown_name : List (String Global) → Option (List ℕ)
unknown_name [] = None
unknown_name (k ∷ ks) = cond (is_key (string_bytes k)) (unknown_name ks) (Some (string_bytes k))

pub by_names : (ms : List (String Global × Value)) → unknown_key (members_view ms) ≡ unknown_name (map (λ m. m.0) ms)
by_names [] = refl
by_names (m ∷ ms) = ap (λ (o : Option (List ℕ)). cond (is_key (string_bytes m.0)) o (Some (string_bytes m.0))) (by_names ms)

pub stops : (it ks : List (String Global)) (k : String Global) → it ≡ k ∷ ks → is_key (string_bytes k) ≡ false → unknown_name it ≡ Some (string_bytes k)
stops it ks k e unknown = rw (e, unknown) refl
