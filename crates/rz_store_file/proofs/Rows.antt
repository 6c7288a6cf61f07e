-- Values that are written one after another.
use Rattle.std.proofs.Common.{◌≡◌, ℕ, ◌+◌, ◌<◌, List, [], ◌∷◌, ◌++◌, length, get_or, take, map, refl}
use Rattle.std.proofs.lemmas.List.{map-append, take_more}
use Rattle.serde_json.specs.Data.{Data}
use Rattle.serde_json.specs.View.{view}
use Rattle.serde_json.specs.declared.value.Value.{Value}

-- one more value is that of the next
pub pushed : {X : Type 0} (f : X → Data) (written more : List Value) (v : Value) (xs : List X) (i : ℕ) (d : X) → i < length xs → map view written ≡ map f (take i xs)
    → view v ≡ f (get_or xs i d) → more ≡ written ++ v ∷ [] → map view more ≡ map f (take (i + 1) xs)
pushed f written more v xs i d lt before here is = rw (is, take_more xs i d lt, map-append, map-append, before, here) refl
