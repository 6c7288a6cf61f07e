-- What a tree stands for.
use Rattle.std.specs.Prelude.{ℕ, ◌≡◌, ◌++◌, ◌∷◌, Bool, List, [], length, Option, Some, None, Box}
use Rattle.std.specs.List.{list_any}

-- the items below a root, in their order
abbrev pub items_of : {T A : Type 0} → Option (Box (List T) A) → List T
items_of None = []
items_of (Some tree) = tree.value

-- what a tree keeps of its items: how many they are, and whether one is marked
pub record IsRight {T : Type 0} (is_marked : T → Bool) (left : List T) (item : T) (right : List T) (len : ℕ) (marked : Bool) : Type 0 where
  pub counted : len ≡ length (left ++ item ∷ right)
  pub noted : marked ≡ list_any is_marked (left ++ item ∷ right)
