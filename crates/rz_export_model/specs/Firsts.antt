-- The first of several things.
use Rattle.std.specs.Prelude.{Bool, List, [], ◌∷◌, cond, Option, Some, None}
use Rattle.std.specs.Option.{option_or}

-- the first value that is there
abbrev pub first_of : {A : Type 0} → List (Option A) → Option A
first_of [] = None
first_of (o ∷ os) = option_or o (first_of os)

-- the first value that `f` gives of an item
abbrev pub first_given : {X A : Type 0} → (X → Option A) → List X → Option A
first_given f [] = None
first_given f (x ∷ xs) = option_or (f x) (first_given f xs)

-- a value that is there exactly where the test passes
abbrev pub given_if : {A : Type 0} → Bool → A → Option A
given_if b x = cond b (Some x) None
