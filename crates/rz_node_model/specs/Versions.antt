-- The versions of one block: a list of one or two, the greatest stamp first, or the empty list. The rule by which one
-- of two gives way to a new one stands here alone. It is one rule for all that has a stamp, as a version of a node, a
-- record and a bare stamp of the log: `stamp` and `base` say how the two numbers are read of a version.
use Rattle.std.specs.Prelude.{ℕ, Bool, false, ◌==◌, ◌&&◌, ◌||◌, ◌≡◌, ◌⊎◌, ◌<◌, ◌≤◌, nat_lt, nat_le, List, [], ◌∷◌, Option, Some, None, cond}
use Rattle.std.specs.List.{AllByRecursion}

-- Of two versions the greater gives way to a new one that began when `base` was published, where the lesser may be
-- what was published then and the greater came later. Otherwise the lesser gives way.
abbrev pub greater_goes : ℕ → ℕ → ℕ → Bool
greater_goes base greater lesser = nat_le lesser base && nat_lt base greater

-- The versions after a keep of a new one, whose stamp is above all of them.
abbrev pub kept : {A : Type 0} → (A → ℕ) → ℕ → A → List A → List A
kept stamp base new [] = new ∷ []
kept stamp base new (a ∷ []) = new ∷ a ∷ []
kept stamp base new (greater ∷ lesser ∷ more) =
    cond (greater_goes base (stamp greater) (stamp lesser)) (new ∷ lesser ∷ []) (new ∷ greater ∷ [])

-- The versions after a refill of a new one, whose stamp is not among them. Of two the lesser gives way.
abbrev pub refilled : {A : Type 0} → (A → ℕ) → A → List A → List A
refilled stamp new [] = new ∷ []
refilled stamp new (greater ∷ more) =
    cond (nat_lt (stamp greater) (stamp new)) (new ∷ greater ∷ []) (greater ∷ new ∷ [])

-- The versions after a drop of the one with stamp s.
abbrev pub without : {A : Type 0} → (A → ℕ) → ℕ → List A → List A
without stamp s [] = []
without stamp s (a ∷ more) = cond (stamp a == s) more (a ∷ without stamp s more)

-- a version has stamp s
abbrev pub has_stamp : {A : Type 0} → (A → ℕ) → ℕ → List A → Bool
has_stamp stamp s [] = false
has_stamp stamp s (a ∷ more) = (stamp a == s) || has_stamp stamp s more

-- Two versions above s are there, and the lesser of them is at most the base of the greater: a write of stamp s is out
-- of date.
abbrev pub is_past : {A : Type 0} → (A → ℕ) → (A → ℕ) → ℕ → List A → Bool
is_past stamp base s [] = false
is_past stamp base s (a ∷ []) = false
is_past stamp base s (greater ∷ lesser ∷ more) =
    nat_lt s (stamp greater) && nat_lt s (stamp lesser) && nat_le (stamp lesser) (base greater)

-- The greatest stamp, where a keep of s is passed over: it is at least s.
abbrev pub passes_keep : {A : Type 0} → (A → ℕ) → ℕ → List A → Option ℕ
passes_keep stamp s [] = None
passes_keep stamp s (greatest ∷ more) = cond (nat_le s (stamp greatest)) (Some (stamp greatest)) None

-- The greatest stamp, where a refill of s is passed over: s is there, or is out of date.
abbrev pub passes_refill : {A : Type 0} → (A → ℕ) → (A → ℕ) → ℕ → List A → Option ℕ
passes_refill stamp base s [] = None
passes_refill stamp base s (greatest ∷ more) =
    cond (has_stamp stamp s (greatest ∷ more) || is_past stamp base s (greatest ∷ more)) (Some (stamp greatest)) None

-- the version of smaller stamp, also where there is one alone
abbrev pub lesser_of : {A : Type 0} → List A → Option A
lesser_of [] = None
lesser_of (a ∷ []) = Some a
lesser_of (greater ∷ lesser ∷ more) = Some lesser

-- The same as facts about a list of stamps.

-- s is above each stamp
abbrev pub IsAbove : ℕ → List ℕ → Type 0
IsAbove s held = AllByRecursion (λ t. t < s) held

-- s is one of these numbers
abbrev pub Stands : ℕ → List ℕ → Type 0
Stands s [] = ⊥
Stands s (t ∷ ts) = (t ≡ s) ⊎ Stands s ts

-- two stamps above s are held, and the lesser is at most the base of the greater
abbrev pub IsPast : (ℕ → ℕ) → ℕ → List ℕ → Type 0
IsPast base s [] = ⊥
IsPast base s (a ∷ []) = ⊥
IsPast base s (greater ∷ lesser ∷ more) = (s < greater) × (s < lesser) × (lesser ≤ base greater)

-- s is the lesser of these stamps
abbrev pub IsLesser : ℕ → List ℕ → Type 0
IsLesser s [] = ⊥
IsLesser s (a ∷ []) = a ≡ s
IsLesser s (greater ∷ lesser ∷ more) = lesser ≡ s

-- the greatest of these stamps, or 0
abbrev pub greatest : List ℕ → ℕ
greatest [] = 0
greatest (s ∷ held) = s

-- something is held
abbrev pub IsHeld : List ℕ → Type 0
IsHeld [] = ⊥
IsHeld (s ∷ held) = Unit {0}
