-- What stands on two sides, and on which a new one goes. It is said of all that has a stamp, as a version and a record.
use Rattle.std.specs.Prelude.{ℕ, Bool, false, ◌≢◌, ◌==◌, nat_lt, List, [], ◌∷◌, Option, Some, None, cond, refl}
use Rattle.std.specs.Coded.{Coded, code_by, coded×, coded_option}
use Rattle.rz_node_model.specs.Versions.{greater_goes}
use Rattle.rz_versions.specs.declared.versions.Version.{Version}
use Rattle.rz_versions.specs.declared.versions.Room.{Room}
use Rattle.rz_versions.specs.declared.versions.Room.TheVariants.{Put, Passed}
use Rattle.rz_versions.specs.contracts.versions.Version as versions

pub record Sides (A : Type 0) : Type 0 where
  pub zero : Option A
  pub one : Option A

abbrev pub sides_code : Coded (Sides Version)
sides_code =
    code_by (Option Version × Option Version) (coded× (coded_option versions.the_row.coded) (coded_option versions.the_row.coded))
    (λ s. (s.zero, s.one)) (λ p. record { zero = p.0; one = p.1 }) (λ _. refl)

abbrev pub version_stamp : Version → ℕ
version_stamp v = v.stamp

abbrev pub version_base : Version → ℕ
version_base v = v.base

-- what stands on a side, and on the other one
abbrev pub at : {A : Type 0} → Sides A → ℕ → Option A
at s side = cond (side == 0) s.zero s.one

abbrev pub other : {A : Type 0} → Sides A → ℕ → Option A
other s side = cond (side == 0) s.one s.zero

-- the sides with this on one of them
abbrev pub put_at : {A : Type 0} → Sides A → ℕ → Option A → Sides A
put_at s side new = record { zero = cond (side == 0) new s.zero; one = cond (side == 0) s.one new }

-- two options, the one of greater stamp first
abbrev pub ordered : {A : Type 0} → (A → ℕ) → Option A → Option A → List A
ordered stamp None None = []
ordered stamp (Some a) None = a ∷ []
ordered stamp None (Some b) = b ∷ []
ordered stamp (Some a) (Some b) = cond (nat_lt (stamp a) (stamp b)) (b ∷ a ∷ []) (a ∷ b ∷ [])

-- what stands on the sides, the greatest stamp first
abbrev pub in_order : {A : Type 0} → (A → ℕ) → Sides A → List A
in_order stamp s = ordered stamp s.zero s.one

abbrev pub first_of : {A : Type 0} → List A → Option A
first_of [] = None
first_of (a ∷ more) = Some a

-- it has a stamp
abbrev pub has : {A : Type 0} → (A → ℕ) → Option A → ℕ → Bool
has stamp None s = false
has stamp (Some a) s = stamp a == s

-- two have distinct stamps
abbrev pub Differ : {A : Type 0} → (A → ℕ) → Option A → Option A → Type 0
Differ stamp (Some a) (Some b) = stamp a ≢ stamp b
Differ stamp _ _ = Unit {0}

-- the side on which a stamp stands
abbrev pub side_with : {A : Type 0} → (A → ℕ) → Sides A → ℕ → Option ℕ
side_with stamp s t = cond (has stamp s.zero t) (Some 0) (cond (has stamp s.one t) (Some 1) None)

-- The side on which a new one goes: a free side, and of two the side of the one that gives way. Which one that is, `goes`
-- says of the stamps of the greater and the lesser: whether it is the greater.
abbrev pub side_among : {A : Type 0} → (A → ℕ) → (ℕ → ℕ → Bool) → Option A → Option A → ℕ
side_among stamp goes None one = 0
side_among stamp goes (Some a) None = 1
side_among stamp goes (Some a) (Some b) =
    cond (nat_lt (stamp a) (stamp b)) (cond (goes (stamp b) (stamp a)) 1 0) (cond (goes (stamp a) (stamp b)) 0 1)

abbrev pub side_for : {A : Type 0} → (A → ℕ) → (ℕ → ℕ → Bool) → Sides A → ℕ
side_for stamp goes s = side_among stamp goes s.zero s.one

-- the lesser gives way
abbrev pub never : ℕ → ℕ → Bool
never greater lesser = false

-- passed over, or put on a side
abbrev pub room : Option ℕ → ℕ → Room
room None side = Put side
room (Some held) side = Passed held

-- the rule of a keep with a base, or of a refill
abbrev pub goes_by : Option ℕ → ℕ → ℕ → Bool
goes_by None = never
goes_by (Some base) = greater_goes base
