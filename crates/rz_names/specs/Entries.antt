-- Entries in the order of their keys, as the code keeps them.
use Rattle.std.specs.Prelude.{ℕ, suc, Bool, cond, List, [], ◌∷◌, Option, Some, None}
use Rattle.std.specs.declared.cmp.Ordering.{Ordering}
use Rattle.std.specs.Ordering.{eq_by_cmp}

-- how many entries at the front have keys that pass the test
abbrev pub run : {K X : Type 0} → (K → Bool) → List (K × X) → ℕ
run p [] = 0
run p (e ∷ es) = cond (p e.0) (suc (run p es)) 0

-- the value of the first entry, where its key is the one that is looked for
abbrev pub value_at : {K X : Type 0} → (K → K → Ordering) → K → List (K × X) → Option X
value_at R q [] = None
value_at R q (e ∷ es) = cond (eq_by_cmp R q e.0) (Some e.1) None
