-- Where the first of several is none.
use Rattle.std.proofs.Common.{◌≡◌, Bool, true, false, not, Option, Some, None, refl}
use Rattle.std.specs.Option.{option_or}
use Rattle.rz_export_model.specs.Firsts.{given_if}

-- the first of no faults
pub none_first : {A : Type 0} (a b : Option A) → option_or a b ≡ None → (a ≡ None) × (b ≡ None)
none_first None b k = (refl, k)
none_first (Some x) b k = cc

pub none_if : {A : Type 0} (b : Bool) (x : A) → given_if b x ≡ None → b ≡ false
none_if true x k = cc
none_if false x k = refl

pub none_unless : {A : Type 0} (b : Bool) (x : A) → given_if (not b) x ≡ None → b ≡ true
none_unless true x k = refl
none_unless false x k = cc
