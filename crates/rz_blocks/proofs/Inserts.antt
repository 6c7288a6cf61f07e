-- Inserts at keys that are there.
use Rattle.std.proofs.Common.{◌≡◌, true, false, Option, None, is_some, Result, Ok, Err, is_ok, sym, ap, ◌∙◌, refl}
use Rattle.std.specs.Result.{OnOk, OnErr}

-- an insert at a key that is there succeeds
pub went-in : {A E V : Type 0} (r : Result A E) (o : Option V) → is_some o ≡ true → OnErr r (o ≡ None) → is_ok r ≡ true
went-in (Ok x) o there h = refl
went-in (Err e) o there h = let never : true ≡ false = sym there ∙ ap is_some h in cc

pub on-ok : {A E : Type 0} (r : Result A E) (P : Type 0) → OnOk r P → is_ok r ≡ true → P
on-ok (Ok x) P h is = h
on-ok (Err e) P h is = cc
