-- What is so of an outcome where something else is.
use Rattle.std.proofs.Common.{Result, Ok, Err}
use Rattle.std.specs.Prelude.{IfErr, IfOk}

pub ok-so : {T E : Type 0} (r : Result T E) (P Q : T → Type 0) → ((x : T) → P x → Q x) → IfOk r P → IfOk r Q
ok-so (Ok x) P Q so is = so x is
ok-so (Err e) P Q so is = tt

pub ok-both : {T E : Type 0} (r : Result T E) (P R Q : T → Type 0) → ((x : T) → P x → R x → Q x) → IfOk r P → IfOk r R → IfOk r Q
ok-both (Ok x) P R Q so is also = so x is also
ok-both (Err e) P R Q so is also = tt

pub err-so : {T E : Type 0} (r : Result T E) (P Q : E → Type 0) → ((e : E) → P e → Q e) → IfErr r P → IfErr r Q
err-so (Ok x) P Q so is = tt
err-so (Err e) P Q so is = so e is

pub err-both : {T E : Type 0} (r : Result T E) (P R Q : E → Type 0) → ((e : E) → P e → R e → Q e) → IfErr r P → IfErr r R → IfErr r Q
err-both (Ok x) P R Q so is also = tt
err-both (Err e) P R Q so is also = so e is also
