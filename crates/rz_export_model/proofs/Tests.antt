-- What tests of truths and of orders tell.
use Rattle.std.proofs.Common.{◌≡◌, Bool, true, false, ◌&&◌, T, Ordering, refl}
use Rattle.std.specs.declared.cmp.Ordering.TheVariants.{Less, Equal, Greater}
use Rattle.std.specs.Ordering.{is_eq, is_lt}

pub left : (a b : Bool) → T (a && b) → T a
left true b h = tt
left false b h = absurd h

pub right : (a b : Bool) → T (a && b) → T b
right true b h = h
right false b h = absurd h

pub both : (a b : Bool) → T a → T b → T (a && b)
both true b p q = q
both false b p q = absurd p

pub is_less : (r : Ordering) → T (is_lt r) → r ≡ Less
is_less Less h = refl
is_less Equal h = absurd h
is_less Greater h = absurd h

pub eq_true : (r : Ordering) → is_eq r ≡ true → r ≡ Equal
eq_true Less h = cc
eq_true Equal h = refl
eq_true Greater h = cc
