-- The actors of a script are all different, and none of them is the administrator.
use Rattle.std.proofs.Common.{◌≡◌, ℕ, zero, suc, ◌+◌, ◌<◌, Bool, true, false, cond, List, [], ◌∷◌, ◌++◌, map, refl, sym, ap, arith}
use Rattle.std.proofs.lemmas.Bool.{eqb-true, ne_eqb}
use Rattle.std.specs.Prelude.{◌==◌}
use Rattle.std.specs.List.{AllByRecursion, range_with_len}
use Rattle.rz_events.specs.declared.keys.Actor.{Actor}
use Rattle.rz_events.specs.declared.keys.Actor.TheVariants.{Client, Rebuilder, Admin}
use Rattle.rz_events.specs.declared.events.Event.{Event}
use Rattle.rz_events.specs.Events.{by_of, same_actor}
use Rattle.rz_core.specs.History.{of_actor}
use Rattle.rz_play.specs.World.{actors}

-- each of these is none of those after it, nor the administrator
abbrev pub AreApart : List Actor → Type 0
AreApart [] = Unit {0}
AreApart (a ∷ more) = (same_actor a Admin ≡ false) × AllByRecursion (λ b. same_actor b a ≡ false) more × AreApart more

-- later numbers are others
later : (n k : ℕ) → n < k → (k == n) ≡ false
later n k more = ne_eqb k n (λ is. omega (arith, more, is))

later-clients : (n from count : ℕ) (more : List Actor) → n < from → AllByRecursion (λ b. same_actor b (Client n) ≡ false) more
    → AllByRecursion (λ b. same_actor b (Client n) ≡ false) (map Client (range_with_len from count) ++ more)
later-clients n from zero more low all = all
later-clients n from (suc count) more low all = (later n from low, later-clients n (from + 1) count more (omega (arith, low)) all)

no-clients : (n from count : ℕ) → AllByRecursion (λ b. same_actor b (Client n) ≡ false) (map Rebuilder (range_with_len from count))
no-clients n from zero = tt
no-clients n from (suc count) = (refl, no-clients n (from + 1) count)

later-rebuilders : (n from count : ℕ) → n < from → AllByRecursion (λ b. same_actor b (Rebuilder n) ≡ false) (map Rebuilder (range_with_len from count))
later-rebuilders n from zero low = tt
later-rebuilders n from (suc count) low = (later n from low, later-rebuilders n (from + 1) count (omega (arith, low)))

rebuilders-apart : (from count : ℕ) → AreApart (map Rebuilder (range_with_len from count))
rebuilders-apart from zero = tt
rebuilders-apart from (suc count) = (refl, later-rebuilders from (from + 1) count (omega arith), rebuilders-apart (from + 1) count)

clients-apart : (from count : ℕ) → AreApart (map Client (range_with_len from count) ++ map Rebuilder (range_with_len 1 16))
clients-apart from zero = rebuilders-apart 1 16
clients-apart from (suc count) =
    (refl, later-clients from (from + 1) count (map Rebuilder (range_with_len 1 16)) (omega arith) (no-clients from 1 16), clients-apart (from + 1) count)

pub actors-apart : AreApart actors
actors-apart = clients-apart 1 64

-- An actor's own events are by that actor.

same-actor : (a b : Actor) → same_actor a b ≡ true → b ≡ a
same-actor (Client n) (Client m) is = ap Client (sym (eqb-true n m is))
same-actor (Client n) (Rebuilder m) is = cc
same-actor (Client n) Admin is = cc
same-actor (Rebuilder n) (Rebuilder m) is = ap Rebuilder (sym (eqb-true n m is))
same-actor (Rebuilder n) (Client m) is = cc
same-actor (Rebuilder n) Admin is = cc
same-actor Admin Admin is = refl
same-actor Admin (Client m) is = cc
same-actor Admin (Rebuilder m) is = cc

pub own-by : (a : Actor) (history : List Event) → AllByRecursion (λ x. by_of x ≡ a) (of_actor a history)
own-by a [] = tt
own-by a (x ∷ history) = go (same_actor a (by_of x)) refl (own-by a history)
  where
    go : (b : Bool) → same_actor a (by_of x) ≡ b → AllByRecursion (λ y. by_of y ≡ a) (of_actor a history) → AllByRecursion (λ y. by_of y ≡ a) (cond b (x ∷ of_actor a history) (of_actor a history))
    go true is rest = (same-actor a (by_of x) is, rest)
    go false is rest = rest
