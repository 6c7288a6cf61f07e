-- What the script orders of an actor.
use Rattle.std.proofs.Common.{◌≡◌, ℕ, ◌<◌, Some, arith}
use Rattle.rz_events.specs.declared.keys.Actor.{Actor}
use Rattle.rz_events.specs.declared.keys.Actor.TheVariants.{Client, Rebuilder, Admin}
use Rattle.rz_driver.specs.Worlds.{place_of}
use Rattle.rz_driver.proofs.WorldLemmas.{client-place, rebuilder-place}

-- the place of an actor is one of the row
pub place-low : (by : Actor) (q : ℕ) → place_of by ≡ Some q → q < 80
place-low (Client m) q is = let r = client-place m q is in omega (arith, r.0, r.1, r.2)
place-low (Rebuilder m) q is = let r = rebuilder-place m q is in omega (arith, r.1, r.2)
place-low Admin q is = absurd (cc)
