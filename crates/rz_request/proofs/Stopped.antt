-- What words ask for that are refused.
use Rattle.std.proofs.Common.{ℕ, ◌≡◌, Option, Some, None, Err, ap, refl}
use Rattle.rz_request.specs.Line.{Meaning}
use Rattle.rz_request.specs.declared.refusal.Stop.{Stop}
use Rattle.rz_request.specs.declared.refusal.Stop.TheVariants as stops
use Rattle.rz_request.specs.declared.refusal.Refusal.TheVariants as refusals
use Rattle.rz_request.specs.declared.wishes.Wish.{Wish}
use Rattle.rz_request.specs.declared.wishes.Wish.TheVariants as wishes
use Rattle.rz_request.specs.Requests.{Asks, AsksFor, IsUnread, IsWished, Reading, wish_of}

-- a wish that is none, or memory that is wanted for one
abbrev Stops : Option Wish → Stop → Type 0
Stops w stops.NoMemory = Unit {0}
Stops w e = (w ≡ None) × (e ≡ stops.Refused refusals.Usage)

for_wish : (w : Option Wish) (m : Meaning) (source : Reading) (disks : ℕ) (e : Stop) → Stops w e → IsUnread source → AsksFor w (Some m) source disks (Err e)
for_wish None m source disks stops.NoMemory h u = (refl, u)
for_wish None m source disks stops.Source h u = (ap (λ x. Err x) h.1, u)
for_wish None m source disks (stops.Refused r) h u = (ap (λ x. Err x) h.1, u)
for_wish (Some wishes.Replay) m source disks stops.NoMemory h u = (tt, tt)
for_wish (Some wishes.Scrub) m source disks stops.NoMemory h u = (tt, tt)
for_wish (Some wishes.First) m source disks stops.NoMemory h u = (tt, tt)
for_wish (Some wishes.Again) m source disks stops.NoMemory h u = (tt, tt)
for_wish (Some (wishes.Load seed)) m source disks stops.NoMemory h u = (tt, tt, u)
for_wish (Some w) m source disks stops.Source h u = let e : Some w ≡ None = h.0 in cc
for_wish (Some w) m source disks (stops.Refused r) h u = let e : Some w ≡ None = h.0 in cc

stops_for : (m : Meaning) (e : Stop) → IsWished (Some m) (Err e) → Stops (wish_of m.command) e
stops_for m stops.NoMemory h = tt
stops_for m stops.Source h = h
stops_for m (stops.Refused r) h = h

pub asks_stopped : (m : Option Meaning) (source : Reading) (disks : ℕ) (e : Stop) → IsWished m (Err e) → IsUnread source → Asks m source disks (Err e)
asks_stopped None source disks stops.NoMemory h u = (h, u)
asks_stopped None source disks stops.Source h u = (ap (λ x. Err x) h.1, u)
asks_stopped None source disks (stops.Refused r) h u = (ap (λ x. Err x) h.1, u)
asks_stopped (Some m) source disks e h u = for_wish (wish_of m.command) m source disks e (stops_for m e h) u
