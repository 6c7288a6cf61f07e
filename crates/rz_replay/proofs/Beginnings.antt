-- What a driver of a request begins with, by the wish.
use Rattle.std.proofs.Common.{ℕ, false, ◌≡◌, ◌≢◌, ◌⊎◌, inl, inr, List, [], refl, sym, subst}
use Rattle.rz_disk.specs.declared.disk.Disk.{Ghosts}
use Rattle.rz_events.specs.Volume.{Volume}
use Rattle.rz_node_model.specs.States.{NodeState, fresh}
use Rattle.rz_export_model.specs.Export.{Export, new_export}
use Rattle.rz_metadata.specs.Stands.{export_in}
use Rattle.rz_driver_nodes.specs.Meters.{faults_at}
use Rattle.rz_driver_nodes.specs.Servers.{state_in}
use Rattle.rz_driver.specs.declared.driver.Driver.{Driver}
use Rattle.rz_driver.specs.Worlds.{HoldsBetweenTurns, anew, world_of}
use Rattle.rz_play.specs.World.{new_world, world_after}
use Rattle.rz_request.specs.declared.wishes.Wish.{Wish}
use Rattle.rz_request.specs.declared.wishes.Wish.TheVariants.{Replay, Load, Scrub, First, Again}
use Rattle.rz_replay.specs.Drivers.{BeginsAs, GoesOnOver, has_journal}

module _ {D : Type 0} {G : Ghosts D} (v : Volume) (disks : List D) (d : Driver D G) where
  -- a new driver
  pub begins-anew : (wish : Wish) → wish ≢ Again → BeginsAs wish v disks d → (world_of d ≡ new_world v) × HoldsBetweenTurns d (anew (faults_at G.meter disks))
  begins-anew Replay other begins = begins
  begins-anew (Load seed) other begins = begins
  begins-anew Scrub other begins = begins
  begins-anew First other begins = begins
  begins-anew Again other begins = absurd (other refl)

  -- one that goes on
  pub begins-again : (wish : Wish) → wish ≡ Again → BeginsAs wish v disks d → GoesOnOver v disks d
  begins-again wish is begins = subst (λ (w : Wish). BeginsAs w v disks d) is begins

  -- nothing was played
  pub first-world : (wish : Wish) → BeginsAs wish v disks d → (nodes : ℕ → NodeState) × (export : Export) × (world_of d ≡ world_after nodes export [])
  first-world Again begins = (state_in d.shared.servers.items, export_in d.shared.export, begins.world)
  first-world Replay begins = ((λ n. fresh), new_export v 0, begins.0)
  first-world (Load seed) begins = ((λ n. fresh), new_export v 0, begins.0)
  first-world Scrub begins = ((λ n. fresh), new_export v 0, begins.0)
  first-world First begins = ((λ n. fresh), new_export v 0, begins.0)

-- a wish that wants no journal
abbrev pub IsPlain : Wish → Type 0
IsPlain First = ⊥
IsPlain Again = ⊥
IsPlain wish = Unit {0}

pub plain-wish : (wish : Wish) → (wish ≡ Replay) ⊎ ((wish ≡ Scrub) ⊎ ((seed : ℕ) × (wish ≡ Load seed))) → IsPlain wish
plain-wish wish (inl is) = subst IsPlain (sym is) tt
plain-wish wish (inr (inl is)) = subst IsPlain (sym is) tt
plain-wish wish (inr (inr is)) = subst IsPlain (sym is.1) tt

pub begins-plain : {D : Type 0} {G : Ghosts D} (v : Volume) (disks : List D) (d : Driver D G) (wish : Wish) → IsPlain wish → (world_of d ≡ new_world v) × HoldsBetweenTurns d (anew (faults_at G.meter disks)) → BeginsAs wish v disks d
begins-plain v disks d Replay plain begins = begins
begins-plain v disks d (Load seed) plain begins = begins
begins-plain v disks d Scrub plain begins = begins
begins-plain v disks d First plain begins = absurd plain
begins-plain v disks d Again plain begins = absurd plain

pub plain-unjournaled : (wish : Wish) → IsPlain wish → has_journal wish ≡ false
plain-unjournaled Replay plain = refl
plain-unjournaled (Load seed) plain = refl
plain-unjournaled Scrub plain = refl
plain-unjournaled First plain = absurd plain
plain-unjournaled Again plain = absurd plain

-- without a journal
pub unjournaled : (wish : Wish) → wish ≢ First → wish ≢ Again → has_journal wish ≡ false
unjournaled Replay first again = refl
unjournaled (Load seed) first again = refl
unjournaled Scrub first again = refl
unjournaled First first again = absurd (first refl)
unjournaled Again first again = absurd (again refl)
