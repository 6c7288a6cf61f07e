-- A driver's log beside the meters of its disks.
use Rattle.std.proofs.Common.{◌≡◌, List, Option, inl, inr, sym, subst}
use Rattle.rz_events.specs.declared.export.Call.{Call}
use Rattle.rz_events.specs.declared.events.Event.{Event}
use Rattle.rz_disk.specs.declared.disk.Disk.{Ghosts}
use Rattle.rz_disk.specs.UnderFuse.{fused_meter}
use Rattle.rz_player.specs.Behind.{Before}
use Rattle.rz_driver.specs.declared.driver.Driver.{Driver}
use Rattle.rz_driver.specs.Worlds.{numbers_in, IsDriver, HoldsBetweenTurns, LeavesAtEnd}
use Rattle.rz_driver_nodes.specs.Meters.{AreMetered, AreCounted}
use Rattle.rz_driver_nodes.proofs.MeterLemmas.{metered-counts}

-- the faults are counted where a play ended
pub leaves-counted : {D : Type 0} {G : Ghosts D} (d : Driver D G) (refused : Option Call) (b : Before) → LeavesAtEnd d refused b → AreCounted (fused_meter G.meter) (numbers_in d) d.shared.servers.items d.shared.log.events b.counts
leaves-counted {G = G} d refused b (inl held) = metered-counts (fused_meter G.meter) b.counts (numbers_in d) d.shared.servers.items d.shared.log.events held.0.0
leaves-counted {G = G} d refused b (inr left) = left.0

-- the log of a driver was not changed
pub log-kept : {D : Type 0} {G : Ghosts D} (d : Driver D G) → IsDriver d → (h : List Event) (b : Before) → h ≡ d.shared.log.events → HoldsBetweenTurns d b
    → AreMetered (fused_meter G.meter) (numbers_in d) d.shared.servers.items h b.counts
log-kept {G = G} d ready h b same met = subst (λ (k : List Event). AreMetered (fused_meter G.meter) (numbers_in d) d.shared.servers.items k b.counts) (sym same) met.0
