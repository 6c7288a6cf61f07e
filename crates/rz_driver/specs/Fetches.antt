-- A driver as one sees it who scrubs it.
use Rattle.std.specs.Prelude.{ℕ, List}
use Rattle.rz_disk.specs.UnderFuse.{fused_meter}
use Rattle.rz_disk.specs.declared.disk.Disk.{Ghosts}
use Rattle.rz_events.specs.declared.keys.Key.{Key}
use Rattle.rz_events.specs.declared.records.Held.{Held}
use Rattle.rz_events.specs.declared.events.Event.{Event}
use Rattle.rz_metadata.specs.Stands.{export_in}
use Rattle.rz_scrub_report.specs.Stores.{State}
use Rattle.rz_driver.specs.declared.driver.Driver.{Driver}
use Rattle.rz_driver_nodes.specs.Meters.{AreMetered}
use Rattle.rz_driver_nodes.specs.Asked.{fused_text}
use Rattle.rz_driver_nodes.specs.Servers.{state_in}
use Rattle.rz_driver.specs.Worlds.{numbers_in}
use Rattle.rz_driver_nodes.specs.Fetches.{GivesIn}

abbrev pub state_of : {D : Type 0} {G : Ghosts D} → Driver D G → List Event → State
state_of d h = record { export = export_in d.shared.export; nodes = state_in d.shared.servers.items; events = h }

abbrev pub GivesOf : {D : Type 0} {G : Ghosts D} → Driver D G → ℕ → Key → Held → List ℕ → List ℕ → Type 0
GivesOf {G = G} d = GivesIn G.tells (fused_text G.text) d.shared.servers.items

-- each word of these events goes with its disk's meter
abbrev pub Metered : {D : Type 0} {G : Ghosts D} → Driver D G → List Event → (ℕ → ℕ) → Type 0
Metered {G = G} d = AreMetered (fused_meter G.meter) (numbers_in d) d.shared.servers.items
