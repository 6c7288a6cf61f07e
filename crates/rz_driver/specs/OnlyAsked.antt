-- A driver whose nodes were asked for records, and nothing else.
use Rattle.std.specs.Prelude.{◌≡◌}
use Rattle.rz_disk.specs.declared.disk.Disk.{Ghosts}
use Rattle.rz_player.specs.Behind.{Before}
use Rattle.rz_driver.specs.declared.driver.Driver.{Driver}
use Rattle.rz_driver_nodes.specs.Images.{fused_image}
use Rattle.rz_driver.specs.Worlds.{HoldsBetweenTurns}
use Rattle.rz_driver_nodes.specs.Asked.{AreOnlyAsked, fused_text}

-- Of the driver: its nodes were asked, and the rest is as it was, with the export and the log.
pub record WasOnlyAsked {D : Type 0} {G : Ghosts D} (d e : Driver D G) : Type 0 where
  pub volume : e.volume ≡ d.volume
  pub agendas : e.agendas ≡ d.agendas
  pub turns : e.turns ≡ d.turns
  pub shared : e.shared ≡ record d.shared { servers = e.shared.servers }
  pub nodes : AreOnlyAsked (fused_text G.text) (fused_image G.image) d.shared.servers.items e.shared.servers.items

-- between two turns a driver held so, of which nothing but records was asked since
abbrev pub HeldSince : {D : Type 0} {G : Ghosts D} → Driver D G → Before → Type 0
HeldSince {D = D} {G = G} e b = (d : Driver D G) × HoldsBetweenTurns d b × WasOnlyAsked d e
