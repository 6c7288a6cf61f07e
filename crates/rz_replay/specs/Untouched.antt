-- What the nodes give of published blocks, between two turns of a play.
use Rattle.std.specs.Prelude.{◌≡◌, IsTrue, List, ◌++◌}
use Rattle.rz_disk.specs.UnderFuse.{UnderFuse}
use Rattle.rz_disk.specs.declared.disk.Disk.{Ghosts}
use Rattle.rz_events.specs.Volume.{Volume}
use Rattle.rz_events.specs.declared.events.Event.{Event}
use Rattle.rz_core.specs.HeldRecords.{block_of}
use Rattle.rz_core.specs.History.{facts, text_in}
use Rattle.rz_play.specs.World.{World}
use Rattle.rz_scrub_report.specs.Asks.{AreGiven}
use Rattle.rz_scrub_report.specs.Scrubs.{EachListed}
use Rattle.rz_driver_actors.specs.declared.actor_agenda.Agenda.{Agenda}
use Rattle.rz_nodes.specs.declared.formatting.Server.{Server}
use Rattle.rz_driver_nodes.specs.Fetches.{GivesIn}
use Rattle.rz_driver_nodes.specs.Asked.{fused_text}
use Rattle.rz_driver_nodes.specs.Images.{fused_image}
use Rattle.rz_driver.specs.Coherence.{IsCoherent}
use Rattle.rz_driver_nodes.specs.Servers.{state_in}

-- Of each published block the nodes give the projections of the text with which the write of its stamp began, in this run or in an
-- earlier one.
abbrev pub IsUntouchedLaw : {D : Type 0} → Ghosts D → Type 0
IsUntouchedLaw {D = D} G =
    (v : Volume) (old : List Event) (w : World) (agendas : List Agenda) (servers : List (Server (UnderFuse D))) → w.nodes ≡ state_in servers
    → IsCoherent (fused_image G.image) v old w agendas servers → IsTrue G.tells
    → EachListed w.export (λ l. AreGiven v.layout (GivesIn G.tells (fused_text G.text) servers) w.nodes l (block_of v.layout (text_in ((facts (w.log ++ old)).wrote l.published.stamp))))
