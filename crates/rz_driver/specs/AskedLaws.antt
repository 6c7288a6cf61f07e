-- One ask more of a driver's nodes, or none: the laws of a driver as a store. They stand here since an impl can cite the specs of its
-- crate alone.
use Rattle.std.proofs.Common.{◌∙◌, ap, refl}
use Rattle.rz_disk.specs.UnderFuse.{UnderFuse}
use Rattle.rz_disk.specs.declared.disk.Disk.{Ghosts}
use Rattle.rz_driver.specs.declared.driver.Driver.{Driver}
use Rattle.rz_driver_actors.specs.declared.shared.Shared.{Shared}
use Rattle.rz_driver_nodes.specs.Asked.{fused_text}
use Rattle.rz_driver.specs.OnlyAsked.{WasOnlyAsked}
use Rattle.rz_driver_nodes.specs.Images.{fused_image}
use Rattle.rz_driver_nodes.proofs.AskedLaws.{all-themselves, all-then}

pub asked-itself : {D : Type 0} {G : Ghosts D} (d : Driver D G) → WasOnlyAsked d d
asked-itself {G = G} d = record { volume = refl; agendas = refl; turns = refl; shared = refl; nodes = all-themselves (fused_text G.text) (fused_image G.image) d.shared.servers.items }

pub asked-then : {D : Type 0} {G : Ghosts D} (a b c : Driver D G) → WasOnlyAsked a b → WasOnlyAsked b c → WasOnlyAsked a c
asked-then {D = D} {G = G} a b c p q = record {
  volume = q.volume ∙ p.volume;
  agendas = q.agendas ∙ p.agendas;
  turns = q.turns ∙ p.turns;
  shared = q.shared ∙ ap (λ (s : Shared (UnderFuse D) D). let r : Shared (UnderFuse D) D = record s { servers = c.shared.servers } in r) p.shared;
  nodes = all-then (fused_text G.text) (fused_image G.image) a.shared.servers.items b.shared.servers.items c.shared.servers.items p.nodes q.nodes;
}
