-- A turn or an order that was not carried out, and what is left then.
use Rattle.std.proofs.Common.{◌≡◌, ℕ, ◌<◌, Bool, false, List, length, Option, Some, None, IfSome, refl, sym, ◌∙◌, ap, subst}
use Rattle.std.specs.Prelude.{slice_get}
use Rattle.std.specs.Vec.{vec_len}
use Rattle.std.proofs.lemmas.List.{length-map}
use Rattle.rz_disk.specs.Meter.{Meter}
use Rattle.rz_disk.specs.declared.disk.Disk.{Ghosts}
use Rattle.rz_disk.specs.UnderFuse.{UnderFuse}
use Rattle.rz_events.specs.Volume.{nodes_of}
use Rattle.rz_events.specs.declared.files.NodeSpec.{NodeSpec}
use Rattle.rz_events.specs.declared.keys.Actor.{Actor}
use Rattle.rz_events.specs.declared.export.Call.{Call}
use Rattle.rz_events.specs.declared.events.Event.{Event}
use Rattle.rz_metadata.specs.declared.journaled.JournalRefusal.{JournalRefusal}
use Rattle.rz_metadata.specs.declared.journaled.JournalRefusal.TheVariants.{Full, Failed}
use Rattle.rz_metadata.specs.declared.metadata.Metadata.{Metadata}
use Rattle.rz_metadata.specs.declared.metadata.Metadata.TheVariants.{InMemory, Journaled}
use Rattle.rz_metadata.specs.Journals.{IsRefused}
use Rattle.rz_metadata.specs.Stands.{CountsFaults, IsJournalOpen, is_journaled, refusal_of}
use Rattle.rz_operation.specs.Machine.{Machine, work_in}
use Rattle.rz_operation_model.specs.Ask.{ask_of}
use Rattle.rz_play.specs.Stops.{HasCause, IsChange, JournalRefused, most_turns}
use Rattle.rz_play.specs.World.{Agenda as APlayer, at_work}
use Rattle.rz_player.specs.Behind.{Before}
use Rattle.rz_player.specs.Ends.{EndsAfter, IsCut, StaysTrue}
use Rattle.rz_driver_actors.specs.Agendas.{agenda_of}
use Rattle.rz_driver_actors.specs.Stores.{Asks, AsksNothing, TurnsExport}
use Rattle.rz_driver_actors.specs.declared.actor_agenda.Agenda.{Agenda}
use Rattle.rz_driver.specs.declared.driver.Driver.{Driver}
use Rattle.rz_driver.specs.Endings.{end_by}
use Rattle.rz_nodes.specs.declared.formatting.Server.{Server}
use Rattle.rz_driver.specs.Worlds.{HasCounted, HoldsBetweenTurns, IsDriver, LeavesAtEnd, place_of, world_of}
use Rattle.rz_driver.proofs.WorldLemmas.{agenda-here}

-- a journal that is open refused nothing
pub refused-none : {D : Type 0} (m : Metadata D) → IsJournalOpen m → IsRefused (refusal_of m) None
refused-none (InMemory s) is_open = refl
refused-none (Journaled j) is_open = subst (λ (why : Option JournalRefusal). IsRefused why None) (sym is_open.unrefused) refl

-- a play ends as its journal says
pub ends-after : (why : Option JournalRefusal) (refused : Option Call) → IsRefused why refused → EndsAfter (end_by why) refused
ends-after None refused is = is
ends-after (Some Full) refused is = is
ends-after (Some Failed) refused is = is

-- there is a server for each node
pub each-server : {D : Type 0} {G : Ghosts D} (d : Driver D G) → IsDriver d → vec_len d.shared.servers ≡ length (nodes_of d.volume.clusters)
each-server {D = D} d ready =
    d.shared.servers.ok.0 ∙ sym (length-map d.shared.servers.items (λ (s : Server (UnderFuse D)). s.sid)) ∙ ap length ready.numbers ∙ length-map (nodes_of d.volume.clusters) (λ (n : NodeSpec). n.sid)

-- the journal was asked nothing
pub uncut : {D : Type 0} {G : Ghosts D} (d e : Driver D G) (stops : Call → Before → Type 0) → IsJournalOpen e.shared.export → StaysTrue (HoldsBetweenTurns d) (LeavesAtEnd e None)
    → IsCut (end_by (refusal_of e.shared.export)) (HoldsBetweenTurns d) (LeavesAtEnd e) stops
uncut d e stops is_open left = record {
  refused = None;
  ends = ends-after (refusal_of e.shared.export) None (refused-none e.shared.export is_open);
  left = left;
  stopped = λ c is. cc;
}

-- after a turn a journal that was open is so still
pub turn-open : {D : Type 0} (tells : Bool) (meter : D → Meter) (image : D → List ℕ → Type 0) (by : Actor) (machine : Option Machine) (m m' : Metadata D) (h h' : List Event) → TurnsExport tells meter image by machine m m' h h' → IsJournalOpen m → IsJournalOpen m'
turn-open tells meter image by machine m m' h h' (Asks asker c is asks keeps note) is_open = keeps.is_open is_open
turn-open tells meter image by machine m m' h h' (AsksNothing same words) is_open = subst IsJournalOpen (sym same) is_open

-- the call that the journal refused is that of the turn
pub turn-cause : {D : Type 0} {G : Ghosts D} (by : Actor) (place : ℕ) (d f : Driver D G) → d ≡ f → (a0 a : Agenda) (refused : Option Call) → place_of by ≡ Some place → slice_get d.agendas.items place ≡ Some a0
    → agenda_of a ≡ at_work (agenda_of a0) → d.turns < most_turns → IfSome refused (IsChange (ask_of d.volume.layout (work_in a.machine))) → (c : Call) → refused ≡ Some c → HasCause f.volume (JournalRefused c) (world_of f) by
turn-cause {D = D} {G = G} by place d f is a0 a refused at here taken few change c refused_is =
    let there : agenda_of a ≡ at_work ((world_of d).agendas by) = taken ∙ ap at_work (sym (agenda-here d.agendas.items by place a0 at here)) in
    let asked : IsChange (ask_of d.volume.layout (work_in a.machine)) c = subst (λ (o : Option Call). IfSome o (IsChange (ask_of d.volume.layout (work_in a.machine)))) refused_is change in
    subst (λ (x : Driver D G). HasCause x.volume (JournalRefused c) (world_of x) by) is (few, subst (λ (s : APlayer). IsChange (ask_of d.volume.layout s.work) c) there asked)

-- an export in memory counts on no disk
in-memory : {D : Type 0} (meter : D → Meter) (m : Metadata D) (first : ℕ) → is_journaled m ≡ false → CountsFaults meter first m
in-memory meter (InMemory s) first is = tt
in-memory meter (Journaled j) first is = cc

pub counts-none : {D : Type 0} {G : Ghosts D} (d : Driver D G) → IsDriver d → is_journaled d.shared.export ≡ false → (first : ℕ) → HasCounted d first
counts-none {G = G} d ready memory first = record { each = each-server d ready; journal = in-memory G.meter d.shared.export first memory }
