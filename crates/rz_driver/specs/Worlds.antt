-- The world of a play that a driver stands for.
use Rattle.std.proofs.Common.{refl, sym, subst}
use Rattle.std.specs.Prelude.{ℕ, Bool, true, false, IsTrue, ◌≡◌, ◌+◌, ◌-◌, ◌^◌, ◌<◌, ◌≤◌, ◌⊎◌, ◌&&◌, nat_le, map, List, [], ◌++◌, length, Option, Some, None, slice_get}
use Rattle.std.specs.List.{AllByRecursion}
use Rattle.std.specs.Vec.{vec_len}
use Rattle.std.specs.FinMap.{get}
use Rattle.mj_angles.specs.Layout.{max_bins_of}
use Rattle.rz_disk.specs.declared.disk.Disk.{Ghosts}
use Rattle.rz_events.specs.Volume.{nodes_of}
use Rattle.rz_events.specs.declared.files.NodeSpec.{NodeSpec}
use Rattle.rz_events.specs.declared.export.Call.{Call}
use Rattle.rz_events.specs.declared.events.Event.{Event}
use Rattle.rz_events.specs.declared.keys.Actor.{Actor}
use Rattle.rz_events.specs.declared.keys.Actor.TheVariants.{Client, Rebuilder, Admin}
use Rattle.rz_locks.specs.Held.{Held}
use Rattle.rz_player.specs.Behind.{Before}
use Rattle.rz_metadata.specs.Journals.{IsRefused}
use Rattle.rz_metadata.specs.Stands.{CountsFaults, IsJournalOpen, export_in, refusal_of}
use Rattle.rz_play.specs.World.{World, Agenda as APlayer, empty_agenda}
use Rattle.rz_driver_actors.specs.declared.actor_agenda.Agenda.{Agenda}
use Rattle.rz_driver_actors.specs.declared.shared.Shared.{Shared}
use Rattle.rz_driver.specs.declared.driver.Driver.{Driver}
use Rattle.rz_driver_actors.specs.Agendas.{agenda_of, IsAgenda}
use Rattle.rz_disk.specs.UnderFuse.{fused_meter}
use Rattle.rz_driver_nodes.specs.Meters.{AreMetered, AreCounted}
use Rattle.rz_driver_nodes.specs.Images.{IsServerRight, fused_image}
use Rattle.rz_driver.specs.Journals.{StandsForJournal, LeavesJournal}
use Rattle.rz_driver.specs.Coherence.{IsCoherent}
use Rattle.rz_driver_nodes.specs.Servers.{state_in, numbers_of, IsServer}

-- Actors stand in a row, the clients 1 to 64 and then the rebuilders 1 to 16.

abbrev pub place_if : Bool → ℕ → Option ℕ
place_if true place = Some place
place_if false place = None

abbrev pub place_of : Actor → Option ℕ
place_of (Client n) = place_if (nat_le 1 n && nat_le n 64) (n - 1)
place_of (Rebuilder n) = place_if (nat_le 1 n && nat_le n 16) (n + 63)
place_of Admin = None

abbrev pub agenda_there : Option Agenda → APlayer
agenda_there None = empty_agenda
agenda_there (Some s) = agenda_of s

abbrev pub agenda_at : List Agenda → Option ℕ → APlayer
agenda_at agendas None = empty_agenda
agenda_at agendas (Some place) = agenda_there (slice_get agendas place)

abbrev pub agenda_in : List Agenda → Actor → APlayer
agenda_in agendas by = agenda_at agendas (place_of by)

-- what is there between two turns
abbrev pub world : {D J : Type 0} → Shared D J → List Agenda → ℕ → World
world p agendas turns = record {
  nodes = state_in p.servers.items;
  export = export_in p.export;
  agendas = agenda_in agendas;
  turns = turns;
  lost = p.lost;
  log = p.log.events;
}

abbrev pub world_of : {D : Type 0} {G : Ghosts D} → Driver D G → World
world_of d = world d.shared d.agendas.items d.turns

-- the locks are those that the clients note as their own
abbrev pub AreLocks : Held → List Agenda → Type 0
AreLocks locks agendas = (n : ℕ) → get locks n ≡ (agenda_in agendas (Client n)).lock

-- a rebuilder has no lock
abbrev pub HaveNoLocks : List Agenda → Type 0
HaveNoLocks agendas = (n : ℕ) → (agenda_in agendas (Rebuilder n)).lock ≡ None

-- A driver between two turns.
pub record IsDriver {D : Type 0} {G : Ghosts D} (d : Driver D G) : Type 0 where
  pub servers : AllByRecursion (IsServer d.volume) d.shared.servers.items
  pub numbers : numbers_of d.shared.servers.items ≡ map (λ (n : NodeSpec). n.sid) (nodes_of d.volume.clusters)
  pub bins : max_bins_of d.volume.layout ≤ length d.shared.bins.items
  pub agendas : AllByRecursion (IsAgenda d.volume.layout) d.agendas.items
  pub count : length d.agendas.items ≡ 80
  pub locks : AreLocks d.shared.locks d.agendas.items
  pub no_locks : HaveNoLocks d.agendas.items
  pub journal : IsJournalOpen d.shared.export

-- the numbers of the volume's nodes
abbrev pub numbers_in : {D : Type 0} {G : Ghosts D} → Driver D G → List ℕ
numbers_in d = map (λ (n : NodeSpec). n.sid) (nodes_of d.volume.clusters)

-- Before a play that goes on after a log, where the disks had counted so many faults. That it was the log of the earlier runs is
-- known by what disks tell.
abbrev pub left_behind : (ℕ → ℕ) → List Event → Before
left_behind counts old = record { counts = counts; log = old; known = false }

-- before one that begins anew
abbrev pub anew : (ℕ → ℕ) → Before
anew counts = record { counts = counts; log = []; known = true }

-- The log of the earlier runs is known: of disks that do not tell their texts only where there were none.
abbrev pub is_known : (tells : Bool) → Before → Bool
is_known true b = true
is_known false b = b.known

pub tells-known : (tells : Bool) (b : Before) → IsTrue tells → is_known tells b ≡ true
tells-known tells b told = subst (λ (t : Bool). is_known t b ≡ true) (sym told) refl

-- it is short enough
pub record GoesAfter (b : Before) : Type 0 where
  pub short : length b.log < 2 ^ 63 + 512

-- where disks tell their texts, and the whole log has room for an event more, actors and disks are right beside it
abbrev pub IsCoherentAfter : {D : Type 0} {G : Ghosts D} → Driver D G → List Event → Type 0
IsCoherentAfter {G = G} d old =
    IsTrue G.tells → length (d.shared.log.events ++ old) < 2 ^ 64 - 1 → IsCoherent (fused_image G.image) d.volume old (world_of d) d.agendas.items d.shared.servers.items

-- then each disk is right by the whole log
abbrev pub HasRightDisks : {D : Type 0} {G : Ghosts D} → Driver D G → List Event → Type 0
HasRightDisks {G = G} d old =
    IsTrue G.tells → length (d.shared.log.events ++ old) < 2 ^ 64 - 1 → AllByRecursion (IsServerRight (fused_image G.image) d.volume (d.shared.log.events ++ old)) d.shared.servers.items

-- There is a server for each node. The disk of a journal has counted no fewer faults than at first, and more where it failed for a call.
pub record HasCounted {D : Type 0} {G : Ghosts D} (d : Driver D G) (first : ℕ) : Type 0 where
  pub each : vec_len d.shared.servers ≡ length (nodes_of d.volume.clusters)
  pub journal : CountsFaults G.meter first d.shared.export

-- between two turns each word of the log goes with its disk's meter, and a journal stands for the calls that the whole log tells
abbrev pub HoldsBetweenTurns : {D : Type 0} {G : Ghosts D} → Driver D G → Before → Type 0
HoldsBetweenTurns {G = G} d b =
    AreMetered (fused_meter G.meter) (numbers_in d) d.shared.servers.items d.shared.log.events b.counts × IsCoherentAfter d b.log × (is_known G.tells b ≡ true → StandsForJournal d b) × GoesAfter b

-- where a play ended they do, or the faults of each word are counted, and a journal may have refused this call
abbrev pub LeavesAtEnd : {D : Type 0} {G : Ghosts D} → Driver D G → (refused : Option Call) → Before → Type 0
LeavesAtEnd {G = G} d refused b =
    (HoldsBetweenTurns d b × (refused ≡ None))
    ⊎ (AreCounted (fused_meter G.meter) (numbers_in d) d.shared.servers.items d.shared.log.events b.counts × HasRightDisks d b.log × (is_known G.tells b ≡ true → LeavesJournal d refused b) × GoesAfter b
    × IsRefused (refusal_of d.shared.export) refused)
