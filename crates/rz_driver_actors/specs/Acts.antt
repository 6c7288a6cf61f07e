-- What an actor's turn makes of the actor and of what all share.
use Rattle.std.specs.Prelude.{ℕ, Bool, true, false, ◌≡◌, List, Option, Some, None, slice_get, slice_set}
use Rattle.std.specs.List.{AllByRecursion}
use Rattle.std.specs.FinMap as map
use Rattle.mj_angles.specs.declared.layout.Layout.{Layout}
use Rattle.rz_events.specs.declared.keys.Actor.{Actor}
use Rattle.rz_events.specs.declared.keys.Actor.TheVariants.{Client}
use Rattle.rz_events.specs.declared.nodes.NodeAsk.{NodeAsk}
use Rattle.rz_locks.specs.declared.conflict.LockKind.{LockKind}
use Rattle.rz_locks.specs.declared.conflict.Range.{Range}
use Rattle.rz_locks.specs.Held.{Held}
use Rattle.rz_operation.specs.Machine.{Machine, work_in}
use Rattle.rz_operation_model.specs.Ask.{Rest, ask_of}
use Rattle.rz_metadata.specs.Stands.{export_in}
use Rattle.rz_play.specs.Turns.{IsLost, IsThrough, lost_after}
use Rattle.rz_driver_actors.specs.declared.actor_agenda.Agenda.{Agenda}
use Rattle.rz_driver_actors.specs.declared.shared.Shared.{Shared}
use Rattle.rz_nodes.specs.declared.formatting.Server.{Server}
use Rattle.rz_driver_asks.specs.Locking.{IsOpenPart}
use Rattle.rz_driver_nodes.specs.Nodes.{IsAsked, IsThroughPart, IsReplyLostPart, IsRequestLostPart}
use Rattle.rz_driver_asks.specs.Parts.{IsExportPart, IsSayPart}
use Rattle.rz_driver_nodes.specs.Servers.{IsServerAt, IsCalled}

abbrev pub HasLayouts : {D : Type 0} → Layout → List (Server D) → Type 0
HasLayouts {D = D} layout servers = AllByRecursion (λ (s : Server D). s.node.geometry.layout ≡ layout) servers

-- A message to the node at a place.

pub data IsFate {D J : Type 0} (by : Actor) (n : ℕ) (question : NodeAsk) (s s' : Server D) (old new : Machine) (miss miss' : Option Bool) (p q : Shared D J) : Type 0 where
  Through : IsThroughPart by n s.node.geometry.cells question s.node.state s'.node.state old new p.log.events q.log.events → IsThrough miss question → miss' ≡ miss → q.lost ≡ p.lost
      → IsFate by n question s s' old new miss miss' p q
  ReplyLost : IsReplyLostPart by n s.node.geometry.cells question s.node.state s'.node.state old new p.log.events q.log.events → IsLost miss question true → miss' ≡ None → q.lost ≡ lost_after miss p.lost
      → IsFate by n question s s' old new miss miss' p q
  RequestLost : s' ≡ s → IsRequestLostPart by n old new p.log.events q.log.events → IsLost miss question false → miss' ≡ None → q.lost ≡ lost_after miss p.lost
      → IsFate by n question s s' old new miss miss' p q

pub record IsActorMessage {D J : Type 0} (by : Actor) (n : ℕ) (question : NodeAsk) (old new : Machine) (miss miss' : Option Bool) (p q : Shared D J) : Type 0 where
  pub place : ℕ
  pub server : Server D
  pub after : Server D
  pub at : IsServerAt p.servers.items n place
  pub is : slice_get p.servers.items place ≡ Some server
  pub called : IsCalled server after
  pub servers : q.servers.items ≡ slice_set p.servers.items place after
  pub fate : IsFate by n question server after old new miss miss' p q
  pub export : q.export ≡ p.export
  pub locks : q.locks ≡ p.locks

-- The lock of an actor whose operation is done goes.
abbrev pub locks_after : Bool → Actor → Held → Held
locks_after true (Client n) locks = map.remove locks n
locks_after done by locks = locks

abbrev pub lock_left : Bool → Option (Range × LockKind) → Option (Range × LockKind)
lock_left true lock = None
lock_left false lock = lock

pub record IsLockReleased (done : Bool) (by : Actor) (lock lock' : Option (Range × LockKind)) (locks locks' : Held) : Type 0 where
  pub lock_is : lock' ≡ lock_left done lock
  pub locks_are : locks' ≡ locks_after done by locks

-- what an actor has to do stays
pub record IsSameActor (a b : Agenda) : Type 0 where
  pub todo : b.todo.items ≡ a.todo.items
  pub number : b.number ≡ a.number

pub data IsAct {D J : Type 0} (layout : Layout) (by : Actor) (a b : Agenda) (p q : Shared D J) : Type 0 where
  Rests : ask_of layout (work_in a.machine) ≡ Rest → b ≡ a → q ≡ p → IsAct layout by a b p q
  Exports : (old new : Machine) → a.machine ≡ Some old → b.machine ≡ Some new → IsSameActor a b → b.lock ≡ a.lock → b.miss ≡ a.miss
      → IsExportPart by old new (export_in p.export) (export_in q.export) p.log.events q.log.events → q.servers.items ≡ p.servers.items → q.locks ≡ p.locks → q.lost ≡ p.lost
      → IsAct layout by a b p q
  Opens : (old new : Machine) → a.machine ≡ Some old → b.machine ≡ Some new → IsSameActor a b → b.miss ≡ a.miss
      → IsOpenPart by old new (export_in p.export) (export_in q.export) p.locks q.locks a.lock b.lock p.log.events q.log.events → q.servers.items ≡ p.servers.items → q.lost ≡ p.lost
      → IsAct layout by a b p q
  Sends : (old new : Machine) → a.machine ≡ Some old → b.machine ≡ Some new → IsSameActor a b → b.lock ≡ a.lock
      → (n : ℕ) (question : NodeAsk) → IsAsked old n question → IsActorMessage by n question old new a.miss b.miss p q
      → IsAct layout by a b p q
  Says : (old new : Machine) → a.machine ≡ Some old → b.machine ≡ Some new → IsSameActor a b → b.miss ≡ a.miss
      → (done : Bool) → IsSayPart by a.number done old new p.log.events q.log.events → IsLockReleased done by a.lock b.lock p.locks q.locks
      → q.servers.items ≡ p.servers.items → q.export ≡ p.export → q.lost ≡ p.lost
      → IsAct layout by a b p q
