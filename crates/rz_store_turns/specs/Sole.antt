-- Who acts alone on a cluster.
use Rattle.std.specs.Prelude.{ℕ, ◌≡◌, ◌≤◌, ◌+◌, IsTrue, List, length}
use Rattle.mj_angles.specs.Layout.{max_bins_of}
use Rattle.rz_events.specs.Volume.{Volume}
use Rattle.rz_events.specs.declared.keys.Actor.{Actor}
use Rattle.rz_events.specs.declared.keys.Actor.TheVariants.{Client, Rebuilder, Admin}
use Rattle.rz_events.specs.declared.events.Word.TheVariants.{Own}
use Rattle.rz_events.specs.declared.events.Event.{Event}
use Rattle.rz_operation.specs.Machine.{Machine}
use Rattle.rz_core.specs.History.{facts, of_actor}
use Rattle.rz_core.specs.Own.{IsBetween}
use Rattle.rz_block_laws.specs.Acting.{IsActing, AreBytes}
use Rattle.rz_chronicle.specs.Keys.{IsMember, IsOneOf, actor_key, word_key}
use Rattle.rz_chronicle.specs.Kinds.{keeps_legal, volume_in}
use Rattle.rz_chronicle.specs.Rules.{PassView}

-- What contracts see of it: its pass, with the log of this run, the number of its last operation, and the least client and rebuilder
-- that have no operation open.
pub record SoleView : Type 0 where
  pub pass : PassView
  pub number : ℕ
  pub client : ℕ
  pub rebuilder : ℕ

-- these are the tokens of all actors: of their events and of their own words
abbrev pub HoldsAll : List ℕ → Type 0
HoldsAll keys = (a : Actor) → IsMember a → IsOneOf (actor_key a) keys × IsOneOf (word_key (Own a)) keys

-- From this client and this rebuilder on no one has an operation open.
pub record AreFree (h : List Event) (client rebuilder : ℕ) : Type 0 where
  pub clients : (n : ℕ) → client ≤ n → IsBetween (of_actor (Client n) h)
  pub rebuilders : (n : ℕ) → rebuilder ≤ n → IsBetween (of_actor (Rebuilder n) h)

-- What holds of it whenever it is in hand: `bins` has room for a record.
pub record IsSole (kind : List ℕ) (earlier : List Event) (volume cluster : Volume) (s : SoleView) (bins : List ℕ) : Type 0 where
  pub volume_is : volume ≡ volume_in kind
  pub cluster_is : cluster ≡ volume_in kind
  pub tokens : HoldsAll s.pass.keys
  pub room : max_bins_of (volume_in kind).layout ≤ length bins
  pub texts : IsTrue (keeps_legal kind) → AreBytes (facts earlier)
  pub free : IsTrue (keeps_legal kind) → AreFree s.pass.log s.client s.rebuilder
  pub clients : (1 ≤ s.client) × (s.client ≤ 65)
  pub rebuilders : (1 ≤ s.rebuilder) × (s.rebuilder ≤ 17)

-- the actor is the one that was taken last
abbrev pub IsTaken : SoleView → Actor → Type 0
IsTaken s (Client n) = n + 1 ≡ s.client
IsTaken s (Rebuilder n) = n + 1 ≡ s.rebuilder
IsTaken s Admin = ⊥

-- An operation in hand: in a book that keeps its log legal it is right beside the log.
pub record IsInHand (kind : List ℕ) (earlier : List Event) (s : SoleView) (m : Machine) : Type 0 where
  pub taken : IsTaken s s.pass.actor
  pub layout : m.layout ≡ (volume_in kind).layout
  pub right : IsTrue (keeps_legal kind) → IsActing (volume_in kind) earlier s.pass.log s.pass.actor s.number m

-- the pass alone went on, of the same actor
pub record IsSameTurn (old new : SoleView) : Type 0 where
  pub actor : new.pass.actor ≡ old.pass.actor
  pub number : new.number ≡ old.number
  pub client : new.client ≡ old.client
  pub rebuilder : new.rebuilder ≡ old.rebuilder
