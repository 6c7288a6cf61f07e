-- What asking a node for a record makes of the nodes.
use Rattle.std.specs.Prelude.{ℕ, Bool, ◌==◌, ◌≡◌, ◌≤◌, ◌⊎◌, cond, IsTrue, List, Some, slice_get}
use Rattle.std.specs.List.{AllByRecursion}
use Rattle.mj_angles.specs.Layout.{max_bins_of}
use Rattle.rz_events.specs.declared.keys.Key.{Key}
use Rattle.rz_events.specs.declared.records.Held.{Held}
use Rattle.rz_events.specs.declared.nodes.FetchAnswer.{FetchAnswer}
use Rattle.rz_node.specs.Fetched.{IsFetchedFromDisk}
use Rattle.rz_node_model.specs.Answers.{IsFetchAnswer, fetch_answer}
use Rattle.rz_node_model.specs.Afterwards.{after_fetch}
use Rattle.rz_nodes.specs.declared.formatting.Server.{Server}
use Rattle.rz_driver_nodes.specs.Administration.{IsCalledAt}
use Rattle.rz_driver_nodes.specs.Servers.{state_in, IsServerAt}

-- there is room for the bins of the records of each node
abbrev pub HaveRoom : {D : Type 0} → ℕ → List (Server D) → Type 0
HaveRoom {D = D} count servers = AllByRecursion (λ (s : Server D). max_bins_of s.node.geometry.layout ≤ count) servers

-- The node of this number answered for its record of the stamp, and no other node was called. Where no node has the number, none was
-- called, and the answer is that of a node that holds nothing.
pub record IsFetch {D : Type 0} (key : Key) (stamp : ℕ) (given : FetchAnswer) (n : ℕ) (old new : List (Server D)) : Type 0 where
  pub given_is : IsFetchAnswer (fetch_answer (state_in old n) key stamp) given
  pub states : state_in new ≡ (λ m. cond (m == n) (after_fetch given (state_in old n)) (state_in old m))
  pub one : (new ≡ old) ⊎ IsCalledAt n old new

-- what a disk that tells its text stands for is what is read of a record: what is told of it, what lay in the room, what lies there
abbrev pub GivesAt : {D : Type 0} → Bool → (D → List ℕ) → Server D → Key → Held → List ℕ → List ℕ → Type 0
GivesAt tells text s key told before room = IsTrue tells → IsFetchedFromDisk s.node.geometry s.node.state.fence (text s.node.disk) key told before room

-- a node has this number, and so it is of the first
abbrev pub GivesIn : {D : Type 0} → Bool → (D → List ℕ) → List (Server D) → ℕ → Key → Held → List ℕ → List ℕ → Type 0
GivesIn {D = D} tells text servers n key told before room =
    (place : ℕ) × (s : Server D) × IsServerAt servers n place × (slice_get servers place ≡ Some s) × GivesAt tells text s key told before room
