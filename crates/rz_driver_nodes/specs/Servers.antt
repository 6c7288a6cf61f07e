-- The nodes of a volume in a row.
use Rattle.std.specs.Prelude.{ℕ, ◌≡◌, ◌≢◌, ◌==◌, zero, suc, cond, map, List, [], ◌∷◌, Option, Some, None}
use Rattle.rz_events.specs.Volume.{Volume}
use Rattle.rz_node_model.specs.States.{NodeState, fresh}
use Rattle.rz_core.specs.NodeRows.{cells_of}
use Rattle.rz_nodes.specs.declared.formatting.Server.{Server}

-- the state of the first node with this number
abbrev pub state_in : {D : Type 0} → List (Server D) → ℕ → NodeState
state_in [] n = fresh
state_in (s ∷ more) n = cond (n == s.sid) s.node.state (state_in more n)

-- the first node with this number stands at this place
abbrev pub IsServerAt : {D : Type 0} → List (Server D) → ℕ → ℕ → Type 0
IsServerAt [] n i = ⊥
IsServerAt (s ∷ more) n zero = s.sid ≡ n
IsServerAt (s ∷ more) n (suc i) = (s.sid ≢ n) × IsServerAt more n i

-- no node has this number
abbrev pub IsNowhere : {D : Type 0} → List (Server D) → ℕ → Type 0
IsNowhere [] n = Unit {0}
IsNowhere (s ∷ more) n = (s.sid ≢ n) × IsNowhere more n

-- where the first node with the number stands, if one has it
abbrev pub IsServerPlace : {D : Type 0} → List (Server D) → ℕ → Option ℕ → Type 0
IsServerPlace servers n None = IsNowhere servers n
IsServerPlace servers n (Some i) = IsServerAt servers n i

-- the numbers of the nodes, in order
abbrev pub numbers_of : {D : Type 0} → List (Server D) → List ℕ
numbers_of {D = D} servers = map (λ (s : Server D). s.sid) servers

-- a node has the layout of the volume and the cells of its number
pub record IsServer {D : Type 0} (v : Volume) (s : Server D) : Type 0 where
  pub layout : s.node.geometry.layout ≡ v.layout
  pub cells : s.node.geometry.cells ≡ cells_of v s.sid

-- a call changed the node's state and its disk alone
pub record IsCalled {D : Type 0} (old new : Server D) : Type 0 where
  pub sid : new.sid ≡ old.sid
  pub pick : new.pick ≡ old.pick
  pub geometry : new.node.geometry ≡ old.node.geometry
