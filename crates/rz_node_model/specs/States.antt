-- What contracts see of a node.
use Rattle.std.specs.Prelude.{ℕ, Option, None, refl}
use Rattle.std.specs.Coded.{Coded, code_by, coded×, coded_ℕ, coded_list, coded_option}
use Rattle.std.specs.FinMap as map
use Rattle.rz_events.specs.Keys.{coded_key}
use Rattle.rz_events.specs.declared.nodes.Phase.{Phase}
use Rattle.rz_events.specs.declared.nodes.Phase.TheVariants as phase
use Rattle.rz_events.specs.contracts.nodes.Phase as phases
use Rattle.rz_events.specs.contracts.records.Held as helds
use Rattle.rz_node_model.specs.declared.pending.Pending.{Pending}
use Rattle.rz_node_model.specs.contracts.pending.Pending as pendings
use Rattle.rz_node_model.specs.Records.{Records}

-- A node: up, down or lost; the fence of its last replacement, or 0; how many disks it lost; the records that it holds;
-- and the change that a disk fault left undecided, which the records do not have.
pub record NodeState : Type 0 where
  pub phase : Phase
  pub fence : ℕ
  pub losses : ℕ
  pub held : Records
  pub undecided : Option Pending

-- a node on a disk that was formatted: up, with nothing held
abbrev pub fresh : NodeState
fresh = record { phase = phase.Up; fence = 0; losses = 0; held = map.empty; undecided = None }

-- a node on a disk that was opened
abbrev pub opened : ℕ → ℕ → Records → NodeState
opened losses fence held = record { phase = phase.Up; fence = fence; losses = losses; held = held; undecided = None }

abbrev pub node_code : Coded NodeState
node_code =
    code_by (Phase × (ℕ × (ℕ × (Records × Option Pending))))
    (coded× phases.the_row.coded (coded× coded_ℕ (coded× coded_ℕ (coded× (map.code coded_key (coded_list helds.the_row.coded)) (coded_option pendings.the_row.coded)))))
    (λ s. (s.phase, (s.fence, (s.losses, (s.held, s.undecided)))))
    (λ p. record { phase = p.0; fence = p.1.0; losses = p.1.1.0; held = p.1.1.1.0; undecided = p.1.1.1.1 })
    (λ _. refl)
