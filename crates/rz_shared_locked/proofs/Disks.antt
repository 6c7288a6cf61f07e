-- What a call of a node leaves of its disk, and what it reads.
use Rattle.std.proofs.Common.{◌≡◌, ℕ, List}
use Rattle.rz_events.specs.Volume.{Volume}
use Rattle.rz_events.specs.declared.nodes.FetchAnswer.TheVariants as fetch
use Rattle.rz_events.specs.declared.nodes.StartAnswer.{StartAnswer}
use Rattle.rz_events.specs.declared.nodes.StartAnswer.TheVariants as start
use Rattle.rz_events.specs.declared.nodes.NodeAsk.{NodeAsk}
use Rattle.rz_events.specs.declared.nodes.NodeAsk.TheVariants as ask
use Rattle.rz_events.specs.declared.nodes.NodeAnswer.{NodeAnswer}
use Rattle.rz_events.specs.declared.nodes.NodeAnswer.TheVariants as answer
use Rattle.rz_disk.specs.Images.{Only, Within}
use Rattle.rz_cells_slots.specs.declared.geometry.Geometry.{Geometry}
use Rattle.rz_node_model.specs.States.{NodeState}
use Rattle.rz_node_model.specs.Answers.{IsNodeAnswer}
use Rattle.rz_node.specs.Change.{IsBranch}
use Rattle.rz_node.specs.Opens.{IfStarted, IfTook}
use Rattle.rz_node.specs.Leaves.{LeavesDisk, Starts}
use Rattle.rz_core.specs.History.{Facts}
use Rattle.rz_node_laws.specs.Images.{IsImaged}
use Rattle.rz_node_laws.specs.Laws.{IsFetchLaw}
use Rattle.rz_shared_locked.specs.LockedNodes.{IsTrueRecord}

-- a start leaves the disk as it was, and settled where the node is up
pub starts : (T : Type 0) → T → (g : Geometry) (s : NodeState) (text text' : List ℕ) (image image' : List ℕ → Type 0) (a : StartAnswer) → IfStarted a (Only text' image')
    → IfTook a (λ took. T → IsBranch g s.fence text' s.undecided s.held took) → text' ≡ text → Within image image' → Starts g s text text' image image' a
starts T t g s text text' image image' (start.Started took) settled branch same within = record { text_is = same; settled = settled; branch = branch t }
starts T t g s text text' image image' start.NotDown settled branch same within = within
starts T t g s text text' image image' start.NoMemory settled branch same within = within
starts T t g s text text' image image' (start.Unopened cause) settled branch same within = within

-- what a fetch gives is the record of its write
pub read : {D : Type 0} (text : D → List ℕ) (image : D → List ℕ → Type 0) → IsFetchLaw text image → (v : Volume) (f : Facts) (n cells : ℕ) (g : Geometry) (s : NodeState) (question : NodeAsk) (given : NodeAnswer) (bins bins' : List ℕ) (old new : D)
    → IsNodeAnswer cells s question given → LeavesDisk g s question given bins bins' (text old) (text new) (image old) (image new) → IsImaged v f n s g (image old) → IsTrueRecord v f n question given bins bins'
read text image law v f n cells g s (ask.Fetch key position stamp) (answer.Fetch (fetch.Held told)) bins bins' old new is leaves imaged = law v f n cells g s key position stamp told bins bins' old new is leaves imaged
read text image law v f n cells g s question given bins bins' old new is leaves imaged = tt
