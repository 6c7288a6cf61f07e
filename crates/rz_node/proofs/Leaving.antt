-- What calls leave of the disk, from what the node says of each.
use Rattle.std.proofs.Common.{◌≡◌, ℕ, List, refl}
use Rattle.rz_disk.specs.Images.{Only, Within}
use Rattle.rz_events.specs.declared.records.Held.{Held}
use Rattle.rz_events.specs.declared.nodes.FetchAnswer.{FetchAnswer}
use Rattle.rz_events.specs.declared.nodes.FetchAnswer.TheVariants as fetch
use Rattle.rz_events.specs.declared.nodes.OpenFault.TheVariants as fault
use Rattle.rz_events.specs.declared.nodes.StartAnswer.{StartAnswer}
use Rattle.rz_events.specs.declared.nodes.StartAnswer.TheVariants as start
use Rattle.rz_events.specs.declared.nodes.ReplaceAnswer.{ReplaceAnswer}
use Rattle.rz_events.specs.declared.nodes.ReplaceAnswer.TheVariants as replace
use Rattle.rz_events.specs.declared.nodes.NodeAnswer.TheVariants as answer
use Rattle.rz_node_model.specs.States.{NodeState}
use Rattle.rz_cells_slots.specs.declared.geometry.Geometry.{Geometry}
use Rattle.rz_node.specs.Change.{IsBranch}
use Rattle.rz_node.specs.Fetched.{IfHeld}
use Rattle.rz_node.specs.Calls.{IsSettled}
use Rattle.rz_node.specs.Opens.{IfStarted, IfTook, IfUnopened, IsUnlooked}
use Rattle.rz_node.specs.Leaves.{Starts}

pub held-if : (T : Type 0) (P : Held → Type 0) (a : FetchAnswer) → IfHeld a (λ told. T → P told) → T → IfHeld a P
held-if T P (fetch.Held told) gives tells = gives tells
held-if T P _ gives tells = tt

pub starts : (T : Type 0) (text text' : List ℕ) (image image' : List ℕ → Type 0) (g : Geometry) (s : NodeState) (a : StartAnswer) → T → text' ≡ text → Within image image' → IfStarted a (Only text' image')
    → IfTook a (λ took. T → IsBranch g s.fence text' s.undecided s.held took) → Starts g s text text' image image' a
starts T text text' image image' g s (start.Started took) tells is within only branch = record { text_is = is; settled = only; branch = branch tells }
starts T text text' image image' g s _ tells is within only branch = within

-- what is so where the disk was not looked at
pub unlooked : (P : Type 0) (a : StartAnswer) → (a ≡ start.NotDown → P) → (a ≡ start.NoMemory → P) → IfUnopened a (λ cause. (have need : ℕ) → cause ≡ fault.WrongSize have need → P) → IsUnlooked a → P
unlooked P start.NotDown up memory size it = up refl
unlooked P start.NoMemory up memory size it = memory refl
unlooked P (start.Unopened (fault.WrongSize have need)) up memory size it = size have need refl
unlooked P _ up memory size it = absurd it

-- what is so where the disk was opened, or made anew
pub settled-start : (P : Type 0) (a : StartAnswer) → IfStarted a P → IsSettled (answer.Start a) → P
settled-start P (start.Started took) only it = only
settled-start P _ only it = absurd it

pub settled-replace : (P : Type 0) (a : ReplaceAnswer) → (a ≡ replace.Replaced → P) → IsSettled (answer.Replace a) → P
settled-replace P replace.Replaced only it = only refl
settled-replace P _ only it = absurd it
