-- What keeps the images of a node's disk beside the log. Disks are of a type D, of which `text` and `image` say what they
-- hold and what a crash may leave.
use Rattle.std.specs.Prelude.{ℕ, ◌≡◌, ◌++◌, List, drop, length}
use Rattle.rz_disk.specs.Images.{Only, Within}
use Rattle.rz_events.specs.Volume.{Volume}
use Rattle.rz_events.specs.declared.keys.Key.{Key}
use Rattle.rz_events.specs.declared.records.Head.{Head}
use Rattle.rz_events.specs.declared.records.Held.{Held}
use Rattle.rz_events.specs.declared.nodes.NodeAsk.{NodeAsk}
use Rattle.rz_events.specs.declared.nodes.NodeAsk.TheVariants as ask
use Rattle.rz_events.specs.declared.nodes.NodeAnswer.{NodeAnswer}
use Rattle.rz_events.specs.declared.nodes.NodeAnswer.TheVariants as answer
use Rattle.rz_events.specs.declared.nodes.FetchAnswer.TheVariants as fetch
use Rattle.rz_events.specs.declared.events.Event.{Event}
use Rattle.rz_record.specs.Record.{IsValid}
use Rattle.rz_node_model.specs.Answers.{IsNodeAnswer}
use Rattle.rz_node_model.specs.Afterwards.{after_answer}
use Rattle.rz_node_model.specs.Records.{record_of}
use Rattle.rz_node_model.specs.States.{NodeState, fresh}
use Rattle.rz_cells_slots.specs.declared.geometry.Geometry.{Geometry}
use Rattle.rz_cells_slots.specs.Held.{nothing}
use Rattle.rz_cells_slots.specs.Stands.{StandsFor}
use Rattle.rz_node.specs.Leaves.{LeavesDisk}
use Rattle.rz_core.specs.History.{Facts, facts}
use Rattle.rz_core.specs.Tied.{IsNode}
use Rattle.rz_node_laws.specs.Records.{HandsRecord, IsRecordOf, IsWritten}
use Rattle.rz_node_laws.specs.Images.{AreImages, IsImaged}

-- a disk of which each image stands for nothing is that of a new node
abbrev pub IsFreshLaw : {D : Type 0} → (D → List ℕ → Type 0) → Type 0
IsFreshLaw {D = D} image = (v : Volume) (f : Facts) (n : ℕ) (g : Geometry) (d : D)
    → ((c : List ℕ) → image d c → StandsFor g 0 c nothing) → IsImaged v f n fresh g (image d)

-- any call of the node
abbrev pub IsCallLaw : {D : Type 0} → (D → List ℕ) → (D → List ℕ → Type 0) → Type 0
IsCallLaw {D = D} text image =
    (v : Volume) (f : Facts) (n cells : ℕ) (g : Geometry) (s : NodeState) (question : NodeAsk) (given : NodeAnswer) (bins bins' : List ℕ) (old new : D)
    → IsNodeAnswer cells s question given → HandsRecord v f n question bins
    → LeavesDisk g s question given bins bins' (text old) (text new) (image old) (image new)
    → IsImaged v f n s g (image old) → IsImaged v f n (after_answer question given s) g (image new)

-- a disk with no other images, as one that was armed or read
abbrev pub IsFewerLaw : {D : Type 0} → (D → List ℕ → Type 0) → Type 0
IsFewerLaw {D = D} image = (v : Volume) (f : Facts) (n : ℕ) (g : Geometry) (s : NodeState) (old new : D)
    → Within (image old) (image new) → IsImaged v f n s g (image old) → IsImaged v f n s g (image new)

-- a loss of power left one image
abbrev pub IsCrashLaw : {D : Type 0} → (D → List ℕ) → (D → List ℕ → Type 0) → Type 0
IsCrashLaw {D = D} text image = (v : Volume) (f : Facts) (n : ℕ) (g : Geometry) (s : NodeState) (old new : D)
    → image old (text new) → Only (text new) (image new) → IsImaged v f n s g (image old) → IsImaged v f n s g (image new)

-- a longer log
abbrev pub IsLongerLaw : {D : Type 0} → (D → List ℕ → Type 0) → Type 0
IsLongerLaw {D = D} image = (v : Volume) (h more : List Event) (n : ℕ) (g : Geometry) (s : NodeState) (d : D)
    → IsImaged v (facts h) n s g (image d) → IsImaged v (facts (more ++ h)) n s g (image d)

-- Where the state is the one that the log gives, the images are so by the log.
abbrev pub IsLogLaw : {D : Type 0} → (D → List ℕ → Type 0) → Type 0
IsLogLaw {D = D} image = (v : Volume) (f : Facts) (w : List Event) (n : ℕ) (g : Geometry) (s : NodeState) (d : D)
    → IsNode f w s → IsImaged v f n s g (image d) → AreImages v f w n g (image d)

-- What was written is the record of the node.
abbrev pub IsWrittenLaw : Type 0
IsWrittenLaw = (v : Volume) (f : Facts) (n : ℕ) (head : Head) (bins : List ℕ) → IsWritten v f n head bins → IsRecordOf v f n head bins

-- A record that a node gave is that of its write: what is told of it, and the bins, which stand in front of what was there.
pub record IsReadBack (v : Volume) (f : Facts) (n : ℕ) (key : Key) (told : Held) (old new : List ℕ) : Type 0 where
  pub head : Head
  pub bins : List ℕ
  pub it : IsRecordOf v f n head bins
  pub valid : IsValid head
  pub key_is : head.key ≡ key
  pub told_is : told ≡ record_of head
  pub bins_are : new ≡ bins ++ drop (length bins) old

abbrev pub IsFetchLaw : {D : Type 0} → (D → List ℕ) → (D → List ℕ → Type 0) → Type 0
IsFetchLaw {D = D} text image =
    (v : Volume) (f : Facts) (n cells : ℕ) (g : Geometry) (s : NodeState) (key : Key) (position stamp : ℕ) (told : Held) (bins bins' : List ℕ) (old new : D)
    → IsNodeAnswer cells s (ask.Fetch key position stamp) (answer.Fetch (fetch.Held told))
    → LeavesDisk g s (ask.Fetch key position stamp) (answer.Fetch (fetch.Held told)) bins bins' (text old) (text new) (image old) (image new)
    → IsImaged v f n s g (image old) → IsReadBack v f n key told bins bins'
