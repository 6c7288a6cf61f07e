-- What comes out of the locks in the end.
use Rattle.std.specs.Prelude.{ℕ, ◌≡◌, Bool, IsTrue, List, ◌++◌, Option, IfSome, IsSome}
use Rattle.rz_disk.specs.Meter.{Meter, faults}
use Rattle.rz_events.specs.declared.nodes.Phase.TheVariants.{Up}
use Rattle.rz_events.specs.declared.events.Word.TheVariants.{Node}
use Rattle.rz_events.specs.declared.events.Event.{Event}
use Rattle.rz_core.specs.History.{of_word}
use Rattle.rz_core.specs.NodeRows.{IsNodeOf}
use Rattle.rz_core.specs.NodeWord.{phase}
use Rattle.rz_chronicle.specs.Kinds.{keeps_legal, volume_in}
use Rattle.rz_chronicle.specs.Rules.{WordTokenView}
use Rattle.rz_shared_locked.specs.Counts.{AreCountedSince}
use Rattle.rz_shared_locked.specs.LockedNodes.{AreImagesFrom}

-- A disk, and the token of the word of its node, a node of the volume. The faults of the word are those that the disk counted
-- since it had counted `first` of that node. In a book that keeps its log legal each image of the disk is one that this word gives, in
-- the log of the token and in each later one that has no further event of the word; behind them the earlier log stands.
pub record IsReturned {D : Type 0} (meter : D → Meter) (image : D → List ℕ → Type 0) (kind : List ℕ) (earlier : List Event) (first : ℕ → ℕ) (disk : D) (word_token : WordTokenView) : Type 0 where
  pub node : ℕ
  pub word : word_token.word ≡ Node node
  pub of_volume : IsNodeOf (volume_in kind) node
  pub images : IsTrue (keeps_legal kind) → AreImagesFrom (volume_in kind) earlier word_token.log node (image disk)
  pub counted : AreCountedSince (first node) (faults (meter disk)) (of_word (Node node) word_token.log)

-- The same where disks may be away, or come in the place of others: then the faults of the word are not those of one disk. The disk of
-- a node that is up is here.
pub record IsReturnedIf {D : Type 0} (meter : D → Meter) (image : D → List ℕ → Type 0) (fixed : Bool) (kind : List ℕ) (earlier : List Event) (first : ℕ → ℕ) (disk : Option D) (word_token : WordTokenView) : Type 0 where
  pub node : ℕ
  pub word : word_token.word ≡ Node node
  pub of_volume : IsNodeOf (volume_in kind) node
  pub images : IsTrue (keeps_legal kind) → IfSome disk (λ (d : D). AreImagesFrom (volume_in kind) earlier word_token.log node (image d))
  pub counted : IsTrue fixed → IfSome disk (λ (d : D). AreCountedSince (first node) (faults (meter d)) (of_word (Node node) word_token.log))
  pub here : IsTrue fixed → IsSome disk
  pub up : IsTrue (keeps_legal kind) → phase (of_word (Node node) (word_token.log ++ earlier)) ≡ Up → IsSome disk
