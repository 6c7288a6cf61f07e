-- What a finished rebuild has done. Histories and own events have the newest event first.
use Rattle.std.specs.Prelude.{ℕ, true, ◌≡◌, ◌⊎◌, ◌<◌, List, [], ◌∷◌, Option, Some, None}
use Rattle.rz_events.specs.declared.keys.Key.{Key}
use Rattle.rz_events.specs.declared.keys.Actor.{Actor}
use Rattle.rz_events.specs.declared.files.Published.{Published}
use Rattle.rz_events.specs.declared.records.Change.{Change}
use Rattle.rz_events.specs.declared.records.Change.TheVariants as change
use Rattle.rz_events.specs.declared.ends.RebuildEnd.TheVariants as rebuild
use Rattle.rz_events.specs.declared.events.Answer.TheVariants as answers
use Rattle.rz_events.specs.declared.events.Word.TheVariants.{Export, Node}
use Rattle.rz_events.specs.declared.events.Event.{Event}
use Rattle.rz_events.specs.declared.events.Event.TheVariants as e
use Rattle.rz_node_model.specs.Versions.{Stands}
use Rattle.rz_core.specs.History.{of_word, of_actor, facts, IsPlace}
use Rattle.rz_core.specs.NodeWord.{losses, held, last_fence, undecided}
use Rattle.rz_core.specs.ExportWord.{is_live, published}
use Rattle.rz_events.specs.Masks.{stamp_told, HasBit}
use Rattle.rz_operation_model.specs.Rebuild.{one_more}

-- Where a rebuild stands: ready for a `Next` after this key; a `Next` after the first key was told the second, with that
-- stamp, and nothing came of it yet; or a `Next` was told that no key is left.
pub data Stage : Type 0 where
  Ready : Option Key → Stage
  Told : Option Key → Key → ℕ → Stage
  Ended : Stage

-- The rebuilder's own events since its replacement of node n, for that loss and with that fence, are those of a rebuild
-- that stands here and has refilled so many keys, as far as its count goes. Each key that a `Next` told was refilled with
-- the stamp that it told, or was passed over with it, and the following `Next` asks after it; or a recheck told another
-- stamp, and the following `Next` asks as before. No other key was refilled at the node.
abbrev pub IsRun : List Event → ℕ → ℕ → ℕ → ℕ → Stage → Type 0
IsRun [] n loss fence count stage = ⊥
IsRun (e.Replace by m l f ∷ o) n loss fence count stage =
    (m ≡ n) × (l ≡ loss) × (f ≡ fence) × (count ≡ 0) × (stage ≡ Ready None)
IsRun (e.Next by m after None ∷ o) n loss fence count stage =
    (m ≡ n) × (stage ≡ Ended) × IsRun o n loss fence count (Ready after)
IsRun (e.Next by m after (Some l) ∷ o) n loss fence count stage =
    (m ≡ n) × (stage ≡ Told after l.key l.published.stamp) × IsRun o n loss fence count (Ready after)
IsRun (e.Did by m (change.Refill f key s p) ∷ o) n loss fence count stage =
    (¬ (m ≡ n) × IsRun o n loss fence count stage)
    ⊎ ((m ≡ n) × (stage ≡ Ready (Some key)) × ((a : Option Key) × (done : ℕ) × (count ≡ one_more done) × IsRun o n loss fence done (Told a key s)))
IsRun (e.Passed by m key s now ∷ o) n loss fence count stage =
    IsRun o n loss fence count stage
    ⊎ ((m ≡ n) × (stage ≡ Ready (Some key)) × ((a : Option Key) × (done : ℕ) × (count ≡ one_more done) × IsRun o n loss fence done (Told a key s)))
IsRun (e.Recheck by key answer ∷ o) n loss fence count stage =
    IsRun o n loss fence count stage
    ⊎ ((a : Option Key) × (s : ℕ) × (stage ≡ Ready a) × ¬ (stamp_told answer ≡ s) × IsRun o n loss fence count (Told a key s))
IsRun (_ ∷ o) n loss fence count stage = IsRun o n loss fence count stage

-- these own events end with a rebuild of node n that is finished
abbrev pub IsRebuilt : List Event → ℕ → ℕ → ℕ → ℕ → Type 0
IsRebuilt o n loss fence refilled = IsRun o n loss fence refilled Ended

-- The node has this fence, and holds the published stamp of each key of a live file whose published mask names it.
pub record IsWhole (h : List Event) (n fence : ℕ) : Type 0 where
  pub fence_is : last_fence (of_word (Node n) h) ≡ fence
  pub holds : (key : Key) (p : Published) (q : ℕ) → is_live (of_word Export h) key.fid ≡ true
      → published (facts h) (of_word Export h) key ≡ Some p → HasBit p.mask q → IsPlace (facts h) key.fid q n
      → Stands p.stamp (held (facts h) (of_word (Node n) h) key)

-- A node that an actor rebuilt, and that was not lost since its replacement, has the fence of the rebuild and is whole.
abbrev pub IsComplete : List Event → Type 0
IsComplete h = (by : Actor) (n loss fence refilled : ℕ) → IsRebuilt (of_actor by h) n loss fence refilled
    → losses (of_word (Node n) h) ≡ loss → IsWhole h n fence

-- the change is a refill of the key with this stamp
abbrev pub IsRefillOf : Key → ℕ → Option Change → Type 0
IsRefillOf key s (Some (change.Refill f k t p)) = (k ≡ key) × (t ≡ s)
IsRefillOf key s _ = ⊥

-- The stamp was refilled since the node's last loss: the refill was done, or it ended in a disk fault and the next start
-- found it on the disk.
abbrev pub IsRefilled : List Event → Key → ℕ → Type 0
IsRefilled [] key s = ⊥
IsRefilled (e.Lose m l ∷ w) key s = ⊥
IsRefilled (e.Replace by m l f ∷ w) key s = ⊥
IsRefilled (e.Did by m c ∷ w) key s = IsRefillOf key s (Some c) ⊎ IsRefilled w key s
IsRefilled (e.Start m true ∷ w) key s = IsRefillOf key s (undecided w) ⊎ IsRefilled w key s
IsRefilled (_ ∷ w) key s = IsRefilled w key s

-- Each version that the node holds was refilled, or its stamp is above the node's fence.
abbrev pub IsFencedAt : List Event → ℕ → Type 0
IsFencedAt h n = (key : Key) (s : ℕ) → Stands s (held (facts h) (of_word (Node n) h) key)
    → (last_fence (of_word (Node n) h) < s) ⊎ IsRefilled (of_word (Node n) h) key s

abbrev pub IsFenced : List Event → Type 0
IsFenced h = (n : ℕ) → IsFencedAt h n

-- An operation that says it rebuilt a node, with this fence and so many keys, did so; and where the node was not lost since
-- its replacement, it is whole. What the node holds was refilled, or kept above its fence.
pub record IsRebuildDone (h : List Event) (by : Actor) (fence refilled : ℕ) : Type 0 where
  pub node : ℕ
  pub loss : ℕ
  pub rebuilt : IsRebuilt (of_actor by h) node loss fence refilled
  pub whole : losses (of_word (Node node) h) ≡ loss → IsWhole h node fence
  pub fenced : IsFencedAt h node

abbrev pub AreRebuilt : List Event → Type 0
AreRebuilt [] = Unit {0}
AreRebuilt (e.Done by number (answers.Rebuild (rebuild.Rebuilt fence refilled)) ∷ h) = AreRebuilt h × IsRebuildDone h by fence refilled
AreRebuilt (_ ∷ h) = AreRebuilt h
