-- What the nodes of a published write hold. A history has the newest event first.
use Rattle.std.specs.Prelude.{ℕ, true, ◌≡◌, ◌⊎◌, ◌<◌, ◌&&◌, List, [], ◌∷◌, Some, None, cond}
use Rattle.rz_events.specs.declared.keys.Key.{Key}
use Rattle.rz_events.specs.declared.keys.Actor.{Actor}
use Rattle.rz_events.specs.declared.files.Published.{Published}
use Rattle.rz_events.specs.declared.nodes.Phase.TheVariants.{Lost}
use Rattle.rz_events.specs.declared.events.Word.TheVariants.{Export, Node}
use Rattle.rz_events.specs.declared.events.Event.{Event}
use Rattle.rz_events.specs.declared.events.Event.TheVariants as e
use Rattle.rz_events.specs.Events.{same_key}
use Rattle.rz_node_model.specs.Versions.{Stands}
use Rattle.rz_core.specs.History.{Has, of_word, facts, IsPlace}
use Rattle.rz_core.specs.NodeWord.{phase, held, last_fence}
use Rattle.rz_core.specs.ExportWord.{is_live, published, accepted, is_newer}
use Rattle.rz_events.specs.Masks.{HasBit}
use Rattle.rz_safety.specs.Reads.{IsLostSince}

-- the history before the accepted publish that counts now
abbrev pub before_published : List Event → Key → List Event
before_published [] key = []
before_published (e.Publish by at stamp mask None ∷ h) key =
    cond (same_key key at && is_newer stamp (accepted (of_word Export h) key)) h (before_published h key)
before_published (_ ∷ h) key = before_published h key

-- The node was lost after it kept or passed the write of the key. Then it is lost still, or fenced above the stamp; and
-- it was enrolled for that loss, or a later one, only after the publish.
pub record IsLostAfter (h : List Event) (n : ℕ) (key : Key) (s : ℕ) : Type 0 where
  pub lost : (loss : ℕ) × IsLostSince h n key s loss
  pub barred : (phase (of_word (Node n) h) ≡ Lost) ⊎ (s < last_fence (of_word (Node n) h))
  pub later : (loss : ℕ) → IsLostSince h n key s loss → (by : Actor) (l fence : ℕ)
      → Has (before_published h key) (e.Enroll by n l fence) → l < loss

-- Each node of the published mask of a live file holds the published stamp, or it was lost after it kept or passed it.
abbrev pub IsKept : List Event → Type 0
IsKept h = (key : Key) (p : Published) (q n : ℕ) → is_live (of_word Export h) key.fid ≡ true
    → published (facts h) (of_word Export h) key ≡ Some p → HasBit p.mask q → IsPlace (facts h) key.fid q n
    → Stands p.stamp (held (facts h) (of_word (Node n) h) key) ⊎ IsLostAfter h n key p.stamp
