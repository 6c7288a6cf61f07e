-- What the nodes are asked of a published block, and what is found of it.
use Rattle.std.specs.Prelude.{ℕ, ◌≡◌, ◌+◌, List, [], ◌∷◌, Some, take, slice_get}
use Rattle.mj_angles.specs.declared.layout.Layout.{Layout}
use Rattle.mj_angles.specs.Layout.{angle_of, bins_at_of}
use Rattle.mj_forward.specs.Forward.{projection_of}
use Rattle.rz_events.specs.declared.keys.Key.{Key}
use Rattle.rz_events.specs.declared.files.Listed.{Listed}
use Rattle.rz_events.specs.declared.records.Held.{Held}
use Rattle.rz_events.specs.declared.nodes.FetchAnswer.{FetchAnswer}
use Rattle.rz_events.specs.declared.nodes.FetchAnswer.TheVariants as fetch
use Rattle.rz_node_model.specs.Answers.{IsFetchAnswer, fetch_answer}
use Rattle.rz_node_model.specs.States.{NodeState}
use Rattle.rz_words.specs.Grid.{Grid}
use Rattle.rz_scrub.specs.Misfits.{IsBlock}
use Rattle.rz_scrub.specs.Records.{Records, no_records, with_bins}
use Rattle.rz_scrub_report.specs.declared.finding.Finding.{Finding}
use Rattle.rz_scrub_report.specs.Findings.{IsFinding}
use Rattle.rz_scrub_report.specs.Stores.{State, IsAnsweredFetch, AreBinsRead}

-- the records with the one that a node gave, whose bins lie in front of the room
abbrev pub with_given : Records → ℕ → FetchAnswer → List ℕ → Records
with_given s position (fetch.Held told) room = with_bins s position (take (bins_at_of s.layout position) room)
with_given s position _ room = s

-- a node is asked for its record of the published stamp, and a record that it gives is added
pub record IsRecordAsked (gives : ℕ → Key → Held → List ℕ → List ℕ → Type 0) (l : Listed) (position n : ℕ) (w next : State) (s s' : Records) : Type 0 where
  pub given : FetchAnswer
  pub before : List ℕ
  pub room : List ℕ
  pub fetched : IsAnsweredFetch n l.key position l.published.stamp given w next
  pub read : AreBinsRead (gives n l.key) given before room
  pub records : s' ≡ with_given s position given room

-- so it is of each of these nodes, which stand at the positions from this one on
abbrev pub AreAsked : (ℕ → Key → Held → List ℕ → List ℕ → Type 0) → Listed → ℕ → List ℕ → State → State → Records → Records → Type 0
AreAsked gives l position [] w next s s' = (next ≡ w) × (s' ≡ s)
AreAsked gives l position (n ∷ nodes) w next s s' =
    (mid : State) × (t : Records) × IsRecordAsked gives l position n w mid s t × AreAsked gives l (position + 1) nodes mid next t s'

-- each node of the block is asked once, and this is found of what they give
abbrev pub AreRecordsFound : Layout → (ℕ → Key → Held → List ℕ → List ℕ → Type 0) → Listed → State → Finding → State → Type 0
AreRecordsFound layout gives l w finding next =
    (s : Records) × AreAsked gives l 0 l.info.places w next (no_records layout) s × IsFinding s finding

-- What the nodes of the block tell by these states of its published record, and give of it, are the projections of this block of
-- words.
pub record AreGiven (layout : Layout) (gives : ℕ → Key → Held → List ℕ → List ℕ → Type 0) (nodes : ℕ → NodeState) (l : Listed) (g : Grid) : Type 0 where
  pub block : IsBlock layout g
  pub each : (position n : ℕ) (told : Held) (before room : List ℕ) → slice_get l.info.places position ≡ Some n
      → IsFetchAnswer (fetch_answer (nodes n) l.key l.published.stamp) (fetch.Held told) → gives n l.key told before room
      → take (bins_at_of layout position) room ≡ projection_of g (angle_of layout position)
