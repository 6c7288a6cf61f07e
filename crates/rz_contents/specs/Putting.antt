-- The write of one block by one operation beside which nobody acts. Events stand newest first.
use Rattle.std.specs.Prelude.{ℕ, ◌≡◌, ◌+◌, ◌*◌, List, [], ◌∷◌, ◌++◌, length, Option, Some, None, cond}
use Rattle.mj_angles.specs.declared.layout.Layout.{Layout}
use Rattle.mj_angles.specs.Layout.{block_bytes_of}
use Rattle.rz_events.specs.Volume.{Volume}
use Rattle.rz_events.specs.declared.keys.Key.{Key}
use Rattle.rz_events.specs.declared.keys.Actor.{Actor}
use Rattle.rz_events.specs.declared.ends.WriteEnd.{WriteEnd}
use Rattle.rz_events.specs.declared.ends.WriteEnd.TheVariants as write
use Rattle.rz_events.specs.declared.events.Event.{Event}
use Rattle.rz_events.specs.declared.events.Event.TheVariants as e
use Rattle.rz_events.specs.Events.{same_key}
use Rattle.rz_export_model.specs.Tree.{Tree, grown}
use Rattle.rz_client_model.specs.declared.writing.WriterState.{WriterState}
use Rattle.rz_client_model.specs.declared.writing.WriteStage.{WriteStage}
use Rattle.rz_client_model.specs.declared.writing.WriteStage.TheVariants as writing
use Rattle.rz_operation_model.specs.Work.{Work, OnBlock, PutBlock, Alone, Opening, Writing, Ending, Over}
use Rattle.rz_operation_model.specs.Ask.{ask_of}
use Rattle.rz_operation_model.specs.Steps.{Told, told}
use Rattle.rz_operation_model.specs.Turns.{IsStep}
use Rattle.rz_core.specs.History.{Has}
use Rattle.rz_core.specs.Legal.{IsLegalInRuns}
use Rattle.rz_contents.specs.Model.{Model, model_of, IsSame, IsStill}

-- The operation came from one work to another by turns with these events.
pub data IsCourseFrom (layout : Layout) (by : Actor) (number : ℕ) (first : Work) : List Event → Work → Type 0 where
  Starts : IsCourseFrom layout by number first [] first
  Goes : (xs : List Event) (work : Work) (t : Told) (ys : List Event) → IsCourseFrom layout by number first xs work
      → IsStep by number (ask_of layout work) t ys → IsCourseFrom layout by number first (ys ++ xs) (told layout work t)

abbrev pub HasBegun : List Event → Actor → Key → ℕ → List ℕ → Type 0
HasBegun xs by key stamp text = (base : ℕ) × Has xs (e.Begin by key stamp base text)

-- the last of these events is the one publish that was accepted, of the write that began with this text
pub record IsPublished (by : Actor) (xs : List Event) (key : Key) (stamp mask : ℕ) (text : List ℕ) : Type 0 where
  pub earlier : List Event
  pub xs_is : xs ≡ e.Publish by key stamp mask None ∷ earlier
  pub still : IsStill earlier
  pub begun : HasBegun earlier by key stamp text

abbrev pub IsEnded : Actor → List Event → Key → List ℕ → WriteEnd → Type 0
IsEnded by xs key text (write.Acked stamp mask) = IsPublished by xs key stamp mask text
IsEnded by xs key text end = IsStill xs

abbrev pub IsPutStage : Actor → List Event → Key → List ℕ → WriteStage → Type 0
IsPutStage by xs key text writing.Beginning = IsStill xs
IsPutStage by xs key text (writing.Sending t) = IsStill xs × HasBegun xs by key t.stamp text
IsPutStage by xs key text (writing.Ended end) = IsEnded by xs key text end

-- the events of a put of this text, which has come to this work
abbrev pub IsPutCourse : Actor → List ℕ → List Event → Work → Type 0
IsPutCourse by text xs (Opening path plan) = IsStill xs × ((block : ℕ) × (plan ≡ OnBlock (PutBlock block text)))
IsPutCourse by text xs (Writing course written s) = (course ≡ Alone) × (written ≡ text) × IsPutStage by xs s.key text s.stage
IsPutCourse by text xs (Ending answer) = IsStill xs
IsPutCourse by text xs Over = Unit {0}
IsPutCourse by text xs _ = ⊥

abbrev pub PutsOnce : Type 0
PutsOnce = (layout : Layout) (by : Actor) (number : ℕ) (path : List ℕ) (block : ℕ) (text : List ℕ) (xs : List Event) (work : Work)
    → IsCourseFrom layout by number (Opening path (OnBlock (PutBlock block text))) xs work → IsPutCourse by text xs work

-- What a put makes of the blocks, by how it ended: its text is in its block where it was acknowledged.
abbrev pub blocks_put : WriteEnd → Key → List ℕ → (Key → Option (List ℕ)) → Key → Option (List ℕ)
blocks_put (write.Acked stamp mask) at text was key = cond (same_key key at) (Some text) (was key)
blocks_put end at text was key = was key

-- And of the names: the size of its file is raised.
abbrev pub names_put : Layout → WriteEnd → Key → List ℕ → Tree → Tree
names_put layout (write.Acked stamp mask) at text was = grown was at.fid (at.block * block_bytes_of layout + length text)
names_put layout end at text was = was

abbrev pub model_put : Layout → WriteEnd → Key → List ℕ → Model → Model
model_put layout end at text was = record {
  names = names_put layout end at text was.names;
  blocks = blocks_put end at text was.blocks;
}

-- Where nobody acts beside a put, it puts its text into its block if it is acknowledged, and changes nothing else. If it ends
-- otherwise, it changes nothing.
abbrev pub IsPutAlone : Volume → Type 0
IsPutAlone v = (old xs : List Event) (by : Actor) (number : ℕ) (path : List ℕ) (block : ℕ) (text : List ℕ) (s : WriterState) (end : WriteEnd)
    → IsLegalInRuns v (xs ++ old)
    → IsCourseFrom v.layout by number (Opening path (OnBlock (PutBlock block text))) xs (Writing Alone text s)
    → s.stage ≡ writing.Ended end
    → IsSame (model_put v.layout end s.key text (model_of v old)) (model_of v (xs ++ old))
