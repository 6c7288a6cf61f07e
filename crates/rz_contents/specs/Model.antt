-- A store as its users see it: names, and for each file a map from blocks to bytes. A history has the newest event first.
use Rattle.std.specs.Prelude.{ℕ, Bool, true, false, not, ◌&&◌, ◌≡◌, ◌+◌, ◌*◌, ◌/◌, ◌%◌, List, [], ◌∷◌, ◌++◌, Option, None, unwrap_or, slice_index_or}
use Rattle.std.specs.List.{AllByRecursion}
use Rattle.mj_angles.specs.declared.layout.Layout.{Layout}
use Rattle.mj_angles.specs.Layout.{block_bytes_of}
use Rattle.rz_events.specs.Volume.{Volume}
use Rattle.rz_events.specs.declared.keys.Key.{Key}
use Rattle.rz_events.specs.declared.events.Word.TheVariants.{Export}
use Rattle.rz_events.specs.declared.events.Event.{Event}
use Rattle.rz_events.specs.declared.events.Event.TheVariants as e
use Rattle.rz_export_model.specs.Tree.{Tree, grown}
use Rattle.rz_export_model.specs.TreeCalls.{tree_after}
use Rattle.rz_export_model.specs.Export.{Export as ExportState, new_places}
use Rattle.rz_core.specs.History.{Facts, facts, of_word, length_in}
use Rattle.rz_core.specs.ExportWord.{export_of}
use Rattle.rz_core.specs.ExportRows.{names_reply}
use Rattle.rz_core.specs.Legal.{IsLegalInRuns}
use Rattle.rz_log_laws.specs.Changes.{only_asks, is_refused}
use Rattle.rz_contents.specs.Contents.{contents}

-- the export after a log
abbrev pub export_at : Volume → List Event → ExportState
export_at v h = export_of v (facts h) (of_word Export h)

-- What a user sees: the names, with kinds, attributes and sizes, and what each block of each file contains.
pub record Model : Type 0 where
  pub names : Tree
  pub blocks : Key → Option (List ℕ)

abbrev pub model_of : Volume → List Event → Model
model_of v h = record { names = (export_at v h).tree; blocks = contents h }

-- A byte of a file: zero past the text of its block, and where there is no text.
abbrev pub byte_at : Layout → Model → ℕ → ℕ → ℕ
byte_at layout m fid i =
    slice_index_or (unwrap_or (m.blocks (record { fid = fid; block = i / block_bytes_of layout })) []) (i % block_bytes_of layout) 0

-- one sees the same in both
pub record IsSame (a b : Model) : Type 0 where
  pub names : b.names ≡ a.names
  pub blocks : (key : Key) → b.blocks key ≡ a.blocks key

-- What an event makes of the names: a call on names does what it says, and an accepted publish raises the size of its file.
abbrev pub names_after : ExportState → Facts → Event → Tree
names_after s f (e.Meta by call reply) = tree_after s.tree (new_places s).cid (new_places s).places call
names_after s f (e.Publish by key stamp mask None) =
    grown s.tree key.fid (key.block * block_bytes_of s.volume.layout + length_in (f.wrote stamp))
names_after s f _ = s.tree

-- the reply to a call on names is that of the names as they were
abbrev pub IsReplyOf : ExportState → Event → Type 0
IsReplyOf s (e.Meta by call reply) = reply ≡ names_reply s call
IsReplyOf s _ = Unit {0}

abbrev pub AreNames : Volume → Type 0
AreNames v = (x : Event) (h : List Event) → IsLegalInRuns v (x ∷ h)
    → ((export_at v (x ∷ h)).tree ≡ names_after (export_at v h) (facts h) x) × IsReplyOf (export_at v h) x

-- The event may change what a user sees: it is a call on names that was not refused and does more than ask, or a publish that was
-- accepted.
abbrev pub changes : Event → Bool
changes (e.Meta by call reply) = not (only_asks call) && not (is_refused reply)
changes (e.Publish by key stamp mask None) = true
changes _ = false

abbrev pub IsStill : List Event → Type 0
IsStill xs = AllByRecursion (λ x. changes x ≡ false) xs

-- No other event changes what a user sees: not the stops and starts of nodes, their losses and replacements, a scrub's fetches, or
-- what a rebuild asks.
abbrev pub StaysStill : Volume → Type 0
StaysStill v = (xs h : List Event) → IsLegalInRuns v (xs ++ h) → IsStill xs → IsSame (model_of v h) (model_of v (xs ++ h))
