-- What contracts see of the write of the block in hand.
use Rattle.std.specs.Prelude.{ℕ, ◌≡◌, List, length, Option, Some, None}
use Rattle.mj_angles.specs.declared.layout.Layout.{Layout}
use Rattle.rz_words.specs.Grid.{Grid}
use Rattle.rz_events.specs.declared.files.FileInfo.{FileInfo}
use Rattle.rz_client_model.specs.declared.writing.WriterState.{WriterState}
use Rattle.rz_client_model.specs.Write.{writer_start}
use Rattle.rz_writer.specs.Machine.{Machine as WriterMachine, block_of, key_in}

-- how far the write has come; the block whose bins the writer makes itself, where it can; and, where the bins stand in
-- a batch instead, the place of the block in it
pub record BlockWrite : Type 0 where
  pub layout : Layout
  pub state : WriterState
  pub own : Option Grid
  pub place : Option ℕ

-- the one of the two that is under way
abbrev pub state_at : Option ℕ → WriterState → WriterState → WriterState
state_at None own bare = own
state_at (Some place) own bare = bare

abbrev pub write_of : Layout → Option ℕ → WriterMachine → WriterMachine → BlockWrite
write_of layout place own bare =
    record { layout = layout; state = state_at place own.state bare.state; own = own.block; place = place }

-- both are of the layout
pub record AreWriters (layout : Layout) (own bare : WriterMachine) : Type 0 where
  pub of_own : own.state.layout ≡ layout
  pub of_bare : bare.state.layout ≡ layout

-- the write of this text, with bins of its own
abbrev pub own_write : Layout → FileInfo → ℕ → List ℕ → BlockWrite
own_write layout info block text = record {
  layout = layout;
  state = writer_start layout (key_in info block) info.places (length text);
  own = Some (block_of layout text);
  place = None;
}
