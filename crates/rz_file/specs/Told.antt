-- What the read of the block in hand is told.
use Rattle.std.specs.Prelude.{ℕ, List}
use Rattle.mj_angles.specs.declared.layout.Layout.{Layout}
use Rattle.rz_events.specs.declared.nodes.FetchAnswer.{FetchAnswer}
use Rattle.rz_events.specs.declared.machines.ReaderAsk.{ReaderAsk}
use Rattle.rz_events.specs.declared.machines.ReaderAnswer.TheVariants as told
use Rattle.rz_client_model.specs.Read.{IsReaderAnswer}
use Rattle.rz_file.specs.Machine.{HasBinsAt}

-- a fetch was asked, to which this is an answer
abbrev pub IsFetchAsk : Layout → FetchAnswer → List ℕ → ReaderAsk → Type 0
IsFetchAsk layout a bins question = IsReaderAnswer layout question (told.Fetched a) × HasBinsAt layout question a bins
