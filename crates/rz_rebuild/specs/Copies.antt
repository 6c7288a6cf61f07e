-- What the read of a block that is rebuilt is told.
use Rattle.std.specs.Prelude.{ℕ, true, List}
use Rattle.mj_angles.specs.declared.layout.Layout.{Layout}
use Rattle.rz_events.specs.declared.nodes.FetchAnswer.{FetchAnswer}
use Rattle.rz_events.specs.declared.machines.ReaderAsk.{ReaderAsk}
use Rattle.rz_events.specs.declared.machines.ReaderAsk.TheVariants as ask
use Rattle.rz_events.specs.declared.machines.ReaderAnswer.{ReaderAnswer}
use Rattle.rz_client_model.specs.Read.{IsFetched}
use Rattle.rz_reader.specs.Machine.{Machine as ReaderMachine}
use Rattle.rz_operation_model.specs.Rebuild.{after_copy}
use Rattle.rz_rebuild.specs.declared.step.Copied.{Copied}
use Rattle.rz_rebuild.specs.Machine.{Machine, HasBinsAt, IsRebuildAfter}
use Rattle.rz_rebuild.specs.Inside.{tally_of}

-- a fetch was asked, to which this is an answer
abbrev pub IsFetchAsk : Layout → FetchAnswer → List ℕ → ReaderAsk → Type 0
IsFetchAsk layout a bins (ask.Fetch position n stamp) = IsFetched layout a × HasBinsAt layout position a bins
IsFetchAsk layout a bins question = ⊥

-- the rebuild goes on as its read stands after an answer
abbrev pub IsCopyTold : ReaderMachine → Machine → Copied → ReaderAnswer → Machine → Type 0
IsCopyTold r m c a new = IsRebuildAfter m r.pairs (after_copy true (tally_of c.tally) c.listed c.base r.state a) new
