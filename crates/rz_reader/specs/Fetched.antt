-- Records of the published stamp among the answers of a read.
use Rattle.std.specs.Prelude.{ℕ, ◌==◌, cond, Option, Some, None}
use Rattle.rz_events.specs.declared.nodes.FetchAnswer.{FetchAnswer}
use Rattle.rz_events.specs.declared.nodes.FetchAnswer.TheVariants as fetch
use Rattle.rz_events.specs.declared.machines.ReaderAnswer.{ReaderAnswer}
use Rattle.rz_events.specs.declared.machines.ReaderAnswer.TheVariants as told
use Rattle.rz_client_model.specs.declared.reading.ReadStage.{ReadStage}
use Rattle.rz_client_model.specs.declared.reading.ReadStage.TheVariants.{Looking, Fetching, Ended}
use Rattle.rz_reader.specs.declared.steps.Record.{Record}

-- the record of the published stamp, where the answer is one
abbrev pub record_in : ReadStage → ReaderAnswer → Option Record
record_in (Fetching t) (told.Fetched (fetch.Held r)) = cond (r.stamp == t.stamp) (Some (record { fetches = t; length = r.length })) None
record_in stage answer = None
