-- A turn of a read is one of its operation.
use Rattle.std.proofs.Common.{ℕ, List, ap, refl}
use Rattle.rz_events.specs.declared.nodes.FetchAnswer.{FetchAnswer}
use Rattle.rz_events.specs.declared.nodes.NodeAnswer.TheVariants as node
use Rattle.rz_client_model.specs.declared.reading.ReaderState.{ReaderState}
use Rattle.rz_reader.specs.Machine.{Machine as Reader}
use Rattle.rz_reader.specs.Told.{IsFetchedInto}
use Rattle.rz_operation_model.specs.Work.{Reading, Alone}
use Rattle.rz_operation_states.specs.declared.stage.OperationState.TheVariants as stage
use Rattle.rz_operation_states.specs.Answers.{FitsIfEnough}
use Rattle.rz_operation_states.specs.Inside.{machine_of}

pub fetched : (r new : Reader) (a : FetchAnswer) (bins : List ℕ) → IsFetchedInto r a bins new →
    FitsIfEnough (machine_of r.state.layout (stage.Reading r)) (node.Fetch a) bins (machine_of r.state.layout (stage.Reading new))
fetched r new a bins h = (
  h.0,
  h.1,
  record { layout = refl; work = ap (λ (s : ReaderState). Reading Alone s) h.2; pairs = h.3; block = h.4 },
)
