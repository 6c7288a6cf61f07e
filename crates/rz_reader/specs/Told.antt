-- What a read is told by the answer to a fetch, and by any other.
use Rattle.std.specs.Prelude.{ℕ, Bool, ◌≡◌, List}
use Rattle.mj_angles.specs.declared.layout.Layout.{Layout}
use Rattle.mj_inverse.specs.Fits.{Pair}
use Rattle.rz_events.specs.declared.nodes.FetchAnswer.{FetchAnswer}
use Rattle.rz_events.specs.declared.machines.ReaderAsk.{ReaderAsk}
use Rattle.rz_events.specs.declared.machines.ReaderAnswer.{ReaderAnswer}
use Rattle.rz_events.specs.declared.machines.ReaderAnswer.TheVariants as told
use Rattle.rz_client_model.specs.Read.{IsReaderAnswer, reader_told}
use Rattle.rz_reader.specs.Fetched.{record_in}
use Rattle.rz_reader.specs.Machine.{pairs_at, pairs_if, AreFitting, IsBlockOf, Machine}

-- no record came
abbrev pub IsOther : ReaderAnswer → Type 0
IsOther (told.Fetched a) = ⊥
IsOther a = Unit {0}

abbrev pub IsOtherTold : Layout → ReaderAsk → ReaderAnswer → Type 0
IsOtherTold layout question a = IsReaderAnswer layout question a × IsOther a

-- the pairs of a read after an answer
abbrev pub pairs_told : Machine → FetchAnswer → List ℕ → List Pair
pairs_told r a bins = pairs_if r.state.layout r.pairs (record_in r.state.stage (told.Fetched a)) bins

abbrev pub IsFetchedInto : Machine → FetchAnswer → List ℕ → Machine → Type 0
IsFetchedInto r a bins new = (fits : Bool) × AreFitting r.state.layout (pairs_told r a bins) fits
    × (new.state ≡ reader_told fits r.state (told.Fetched a))
    × (new.pairs ≡ pairs_at new.state.stage (pairs_told r a bins))
    × IsBlockOf r.state.layout (pairs_told r a bins) new.state.stage new.block
