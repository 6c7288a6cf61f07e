use Rattle.std.proofs.Common.{◌≡◌, List, subst, refl}
use Rattle.mj_angles.specs.declared.layout.Layout.{Layout}
use Rattle.mj_inverse.specs.Fits.{Pair}
use Rattle.rz_words.specs.Grid.{Grid}
use Rattle.rz_events.specs.declared.ends.ReadMark.TheVariants as mark
use Rattle.rz_client_model.specs.declared.reading.ReadStage.{ReadStage}
use Rattle.rz_client_model.specs.declared.reading.ReadStage.TheVariants.{Looking, Fetching, Ended}
use Rattle.rz_reader.specs.Machine.{Machine, HasIfFound, IsShortIfFound, block_at}
use Rattle.rz_reader.specs.Inside.{IsStage}
use Rattle.rz_reader.proofs.reader.Reader.state.Goals as goal

has : (stage : ReadStage) (g : Grid) → HasIfFound stage (block_at stage g)
has Looking g = tt
has (Fetching t) g = tt
has (Ended (mark.Found stamp length)) g = refl
has (Ended mark.Hole) g = tt
has (Ended (mark.TooFew seen)) g = tt
has (Ended mark.Inconsistent) g = tt
has (Ended (mark.Denied cause)) g = tt
has (Ended (mark.Moved was now)) g = tt

pub returns-clause-found : goal.returns-clause-found
returns-clause-found c = subst (λ (m : Machine). HasIfFound m.state.stage m.block) c.self.view_is (has c.self.inside.state.stage c.self.inside.block)

short : (layout : Layout) (pairs : List Pair) (stage : ReadStage) → IsStage layout pairs stage → IsShortIfFound layout stage
short layout pairs Looking h = tt
short layout pairs (Fetching t) h = tt
short layout pairs (Ended (mark.Found stamp length)) h = h
short layout pairs (Ended mark.Hole) h = tt
short layout pairs (Ended (mark.TooFew seen)) h = tt
short layout pairs (Ended mark.Inconsistent) h = tt
short layout pairs (Ended (mark.Denied cause)) h = tt
short layout pairs (Ended (mark.Moved was now)) h = tt

pub returns-clause-short : goal.returns-clause-short
returns-clause-short c = subst (λ (m : Machine). IsShortIfFound m.state.layout m.state.stage) c.self.view_is
    (short c.self.inside.state.layout c.self.inside.work.pairs c.self.inside.state.stage c.self.invariant.stage)
