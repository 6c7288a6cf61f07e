use Rattle.std.proofs.Common.{List, ℕ, subst}
use Rattle.std.specs.List.{IsDistinct}
use Rattle.std.specs.Prelude.{nat_eq}
use Rattle.rz_events.specs.Volume.{Volume}
use Rattle.rz_chronicle.specs.Keys.{sids_of, StandApart}
use Rattle.rz_chronicle.specs.Kinds.{volume_in}
use Rattle.rz_chronicle.proofs.Apart.{stand-apart}
use Rattle.rz_chronicle.proofs.book.Book.stands.Goals as goal

pub returns-clause-apart : goal.returns-clause-apart
returns-clause-apart g c =
    let distinct : IsDistinct nat_eq (sids_of (volume_in g.J.Naming.kind)) = subst (IsDistinct nat_eq) c.self.invariant.0 c.self.invariant.3 in
    subst (λ (v : Volume). StandApart (sids_of v)) c.self.view_is (stand-apart (sids_of (volume_in g.J.Naming.kind)) distinct)
