use Rattle.std.proofs.Common.{subst}
use Rattle.rz_scrub.specs.Records.{Records, IsRecords}
use Rattle.rz_scrub.proofs.Slotted.{records-slots}
use Rattle.rz_scrub.proofs.slots.Slots.layout.Goals as goal

pub returns-clause-records : goal.returns-clause-records
returns-clause-records c =
    subst (λ (s : Records). IsRecords s) c.self.view_is (records-slots c.self.inside.layout c.self.inside.slots.items c.self.invariant)
