use Rattle.std.proofs.Common.{ap, ◌∙◌}
use Rattle.rz_scrub.specs.Records.{Records, no_records}
use Rattle.rz_scrub.proofs.Slotted.{no-slots}
use Rattle.rz_scrub.proofs.slots.Slots.clear.Goals as goal

pub returns : goal.returns
returns c =
    no-slots c.self.inside.layout c.empty.new.slots.items (c.empty.ensures.rooms c.self.inside.layout c.self.invariant) c.empty.ensures.empty
    ∙ ap (λ (s : Records). no_records s.layout) c.self.view_is
