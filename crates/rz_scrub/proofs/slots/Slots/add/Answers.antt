use Rattle.std.proofs.Common.{ap, ◌∙◌}
use Rattle.rz_scrub.specs.Records.{Records, with_bins}
use Rattle.rz_scrub.proofs.Slotted.{records-filled}
use Rattle.rz_scrub.proofs.slots.Slots.add.Goals as goal

pub returns : goal.returns
returns c =
    records-filled c.self.inside.layout c.self.inside.slots.items c.args.position c.fill.new.slot c.args.bins.now c.fill.ensures.bins
    ∙ ap (λ (s : Records). with_bins s c.args.position c.args.bins.now) c.self.view_is
