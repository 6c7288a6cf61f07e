use Rattle.rz_scrub.proofs.Slotted.{no-slots}
use Rattle.rz_scrub.proofs.slots.Slots.new.Goals as goal

pub returns : goal.returns
returns c = no-slots c.args.layout c.in_ok-slots.slots.items c.in_ok-slots.ensures.slots c.in_ok-slots.ensures.empty
