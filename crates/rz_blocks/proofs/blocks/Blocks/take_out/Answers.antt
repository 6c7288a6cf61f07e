use Rattle.std.proofs.Common.{false, None, ap, ◌∙◌, refl}
use Rattle.std.specs.FinMap as maps
use Rattle.rz_blocks.proofs.Shows.{one-gone}
use Rattle.rz_blocks.proofs.Marked.{rewritten}
use Rattle.rz_blocks.proofs.blocks.Blocks.take_out.Goals as goal

pub invariant_of-self : goal.invariant_of-self
invariant_of-self c =
    rewritten c.self.inside.entries.entries c.remove.new.self.entries c.self.inside.published c.set.new.self c.args.key None false
    c.self.invariant c.remove.ensures.updates.0 c.set.ensures.marks c.set.ensures.room refl (λ h. cc) (λ h. cc)

pub returns : goal.returns
returns c = one-gone c.self.inside.entries.entries c.remove.new.self.entries c.args.key c.remove.ensures.updates.0 ∙ ap (λ m. maps.remove m c.args.key) c.self.view_is
