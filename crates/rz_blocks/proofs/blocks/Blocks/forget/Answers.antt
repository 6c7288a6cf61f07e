use Rattle.std.proofs.Common.{ap, ◌∙◌}
use Rattle.rz_export_model.specs.Export.{without_file}
use Rattle.rz_blocks.proofs.Forgets.{without-kept}
use Rattle.rz_blocks.proofs.Marked.{forgotten}
use Rattle.rz_blocks.proofs.blocks.Blocks.forget.Goals as goal

pub invariant_of-self : goal.invariant_of-self
invariant_of-self c =
    forgotten c.self.inside.entries.entries c.remove_file.new.entries.entries c.self.inside.published c.forget.new.self c.args.fid c.self.invariant c.remove_file.ensures c.forget.ensures.marks c.forget.ensures.room

pub returns : goal.returns
returns c =
    without-kept c.self.inside.entries.entries c.remove_file.new.entries.entries c.args.fid c.remove_file.ensures ∙ ap (λ m. without_file m c.args.fid) c.self.view_is
