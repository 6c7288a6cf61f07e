use Rattle.std.proofs.Common.{sym, ap, ◌∙◌}
use Rattle.std.specs.Prelude.{◌==◌}
use Rattle.std.specs.FinMap as maps
use Rattle.rz_export_model.proofs.Forgets.{first_of_file}
use Rattle.rz_export_model.specs.Firsts.{given_if}
use Rattle.rz_blocks.proofs.Ranges.{first-shown}
use Rattle.rz_blocks.proofs.Shows.{entries-shown}
use Rattle.rz_blocks.proofs.blocks.Blocks.first_of.Goals as goal

pub returns : goal.returns
returns c =
    let es = c.self.inside.entries.entries in
    c.first_key.ensures.first ∙ first-shown (λ e. given_if (e.0.fid == c.args.fid) e.0) es
    ∙ sym (ap (first_of_file c.args.fid) (entries-shown es c.first_key.ensures.ordered)) ∙ ap (λ b. first_of_file c.args.fid (maps.entries b)) c.self.view_is
