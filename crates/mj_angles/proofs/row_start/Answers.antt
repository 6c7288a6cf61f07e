use Rattle.std.proofs.Common.{rules, ◌≡◌, ◌*◌, ◌-◌, ap, ◌∙◌, pos}
use Rattle.mj_angles.specs.Projection.{row_start}
use Rattle.mj_angles.proofs.Line.{row_start-is}
use Rattle.mj_angles.proofs.row_start.Goals as goal

pub returns-else-p-ge0-clause-law : goal.returns-else-p-ge0-clause-law
returns-else-p-ge0-clause-law c =
    let start : c.unsigned_abs-size.result * (c.args.rows - 1 - c.args.l) ≡ row_start c.args.p c.args.rows c.args.l = search rules in
    ap pos start ∙ row_start-is c.args.p c.args.rows c.args.l c.requires.row
