use Rattle.std.proofs.Common.{arith, get_or, ap, sym, ◌∙◌}
use Rattle.mj_angles.proofs.Order.{lifted}
use Rattle.mj_inverse.specs.declared.placed.Placed.{Placed}
use Rattle.mj_inverse.specs.Padded.{IsLined}
use Rattle.mj_inverse.proofs.Falling.{every_at, direction_here, default_free, no_projection}
use Rattle.mj_inverse.proofs.Put.{lifted_le}
use Rattle.mj_inverse.proofs.lines.lifted_angle.Goals as goal

pub returns-clause-value : goal.returns-clause-value
returns-clause-value c =
    let s : Placed = get_or c.args.all.now c.args.l no_projection in
    let is = default_free c.args.all.now c.args.l no_projection s c.requires.within in
    let given = every_at (IsLined c.args.frame.rows c.args.frame.reach) c.args.all.now c.args.l s c.requires.within is c.requires.lined in
    given.lifts ∙ ap (lifted 16) (sym (direction_here c.args.all.now c.args.l s c.requires.within is))

pub returns-clause-small : goal.returns-clause-small
returns-clause-small c =
    let s : Placed = get_or c.args.all.now c.args.l no_projection in
    let is = default_free c.args.all.now c.args.l no_projection s c.requires.within in
    let given = every_at (IsLined c.args.frame.rows c.args.frame.reach) c.args.all.now c.args.l s c.requires.within is c.requires.lined in
    let e = given.lifts in
    let small = lifted_le s.direction given.small in
    omega arith
