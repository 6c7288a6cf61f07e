use Rattle.std.proofs.Common.{sym, ap, ◌∙◌, arith, length}
use Rattle.rz_tree.proofs.Fronts.{walk-begin, walk-on, walk-stop, walk-done}
use Rattle.rz_tree.proofs.tree.Tree.walk.Goals as goal

pub loop-count-init : goal.loop-count-init
loop-count-init c = walk-begin c.args.self.now c.args.path.now

pub loop-count-preserved : goal.loop-count-preserved
loop-count-preserved c =
    let size = ap length c.names-count-end.ensures in
    c.loop-count.invariant ∙ walk-on c.args.self.now c.args.path.now c.loop-count.count c.loop-count.auto.count (omega (arith, size, c.loop-count-test.true)) (sym c.no_directory.ensures ∙ c.in_default.is)

pub returns-in-Some : goal.returns-in-Some
returns-in-Some c =
    let size = ap length c.names-count-end.ensures in
    sym (c.loop-count.invariant ∙ walk-stop c.args.self.now c.args.path.now c.loop-count.count c.in-Some.fault c.loop-count.auto.count (omega (arith, size, c.loop-count-test.true)) (sym c.no_directory.ensures ∙ c.in-Some.is))

pub returns : goal.returns
returns c =
    let size = ap length c.names-count-end.ensures in
    sym (c.loop-count.invariant ∙ walk-done c.args.self.now c.args.path.now c.loop-count.count c.loop-count.auto.count (omega (arith, size, c.loop-count-test.false)))
