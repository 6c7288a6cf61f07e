use Rattle.std.proofs.Common.{arith}
use Rattle.rz_index.specs.declared.nodes.IndexNode.{IndexNode}
use Rattle.rz_index.specs.Standing.{IsNode}
use Rattle.rz_index.proofs.Rotations.{none}
use Rattle.rz_index.proofs.Standing.{bare, parted, read, some-link}
use Rattle.rz_index.proofs.nodes.sides.Goals as goal
use Rattle.rz_index.proofs.nodes.sides.Goals.{then-link-eq0-via-then-link-eq0, then-link-eq0-via-else-link-eq0+then-link-row}

pub returns-then-link-eq0 : goal.returns-then-link-eq0
returns-then-link-eq0 c = λ entries parts h.
    let nowhere : (node : IndexNode) → ¬ IsNode c.args.row.now c.args.link node =
    elim c.then-link-eq0.branch [
      | then-link-eq0-via-then-link-eq0 w ↦ λ node is. omega (arith, w.if-link-eq0.true, is.linked)
      | then-link-eq0-via-else-link-eq0+then-link-row w ↦ λ node is. omega (arith, w.if-link-row.true, is.within)
    ]
    in
    bare c.args.row.now c.args.link entries parts none nowhere h

pub returns : goal.returns
returns c = λ entries parts h.
    let node = c.index-row-link.result in
    let p = parted c.args.row.now c.args.link entries parts none node (read c.args.row.now c.args.link node (some-link c.args.link c.if-link-eq0.false) c.if-link-row.false c.index-row-link.is) h in
    record { front = p.0; middle = node.packed; back = p.1; all = p.2; holds = p.3 }
