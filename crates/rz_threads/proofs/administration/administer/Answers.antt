use Rattle.std.proofs.Common.{◌∙◌, List, refl, sym, take, take_all, subst}
use Rattle.std.proofs.lemmas.Result.{err_from_is_err_and}
use Rattle.rz_script.specs.declared.line.Line.{Line}
use Rattle.rz_script.specs.Lines.{IsLine}
use Rattle.rz_nodes.proofs.Rowwise.{all-get}
use Rattle.rz_chronicle.specs.Kinds.{volume_in}
use Rattle.rz_threads.specs.Orders.{AreDone}
use Rattle.rz_threads.proofs.Done.{waits-none, done-at, done-on, done-later, begun-at}
use Rattle.rz_threads.proofs.administration.administer.Goals as goal

pub loop-line-init : goal.loop-line-init
loop-line-init g c = record { actor = refl; keys = refl; done = waits-none c.args.pass.now.log; fit = c.actor-fit.ensures.fit }

pub carry_out-requires-clause-line : goal.carry_out-requires-clause-line
carry_out-requires-clause-line g c =
    subst (IsLine (volume_in g.J.Naming.kind)) (sym c.line-item.is) (all-get (IsLine (volume_in g.J.Naming.kind)) c.args.lines.now c.loop-line.line-index c.line-item.result c.requires.lines c.loop-line-test.true)

pub loop-line-preserved : goal.loop-line-preserved
loop-line-preserved g c =
    let i = c.loop-line.invariant in
    let e = c.in_ok-carry_out.ensures in
    record {
      actor = e.same.0 ∙ i.actor;
      keys = e.same.1 ∙ i.keys;
      done = done-at g.J.Naming.kind c.args.lines.now c.loop-line.line-index c.line-item.result c.args.pass.now.log c.loop-line.pass.log c.carry_out.new.pass.log
          c.loop-line-test.true c.line-item.is i.done e.done;
      fit = e.fit;
    }

pub returns-in_err-carry_out-clause-later : goal.returns-in_err-carry_out-clause-later
returns-in_err-carry_out-clause-later g c =
    let kind = g.J.Naming.kind in
    let i = c.loop-line.invariant in
    let done = take c.loop-line.line-index c.args.lines.now in
    done-later kind done c.args.pass.now.log c.carry_out.new.pass.log (done-on kind done c.args.pass.now.log c.loop-line.pass.log c.carry_out.new.pass.log i.done c.in_err-carry_out.ensures.idle)

pub returns-in_err-carry_out-clause-begun : goal.returns-in_err-carry_out-clause-begun
returns-in_err-carry_out-clause-begun g c =
    let p = err_from_is_err_and c.from_residual.result c.from_residual.ensures.1 in
    rw p.1 (begun-at g.J.Naming.kind c.args.lines.now c.loop-line.line-index c.args.pass.now.log c.loop-line.pass.log c.carry_out.new.pass.log c.loop-line.invariant.done c.in_err-carry_out.ensures.idle)

whole : goal.returns-clause-done
whole g c = subst (λ (ls : List Line). AreDone g.J.Naming.kind ls c.args.pass.now.log c.loop-line.pass.log) (take_all c.loop-line.line-index c.args.lines.now c.loop-line-test.false) c.loop-line.invariant.done

pub returns-clause-done : goal.returns-clause-done
returns-clause-done g c = whole g c

pub returns-clause-later : goal.returns-clause-later
returns-clause-later g c = done-later g.J.Naming.kind c.args.lines.now c.args.pass.now.log c.loop-line.pass.log (whole g c)
