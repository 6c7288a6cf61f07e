use Rattle.std.proofs.Common.{◌≡◌, ◌++◌, [], List, sym, subst}
use Rattle.rz_events.specs.declared.events.Event.{Event}
use Rattle.rz_core.specs.Legal.{IsLegalInRuns}
use Rattle.rz_chronicle.specs.Kinds.{volume_in}
use Rattle.rz_store_turns.proofs.Gone.{rebuild-quiet, rebuilt-if}
use Rattle.rz_store_turns.proofs.sole.Sole.rebuild.Goals as goal

pub returns-in_err-machine-clause-quiet : goal.returns-in_err-machine-clause-quiet
returns-in_err-machine-clause-quiet g c = record {
  events = [];
  log = λ keeps. c.begin_rebuild.ensures.log;
  still = tt;
  legal = λ keeps. subst (λ (h : List Event). IsLegalInRuns (volume_in g.J.Naming.kind) (h ++ g.J.Naming.earlier)) (sym c.begin_rebuild.ensures.log) (c.stands.ensures.legal keeps);
}

pub returns-clause-quiet : goal.returns-clause-quiet
returns-clause-quiet g c =
    let m = c.in_ok-machine.machine in
    let mid = c.begin_rebuild.new.self in
    rebuild-quiet g.J.Naming.kind g.J.Naming.earlier c.args.node c.args.self.now mid c.mend-ended.new.self c.end.new.self m c.mend-ended.new.machine
    c.begin_rebuild.ensures.log c.in_ok-machine.ensures.begun c.in_ok-machine.ensures.hand.layout c.end.ensures.pass c.rebuild_still.ensures c.stands-2.ensures.legal c.mend-ended.ensures.gone

pub returns-clause-rebuilt : goal.returns-clause-rebuilt
returns-clause-rebuilt g c =
    let m = c.in_ok-machine.machine in
    let mid = c.begin_rebuild.new.self in
    rebuilt-if g.J.Naming.kind g.J.Naming.earlier c.args.node c.args.self.now mid c.mend-ended.new.self c.end.new.self m c.mend-ended.new.machine
    c.begin_rebuild.ensures.log c.in_ok-machine.ensures.begun c.in_ok-machine.ensures.hand.layout c.end.ensures.pass (c.rebuild_whole.ensures (volume_in g.J.Naming.kind)) c.stands-2.ensures.legal
    c.mend-ended.ensures.same c.mend-ended.result c.mend-ended.ensures.ended
