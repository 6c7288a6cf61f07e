use Rattle.std.proofs.Common.{rules, ◌≡◌, Some, None, true}
use Rattle.rz_reader.specs.Fetched.{record_in}
use Rattle.rz_reader.specs.Machine.{pairs_after}
use Rattle.rz_reader.proofs.Telling.{told-record, told-other}
use Rattle.rz_reader.proofs.reader.Reader.tell.Goals as goal

pub returns-in-Some-clause-state : goal.returns-in-Some-clause-state
returns-in-Some-clause-state c =
    let is : record_in c.self.inside.state.stage c.args.answer ≡ Some c.in-Some.fetched = search rules in
    told-record c.self.inside.state c.self.inside.work c.self.inside.block c.args.self.now c.args.answer c.args.bins.now c.in-Some.fetched
    c.after_record-stage.result c.self.view_is is c.after_record-stage.ensures.state

pub invariant_of-self-2 : goal.invariant_of-self-2
invariant_of-self-2 c = record {
  places = c.self.invariant.places;
  work_rows = c.self.invariant.work_rows;
  work_cols = c.self.invariant.work_cols;
  rows = c.self.invariant.rows;
  cols = c.self.invariant.cols;
  stage = c.after_other-stage.ensures.kept c.self.inside.work.pairs c.self.invariant.stage;
}

pub returns-clause-block : goal.returns-clause-block
returns-clause-block c =
    let none : record_in c.self.inside.state.stage c.args.answer ≡ None = search rules in
    told-other c.self.inside.state c.self.inside.work c.self.inside.block c.args.self.now c.args.answer (pairs_after c.args.self.now c.args.answer c.args.bins.now)
    c.after_other-stage.result c.self.view_is c.requires.asked none (c.after_other-stage.ensures.value true)
