use Rattle.std.proofs.Common.{◌++◌, subst}
use Rattle.mj_angles.specs.declared.layout.Layout.{Layout}
use Rattle.rz_scrub.specs.Records.{no_records}
use Rattle.rz_scrub_report.specs.Asks.{AreAsked, AreRecordsFound}
use Rattle.rz_scrub_report.proofs.Going.{has-so}
use Rattle.rz_scrub_report.proofs.asking.find.Goals as goal

pub returns-clause-found : goal.returns-clause-found
returns-clause-found g c =
    let l = c.args.listed.now in
    let gives = g.S.ScrubbedStore.gives c.args.store.now in
    let layout = c.args.judge.now.layout in
    has-so c.args.store.now c.gather.new.store
    (λ w next. AreAsked gives l 0 l.info.places w next (no_records c.clear.new.self.layout) c.gather.new.judge.scrub)
    (λ w next. AreRecordsFound layout gives l w c.finding.result next) c.gather.ensures.asked
    (λ h asked. (
      c.gather.new.judge.scrub,
      subst (λ (y : Layout). AreAsked gives l 0 l.info.places (g.S.ScrubbedStore.state c.args.store.now h) (g.S.ScrubbedStore.state c.gather.new.store (c.gather.ensures.asked.later ++ h)) (no_records y) c.gather.new.judge.scrub)
          c.clear.ensures.layout asked,
      c.finding.ensures.finding,
    ))
