use Rattle.std.proofs.Common.{get_or, drop, ◌∙◌, ◌+◌, [], refl, ap, subst}
use Rattle.rz_scrub.specs.Records.{Records, bins_at, no_records}
use Rattle.rz_scrub_report.specs.Asks.{AreAsked, IsRecordAsked}
use Rattle.rz_scrub_report.specs.Stores.{State}
use Rattle.rz_scrub_report.proofs.Gathered.{asked-before, asked-next, bare-after, bare-at-first}
use Rattle.rz_scrub_report.proofs.Going.{has-none, has-then}
use Rattle.rz_scrub_report.proofs.asking.gather.Goals as goal

pub loop-i-init : goal.loop-i-init
loop-i-init g c =
    let nodes = c.list-nodes.result.now in
    let l = c.args.listed.now in
    let gives = g.S.ScrubbedStore.gives c.args.store.now in
    let layout = c.args.judge.now.layout in
    record {
      judge = refl;
      bare = λ p low. ap (λ (s : Records). bins_at s p) c.requires.bare ∙ bare-at-first layout p;
      asked = has-none g.S.ScrubbedStore.itself c.args.store.now c.requires.ready
          (λ w mid. (next : State) (t : Records) → AreAsked gives l 0 nodes mid next c.args.judge.now.scrub t → AreAsked gives l 0 nodes w next (no_records layout) t)
          (λ w next t rest. subst (λ (s : Records). AreAsked gives l 0 nodes w next s t) c.requires.bare rest);
    }

pub loop-i-preserved : goal.loop-i-preserved
loop-i-preserved g c =
    let first = c.args.store.now in
    let gives = g.S.ScrubbedStore.gives first in
    let l = c.args.listed.now in
    let i = c.loop-i.invariant in
    let e = c.ask.ensures in
    let nodes = c.list-nodes.result.now in
    let n = get_or nodes c.loop-i.i 0 in
    let s = c.loop-i.judge.scrub in
    let s' = c.ask.new.judge.scrub in
    record {
      judge = e.judge ∙ i.judge;
      bare = bare-after (e.asked.told []) i.bare;
      asked = has-then g.S.ScrubbedStore.then first c.loop-i.store c.ask.new.store
          (λ w mid. (next : State) (t : Records) → AreAsked gives l c.loop-i.i (drop c.loop-i.i nodes) mid next s t → AreAsked gives l 0 nodes w next (no_records c.args.judge.now.layout) t)
          (λ w next. IsRecordAsked (g.S.ScrubbedStore.gives c.loop-i.store) l c.loop-i.i n w next s s')
          (λ w mid. (next : State) (t : Records) → AreAsked gives l (c.loop-i.i + 1) (drop (c.loop-i.i + 1) nodes) mid next s' t → AreAsked gives l 0 nodes w next (no_records c.args.judge.now.layout) t)
          i.asked e.asked
          (λ h mid now same before asked next t rest. before next t (asked-next gives l nodes c.loop-i.i mid now next s s' t c.loop-i-test.true (asked-before i.asked.onward.given asked) rest));
    }
