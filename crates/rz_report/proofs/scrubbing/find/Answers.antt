use Rattle.std.proofs.Common.{◌≤◌, ◌^◌, ℕ, Global, List, Vec, ap, arith, length, refl}
use Rattle.std.proofs.lemmas.List.{length-reverse}
use Rattle.rz_events.specs.declared.events.Event.{Event}
use Rattle.rz_report.proofs.Seeking.{sought_here}
use Rattle.rz_report.proofs.scrubbing.find.Goals as goal

pub returns-then-is_short : goal.returns-then-is_short
returns-then-is_short g c =
    let log : List Event = (g.S.Stage.world c.args.stage.now).log in
    let as_long = ap (λ (h : List Event). length h) c.log.ensures in
    let short = c.if-is_short.ensures refl in
    let few : length log ≤ 2 ^ 62 = omega (arith, as_long, length-reverse log, short) in
    sought_here g.S.Stage.tells g.S.Stage.volume g.S.Stage.world g.S.Stage.journaled g.S.Stage.is_ready g.S.Stage.holds g.S.ScrubbedStore.described g.S.ScrubbedStore.state g.S.ScrubbedStore.is_open g.S.ScrubbedStore.gives g.S.ScrubbedStore.counts
    g.S.ScrubbedStore.only_asked c.requires.stage (λ (v : Vec ℕ Global). v.items) c.args.end c.args.wish c.args.stage.now c.scrub.new.store c.scrub.result c.in-Ended.is c.in-Scrub.is
    (c.whole_scrubs.ensures c.args.stage.now) (c.requires.ready c.in-Ended.is) few c.scrub.ensures
