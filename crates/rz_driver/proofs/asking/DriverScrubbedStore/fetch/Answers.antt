use Rattle.rz_driver.proofs.FetchLemmas.{fetched-of, goes-on}
use Rattle.rz_driver.proofs.asking.DriverScrubbedStore.fetch.Goals as goal

pub returns-clause-fetched : goal.returns-clause-fetched
returns-clause-fetched g c =
    let e = c.fetch.ensures in
    fetched-of c.args.self.now c.fetch.new.self e.asked c.args.key c.args.stamp c.fetch.result c.args.node e.fetched

pub returns-clause-onward : goal.returns-clause-onward
returns-clause-onward g c = λ position.
    let e = c.fetch.ensures in
    goes-on c.args.self.now c.fetch.new.self e.asked c.args.key c.args.stamp c.fetch.result c.args.node position e.ready (λ h first met. e.metered position h first met)
