use Rattle.std.proofs.Common.{refl, length, arith}
use Rattle.std.proofs.lemmas.Option.{slice_get_read}
use Rattle.rz_driver_nodes.proofs.Rows.{first-at, none-at, none-more}
use Rattle.rz_driver_nodes.proofs.server.find.Goals as goal

pub returns-then-server-sid : goal.returns-then-server-sid
returns-then-server-sid g c =
    let is = slice_get_read c.args.servers.now (length c.args.servers.now) c.loop-i.i c.index-servers-i.result refl c.loop-i-test.true c.index-servers-i.is in
    first-at c.args.servers.now c.args.sid c.loop-i.i c.index-servers-i.result is c.if-server-sid.true c.loop-i.invariant

pub loop-i-preserved : goal.loop-i-preserved
loop-i-preserved g c = let is = slice_get_read c.args.servers.now (length c.args.servers.now) c.loop-i.i c.index-servers-i.result refl c.loop-i-test.true c.index-servers-i.is in
    none-more c.args.servers.now c.args.sid c.loop-i.i c.index-servers-i.result is c.if-server-sid.false c.loop-i.invariant

pub returns : goal.returns
returns g c = none-at c.args.servers.now c.args.sid (λ k x low at. c.loop-i.invariant k x (let end = c.loop-i-test.false in omega (arith, low, end)) at)
