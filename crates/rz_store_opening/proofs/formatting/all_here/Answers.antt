use Rattle.std.proofs.Common.{◌≡◌, ◌++◌, ◌∷◌, [], Some, length, map, ◌∙◌, ap, arith, vec_len}
use Rattle.rz_disk.specs.UnderFuse.{UnderFuse}
use Rattle.rz_nodes.specs.declared.formatting.Server.{Server}
use Rattle.rz_nodes.proofs.Rowwise.{one-back}
use Rattle.rz_store_opening.proofs.EmptyDisks.{some-disks}
use Rattle.rz_store_opening.proofs.InOrder.{all-out, none-out}
use Rattle.rz_store_opening.proofs.formatting.all_here.Goals as goal

pub loop-server-init : goal.loop-server-init
loop-server-init g c =
    let row : vec_len c.args.row ≡ length c.args.row.items = c.args.row.ok.0 in
    let none = c.requires.row.0 in
    let fits = c.requires.row.1 in
    record {
      all = none-out (map (λ (s : Server (UnderFuse g.row.D.Denot)). Some s.node.disk.disk) c.args.servers.items) c.args.row.items (omega (arith, none, row));
      room = omega (arith, none, fits);
    }

pub loop-server-preserved : goal.loop-server-preserved
loop-server-preserved g c =
    let room = c.loop-server.invariant.room in
    let popped = c.in-Some.ensures.cases in
    let longer = c.push_reserved.ensures.len in
    let roomy = c.push_reserved.ensures.capacity in
    let disk : c.into_inner.result ≡ c.in-Some.server.node.disk.disk = c.into_inner.ensures ∙ ap (λ (f : UnderFuse g.row.D.Denot). f.disk) c.into_disk.ensures in
    record {
      all = one-back (λ (s : Server (UnderFuse g.row.D.Denot)). Some s.node.disk.disk) c.loop-server.servers.items c.pop.new.self.items c.in-Some.server c.loop-server.row.items c.push_reserved.new.self.items _
          c.in-Some.ensures.items (c.push_reserved.ensures.items ∙ ap (λ (d : g.row.D.Denot). c.loop-server.row.items ++ Some d ∷ []) disk) c.loop-server.invariant.all;
      room = omega (arith, room, popped, longer, roomy);
    }

pub returns : goal.returns
returns g c =
    let none = c.in_default.ensures.cases.0 in
    let servers : vec_len c.loop-server.servers ≡ length c.loop-server.servers.items = c.loop-server.servers.ok.0 in
    c.reverse.ensures.items ∙ all-out (λ (s : Server (UnderFuse g.row.D.Denot)). Some s.node.disk.disk) c.loop-server.servers.items c.loop-server.row.items _ (omega (arith, none, servers)) c.loop-server.invariant.all ∙ some-disks c.args.servers.items
