use Rattle.std.proofs.Common.{◌≡◌, ◌++◌, ◌∷◌, [], ◌∙◌, ap, arith}
use Rattle.rz_disk.specs.UnderFuse.{UnderFuse}
use Rattle.rz_nodes.specs.declared.formatting.Server.{Server}
use Rattle.rz_nodes.proofs.FormatLemmas.{pushed}
use Rattle.rz_nodes.proofs.Rowwise.{one-back}
use Rattle.rz_nodes.proofs.back.hand_back.Goals as goal

pub loop-server-preserved : goal.loop-server-preserved
loop-server-preserved g c =
    let room = c.loop-server.invariant.room in
    let popped = c.in-Some.ensures.cases in
    let longer = c.push-back.ensures.upper_bound in
    let roomy = c.push-back.ensures.capacity in
    let fits = c.push-back.ensures.succeeds (omega (arith, room, popped)) in
    let disk : c.into_inner.result ≡ c.in-Some.server.node.disk.disk = c.into_inner.ensures ∙ ap (λ (f : UnderFuse g.row.D.Denot). f.disk) c.into_disk.ensures in
    let items = pushed c.loop-server.home.items c.push-back.new.self.items c.into_inner.result _ c.push-back.ensures.items fits in
    record {
      room = omega (arith, room, popped, longer, roomy);
      all = one-back (λ (s : Server (UnderFuse g.row.D.Denot)). s.node.disk.disk) c.loop-server.servers.items c.pop.new.self.items c.in-Some.server c.loop-server.home.items c.push-back.new.self.items _
          c.in-Some.ensures.items (items ∙ ap (λ (d : g.row.D.Denot). c.loop-server.home.items ++ d ∷ []) disk) c.loop-server.invariant.all;
    }
