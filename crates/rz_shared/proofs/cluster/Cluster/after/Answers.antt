use Rattle.std.proofs.Common.{◌≡◌, length, ◌∙◌, ap, subst, arith, vec_len}
use Rattle.std.specs.List.{AllByRecursion}
use Rattle.rz_events.specs.Volume.{Volume, IsNode, IsVolume, nodes_of}
use Rattle.rz_shared.specs.Seating.{IsArrivedReady}
use Rattle.rz_shared.proofs.Pairs.{zip-lengths}
use Rattle.rz_shared.proofs.cluster.Cluster.after.Goals as goal

pub of-requires-clause-word_tokens : goal.of-requires-clause-word_tokens
of-requires-clause-word_tokens g c =
    let same = zip-lengths (IsArrivedReady g.D.Disk.tells g.D.Disk.meter g.D.Disk.image g.J.Naming.kind g.J.Naming.earlier g.J.Metering.first) c.args.parts.nodes.items c.args.desk.nodes.items c.requires.ready in
    let count = c.requires.count in
    let volume = ap (λ (v : Volume). length (nodes_of v.clusters)) c.requires.volume in
    let desk : vec_len c.args.desk.nodes ≡ length c.args.desk.nodes.items = c.args.desk.nodes.ok.0 in
    let fits = c.args.desk.nodes.ok.1 in
    let kept = c.locked_node_each-locked_nodes.ensures.home in
    (c.locked_node_each-locked_nodes.ensures.empty, omega (arith, same, count, volume, desk, fits, kept))

pub invariant_of-result : goal.invariant_of-result
invariant_of-result g c =
    let count = c.requires.count in
    let all = ap length c.in-Ok.ensures.nodes in
    let volume = ap (λ (v : Volume). length (nodes_of v.clusters)) c.requires.volume in
    let arrived : vec_len c.args.parts.nodes ≡ length c.args.parts.nodes.items = c.args.parts.nodes.ok.0 in
    let nodes : vec_len c.in-Ok.nodes ≡ length c.in-Ok.nodes.items = c.in-Ok.nodes.ok.0 in
    let made = c.locked_node_each-locked_nodes.ensures.count in (
      c.in-Ok.ensures.nodes ∙ ap (λ (v : Volume). nodes_of v.clusters) c.requires.volume,
      omega (arith, made, arrived, count, all, nodes),
      omega (arith, made, arrived, count, volume),
      subst IsVolume c.requires.volume c.all_nodes.ensures.rules,
      subst (λ (v : Volume). AllByRecursion IsNode (nodes_of v.clusters)) c.requires.volume c.all_nodes.ensures.proper,
      ap (λ (v : Volume). v.layout) (c.volume.view_is ∙ c.requires.volume),
    )
