use Rattle.std.proofs.Common.{◌≡◌, ◌<◌, Option, length, ◌∙◌, ap, arith, vec_len}
use Rattle.rz_nodes.specs.declared.arriving.Missing.{Missing}
use Rattle.rz_store_opening.specs.Opening.{disk_in, disks_in}
use Rattle.rz_store_opening.proofs.InOrder.{disk-out, last-out, none-out}
use Rattle.rz_store_opening.proofs.back.hand_back.Goals as goal

pub loop-node-init : goal.loop-node-init
loop-node-init g c =
    let home : vec_len c.args.opened.parts.home ≡ length c.args.opened.parts.home.items = c.args.opened.parts.home.ok.0 in
    let none = c.requires.empty in
    let room = c.requires.room in
    record {
      all = none-out (disks_in c.args.opened.parts.nodes.items c.args.opened.missing.items) c.args.opened.parts.home.items (omega (arith, none, home));
      count = c.requires.count;
      room = omega (arith, none, room);
    }

pub loop-node-preserved : goal.loop-node-preserved
loop-node-preserved g c =
    let inv = c.loop-node.invariant in
    let popped = c.in-Some.ensures.cases in
    let nodes : vec_len c.loop-node.nodes ≡ length c.loop-node.nodes.items = c.loop-node.nodes.ok.0 in
    let nodes_left : vec_len c.pop.new.self ≡ length c.pop.new.self.items = c.pop.new.self.ok.0 in
    let missing : vec_len c.loop-node.missing ≡ length c.loop-node.missing.items = c.loop-node.missing.ok.0 in
    let missing_left : vec_len c.pop-in-Some.new.self ≡ length c.pop-in-Some.new.self.items = c.pop-in-Some.new.self.ok.0 in
    let count = inv.count in
    let room = inv.room in
    let some : 0 < vec_len c.loop-node.missing = omega (arith, popped, nodes, missing, count) in
    let took = last-out c.loop-node.missing.items c.pop-in-Some.new.self.items c.pop-in-Some.result c.pop-in-Some.ensures.items (c.pop-in-Some.ensures.variant.1 some) in
    let why = c.flatten-why.ensures ∙ took.1 in
    let one = took.3 in
    let left = c.pop-in-Some.ensures.len in
    let more = c.push_reserved.ensures.len in
    let same = c.push_reserved.ensures.capacity in
    let counts : length c.pop-in-Some.new.self.items ≡ length c.pop.new.self.items = omega (arith, popped, nodes, nodes_left, missing, missing_left, count, one, left) in
    record {
      all = disk-out c.loop-node.nodes.items c.pop.new.self.items c.loop-node.missing.items c.pop-in-Some.new.self.items c.in-Some.node took.0 c.disk_in.result c.loop-node.disks.items c.push_reserved.new.self.items _
          c.in-Some.ensures.items took.2 counts (c.disk_in.ensures ∙ ap (λ (y : Option (Missing g.row.D.Denot)). disk_in c.in-Some.node y) why) c.push_reserved.ensures.items inv.all;
      count = counts;
      room = omega (arith, popped, room, more, same);
    }
