use Rattle.std.proofs.Common.{◌≡◌, length, arith, vec_len, ◌∙◌}
use Rattle.rz_shared.specs.Seating.{IsArrivedReady}
use Rattle.rz_shared.proofs.Pairs.{both-popped, zip-lengths}
use Rattle.rz_shared.proofs.seating.locked_node_each.Goals as goal

pub lock_of-requires-clause-ready : goal.lock_of-requires-clause-ready
lock_of-requires-clause-ready g c =
    (both-popped (IsArrivedReady g.D.Disk.tells g.D.Disk.meter g.D.Disk.image g.J.Naming.kind g.J.Naming.earlier g.J.Metering.first) c.loop-node.nodes.items c.pop.new.self.items c.loop-node.word_tokens.items c.pop-in-Some.new.self.items c.in-Some.node c.in-Some-pop.word_token
    c.in-Some.ensures.items c.in-Some-pop.ensures.items c.loop-node.invariant.ready).1

pub push_reserved-requires : goal.push_reserved-requires
push_reserved-requires g c =
    let popped = c.in-Some.ensures.cases in
    let count = c.loop-node.invariant.count in let room = c.loop-node.invariant.room in
    omega (arith, count, popped, room)

pub loop-node-preserved-in-Some-pop : goal.loop-node-preserved-in-Some-pop
loop-node-preserved-in-Some-pop g c =
    let inv = c.loop-node.invariant in
    let popped = c.in-Some.ensures.cases in
    let count = inv.count in let room = inv.room in
    let more = c.push_reserved.ensures.len in let same = c.push_reserved.ensures.capacity in
    record {
      ready = (both-popped (IsArrivedReady g.D.Disk.tells g.D.Disk.meter g.D.Disk.image g.J.Naming.kind g.J.Naming.earlier g.J.Metering.first) c.loop-node.nodes.items c.pop.new.self.items c.loop-node.word_tokens.items c.pop-in-Some.new.self.items c.in-Some.node c.in-Some-pop.word_token
          c.in-Some.ensures.items c.in-Some-pop.ensures.items inv.ready).0;
      count = omega (arith, count, popped, more);
      room = omega (arith, room, same);
      home = c.pop-in-Some.ensures.capacity ∙ inv.home;
    }

pub loop-node-preserved : goal.loop-node-preserved
loop-node-preserved g c =
    let same = zip-lengths (IsArrivedReady g.D.Disk.tells g.D.Disk.meter g.D.Disk.image g.J.Naming.kind g.J.Naming.earlier g.J.Metering.first) c.loop-node.nodes.items c.loop-node.word_tokens.items c.loop-node.invariant.ready in
    let some = c.in-Some.ensures.cases in let none = c.in_default-pop.ensures.cases.0 in
    let nodes : vec_len c.loop-node.nodes ≡ length c.loop-node.nodes.items = c.loop-node.nodes.ok.0 in
    let word_tokens : vec_len c.loop-node.word_tokens ≡ length c.loop-node.word_tokens.items = c.loop-node.word_tokens.ok.0 in
    absurd (omega (arith, same, some, none, nodes, word_tokens))

pub returns-clause-empty : goal.returns-clause-empty
returns-clause-empty g c =
    let same = zip-lengths (IsArrivedReady g.D.Disk.tells g.D.Disk.meter g.D.Disk.image g.J.Naming.kind g.J.Naming.earlier g.J.Metering.first) c.loop-node.nodes.items c.loop-node.word_tokens.items c.loop-node.invariant.ready in
    let none = c.in_default.ensures.cases.0 in
    let nodes : vec_len c.loop-node.nodes ≡ length c.loop-node.nodes.items = c.loop-node.nodes.ok.0 in
    let word_tokens : vec_len c.loop-node.word_tokens ≡ length c.loop-node.word_tokens.items = c.loop-node.word_tokens.ok.0 in
    omega (arith, same, none, nodes, word_tokens)
