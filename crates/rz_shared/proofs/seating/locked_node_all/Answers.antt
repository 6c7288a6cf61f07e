use Rattle.std.proofs.Common.{◌≡◌, length, arith, vec_len, ◌∙◌}
use Rattle.rz_shared.specs.Seating.{IsNodeReady}
use Rattle.rz_shared.proofs.Pairs.{both-popped, zip-lengths}
use Rattle.rz_shared.proofs.seating.locked_node_all.Goals as goal

pub seated-requires : goal.seated-requires
seated-requires g c =
    record {
      ready = (both-popped (IsNodeReady g.D.Disk.tells g.D.Disk.meter g.D.Disk.image g.J.Naming.kind g.J.Naming.earlier g.J.Metering.first) c.loop-server.servers.items c.pop.new.self.items c.loop-server.word_tokens.items c.pop-in-Some.new.self.items c.in-Some.server c.in-Some-pop.word_token
          c.in-Some.ensures.items c.in-Some-pop.ensures.items c.loop-server.invariant.ready).1;
    }

pub push_reserved-requires : goal.push_reserved-requires
push_reserved-requires g c =
    let popped = c.in-Some.ensures.cases in
    let count = c.loop-server.invariant.count in let room = c.loop-server.invariant.room in
    omega (arith, count, popped, room)

pub loop-server-preserved-in-Some-pop : goal.loop-server-preserved-in-Some-pop
loop-server-preserved-in-Some-pop g c =
    let inv = c.loop-server.invariant in
    let popped = c.in-Some.ensures.cases in
    let count = inv.count in let room = inv.room in
    let more = c.push_reserved.ensures.len in let same = c.push_reserved.ensures.capacity in
    record {
      ready = (both-popped (IsNodeReady g.D.Disk.tells g.D.Disk.meter g.D.Disk.image g.J.Naming.kind g.J.Naming.earlier g.J.Metering.first) c.loop-server.servers.items c.pop.new.self.items c.loop-server.word_tokens.items c.pop-in-Some.new.self.items c.in-Some.server c.in-Some-pop.word_token
          c.in-Some.ensures.items c.in-Some-pop.ensures.items inv.ready).0;
      count = omega (arith, count, popped, more);
      room = omega (arith, room, same);
      home = c.pop-in-Some.ensures.capacity ∙ inv.home;
    }

pub loop-server-preserved : goal.loop-server-preserved
loop-server-preserved g c =
    let same = zip-lengths (IsNodeReady g.D.Disk.tells g.D.Disk.meter g.D.Disk.image g.J.Naming.kind g.J.Naming.earlier g.J.Metering.first) c.loop-server.servers.items c.loop-server.word_tokens.items c.loop-server.invariant.ready in
    let some = c.in-Some.ensures.cases in let none = c.in_default-pop.ensures.cases.0 in
    let servers : vec_len c.loop-server.servers ≡ length c.loop-server.servers.items = c.loop-server.servers.ok.0 in
    let word_tokens : vec_len c.loop-server.word_tokens ≡ length c.loop-server.word_tokens.items = c.loop-server.word_tokens.ok.0 in
    absurd (omega (arith, same, some, none, servers, word_tokens))

pub returns-clause-empty : goal.returns-clause-empty
returns-clause-empty g c =
    let same = zip-lengths (IsNodeReady g.D.Disk.tells g.D.Disk.meter g.D.Disk.image g.J.Naming.kind g.J.Naming.earlier g.J.Metering.first) c.loop-server.servers.items c.loop-server.word_tokens.items c.loop-server.invariant.ready in
    let none = c.in_default.ensures.cases.0 in
    let servers : vec_len c.loop-server.servers ≡ length c.loop-server.servers.items = c.loop-server.servers.ok.0 in
    let word_tokens : vec_len c.loop-server.word_tokens ≡ length c.loop-server.word_tokens.items = c.loop-server.word_tokens.ok.0 in
    omega (arith, same, none, servers, word_tokens)
