use Rattle.std.proofs.Common.{◌≡◌, length, ap, arith, vec_len}
use Rattle.rz_nodes.proofs.Rowwise.{zip-more}
use Rattle.rz_shared.specs.Returned.{IsReturnedIf}
use Rattle.rz_chronicle.specs.Rules.{WordTokenView}
use Rattle.rz_shared.proofs.Ordered.{words-at, first-words, word-next, last-words, none-zip}
use Rattle.rz_shared.proofs.Returning.{returned}
use Rattle.rz_shared.proofs.closing.empty_all.Goals as goal

pub loop-locked_node-init : goal.loop-locked_node-init
loop-locked_node-init g c =
    let no_disk = c.requires.disks.0 in let no_word_token = c.requires.word_tokens.0 in
    let disks : vec_len c.args.disks ≡ length c.args.disks.items = c.args.disks.ok.0 in
    let word_tokens : vec_len c.args.word_tokens ≡ length c.args.word_tokens.items = c.args.word_tokens.ok.0 in
    let count = c.reverse.ensures.len in
    record {
      returned = none-zip (IsReturnedIf g.D.Disk.meter g.D.Disk.image g.J.Metering.fixed g.J.Naming.kind g.J.Naming.earlier g.J.Metering.first) c.args.disks.items c.args.word_tokens.items (omega (arith, no_disk, disks)) (omega (arith, no_word_token, word_tokens));
      words = first-words c.args.word_tokens.items c.args.locked_nodes.items c.reverse.new.self.items (omega (arith, no_word_token, word_tokens)) c.reverse.ensures.items;
      count = omega (arith, no_disk, count);
      same = omega (arith, no_disk, no_word_token);
      disks = c.requires.disks.1;
      word_tokens = c.requires.word_tokens.1;
    }

pub push_reserved-requires : goal.push_reserved-requires
push_reserved-requires g c =
    let popped = c.in-Some.ensures.cases in
    let count = c.loop-locked_node.invariant.count in let disks = c.loop-locked_node.invariant.disks in
    omega (arith, count, popped, disks)

pub push_reserved-requires-in-Some : goal.push_reserved-requires-in-Some
push_reserved-requires-in-Some g c =
    let popped = c.in-Some.ensures.cases in
    let count = c.loop-locked_node.invariant.count in let same = c.loop-locked_node.invariant.same in let word_tokens = c.loop-locked_node.invariant.word_tokens in
    omega (arith, count, popped, same, word_tokens)

pub loop-locked_node-preserved : goal.loop-locked_node-preserved
loop-locked_node-preserved g c =
    let inv = c.loop-locked_node.invariant in
    let popped = c.in-Some.ensures.cases in
    let locked_node = c.in-Some.locked_node in
    let count = inv.count in let same = inv.same in let disks = inv.disks in let word_tokens = inv.word_tokens in
    let disk = c.unfused.result in let word_token = c.close_after-disk.result.1 in
    let disk_more = c.push_reserved.ensures.len in let word_token_more = c.push_reserved-in-Some.ensures.len in
    let disk_room = c.push_reserved.ensures.capacity in let word_token_room = c.push_reserved-in-Some.ensures.capacity in
    let it = returned g.D.Disk.meter g.D.Disk.image g.J.Metering.fixed g.J.Naming.kind g.J.Naming.earlier g.J.Metering.first locked_node.node locked_node.log c.close_after-disk.result.0 disk word_token c.close_after-disk.ensures.word_token c.unfused.ensures
    c.close_after-disk.ensures.of_volume c.close_after-disk.ensures.images c.close_after-disk.ensures.counted c.close_after-disk.ensures.here c.close_after-disk.ensures.up in
    let word = word-next c.loop-locked_node.word_tokens.items word_token c.loop-locked_node.locked_nodes.items c.pop.new.self.items locked_node (words-at c.args.locked_nodes.items) c.in-Some.ensures.items (ap (λ (p : WordTokenView). p.word) c.close_after-disk.ensures.word_token) inv.words in
    record {
      returned = rw (c.push_reserved.ensures.items, c.push_reserved-in-Some.ensures.items) (zip-more (IsReturnedIf g.D.Disk.meter g.D.Disk.image g.J.Metering.fixed g.J.Naming.kind g.J.Naming.earlier g.J.Metering.first) c.loop-locked_node.disks.items c.loop-locked_node.word_tokens.items disk word_token inv.returned it);
      words = rw c.push_reserved-in-Some.ensures.items word;
      count = omega (arith, count, popped, disk_more);
      same = omega (arith, same, disk_more, word_token_more);
      disks = omega (arith, disks, disk_room);
      word_tokens = omega (arith, word_tokens, word_token_room);
    }

pub returns-clause-words : goal.returns-clause-words
returns-clause-words g c =
    let none = c.in_default.ensures.cases in
    let locked_nodes : vec_len c.loop-locked_node.locked_nodes ≡ length c.loop-locked_node.locked_nodes.items = c.loop-locked_node.locked_nodes.ok.0 in
    last-words c.loop-locked_node.word_tokens.items c.loop-locked_node.locked_nodes.items (words-at c.args.locked_nodes.items) (omega (arith, none, locked_nodes)) c.loop-locked_node.invariant.words
