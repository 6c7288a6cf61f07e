use Rattle.std.proofs.Common.{◌≡◌, ℕ, ◌+◌, [], ◌∷◌, ◌++◌, length, drop, reverse, get_or, refl, sym, ◌∙◌, ap, subst, arith, append_assoc, length-append, vec_len}
use Rattle.std.specs.List.{AllZip, zip}
use Rattle.rz_disk.specs.UnderFuse.{UnderFuse}
use Rattle.rz_events.specs.Volume.{IsNode}
use Rattle.rz_events.specs.declared.files.NodeSpec.{NodeSpec}
use Rattle.std.proofs.lemmas.List.{reverse-reverse}
use Rattle.rz_nodes.specs.declared.formatting.Server.{Server}
use Rattle.rz_nodes.proofs.Rowwise.{all-get, zip-length, zip-more}
use Rattle.rz_nodes.proofs.FormatLemmas.{pushed, next-taken, disk-at, all-back, failed-at, all-new}
use Rattle.rz_nodes.specs.Opened.{IsCause, IsDiskBack, IsNodeOpened}
use Rattle.rz_nodes.proofs.OpenLemmas.{zip-count, zip-at, there-at, zip-second, cause-of, opened-kept, first-at, same-kept, untouched}
use Rattle.rz_nodes.proofs.opening.open_all.Goals as goal

pub returns-in_default-clause-back : goal.returns-in_default-clause-back
returns-in_default-clause-back g c = untouched g.D.Disk.meter g.D.Disk.text g.D.Disk.image c.args.disks.items

pub loop-index-init : goal.loop-index-init
loop-index-init g c =
    let turned : reverse c.reverse.new.self.items ≡ c.args.disks.items = ap reverse c.reverse.ensures.items ∙ reverse-reverse c.args.disks.items in
    let same = c.reverse.ensures.len in
    let len : vec_len c.args.disks ≡ length c.args.disks.items = c.args.disks.ok.0 in
    let count = c.requires.count in
    let capacity = c.reverse.ensures.capacity in
    let fits = c.args.disks.ok.1 in
    let more = c.in-Ok.ensures.capacity in
    record {
      made = ([], ap (zip (zip c.args.nodes.now c.args.losses.now)) (sym turned), refl, subst (AllZip (IsNodeOpened g.D.Disk.tells g.D.Disk.meter g.D.Disk.text g.D.Disk.image c.args.layout) []) (sym c.in-Ok.ensures.items) tt);
      count = omega (arith, same, len, count);
      room = omega (arith, capacity, len, count, fits);
      more = omega (arith, more);
    }

pub open_one-requires : goal.open_one-requires
open_one-requires g c = record { node = all-get IsNode c.args.nodes.now c.loop-index.index (record { sid = 0; cells = 0 }) c.requires.nodes c.loop-index-test.true }

pub hand_back-requires-in-Err : goal.hand_back-requires-in-Err
hand_back-requires-in-Err g c =
    let made = c.loop-index.invariant.made in
    let same = zip-length (IsNodeOpened g.D.Disk.tells g.D.Disk.meter g.D.Disk.text g.D.Disk.image c.args.layout) made.0 c.loop-index.servers.items made.3 in
    let len : vec_len c.loop-index.servers ≡ length c.loop-index.servers.items = c.loop-index.servers.ok.0 in
    let count : length made.0 ≡ c.loop-index.index = made.2 in
    let room = c.loop-index.invariant.room in
    let more = c.loop-index.invariant.count in
    let popped = c.in-Some.ensures.cases in
    let same_room = c.pop.ensures.capacity in
    let longer = c.push-back.ensures.upper_bound in
    let roomy = c.push-back.ensures.capacity in
    record { room = omega (arith, same, len, count, room, more, popped, same_room, longer, roomy) }

pub returns-in-Err-clause-back : goal.returns-in-Err-clause-back
returns-in-Err-clause-back g c =
    let made = c.loop-index.invariant.made in
    let room = c.loop-index.invariant.room in
    let more = c.loop-index.invariant.count in
    let popped = c.in-Some.ensures.cases in
    let same_room = c.pop.ensures.capacity in
    let pop_len : vec_len c.pop.new.self ≡ length c.pop.new.self.items = c.pop.new.self.ok.0 in
    let low = c.loop-index-test.true in
    let both = zip-count c.args.nodes.now c.args.losses.now c.requires.losses in
    let taken = next-taken (zip c.args.nodes.now c.args.losses.now) c.loop-index.index (record { sid = 0; cells = 0 }, 0) c.loop-index.home.items c.pop.new.self.items c.in-Some.disk _ made.0 made.1 c.in-Some.ensures.items (omega (arith, low, both)) in
    zip-second (IsDiskBack g.D.Disk.meter g.D.Disk.text g.D.Disk.image) (zip c.args.nodes.now c.args.losses.now) c.args.disks.items c.hand_back-in-Err.result.items (c.requires.count ∙ sym both)
    (all-back (IsNodeOpened g.D.Disk.tells g.D.Disk.meter g.D.Disk.text g.D.Disk.image c.args.layout) (λ (p : (NodeSpec × ℕ) × g.row.D.Denot). IsDiskBack g.D.Disk.meter g.D.Disk.text g.D.Disk.image p.1) (λ (s : Server (UnderFuse g.row.D.Denot)). s.node.disk.disk)
    (opened-kept g.D.Disk.tells g.D.Disk.meter g.D.Disk.text g.D.Disk.image c.args.layout) (λ n d. same-kept g.D.Disk.meter g.D.Disk.text g.D.Disk.image d)
    (zip c.args.nodes.now c.args.losses.now) c.loop-index.index _ c.loop-index.servers.items c.pop.new.self.items c.push-back.new.self.items c.hand_back-in-Err.result.items c.in-Some.disk c.in-Err.disk _ made.0 taken
    (pushed c.pop.new.self.items c.push-back.new.self.items c.in-Err.disk _ c.push-back.ensures.items (c.push-back.ensures.succeeds (omega (arith, room, more, popped, same_room))))
    c.hand_back-in-Err.ensures (omega (arith, more, popped, pop_len, both)) made.3 c.in-Err.ensures.back)

pub returns-in-Err-clause-cause : goal.returns-in-Err-clause-cause
returns-in-Err-clause-cause g c =
    let made = c.loop-index.invariant.made in
    let room = c.loop-index.invariant.room in
    let more = c.loop-index.invariant.count in
    let popped = c.in-Some.ensures.cases in
    let same_room = c.pop.ensures.capacity in
    let low = c.loop-index-test.true in
    let both = zip-count c.args.nodes.now c.args.losses.now c.requires.losses in
    let full = c.push-back.ensures.succeeds (omega (arith, room, more, popped, same_room)) in
    let items = pushed c.pop.new.self.items c.push-back.new.self.items c.in-Err.disk _ c.push-back.ensures.items full in
    let same = zip-length (IsNodeOpened g.D.Disk.tells g.D.Disk.meter g.D.Disk.text g.D.Disk.image c.args.layout) made.0 c.loop-index.servers.items made.3 in
    let taken = next-taken (zip c.args.nodes.now c.args.losses.now) c.loop-index.index (record { sid = 0; cells = 0 }, 0) c.loop-index.home.items c.pop.new.self.items c.in-Some.disk _ made.0 made.1 c.in-Some.ensures.items (omega (arith, low, both)) in
    subst (IsCause g.D.Disk.tells g.D.Disk.meter g.D.Disk.text g.D.Disk.image c.args.layout c.args.nodes.now c.args.losses.now c.args.disks.items c.hand_back-in-Err.result.items) (sym c.refusal_at.ensures)
    (cause-of g.D.Disk.tells g.D.Disk.meter g.D.Disk.text g.D.Disk.image c.args.layout c.args.nodes.now c.args.losses.now c.args.disks.items c.hand_back-in-Err.result.items c.loop-index.index c.in-Err.fault (record {
      node = get_or c.args.nodes.now c.loop-index.index (record { sid = 0; cells = 0 });
      old = c.in-Some.disk;
      new = c.in-Err.disk;
      there = there-at c.args.nodes.now c.loop-index.index (record { sid = 0; cells = 0 }) low;
      was = disk-at (zip c.args.nodes.now c.args.losses.now) c.args.disks.items made.0 _ _ c.in-Some.disk c.loop-index.index taken made.2;
      is = failed-at (IsNodeOpened g.D.Disk.tells g.D.Disk.meter g.D.Disk.text g.D.Disk.image c.args.layout) (λ (p : (NodeSpec × ℕ) × g.row.D.Denot). IsDiskBack g.D.Disk.meter g.D.Disk.text g.D.Disk.image p.1) (λ (s : Server (UnderFuse g.row.D.Denot)). s.node.disk.disk)
          (opened-kept g.D.Disk.tells g.D.Disk.meter g.D.Disk.text g.D.Disk.image c.args.layout) (λ n d. same-kept g.D.Disk.meter g.D.Disk.text g.D.Disk.image d)
          c.loop-index.servers.items c.pop.new.self.items c.push-back.new.self.items c.hand_back-in-Err.result.items c.in-Err.disk made.0 c.loop-index.index items c.hand_back-in-Err.ensures made.3 made.2;
      fault_of = c.in-Err.ensures.fault;
      before = first-at g.D.Disk.tells g.D.Disk.meter g.D.Disk.text g.D.Disk.image c.args.layout c.args.nodes.now c.args.losses.now c.args.disks.items c.hand_back-in-Err.result.items (reverse c.push-back.new.self.items) c.loop-index.servers.items made.0 _ c.loop-index.index
          made.1 made.2 made.3 (sym same ∙ made.2) c.hand_back-in-Err.ensures;
    }))

pub loop-index-preserved : goal.loop-index-preserved
loop-index-preserved g c =
    let made = c.loop-index.invariant.made in
    let room = c.loop-index.invariant.room in
    let count = c.loop-index.invariant.count in
    let more = c.loop-index.invariant.more in
    let popped = c.in-Some.ensures.cases in
    let same_room = c.pop.ensures.capacity in
    let same = zip-length (IsNodeOpened g.D.Disk.tells g.D.Disk.meter g.D.Disk.text g.D.Disk.image c.args.layout) made.0 c.loop-index.servers.items made.3 in
    let len : vec_len c.loop-index.servers ≡ length c.loop-index.servers.items = c.loop-index.servers.ok.0 in
    let long : length made.0 ≡ c.loop-index.index = made.2 in
    let low = c.loop-index-test.true in
    let roomy = c.push-made.ensures.capacity in
    let both = zip-count c.args.nodes.now c.args.losses.now c.requires.losses in
    let taken = next-taken (zip c.args.nodes.now c.args.losses.now) c.loop-index.index (record { sid = 0; cells = 0 }, 0) c.loop-index.home.items c.pop.new.self.items c.in-Some.disk _ made.0 made.1 c.in-Some.ensures.items (omega (arith, low, both)) in
    let pair = zip-at c.args.nodes.now c.args.losses.now c.loop-index.index (record { sid = 0; cells = 0 }) 0 c.requires.losses low in
    let taken' = taken ∙ ap (λ (p : NodeSpec × ℕ). made.0 ++ (p, c.in-Some.disk) ∷ zip (drop (c.loop-index.index + 1) (zip c.args.nodes.now c.args.losses.now)) (reverse c.pop.new.self.items)) pair in
    let items = pushed c.loop-index.servers.items c.push-made.new.self.items c.in-Ok-open_one.server _ c.push-made.ensures.items (c.push-made.ensures.succeeds (omega (arith, more, same, len, long, low))) in
    record {
      made = (
        made.0 ++ (_, c.in-Some.disk) ∷ [],
        taken' ∙ sym (append_assoc made.0 ((_, c.in-Some.disk) ∷ []) _),
        length-append made.0 ((_, c.in-Some.disk) ∷ []) ∙ ap (λ (n : ℕ). n + 1) long,
        subst (AllZip (IsNodeOpened g.D.Disk.tells g.D.Disk.meter g.D.Disk.text g.D.Disk.image c.args.layout) (made.0 ++ (_, c.in-Some.disk) ∷ [])) (sym items)
            (zip-more (IsNodeOpened g.D.Disk.tells g.D.Disk.meter g.D.Disk.text g.D.Disk.image c.args.layout) made.0 c.loop-index.servers.items (_, c.in-Some.disk) c.in-Ok-open_one.server made.3 c.in-Ok-open_one.ensures.made),
      );
      count = omega (arith, count, popped);
      room = omega (arith, room, same_room);
      more = omega (arith, more, roomy);
    }

pub returns-clause-made : goal.returns-clause-made
returns-clause-made g c =
    let made = c.loop-index.invariant.made in
    let over = c.loop-index-test.false in
    let both = zip-count c.args.nodes.now c.args.losses.now c.requires.losses in
    all-new (IsNodeOpened g.D.Disk.tells g.D.Disk.meter g.D.Disk.text g.D.Disk.image c.args.layout) (λ (p : (NodeSpec × ℕ) × g.row.D.Denot). IsDiskBack g.D.Disk.meter g.D.Disk.text g.D.Disk.image p.1) (λ (s : Server (UnderFuse g.row.D.Denot)). s.node.disk.disk)
    (opened-kept g.D.Disk.tells g.D.Disk.meter g.D.Disk.text g.D.Disk.image c.args.layout) (λ n d. same-kept g.D.Disk.meter g.D.Disk.text g.D.Disk.image d)
    (zip c.args.nodes.now c.args.losses.now) c.loop-index.index c.loop-index.servers.items c.loop-index.home.items _ made.0 made.1 (omega (arith, over, both)) made.3

pub returns-clause-room : goal.returns-clause-room
returns-clause-room g c =
    let made = c.loop-index.invariant.made in
    let same = zip-length (IsNodeOpened g.D.Disk.tells g.D.Disk.meter g.D.Disk.text g.D.Disk.image c.args.layout) made.0 c.loop-index.servers.items made.3 in
    let len : vec_len c.loop-index.servers ≡ length c.loop-index.servers.items = c.loop-index.servers.ok.0 in
    let count : length made.0 ≡ c.loop-index.index = made.2 in
    let room = c.loop-index.invariant.room in
    let more = c.loop-index.invariant.count in
    omega (arith, same, len, count, room, more)
