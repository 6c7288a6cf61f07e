use Rattle.std.proofs.Common.{◌≡◌, ℕ, ◌+◌, ◌<◌, List, [], ◌∷◌, ◌++◌, Option, Some, None, IsSome, length, get_or, reverse, refl, sym, ◌∙◌, ap, subst, arith, append_assoc, length-append, vec_len}
use Rattle.std.specs.List.{AllZip, zip}
use Rattle.std.specs.Option.{option_flatten, option_to_list}
use Rattle.std.proofs.lemmas.List.{reverse-reverse}
use Rattle.rz_nodes.specs.declared.arriving.Arrival.{Arrival}
use Rattle.rz_nodes.specs.declared.arriving.KnownNode.{KnownNode}
use Rattle.rz_nodes.specs.Arrived.{IsArrival, IsKnown}
use Rattle.rz_nodes.proofs.Rowwise.{all-get, zip-length, zip-more}
use Rattle.rz_nodes.proofs.FormatLemmas.{next-taken, all-new}
use Rattle.rz_nodes.proofs.arriving.open_each.Goals as goal

abbrev nobody : KnownNode
nobody = record { node = record { sid = 0; cells = 0 }; losses = 0; fence = 0 }

-- the last of a row that is not empty is taken
last-taken : {A : Type 0} (old new : List A) (r : Option A) → old ≡ new ++ option_to_list r → IsSome r → (x : A) × (r ≡ Some x) × (old ≡ new ++ x ∷ []) × (length (option_to_list r) ≡ 1)
last-taken old new (Some x) is there = (x, refl, is, refl)
last-taken old new None is there = absurd (cc)

pub loop-known-init : goal.loop-known-init
loop-known-init g c =
    let turned : reverse c.reverse.new.self.items ≡ c.args.disks.items = ap reverse c.reverse.ensures.items ∙ reverse-reverse c.args.disks.items in
    let same = c.reverse.ensures.len in
    let len : vec_len c.args.disks ≡ length c.args.disks.items = c.args.disks.ok.0 in
    let count = c.requires.count in
    let capacity = c.reverse.ensures.capacity in
    let fits = c.args.disks.ok.1 in
    let more = c.in-Ok.ensures.capacity in
    record {
      made = ([], ap (zip c.args.nodes.now) (sym turned), refl, subst (AllZip (IsArrival g.D.Disk.tells g.D.Disk.meter g.D.Disk.text g.D.Disk.image c.args.layout) []) (sym c.in-Ok.ensures.items) tt);
      count = omega (arith, same, len, count);
      room = omega (arith, capacity, len, count, fits);
      more = omega (arith, more);
    }

pub open_known-requires : goal.open_known-requires
open_known-requires g c = record { node = all-get IsKnown c.args.nodes.now c.loop-known.known-index nobody c.requires.nodes c.loop-known-test.true }

pub push_reserved-requires : goal.push_reserved-requires
push_reserved-requires g c =
    let made = c.loop-known.invariant.made in
    let more = c.loop-known.invariant.more in
    let low = c.loop-known-test.true in
    let long : length made.0 ≡ c.loop-known.known-index = made.2 in
    let same = zip-length (IsArrival g.D.Disk.tells g.D.Disk.meter g.D.Disk.text g.D.Disk.image c.args.layout) made.0 c.loop-known.arrivals.items made.3 in
    let len : vec_len c.loop-known.arrivals ≡ length c.loop-known.arrivals.items = c.loop-known.arrivals.ok.0 in
    omega (arith, more, low, long, same, len)

pub loop-known-preserved : goal.loop-known-preserved
loop-known-preserved g c =
    let made = c.loop-known.invariant.made in
    let count = c.loop-known.invariant.count in
    let room = c.loop-known.invariant.room in
    let more = c.loop-known.invariant.more in
    let low = c.loop-known-test.true in
    let some : 0 < vec_len c.loop-known.home = omega (arith, count, low) in
    let took = last-taken c.loop-known.home.items c.pop.new.self.items c.pop.result c.pop.ensures.items (c.pop.ensures.variant.1 some) in
    let disk : c.flatten-disk.result ≡ took.0 = c.flatten-disk.ensures ∙ ap option_flatten took.1 in
    let taken = next-taken c.args.nodes.now c.loop-known.known-index nobody c.loop-known.home.items c.pop.new.self.items took.0 _ made.0 made.1 took.2 low in
    let known = get_or c.args.nodes.now c.loop-known.known-index nobody in
    let left = c.pop.ensures.len in
    let one = took.3 in
    let same_room = c.pop.ensures.capacity in
    let roomy = c.push_reserved.ensures.capacity in
    record {
      made = (
        made.0 ++ (known, took.0) ∷ [],
        taken ∙ sym (append_assoc made.0 ((known, took.0) ∷ []) _),
        length-append made.0 ((known, took.0) ∷ []) ∙ ap (λ (n : ℕ). n + 1) made.2,
        subst (AllZip (IsArrival g.D.Disk.tells g.D.Disk.meter g.D.Disk.text g.D.Disk.image c.args.layout) (made.0 ++ (known, took.0) ∷ [])) (sym c.push_reserved.ensures.items)
            (zip-more (IsArrival g.D.Disk.tells g.D.Disk.meter g.D.Disk.text g.D.Disk.image c.args.layout) made.0 c.loop-known.arrivals.items (known, took.0) c.open_known.result made.3
            (subst (λ (d : Option g.row.D.Denot). IsArrival g.D.Disk.tells g.D.Disk.meter g.D.Disk.text g.D.Disk.image c.args.layout (known, d) c.open_known.result) disk c.open_known.ensures)),
      );
      count = omega (arith, count, left, one);
      room = omega (arith, room, same_room);
      more = omega (arith, more, roomy);
    }

pub returns-clause-arrived : goal.returns-clause-arrived
returns-clause-arrived g c =
    let made = c.loop-known.invariant.made in
    let over = c.loop-known-test.false in
    all-new (IsArrival g.D.Disk.tells g.D.Disk.meter g.D.Disk.text g.D.Disk.image c.args.layout) (λ (p : KnownNode × Option g.row.D.Denot) (d : Option g.row.D.Denot). Unit {0}) (λ (a : Arrival g.row.D.Denot). None) (λ p a is. tt) (λ n d. tt)
    c.args.nodes.now c.loop-known.known-index c.loop-known.arrivals.items c.loop-known.home.items _ made.0 made.1 (omega (arith, over)) made.3

pub returns-clause-empty : goal.returns-clause-empty
returns-clause-empty g c = let count = c.loop-known.invariant.count in let over = c.loop-known-test.false in omega (arith, count, over)

pub returns-clause-room : goal.returns-clause-room
returns-clause-room g c =
    let made = c.loop-known.invariant.made in
    let same = zip-length (IsArrival g.D.Disk.tells g.D.Disk.meter g.D.Disk.text g.D.Disk.image c.args.layout) made.0 c.loop-known.arrivals.items made.3 in
    let len : vec_len c.loop-known.arrivals ≡ length c.loop-known.arrivals.items = c.loop-known.arrivals.ok.0 in
    let long : length made.0 ≡ c.loop-known.known-index = made.2 in
    let room = c.loop-known.invariant.room in
    let count = c.loop-known.invariant.count in
    omega (arith, same, len, long, room, count)
