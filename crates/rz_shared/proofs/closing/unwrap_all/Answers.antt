use Rattle.std.proofs.Common.{◌≡◌, ◌∙◌, ◌++◌, ◌∷◌, [], List, Option, length, map, Some, sym, ap, subst, arith, vec_len}
use Rattle.std.specs.Prelude.{reverse}
use Rattle.std.proofs.lemmas.List.{reverse-reverse}
use Rattle.rz_shared.proofs.Returning.{none-out, one-out, all-out, waiting-here}
use Rattle.rz_shared.proofs.closing.unwrap_all.Goals as goal

pub loop-disk-init : goal.loop-disk-init
loop-disk-init g c =
    let none = c.requires.home.0 in let count = c.reverse.ensures.len in
    let home : vec_len c.args.home ≡ length c.args.home.items = c.args.home.ok.0 in
    record {
      whole = none-out c.args.home.items c.args.disks.items c.reverse.new.self.items (omega (arith, none, home)) c.reverse.ensures.items ∙ reverse-reverse c.args.disks.items;
      count = omega (arith, none, count);
      room = c.requires.home.1;
    }

pub unreachable-requires : goal.unreachable-requires
unreachable-requires g c =
    waiting-here c.loop-disk.home.items c.in-Some.disk c.loop-disk.disks.items c.pop.new.self.items c.args.disks.items c.in-Some.ensures.items c.loop-disk.invariant.whole c.requires.here c.in_default-disk.is

pub push_reserved-requires : goal.push_reserved-requires
push_reserved-requires g c =
    let popped = c.in-Some.ensures.cases in
    let count = c.loop-disk.invariant.count in let room = c.loop-disk.invariant.room in
    omega (arith, count, popped, room)

pub loop-disk-preserved : goal.loop-disk-preserved
loop-disk-preserved g c =
    let popped = c.in-Some.ensures.cases in
    let inv = c.loop-disk.invariant in let count = inv.count in let room = inv.room in
    let more = c.push_reserved.ensures.len in let same = c.push_reserved.ensures.capacity in
    record {
      whole = subst (λ (l : List g.row.D.Denot). map (λ d. Some d) l ++ reverse c.pop.new.self.items ≡ c.args.disks.items) (sym c.push_reserved.ensures.items)
          (one-out c.loop-disk.home.items c.in-Some-disk.disk c.loop-disk.disks.items c.pop.new.self.items c.args.disks.items
          (c.in-Some.ensures.items ∙ ap (λ (o : Option g.row.D.Denot). c.pop.new.self.items ++ o ∷ []) c.in-Some-disk.is) inv.whole);
      count = omega (arith, count, popped, more);
      room = omega (arith, room, same);
    }

pub returns : goal.returns
returns g c =
    let none = c.in_default.ensures.cases in
    let disks : vec_len c.loop-disk.disks ≡ length c.loop-disk.disks.items = c.loop-disk.disks.ok.0 in
    all-out c.loop-disk.home.items c.loop-disk.disks.items c.args.disks.items (omega (arith, none, disks)) c.loop-disk.invariant.whole
