use Rattle.std.proofs.Common.{◌≡◌, ℕ, ◌+◌, List, [], ◌∷◌, ◌++◌, length, take, subst, arith}
use Rattle.rz_index.specs.declared.index.Entry.{Entry}
use Rattle.rz_index.specs.Spares.{IsPlanted}
use Rattle.rz_index.proofs.Kept.{taken-long, taken-more, taken-all}
use Rattle.rz_index.proofs.index.planted.Goals as goal

pub loop-entry-preserved : goal.loop-entry-preserved
loop-entry-preserved c = λ blanks h fits room.
    let es = c.args.entries.now in
    let k = c.loop-entry.entry-index in
    let i = c.loop-entry.invariant blanks h fits room in
    let long : length (take k es) ≡ k = taken-long es k (omega (arith, c.loop-entry-test.true)) in
    let p = c.added_last-tree.ensures (take k es) i.left i.holds (omega (arith, long, c.loop-entry-test.true, fits, room)) (omega (arith, i.count, room)) (omega (arith, i.count, long, c.loop-entry-test.true, fits)) in
    let more : take k es ++ c.entry-item.result ∷ [] ≡ take (k + 1) es = taken-more es k c.entry-item.result c.loop-entry-test.true c.entry-item.is in
    let all : length (take k es) + length i.left ≡ length blanks = omega (arith, i.count) in
    subst (λ (n : ℕ). IsPlanted c.added_last-tree.new.row c.added_last-tree.result.0 c.added_last-tree.result.1 (take (k + 1) es) n) all
    (subst (λ (xs : List Entry). IsPlanted c.added_last-tree.new.row c.added_last-tree.result.0 c.added_last-tree.result.1 xs (length (take k es) + length i.left)) more p)

pub returns : goal.returns
returns c = λ blanks h fits room.
    subst (λ (xs : List Entry). IsPlanted c.loop-entry.row c.loop-entry.root c.loop-entry.spare xs (length blanks)) (taken-all c.args.entries.now c.loop-entry.entry-index c.loop-entry-test.false) (c.loop-entry.invariant blanks h fits room)
