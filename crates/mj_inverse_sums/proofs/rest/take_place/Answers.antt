use Rattle.std.proofs.Common.{rules, arith, ◌≡◌, ◌≤◌, ◌+◌, ◌-◌, ◌*◌, ◌∙◌, sym, ℕ, length, take, drop}
use Rattle.mj_inverse_sums.proofs.Written.{part_long, part_at, written_in, written_below, written_above}
use Rattle.mj_inverse_sums.proofs.rest.take_place.Goals as goal

full : (c : goal.After-slice_known-3-1) → c.args.words.now.len ≡ length c.args.words.now.items
full c = search rules

fits : (c : goal.After-slice_known-3-1) → c.args.unit * c.args.t + (c.args.unit * c.args.t + c.args.unit - c.args.unit * c.args.t) ≤ length c.args.words.now.items
fits c =
    let within = c.requires.within in
    let whole = full c in
    omega arith

was_long : (c : goal.After-slice_known-3-1) → length (take (c.args.unit * c.args.t + c.args.unit - c.args.unit * c.args.t) (drop (c.args.unit * c.args.t) c.deref_mut.result.now)) ≡ c.args.unit * c.args.t + c.args.unit - c.args.unit * c.args.t
was_long c = part_long c.args.words.now.items c.deref_mut.result.now (c.args.unit * c.args.t) (c.args.unit * c.args.t + c.args.unit - c.args.unit * c.args.t) c.deref_mut.ensures.value (fits c)

pub returns-clause-zero : goal.returns-clause-zero
returns-clause-zero c = λ j small.
    let w = c.args.words.now in
    let a : ℕ = c.args.unit * c.args.t in
    let n : ℕ = a + c.args.unit - a in
    let l = was_long c in
    written_in w.len a n w.items c.deref_mut.result.now c.take_group.new.group c.deref_mut.ensures.value (full c) (fits c) (c.take_group.auto.group ∙ l) j (omega arith)
    ∙ c.take_group.ensures.zero j (omega arith)

pub returns-clause-below : goal.returns-clause-below
returns-clause-below c = λ i low.
    let w = c.args.words.now in
    let a : ℕ = c.args.unit * c.args.t in
    written_below w.len a (a + c.args.unit - a) w.items c.deref_mut.result.now c.take_group.new.group c.deref_mut.ensures.value (full c) (fits c) (c.take_group.auto.group ∙ was_long c) i low

pub returns-clause-above : goal.returns-clause-above
returns-clause-above c = λ i high.
    let w = c.args.words.now in
    let a : ℕ = c.args.unit * c.args.t in
    written_above w.len a (a + c.args.unit - a) w.items c.deref_mut.result.now c.take_group.new.group c.deref_mut.ensures.value (full c) (fits c) (c.take_group.auto.group ∙ was_long c) i (omega arith)

pub returns-clause-marked : goal.returns-clause-marked
returns-clause-marked c = λ j small zero.
    let a : ℕ = c.args.unit * c.args.t in
    let n : ℕ = a + c.args.unit - a in
    let l = was_long c in
    let was = c.take_group.ensures.marked j (omega arith) zero in
    (was.0, sym (part_at c.args.words.now.items c.deref_mut.result.now a n j c.deref_mut.ensures.value (omega arith)) ∙ was.1)

pub returns-clause-unmarked : goal.returns-clause-unmarked
returns-clause-unmarked c = λ j small zero word.
    let a : ℕ = c.args.unit * c.args.t in
    let n : ℕ = a + c.args.unit - a in
    let l = was_long c in
    c.take_group.ensures.unmarked j (omega arith) zero (part_at c.args.words.now.items c.deref_mut.result.now a n j c.deref_mut.ensures.value (omega arith) ∙ word)
