use Rattle.std.proofs.Common.{rules, arith, ◌≡◌, ◌≤◌, ◌+◌, ◌-◌, ◌∙◌, ℕ, length}
use Rattle.mj_inverse_sums.proofs.Written.{part_long, xor_parts, written_in, written_below, written_above}
use Rattle.mj_inverse_sums.proofs.run.add_within.Goals as goal

full : (c : goal.After-words-1) → c.args.words.now.len ≡ length c.args.words.now.items
full c = search rules

fits : (c : goal.After-words-1) → c.args.from + (c.args.from + (c.args.end - c.args.at) - c.args.from) ≤ length c.args.words.now.items
fits c =
    let within = c.requires.within in
    let whole = full c in
    omega arith

long : (c : goal.After-words-1) → length c.xor_into.new.dst ≡ c.args.from + (c.args.end - c.args.at) - c.args.from
long c = c.xor_into.auto.dst ∙ part_long c.args.words.now.items c.deref_mut.result.now c.args.from (c.args.from + (c.args.end - c.args.at) - c.args.from) c.deref_mut.ensures.value (fits c)

pub returns-clause-inside : goal.returns-clause-inside
returns-clause-inside c = λ k near.
    let w = c.args.words.now in
    let b = c.args.by.now in
    let f = c.args.from in
    let m : ℕ = c.args.end - c.args.at in
    let n : ℕ = f + m - f in
    let room = c.requires.by in
    let wide : length b.items ≡ b.len = search rules in
    let by_long = part_long b.items c.deref.result.now c.args.at m c.deref.ensures.value (omega arith) in
    written_in w.len f n w.items c.deref_mut.result.now c.xor_into.new.dst c.deref_mut.ensures.value (full c) (fits c) (long c) k (omega arith)
    ∙ c.xor_into.ensures k (omega arith)
    ∙ xor_parts w.items c.deref_mut.result.now b.items c.deref.result.now f n c.args.at m k c.deref_mut.ensures.value c.deref.ensures.value (omega arith) (omega arith)

pub returns-clause-below : goal.returns-clause-below
returns-clause-below c = λ t low.
    let w = c.args.words.now in
    let f = c.args.from in
    written_below w.len f (f + (c.args.end - c.args.at) - f) w.items c.deref_mut.result.now c.xor_into.new.dst c.deref_mut.ensures.value (full c) (fits c) (long c) t low

pub returns-clause-above : goal.returns-clause-above
returns-clause-above c = λ t high.
    let w = c.args.words.now in
    let f = c.args.from in
    written_above w.len f (f + (c.args.end - c.args.at) - f) w.items c.deref_mut.result.now c.xor_into.new.dst c.deref_mut.ensures.value (full c) (fits c) (long c) t (omega arith)
