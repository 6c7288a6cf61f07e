use Rattle.std.proofs.Common.{rules, arith, ◌≡◌, ◌≤◌, ◌+◌, ◌-◌, ◌∙◌, sym, ap, ℕ, length, get_or}
use Rattle.std.specs.Prelude.{bit_xor}
use Rattle.mj_inverse_sums.proofs.Written.{part_long, xor_parts, written_in, written_below, written_above}
use Rattle.mj_inverse_sums.proofs.run.run_within.Goals as goal

fits : (c : goal.After-words-1) → c.args.from + (c.args.to - c.args.from) ≤ length c.args.words.now.items
fits c =
    let order = c.requires.order in
    let within = c.requires.within in
    let full : length c.args.words.now.items ≡ c.args.words.now.len = search rules in
    omega arith

full : (c : goal.After-words-1) → c.args.words.now.len ≡ length c.args.words.now.items
full c = search rules

long : (c : goal.After-words-1) → length c.run.new.c ≡ c.args.to - c.args.from
long c = c.run.auto.c ∙ part_long c.args.words.now.items c.deref_mut.result.now c.args.from (c.args.to - c.args.from) c.deref_mut.ensures.value (fits c)

pub returns-clause-first : goal.returns-clause-first
returns-clause-first c = λ k near small.
    let w = c.args.words.now in
    let b = c.args.by.now in
    let f = c.args.from in
    let n : ℕ = c.args.to - f in
    let m : ℕ = c.args.at + n - c.args.at in
    let room = c.requires.by in
    let wide : length b.items ≡ b.len = search rules in
    let by_long = part_long b.items c.deref.result.now c.args.at m c.deref.ensures.value (omega arith) in
    written_in w.len f n w.items c.deref_mut.result.now c.run.new.c c.deref_mut.ensures.value (full c) (fits c) (long c) k (omega arith)
    ∙ c.run.ensures.first k (omega arith) small
    ∙ xor_parts w.items c.deref_mut.result.now b.items c.deref.result.now f n c.args.at m k c.deref_mut.ensures.value c.deref.ensures.value (omega arith) (omega arith)

pub returns-clause-next : goal.returns-clause-next
returns-clause-next c = λ k near.
    let w = c.args.words.now in
    let b = c.args.by.now in
    let f = c.args.from in
    let n : ℕ = c.args.to - f in
    let m : ℕ = c.args.at + n - c.args.at in
    let s = c.args.step in
    let room = c.requires.by in
    let wide : length b.items ≡ b.len = search rules in
    let by_long = part_long b.items c.deref.result.now c.args.at m c.deref.ensures.value (omega arith) in
    let at = written_in w.len f n w.items c.deref_mut.result.now c.run.new.c c.deref_mut.ensures.value (full c) (fits c) (long c) in
    at (k + s) (omega arith) ∙ c.run.ensures.next k (omega arith)
    ∙ ap (λ x. bit_xor x (get_or c.run.new.c k 0))
    (xor_parts w.items c.deref_mut.result.now b.items c.deref.result.now f n c.args.at m (k + s) c.deref_mut.ensures.value c.deref.ensures.value (omega arith) (omega arith))
    ∙ ap (bit_xor (bit_xor (get_or w.items (f + (k + s)) 0) (get_or b.items (c.args.at + (k + s)) 0))) (sym (at k (omega arith)))

pub returns-clause-below : goal.returns-clause-below
returns-clause-below c = λ t low.
    let w = c.args.words.now in
    written_below w.len c.args.from (c.args.to - c.args.from) w.items c.deref_mut.result.now c.run.new.c c.deref_mut.ensures.value (full c) (fits c) (long c) t low

pub returns-clause-above : goal.returns-clause-above
returns-clause-above c = λ t high.
    let w = c.args.words.now in
    let order = c.requires.order in
    written_above w.len c.args.from (c.args.to - c.args.from) w.items c.deref_mut.result.now c.run.new.c c.deref_mut.ensures.value (full c) (fits c) (long c) t (omega arith)
