use Rattle.std.proofs.Common.{rules, arith, ◌≡◌, length}
use Rattle.std.proofs.lemmas.Simd.{get_or-put_chunk_at, get_or-put_chunk_below, get_or-put_chunk_above}
use Rattle.mj_inverse_four.proofs.fours.put_four.Goals as goal

pub returns-clause-here : goal.returns-clause-here
returns-clause-here c = λ i small.
    let long : length c.args.four ≡ 4 = search rules in
    let room = c.requires in
    get_or-put_chunk_at _ c.args.out.now c.args.four i 0 (omega arith) (omega arith)

pub returns-clause-below : goal.returns-clause-below
returns-clause-below c = λ k low. get_or-put_chunk_below _ c.args.out.now _ k 0 low

pub returns-clause-above : goal.returns-clause-above
returns-clause-above c = λ k high.
    let long : length c.args.four ≡ 4 = search rules in
    get_or-put_chunk_above _ c.args.out.now _ k 0 (omega arith)
