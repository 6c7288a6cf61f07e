use Rattle.std.proofs.Common.{rules, arith, ◌≡◌, ℕ, List, length, get_or, sym, ap, ◌∙◌, zero-add}
use Rattle.std.specs.Simd.Lanes.{put_chunk}
use Rattle.std.proofs.lemmas.Simd.{get_or-put_chunk_at}
use Rattle.mj_inverse.proofs.finding.mark.Goals as goal

pub returns : goal.returns
returns c = λ i small.
    let bad : List ℕ = c.args.bad.now in
    let rest : List ℕ = c.args.rest in
    let long : length rest ≡ 8 = search rules in
    let room = c.requires in
    ap (λ k. get_or (put_chunk 0 bad rest) k 0) (sym (zero-add i)) ∙ get_or-put_chunk_at 0 bad rest i 0 (omega arith) (omega arith)
