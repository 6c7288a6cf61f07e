use Rattle.std.proofs.Common.{ℕ, ◌≡◌, ◌+◌, [], ◌∷◌, ◌++◌, List, map, sym, ap, ◌∙◌, append_assoc, arith}
use Rattle.std.specs.Int.{bit_at}
use Rattle.std.specs.List.{range_with_len}
use Rattle.std.proofs.lemmas.List.FromFn.{map-range_with_len_more}
use Rattle.rz_show.proofs.outcomes.push_mask.Goals as goal

pub loop-position-preserved : goal.loop-position-preserved
loop-position-preserved c =
    let digit = λ (p : ℕ). 48 + bit_at c.args.mask p in
    let at = c.loop-position.position in
    let before : List ℕ = c.args.out.now.items in
    let pushed : c.push-in-loop-position.new.self.items ≡ c.loop-position.out.items ++ digit at ∷ [] = c.in_ok-push-2.ensures.items in
    pushed
    ∙ ap (λ (xs : List ℕ). xs ++ digit at ∷ []) c.loop-position.invariant
    ∙ append_assoc before (32 ∷ map digit (range_with_len 0 at)) (digit at ∷ [])
    ∙ ap (λ (xs : List ℕ). before ++ 32 ∷ xs) (sym (map-range_with_len_more digit 0 at at (omega arith)))
