use Rattle.std.proofs.Common.{arith, ◌≡◌, ◌≤◌, ◌<◌, ◌+◌, ◌*◌, ◌∙◌, ℕ, List, get_or, ap, ◌⊎◌, inl, inr}
use Rattle.std.proofs.lemmas.Bool.{cases_lt}
use Rattle.mj_inverse_four.specs.Starts.{start_of}
use Rattle.mj_inverse_four.proofs.fill.bring_together.Goals as goal

-- two more words of each
module _ (words old new : List ℕ) (start : ℕ → ℕ) (first second : List ℕ) (from h to : ℕ)
    (one : (i : ℕ) → i < 4 → get_or first i 0 ≡ get_or words (start i + (from + 2 * h)) 0) (two : (i : ℕ) → i < 4 → get_or second i 0 ≡ get_or words (start i + (from + 2 * h + 1)) 0)
    (put : (i : ℕ) → i < 4 → get_or new (to + 8 * h + i) 0 ≡ get_or first i 0) (put' : (i : ℕ) → i < 4 → get_or new (to + 8 * h + 4 + i) 0 ≡ get_or second i 0)
    (below : (m : ℕ) → m < to + 8 * h → get_or new m 0 ≡ get_or old m 0)
    (before : (k i : ℕ) → k < 2 * h → i < 4 → get_or old (to + 4 * k + i) 0 ≡ get_or words (start i + (from + k)) 0) where
  more : (k i : ℕ) → k < 2 * (h + 1) → i < 4 → get_or new (to + 4 * k + i) 0 ≡ get_or words (start i + (from + k)) 0
  more k i near small = by (cases_lt k (2 * h)) (cases_lt k (2 * h + 1))
    where
      by : (k < 2 * h) ⊎ (2 * h ≤ k) → (k < 2 * h + 1) ⊎ (2 * h + 1 ≤ k) → get_or new (to + 4 * k + i) 0 ≡ get_or words (start i + (from + k)) 0
      by (inl less) _ = below (to + 4 * k + i) (omega arith) ∙ before k i less small
      by (inr more) (inl less) =
          let e : to + 4 * k + i ≡ to + 8 * h + i = omega arith in
          let f : start i + (from + 2 * h) ≡ start i + (from + k) = omega arith in
          ap (λ x. get_or new x 0) e ∙ put i small ∙ one i small ∙ ap (λ x. get_or words x 0) f
      by (inr more) (inr most) =
          let e : to + 4 * k + i ≡ to + 8 * h + 4 + i = omega arith in
          let f : start i + (from + 2 * h + 1) ≡ start i + (from + k) = omega arith in
          ap (λ x. get_or new x 0) e ∙ put' i small ∙ two i small ∙ ap (λ x. get_or words x 0) f

pub two_of-requires : goal.two_of-requires
two_of-requires c = λ i small. let w = c.requires.within i small in let test = c.loop-h-test.true in omega arith

pub loop-h-preserved : goal.loop-h-preserved
loop-h-preserved c = record {
  inside = more c.args.words.now c.loop-h.out c.put_two.new.out (start_of c.args.starts) c.two_of.result.first c.two_of.result.second c.args.from c.loop-h.h c.args.to c.two_of.ensures.first c.two_of.ensures.second
      c.put_two.ensures.first c.put_two.ensures.second c.put_two.ensures.below c.loop-h.invariant.inside;
  below = λ m h. c.put_two.ensures.below m (omega arith) ∙ c.loop-h.invariant.below m h;
  above = λ m h. c.put_two.ensures.above m (omega arith) ∙ c.loop-h.invariant.above m (omega arith);
}
