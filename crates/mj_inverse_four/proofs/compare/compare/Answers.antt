use Rattle.std.proofs.Common.{arith, ◌≡◌, ◌<◌, ◌≤◌, ◌+◌, ◌-◌, ℕ, get_or, ◌⊎◌, inl, inr, sym, subst}
use Rattle.std.proofs.lemmas.Bool.{cases_lt}
use Rattle.mj_angles.specs.Projection.{bin, bins}
use Rattle.mj_inverse_four.specs.Rows.{inner, width_of}
use Rattle.mj_inverse_four.specs.Starts.{start_of}
use Rattle.mj_inverse_four.proofs.compare.compare.Goals as goal

-- three runs of bins together are all bins, where the first and the last may reach into the second
parted : (P : ℕ → Type 0) (start cols front from to end : ℕ) → start ≤ front → from ≤ start + cols → end ≤ to → ((b : ℕ) → 0 ≤ b → b < front → P b) → ((k : ℕ) → k < cols → P (start + k)) →
    ((b : ℕ) → from ≤ b → b < to → P b) → (b : ℕ) → b < end → P b
parted P start cols front from to end low high most before inside behind b h = by (cases_lt b start) (cases_lt b (start + cols))
  where
    by : (b < start) ⊎ (start ≤ b) → (b < start + cols) ⊎ (start + cols ≤ b) → P b
    by (inl l) _ = before b (omega arith) (omega arith)
    by (inr m) (inl l) =
        let e : start + (b - start) ≡ b = omega arith in
        subst P e (inside (b - start) (omega arith))
    by (inr m) (inr n) = behind b (omega arith) (omega arith)

pub compare_run-before-requires-clause-within : goal.compare_run-before-requires-clause-within
compare_run-before-requires-clause-within c =
    let all = c.first_bin-start.ensures.within c.args.frame.cols in
    let high = c.half_up.ensures.high in
    let eights = c.requires.eights in
    let some = c.requires.shape.some_column in
    omega arith

pub compare_run-requires-clause-within : goal.compare_run-requires-clause-within
compare_run-requires-clause-within c =
    let all = c.first_bin-start.ensures.within c.args.frame.cols in
    let high = c.half_up-behind.ensures.high in
    let eights = c.requires.eights in
    let some = c.requires.shape.some_column in
    omega arith

pub overflow_sub-end : goal.overflow_sub-end
overflow_sub-end c =
    let all = c.first_bin-start.ensures.within c.args.frame.cols in
    let end = c.bins_in-end.ensures in
    omega arith

pub returns : goal.returns
returns c = λ i small.
    let rows : ℕ = c.args.frame.rows in
    let cols : ℕ = c.args.frame.cols in
    let f : ℕ → ℕ → ℕ = inner c.args.grid.now (width_of c.args.frame.cols c.args.frame.reach) c.args.frame.reach i in
    let start = c.first_bin-start.ensures.value in
    let all = c.first_bin-start.ensures.within c.args.frame.cols in
    let one = c.compare_run-before.ensures i small in
    let two = c.compare_run.ensures i small in
    let low = c.half_up.ensures.low in
    let high = c.half_up.ensures.high in
    let low' = c.half_up-behind.ensures.low in
    let high' = c.half_up-behind.ensures.high in
    let eights = c.requires.eights in
    let some = c.requires.shape.some_column in
    let P : ℕ → Type 0 = λ b. get_or c.args.words.now (start_of c.args.starts i + b) 0 ≡ bin f rows cols c.args.p.angle b in
    let told : (k : ℕ) → k < cols → P (c.first_bin-start.result + k) = λ k h. (let Q : ℕ → Type 0 = λ y. P (y + k) in subst Q (sym start) (c.requires.told i k small h)) in (
      λ z.
          (let k = two.0 z in
          let m = one.0 k.0 in
          (m.0, λ b h. parted P c.first_bin-start.result cols _ _ _ (bins c.args.p.angle c.args.frame.rows c.args.frame.cols) (omega arith) (omega arith) (omega arith) m.1 told k.1 b h)),
      λ h. two.1 (one.1 (h.0, λ b from to. h.1 b (omega arith)), λ b from to. h.1 b (omega arith)),
    )
