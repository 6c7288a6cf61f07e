use Rattle.std.proofs.Common.{arith, ◌≡◌, ◌<◌, ◌≤◌, ◌+◌, ◌*◌, ◌-◌, ℕ, get_or, ◌⊎◌, inl, inr, sym, subst}
use Rattle.std.proofs.lemmas.Bool.{cases_lt}
use Rattle.mj_angles.specs.Projection.{bin}
use Rattle.mj_inverse.specs.Padded.{inner, width_of}
use Rattle.mj_inverse.proofs.compare.compare.Goals as goal

-- three runs of bins together are all bins
parted : (P : ℕ → Type 0) (start cols end : ℕ) → ((b : ℕ) → 0 ≤ b → b < start → P b) → ((k : ℕ) → k < cols → P (start + k)) → ((b : ℕ) → start + cols ≤ b → b < end → P b) → (b : ℕ) → b < end → P b
parted P start cols end before inside behind b h = by (cases_lt b start) (cases_lt b (start + cols))
  where
    by : (b < start) ⊎ (start ≤ b) → (b < start + cols) ⊎ (start + cols ≤ b) → P b
    by (inl l) _ = before b (omega arith) l
    by (inr m) (inl l) =
        let e : start + (b - start) ≡ b = omega arith in
        subst P e (inside (b - start) (omega arith))
    by (inr m) (inr n) = behind b n h

pub returns : goal.returns
returns c = λ i small.
    let rows : ℕ = c.args.frame.rows in
    let cols : ℕ = c.args.frame.cols in
    let s = c.args.s.now in
    let f : ℕ → ℕ → ℕ = inner c.args.grid.now (width_of cols c.args.frame.reach) c.args.frame.reach i in
    let start = c.first_bin-start.ensures.value in
    let end = c.bins_in-end.ensures in
    let one = c.compare_run-before.ensures i small in
    let two = c.compare_run.ensures i small in
    let P : ℕ → Type 0 = λ b. get_or c.args.words.now (8 * (s.from + b) + i) 0 ≡ bin f rows cols s.direction b in
    let told : (k : ℕ) → k < cols → P (c.first_bin-start.result + k) = λ k h. (let Q : ℕ → Type 0 = λ y. P (y + k) in subst Q (sym start) (c.requires.told i k small h)) in (
      λ z.
          (let k = two.0 z in
          let m = one.0 k.0 in
          (m.0, λ b h. parted P c.first_bin-start.result cols c.bins_in-end.result m.1 told k.1 b (omega arith))),
      λ h. two.1 (one.1 (h.0, λ b from to. h.1 b (let within = c.first_bin-start.ensures.within cols in omega arith)), λ b from to. h.1 b (omega arith)),
    )

pub compare_run-before-requires-clause-within : goal.compare_run-before-requires-clause-within
compare_run-before-requires-clause-within c = let all = c.first_bin-start.ensures.within c.args.frame.cols in omega arith
