use Rattle.std.proofs.Common.{rules, ◌≡◌, ◌<◌, ◌+◌, ◌↔◌, ℕ, List, get_or, sym, subst}
use Rattle.mj_angles.specs.Projection.{bin, bins}
use Rattle.mj_inverse_four.specs.Rows.{inner, width_of}
use Rattle.mj_inverse_four.specs.Starts.{start_of}
use Rattle.mj_inverse_four.proofs.compare.compare_one.Goals as goal
use Rattle.mj_inverse_four.proofs.compare.compare_one.Goals.{in-2, in-4, in-8, in_default}

pub returns : goal.returns
returns c =
    let P : List ℕ → ℕ → Type 0 = λ result r.
    (i : ℕ) → i < 4 → (get_or result i 0 ≡ 0 ↔ ((get_or c.args.rest i 0 ≡ 0) × ((b : ℕ) → b < bins c.args.p.angle r c.args.frame.cols →
    get_or c.args.words.now (start_of c.args.starts i + b) 0 ≡ bin (inner c.args.grid.now (width_of c.args.frame.cols c.args.frame.reach) c.args.frame.reach i) r c.args.frame.cols c.args.p.angle b))) in
    let Q : List ℕ → Type 0 = λ result. P result c.args.frame.rows in
    elim c.match-frame.branch [
      | in-2 w ↦ (let e : c.args.frame.rows ≡ 2 = search rules in let R : ℕ → Type 0 = λ r. P w.compare.result r in subst Q (sym w.result-is) (subst R (sym e) w.compare.ensures))
      | in-4 w ↦ (let e : c.args.frame.rows ≡ 4 = search rules in let R : ℕ → Type 0 = λ r. P w.compare-in-4.result r in subst Q (sym w.result-is) (subst R (sym e) w.compare-in-4.ensures))
      | in-8 w ↦ (let e : c.args.frame.rows ≡ 8 = search rules in let R : ℕ → Type 0 = λ r. P w.compare-in-8.result r in subst Q (sym w.result-is) (subst R (sym e) w.compare-in-8.ensures))
      | in_default w ↦ subst Q (sym w.result-is) w.compare-in_default.ensures
    ]
