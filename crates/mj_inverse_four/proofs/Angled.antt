-- Lists of lines, and the angles at which they are read.
use Rattle.std.proofs.Common.{ℕ, zero, suc, ◌-◌, ◌<◌, arith, ℤ, List, [], ◌∷◌, length, get_or}
use Rattle.mj_angles.proofs.Peel.{AnglesFall}
use Rattle.mj_inverse_four.specs.Rows.{Every, direction_of, no_line}
use Rattle.mj_inverse_four.specs.Fragments.{AreAngles}
use Rattle.mj_inverse_four.specs.declared.lines.Line.{Line}

pub every_line : (P : Line → Type 0) (xs : List Line) (n : ℕ) → n < length xs → Every P xs → P (get_or xs n no_line)
every_line P [] n h every = absurd (omega arith)
every_line P (x ∷ xs) zero h (p, every) = p
every_line P (x ∷ xs) (suc n) h (p, every) = every_line P xs n (let k : suc n < suc (length xs) = h in omega arith) every

pub lines_every : (P : Line → Type 0) (xs : List Line) → ((n : ℕ) → n < length xs → P (get_or xs n no_line)) → Every P xs
lines_every P [] at = tt
lines_every P (x ∷ xs) at = (at 0 (let k : 0 < suc (length xs) = omega arith in k), lines_every P xs (λ n h. at (suc n) (let k : suc n < suc (length xs) = omega arith in k)))

-- from row to row the angles fall
pub angles_fall : (rows reach : ℕ) (angles : List ℤ) → AreAngles rows reach angles → AnglesFall (direction_of rows angles) 16 rows
angles_fall rows reach angles are = record {
  small = λ l h. are.small (rows - 1 - l) (omega arith);
  falls = λ i j h m. are.rises (rows - 1 - j) (rows - 1 - i) (omega arith) (omega arith);
}
