use Rattle.std.proofs.Common.{arith, ◌≡◌, ◌≤◌, ◌+◌, ◌*◌, ℕ, ap, subst}
use Rattle.std.proofs.Math.Nat.{mul-le-mul_right}
use Rattle.mj_inverse_four.specs.Rows.{IsPadded, width_of}
use Rattle.mj_inverse_four.proofs.Crossed.{padded_more}
use Rattle.mj_inverse_four.proofs.frame.clear_between.Goals as goal

pub loop-l-init : goal.loop-l-init
loop-l-init c = λ l k i h low small. absurd (omega arith)

pub clear_places-requires : goal.clear_places-requires
clear_places-requires c =
    let v : ℕ = width_of c.args.frame.cols c.args.frame.reach in
    let room = c.requires.room in
    let same = c.loop-l.auto.grid in
    let row : c.loop-l.l * v ≤ c.args.frame.rows * v = mul-le-mul_right v (let k : c.loop-l.l ≤ c.args.frame.rows = omega arith in k) in
    rw c.width.ensures (omega arith)

pub loop-l-preserved : goal.loop-l-preserved
loop-l-preserved c =
    let is : c.loop-l.l * c.width.result ≡ c.loop-l.l * width_of c.args.frame.cols c.args.frame.reach = ap (λ x. c.loop-l.l * x) c.width.ensures in
    padded_more c.args.frame.cols c.args.frame.reach c.loop-l.l (c.loop-l.l * c.width.result) c.loop-l.grid c.clear_places.new.grid is c.loop-l.invariant c.clear_places.ensures.below c.clear_places.ensures.zero

pub returns : goal.returns
returns c =
    let end : c.loop-l.l ≡ c.args.frame.rows + 1 = omega arith in
    let P : ℕ → Type 0 = λ n. IsPadded n c.args.frame.cols c.args.frame.reach c.loop-l.grid in
    subst P end c.loop-l.invariant
