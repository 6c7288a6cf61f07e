use Rattle.std.proofs.Common.{rules, arith, ◌≡◌, ◌≤◌, ◌<◌, ◌+◌, ◌-◌, ◌*◌, ◌∙◌, ℕ, length, ap}
use Rattle.std.proofs.lemmas.List.{places}
use Rattle.std.proofs.lemmas.Nat.{row_fits}
use Rattle.std.specs.Prelude.{slice_range}
use Rattle.mj_inverse_four.specs.Rows.{width_of}
use Rattle.mj_inverse_four.proofs.Taken.{taken_more}
use Rattle.mj_inverse_four.proofs.take.take_one.Goals as goal

back : (x w : ℕ) → x + w - x ≡ w
back x w = omega arith

pub loop-l-preserved : goal.loop-l-preserved
loop-l-preserved c =
    let n : ℕ = c.loop-l.l in
    let cols : ℕ = c.args.frame.cols in
    let v : ℕ = width_of c.args.frame.cols c.args.frame.reach in
    let few : c.loop-l.l < c.args.frame.rows = c.loop-l-test.true in
    let same : length c.loop-l.out ≡ length c.args.out.now = c.loop-l.auto.out in
    let room = c.requires.out in
    let fits : n * cols + cols ≤ length c.loop-l.out = (let r = row_fits n cols c.args.frame.rows cols few (omega arith) in omega arith) in
    let long : length c.take_each_fourth.new.out ≡ cols = (let kept = c.take_each_fourth.auto.out in search (rules, places)) in
    taken_more c.args.grid.now c.loop-l.out c.take_each_fourth.new.out c.args.frame.cols v c.args.frame.reach c.args.i c.loop-l.l (n * cols) (n * cols + cols - n * cols) (4 * (n * c.width.result + c.args.frame.reach) + c.args.i)
    (let e : n * cols ≡ n * cols = omega arith in e) (back (n * cols) cols) (ap (λ x. 4 * (n * x + c.args.frame.reach) + c.args.i) c.width.ensures) fits long (λ k h. c.take_each_fourth.ensures k (omega (arith, long))) c.loop-l.invariant

pub take_each_fourth-requires : goal.take_each_fourth-requires
take_each_fourth-requires c = λ k h.
    let n : ℕ = c.loop-l.l in
    let cols : ℕ = c.args.frame.cols in
    let v : ℕ = width_of c.args.frame.cols c.args.frame.reach in
    let few : c.loop-l.l < c.args.frame.rows = c.loop-l-test.true in
    let room = c.requires.room in
    let same : length c.loop-l.out ≡ length c.args.out.now = c.loop-l.auto.out in
    let out = c.requires.out in
    let fits : n * cols + cols ≤ length c.loop-l.out = (let r = row_fits n cols c.args.frame.rows cols few (omega arith) in omega arith) in
    let near : k < cols = (let l : length (slice_range c.loop-l.out (n * cols) (n * cols + cols)) ≡ cols = search (rules, places) in omega arith) in
    let row : n * v + v ≤ c.args.frame.rows * v = row_fits n v c.args.frame.rows v few (omega arith) in
    let small = c.requires.few in
    rw c.width.ensures (omega arith)

pub returns : goal.returns
returns c =
    let end : c.loop-l.l ≡ c.args.frame.rows = omega arith in
    record {
      full = (let same = c.loop-l.auto.out in same ∙ c.requires.out);
      words = λ l k h m. c.loop-l.invariant l k (omega arith) m;
    }
