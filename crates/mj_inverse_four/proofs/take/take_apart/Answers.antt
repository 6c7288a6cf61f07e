use Rattle.std.proofs.Common.{arith, ◌≡◌, ◌≤◌, ◌+◌, ◌*◌, ◌/◌, ◌∙◌, ℕ, length, ap}
use Rattle.std.proofs.lemmas.Nat.{row_fits}
use Rattle.mj_inverse_four.specs.Rows.{width_of}
use Rattle.mj_inverse_four.proofs.Taken.{row_more}
use Rattle.mj_inverse_four.proofs.take.take_apart.Goals as goal

pub take_row-requires-clause-grid : goal.take_row-requires-clause-grid
take_row-requires-clause-grid c =
    let v : ℕ = width_of c.args.frame.cols c.args.frame.reach in
    let room = c.requires.room in
    let eights = c.requires.eights in
    let row : c.loop-l.l * v + v ≤ c.args.frame.rows * v = row_fits c.loop-l.l v c.args.frame.rows v c.loop-l-test.true (omega arith) in
    rw c.width.ensures (omega arith)

pub take_row-requires-clause-first : goal.take_row-requires-clause-first
take_row-requires-clause-first c =
    let eights = c.requires.eights in
    let same : length c.loop-l.a ≡ length c.args.a.now = c.loop-l.auto.a in
    let out = c.requires.first in
    let row : c.loop-l.l * c.args.frame.cols + c.args.frame.cols ≤ c.args.frame.rows * c.args.frame.cols = row_fits c.loop-l.l c.args.frame.cols c.args.frame.rows c.args.frame.cols c.loop-l-test.true (omega arith) in
    omega arith

pub take_row-requires-clause-second : goal.take_row-requires-clause-second
take_row-requires-clause-second c =
    let eights = c.requires.eights in
    let same : length c.loop-l.b ≡ length c.args.b.now = c.loop-l.auto.b in
    let out = c.requires.second in
    let row : c.loop-l.l * c.args.frame.cols + c.args.frame.cols ≤ c.args.frame.rows * c.args.frame.cols = row_fits c.loop-l.l c.args.frame.cols c.args.frame.rows c.args.frame.cols c.loop-l-test.true (omega arith) in
    omega arith

pub take_row-requires-clause-third : goal.take_row-requires-clause-third
take_row-requires-clause-third c =
    let eights = c.requires.eights in
    let same : length c.loop-l.c ≡ length c.args.c.now = c.loop-l.auto.c in
    let out = c.requires.third in
    let row : c.loop-l.l * c.args.frame.cols + c.args.frame.cols ≤ c.args.frame.rows * c.args.frame.cols = row_fits c.loop-l.l c.args.frame.cols c.args.frame.rows c.args.frame.cols c.loop-l-test.true (omega arith) in
    omega arith

pub take_row-requires-clause-fourth : goal.take_row-requires-clause-fourth
take_row-requires-clause-fourth c =
    let eights = c.requires.eights in
    let same : length c.loop-l.d ≡ length c.args.d.now = c.loop-l.auto.d in
    let out = c.requires.fourth in
    let row : c.loop-l.l * c.args.frame.cols + c.args.frame.cols ≤ c.args.frame.rows * c.args.frame.cols = row_fits c.loop-l.l c.args.frame.cols c.args.frame.rows c.args.frame.cols c.loop-l-test.true (omega arith) in
    omega arith

pub loop-l-preserved : goal.loop-l-preserved
loop-l-preserved c =
    let n : ℕ = c.loop-l.l in
    let all : 8 * (c.args.frame.cols / 8) ≡ c.args.frame.cols = (let eights = c.requires.eights in omega arith) in
    let place : (i : ℕ) → 4 * (c.loop-l.l * c.width.result + c.args.frame.reach) + i ≡ 4 * (c.loop-l.l * width_of c.args.frame.cols c.args.frame.reach + c.args.frame.reach) + i =
    λ i. ap (λ x. 4 * (c.loop-l.l * x + c.args.frame.reach) + i) c.width.ensures in
    record {
      first = row_more c.args.grid.now c.loop-l.a c.take_row.new.a c.args.frame.cols (width_of c.args.frame.cols c.args.frame.reach) c.args.frame.reach 0 c.loop-l.l (4 * (c.loop-l.l * c.width.result + c.args.frame.reach)) (8 * (c.args.frame.cols / 8))
          (place 0) all c.take_row.ensures.first c.take_row.ensures.first_below c.loop-l.invariant.first;
      second = row_more c.args.grid.now c.loop-l.b c.take_row.new.b c.args.frame.cols (width_of c.args.frame.cols c.args.frame.reach) c.args.frame.reach 1 c.loop-l.l (4 * (c.loop-l.l * c.width.result + c.args.frame.reach)) (8 * (c.args.frame.cols / 8))
          (place 1) all c.take_row.ensures.second c.take_row.ensures.second_below c.loop-l.invariant.second;
      third = row_more c.args.grid.now c.loop-l.c c.take_row.new.c c.args.frame.cols (width_of c.args.frame.cols c.args.frame.reach) c.args.frame.reach 2 c.loop-l.l (4 * (c.loop-l.l * c.width.result + c.args.frame.reach)) (8 * (c.args.frame.cols / 8))
          (place 2) all c.take_row.ensures.third c.take_row.ensures.third_below c.loop-l.invariant.third;
      fourth = row_more c.args.grid.now c.loop-l.d c.take_row.new.d c.args.frame.cols (width_of c.args.frame.cols c.args.frame.reach) c.args.frame.reach 3 c.loop-l.l (4 * (c.loop-l.l * c.width.result + c.args.frame.reach)) (8 * (c.args.frame.cols / 8))
          (place 3) all c.take_row.ensures.fourth c.take_row.ensures.fourth_below c.loop-l.invariant.fourth;
    }

pub returns-clause-first : goal.returns-clause-first
returns-clause-first c =
    let end : c.loop-l.l ≡ c.args.frame.rows = omega arith in
    record {
      full = (let same : length c.loop-l.a ≡ length c.args.a.now = c.loop-l.auto.a in same ∙ c.requires.first);
      words = λ l k h m. c.loop-l.invariant.first l k (omega arith) m;
    }

pub returns-clause-second : goal.returns-clause-second
returns-clause-second c =
    let end : c.loop-l.l ≡ c.args.frame.rows = omega arith in
    record {
      full = (let same : length c.loop-l.b ≡ length c.args.b.now = c.loop-l.auto.b in same ∙ c.requires.second);
      words = λ l k h m. c.loop-l.invariant.second l k (omega arith) m;
    }

pub returns-clause-third : goal.returns-clause-third
returns-clause-third c =
    let end : c.loop-l.l ≡ c.args.frame.rows = omega arith in
    record {
      full = (let same : length c.loop-l.c ≡ length c.args.c.now = c.loop-l.auto.c in same ∙ c.requires.third);
      words = λ l k h m. c.loop-l.invariant.third l k (omega arith) m;
    }

pub returns-clause-fourth : goal.returns-clause-fourth
returns-clause-fourth c =
    let end : c.loop-l.l ≡ c.args.frame.rows = omega arith in
    record {
      full = (let same : length c.loop-l.d ≡ length c.args.d.now = c.loop-l.auto.d in same ∙ c.requires.fourth);
      words = λ l k h m. c.loop-l.invariant.fourth l k (omega arith) m;
    }
