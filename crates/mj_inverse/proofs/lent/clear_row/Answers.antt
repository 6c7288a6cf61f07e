use Rattle.std.proofs.Common.{arith, ◌≡◌, ◌≤◌, ◌+◌, ◌*◌, ℕ, ap}
use Rattle.std.proofs.lemmas.Nat.{row_fits}
use Rattle.mj_inverse.specs.Padded.{width_of}
use Rattle.mj_inverse.proofs.Crossed.{padded_more}
use Rattle.mj_inverse.proofs.lent.clear_row.Goals as goal

pub clear_places-requires : goal.clear_places-requires
clear_places-requires c =
    let v : ℕ = width_of c.args.frame.cols c.args.frame.reach in
    let room = c.requires.room in
    let row : c.args.l * v + v ≤ c.args.frame.rows * v = row_fits c.args.l v c.args.frame.rows v c.requires.row (omega arith) in
    rw c.width.ensures (omega arith)

pub clear_places-requires-2 : goal.clear_places-requires-2
clear_places-requires-2 c =
    let v : ℕ = width_of c.args.frame.cols c.args.frame.reach in
    let room = c.requires.room in
    let row : c.args.l * v + v ≤ c.args.frame.rows * v = row_fits c.args.l v c.args.frame.rows v c.requires.row (omega arith) in
    rw c.width.ensures (omega arith)

pub returns : goal.returns
returns c = λ before.
    let is : c.args.l * c.width.result ≡ c.args.l * width_of c.args.frame.cols c.args.frame.reach = ap (λ x. c.args.l * x) c.width.ensures in
    padded_more c.args.frame.cols c.args.frame.reach c.args.l (c.args.l * c.width.result) c.args.grid.now c.clear_places.new.grid c.clear_places-2.new.grid is before
    c.clear_places.ensures.below c.clear_places.ensures.zero c.clear_places-2.ensures.below c.clear_places-2.ensures.zero
