use Rattle.std.proofs.Common.{rules, arith, ◌≡◌, ◌≤◌, ◌+◌, ◌-◌, ◌∙◌, ℕ, ℤ, List, length, get_or, take, sym, subst}
use Rattle.std.proofs.lemmas.List.{places}
use Rattle.mj_angles.specs.Layout.{inverse_of, cols_of}
use Rattle.mj_inverse_four.specs.Fragments.{AreAngles, AreThere, fragment_search}
use Rattle.mj_c.specs.Layouts.{IsKnown, part_of, reach_of}
use Rattle.mj_c.proofs.Risen.{are_angles}
use Rattle.mj_c.proofs.fragments.find_group.Goals as goal

took : (n : ℕ) (xs : List ℕ) → n ≤ length xs → length (take n xs) ≡ n
took n xs h = search (rules, places)

pub solve_group-requires-clause-angles : goal.solve_group-requires-clause-angles
solve_group-requires-clause-angles c =
    let P : List ℤ → Type 0 = λ xs. AreAngles (inverse_of c.args.layout) (reach_of c.args.layout) xs in
    subst P (sym c.write_angles.ensures) (are_angles c.args.layout c.args.positions.now c.requires.positions c.requires.ascending c.requires.positions_count)

pub solve_group-requires-clause-there : goal.solve_group-requires-clause-there
solve_group-requires-clause-there c =
    let P : List ℤ → Type 0 = λ xs. AreThere (inverse_of c.args.layout) (cols_of c.args.layout) xs c.args.parts.now c.args.strides.now (c.args.group.first + (c.args.group.count - 1)) in
    subst P (sym c.write_angles.ensures) c.requires.there

pub solve_group-requires-clause-grid : goal.solve_group-requires-clause-grid
solve_group-requires-clause-grid c =
    let few = c.four_room.ensures.few in
    let room = c.requires.room in
    took c.four_room.result c.args.room.now (omega arith) ∙ c.four_room.ensures.value

pub returns : goal.returns
returns c = record {
  known = λ i few.
      (let y = c.args.layout in
      let P : List ℤ → Type 0 = λ xs. IsKnown y (fragment_search (inverse_of y) (cols_of y) xs c.args.parts.now c.args.strides.now (c.args.group.first + i)) (part_of y c.args.out.now i) (part_of y c.solve_group.new.out i) (get_or c.solve_group.new.lost i 0) in
      subst P c.write_angles.ensures (c.solve_group.ensures.known i few));
}
