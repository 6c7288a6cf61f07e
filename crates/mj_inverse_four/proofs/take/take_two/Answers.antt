use Rattle.std.proofs.Common.{arith, ◌≡◌, ◌≤◌, ◌<◌, ◌+◌, ◌*◌, ◌-◌, ◌∙◌, ℕ, List, get_or, length, ap, ◌⊎◌, inl, inr}
use Rattle.std.proofs.lemmas.Bool.{cases_lt}
use Rattle.mj_inverse_four.specs.Starts.{start_of}
use Rattle.mj_inverse_four.proofs.Cases.{of_four}
use Rattle.mj_inverse_four.proofs.take.take_two.Goals as goal

pub two_of-low-requires : goal.two_of-low-requires
two_of-low-requires c =
    let grid = c.requires.grid in
    let a = c.places_from.ensures.first in
    let b = c.places_from.ensures.second in
    let d = c.places_from.ensures.third in
    let e = c.places_from.ensures.fourth in
    of_four (λ i. start_of c.places_from.result i + (0 + 2) ≤ length c.args.grid.now) (omega arith) (omega arith) (omega arith) (omega arith)

pub two_of-high-requires : goal.two_of-high-requires
two_of-high-requires c =
    let grid = c.requires.grid in
    let a = c.places_from-2.ensures.first in
    let b = c.places_from-2.ensures.second in
    let d = c.places_from-2.ensures.third in
    let e = c.places_from-2.ensures.fourth in
    of_four (λ i. start_of c.places_from-2.result i + (0 + 2) ≤ length c.args.grid.now) (omega arith) (omega arith) (omega arith) (omega arith)

-- where lane o of four places is
place : (words : List ℕ) (at o x r : ℕ) → x ≡ at + 4 * r → get_or words (x + o) 0 ≡ get_or words (at + 4 * r + o) 0
place words at o x r e = ap (λ y. get_or words (y + o) 0) e

halves : (words new low high : List ℕ) (at to o : ℕ) → ((r : ℕ) → r < 4 → get_or low r 0 ≡ get_or words (at + 4 * r + o) 0) → ((r : ℕ) → r < 4 → get_or high r 0 ≡ get_or words (at + 16 + 4 * r + o) 0) →
    ((i : ℕ) → i < 4 → get_or new (to + i) 0 ≡ get_or low i 0) → ((i : ℕ) → i < 4 → get_or new (to + 4 + i) 0 ≡ get_or high i 0) → (r : ℕ) → r < 8 → get_or new (to + r) 0 ≡ get_or words (at + 4 * r + o) 0
halves words new low high at to o is is' put put' r h = by (cases_lt r 4)
  where
    by : (r < 4) ⊎ (4 ≤ r) → get_or new (to + r) 0 ≡ get_or words (at + 4 * r + o) 0
    by (inl less) = put r less ∙ is r less
    by (inr more) =
        let e : to + r ≡ to + 4 + (r - 4) = omega arith in
        let f : at + 16 + 4 * (r - 4) + o ≡ at + 4 * r + o = omega arith in
        ap (λ x. get_or new x 0) e ∙ put' (r - 4) (omega arith) ∙ is' (r - 4) (omega arith) ∙ ap (λ x. get_or words x 0) f

pub returns-clause-first : goal.returns-clause-first
returns-clause-first c = λ r h.
    let words : List ℕ = c.args.grid.now in
    let e : c.args.at + 4 * r + 0 ≡ c.args.at + 4 * r = omega arith in
    halves words c.put_eight.new.out c.two_of-low.result.first c.two_of-high.result.first c.args.at c.args.to 0
    (of_four (λ r. get_or c.two_of-low.result.first r 0 ≡ get_or c.args.grid.now (c.args.at + 4 * r + 0) 0)
    (c.two_of-low.ensures.first 0 (omega arith) ∙ place c.args.grid.now c.args.at 0 c.places_from.result.first 0 (let p = c.places_from.ensures.first in omega arith))
    (c.two_of-low.ensures.first 1 (omega arith) ∙ place c.args.grid.now c.args.at 0 c.places_from.result.second 1 (let p = c.places_from.ensures.second in omega arith))
    (c.two_of-low.ensures.first 2 (omega arith) ∙ place c.args.grid.now c.args.at 0 c.places_from.result.third 2 (let p = c.places_from.ensures.third in omega arith))
    (c.two_of-low.ensures.first 3 (omega arith) ∙ place c.args.grid.now c.args.at 0 c.places_from.result.fourth 3 (let p = c.places_from.ensures.fourth in omega arith)))
    (of_four (λ r. get_or c.two_of-high.result.first r 0 ≡ get_or c.args.grid.now (c.args.at + 16 + 4 * r + 0) 0)
    (c.two_of-high.ensures.first 0 (omega arith) ∙ place c.args.grid.now (c.args.at + 16) 0 c.places_from-2.result.first 0 (let p = c.places_from-2.ensures.first in omega arith))
    (c.two_of-high.ensures.first 1 (omega arith) ∙ place c.args.grid.now (c.args.at + 16) 0 c.places_from-2.result.second 1 (let p = c.places_from-2.ensures.second in omega arith))
    (c.two_of-high.ensures.first 2 (omega arith) ∙ place c.args.grid.now (c.args.at + 16) 0 c.places_from-2.result.third 2 (let p = c.places_from-2.ensures.third in omega arith))
    (c.two_of-high.ensures.first 3 (omega arith) ∙ place c.args.grid.now (c.args.at + 16) 0 c.places_from-2.result.fourth 3 (let p = c.places_from-2.ensures.fourth in omega arith)))
    c.put_eight.ensures.low c.put_eight.ensures.high r h ∙ ap (λ x. get_or c.args.grid.now x 0) e

pub returns-clause-second : goal.returns-clause-second
returns-clause-second c = λ r h.
    let words : List ℕ = c.args.grid.now in
    halves words c.put_eight-2.new.out c.two_of-low.result.second c.two_of-high.result.second c.args.at c.args.to 1
    (of_four (λ r. get_or c.two_of-low.result.second r 0 ≡ get_or c.args.grid.now (c.args.at + 4 * r + 1) 0)
    (c.two_of-low.ensures.second 0 (omega arith) ∙ place c.args.grid.now c.args.at 1 c.places_from.result.first 0 (let p = c.places_from.ensures.first in omega arith))
    (c.two_of-low.ensures.second 1 (omega arith) ∙ place c.args.grid.now c.args.at 1 c.places_from.result.second 1 (let p = c.places_from.ensures.second in omega arith))
    (c.two_of-low.ensures.second 2 (omega arith) ∙ place c.args.grid.now c.args.at 1 c.places_from.result.third 2 (let p = c.places_from.ensures.third in omega arith))
    (c.two_of-low.ensures.second 3 (omega arith) ∙ place c.args.grid.now c.args.at 1 c.places_from.result.fourth 3 (let p = c.places_from.ensures.fourth in omega arith)))
    (of_four (λ r. get_or c.two_of-high.result.second r 0 ≡ get_or c.args.grid.now (c.args.at + 16 + 4 * r + 1) 0)
    (c.two_of-high.ensures.second 0 (omega arith) ∙ place c.args.grid.now (c.args.at + 16) 1 c.places_from-2.result.first 0 (let p = c.places_from-2.ensures.first in omega arith))
    (c.two_of-high.ensures.second 1 (omega arith) ∙ place c.args.grid.now (c.args.at + 16) 1 c.places_from-2.result.second 1 (let p = c.places_from-2.ensures.second in omega arith))
    (c.two_of-high.ensures.second 2 (omega arith) ∙ place c.args.grid.now (c.args.at + 16) 1 c.places_from-2.result.third 2 (let p = c.places_from-2.ensures.third in omega arith))
    (c.two_of-high.ensures.second 3 (omega arith) ∙ place c.args.grid.now (c.args.at + 16) 1 c.places_from-2.result.fourth 3 (let p = c.places_from-2.ensures.fourth in omega arith)))
    c.put_eight-2.ensures.low c.put_eight-2.ensures.high r h
