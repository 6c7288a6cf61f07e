use Rattle.std.proofs.Common.{arith, ◌≡◌, ◌≤◌, ◌*◌, ◌-◌, ℕ, List, length, ap, sym, subst, ◌∙◌, ℤ}
use Rattle.std.specs.Prelude.{unsigned_abs}
use Rattle.rz_words.specs.Grid.{grid_of}
use Rattle.mj_inverse.specs.declared.placed.Placed.{Placed}
use Rattle.mj_inverse.specs.Rows.{Every, Differ}
use Rattle.mj_inverse.specs.Fits.{Pair, Search, IsFound, search_from}
use Rattle.mj_inverse.specs.Store.{lane_search}
use Rattle.mj_inverse.specs.Padded.{IsPlaced, IsLined, pairs_over, placed_from, raised_angle, search_over}
use Rattle.mj_inverse.proofs.Stores.{every_from_all}
use Rattle.mj_inverse.proofs.Found.{are_placed, are_lined, differ_from, length-placed_from, pairs_placed}
use Rattle.mj_inverse.proofs.finding.find_from.Goals as goal

searched : (rows cols : ℕ) (angles : List ℤ) (ws : List ℕ) (all : List Placed) → all ≡ placed_from rows cols 0 angles → search_over rows cols ws all ≡ search_from rows cols angles ws
searched rows cols angles ws all is =
    ap (λ (ps : List Pair). let s : Search = record { rows = rows; cols = cols; pairs = ps } in s) (ap (λ xs. pairs_over rows cols ws xs) is ∙ pairs_placed rows cols 0 angles ws)

pub find-requires-clause-given : goal.find-requires-clause-given
find-requires-clause-given c =
    let size = c.requires.size in
    let P : List Placed → Type 0 = λ xs. Every (IsPlaced c.args.frame.rows c.args.frame.cols (length c.args.words.now)) xs in
    subst P (sym c.place_from.ensures) (are_placed c.args.frame.rows c.args.frame.cols 0 (length c.args.words.now) c.args.angles.now (every_from_all (λ p. unsigned_abs p ≤ 16) c.args.angles.now c.requires.small) (omega arith))

pub find-requires-clause-lined : goal.find-requires-clause-lined
find-requires-clause-lined c =
    let angles : List ℤ = c.args.angles.now in
    let P : List Placed → Type 0 = λ xs. Every (IsLined c.args.frame.rows c.args.frame.reach) xs in
    subst P (sym c.place_from.ensures)
    (are_lined c.args.frame.rows c.args.frame.cols c.args.frame.reach 0 c.args.angles.now (every_from_all (λ p. unsigned_abs p ≤ 16) c.args.angles.now c.requires.small)
    (every_from_all (λ p. unsigned_abs p ≤ c.args.frame.reach) c.args.angles.now c.requires.near) (every_from_all (λ p. unsigned_abs p * (c.args.frame.rows - 1) ≤ c.args.frame.reach) c.args.angles.now c.requires.reaches))

pub find-requires-clause-differ : goal.find-requires-clause-differ
find-requires-clause-differ c =
    let P : List Placed → Type 0 = λ xs. Differ raised_angle xs in
    subst P (sym c.place_from.ensures) (differ_from c.args.frame.rows c.args.frame.cols 0 c.args.angles.now (every_from_all (λ p. unsigned_abs p ≤ 16) c.args.angles.now c.requires.small) c.requires.differ)

pub find-requires-clause-count : goal.find-requires-clause-count
find-requires-clause-count c = ap length c.place_from.ensures ∙ length-placed_from c.args.frame.rows c.args.frame.cols 0 c.args.angles.now ∙ c.requires.count

pub returns-clause-found : goal.returns-clause-found
returns-clause-found c = λ j ws h clear taken.
    let P : Search → Type 0 = λ s. IsFound (lane_search 8 j s) (grid_of c.args.frame.rows c.args.frame.cols ws) in
    subst P (searched c.args.frame.rows c.args.frame.cols c.args.angles.now c.args.words.now c.place_from.new.all c.place_from.ensures) (c.find.ensures.found j ws h clear taken)

pub returns-clause-complete : goal.returns-clause-complete
returns-clause-complete c = λ j g h found.
    let P : Search → Type 0 = λ s. IsFound (lane_search 8 j s) g in
    c.find.ensures.complete j g h (subst P (sym (searched c.args.frame.rows c.args.frame.cols c.args.angles.now c.args.words.now c.place_from.new.all c.place_from.ensures)) found)
