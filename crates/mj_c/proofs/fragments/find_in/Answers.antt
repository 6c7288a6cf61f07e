use Rattle.std.proofs.Common.{rules, arith, ◌≡◌, ◌≤◌, ◌<◌, ◌+◌, ◌-◌, ◌*◌, ◌∙◌, ℕ, List, length, get_or, map, refl, ap, sym, subst}
use Rattle.std.specs.Prelude.{slice_range}
use Rattle.std.proofs.lemmas.List.{places}
use borrow.Rule.Slice.PartMut.{put_mid}
use Rattle.mj_angles.specs.Layout.{inverse_of, cols_of, angle_of}
use Rattle.mj_inverse_four.specs.Fragments.{fragment_search}
use Rattle.mj_c.specs.Layouts.{IsDone, IsKnown, block_known, part_of, words_of}
use Rattle.mj_c.proofs.Done.{done_more, part_slice}
use Rattle.mj_c.proofs.Cut.{there_before}
use Rattle.mj_c.proofs.fragments.find_in.Goals as goal

pub groups-init : goal.groups-init
groups-init c = record { within = omega arith; done = record { known = λ i h. absurd (omega arith); kept = λ i h m. refl } }

back : (x w : ℕ) → x + w - x ≡ w
back x w = omega arith

-- a part of all
fits : (first count blocks w : ℕ) → first + count ≤ blocks → first * w + count * w ≤ blocks * w
fits first count blocks w few =
    let e : (blocks - (first + count)) + (first + count) ≡ blocks = omega arith in
    let d : ((blocks - (first + count)) + (first + count)) * w ≡ blocks * w = ap (λ x. x * w) e in
    omega arith

pub find_group-requires-clause-there : goal.find_group-requires-clause-there
find_group-requires-clause-there c =
    let most = c.group_size-count.ensures.within in
    let bytes : length c.groups.lost ≡ length c.args.lost.now = c.groups.auto.lost in
    let test = c.groups-test.true in
    there_before (inverse_of c.args.layout) (cols_of c.args.layout) (map (angle_of c.args.layout) c.args.positions.now) c.args.parts.now c.args.strides.now (length c.args.lost.now - 1) (c.groups.first + (c.group_size-count.result - 1)) (omega arith)
    (c.requires.there (omega arith))

pub find_group-requires-clause-count : goal.find_group-requires-clause-count
find_group-requires-clause-count c =
    let count : ℕ = c.group_size-count.result in
    let most = c.group_size-count.ensures.within in
    let bytes : length c.groups.lost ≡ length c.args.lost.now = c.groups.auto.lost in
    let test = c.groups-test.true in
    let long : length (slice_range c.groups.lost c.groups.first (c.groups.first + count)) ≡ count = search (rules, places) in
    sym long

pub groups-preserved : goal.groups-preserved
groups-preserved c =
    let y = c.args.layout in
    let first : ℕ = c.groups.first in
    let count : ℕ = c.group_size-count.result in
    let w : ℕ = c.inverse.result * c.cols.result in
    let blocks : ℕ = length c.args.lost.now in
    let most = c.group_size-count.ensures.within in
    let bytes : length c.groups.lost ≡ length c.args.lost.now = c.groups.auto.lost in
    let test = c.groups-test.true in
    let few : first + count ≤ blocks = omega arith in
    let words : c.inverse.result * c.cols.result ≡ words_of y = ap (λ r. r * c.cols.result) c.inverse.ensures.value ∙ ap (λ k. inverse_of y * k) c.cols.ensures.value in
    let long : length c.groups.out ≡ length c.args.lost.now * words_of y = c.groups.auto.out ∙ c.requires.out in
    let inside = fits first count blocks (words_of y) few in
    let inside' = fits first count blocks w few in
    let long' : length c.groups.out ≡ blocks * w = long ∙ ap (λ x. length c.args.lost.now * x) (sym words) in
    let given : length c.find_group.new.lost ≡ count = (let same = c.find_group.auto.lost in search (rules, places)) in
    let room : length c.find_group.new.out ≡ count * w = (let same = c.find_group.auto.out in search (rules, places)) in
    let known : (i : ℕ) → i < count → block_known y (fragment_search (inverse_of y) (cols_of y) (map (angle_of y) c.args.positions.now) c.args.parts.now c.args.strides.now) c.args.out.now (first + i) (part_of y c.find_group.new.out i) (get_or c.find_group.new.lost i 0) =
    λ i h.
    (let old : part_of y (slice_range c.groups.out (first * w) (first * w + count * w)) i ≡ part_of y c.args.out.now (first + i) =
    ap (λ x. part_of y (slice_range c.groups.out (first * x) (first * x + count * x)) i) words ∙ part_slice y c.groups.out first count i h (omega arith) ∙ c.groups.invariant.done.kept (first + i) (omega arith) (omega arith) in
    let P : List ℕ → Type 0 = λ xs. IsKnown y (fragment_search (inverse_of y) (cols_of y) (map (angle_of y) c.args.positions.now) c.args.parts.now c.args.strides.now (first + i)) xs (part_of y c.find_group.new.out i) (get_or c.find_group.new.lost i 0) in
    subst P old (c.find_group.ensures.known i (let same = c.find_group.auto.lost in omega (arith, given)))) in
    let done = done_more y (block_known y (fragment_search (inverse_of y) (cols_of y) (map (angle_of y) c.args.positions.now) c.args.parts.now c.args.strides.now) c.args.out.now) blocks first c.args.out.now c.groups.out c.groups.lost long bytes c.groups.invariant.done count few c.find_group.new.out
    c.find_group.new.lost (room ∙ ap (λ x. count * x) words) given known in
    let R : ℕ → ℕ → Type 0 = λ x z. IsDone y (block_known y (fragment_search (inverse_of y) (cols_of y) (map (angle_of y) c.args.positions.now) c.args.parts.now c.args.strides.now) c.args.out.now) blocks (first + count) c.args.out.now (put_mid (first * x) z c.groups.out c.find_group.new.out) (put_mid first count c.groups.lost c.find_group.new.lost) in
    let D : ℕ → Type 0 = λ x. R x (count * x) in
    let E : ℕ → Type 0 = R w in
    let G : ℕ → Type 0 = λ z. IsDone y (block_known y (fragment_search (inverse_of y) (cols_of y) (map (angle_of y) c.args.positions.now) c.args.parts.now c.args.strides.now) c.args.out.now) blocks (first + count) c.args.out.now (put_mid (first * w) (first * w + count * w - first * w) c.groups.out c.find_group.new.out)
    (put_mid first z c.groups.lost c.find_group.new.lost) in
    record {
      within = few;
      done = subst G (sym (back first count)) (subst E (sym (back (first * w) (count * w))) (subst D (sym words) done));
    }

pub returns : goal.returns
returns c =
    let end : c.groups.first ≡ length c.args.lost.now = (let bytes = c.groups.auto.lost in omega arith) in
    record { known = λ i h. c.groups.invariant.done.known i (omega arith) }
