use Rattle.std.proofs.Common.{rules, arith, ◌≡◌, ◌≤◌, ◌+◌, ◌-◌, ◌*◌, ℕ, zero, suc, [], ◌∷◌, length, get_or, take, subst, replicate, refl}
use Rattle.std.specs.List.{sum_by}
use Rattle.std.proofs.lemmas.List.{places}
use Rattle.std.proofs.lemmas.Nat.{row_fits}
use Rattle.mj_angles.specs.Layout.{bins_at_of}
use Rattle.mj_inverse.specs.Fits.{Search}
use Rattle.mj_c.specs.Layouts.{IsKnown, part_of}
use Rattle.mj_c.proofs.Risen.{inverse_most}
use Rattle.mj_inverse_four.specs.Fragments.{part_at}
use Rattle.mj_c.specs.Layouts.{bins_behind}
use Rattle.mj_c.proofs.Cut.{AllAre, eight_parts, of_eight, search_cut, there_cut}
use Rattle.mj_c.proofs.lent.find_together.Goals as goal

all_same : (n m each : ℕ) → AllAre each (take n (replicate m each))
all_same zero m each = tt
all_same (suc n) zero each = tt
all_same (suc n) (suc m) each = (refl, all_same n m each)

-- so many are there
same_long : (n m each : ℕ) → n ≤ m → length (take n (replicate m each)) ≡ n
same_long n m each h = search (rules, places)

pub find_in-requires-clause-there : goal.find_in-requires-clause-there
find_in-requires-clause-there c = λ some.
    let y = c.args.layout in
    let each = c.total_bins-strides.ensures in
    let blocks : ℕ = length c.args.lost.now in
    let last : ℕ = length c.args.lost.now - 1 in
    let few : length c.args.positions.now ≤ 8 = (let most = inverse_most c.args.layout in let count = c.requires.count in omega arith) in
    let row : (length c.args.lost.now - 1) * sum_by (bins_at_of c.args.layout) c.args.positions.now + sum_by (bins_at_of c.args.layout) c.args.positions.now ≤ length c.args.lost.now * sum_by (bins_at_of c.args.layout) c.args.positions.now =
    row_fits (length c.args.lost.now - 1) (sum_by (bins_at_of c.args.layout) c.args.positions.now) (length c.args.lost.now) (sum_by (bins_at_of c.args.layout) c.args.positions.now) (omega arith) (omega arith) in
    let bins = c.requires.bins in
    let P : ℕ → Type 0 = λ e. AllAre e (take (length c.args.positions.now) (replicate 8 c.total_bins-strides.result)) in
    there_cut c.args.layout c.args.positions.now c.args.bins.now (take (length c.args.positions.now) (c.bins_from.result ∷ c.bins_from-2.result ∷ c.bins_from-3.result ∷ c.bins_from-4.result ∷ c.bins_from-5.result ∷ c.bins_from-6.result ∷ c.bins_from-7.result ∷ c.bins_from-8.result ∷ [])) (take (length c.args.positions.now) (replicate 8 c.total_bins-strides.result)) (length c.args.lost.now - 1) c.requires.count (omega arith)
    (eight_parts c.args.layout c.args.positions.now c.args.bins.now (c.bins_from.result ∷ c.bins_from-2.result ∷ c.bins_from-3.result ∷ c.bins_from-4.result ∷ c.bins_from-5.result ∷ c.bins_from-6.result ∷ c.bins_from-7.result ∷ c.bins_from-8.result ∷ []) few refl
    (of_eight (λ m. part_at (c.bins_from.result ∷ c.bins_from-2.result ∷ c.bins_from-3.result ∷ c.bins_from-4.result ∷ c.bins_from-5.result ∷ c.bins_from-6.result ∷ c.bins_from-7.result ∷ c.bins_from-8.result ∷ []) m ≡ bins_behind c.args.layout m c.args.positions.now c.args.bins.now) c.bins_from.ensures c.bins_from-2.ensures c.bins_from-3.ensures c.bins_from-4.ensures c.bins_from-5.ensures c.bins_from-6.ensures c.bins_from-7.ensures c.bins_from-8.ensures))
    (subst P each (all_same (length c.args.positions.now) 8 c.total_bins-strides.result)) (same_long (length c.args.positions.now) 8 c.total_bins-strides.result few)

pub returns : goal.returns
returns c = record {
  known = λ i some.
      (let y = c.args.layout in
      let each = c.total_bins-strides.ensures in
      let few : length c.args.positions.now ≤ 8 = (let most = inverse_most c.args.layout in let count = c.requires.count in omega arith) in
      let row : i * sum_by (bins_at_of c.args.layout) c.args.positions.now + sum_by (bins_at_of c.args.layout) c.args.positions.now ≤ length c.args.lost.now * sum_by (bins_at_of c.args.layout) c.args.positions.now =
      row_fits i (sum_by (bins_at_of c.args.layout) c.args.positions.now) (length c.args.lost.now) (sum_by (bins_at_of c.args.layout) c.args.positions.now) some (omega arith) in
      let bins = c.requires.bins in
      let P : ℕ → Type 0 = λ e. AllAre e (take (length c.args.positions.now) (replicate 8 c.total_bins-strides.result)) in
      let cut = search_cut c.args.layout c.args.positions.now c.args.bins.now (take (length c.args.positions.now) (c.bins_from.result ∷ c.bins_from-2.result ∷ c.bins_from-3.result ∷ c.bins_from-4.result ∷ c.bins_from-5.result ∷ c.bins_from-6.result ∷ c.bins_from-7.result ∷ c.bins_from-8.result ∷ [])) (take (length c.args.positions.now) (replicate 8 c.total_bins-strides.result)) i (omega arith)
      (eight_parts c.args.layout c.args.positions.now c.args.bins.now (c.bins_from.result ∷ c.bins_from-2.result ∷ c.bins_from-3.result ∷ c.bins_from-4.result ∷ c.bins_from-5.result ∷ c.bins_from-6.result ∷ c.bins_from-7.result ∷ c.bins_from-8.result ∷ []) few refl
      (of_eight (λ m. part_at (c.bins_from.result ∷ c.bins_from-2.result ∷ c.bins_from-3.result ∷ c.bins_from-4.result ∷ c.bins_from-5.result ∷ c.bins_from-6.result ∷ c.bins_from-7.result ∷ c.bins_from-8.result ∷ []) m ≡ bins_behind c.args.layout m c.args.positions.now c.args.bins.now) c.bins_from.ensures c.bins_from-2.ensures c.bins_from-3.ensures c.bins_from-4.ensures c.bins_from-5.ensures c.bins_from-6.ensures c.bins_from-7.ensures c.bins_from-8.ensures))
      (subst P each (all_same (length c.args.positions.now) 8 c.total_bins-strides.result)) (same_long (length c.args.positions.now) 8 c.total_bins-strides.result few) in
      let Q : Search → Type 0 = λ s. IsKnown y s (part_of y c.args.out.now i) (part_of y c.find_in.new.out i) (get_or c.find_in.new.lost i 0) in
      subst Q cut (c.find_in.ensures.known i some));
}
