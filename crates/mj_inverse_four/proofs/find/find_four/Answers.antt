use Rattle.std.proofs.Common.{arith, ◌<◌, ◌+◌, ◌*◌, ℕ, get_or, sym, ◌∙◌}
use Rattle.mj_inverse_four.specs.Rows.{direction_of, inner, width_of}
use Rattle.mj_inverse_four.proofs.Found.{found_from_bins, bins_from_found, grid_same, bin-same}
use Rattle.mj_inverse_four.proofs.find.find_four.Goals as goal

pub returns-clause-found : goal.returns-clause-found
returns-clause-found c = λ i ws few clear taken.
    let rows : ℕ = c.args.frame.rows in
    let cols : ℕ = c.args.frame.cols in
    let small : i < 4 = (let most = c.requires.four in omega arith) in
    let f : ℕ → ℕ → ℕ = inner c.sweep.new.grid (width_of cols c.args.frame.reach) c.args.frame.reach i in
    let has = (c.sweep.ensures.exact i small).0 ((c.mask.ensures i small).0 clear) in
    found_from_bins rows cols c.args.frame.reach c.args.angles.now c.args.parts.now c.args.strides.now c.args.group i c.requires.shape c.requires.angles c.requires.there few ws taken.full
    (λ l h b near. has l h b near ∙ bin-same f (λ l k. get_or ws (l * cols + k) 0) rows cols (direction_of rows c.args.angles.now l) b (λ l k a m. sym (taken.words l k a m)))

pub returns-clause-complete : goal.returns-clause-complete
returns-clause-complete c = λ i g few found.
    let rows : ℕ = c.args.frame.rows in
    let cols : ℕ = c.args.frame.cols in
    let small : i < 4 = (let most = c.requires.four in omega arith) in
    let w : ℕ → ℕ → ℕ = inner c.sweep.new.grid (width_of cols c.args.frame.reach) c.args.frame.reach i in
    let f : ℕ → ℕ → ℕ = λ l k. get_or g.words (l * cols + k) 0 in
    let has = bins_from_found rows cols c.args.frame.reach c.args.angles.now c.args.parts.now c.args.strides.now c.args.group i c.requires.shape c.requires.angles c.requires.there few g found in
    let same = c.sweep.ensures.only i f small has in (
      (c.mask.ensures i small).1 ((c.sweep.ensures.exact i small).1 (λ l h b near. has l h b near ∙ bin-same f w rows cols (direction_of rows c.args.angles.now l) b same)),
      λ ws taken. grid_same rows cols c.args.frame.reach c.args.angles.now c.args.parts.now c.args.strides.now c.args.group i c.requires.shape c.requires.angles c.requires.there few g ws taken.full found (λ l k a b. same l k a b ∙ sym (taken.words l k a b)),
    )
