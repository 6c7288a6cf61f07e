use Rattle.std.proofs.Common.{◌+◌, ◌*◌, ℕ, get_or, length, sym, ◌∙◌}
use Rattle.mj_inverse.specs.declared.placed.Placed.{Placed}
use Rattle.mj_inverse.specs.Padded.{IsPlaced, IsLined, HasBins, inner, width_of}
use Rattle.mj_inverse.proofs.Exchanged.{arranged-back, every-arranged, length-arranged}
use Rattle.mj_inverse.proofs.Found.{found_from_bins, bins_from_found, grid_same}
use Rattle.mj_inverse.proofs.Tied.{bins_same}
use Rattle.mj_inverse.proofs.finding.find.Goals as goal

pub sweep-requires-clause-given : goal.sweep-requires-clause-given
sweep-requires-clause-given c = every-arranged (IsPlaced c.args.frame.rows c.args.frame.cols (length c.args.words.now)) c.sort_falling.ensures.same c.requires.given

pub sweep-requires-clause-lined : goal.sweep-requires-clause-lined
sweep-requires-clause-lined c = every-arranged (IsLined c.args.frame.rows c.args.frame.reach) c.sort_falling.ensures.same c.requires.lined

pub sweep-requires-clause-count : goal.sweep-requires-clause-count
sweep-requires-clause-count c = length-arranged c.sort_falling.ensures.same ∙ c.requires.count

pub returns-clause-found : goal.returns-clause-found
returns-clause-found c = λ j ws h clear taken.
    let rows : ℕ = c.args.frame.rows in
    let cols : ℕ = c.args.frame.cols in
    let f : ℕ → ℕ → ℕ = inner c.sweep.new.grid (width_of cols c.args.frame.reach) c.args.frame.reach j in
    let g : ℕ → ℕ → ℕ = λ l k. get_or ws (l * cols + k) 0 in
    let P : Placed → Type 0 = HasBins rows cols j g c.args.words.now in
    let has = (c.sweep.ensures.exact j h).0 (sym (c.mark.ensures j h) ∙ (c.mask.ensures j h).0 clear) in
    let same = bins_same rows cols j f g c.args.words.now c.sort_falling.new.all (λ l k a b. sym (taken.words l k a b)) has in
    found_from_bins rows cols j c.args.words.now c.args.all.now c.requires.shape h c.requires.given ws taken.full (every-arranged P (arranged-back c.sort_falling.ensures.same) same)

pub returns-clause-complete : goal.returns-clause-complete
returns-clause-complete c = λ j g h found.
    let rows : ℕ = c.args.frame.rows in
    let cols : ℕ = c.args.frame.cols in
    let f : ℕ → ℕ → ℕ = λ l k. get_or g.words (l * cols + k) 0 in
    let w : ℕ → ℕ → ℕ = inner c.sweep.new.grid (width_of cols c.args.frame.reach) c.args.frame.reach j in
    let P : Placed → Type 0 = HasBins rows cols j f c.args.words.now in
    let has = every-arranged P c.sort_falling.ensures.same (bins_from_found rows cols j c.args.words.now c.args.all.now c.requires.shape h c.requires.given g found) in
    let same = c.sweep.ensures.only j f h has in (
      (c.mask.ensures j h).1 (c.mark.ensures j h ∙ (c.sweep.ensures.exact j h).1 (bins_same rows cols j f w c.args.words.now c.sort_falling.new.all same has)),
      λ ws taken. grid_same rows cols j c.args.words.now c.args.all.now c.requires.shape h c.requires.given g ws taken.full found (λ l k a b. same l k a b ∙ sym (taken.words l k a b)),
    )
