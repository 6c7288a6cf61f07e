use Rattle.std.proofs.Common.{rules, ◌≡◌, ℕ, List, OnOk, length, refl, sym, ap, ◌∙◌, subst}
use Rattle.rz_words.specs.Grid.{Grid, grid_of, with_words, written_over}
use Rattle.mj_inverse.specs.Fits.{IsFound}
use Rattle.mj_inverse.proofs.Stores.{whole}
use Rattle.mj_inverse.proofs.work.Work.solve.Goals as goal

-- as many words as the block has are all its words afterwards
over : (g : Grid) (rows cols : ℕ) (ws : List ℕ) → g.rows ≡ rows → g.cols ≡ cols → length ws ≡ length g.words → grid_of rows cols ws ≡ written_over g ws
over g rows cols ws r k long =
    ap (λ n. grid_of n cols ws) (sym r) ∙ ap (λ n. grid_of g.rows n ws) (sym k) ∙ ap (with_words g) (sym (whole (length g.words) g.words ws long refl))

pub returns-clause-found : goal.returns-clause-found
returns-clause-found c =
    let ws = c.solve_words.new.out in
    let there = over c.args.out.now c.args.self.now.rows c.args.self.now.cols ws c.requires.rows c.requires.cols (search rules) in
    let P : Grid → Type 0 = λ g. OnOk c.solve_words.result (IsFound c.args.self.now g) in
    subst P there c.solve_words.ensures.found

pub returns-clause-only : goal.returns-clause-only
returns-clause-only c =
    let ws = c.solve_words.new.out in
    let there = over c.args.out.now c.args.self.now.rows c.args.self.now.cols ws c.requires.rows c.requires.cols (search rules) in
    let P : Grid → Type 0 = λ x. OnOk c.solve_words.result ((g : Grid) → IsFound c.args.self.now g → g ≡ x) in
    subst P there c.solve_words.ensures.only
