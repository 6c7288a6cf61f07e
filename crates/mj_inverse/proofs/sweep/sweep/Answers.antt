use Rattle.std.proofs.Common.{rules, ◌≡◌, ◌<◌, ℕ, get_or, replicate}
use Rattle.std.proofs.lemmas.List.{places}
use Rattle.mj_inverse.proofs.Falling.{angles_fall}
use Rattle.mj_inverse.proofs.Swept.{told_all, only_words}
use Rattle.mj_inverse.proofs.sweep.sweep.Goals as goal

none : (i : ℕ) → i < 8 → ◌≡◌ {A = ℕ} (get_or (replicate 8 0) i 0) 0
none i h = search (rules, places)

pub compare_all-requires-clause-told : goal.compare_all-requires-clause-told
compare_all-requires-clause-told c =
    told_all c.args.frame.rows c.args.frame.cols c.args.frame.reach c.args.words.now c.args.all.now c.peel_rows.new.grid c.requires.count (c.peel_rows.ensures.given c.args.words.now c.fill_rows.ensures.bins)

pub returns-clause-exact : goal.returns-clause-exact
returns-clause-exact c = λ i small.
    let all = c.compare_all.ensures i small in
    (λ z. (all.0 z).1, λ h. all.1 (none i small, h))

pub returns-clause-only : goal.returns-clause-only
returns-clause-only c = λ i f small every.
    only_words c.args.frame.rows c.args.frame.cols c.args.frame.reach i c.args.words.now c.args.all.now c.peel_rows.new.grid f
    (angles_fall c.args.frame.rows c.args.frame.reach c.args.all.now c.requires.count c.requires.lined c.requires.falls) c.requires.count small (c.peel_rows.ensures.given c.args.words.now c.fill_rows.ensures.bins) every
