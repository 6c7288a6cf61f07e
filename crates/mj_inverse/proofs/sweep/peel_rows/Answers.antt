use Rattle.std.proofs.Common.{rules, ◌≡◌, ℕ, sym, subst}
use Rattle.mj_inverse.specs.Padded.{AreBins, AreGiven}
use Rattle.mj_inverse.proofs.sweep.peel_rows.Goals as goal

pub returns-in-2-clause-given : goal.returns-in-2-clause-given
returns-in-2-clause-given c = λ ws.
    let e : c.args.frame.rows ≡ 2 = search rules in
    let P : ℕ → Type 0 = λ r. AreBins r c.args.frame.cols c.args.frame.reach ws c.args.all.now c.args.grid.now r → AreGiven r c.args.frame.cols c.args.frame.reach ws c.args.all.now c.peel.new.grid in
    subst P (sym e) (c.peel.ensures.given ws)

pub returns-in-4-clause-given : goal.returns-in-4-clause-given
returns-in-4-clause-given c = λ ws.
    let e : c.args.frame.rows ≡ 4 = search rules in
    let P : ℕ → Type 0 = λ r. AreBins r c.args.frame.cols c.args.frame.reach ws c.args.all.now c.args.grid.now r → AreGiven r c.args.frame.cols c.args.frame.reach ws c.args.all.now c.peel-in-4.new.grid in
    subst P (sym e) (c.peel-in-4.ensures.given ws)

pub returns-in-8-clause-given : goal.returns-in-8-clause-given
returns-in-8-clause-given c = λ ws.
    let e : c.args.frame.rows ≡ 8 = search rules in
    let P : ℕ → Type 0 = λ r. AreBins r c.args.frame.cols c.args.frame.reach ws c.args.all.now c.args.grid.now r → AreGiven r c.args.frame.cols c.args.frame.reach ws c.args.all.now c.peel-in-8.new.grid in
    subst P (sym e) (c.peel-in-8.ensures.given ws)
