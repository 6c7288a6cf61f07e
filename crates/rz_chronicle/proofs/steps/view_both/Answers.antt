use Rattle.std.proofs.Common.{◌≡◌, [], ◌∷◌, ℕ, ◌∙◌, ap, subst}
use Rattle.rz_chronicle.specs.Tokens.{at, counts, Agree}
use Rattle.rz_chronicle.proofs.Joint.{joined, all-low, first-count, first-without, first-held}
use Rattle.rz_chronicle.proofs.steps.view_both.Goals as goal

pub view-tokens-requires-clause-held : goal.view-tokens-requires-clause-held
view-tokens-requires-clause-held c =
    all-low c.args.key c.args.moved c.args.mine.held c.args.its.held c.join.result.held c.requires.its c.join.ensures.3 c.requires.held.1 c.requires.held.0

pub parted-requires : goal.parted-requires
parted-requires c =
    let e : c.join.result.held ≡ (c.args.key, c.args.moved) ∷ c.args.mine.held = joined c.args.key c.args.moved c.args.mine.held c.args.its.held c.join.result.held c.requires.its c.join.ensures.3 in
    first-held (counts c.view-tokens.new.seen.log) c.args.key c.args.moved c.args.mine.held c.view-tokens.result.0.held (c.view-tokens.ensures.held.0 ∙ ap (at (counts c.view-tokens.new.seen.log)) e)

pub returns-clause-mine : goal.returns-clause-mine
returns-clause-mine c =
    let e : c.join.result.held ≡ (c.args.key, c.args.moved) ∷ c.args.mine.held = joined c.args.key c.args.moved c.args.mine.held c.args.its.held c.join.result.held c.requires.its c.join.ensures.3 in
    let held = c.view-tokens.ensures.held.0 ∙ ap (at (counts c.view-tokens.new.seen.log)) e in
    (c.parted.ensures.9 ∙ first-without (counts c.view-tokens.new.seen.log) c.args.key c.args.moved c.args.mine.held c.view-tokens.result.0.held held, c.parted.ensures.7 ∙ c.view-tokens.ensures.held.1)

pub returns-clause-agree : goal.returns-clause-agree
returns-clause-agree c =
    let e : c.join.result.held ≡ (c.args.key, c.args.moved) ∷ c.args.mine.held = joined c.args.key c.args.moved c.args.mine.held c.args.its.held c.join.result.held c.requires.its c.join.ensures.3 in
    let agree : Agree (counts c.view-tokens.new.seen.log) ((c.args.key, c.args.moved) ∷ c.args.mine.held) = subst (Agree (counts c.view-tokens.new.seen.log)) e c.view-tokens.ensures.agree in
    (agree.1, agree.0)

pub returns-clause-its : goal.returns-clause-its
returns-clause-its c =
    let e : c.join.result.held ≡ (c.args.key, c.args.moved) ∷ c.args.mine.held = joined c.args.key c.args.moved c.args.mine.held c.args.its.held c.join.result.held c.requires.its c.join.ensures.3 in
    let held = c.view-tokens.ensures.held.0 ∙ ap (at (counts c.view-tokens.new.seen.log)) e in
    let agree : Agree (counts c.view-tokens.new.seen.log) ((c.args.key, c.args.moved) ∷ c.args.mine.held) = subst (Agree (counts c.view-tokens.new.seen.log)) e c.view-tokens.ensures.agree in
    let n = first-count (counts c.view-tokens.new.seen.log) c.args.key c.args.moved c.args.mine.held c.view-tokens.result.0.held held ∙ agree.0 in
    (c.parted.ensures.8 ∙ ap (λ (m : ℕ). (c.args.key, m) ∷ []) n, c.parted.ensures.3 ∙ c.view-tokens.ensures.held.1)
