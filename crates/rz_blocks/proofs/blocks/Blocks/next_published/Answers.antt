use Rattle.std.proofs.Common.{sym, ◌∙◌}
use Rattle.rz_export_model.specs.Export.{is_after}
use Rattle.rz_blocks.proofs.Nexts.{none-marked, first-marked, not-published}
use Rattle.rz_blocks.proofs.blocks.Blocks.next_published.Goals as goal

pub returns-in_err-key : goal.returns-in_err-key
returns-in_err-key c =
    c.from_residual.ensures
    ∙ none-marked c.self.inside.entries.entries c.self.inside.published c.self.invariant c.args.self.now c.self.view_is (is_after c.args.after) (λ q small above. c.in_err-key.ensures q above)

pub returns-in_err-published : goal.returns-in_err-published
returns-in_err-published c =
    absurd (not-published c.self.inside.entries.entries c.self.inside.published c.self.invariant c.args.self.now c.self.view_is c.in_ok-key.key c.in_ok-key.ensures.1 (sym c.in_err-published.ensures))

pub returns : goal.returns
returns c =
    first-marked c.self.inside.entries.entries c.self.inside.published c.self.invariant c.args.self.now c.self.view_is (is_after c.args.after)
    c.in_ok-key.key c.in_ok-published.published c.in_ok-key.ensures.0 (sym c.in_ok-published.ensures) (λ q small above below. c.in_ok-key.ensures.2 q above below)
