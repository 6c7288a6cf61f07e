use Rattle.std.proofs.Common.{sym, ◌∙◌}
use Rattle.rz_blocks.proofs.Nexts.{none-left, later-file, first-left, not-published}
use Rattle.rz_blocks.proofs.blocks.Blocks.next.Goals as goal

pub returns-in_err-key : goal.returns-in_err-key
returns-in_err-key c =
    c.from_residual.ensures
    ∙ none-left c.self.inside.entries.entries c.self.inside.published c.self.invariant c.args.self.now c.self.view_is c.args.after c.last_before.result c.args.file c.last_before.ensures
    c.in_err-key.ensures

pub returns-then-key-file : goal.returns-then-key-file
returns-then-key-file c =
    later-file c.self.inside.entries.entries c.self.inside.published c.self.invariant c.args.self.now c.self.view_is c.args.after c.last_before.result c.args.file c.last_before.ensures
    c.in_ok-key.key c.in_ok-key.ensures.0 c.in_ok-key.ensures.1 c.in_ok-key.ensures.2 c.if-key-file.true

pub returns-in_err-published : goal.returns-in_err-published
returns-in_err-published c =
    absurd (not-published c.self.inside.entries.entries c.self.inside.published c.self.invariant c.args.self.now c.self.view_is c.in_ok-key.key c.in_ok-key.ensures.1 (sym c.in_err-published.ensures))

pub returns : goal.returns
returns c =
    first-left c.self.inside.entries.entries c.self.inside.published c.self.invariant c.args.self.now c.self.view_is c.args.after c.last_before.result c.args.file c.last_before.ensures
    c.in_ok-key.key c.in_ok-key.ensures.0 c.in_ok-key.ensures.1 c.in_ok-key.ensures.2 c.if-key-file.false c.in_ok-published.published (sym c.in_ok-published.ensures)
