use Rattle.std.proofs.Common.{Some, is_none, sym, ap, ◌∙◌}
use Rattle.rz_events.specs.Keys.{keys_total}
use Rattle.rz_export_model.specs.Export.{Export}
use Rattle.rz_blocks.specs.Shown.{entry_above}
use Rattle.rz_export.proofs.Allowed.{behind-there, block-behind}
use Rattle.rz_export.proofs.export.Export.is_behind_blocks.Goals as goal

pub returns-then-is_begun : goal.returns-then-is_begun
returns-then-is_begun c = behind-there keys_total c.args.key c.args.self.now.blocks (sym c.is_begun.ensures ∙ c.if-is_begun.true)

pub returns-in-None : goal.returns-in-None
returns-in-None c =
    sym (ap is_none c.in-None.is)
    ∙ block-behind c.args.self.now.blocks c.args.key c.after.result (sym c.is_begun.ensures ∙ c.if-is_begun.false)
    (c.after.ensures ∙ ap (λ (s : Export). entry_above s.blocks (Some c.args.key)) c.self.view_is)

pub returns-in-Some : goal.returns-in-Some
returns-in-Some c =
    sym (ap is_none c.in-Some.is)
    ∙ block-behind c.args.self.now.blocks c.args.key c.after.result (sym c.is_begun.ensures ∙ c.if-is_begun.false)
    (c.after.ensures ∙ ap (λ (s : Export). entry_above s.blocks (Some c.args.key)) c.self.view_is)
