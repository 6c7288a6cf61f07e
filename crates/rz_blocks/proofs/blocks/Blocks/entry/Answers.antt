use Rattle.std.proofs.Common.{sym, ap, ◌∙◌}
use Rattle.std.specs.Option.{option_map}
use Rattle.std.specs.FinMap as maps
use Rattle.rz_blocks.specs.Shown.{shown}
use Rattle.rz_blocks.proofs.Shows.{get-shown}
use Rattle.rz_blocks.proofs.blocks.Blocks.entry.Goals as goal

pub returns : goal.returns
returns c =
    ap (option_map shown) (c.copied.ensures ∙ c.get.ensures.value) ∙ sym (get-shown c.self.inside.entries.entries c.args.key)
    ∙ ap (λ m. maps.get m c.args.key) c.self.view_is
