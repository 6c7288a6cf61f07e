use Rattle.std.proofs.Common.{cond, sym, ap, ◌∙◌}
use Rattle.std.specs.Prelude.{◌==◌}
use Rattle.rz_events.specs.Masks.{has_bit}
use Rattle.rz_blocks.proofs.Bits.{set-bit, clear-bit}
use Rattle.rz_blocks.proofs.row.with_bit.Goals as goal

pub returns-then-is_set : goal.returns-then-is_set
returns-then-is_set c =
    λ b _. set-bit c.args.word c.args.place b c.requires ∙ ap (λ t. cond (b == c.args.place) t (has_bit c.args.word b)) (sym c.if-is_set.true)

pub returns-else-is_set : goal.returns-else-is_set
returns-else-is_set c =
    λ b small. clear-bit c.args.word c.args.place b c.requires small ∙ ap (λ t. cond (b == c.args.place) t (has_bit c.args.word b)) (sym c.if-is_set.false)
