use Rattle.std.proofs.Common.{◌-◌, ◌^◌, sym, ap, ◌∙◌}
use Rattle.std.specs.Prelude.{nat_le}
use Rattle.std.specs.FinMap as maps
use Rattle.rz_export_model.specs.Tree.{Tree}
use Rattle.rz_tree.proofs.Tables.{len-objects}
use Rattle.rz_tree.proofs.Calls.{full-yes, full-no}
use Rattle.rz_tree.proofs.tree.Tree.is_full.Goals as goal

pub returns-then-len-gt-MOST_OBJECTS : goal.returns-then-len-gt-MOST_OBJECTS
returns-then-len-gt-MOST_OBJECTS c =
    full-yes c.len.result (maps.len c.args.self.now.objects) (nat_le (2 ^ 128 - 1) c.args.self.now.made)
    (c.len.ensures ∙ sym (len-objects c.self.inside.inodes) ∙ ap (λ (t : Tree). maps.len t.objects) c.self.view_is) c.if-len-gt-MOST_OBJECTS.true

pub returns-else-len-gt-MOST_OBJECTS : goal.returns-else-len-gt-MOST_OBJECTS
returns-else-len-gt-MOST_OBJECTS c =
    c.is_last.ensures ∙ ap (λ (t : Tree). nat_le (2 ^ 128 - 1) t.made) c.self.view_is
    ∙ full-no c.len.result (maps.len c.args.self.now.objects) (nat_le (2 ^ 128 - 1) c.args.self.now.made)
    (c.len.ensures ∙ sym (len-objects c.self.inside.inodes) ∙ ap (λ (t : Tree). maps.len t.objects) c.self.view_is) c.if-len-gt-MOST_OBJECTS.false
