use Rattle.std.proofs.Common.{◌≡◌, ℕ, ◌≤◌, true, is_some, sym, ap, subst}
use Rattle.std.specs.FinMap as maps
use Rattle.rz_export_model.specs.Export.{Export}
use Rattle.rz_export.proofs.Built.{root-only}
use Rattle.rz_export.proofs.export.Export.add_counters.Goals as goal

pub add_to_tree-requires-clause-may : goal.add_to_tree-requires-clause-may
add_to_tree-requires-clause-may c =
    subst (λ (x : Export). (fid : ℕ) → is_some (maps.get x.tree.objects fid) ≡ true → fid ≤ c.args.made) (sym c.requires) (root-only c.args.made)

pub add_to_tree-requires-clause-blockless : goal.add_to_tree-requires-clause-blockless
add_to_tree-requires-clause-blockless c = ap (λ (x : Export). x.blocks) c.requires
