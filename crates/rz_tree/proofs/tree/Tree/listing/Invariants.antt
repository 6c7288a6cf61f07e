use Rattle.std.proofs.Common.{◌≡◌, ◌-◌, length, take, slice_get}
use Rattle.std.specs.Option.{option_copied}
use Rattle.rz_export_model.specs.Tree.{names_under}
use Rattle.rz_names.specs.Names.{next_name}
use Rattle.rz_tree.proofs.tree.Tree.listing.Given as goal

-- the first names are listed, and the next one follows the last of them
abbrev pub invariant-loop-name : goal.invariant-loop-name
invariant-loop-name l = record {
  so_far : take (length l.names.items) (names_under l.self-inside.names l.path) ≡ l.names.items;
  next : next_name l.self-inside.names l.path (option_copied l.last) ≡ slice_get (names_under l.self-inside.names l.path) (length l.names.items);
}

abbrev pub decreases-loop-name : goal.decreases-loop-name
decreases-loop-name l = length (names_under l.self-inside.names l.path) - length l.names.items
