use Rattle.rz_names.proofs.Small.{nothing-else, root-there, root-stays, nothing-below}
use Rattle.rz_name_tests.proofs.paths.add_and_rename.Goals as goal

pub add-requires-clause-absent : goal.add-requires-clause-absent
add-requires-clause-absent c = rw (c.requires.map, c.requires.old) (nothing-else 97)

pub add-requires-clause-parent : goal.add-requires-clause-parent
add-requires-clause-parent c = rw (c.requires.map, c.requires.old) root-there

pub rename-requires-clause-last : goal.rename-requires-clause-last
rename-requires-clause-last c = rw (c.in_ok-add.ensures.ok, c.requires.map, c.requires.old, c.requires.new) nothing-below

pub rename-requires-clause-parent : goal.rename-requires-clause-parent
rename-requires-clause-parent c = rw (c.in_ok-add.ensures.ok, c.requires.map, c.requires.old, c.requires.new) (root-stays 97)
