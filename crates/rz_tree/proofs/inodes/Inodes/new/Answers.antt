use Rattle.rz_tree.proofs.Files.{none-files}
use Rattle.rz_tree.proofs.inodes.Inodes.new.Goals as goal

pub invariant_of-result : goal.invariant_of-result
invariant_of-result c = none-files c.new.result.entries c.new-2.result c.new.ensures.empty c.new-2.ensures.empty
