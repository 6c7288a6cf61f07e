use Rattle.std.proofs.Common.{◌≡◌}
use Rattle.rz_export_model.specs.Firsts.{first_given}
use Rattle.rz_blocks.proofs.Ranges.{key_in}
use Rattle.rz_blocks.proofs.blocks.first_key.Given as goal

-- what is left gives what all give
abbrev pub invariant-loop-key : goal.invariant-loop-key
invariant-loop-key l = first_given (key_in l.fid) l.key-iterator ≡ first_given (key_in l.fid) l.initial.key-iterator
