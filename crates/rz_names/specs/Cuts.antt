-- Which paths a cut of paths in order has before it.
use Rattle.std.specs.Prelude.{Bool, not}
use Rattle.std.specs.Option.{option_copied}
use Rattle.std.specs.Ordering.{is_gt, is_lt}
use Rattle.rz_export_model.specs.Paths.{Path, path_cmp}
use Rattle.rz_names.specs.Names.{is_up_to, is_within}
use Rattle.rz_names.specs.declared.cuts.PathCut.{PathCut}
use Rattle.rz_names.specs.declared.cuts.PathCut.TheVariants.{Before, Reached, Within, UpTo}

-- whether a path stands before a cut
abbrev pub passes : PathCut → Path → Bool
passes (Before names) = λ k. is_gt (path_cmp names.now k)
passes (Reached names after) = is_up_to names.now (option_copied after)
passes (Within names) = is_within names.now
passes (UpTo names) = λ k. not (is_lt (path_cmp names.now k))
