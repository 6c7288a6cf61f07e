use Rattle.std.proofs.Common.{ap, ◌∙◌}
use Rattle.std.specs.FinMap as maps
use Rattle.rz_export_model.specs.Paths.{path_cmp}
use Rattle.rz_names.specs.Names.{with_root}
use Rattle.rz_names.proofs.Names.{root-alone}
use Rattle.rz_names.proofs.map.NameMap.new.Goals as goal

pub returns : goal.returns
returns c = ap (λ l. maps.from_sorted {R = path_cmp} (with_root l)) c.new.ensures ∙ root-alone
