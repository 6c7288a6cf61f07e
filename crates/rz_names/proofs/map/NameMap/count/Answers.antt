use Rattle.std.proofs.Common.{length, sym, ap, ◌∙◌}
use Rattle.rz_names.specs.Names.{below_root}
use Rattle.rz_names.proofs.Names.{below-kept}
use Rattle.rz_names.proofs.map.NameMap.count.Goals as goal

pub returns : goal.returns
returns c = c.len.ensures ∙ ap length (sym (below-kept c.self.inside.entries c.self.invariant)) ∙ ap (λ m. length (below_root m)) c.self.view_is
