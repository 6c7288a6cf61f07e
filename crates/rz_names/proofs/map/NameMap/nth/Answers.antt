use Rattle.std.proofs.Common.{Some, sym, ap, ◌∙◌, slice_get}
use Rattle.rz_names.specs.Names.{below_root}
use Rattle.rz_names.proofs.Names.{below-kept}
use Rattle.rz_names.proofs.map.NameMap.nth.Goals as goal

pub returns-in-None : goal.returns-in-None
returns-in-None c =
    c.in-None.ensures ∙ ap (λ es. slice_get es c.args.at) (sym (below-kept c.self.inside.entries c.self.invariant)) ∙ ap (λ m. slice_get (below_root m) c.args.at) c.self.view_is

pub returns-in_ok-copy-in-Some : goal.returns-in_ok-copy-in-Some
returns-in_ok-copy-in-Some c =
    ap (λ p. Some (p, c.fid.result)) (c.in_ok-copy-in-Some.ensures ∙ c.path.ensures) ∙ ap (λ n. Some (c.in-Some.entry.now.0, n)) c.fid.ensures
    ∙ c.in-Some.ensures ∙ ap (λ es. slice_get es c.args.at) (sym (below-kept c.self.inside.entries c.self.invariant)) ∙ ap (λ m. slice_get (below_root m) c.args.at) c.self.view_is
