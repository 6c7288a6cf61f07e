use Rattle.std.proofs.Common.{ℕ, ◌≤◌, ◌≡◌, true, is_some, sym, ap, subst}
use Rattle.std.specs.FinMap as maps
use Rattle.rz_export_model.specs.Tree.{Tree}
use Rattle.rz_tree.proofs.Adding.{made-kept}
use Rattle.rz_tree.proofs.tree.Tree.set_made.Goals as goal

pub invariant_of-self : goal.invariant_of-self
invariant_of-self c =
    made-kept c.self.inside.names c.self.inside.inodes c.self.inside.made c.args.made c.self.invariant
    (subst (λ (t : Tree). (fid : ℕ) → is_some (maps.get t.objects fid) ≡ true → fid ≤ c.args.made) (sym c.self.view_is) c.requires)

pub returns : goal.returns
returns c = ap (λ (t : Tree). (let u : Tree = record t { made = c.args.made } in u)) c.self.view_is
