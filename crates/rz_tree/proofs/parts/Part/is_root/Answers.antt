use Rattle.std.proofs.Common.{◌≡◌, Bool, true, false, ◌↔◌, ◌&&◌, sym, subst}
use Rattle.std.specs.Prelude.{◌==◌}
use Rattle.rz_export_model.specs.Tree.{Object, is_dir}
use Rattle.rz_tree.specs.declared.parts.Part.{Part}
use Rattle.rz_tree.specs.Added.{IsRootPart}
use Rattle.rz_tree.proofs.Allowed.{never, fits, root-rules}
use Rattle.rz_tree.proofs.parts.Part.is_root.Goals as goal

pub returns-in-Counters : goal.returns-in-Counters
returns-in-Counters c = subst (λ (p : Part). (false ≡ true) ↔ IsRootPart p) (sym c.in-Counters.is) never

pub returns-in-Name : goal.returns-in-Name
returns-in-Name c = subst (λ (p : Part). (false ≡ true) ↔ IsRootPart p) (sym c.in-Name.is) never

pub returns-in-Block : goal.returns-in-Block
returns-in-Block c = subst (λ (p : Part). (false ≡ true) ↔ IsRootPart p) (sym c.in-Block.is) never

pub returns-in-Enrolled : goal.returns-in-Enrolled
returns-in-Enrolled c = subst (λ (p : Part). (false ≡ true) ↔ IsRootPart p) (sym c.in-Enrolled.is) never

pub returns-in-Object : goal.returns-in-Object
returns-in-Object c =
    let p = c.in-Object in
    let o : Object = record { kind = p.kind; mode = p.mode; mtime = p.mtime; target = p.target; size = p.size; cid = p.cid; places = p.places } in
    subst (λ (b : Bool). (b ≡ true) ↔ IsRootPart c.args.self.now) (sym c.is_root_object.ensures)
    (subst (λ (x : Part). (((p.fid == 0) && is_dir o.kind && fits o.kind o) ≡ true) ↔ IsRootPart x) (sym p.is) (root-rules p.fid o))
