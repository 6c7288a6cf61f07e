use Rattle.std.proofs.Common.{◌≡◌, Bool, true, false, ◌↔◌, ◌&&◌, sym, subst}
use Rattle.rz_export_model.specs.Tree.{Object}
use Rattle.rz_tree.specs.declared.parts.Part.{Part}
use Rattle.rz_tree.specs.Added.{MayBeNext}
use Rattle.rz_tree.specs.Allowed.{is_next_number, is_next_name}
use Rattle.rz_tree.proofs.Allowed.{never, fits, object-rules, name-rules}
use Rattle.rz_tree.proofs.tree.Tree.allows.Goals as goal

pub returns-in-Counters : goal.returns-in-Counters
returns-in-Counters c = subst (λ (p : Part). (false ≡ true) ↔ MayBeNext c.args.self.now p) (sym c.in-Counters.is) never

pub returns-in-Block : goal.returns-in-Block
returns-in-Block c = subst (λ (p : Part). (false ≡ true) ↔ MayBeNext c.args.self.now p) (sym c.in-Block.is) never

pub returns-in-Enrolled : goal.returns-in-Enrolled
returns-in-Enrolled c = subst (λ (p : Part). (false ≡ true) ↔ MayBeNext c.args.self.now p) (sym c.in-Enrolled.is) never

pub returns-in-Object : goal.returns-in-Object
returns-in-Object c =
    let t = c.args.self.now in
    let p = c.in-Object in
    let o : Object = record { kind = p.kind; mode = p.mode; mtime = p.mtime; target = p.target; size = p.size; cid = p.cid; places = p.places } in
    subst (λ (b : Bool). (b ≡ true) ↔ MayBeNext t c.args.part.now) (sym c.allows_object.ensures)
    (subst (λ (x : Part). ((is_next_number t p.fid && fits o.kind o) ≡ true) ↔ MayBeNext t x) (sym p.is) (object-rules t p.fid o))

pub returns-in-Name : goal.returns-in-Name
returns-in-Name c =
    let t = c.args.self.now in
    let p = c.in-Name in
    subst (λ (b : Bool). (b ≡ true) ↔ MayBeNext t c.args.part.now) (sym c.allows_name.ensures)
    (subst (λ (x : Part). (is_next_name t p.path p.fid ≡ true) ↔ MayBeNext t x) (sym p.is) (name-rules t p.path p.fid))
