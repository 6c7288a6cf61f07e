use Rattle.std.proofs.Common.{◌≡◌, Bool, true, false, ◌↔◌, sym, ◌∙◌, subst}
use Rattle.rz_export_model.specs.Tree.{Object}
use Rattle.rz_tree.specs.declared.parts.Part.{Part}
use Rattle.rz_tree.specs.Added as trees
use Rattle.rz_export.specs.Building.{IsBlockless, MayBeNext}
use Rattle.rz_export.specs.Allowed.{may_lie, is_next_block, is_next_enrolment}
use Rattle.rz_export.proofs.Allowed.{no, never, object-rules, block-rules, enrolment-rules}
use Rattle.rz_export.proofs.export.Export.allows.Goals as goal

pub returns-in-Counters : goal.returns-in-Counters
returns-in-Counters c = subst (λ (p : Part). (false ≡ true) ↔ MayBeNext c.args.self.now p) (sym c.in-Counters.is) never

pub returns-then-allows_in_tree : goal.returns-then-allows_in_tree
returns-then-allows_in_tree c =
    let s = c.args.self.now in
    let i = c.in-Object in
    let o : Object = record { kind = i.kind; mode = i.mode; mtime = i.mtime; target = i.target; size = i.size; cid = i.cid; places = i.places } in
    let own = subst (λ (p : Part). trees.MayBeNext s.tree p × IsBlockless s) i.is (c.allows_in_tree.ensures.0 c.if-allows_in_tree.true) in
    subst (λ (b : Bool). (b ≡ true) ↔ MayBeNext s c.args.part.now) (sym c.may_lie.ensures)
    (subst (λ (p : Part). (may_lie s o.kind o.cid o.places o.size ≡ true) ↔ MayBeNext s p) (sym i.is) (object-rules s i.fid o own.0 own.1))

pub returns-else-allows_in_tree : goal.returns-else-allows_in_tree
returns-else-allows_in_tree c =
    let s = c.args.self.now in
    let i = c.in-Object in (
      (λ h. absurd (no (sym c.if-allows_in_tree.false ∙ h))),
      (λ r.
          let own = subst (MayBeNext s) i.is r in
          c.allows_in_tree.ensures.1 (subst (λ (p : Part). trees.MayBeNext s.tree p × IsBlockless s) (sym i.is) (own.next, own.before_blocks))),
    )

pub returns-in-Name : goal.returns-in-Name
returns-in-Name c =
    let s = c.args.self.now in
    let is = c.in-Name.is in (
      (λ h.
          let own = subst (λ (p : Part). trees.MayBeNext s.tree p × IsBlockless s) is (c.allows_in_tree-in-Name.ensures.0 h) in
          subst (MayBeNext s) (sym is) (record { next = own.0; before_blocks = own.1 })),
      (λ r.
          let own = subst (MayBeNext s) is r in
          c.allows_in_tree-in-Name.ensures.1 (subst (λ (p : Part). trees.MayBeNext s.tree p × IsBlockless s) (sym is) (own.next, own.before_blocks))),
    )

pub returns-in-Block : goal.returns-in-Block
returns-in-Block c =
    let s = c.args.self.now in
    let i = c.in-Block in
    subst (λ (b : Bool). (b ≡ true) ↔ MayBeNext s c.args.part.now) (sym c.allows_block.ensures)
    (subst (λ (p : Part). (is_next_block s i.key i.latest i.published ≡ true) ↔ MayBeNext s p) (sym i.is) (block-rules s i.key i.latest i.published))

pub returns-in-Enrolled : goal.returns-in-Enrolled
returns-in-Enrolled c =
    let s = c.args.self.now in
    let i = c.in-Enrolled in
    subst (λ (b : Bool). (b ≡ true) ↔ MayBeNext s c.args.part.now) (sym c.allows_enrolment.ensures)
    (subst (λ (p : Part). (is_next_enrolment s i.node i.fence ≡ true) ↔ MayBeNext s p) (sym i.is) (enrolment-rules s i.node i.fence))
