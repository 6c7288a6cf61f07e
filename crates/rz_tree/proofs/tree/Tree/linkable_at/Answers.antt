use Rattle.std.proofs.Common.{◌≡◌, false, None, is_some, sym, ap, ◌∙◌}
use Rattle.rz_events.specs.declared.tree.TreeFault.TheVariants as fault
use Rattle.rz_export_model.specs.Firsts.{given_if}
use Rattle.rz_export_model.specs.Tree.{Tree, found_at}
use Rattle.rz_export_model.specs.Paths.{Path}
use Rattle.rz_export_model.specs.Refusals.{walk, absent, present, dir, too_many_links}
use Rattle.rz_tree.specs.Inodes.{found_of}
use Rattle.rz_tree.proofs.Calls.{leaf-many, no-dir, link-last}
use Rattle.rz_tree.proofs.Rules.{map-some}
use Rattle.rz_tree.proofs.tree.Tree.linkable_at.Goals as goal

pub returns-in-None-clause-fault : goal.returns-in-None-clause-fault
returns-in-None-clause-fault c =
    let t : Tree = c.args.self.now in
    let p : Path = c.args.path.now in
    let q : Path = c.args.to.now in
    let free : is_some (found_at t q) ≡ false =
    sym (ap is_some c.found.ensures.found) ∙ map-some (λ f. found_of f.0 f.1.now) c.found.result ∙ sym c.is_some.ensures ∙ c.if-is_some.false in
    let none : dir t p ≡ None = no-dir (walk t p) (absent t p) (dir t p) (sym c.in_ok-found.ensures.fault) in
    sym c.in-None.is ∙ c.too_many.ensures
    ∙ leaf-many t p c.in_ok-found.found.0 c.in_ok-found.found.1.now c.in_ok-found.ensures.found none c.in_ok-found.ensures.links
    ∙ sym (link-last (walk t p) (absent t p) (dir t p) (walk t q) (present t q) (too_many_links t p) (sym c.in_ok-found.ensures.fault) (sym c.walk.ensures ∙ c.in_default.is) (ap (λ b. given_if b fault.Exists) free))

pub returns-in-Some-too_many-clause-fault : goal.returns-in-Some-too_many-clause-fault
returns-in-Some-too_many-clause-fault c =
    let t : Tree = c.args.self.now in
    let p : Path = c.args.path.now in
    let q : Path = c.args.to.now in
    let free : is_some (found_at t q) ≡ false =
    sym (ap is_some c.found.ensures.found) ∙ map-some (λ f. found_of f.0 f.1.now) c.found.result ∙ sym c.is_some.ensures ∙ c.if-is_some.false in
    let none : dir t p ≡ None = no-dir (walk t p) (absent t p) (dir t p) (sym c.in_ok-found.ensures.fault) in
    sym c.in-Some-too_many.is ∙ c.too_many.ensures
    ∙ leaf-many t p c.in_ok-found.found.0 c.in_ok-found.found.1.now c.in_ok-found.ensures.found none c.in_ok-found.ensures.links
    ∙ sym (link-last (walk t p) (absent t p) (dir t p) (walk t q) (present t q) (too_many_links t p) (sym c.in_ok-found.ensures.fault) (sym c.walk.ensures ∙ c.in_default.is) (ap (λ b. given_if b fault.Exists) free))
