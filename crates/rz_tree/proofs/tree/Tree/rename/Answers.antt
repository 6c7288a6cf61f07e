use Rattle.std.proofs.Common.{◌≡◌, false, Some, None, option_map, sym, ap, ◌∙◌, subst}
use Rattle.std.specs.Prelude.{IfSome}
use Rattle.rz_events.specs.declared.tree.TreeCall.TheVariants as call
use Rattle.rz_events.specs.declared.tree.TreeFault.TheVariants as fault
use Rattle.rz_export_model.specs.Paths.{Path}
use Rattle.rz_export_model.specs.Tree.{Tree, found_at, links_of}
use Rattle.rz_export_model.specs.Refusals.{is_same_object}
use Rattle.rz_tree.specs.Calls.{proper_path_of}
use Rattle.rz_tree.specs.Inodes.{found_of}
use Rattle.rz_tree.specs.Trees.{IsTree}
use Rattle.rz_tree.proofs.Adds.{absent-name}
use Rattle.rz_tree.proofs.Calls.{last-found, no-last, same-object, other-object, no-object}
use Rattle.rz_tree.proofs.Rules.{found-there}
use Rattle.rz_tree.proofs.Replies.{reply-refused, tree-refused, reply-done, tree-done, rename_fault, first-unreadable, second-unreadable, rename-refusal, rename-changed, rename-kept, gone-same, gone-other}
use Rattle.rz_tree.proofs.tree.Tree.rename.Goals as goal

pub returns-in_default-clause-reply : goal.returns-in_default-clause-reply
returns-in_default-clause-reply c =
    let t = c.args.self.now in
    reply-refused t (call.Rename c.args.text.now c.args.to.now) fault.BadName (first-unreadable c.args.text.now c.args.to.now (rename_fault t) (sym c.in_ok-path.ensures ∙ c.in_default.is))

pub returns-in_default-clause-ok : goal.returns-in_default-clause-ok
returns-in_default-clause-ok c =
    let t = c.args.self.now in
    tree-refused t (call.Rename c.args.text.now c.args.to.now) fault.BadName (first-unreadable c.args.text.now c.args.to.now (rename_fault t) (sym c.in_ok-path.ensures ∙ c.in_default.is))

pub returns-in_default-2-clause-reply : goal.returns-in_default-2-clause-reply
returns-in_default-2-clause-reply c =
    let t = c.args.self.now in
    let at : proper_path_of c.args.text.now ≡ Some c.in-Some.path = sym c.in_ok-path.ensures ∙ c.in-Some.is in
    reply-refused t (call.Rename c.args.text.now c.args.to.now) fault.BadName (second-unreadable c.args.text.now c.args.to.now (rename_fault t) c.in-Some.path at (sym c.in_ok-to.ensures ∙ c.in_default-2.is))

pub returns-in_default-2-clause-ok : goal.returns-in_default-2-clause-ok
returns-in_default-2-clause-ok c =
    let t = c.args.self.now in
    let at : proper_path_of c.args.text.now ≡ Some c.in-Some.path = sym c.in_ok-path.ensures ∙ c.in-Some.is in
    tree-refused t (call.Rename c.args.text.now c.args.to.now) fault.BadName (second-unreadable c.args.text.now c.args.to.now (rename_fault t) c.in-Some.path at (sym c.in_ok-to.ensures ∙ c.in_default-2.is))

pub returns-in-Err-clause-reply : goal.returns-in-Err-clause-reply
returns-in-Err-clause-reply c =
    let t : Tree = c.args.self.now in
    let text = c.args.text.now in
    let to = c.args.to.now in
    let p : Path = c.in-Some.path in
    let q : Path = c.in-Some-2.to in
    let at : proper_path_of text ≡ Some p = sym c.in_ok-path.ensures ∙ c.in-Some.is in
    let at_to : proper_path_of to ≡ Some q = sym c.in_ok-to.ensures ∙ c.in-Some-2.is in
    reply-refused t (call.Rename text to) c.in-Err.fault (rename-refusal t text to p q at at_to (Some c.in-Err.fault) (sym c.in-Err.ensures.fault))

pub returns-in-Err-clause-ok : goal.returns-in-Err-clause-ok
returns-in-Err-clause-ok c =
    let t : Tree = c.args.self.now in
    let text = c.args.text.now in
    let to = c.args.to.now in
    let p : Path = c.in-Some.path in
    let q : Path = c.in-Some-2.to in
    let at : proper_path_of text ≡ Some p = sym c.in_ok-path.ensures ∙ c.in-Some.is in
    let at_to : proper_path_of to ≡ Some q = sym c.in_ok-to.ensures ∙ c.in-Some-2.is in
    tree-refused t (call.Rename text to) c.in-Err.fault (rename-refusal t text to p q at at_to (Some c.in-Err.fault) (sym c.in-Err.ensures.fault))

pub returns-in-Ok-default-None-clause-reply : goal.returns-in-Ok-default-None-clause-reply
returns-in-Ok-default-None-clause-reply c =
    let t : Tree = c.args.self.now in
    let text = c.args.text.now in
    let to = c.args.to.now in
    let p : Path = c.in-Some.path in
    let q : Path = c.in-Some-2.to in
    let at : proper_path_of text ≡ Some p = sym c.in_ok-path.ensures ∙ c.in-Some.is in
    let at_to : proper_path_of to ≡ Some q = sym c.in_ok-to.ensures ∙ c.in-Some-2.is in
    let rules : IsTree t = subst IsTree c.self.view_is c.self.invariant.tree in
    let none : found_at t q ≡ None = sym (sym (ap (option_map (λ m. found_of m.0 m.1.now)) c.in-Ok-default-None.field-0-1-is) ∙ c.in-Ok-default-None.ensures.found) in
    let two : is_same_object t p q ≡ false = no-object t p q c.in-Ok-default-None.field-0-0 c.in-Ok-default-None.ensures.number (absent-name t rules q none) in
    gone-other t text to p q at at_to two None (no-last t q none) ∙ reply-done t (call.Rename text to) (rename-refusal t text to p q at at_to None (sym c.in-Ok-default-None.ensures.fault))

pub returns-in-Ok-default-Some-clause-reply : goal.returns-in-Ok-default-Some-clause-reply
returns-in-Ok-default-Some-clause-reply c =
    let t : Tree = c.args.self.now in
    let text = c.args.text.now in
    let to = c.args.to.now in
    let p : Path = c.in-Some.path in
    let q : Path = c.in-Some-2.to in
    let at : proper_path_of text ≡ Some p = sym c.in_ok-path.ensures ∙ c.in-Some.is in
    let at_to : proper_path_of to ≡ Some q = sym c.in_ok-to.ensures ∙ c.in-Some-2.is in
    let found : Some (found_of c.in-Ok-default-Some.other c.in-Ok-default-Some.field-0-1-0-1.now) ≡ found_at t q = sym (ap (option_map (λ m. found_of m.0 m.1.now)) c.in-Ok-default-Some.field-0-1-is) ∙ c.in-Ok-default-Some.ensures.found in
    let same = same-object t p q c.in-Ok-default-Some.fid c.in-Ok-default-Some.ensures.number c.in-Ok-default-Some.other (found-there t q _ found).0 c.if-fid-other.true in
    gone-same t text to p q at at_to same ∙ reply-done t (call.Rename text to) (rename-refusal t text to p q at at_to None (sym c.in-Ok-default-Some.ensures.fault))

pub returns-in-Ok-default-Some-clause-ok : goal.returns-in-Ok-default-Some-clause-ok
returns-in-Ok-default-Some-clause-ok c =
    let t : Tree = c.args.self.now in
    let text = c.args.text.now in
    let to = c.args.to.now in
    let p : Path = c.in-Some.path in
    let q : Path = c.in-Some-2.to in
    let at : proper_path_of text ≡ Some p = sym c.in_ok-path.ensures ∙ c.in-Some.is in
    let at_to : proper_path_of to ≡ Some q = sym c.in_ok-to.ensures ∙ c.in-Some-2.is in
    let found : Some (found_of c.in-Ok-default-Some.other c.in-Ok-default-Some.field-0-1-0-1.now) ≡ found_at t q = sym (ap (option_map (λ m. found_of m.0 m.1.now)) c.in-Ok-default-Some.field-0-1-is) ∙ c.in-Ok-default-Some.ensures.found in
    let same = same-object t p q c.in-Ok-default-Some.fid c.in-Ok-default-Some.ensures.number c.in-Ok-default-Some.other (found-there t q _ found).0 c.if-fid-other.true in
    rename-kept t text to p q at at_to same ∙ tree-done t (call.Rename text to) (rename-refusal t text to p q at at_to None (sym c.in-Ok-default-Some.ensures.fault))

pub returns-clause-reply : goal.returns-clause-reply
returns-clause-reply c =
    let t : Tree = c.args.self.now in
    let text = c.args.text.now in
    let to = c.args.to.now in
    let p : Path = c.in-Some.path in
    let q : Path = c.in-Some-2.to in
    let at : proper_path_of text ≡ Some p = sym c.in_ok-path.ensures ∙ c.in-Some.is in
    let at_to : proper_path_of to ≡ Some q = sym c.in_ok-to.ensures ∙ c.in-Some-2.is in
    let other = c.in-Ok-default-Some.other in
    let inode = c.in-Ok-default-Some.field-0-1-0-1.now in
    let found : Some (found_of other inode) ≡ found_at t q = sym (ap (option_map (λ m. found_of m.0 m.1.now)) c.in-Ok-default-Some.field-0-1-is) ∙ c.in-Ok-default-Some.ensures.found in
    let two : is_same_object t p q ≡ false = other-object t p q c.in-Ok-default-Some.fid c.in-Ok-default-Some.ensures.number other (found-there t q _ found).0 c.if-fid-other.false in
    let links : inode.links ≡ links_of t (found_of other inode) = subst (λ o. IfSome o (λ m. m.1.now.links ≡ links_of t (found_of m.0 m.1.now))) c.in-Ok-default-Some.field-0-1-is c.in-Ok-default-Some.ensures.links in
    gone-other t text to p q at at_to two c.last_file-gone.result (c.last_file-gone.ensures ∙ last-found t q other inode found links) ∙ reply-done t (call.Rename text to) (rename-refusal t text to p q at at_to None (sym c.in-Ok-default-Some.ensures.fault))

pub returns-clause-ok : goal.returns-clause-ok
returns-clause-ok c =
    let t : Tree = c.args.self.now in
    let text = c.args.text.now in
    let to = c.args.to.now in
    let p : Path = c.in-Some.path in
    let q : Path = c.in-Some-2.to in
    let at : proper_path_of text ≡ Some p = sym c.in_ok-path.ensures ∙ c.in-Some.is in
    let at_to : proper_path_of to ≡ Some q = sym c.in_ok-to.ensures ∙ c.in-Some-2.is in
    c.in_ok-move_names-in-Ok-default-Some-2.ensures.ok ∙ rename-changed t text to p q at at_to ∙ tree-done t (call.Rename text to) (rename-refusal t text to p q at at_to None (sym c.in-Ok-default-Some.ensures.fault))
