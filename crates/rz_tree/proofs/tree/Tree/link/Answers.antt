use Rattle.std.proofs.Common.{◌≡◌, Some, None, sym, ◌∙◌}
use Rattle.rz_events.specs.declared.tree.TreeCall.{TreeCall}
use Rattle.rz_events.specs.declared.tree.TreeCall.TheVariants as call
use Rattle.rz_events.specs.declared.tree.TreeFault.TheVariants as fault
use Rattle.rz_tree.specs.Calls.{proper_path_of}
use Rattle.rz_tree.proofs.Calls.{leaf-object, leaf-count, leaf-few, link-leaf, link-walk, link-absent, link-few}
use Rattle.rz_tree.proofs.Replies.{reply-refused, tree-refused, reply-done, tree-done, proper-below, link_fault, first-unreadable, second-unreadable, link-refusal, link-changed}
use Rattle.rz_tree.proofs.Rules.{found-there}
use Rattle.rz_tree.proofs.tree.Tree.link.Goals as goal

pub returns-in_default-clause-reply : goal.returns-in_default-clause-reply
returns-in_default-clause-reply c =
    let t = c.args.self.now in
    reply-refused t (call.Link c.args.text.now c.args.to.now) fault.BadName (first-unreadable c.args.text.now c.args.to.now (link_fault t) (sym c.in_ok-path.ensures ∙ c.in_default.is))

pub returns-in_default-clause-ok : goal.returns-in_default-clause-ok
returns-in_default-clause-ok c =
    let t = c.args.self.now in
    tree-refused t (call.Link c.args.text.now c.args.to.now) fault.BadName (first-unreadable c.args.text.now c.args.to.now (link_fault t) (sym c.in_ok-path.ensures ∙ c.in_default.is))

pub returns-in_default-2-clause-reply : goal.returns-in_default-2-clause-reply
returns-in_default-2-clause-reply c =
    let t = c.args.self.now in
    let at : proper_path_of c.args.text.now ≡ Some c.in-Some.path = sym c.in_ok-path.ensures ∙ c.in-Some.is in
    reply-refused t (call.Link c.args.text.now c.args.to.now) fault.BadName (second-unreadable c.args.text.now c.args.to.now (link_fault t) c.in-Some.path at (sym c.in_ok-to.ensures ∙ c.in_default-2.is))

pub returns-in_default-2-clause-ok : goal.returns-in_default-2-clause-ok
returns-in_default-2-clause-ok c =
    let t = c.args.self.now in
    let at : proper_path_of c.args.text.now ≡ Some c.in-Some.path = sym c.in_ok-path.ensures ∙ c.in-Some.is in
    tree-refused t (call.Link c.args.text.now c.args.to.now) fault.BadName (second-unreadable c.args.text.now c.args.to.now (link_fault t) c.in-Some.path at (sym c.in_ok-to.ensures ∙ c.in_default-2.is))

pub returns-in-Err-clause-reply : goal.returns-in-Err-clause-reply
returns-in-Err-clause-reply c =
    let asked : TreeCall = call.Link c.args.text.now c.args.to.now in
    let at : proper_path_of c.args.text.now ≡ Some c.in-Some.path = sym c.in_ok-path.ensures ∙ c.in-Some.is in
    let at_to : proper_path_of c.args.to.now ≡ Some c.in-Some-2.to = sym c.in_ok-to.ensures ∙ c.in-Some-2.is in
    reply-refused c.args.self.now asked c.in-Err.fault (link-refusal c.args.self.now c.args.text.now c.args.to.now c.in-Some.path c.in-Some-2.to at at_to (Some c.in-Err.fault) (sym c.in-Err.ensures.fault))

pub returns-in-Err-clause-ok : goal.returns-in-Err-clause-ok
returns-in-Err-clause-ok c =
    let asked : TreeCall = call.Link c.args.text.now c.args.to.now in
    let at : proper_path_of c.args.text.now ≡ Some c.in-Some.path = sym c.in_ok-path.ensures ∙ c.in-Some.is in
    let at_to : proper_path_of c.args.to.now ≡ Some c.in-Some-2.to = sym c.in_ok-to.ensures ∙ c.in-Some-2.is in
    tree-refused c.args.self.now asked c.in-Err.fault (link-refusal c.args.self.now c.args.text.now c.args.to.now c.in-Some.path c.in-Some-2.to at at_to (Some c.in-Err.fault) (sym c.in-Err.ensures.fault))

pub returns-clause-reply : goal.returns-clause-reply
returns-clause-reply c =
    let asked : TreeCall = call.Link c.args.text.now c.args.to.now in
    let at : proper_path_of c.args.text.now ≡ Some c.in-Some.path = sym c.in_ok-path.ensures ∙ c.in-Some.is in
    let at_to : proper_path_of c.args.to.now ≡ Some c.in-Some-2.to = sym c.in_ok-to.ensures ∙ c.in-Some-2.is in
    reply-done c.args.self.now asked (link-refusal c.args.self.now c.args.text.now c.args.to.now c.in-Some.path c.in-Some-2.to at at_to None (sym c.in-Ok.ensures.fault))

pub returns-clause-ok : goal.returns-clause-ok
returns-clause-ok c =
    let asked : TreeCall = call.Link c.args.text.now c.args.to.now in
    let at : proper_path_of c.args.text.now ≡ Some c.in-Some.path = sym c.in_ok-path.ensures ∙ c.in-Some.is in
    let at_to : proper_path_of c.args.to.now ≡ Some c.in-Some-2.to = sym c.in_ok-to.ensures ∙ c.in-Some-2.is in
    c.in_ok-add_name-in-Ok.ensures.ok ∙ link-changed c.args.self.now c.args.text.now c.args.to.now c.in-Some.path c.in-Some-2.to at at_to c.in-Ok.fid (found-there c.args.self.now c.in-Some.path _ c.in-Ok.ensures.found).0 ∙ tree-done c.args.self.now asked (link-refusal c.args.self.now c.args.text.now c.args.to.now c.in-Some.path c.in-Some-2.to at at_to None (sym c.in-Ok.ensures.fault))

pub add_name-requires-clause-leaf : goal.add_name-requires-clause-leaf
add_name-requires-clause-leaf c = leaf-object c.args.self.now c.in-Some.path c.in-Ok.fid c.in-Ok.inode.now c.in-Ok.ensures.found (link-leaf c.args.self.now c.in-Some.path c.in-Some-2.to (sym c.in-Ok.ensures.fault))

pub add_name-requires-clause-count : goal.add_name-requires-clause-count
add_name-requires-clause-count c = leaf-count c.args.self.now c.in-Some.path c.in-Ok.fid c.in-Ok.inode.now c.in-Ok.ensures.found (link-leaf c.args.self.now c.in-Some.path c.in-Some-2.to (sym c.in-Ok.ensures.fault)) c.in-Ok.ensures.links

pub add_name-requires-clause-few : goal.add_name-requires-clause-few
add_name-requires-clause-few c = leaf-few c.args.self.now c.in-Some.path c.in-Ok.fid c.in-Ok.inode.now c.in-Ok.ensures.found (link-leaf c.args.self.now c.in-Some.path c.in-Some-2.to (sym c.in-Ok.ensures.fault)) c.in-Ok.ensures.links (link-few c.args.self.now c.in-Some.path c.in-Some-2.to (sym c.in-Ok.ensures.fault))

pub add_name-requires-clause-walked : goal.add_name-requires-clause-walked
add_name-requires-clause-walked c = link-walk c.args.self.now c.in-Some.path c.in-Some-2.to (sym c.in-Ok.ensures.fault)

pub add_name-requires-clause-absent : goal.add_name-requires-clause-absent
add_name-requires-clause-absent c = link-absent c.args.self.now c.in-Some.path c.in-Some-2.to (sym c.in-Ok.ensures.fault)

pub add_name-requires-clause-below : goal.add_name-requires-clause-below
add_name-requires-clause-below c = proper-below c.args.to.now c.in-Some-2.to (sym c.in_ok-to.ensures ∙ c.in-Some-2.is)
