use Rattle.std.proofs.Common.{◌≡◌, [], ◌∷◌, Option, Some, None, sym, ap, ◌∙◌}
use Rattle.rz_events.specs.declared.tree.TreeCall.TheVariants as call
use Rattle.rz_events.specs.declared.tree.TreeFault.{TreeFault}
use Rattle.rz_events.specs.declared.tree.TreeFault.TheVariants as fault
use Rattle.rz_export_model.specs.Firsts.{first_of}
use Rattle.rz_export_model.specs.Paths.{Path}
use Rattle.rz_export_model.specs.Tree.{Tree}
use Rattle.rz_export_model.specs.Refusals.{walk, absent, not_dir, not_empty}
use Rattle.rz_export_model.specs.TreeCalls.{without_name}
use Rattle.rz_tree.specs.Calls.{proper_path_of}
use Rattle.rz_tree.proofs.Rules.{found-there}
use Rattle.rz_tree.proofs.Replies.{proper-some, proper-below, unreadable-refusal, path-refusal, reply-refused, tree-refused, reply-done, tree-done}
use Rattle.rz_tree.proofs.tree.Tree.remove_directory.Goals as goal

-- the first fault of a path that the text spells
abbrev others : Tree → Path → Option TreeFault
others t x = first_of (walk t x ∷ absent t x ∷ not_dir t x ∷ not_empty t x ∷ [])

pub returns-in_default-clause-reply : goal.returns-in_default-clause-reply
returns-in_default-clause-reply c =
    let t = c.args.self.now in
    reply-refused t (call.Rmdir c.args.text.now) fault.BadName (unreadable-refusal c.args.text.now (others t) (sym c.in_ok-path.ensures ∙ c.in_default.is))

pub returns-in_default-clause-ok : goal.returns-in_default-clause-ok
returns-in_default-clause-ok c =
    let t = c.args.self.now in
    tree-refused t (call.Rmdir c.args.text.now) fault.BadName (unreadable-refusal c.args.text.now (others t) (sym c.in_ok-path.ensures ∙ c.in_default.is))

pub returns-in-Err-clause-reply : goal.returns-in-Err-clause-reply
returns-in-Err-clause-reply c =
    let t = c.args.self.now in
    let f = c.in-Err.fault in
    reply-refused t (call.Rmdir c.args.text.now) f (path-refusal c.args.text.now (others t) c.in-Some.path (Some f) (sym c.in_ok-path.ensures ∙ c.in-Some.is) (sym c.in-Err.ensures.fault))

pub returns-in-Err-clause-ok : goal.returns-in-Err-clause-ok
returns-in-Err-clause-ok c =
    let t = c.args.self.now in
    let f = c.in-Err.fault in
    tree-refused t (call.Rmdir c.args.text.now) f (path-refusal c.args.text.now (others t) c.in-Some.path (Some f) (sym c.in_ok-path.ensures ∙ c.in-Some.is) (sym c.in-Err.ensures.fault))

pub take_name-requires-clause-there : goal.take_name-requires-clause-there
take_name-requires-clause-there c = (found-there c.args.self.now c.in-Some.path _ c.in-Ok.ensures.found).0

pub take_name-requires-clause-below : goal.take_name-requires-clause-below
take_name-requires-clause-below c = proper-below c.args.text.now c.in-Some.path (sym c.in_ok-path.ensures ∙ c.in-Some.is)

pub returns-clause-reply : goal.returns-clause-reply
returns-clause-reply c =
    let t = c.args.self.now in
    let at : proper_path_of c.args.text.now ≡ Some c.in-Some.path = sym c.in_ok-path.ensures ∙ c.in-Some.is in
    reply-done t (call.Rmdir c.args.text.now) (path-refusal c.args.text.now (others t) c.in-Some.path None at (sym c.in-Ok.ensures.fault))

pub returns-clause-ok : goal.returns-clause-ok
returns-clause-ok c =
    let t = c.args.self.now in
    let at : proper_path_of c.args.text.now ≡ Some c.in-Some.path = sym c.in_ok-path.ensures ∙ c.in-Some.is in
    c.take_name.ensures ∙ ap (without_name t) (sym (proper-some c.args.text.now c.in-Some.path at).1)
    ∙ tree-done t (call.Rmdir c.args.text.now) (path-refusal c.args.text.now (others t) c.in-Some.path None at (sym c.in-Ok.ensures.fault))
