use Rattle.std.proofs.Common.{ℕ, List, ◌∷◌, Option, Some, None, sym, ap, ◌∙◌}
use Rattle.rz_events.specs.declared.tree.TreeCall.TheVariants as call
use Rattle.rz_events.specs.declared.tree.TreeFault.{TreeFault}
use Rattle.rz_events.specs.declared.tree.TreeFault.TheVariants as fault
use Rattle.rz_events.specs.declared.tree.TreeReply.TheVariants as reply
use Rattle.rz_export_model.specs.Firsts.{first_of}
use Rattle.rz_export_model.specs.Paths.{Path}
use Rattle.rz_export_model.specs.Tree.{Tree}
use Rattle.rz_export_model.specs.Refusals.{bad_target, can_not_make}
use Rattle.rz_tree.proofs.Replies.{spells-none, spells-some, reply-refused, tree-refused, reply-done}
use Rattle.rz_tree.proofs.tree.Tree.symlink.Goals as goal

-- the first fault where the text spells a path
abbrev others : Tree → List ℕ → Path → Option TreeFault
others t target x = first_of (bad_target target ∷ can_not_make t x)

pub returns-in_default-clause-reply : goal.returns-in_default-clause-reply
returns-in_default-clause-reply c =
    reply-refused c.args.self.now (call.Symlink c.args.target.now c.args.text.now) fault.BadName (spells-none c.args.text.now (others c.args.self.now c.args.target.now) (sym c.in_ok-path.ensures ∙ c.in_default.is))

pub returns-in_default-clause-ok : goal.returns-in_default-clause-ok
returns-in_default-clause-ok c =
    tree-refused c.args.self.now (call.Symlink c.args.target.now c.args.text.now) fault.BadName (spells-none c.args.text.now (others c.args.self.now c.args.target.now) (sym c.in_ok-path.ensures ∙ c.in_default.is))

pub returns-in-Some-no_symlink-clause-reply : goal.returns-in-Some-no_symlink-clause-reply
returns-in-Some-no_symlink-clause-reply c =
    let f = c.in-Some-no_symlink.fault in
    reply-refused c.args.self.now (call.Symlink c.args.target.now c.args.text.now) f (spells-some c.args.text.now (others c.args.self.now c.args.target.now) c.in-Some.path (Some f) (sym c.in_ok-path.ensures ∙ c.in-Some.is) (sym c.no_symlink.ensures ∙ c.in-Some-no_symlink.is))

pub returns-in-Some-no_symlink-clause-ok : goal.returns-in-Some-no_symlink-clause-ok
returns-in-Some-no_symlink-clause-ok c =
    let f = c.in-Some-no_symlink.fault in
    tree-refused c.args.self.now (call.Symlink c.args.target.now c.args.text.now) f (spells-some c.args.text.now (others c.args.self.now c.args.target.now) c.in-Some.path (Some f) (sym c.in_ok-path.ensures ∙ c.in-Some.is) (sym c.no_symlink.ensures ∙ c.in-Some-no_symlink.is))

pub returns-clause-reply : goal.returns-clause-reply
returns-clause-reply c =
    ap reply.Made c.in_ok-fid.ensures.number ∙ reply-done c.args.self.now (call.Symlink c.args.target.now c.args.text.now) (spells-some c.args.text.now (others c.args.self.now c.args.target.now) c.in-Some.path None (sym c.in_ok-path.ensures ∙ c.in-Some.is) (sym c.no_symlink.ensures ∙ c.in_default-no_symlink.is))
