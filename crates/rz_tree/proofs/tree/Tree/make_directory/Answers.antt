use Rattle.std.proofs.Common.{Option, Some, None, sym, ap, ◌∙◌}
use Rattle.rz_events.specs.declared.tree.TreeCall.TheVariants as call
use Rattle.rz_events.specs.declared.tree.TreeFault.{TreeFault}
use Rattle.rz_events.specs.declared.tree.TreeFault.TheVariants as fault
use Rattle.rz_events.specs.declared.tree.TreeReply.TheVariants as reply
use Rattle.rz_export_model.specs.Firsts.{first_of}
use Rattle.rz_export_model.specs.Paths.{Path}
use Rattle.rz_export_model.specs.Tree.{Tree}
use Rattle.rz_export_model.specs.Refusals.{can_not_make}
use Rattle.rz_tree.proofs.Replies.{spells-none, spells-some, reply-refused, tree-refused, reply-done}
use Rattle.rz_tree.proofs.tree.Tree.make_directory.Goals as goal

-- the first fault where the text spells a path
abbrev others : Tree → Path → Option TreeFault
others t x = first_of (can_not_make t x)

pub returns-in_default-clause-reply : goal.returns-in_default-clause-reply
returns-in_default-clause-reply c =
    reply-refused c.args.self.now (call.Mkdir c.args.text.now) fault.BadName (spells-none c.args.text.now (others c.args.self.now) (sym c.in_ok-path.ensures ∙ c.in_default.is))

pub returns-in_default-clause-ok : goal.returns-in_default-clause-ok
returns-in_default-clause-ok c =
    tree-refused c.args.self.now (call.Mkdir c.args.text.now) fault.BadName (spells-none c.args.text.now (others c.args.self.now) (sym c.in_ok-path.ensures ∙ c.in_default.is))

pub returns-in-Some-no_place-clause-reply : goal.returns-in-Some-no_place-clause-reply
returns-in-Some-no_place-clause-reply c =
    let f = c.in-Some-no_place.fault in
    reply-refused c.args.self.now (call.Mkdir c.args.text.now) f (spells-some c.args.text.now (others c.args.self.now) c.in-Some.path (Some f) (sym c.in_ok-path.ensures ∙ c.in-Some.is) (sym c.no_place.ensures ∙ c.in-Some-no_place.is))

pub returns-in-Some-no_place-clause-ok : goal.returns-in-Some-no_place-clause-ok
returns-in-Some-no_place-clause-ok c =
    let f = c.in-Some-no_place.fault in
    tree-refused c.args.self.now (call.Mkdir c.args.text.now) f (spells-some c.args.text.now (others c.args.self.now) c.in-Some.path (Some f) (sym c.in_ok-path.ensures ∙ c.in-Some.is) (sym c.no_place.ensures ∙ c.in-Some-no_place.is))

pub returns-clause-reply : goal.returns-clause-reply
returns-clause-reply c =
    ap reply.Made c.in_ok-fid.ensures.number ∙ reply-done c.args.self.now (call.Mkdir c.args.text.now) (spells-some c.args.text.now (others c.args.self.now) c.in-Some.path None (sym c.in_ok-path.ensures ∙ c.in-Some.is) (sym c.no_place.ensures ∙ c.in_default-no_place.is))
