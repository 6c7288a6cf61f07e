use Rattle.std.proofs.Common.{◌≡◌, [], ◌∷◌, Option, Some, None, sym, ap, ◌∙◌}
use Rattle.rz_events.specs.declared.tree.TreeCall.TheVariants as call
use Rattle.rz_events.specs.declared.tree.TreeFault.{TreeFault}
use Rattle.rz_events.specs.declared.tree.TreeFault.TheVariants as fault
use Rattle.std.specs.Prelude.{unwrap_or}
use Rattle.std.specs.Option.{option_map_or}
use Rattle.rz_export_model.specs.Firsts.{first_of}
use Rattle.rz_export_model.specs.Paths.{Path}
use Rattle.rz_export_model.specs.Tree.{Tree, Object, fid_at, with_object}
use Rattle.rz_export_model.specs.Refusals.{walk, absent}
use Rattle.rz_tree.proofs.Rules.{found-there}
use Rattle.rz_tree.proofs.Replies.{spells-none, spells-some, reply-refused, tree-refused, reply-done, tree-done}
use Rattle.rz_tree.proofs.tree.Tree.set_attributes.Goals as goal

-- the first fault where the text spells a path
abbrev others : Tree → Path → Option TreeFault
others t x = first_of (walk t x ∷ absent t x ∷ [])

pub returns-in_default-clause-reply : goal.returns-in_default-clause-reply
returns-in_default-clause-reply c =
    reply-refused c.args.self.now (call.Setattr c.args.text.now c.args.mode c.args.mtime) fault.BadName (spells-none c.args.text.now (others c.args.self.now) (sym c.in_ok-path.ensures ∙ c.in_default.is))

pub returns-in_default-clause-ok : goal.returns-in_default-clause-ok
returns-in_default-clause-ok c =
    tree-refused c.args.self.now (call.Setattr c.args.text.now c.args.mode c.args.mtime) fault.BadName (spells-none c.args.text.now (others c.args.self.now) (sym c.in_ok-path.ensures ∙ c.in_default.is))

pub returns-in-Err-clause-reply : goal.returns-in-Err-clause-reply
returns-in-Err-clause-reply c =
    let f = c.in-Err.fault in
    reply-refused c.args.self.now (call.Setattr c.args.text.now c.args.mode c.args.mtime) f (spells-some c.args.text.now (others c.args.self.now) c.in-Some.path (Some f) (sym c.in_ok-path.ensures ∙ c.in-Some.is) (sym c.in-Err.ensures.fault))

pub returns-in-Err-clause-ok : goal.returns-in-Err-clause-ok
returns-in-Err-clause-ok c =
    let f = c.in-Err.fault in
    tree-refused c.args.self.now (call.Setattr c.args.text.now c.args.mode c.args.mtime) f (spells-some c.args.text.now (others c.args.self.now) c.in-Some.path (Some f) (sym c.in_ok-path.ensures ∙ c.in-Some.is) (sym c.in-Err.ensures.fault))

pub returns-clause-reply : goal.returns-clause-reply
returns-clause-reply c =
    reply-done c.args.self.now (call.Setattr c.args.text.now c.args.mode c.args.mtime) (spells-some c.args.text.now (others c.args.self.now) c.in-Some.path None (sym c.in_ok-path.ensures ∙ c.in-Some.is) (sym c.in-Ok.ensures.fault))

pub returns-clause-ok : goal.returns-clause-ok
returns-clause-ok c =
    let t : Tree = c.args.self.now in
    let path : Path = c.in-Some.path in
    let change : Object → Object = λ o. record o { mode = c.args.mode; mtime = c.args.mtime } in
    let number : fid_at t path ≡ Some c.in-Ok.fid = (found-there t path _ c.in-Ok.ensures.found).0 in
    c.change_attributes.ensures
    ∙ sym (ap (λ n. option_map_or (λ x. with_object t x change) n t) number)
    ∙ ap (λ o. option_map_or (λ x. with_object t x change) (fid_at t (unwrap_or o [])) t) (sym (sym c.in_ok-path.ensures ∙ c.in-Some.is))
    ∙ tree-done t (call.Setattr c.args.text.now c.args.mode c.args.mtime) (spells-some c.args.text.now (others t) path None (sym c.in_ok-path.ensures ∙ c.in-Some.is) (sym c.in-Ok.ensures.fault))
