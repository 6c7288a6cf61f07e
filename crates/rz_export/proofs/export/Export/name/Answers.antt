use Rattle.std.proofs.Common.{◌≡◌, ℕ, List, map, ap, sym, subst, ◌∙◌}
use Rattle.std.specs.FinMap.{FinMap}
use Rattle.std.specs.Ordering.{nat_cmp}
use Rattle.std.proofs.lemmas.List.{with_items_is}
use Rattle.rz_events.specs.declared.tree.TreeReply.{TreeReply}
use Rattle.rz_export_model.specs.Tree.{Tree}
use Rattle.rz_export_model.specs.TreeCalls.{reply_to, tree_after}
use Rattle.rz_export_model.specs.Export.{Export, Blocks, Enrolled, new_places, blocks_after}
use Rattle.rz_export.specs.declared.nodes.KeptNode.{KeptNode}
use Rattle.rz_export.specs.Nodes.{enrolments_of}
use Rattle.rz_export.specs.Kept.{export_of, AreCounted, IsKept}
use Rattle.rz_export.specs.Calls.{placed_for}
use Rattle.rz_export_model.proofs.Files.{IsStep, step}
use Rattle.rz_export.proofs.TreeStates.{reply-placed, tree-placed, lay-there, kept-name}
use Rattle.rz_export.proofs.export.Export.name.Goals as goal

pub invariant_of-self : goal.invariant_of-self
invariant_of-self c =
    let s = c.self.inside in
    subst (λ (t : Tree). IsKept s.volume t s.blocks s.nodes.items s.listed s.last) (sym c.in_err-reply.ensures.err) c.self.invariant

pub invariant_of-self-2 : goal.invariant_of-self-2
invariant_of-self-2 c =
    let s = c.self.inside in
    let call = c.args.call.now in
    let u = c.answer.new.self in
    let r = c.in_ok-reply.reply in
    let after = tree_after s.tree c.in_ok-cid.cid c.in_ok-cid.places call in
    let stepped : IsStep s.tree u r =
    subst (λ (z : Tree). IsStep s.tree z r) (sym c.in_ok-reply.ensures.ok)
    (subst (λ (z : TreeReply). IsStep s.tree after z) (sym c.in_ok-reply.ensures.reply) (step s.tree c.in_ok-cid.cid c.in_ok-cid.places call c.self.invariant.made)) in
    let there = lay-there s.tree u r stepped in
    let counted = c.settle.ensures.counted s.tree there
    (subst (λ (ns : List KeptNode). AreCounted s.tree s.blocks ns) (sym c.as_mut_slice.ensures.value) c.self.invariant.counted) in
    let specs = c.settle.ensures.specs ∙ ap (map (λ (n : KeptNode). n.spec)) c.as_mut_slice.ensures.value in
    let items = with_items_is s.nodes c.settle.new.nodes (c.settle.auto.nodes ∙ c.as_mut_slice.ensures.len) in
    subst (λ (ns : List KeptNode). IsKept s.volume u c.settle.new.blocks ns c.settle.new.listed s.last) (sym items)
    (kept-name s.volume s.tree u s.blocks c.settle.new.blocks r s.nodes.items c.settle.new.nodes s.listed c.settle.new.listed s.last c.self.invariant stepped c.settle.ensures.blocks specs counted
    (c.settle.ensures.marked s.tree there c.self.invariant.marked) (c.settle.ensures.room s.tree c.self.invariant.room))

pub returns-clause-reply : goal.returns-clause-reply
returns-clause-reply c =
    let s = c.self.inside in
    let now = c.args.self.now in
    let call = c.args.call.now in
    c.in_ok-reply.ensures.reply
    ∙ ap (λ n. reply_to s.tree n c.in_ok-cid.places call) c.in_ok-cid.ensures.cid
    ∙ ap (λ (ps : List ℕ). reply_to s.tree (placed_for now call).cid ps call) c.in_ok-cid.ensures.places
    ∙ reply-placed s.tree now call
    ∙ ap (λ (x : Export). reply_to x.tree (new_places now).cid (new_places now).places call) c.self.view_is

pub returns-clause-ok : goal.returns-clause-ok
returns-clause-ok c =
    let s = c.self.inside in
    let now = c.args.self.now in
    let call = c.args.call.now in
    let u = c.answer.new.self in
    let m = c.settle.new.blocks in
    let items = with_items_is s.nodes c.settle.new.nodes (c.settle.auto.nodes ∙ c.as_mut_slice.ensures.len) in
    let places = new_places now in
    let told : c.in_ok-reply.reply ≡ reply_to s.tree places.cid places.places call =
    c.in_ok-reply.ensures.reply
    ∙ ap (λ n. reply_to s.tree n c.in_ok-cid.places call) c.in_ok-cid.ensures.cid
    ∙ ap (λ (ps : List ℕ). reply_to s.tree (placed_for now call).cid ps call) c.in_ok-cid.ensures.places
    ∙ reply-placed s.tree now call in
    let tree : u ≡ tree_after s.tree places.cid places.places call =
    c.in_ok-reply.ensures.ok
    ∙ ap (λ n. tree_after s.tree n c.in_ok-cid.places call) c.in_ok-cid.ensures.cid
    ∙ ap (λ (ps : List ℕ). tree_after s.tree (placed_for now call).cid ps call) c.in_ok-cid.ensures.places
    ∙ tree-placed s.tree now call in
    ap (λ (ns : List KeptNode). export_of s.volume u m ns s.last) items
    ∙ ap (λ (e : FinMap nat_cmp Enrolled). (let x : Export = record { volume = s.volume; tree = u; blocks = m; enrolled = e; last = s.last } in x))
    (c.settle.ensures.enrolled ∙ ap enrolments_of c.as_mut_slice.ensures.value)
    ∙ ap (λ (t : Tree). export_of s.volume t m s.nodes.items s.last) tree
    ∙ ap (λ (b : Blocks). export_of s.volume (tree_after s.tree places.cid places.places call) b s.nodes.items s.last)
    (c.settle.ensures.blocks ∙ ap (blocks_after s.blocks) told)
    ∙ ap (λ (x : Export). (let y : Export = record x { tree = tree_after x.tree places.cid places.places call; blocks = blocks_after x.blocks (reply_to x.tree places.cid places.places call) } in y)) c.self.view_is
