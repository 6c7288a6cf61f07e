use Rattle.std.proofs.Common.{◌≡◌, ◌<◌, ◌^◌, ◌&&◌, ℕ, cond, List, map, Some, None, is_some, sym, ap, subst, ◌∙◌, arith, refl}
use Rattle.std.specs.FinMap as maps
use Rattle.std.specs.FinMap.{FinMap}
use Rattle.std.specs.Ordering.{nat_cmp, is_eq}
use Rattle.std.proofs.lemmas.List.{with_items_is}
use Rattle.rz_events.specs.Keys.{key_cmp, keys_total}
use Rattle.rz_events.specs.declared.keys.Key.{Key}
use Rattle.rz_blocks.specs.Marks.{is_marked}
use Rattle.rz_export_model.specs.Tree.{file_of}
use Rattle.rz_export_model.specs.Export.{Export, Block, Blocks, Enrolled}
use Rattle.rz_blocks.specs.Shown.{added}
use Rattle.rz_tree.specs.declared.parts.Part.TheVariants as part
use Rattle.rz_tree.proofs.Lasts.{behind-none}
use Rattle.rz_export.specs.declared.nodes.KeptNode.{KeptNode}
use Rattle.rz_export.specs.Nodes.{is_named, recounted}
use Rattle.rz_export.specs.Kept.{export_of, is_place, AreRoomy, IsKept}
use Rattle.rz_export.specs.Building.{with_part, MayBeBlock}
use Rattle.rz_export.proofs.Built.{kept-added, is-drawn}
use Rattle.rz_export.proofs.Enrolled.{enrolments-same}
use Rattle.rz_export.proofs.States.{kept-room}
use Rattle.rz_export.proofs.export.Export.add_block.Goals as goal

pub returns-in_default-clause-ok : goal.returns-in_default-clause-ok
returns-in_default-clause-ok c = (let live = c.requires.live in let none = ap is_some (sym c.file.ensures ∙ c.in_default.is) in let never = sym live ∙ none in cc)

pub add-requires : goal.add-requires
add-requires c = ap (λ (x : Export). maps.get x.blocks c.args.key) c.self.view_is ∙ behind-none keys_total c.args.self.now.blocks c.args.key c.requires.rising

pub invariant_of-self : goal.invariant_of-self
invariant_of-self c =
    let s = c.self.inside in
    kept-room s.volume s.tree s.blocks s.nodes.items s.listed s.last c.self.invariant c.make_room.new.listed
    (record { marks = c.in_err-make_room.ensures.marks; kept = c.in_err-make_room.ensures.kept })

pub mark-requires-clause-room : goal.mark-requires-clause-room
mark-requires-clause-room c = c.in_ok-make_room.ensures.room

pub invariant_of-self-2 : goal.invariant_of-self-2
invariant_of-self-2 c =
    let s = c.self.inside in
    let key = c.args.key in
    let info = c.in-Some.info in
    let published = c.args.published in
    let w : Block = record { latest = c.args.latest; published = published } in
    let more = c.make_room.new.listed in
    let marks = c.mark.new.listed in
    let f = recounted info.places None published in
    let may = subst (λ (x : Export). MayBeBlock x key c.args.latest published) (sym c.self.view_is) c.requires in
    let live : file_of s.tree key.fid ≡ Some info = ap (λ (x : Export). file_of x.tree key.fid) c.self.view_is ∙ sym c.file.ensures ∙ c.in-Some.is in
    let fresh : maps.get s.blocks key ≡ None = behind-none keys_total s.blocks key may.rising in
    let begun = is-drawn (export_of s.volume s.tree s.blocks s.nodes.items s.last) c.args.latest may.begun in
    let had = kept-room s.volume s.tree s.blocks s.nodes.items s.listed s.last c.self.invariant more
    (record { marks = c.in_ok-make_room.ensures.marks; kept = c.in_ok-make_room.ensures.kept }) in
    let roomy : AreRoomy more info.places key = subst (λ (ps : List ℕ). AreRoomy more ps key) c.list-places.ensures.value c.in_ok-make_room.ensures.room in
    let nodes : c.recount.new.nodes ≡ map f s.nodes.items =
    c.recount.ensures
    ∙ ap (map (recounted c.list-places.result.now None published)) c.as_mut_slice.ensures.value
    ∙ ap (λ (ps : List ℕ). map (recounted ps None published) s.nodes.items) c.list-places.ensures.value in
    let items = with_items_is s.nodes c.recount.new.nodes (c.recount.auto.nodes ∙ c.as_mut_slice.ensures.len) in
    let count : c.len-count.result ≡ maps.len (added s.blocks key c.args.latest published) = c.len-count.ensures ∙ ap maps.len c.in_ok-add.ensures.ok in
    let short : maps.len (added s.blocks key c.args.latest published) < 2 ^ 64 = omega (arith, count) in
    let remarked : (l : ℕ) (q : Key) → is_marked marks l q ≡ cond (is_place l info.places && is_eq (key_cmp key q)) (is_named l info.places published) (is_marked more l q)
    = λ l q.
    c.mark.ensures.marks l q
    ∙ ap (λ (ps : List ℕ). cond (is_place l ps && is_eq (key_cmp key q)) (is_named l ps published) (is_marked more l q)) c.list-places.ensures.value in
    subst (λ (ns : List KeptNode). IsKept s.volume s.tree c.add.new.self ns marks s.last) (sym (items ∙ nodes))
    (subst (λ (m : Blocks). IsKept s.volume s.tree m (map f s.nodes.items) marks s.last) (sym c.in_ok-add.ensures.ok)
    (kept-added s.volume s.tree s.blocks s.nodes.items more s.last had key info w live fresh may.near begun.0 begun.1 short marks remarked c.mark.ensures.room roomy))

pub returns-clause-ok : goal.returns-clause-ok
returns-clause-ok c =
    let s = c.self.inside in
    let key = c.args.key in
    let info = c.in-Some.info in
    let published = c.args.published in
    let f = recounted info.places None published in
    let nodes : c.recount.new.nodes ≡ map f s.nodes.items =
    c.recount.ensures
    ∙ ap (map (recounted c.list-places.result.now None published)) c.as_mut_slice.ensures.value
    ∙ ap (λ (ps : List ℕ). map (recounted ps None published) s.nodes.items) c.list-places.ensures.value in
    let items = with_items_is s.nodes c.recount.new.nodes (c.recount.auto.nodes ∙ c.as_mut_slice.ensures.len) in
    ap (λ (ns : List KeptNode). export_of s.volume s.tree c.add.new.self ns s.last) (items ∙ nodes)
    ∙ ap (λ (m : Blocks). export_of s.volume s.tree m (map f s.nodes.items) s.last) c.in_ok-add.ensures.ok
    ∙ ap (λ (m : FinMap nat_cmp Enrolled). (let x : Export = record { volume = s.volume; tree = s.tree; blocks = added s.blocks key c.args.latest published; enrolled = m; last = s.last } in x))
    (enrolments-same f (λ n. refl) s.nodes.items)
    ∙ ap (λ (x : Export). with_part x (part.Block key c.args.latest published)) c.self.view_is
