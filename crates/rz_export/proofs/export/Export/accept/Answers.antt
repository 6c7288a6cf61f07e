use Rattle.std.proofs.Common.{◌≡◌, ℕ, ◌+◌, ◌*◌, ◌^◌, ◌<◌, ◌&&◌, cond, List, map, Option, Some, is_some, ap, sym, subst, ◌∙◌, arith, refl}
use Rattle.std.specs.FinMap as maps
use Rattle.std.specs.FinMap.{FinMap}
use Rattle.std.specs.Option.{option_map}
use Rattle.std.specs.Ordering.{nat_cmp, is_eq}
use Rattle.std.proofs.lemmas.List.{with_items_is}
use Rattle.mj_angles.specs.Layout.{block_bytes_of}
use Rattle.rz_events.specs.Keys.{key_cmp}
use Rattle.rz_events.specs.declared.files.FileInfo.{FileInfo}
use Rattle.rz_events.specs.declared.files.Published.{Published}
use Rattle.rz_blocks.specs.Marks.{is_marked}
use Rattle.rz_export_model.specs.Tree.{Tree, file_of, grown}
use Rattle.rz_export_model.specs.Export.{Export, Blocks, Enrolled, published_of, with_published, after_publish}
use Rattle.rz_export.specs.declared.nodes.KeptNode.{KeptNode}
use Rattle.rz_export.specs.Nodes.{is_named, recounted}
use Rattle.rz_export.specs.Kept.{export_of, is_place, AreRoomy, IsKept}
use Rattle.rz_export.proofs.Enrolled.{enrolments-same}
use Rattle.rz_export.proofs.Marked.{seen-mark}
use Rattle.rz_export.proofs.Used.{counts_at, file-view}
use Rattle.rz_export.proofs.States.{IsRemarked, kept-publish, held-block}
use Rattle.rz_export.proofs.export.Export.accept.Goals as goal

pub remark-requires-clause-room : goal.remark-requires-clause-room
remark-requires-clause-room c =
    let s = c.self.inside in
    let key = c.args.key in
    let info = c.args.info.now in
    let live : file_of s.tree key.fid ≡ Some info = ap (λ (x : Export). file_of x.tree key.fid) c.self.view_is ∙ c.requires.live in
    let b = held-block (maps.get s.blocks key) (ap (λ (x : Export). is_some (maps.get x.blocks key)) c.self.view_is ∙ c.requires.begun) in
    subst (λ (ps : List ℕ). AreRoomy s.listed ps key) (sym c.list-places.ensures.value)
    (c.self.invariant.room key b.0 info.places b.1 (ap (option_map (λ (i : FileInfo). i.places)) live))

pub remark-requires-clause-marked : goal.remark-requires-clause-marked
remark-requires-clause-marked c =
    let s = c.self.inside in
    let key = c.args.key in
    let info = c.args.info.now in
    let old = published_of s.blocks key in
    let live : file_of s.tree key.fid ≡ Some info = ap (λ (x : Export). file_of x.tree key.fid) c.self.view_is ∙ c.requires.live in
    λ node.
    seen-mark s.tree s.blocks s.listed c.self.invariant.marked node key
    ∙ ap (λ (v : Option (List ℕ)). counts_at node v old) (sym (file-view s.tree key.fid) ∙ ap (option_map (λ (i : FileInfo). i.places)) live)
    ∙ ap (λ (ps : List ℕ). is_named node ps old) (sym c.list-places.ensures.value)
    ∙ ap (is_named node c.list-places.result.now) (sym c.look-before.ensures)

pub invariant_of-self : goal.invariant_of-self
invariant_of-self c =
    let s = c.self.inside in
    let key = c.args.key in
    let p = c.args.published in
    let info = c.args.info.now in
    let size = c.end_of-size.result in
    let old = published_of s.blocks key in
    let new = published_of (with_published s.blocks key p) key in
    let f = recounted info.places old new in
    let nodes : c.recount.new.nodes ≡ map f s.nodes.items =
    c.recount.ensures
    ∙ ap (map (recounted c.list-places.result.now c.look-before.result c.look-after.result)) c.as_mut_slice.ensures.value
    ∙ ap (λ (ps : List ℕ). map (recounted ps c.look-before.result c.look-after.result) s.nodes.items) c.list-places.ensures.value
    ∙ ap (λ (o : Option Published). map (recounted info.places o c.look-after.result) s.nodes.items) c.look-before.ensures
    ∙ ap (λ (o : Option Published). map (recounted info.places old o) s.nodes.items) (c.look-after.ensures ∙ ap (λ (m : Blocks). published_of m key) c.publish.ensures) in
    let items = with_items_is s.nodes c.recount.new.nodes (c.recount.auto.nodes ∙ c.as_mut_slice.ensures.len) in
    let live : file_of s.tree key.fid ≡ Some info = ap (λ (x : Export). file_of x.tree key.fid) c.self.view_is ∙ c.requires.live in
    let b = held-block (maps.get s.blocks key) (ap (λ (x : Export). is_some (maps.get x.blocks key)) c.self.view_is ∙ c.requires.begun) in
    let count : c.len-count.result ≡ maps.len s.blocks = c.len-count.ensures in
    let short : maps.len s.blocks < 2 ^ 64 = omega (arith, count) in
    let marks = c.remark.new.listed in
    let remarked : IsRemarked s.listed marks key info.places new = record {
      marks = λ l q.
          c.remark.ensures.marks l q
          ∙ ap (λ (ps : List ℕ). cond (is_place l ps && is_eq (key_cmp key q)) (is_named l ps c.look-after.result) (is_marked s.listed l q)) c.list-places.ensures.value
          ∙ ap (λ (o : Option Published). cond (is_place l info.places && is_eq (key_cmp key q)) (is_named l info.places o) (is_marked s.listed l q)) (c.look-after.ensures ∙ ap (λ (m : Blocks). published_of m key) c.publish.ensures);
      room = c.remark.ensures.room;
    } in
    subst (λ (ns : List KeptNode). IsKept s.volume c.grow.new.self c.publish.new.self ns marks s.last) (sym (items ∙ nodes))
    (subst (λ (t : Tree). IsKept s.volume t c.publish.new.self (map f s.nodes.items) marks s.last) (sym c.grow.ensures)
    (subst (λ (m : Blocks). IsKept s.volume (grown s.tree key.fid size) m (map f s.nodes.items) marks s.last) (sym c.publish.ensures)
    (kept-publish s.volume s.tree s.blocks s.nodes.items s.listed s.last c.self.invariant key info p size live b.0 b.1 short marks remarked)))

pub returns : goal.returns
returns c =
    let s = c.self.inside in
    let key = c.args.key in
    let p = c.args.published in
    let info = c.args.info.now in
    let old = published_of s.blocks key in
    let new = published_of (with_published s.blocks key p) key in
    let f = recounted info.places old new in
    let nodes : c.recount.new.nodes ≡ map f s.nodes.items =
    c.recount.ensures
    ∙ ap (map (recounted c.list-places.result.now c.look-before.result c.look-after.result)) c.as_mut_slice.ensures.value
    ∙ ap (λ (ps : List ℕ). map (recounted ps c.look-before.result c.look-after.result) s.nodes.items) c.list-places.ensures.value
    ∙ ap (λ (o : Option Published). map (recounted info.places o c.look-after.result) s.nodes.items) c.look-before.ensures
    ∙ ap (λ (o : Option Published). map (recounted info.places old o) s.nodes.items) (c.look-after.ensures ∙ ap (λ (m : Blocks). published_of m key) c.publish.ensures) in
    let items = with_items_is s.nodes c.recount.new.nodes (c.recount.auto.nodes ∙ c.as_mut_slice.ensures.len) in
    let size = c.end_of-size.ensures ∙ ap (λ (x : Export). key.block * block_bytes_of x.volume.layout + p.length) (sym c.self.view_is) in
    ap (λ (ns : List KeptNode). export_of s.volume c.grow.new.self c.publish.new.self ns s.last) (items ∙ nodes)
    ∙ ap (λ (t : Tree). export_of s.volume t c.publish.new.self (map f s.nodes.items) s.last) (c.grow.ensures ∙ ap (grown s.tree key.fid) size)
    ∙ ap (λ (m : Blocks). export_of s.volume (grown s.tree key.fid (key.block * block_bytes_of s.volume.layout + p.length)) m (map f s.nodes.items) s.last) c.publish.ensures
    ∙ ap (λ (m : FinMap nat_cmp Enrolled). (let x : Export = record { volume = s.volume; tree = grown s.tree key.fid (key.block * block_bytes_of s.volume.layout + p.length); blocks = with_published s.blocks key p; enrolled = m; last = s.last } in x))
    (enrolments-same f (λ n. refl) s.nodes.items)
    ∙ ap (λ (x : Export). after_publish x key p) c.self.view_is
