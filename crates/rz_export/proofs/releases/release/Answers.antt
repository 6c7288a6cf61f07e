use Rattle.std.proofs.Common.{◌≡◌, ◌<◌, None, List, map, sym, ap, ◌∙◌, subst, refl}
use Rattle.std.specs.FinMap as maps
use Rattle.rz_export_model.specs.Export.{Blocks, without_file, published_of}
use Rattle.rz_export.specs.declared.nodes.KeptNode.{KeptNode}
use Rattle.rz_export.specs.Nodes.{enrolments_of, recounted}
use Rattle.rz_export.specs.Kept.{AreCounted}
use Rattle.rz_export.proofs.Enrolled.{map-same, enrolments-same}
use Rattle.rz_export.proofs.Forgets.{forget-step, forget-end, forget-smaller}
use Rattle.rz_export.proofs.Released.{counted-out}
use Rattle.rz_export.proofs.releases.release.Goals as goal

pub loop-key-smaller : goal.loop-key-smaller
loop-key-smaller c =
    subst (λ m. maps.len m < maps.len c.loop-key.blocks) (sym c.take_out.ensures)
    (forget-smaller c.loop-key.blocks c.args.info.now.fid c.in-Some.key (sym c.first_of.ensures ∙ c.in-Some.is))

pub loop-key-preserved : goal.loop-key-preserved
loop-key-preserved c =
    let m = c.loop-key.blocks in
    let ns = c.loop-key.nodes in
    let info = c.args.info.now in
    let key = c.in-Some.key in
    let first = sym c.first_of.ensures ∙ c.in-Some.is in
    let f = recounted info.places (published_of m key) None in
    let nodes : c.recount.new.nodes ≡ map f ns
    = c.recount.ensures ∙ ap (λ ps. map (recounted ps c.look-before.result None) ns) c.list.ensures.value ∙ ap (λ o. map (recounted info.places o None) ns) c.look-before.ensures in
    record {
      rest = ap (λ x. without_file x info.fid) c.take_out.ensures ∙ forget-step m info.fid key first ∙ c.loop-key.invariant.rest;
      specs = ap (map (λ (n : KeptNode). n.spec)) nodes ∙ map-same (λ (n : KeptNode). n.spec) f (λ n. refl) ns ∙ c.loop-key.invariant.specs;
      enrolled = ap enrolments_of nodes ∙ enrolments-same f (λ n. refl) ns ∙ c.loop-key.invariant.enrolled;
      counted = λ t lies all.
          subst (λ (x : Blocks). AreCounted t x c.recount.new.nodes) (sym c.take_out.ensures)
          (subst (λ (x : List KeptNode). AreCounted t (maps.remove m key) x) (sym nodes) (counted-out t m ns info key first lies (c.loop-key.invariant.counted t lies all)));
    }

pub returns : goal.returns
returns c =
    let left = c.loop-key.blocks in
    let done = forget-end left c.args.info.now.fid (sym c.first_of.ensures ∙ c.in_default.is) in
    let same : c.forget.new.self ≡ left = c.forget.ensures ∙ sym done in
    record {
      blocks = c.forget.ensures ∙ c.loop-key.invariant.rest;
      specs = c.loop-key.invariant.specs;
      enrolled = c.loop-key.invariant.enrolled;
      counted = λ t lies all. subst (λ (x : Blocks). AreCounted t x c.loop-key.nodes) (sym same) (c.loop-key.invariant.counted t lies all);
    }
