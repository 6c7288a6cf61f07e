use Rattle.std.proofs.Common.{◌+◌, List, drop, sym, ap, ◌∙◌, subst}
use Rattle.std.proofs.lemmas.List.{drop_all}
use Rattle.rz_tree.specs.declared.parts.Part.{Part}
use Rattle.rz_export_model.specs.Export.{Export}
use Rattle.rz_export.specs.Parts.{export_parts}
use Rattle.rz_export.specs.Building.{with_parts, AllAdd}
use Rattle.rz_export.proofs.Joined.{all-add, made-parts, rest-at}
use Rattle.rz_export.proofs.export.Export.build.Goals as goal

pub loop-part-init : goal.loop-part-init
loop-part-init c =
    let parts = c.args.parts.now in
    let new = c.in_ok-export.ensures in
    record {
      left = subst (λ (s : Export). AllAdd s parts) (sym new) (all-add c.args.volume parts c.requires.each);
      whole = ap (λ (s : Export). with_parts s parts) new;
    }

pub add_part-requires : goal.add_part-requires
add_part-requires c =
    let i = c.loop-part.part-index in
    let here = rest-at c.args.parts.now i c.part-item.result c.loop-part-test.true c.part-item.is in
    let left = subst (λ (ps : List Part). AllAdd c.loop-part.export ps) here c.loop-part.invariant.left in
    left.0

pub loop-part-preserved : goal.loop-part-preserved
loop-part-preserved c =
    let i = c.loop-part.part-index in
    let p = c.part-item.result in
    let rest = drop (i + 1) c.args.parts.now in
    let here = rest-at c.args.parts.now i p c.loop-part-test.true c.part-item.is in
    let left = subst (λ (ps : List Part). AllAdd c.loop-part.export ps) here c.loop-part.invariant.left in
    let more = c.in_ok-add_part.ensures.ok in
    record {
      left = subst (λ (s : Export). AllAdd s rest) (sym more) left.1;
      whole = ap (λ (s : Export). with_parts s rest) more ∙ ap (with_parts c.loop-part.export) (sym here) ∙ c.loop-part.invariant.whole;
    }

pub returns-clause-made : goal.returns-clause-made
returns-clause-made c =
    let end = drop_all c.loop-part.part-index c.args.parts.now c.loop-part-test.false in
    sym (ap (with_parts c.loop-part.export) end) ∙ c.loop-part.invariant.whole

pub returns-clause-parts : goal.returns-clause-parts
returns-clause-parts c =
    let end = drop_all c.loop-part.part-index c.args.parts.now c.loop-part-test.false in
    ap export_parts (sym (ap (with_parts c.loop-part.export) end) ∙ c.loop-part.invariant.whole) ∙ made-parts c.args.volume c.args.parts.now c.requires
