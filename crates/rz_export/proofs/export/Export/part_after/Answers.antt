-- Behind each kind of part stands the next one.
use Rattle.std.proofs.Common.{◌≡◌, Option, Some, IfOk, ap, ◌∙◌, subst}
use Rattle.std.specs.Option.{option_copied}
use Rattle.rz_tree.specs.declared.parts.Part.{Part}
use Rattle.rz_tree.specs.declared.parts.Part.TheVariants as part
use Rattle.rz_export.specs.Parts.{export_parts, IsBefore}
use Rattle.rz_export.proofs.PartWalks.{after-counters, after-object, after-name, after-block, after-enrolled}
use Rattle.rz_export.proofs.export.Export.part_after.Goals as goal

pub returns-in-Some-Counters : goal.returns-in-Some-Counters
returns-in-Some-Counters c i before =
    let p = c.in-Some-Counters in
    let is : option_copied c.args.last ≡ Some (part.Counters p.field-0-0 p.field-0-1) = ap option_copied p.is ∙ ap Some (rw p.is at p.field-0-is) in
    subst (λ (o : Option Part). IfOk c.part_after_object.result (λ part. part ≡ o))
    (after-counters c.args.self.now p.field-0-0 p.field-0-1 i (subst (λ (o : Option Part). IsBefore o (export_parts c.args.self.now) i) is before))
    c.part_after_object.ensures

pub returns-in-Some-Object : goal.returns-in-Some-Object
returns-in-Some-Object c i before =
    let p = c.in-Some-Object in
    let is : option_copied c.args.last ≡ Some (part.Object p.fid p.field-0-1 p.field-0-2 p.field-0-3 p.field-0-4 p.field-0-5 p.field-0-6 p.field-0-7) = ap option_copied p.is ∙ ap Some (rw p.is at p.field-0-is) in
    subst (λ (o : Option Part). IfOk c.part_after_object-in-Some-Object.result (λ part. part ≡ o))
    (after-object c.args.self.now p.fid p.field-0-1 p.field-0-2 p.field-0-3 p.field-0-4 p.field-0-5 p.field-0-6 p.field-0-7 i
    (subst (λ (o : Option Part). IsBefore o (export_parts c.args.self.now) i) is before))
    c.part_after_object-in-Some-Object.ensures

pub returns-in-Some-Name : goal.returns-in-Some-Name
returns-in-Some-Name c i before =
    let p = c.in-Some-Name in
    let is : option_copied c.args.last ≡ Some (part.Name p.path p.field-0-1) = ap option_copied p.is ∙ ap Some (rw p.is at p.field-0-is) in
    subst (λ (o : Option Part). IfOk c.part_after_name.result (λ part. part ≡ o))
    (after-name c.args.self.now p.path p.field-0-1 i (subst (λ (o : Option Part). IsBefore o (export_parts c.args.self.now) i) is before))
    c.part_after_name.ensures

pub returns-in-Some-Block : goal.returns-in-Some-Block
returns-in-Some-Block c i before =
    let p = c.in-Some-Block in
    let is : option_copied c.args.last ≡ Some (part.Block p.key p.field-0-1 p.field-0-2) = ap option_copied p.is ∙ ap Some (rw p.is at p.field-0-is) in
    c.part_after_block.ensures ∙ after-block c.args.self.now p.key p.field-0-1 p.field-0-2 i (subst (λ (o : Option Part). IsBefore o (export_parts c.args.self.now) i) is before)

pub returns-in-Some-Enrolled : goal.returns-in-Some-Enrolled
returns-in-Some-Enrolled c i before =
    let p = c.in-Some-Enrolled in
    let is : option_copied c.args.last ≡ Some (part.Enrolled p.node p.field-0-1 p.field-0-2) = ap option_copied p.is ∙ ap Some (rw p.is at p.field-0-is) in
    c.part_after_enrolled.ensures ∙ after-enrolled c.args.self.now p.node p.field-0-1 p.field-0-2 i (subst (λ (o : Option Part). IsBefore o (export_parts c.args.self.now) i) is before)
