use Rattle.std.proofs.Common.{◌<◌, length, ap, ◌∙◌, arith, is_some}
use Rattle.std.specs.FinMap as maps
use Rattle.rz_export_model.specs.Tree.{names_under}
use Rattle.rz_names.proofs.Places.{remove-parts}
use Rattle.rz_names.proofs.Names.{placed, removed-kept, removed-is, place-within}
use Rattle.rz_names.proofs.map.NameMap.remove.Goals as goal

pub remove-requires : goal.remove-requires
remove-requires c =
    let es = c.self.inside.entries in
    let at = placed c.place_of-at.result c.names.result.now c.args.path.now es c.place_of-at.ensures.place c.names.ensures in
    let there = ap (λ m. is_some (maps.get m c.args.path.now)) c.self.view_is ∙ c.requires.there in
    record { place = omega (arith, at, place-within c.args.path.now es c.self.invariant there c.requires.not_root) }

pub invariant_of-self : goal.invariant_of-self
invariant_of-self c =
    let es = c.self.inside.entries in
    let at = placed c.place_of-at.result c.names.result.now c.args.path.now es c.place_of-at.ensures.place c.names.ensures in
    let there = ap (λ m. is_some (maps.get m c.args.path.now)) c.self.view_is ∙ c.requires.there in
    let within : c.place_of-at.result < length es = omega (arith, at, place-within c.args.path.now es c.self.invariant there c.requires.not_root) in
    removed-kept c.args.path.now es c.self.invariant there c.requires.not_root (ap (λ m. names_under m c.args.path.now) c.self.view_is ∙ c.requires.last) c.remove.new.self c.place_of-at.result
    (c.remove.ensures ∙ remove-parts es c.place_of-at.result within) at

pub returns : goal.returns
returns c =
    let es = c.self.inside.entries in
    let at = placed c.place_of-at.result c.names.result.now c.args.path.now es c.place_of-at.ensures.place c.names.ensures in
    let there = ap (λ m. is_some (maps.get m c.args.path.now)) c.self.view_is ∙ c.requires.there in
    let within : c.place_of-at.result < length es = omega (arith, at, place-within c.args.path.now es c.self.invariant there c.requires.not_root) in
    removed-is c.args.path.now es c.self.invariant there c.requires.not_root c.remove.new.self c.place_of-at.result
    (c.remove.ensures ∙ remove-parts es c.place_of-at.result within) at
    ∙ ap (λ m. maps.remove m c.args.path.now) c.self.view_is
