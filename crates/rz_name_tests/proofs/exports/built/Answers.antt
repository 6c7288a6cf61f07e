use Rattle.std.proofs.Common.{◌∷◌, [], List, ap, subst, sym, ◌∙◌}
use Rattle.rz_tree.specs.declared.parts.Part.{Part}
use Rattle.rz_tree.specs.declared.parts.Part.TheVariants as part
use Rattle.rz_export.specs.Building.{ArePartsOf}
use Rattle.rz_export.proofs.Joined.{two-are}
use Rattle.rz_name_tests.proofs.exports.built.Goals as goal

pub build-requires : goal.build-requires
build-requires c =
    subst (λ (ps : List Part). ArePartsOf c.in_ok-volume.volume ps)
    (sym (c.as_slice.ensures.value ∙ c.in_ok-parts.ensures.items ∙ ap (λ (p : Part). part.Counters 5 9 ∷ p ∷ []) c.root_part.ensures))
    (two-are c.in_ok-volume.volume 5 9 448 7)
