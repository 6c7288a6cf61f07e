use Rattle.std.proofs.Common.{rules, arith, ◌≡◌, ◌≢◌, List, map, take, sym, ap, ◌∙◌, subst, ℤ, w32, to_z, of_z}
use Rattle.std.specs.Prelude.{All}
use Rattle.std.proofs.lemmas.Int.{to_z-of_z}
use Rattle.mj_angles.specs.declared.layout.Layout.{Layout}
use Rattle.mj_angles.specs.Layout.{safe_of, angle_of}
use Rattle.mj_inverse.specs.Fits.{Pair, Search}
use Rattle.rz_scrub.specs.Records.{Records}
use Rattle.rz_scrub.specs.Choice.{pair_at}
use Rattle.rz_scrub.proofs.Choosing.{other-angle}
use Rattle.rz_scrub.proofs.solver.add_all.Goals as goal

pub add-requires-clause-other_angle : goal.add-requires-clause-other_angle
add-requires-clause-other_angle c =
    let s : Records = c.args.records.now in
    let chosen = c.args.chosen.now in
    let at = c.loop-position.position-index in
    let angle : ℤ = to_z w32 (of_z w32 c.angle.result) in
    let is : angle ≡ c.angle.result = to_z-of_z w32 c.angle.result (search rules) in
    let pairs : c.loop-position.work.pairs ≡ map (pair_at s) (take at chosen) = ap (λ (w : Search). w.pairs) c.loop-position.invariant in
    let P : List Pair → Type 0 = λ ps. All (λ (pair : Pair). pair.0 ≢ angle) ps in
    subst P (sym pairs) (other-angle s (safe_of s.layout) chosen at angle (omega arith) c.requires.chosen
    (λ other same. c.angle.ensures.distinct other (ap (λ (y : Layout). angle_of y other) c.layout-layout.ensures.value ∙ same ∙ is)))
