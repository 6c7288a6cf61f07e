-- The last lines of the workload.
use Rattle.std.proofs.Common.{◌≡◌, [], ◌∷◌, refl, lit≤}
use Rattle.rz_events.specs.declared.keys.Actor.TheVariants.{Rebuilder}
use Rattle.rz_events.specs.declared.operations.Operation.TheVariants.{Rebuild}
use Rattle.rz_script.specs.declared.line.Line.TheVariants.{Op, Rounds, Rest, Lose}
use Rattle.rz_script.specs.Lines.{IsLine}
use Rattle.rz_script.specs.Scripts.{Script, with_line}
use Rattle.rz_generate.specs.Workload.{volume, ends, with_lines}
use Rattle.rz_generate.proofs.Files.{line-more}

pub lose-fits : IsLine volume (Lose 3)
unfolding volume
lose-fits = (lit≤ tt, lit≤ tt, refl)

pub rebuild-fits : IsLine volume (Op (Rebuilder 1) (Rebuild 3))
unfolding volume
rebuild-fits = ((lit≤ tt, lit≤ tt), (lit≤ tt, lit≤ tt, refl))

pub ends-added : (a b c d : Script) → b ≡ with_line a (Rounds 2000) → c ≡ with_line b (Lose 3) → d ≡ with_line c (Op (Rebuilder 1) (Rebuild 3))
    → with_line d Rest ≡ with_lines a ends
unfolding ends
ends-added a b c d x y z =
    let rounds = Rounds 2000 in
    let lose = Lose 3 in
    let rebuild = Op (Rebuilder 1) (Rebuild 3) in
    let two = line-more a b c (rounds ∷ []) (rounds ∷ lose ∷ []) lose x y refl in
    let three = line-more a c d (rounds ∷ lose ∷ []) (rounds ∷ lose ∷ rebuild ∷ []) rebuild two z refl in
    line-more a d (with_line d Rest) (rounds ∷ lose ∷ rebuild ∷ []) (rounds ∷ lose ∷ rebuild ∷ Rest ∷ []) Rest three refl refl
