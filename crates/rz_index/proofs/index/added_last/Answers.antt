use Rattle.std.proofs.Common.{◌≡◌, suc, ◌+◌, [], ◌∷◌, ◌++◌, length, ap, arith}
use Rattle.std.proofs.lemmas.List.{length_push}
use Rattle.rz_index.specs.Standing.{Tree, Lone}
use Rattle.rz_index.proofs.Standing.{swapped}
use Rattle.rz_index.proofs.Rotations.{none, back-first}
use Rattle.rz_index.proofs.index.added_last.Goals as goal

pub returns-in_default : goal.returns-in_default
returns-in_default c = λ entries blanks h fits fits_too some.
    let a = swapped c.args.row.now (Tree c.args.root entries) (Tree c.args.spare blanks) [] none h in
    let n = c.in_default.ensures blanks (Tree c.args.root entries ∷ []) a fits_too in
    let zero : length blanks ≡ 0 = ap length n.0 in
    absurd (omega (arith, some, zero))

pub returns : goal.returns
returns c = λ entries blanks h fits fits_too some.
    let a = swapped c.args.row.now (Tree c.args.root entries) (Tree c.args.spare blanks) [] none h in
    let s = c.in-Some.ensures blanks (Tree c.args.root entries ∷ []) a fits_too in
    let r = c.set_entry.ensures s.first (Tree c.in-Some.spare s.others ∷ Tree c.args.root entries ∷ []) s.holds in
    let moved = back-first c.set_entry.new.row (Lone c.in-Some.node c.args.entry.now) (Tree c.in-Some.spare s.others) (Tree c.args.root entries) [] r in
    let b = c.with_last.ensures entries c.args.entry.now (Tree c.in-Some.spare s.others ∷ []) moved fits in
    let one : length blanks ≡ suc (length s.others) = ap length s.all in
    let long : length (entries ++ c.args.entry.now ∷ []) ≡ length entries + 1 = length_push entries c.args.entry.now in
    record { left = s.others; count = omega (arith, one, long); holds = b }
