-- The operations that lines give an actor.
use Rattle.std.proofs.lemmas.List.{take_more}
use Rattle.std.proofs.Common.{◌≡◌, ◌<◌, ◌+◌, take, get_or, length, ℕ, Bool, true, false, cond, List, [], ◌∷◌, ◌++◌, refl, sym, ap, ◌∙◌, subst}
use Rattle.std.specs.List.{AllByRecursion}
use Rattle.rz_events.specs.Volume.{Volume}
use Rattle.rz_events.specs.Events.{same_actor}
use Rattle.rz_events.specs.declared.keys.Actor.{Actor}
use Rattle.rz_events.specs.declared.operations.Operation.{Operation}
use Rattle.rz_script.specs.declared.line.Line.{Line}
use Rattle.rz_script.specs.declared.line.Line.TheVariants as line
use Rattle.rz_script.specs.Lines.{IsOperation, AreLines}
use Rattle.rz_play_laws.proofs.Frames.{same_actor-true}
use Rattle.rz_play_locks.specs.Operations.{given}

-- those of two lists of lines
pub given-both : (by : Actor) (xs ys : List Line) → given by (xs ++ ys) ≡ given by xs ++ given by ys
given-both by [] ys = refl
given-both by (line.Op a op ∷ xs) ys = either (same_actor by a) (given-both by xs ys)
  where
    either : (b : Bool) → given by (xs ++ ys) ≡ given by xs ++ given by ys → cond b (op ∷ given by (xs ++ ys)) (given by (xs ++ ys)) ≡ cond b (op ∷ given by xs) (given by xs) ++ given by ys
    either true same = ap (λ (ops : List Operation). op ∷ ops) same
    either false same = same
given-both by (line.Turn a k ∷ xs) ys = given-both by xs ys
given-both by (line.Rounds k ∷ xs) ys = given-both by xs ys
given-both by (line.Rest ∷ xs) ys = given-both by xs ys
given-both by (line.Stop n ∷ xs) ys = given-both by xs ys
given-both by (line.Start n ∷ xs) ys = given-both by xs ys
given-both by (line.Lose n ∷ xs) ys = given-both by xs ys
given-both by (line.Break n k pick ∷ xs) ys = given-both by xs ys
given-both by (line.Miss a reply ∷ xs) ys = given-both by xs ys

-- they keep the limits of lines
pub given-kept : (v : Volume) (by : Actor) (lines : List Line) → AreLines v lines → AllByRecursion (IsOperation v by) (given by lines)
given-kept v by [] all = tt
given-kept v by (line.Op a op ∷ xs) all = either (same_actor by a) refl (given-kept v by xs all.1)
  where
    either : (b : Bool) → same_actor by a ≡ b → AllByRecursion (IsOperation v by) (given by xs) → AllByRecursion (IsOperation v by) (cond b (op ∷ given by xs) (given by xs))
    either true same rest = (subst (λ (who : Actor). IsOperation v who op) (sym (same_actor-true by a same)) all.0.1, rest)
    either false other rest = rest
given-kept v by (line.Turn a k ∷ xs) all = given-kept v by xs all.1
given-kept v by (line.Rounds k ∷ xs) all = given-kept v by xs all.1
given-kept v by (line.Rest ∷ xs) all = given-kept v by xs all.1
given-kept v by (line.Stop n ∷ xs) all = given-kept v by xs all.1
given-kept v by (line.Start n ∷ xs) all = given-kept v by xs all.1
given-kept v by (line.Lose n ∷ xs) all = given-kept v by xs all.1
given-kept v by (line.Break n k pick ∷ xs) all = given-kept v by xs all.1
given-kept v by (line.Miss a reply ∷ xs) all = given-kept v by xs all.1

-- those of one line more
pub given-more : (by : Actor) (lines : List Line) (i : ℕ) (l : Line) → i < length lines → l ≡ get_or lines i l → given by (take (i + 1) lines) ≡ given by (take i lines) ++ given by (l ∷ [])
given-more by lines i l within is = ap (given by) (take-suc-read lines i l within is) ∙ given-both by (take i lines) (l ∷ [])
  where
    take-suc-read : (xs : List Line) (k : ℕ) (x : Line) → k < length xs → x ≡ get_or xs k x → take (k + 1) xs ≡ take k xs ++ x ∷ []
    take-suc-read xs k x below at = take_more xs k x below ∙ ap (λ (y : Line). take k xs ++ y ∷ []) (sym at)
