-- Records of one block.
use Rattle.std.proofs.Common.{ℕ, ◌≡◌, ◌∙◌, inl, inr, Bool, true, false, not, cond, List, [], ◌∷◌, Option, Some, None, refl, ap, arith, length}
use Rattle.std.specs.Prelude.{filter, is_some, nat_eq}
use Rattle.std.specs.Cmp.Lexicographic.{pointwise}
use Rattle.std.proofs.lemmas.Cmp.{nat_list_eq_equiv}
use Rattle.std.proofs.lemmas.Option.{same_Some}
use Rattle.rz_words.specs.Grid.{Grid}
use Rattle.rz_scrub.specs.Records.{Records, bins_at, positions}
use Rattle.rz_scrub.specs.Misfits.{are_other, is_misfit, misfits, projection_at, IsWithinReach, SomeFits}
use Rattle.rz_scrub.specs.declared.verdict.Verdict.{Verdict}
use Rattle.rz_scrub.specs.declared.verdict.Verdict.TheVariants.{Clean, Altered, Unsure}
use Rattle.rz_scrub_report.specs.declared.finding.Finding.TheVariants.{Few, Judged}
use Rattle.rz_scrub_report.specs.Findings.{IsVerdict, AreOf, HasNothingAltered}

-- bins that are there are these
not-other : (xs : List ℕ) (o : Option (List ℕ)) → (is_some o ≡ true → o ≡ Some xs) → are_other xs o ≡ false
not-other xs None h = refl
not-other xs (Some bins) h =
    ap (λ (ys : List ℕ). not (pointwise nat_eq ys xs)) (same_Some bins xs (h refl)) ∙ ap not (nat_list_eq_equiv.refl xs)

none-passes : (p : ℕ → Bool) → ((x : ℕ) → p x ≡ false) → (xs : List ℕ) → filter p xs ≡ []
none-passes p fails [] = refl
none-passes p fails (x ∷ xs) = ap (λ (b : Bool). cond b (x ∷ filter p xs) (filter p xs)) (fails x) ∙ none-passes p fails xs

no-misfits : (s : Records) (g : Grid) → AreOf s g → misfits s g ≡ []
no-misfits s g of = none-passes (is_misfit s g) (λ position. not-other (projection_at s g position) (bins_at s position) (of.each position)) (positions s)

fits : (s : Records) (g : Grid) → AreOf s g → SomeFits s
fits s g of = (g, of.block, no-misfits s g of)

within : (s : Records) (g : Grid) → AreOf s g → IsWithinReach s g
within s g of = record {
  block = of.block;
  few = (let count : length (misfits s g) ≡ 0 = ap length (no-misfits s g of) in omega (arith, count));
}

clean : (s : Records) (g : Grid) → AreOf s g → (v : Verdict) → IsVerdict s v → v ≡ Clean
clean s g of Clean is = refl
clean s g of (Altered mask) is = absurd (is.0 (fits s g of))
clean s g of Unsure is = absurd (is (g, within s g of))

pub whole : HasNothingAltered
whole s g Few of is = inl refl
whole s g (Judged v) of is = inr (ap Judged (clean s g of v is.1))
