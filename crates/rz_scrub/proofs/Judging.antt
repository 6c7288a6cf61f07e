-- From the search to the verdict.
use Rattle.std.proofs.Common.{◌≡◌, ◌≢◌, ℕ, [], length, refl, arith, ap, subst, ◌↔◌}
use Rattle.rz_words.specs.Grid.{Grid}
use Rattle.rz_scrub.specs.Records.{Records}
use Rattle.rz_scrub.specs.Misfits.{IsBlock, IsWithinReach, SomeFits, SomeIsWithinReach, misfits}
use Rattle.rz_scrub.specs.Verdicts.{IsAltered, NamesMisfits, SaysOf}
use Rattle.rz_scrub.specs.declared.verdict.Verdict.{Verdict}
use Rattle.rz_scrub.specs.declared.verdict.Verdict.TheVariants.{Clean, Altered, Unsure}

pub record Judged (s : Records) (g : Grid) (verdict : Verdict) : Type 0 where
  pub clean : (verdict ≡ Clean) ↔ SomeFits s
  pub altered : IsAltered verdict ↔ ((¬ SomeFits s) × SomeIsWithinReach s)
  pub unsure : (verdict ≡ Unsure) ↔ (¬ SomeIsWithinReach s)
  pub mask : (mask : ℕ) → verdict ≡ Altered mask → NamesMisfits s g mask
  pub found : verdict ≢ Unsure → IsWithinReach s g
  pub only : (h : Grid) → IsWithinReach s h → h ≡ g

-- a block without misfit is within the reach
within-fits : (s : Records) (g : Grid) → IsBlock s.layout g → misfits s g ≡ [] → IsWithinReach s g
within-fits s g block none = record {
  block = block;
  few = (let count : length (misfits s g) ≡ 0 = ap length none in omega (arith, count));
}

pub judged-none : (s : Records) (g : Grid) → ((h : Grid) → ¬ IsWithinReach s h) → Judged s g Unsure
judged-none s g none = record {
  clean = (λ e. cc, λ some. absurd (none some.0 (within-fits s some.0 some.1 some.2)));
  altered = (λ some. (let e = some.1 in cc), λ both. absurd (none both.1.0 both.1.1));
  unsure = (λ e some. none some.0 some.1, λ no. refl);
  mask = λ mask e. cc;
  found = λ other. absurd (other refl);
  only = λ h within. absurd (none h within);
}

pub judged-by : (s : Records) (g : Grid) (verdict : Verdict) → IsWithinReach s g → ((h : Grid) → IsWithinReach s h → h ≡ g) → SaysOf s g verdict → Judged s g verdict
judged-by s g Clean within only says = record {
  clean = (λ e. (g, within.block, says), λ some. refl);
  altered = (λ some. (let e = some.1 in cc), λ both. absurd (both.0 (g, within.block, says)));
  unsure = (λ e. cc, λ no. absurd (no (g, within)));
  mask = λ mask e. cc;
  found = λ other. within;
  only = only;
}
judged-by s g (Altered mask) within only says = record {
  clean = (λ e. cc, λ some. absurd (none some));
  altered = (λ some. (none, (g, within)), λ both. (mask, refl));
  unsure = (λ e. cc, λ no. absurd (no (g, within)));
  mask = λ other e. (let same : mask ≡ other = cc in subst (λ (n : ℕ). NamesMisfits s g n) same says.1);
  found = λ other. within;
  only = only;
}
  where
    none : ¬ SomeFits s
    none some =
        let P : Grid → Type 0 = λ h. misfits s h ≡ [] in
        says.0 (subst P (only some.0 (within-fits s some.0 some.1 some.2)) some.2)
judged-by s g Unsure within only says = absurd says
