-- What the clauses of a judgement come to.
use Rattle.std.proofs.Common.{ℕ, ◌≡◌, ◌≢◌, refl, ◌↔◌}
use Rattle.rz_words.specs.Grid.{Grid}
use Rattle.rz_scrub.specs.Records.{Records}
use Rattle.rz_scrub.specs.Misfits.{IsWithinReach, SomeFits, SomeIsWithinReach}
use Rattle.rz_scrub.specs.Verdicts.{IsAltered, NamesMisfits}
use Rattle.rz_scrub.specs.declared.verdict.Verdict.{Verdict}
use Rattle.rz_scrub.specs.declared.verdict.Verdict.TheVariants.{Clean, Altered, Unsure}
use Rattle.rz_scrub_report.specs.Findings.{IsVerdict}

pub verdict_is : (s : Records) (g : Grid) (v : Verdict)
    → ((v ≡ Clean) ↔ SomeFits s)
    → (IsAltered v ↔ ((¬ SomeFits s) × SomeIsWithinReach s))
    → ((v ≡ Unsure) ↔ (¬ SomeIsWithinReach s))
    → ((mask : ℕ) → v ≡ Altered mask → NamesMisfits s g mask)
    → (v ≢ Unsure → IsWithinReach s g)
    → IsVerdict s v
verdict_is s g Clean clean altered unsure names found = clean.0 refl
verdict_is s g (Altered mask) clean altered unsure names found = ((altered.0 (mask, refl)).0, (g, found (λ h. cc), names mask refl))
verdict_is s g Unsure clean altered unsure names found = unsure.0 refl
