-- What is found of a block's records.
use Rattle.std.specs.Prelude.{ℕ, ◌≡◌, ◌≤◌, ◌<◌, ◌⊎◌, IsTrue, Some}
use Rattle.mj_angles.specs.Layout.{inverse_of}
use Rattle.rz_words.specs.Grid.{Grid}
use Rattle.rz_scrub.specs.Records.{Records, bins_at, has_bins, added}
use Rattle.rz_scrub.specs.Misfits.{IsBlock, projection_at, IsWithinReach, SomeFits, SomeIsWithinReach}
use Rattle.rz_scrub.specs.Verdicts.{NamesMisfits}
use Rattle.rz_scrub.specs.declared.verdict.Verdict.{Verdict}
use Rattle.rz_scrub.specs.declared.verdict.Verdict.TheVariants.{Clean, Altered, Unsure}
use Rattle.rz_scrub_report.specs.declared.finding.Finding.{Finding}
use Rattle.rz_scrub_report.specs.declared.finding.Finding.TheVariants.{Few, Judged}

-- Some block has no misfit; none has, and the mask names the misfits of one within the reach; or no block is within the reach.
abbrev pub IsVerdict : Records → Verdict → Type 0
IsVerdict s Clean = SomeFits s
IsVerdict s (Altered mask) = (¬ SomeFits s) × ((g : Grid) × IsWithinReach s g × NamesMisfits s g mask)
IsVerdict s Unsure = ¬ SomeIsWithinReach s

-- fewer records than give a block back, or the verdict on them
abbrev pub IsFinding : Records → Finding → Type 0
IsFinding s Few = added s < inverse_of s.layout
IsFinding s (Judged verdict) = (inverse_of s.layout ≤ added s) × IsVerdict s verdict

-- each record is the projection of the block
pub record AreOf (s : Records) (g : Grid) : Type 0 where
  pub block : IsBlock s.layout g
  pub each : (position : ℕ) → IsTrue (has_bins s position) → bins_at s position ≡ Some (projection_at s g position)

-- records of a block are too few, or clean
abbrev pub HasNothingAltered : Type 0
HasNothingAltered = (s : Records) (g : Grid) (finding : Finding) → AreOf s g → IsFinding s finding → (finding ≡ Few) ⊎ (finding ≡ Judged Clean)
