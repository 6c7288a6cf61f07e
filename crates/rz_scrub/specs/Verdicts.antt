-- What a verdict says.
use Rattle.std.specs.Prelude.{ℕ, ◌≡◌, ◌≢◌, ◌↔◌, IsTrue, []}
use Rattle.std.specs.Int.{bit_at}
use Rattle.rz_words.specs.Grid.{Grid}
use Rattle.rz_scrub.specs.Records.{Records}
use Rattle.rz_scrub.specs.Misfits.{is_misfit, misfits}
use Rattle.rz_scrub.specs.declared.verdict.Verdict.{Verdict}
use Rattle.rz_scrub.specs.declared.verdict.Verdict.TheVariants.{Clean, Altered, Unsure}

-- that some records were altered
abbrev pub IsAltered : Verdict → Type 0
IsAltered verdict = (mask : ℕ) × (verdict ≡ Altered mask)

-- bit p of the mask is 1 exactly where position p is a misfit of the block
abbrev pub NamesMisfits : Records → Grid → ℕ → Type 0
NamesMisfits s g mask = (position : ℕ) → (bit_at mask position ≡ 1) ↔ IsTrue (is_misfit s g position)

-- what a verdict says of the block that it was found by
abbrev pub SaysOf : Records → Grid → Verdict → Type 0
SaysOf s g Clean = misfits s g ≡ []
SaysOf s g (Altered mask) = (misfits s g ≢ []) × NamesMisfits s g mask
SaysOf s g Unsure = ⊥
