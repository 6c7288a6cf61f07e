-- The line of what is found of a block.
use Rattle.std.specs.Prelude.{ℕ, List, [], ◌∷◌, ◌++◌, codes}
use Rattle.std.specs.Fmt.{decimal}
use Rattle.mj_angles.specs.declared.layout.Layout.{Layout}
use Rattle.mj_angles.specs.Layout.{safe_of}
use Rattle.rz_events.specs.declared.keys.Key.{Key}
use Rattle.rz_script_words.specs.Words.{Word}
use Rattle.rz_show.specs.Words.{spaced, uuid_word}
use Rattle.rz_show.specs.Outcomes.{mask_word}
use Rattle.rz_scrub.specs.declared.verdict.Verdict.{Verdict}
use Rattle.rz_scrub.specs.declared.verdict.Verdict.TheVariants.{Clean, Altered, Unsure}
use Rattle.rz_scrub_report.specs.declared.finding.Finding.{Finding}
use Rattle.rz_scrub_report.specs.declared.finding.Finding.TheVariants.{Few, Judged}

-- a verdict, with a digit for each position of the layout where it names some
unfoldable pub verdict_words : Layout → Verdict → List Word
verdict_words layout Clean = codes "clean" ∷ []
verdict_words layout (Altered mask) = codes "altered" ∷ mask_word (safe_of layout) mask ∷ []
verdict_words layout Unsure = codes "unsure" ∷ []

unfoldable pub finding_words : Layout → Finding → List Word
finding_words layout Few = codes "few" ∷ []
finding_words layout (Judged verdict) = verdict_words layout verdict

-- the block, by the number of its file and its own, and what is found of it
unfoldable pub line_of : Layout → Key → Finding → List ℕ
line_of layout key finding = codes "scrub" ++ spaced (uuid_word key.fid ∷ decimal key.block ∷ finding_words layout finding) ++ codes "\n"
