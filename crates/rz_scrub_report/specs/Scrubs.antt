-- The lines of a scrub.
use Rattle.std.specs.Prelude.{ℕ, ◌≡◌, ◌⊎◌, List, [], ◌∷◌, ◌++◌, Option, Some, None}
use Rattle.mj_angles.specs.declared.layout.Layout.{Layout}
use Rattle.rz_events.specs.declared.keys.Key.{Key}
use Rattle.rz_events.specs.declared.files.Listed.{Listed}
use Rattle.rz_events.specs.declared.records.Held.{Held}
use Rattle.rz_export_model.specs.Export.{Export, published_after}
use Rattle.rz_scrub.specs.declared.verdict.Verdict.TheVariants.{Clean}
use Rattle.rz_scrub_report.specs.declared.finding.Finding.{Finding}
use Rattle.rz_scrub_report.specs.declared.finding.Finding.TheVariants.{Few, Judged}
use Rattle.rz_scrub_report.specs.Asks.{AreRecordsFound}
use Rattle.rz_scrub_report.specs.Lines.{line_of}
use Rattle.rz_scrub_report.specs.Stores.{State}

-- all published blocks of live files above a key, each the least above the one before
abbrev pub AreListed : Export → Option Key → List Listed → Type 0
AreListed s after [] = published_after s after ≡ None
AreListed s after (l ∷ blocks) = (published_after s after ≡ Some l) × AreListed s (Some l.key) blocks

-- the nodes of one block after the other are asked, and each has a line that says what is found
abbrev pub AreFindingsTold : Layout → (ℕ → Key → Held → List ℕ → List ℕ → Type 0) → List Listed → State → List ℕ → State → Type 0
AreFindingsTold layout gives [] w text next = (text ≡ []) × (next ≡ w)
AreFindingsTold layout gives (l ∷ blocks) w text next =
    (mid : State) × (finding : Finding) × (rest : List ℕ) × AreRecordsFound layout gives l w finding mid × AreFindingsTold layout gives blocks mid rest next
    × (text ≡ line_of layout l.key finding ++ rest)

-- the lines of all published blocks of live files, in the order of their keys
abbrev pub IsScrubbed : Layout → (ℕ → Key → Held → List ℕ → List ℕ → Type 0) → State → List ℕ → State → Type 0
IsScrubbed layout gives w text next = (blocks : List Listed) × AreListed w.export None blocks × AreFindingsTold layout gives blocks w text next

-- so it is of each published block of a live file
abbrev pub EachListed : Export → (Listed → Type 0) → Type 0
EachListed s P = (after : Option Key) (l : Listed) → published_after s after ≡ Some l → P l

-- lines of these blocks, each of which has too few records or is clean
abbrev pub AreUnaltered : Layout → List Listed → List ℕ → Type 0
AreUnaltered layout [] text = text ≡ []
AreUnaltered layout (l ∷ blocks) text =
    (finding : Finding) × (rest : List ℕ) × ((finding ≡ Few) ⊎ (finding ≡ Judged Clean)) × (text ≡ line_of layout l.key finding ++ rest)
    × AreUnaltered layout blocks rest
