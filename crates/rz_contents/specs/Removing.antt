-- Files whose last name went. A history has the newest event first.
use Rattle.std.specs.Prelude.{ℕ, Bool, true, false, ◌≡◌, ◌==◌, List, ◌∷◌, Some}
use Rattle.rz_events.specs.Volume.{Volume}
use Rattle.rz_events.specs.declared.events.Word.TheVariants.{Export}
use Rattle.rz_events.specs.declared.events.Event.{Event}
use Rattle.rz_events.specs.declared.events.Event.TheVariants as e
use Rattle.rz_core.specs.History.{of_word}
use Rattle.rz_export_model.specs.Files.{makes}
use Rattle.rz_core.specs.ExportWord.{is_gone}
use Rattle.rz_core.specs.Legal.{IsLegalInRuns}

-- The export gives the number to a new file, or tells or changes what is known of a block of the file.
abbrev pub is_about : ℕ → Event → Bool
is_about fid (e.Meta by call reply) = makes reply fid
is_about fid (e.Begin by key stamp base text) = key.fid == fid
is_about fid (e.Publish by key stamp mask refused) = key.fid == fid
is_about fid (e.Revoked by key stamp later) = key.fid == fid
is_about fid (e.Look by key answer) = key.fid == fid
is_about fid (e.Recheck by key answer) = key.fid == fid
is_about fid (e.Next by node after (Some l)) = l.key.fid == fid
is_about fid _ = false

-- A file whose last name went stays gone: its number is not given again, and no block of it is looked up, begun, published or listed.
abbrev pub StaysGone : Volume → Type 0
StaysGone v = (x : Event) (h : List Event) (fid : ℕ) → IsLegalInRuns v (x ∷ h) → is_gone (of_word Export h) fid ≡ true → is_about fid x ≡ false
