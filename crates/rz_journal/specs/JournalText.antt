-- What the text of a journal's disk stands for: a list of accepted calls.
use Rattle.std.specs.Prelude.{◌≡◌, ℕ, true, List, [], ◌∷◌, ◌++◌, map, Some, IsSome}
use Rattle.rz_events.specs.Volume.{Volume}
use Rattle.rz_events.specs.declared.export.Call.{Call}
use Rattle.rz_export_model.specs.Export.{Export, new_export, is_proper, export_reply, export_after}
use Rattle.rz_tree.specs.declared.parts.Part.{Part}
use Rattle.rz_export.specs.Building.{ArePartsOf, made_of}
use Rattle.rz_journal_text.specs.declared.entry.JournalEntry.{JournalEntry}
use Rattle.rz_journal_text.specs.declared.entry.JournalEntry.TheVariants.{Built}
use Rattle.rz_journal_text.specs.Spelling.{Spells}
use Rattle.rz_journal.specs.Row.{Entries}
use Rattle.rz_journal.specs.Stands.{StandsFor}
use Rattle.rz_journal.specs.Said.{entry_of, call_said, accepts}

-- a call that has an entry, that the export may be asked, and that it accepts
pub record IsAccepted (s : Export) (c : Call) : Type 0 where
  pub kept : IsSome (entry_of c)
  pub proper : is_proper s c ≡ true
  pub accepted : accepts (export_reply s c) ≡ true

-- each call is accepted after those before it
abbrev pub AreAccepted : Export → List Call → Type 0
AreAccepted s [] = Unit {0}
AreAccepted s (c ∷ calls) = IsAccepted s c × AreAccepted (export_after s c) calls

-- the export after calls
abbrev pub after_all : Export → List Call → Export
after_all s [] = s
after_all s (c ∷ calls) = after_all (export_after s c) calls

-- the export from which the calls go on: the one that these parts make, which keep the rules, or that of a new
-- store where there are none
abbrev pub BeginsWith : Volume → List Part → Export → Type 0
BeginsWith volume [] s = s ≡ new_export volume 0
BeginsWith volume (part ∷ parts) s = ArePartsOf volume (part ∷ parts) × (s ≡ made_of volume (part ∷ parts))

-- The entries are parts, and then calls that are accepted, and make this export.
pub record Makes (volume : Volume) (entries : List JournalEntry) (s : Export) : Type 0 where
  pub parts : List Part
  pub first : Export
  pub begins : BeginsWith volume parts first
  pub later : List JournalEntry
  pub calls : List Call
  pub are : entries ≡ map Built parts ++ later
  pub said : map call_said later ≡ map Some calls
  pub accepted : AreAccepted first calls
  pub made : s ≡ after_all first calls

-- these are the bytes of these entries
abbrev pub AreSpelled : Entries → List JournalEntry → Type 0
AreSpelled [] [] = Unit {0}
AreSpelled [] (entry ∷ entries) = ⊥
AreSpelled (bytes ∷ others) [] = ⊥
AreSpelled (bytes ∷ others) (entry ∷ entries) = Spells bytes entry × AreSpelled others entries

-- The text's entries make this export.
pub record Keeps (volume : Volume) (text : List ℕ) (s : Export) : Type 0 where
  pub bytes : Entries
  pub entries : List JournalEntry
  pub stands : StandsFor text bytes
  pub spelled : AreSpelled bytes entries
  pub makes : Makes volume entries s

-- The text stands for calls that a new store accepted: its entries make the export after them.
pub record IsTextOf (volume : Volume) (text : List ℕ) (calls : List Call) : Type 0 where
  pub accepted : AreAccepted (new_export volume 0) calls
  pub keeps : Keeps volume text (after_all (new_export volume 0) calls)
