-- The export that the entries of a text make is whole.
use Rattle.std.proofs.Common.{ℕ, List, [], ◌∷◌, ◌++◌, map, sym, subst}
use Rattle.std.specs.List.{AllByRecursion}
use Rattle.rz_events.specs.Volume.{Volume, IsVolume}
use Rattle.rz_events.specs.declared.export.Call.{Call}
use Rattle.rz_export_model.specs.Export.{Export, export_after}
use Rattle.rz_tree.specs.declared.parts.Part.{Part}
use Rattle.rz_tree.specs.declared.parts.Part.TheVariants as part
use Rattle.rz_export_laws.specs.WholeTree.{IsPlainPart, AreTextsPlain}
use Rattle.rz_export_laws.specs.Whole.{IsWhole, IsWholeAtFirst, StaysWhole, PartsAreWhole}
use Rattle.rz_journal_text.specs.declared.entry.JournalEntry.{JournalEntry}
use Rattle.rz_journal_text.specs.declared.entry.JournalEntry.TheVariants.{Built}
use Rattle.rz_journal_text.specs.Spelling.{path_text, Spells}
use Rattle.rz_journal.specs.Row.{Entries}
use Rattle.rz_journal.specs.JournalText.{AreAccepted, after_all, BeginsWith, Makes, AreSpelled}

part_plain : AreTextsPlain → (bytes : List ℕ) (p : Part) → Spells bytes (Built p) → IsPlainPart p
part_plain texts bytes (part.Counters last made) is = tt
part_plain texts bytes (part.Object fid kind mode mtime size cid places target) is = tt
part_plain texts bytes (part.Name path fid) is = texts (path_text path) path is.stands.0
part_plain texts bytes (part.Block key latest published) is = tt
part_plain texts bytes (part.Enrolled node loss fence) is = tt

parts_plain : AreTextsPlain → (bytes : Entries) (ps : List Part) (later : List JournalEntry) → AreSpelled bytes (map Built ps ++ later) → AllByRecursion IsPlainPart ps
parts_plain texts bytes [] later all = tt
parts_plain texts [] (p ∷ ps) later all = absurd all
parts_plain texts (b ∷ bytes) (p ∷ ps) later all = (part_plain texts b p all.0, parts_plain texts bytes ps later all.1)

module _ (texts : AreTextsPlain) (first : (volume : Volume) (last : ℕ) → IsWholeAtFirst volume last) (stays : (s : Export) (c : Call) → StaysWhole s c) (built : (volume : Volume) (parts : List Part) → PartsAreWhole volume parts) where
  calls_whole : (s : Export) (calls : List Call) → IsWhole s → AreAccepted s calls → IsWhole (after_all s calls)
  calls_whole s [] whole all = whole
  calls_whole s (c ∷ calls) whole all = calls_whole (export_after s c) calls (stays s c all.0.proper whole) all.1

  first_whole : (volume : Volume) (ps : List Part) (s : Export) → IsVolume volume → AllByRecursion IsPlainPart ps → BeginsWith volume ps s → IsWhole s
  first_whole volume [] s rules plain begins = subst IsWhole (sym begins) (first volume 0 rules)
  first_whole volume (p ∷ ps) s rules plain begins = subst IsWhole (sym begins.1) (built volume (p ∷ ps) rules begins.0 plain)

  pub makes_whole : (volume : Volume) (bytes : Entries) (entries : List JournalEntry) (s : Export) → IsVolume volume → AreSpelled bytes entries → Makes volume entries s → IsWhole s
  makes_whole volume bytes entries s rules spelled m =
      let plain = parts_plain texts bytes m.parts m.later (subst (AreSpelled bytes) m.are spelled) in
      subst IsWhole (sym m.made) (calls_whole m.first m.calls (first_whole volume m.parts m.first rules plain m.begins) m.accepted)
