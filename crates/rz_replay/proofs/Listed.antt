-- A published block that is listed is of a live file.
use Rattle.std.proofs.Common.{◌≡◌, Bool, true, false, cond, List, [], ◌∷◌, Option, Some, None, refl, subst, ◌∙◌}
use Rattle.std.specs.Option.{option_map, option_and_then, option_or}
use Rattle.std.specs.FinMap as maps
use Rattle.std.proofs.lemmas.Option.{same_Some}
use Rattle.rz_events.specs.declared.keys.Key.{Key}
use Rattle.rz_events.specs.declared.files.FileInfo.{FileInfo}
use Rattle.rz_events.specs.declared.files.Listed.{Listed}
use Rattle.rz_events.specs.declared.files.Published.{Published}
use Rattle.rz_export_model.specs.Export.{Block, Export, is_after, listed_at, published_after}
use Rattle.rz_export_model.specs.Firsts.{first_given, given_if}
use Rattle.rz_export_model.specs.Tree.{file_of}

-- what is listed of an entry after a key
abbrev given : Export → Option Key → Key × Block → Option Listed
given s after e = cond (is_after after e.0) (option_and_then (λ l. given_if true l) (listed_at s.tree e.0 e.1)) None

abbrev IsOfFile : Export → Listed → Type 0
IsOfFile s l = file_of s.tree l.key.fid ≡ Some l.info

of-file : (s : Export) (key : Key) (o : Option FileInfo) (q : Option Published) (l : Listed) → file_of s.tree key.fid ≡ o
    → option_and_then (λ l'. given_if true l') (option_and_then (λ (info : FileInfo). option_map (λ (p : Published). (let x : Listed = record { key = key; info = info; published = p } in x)) q) o) ≡ Some l
    → IsOfFile s l
of-file s key None q l is h = cc
of-file s key (Some info) None l is h = cc
of-file s key (Some info) (Some p) l is h =
    subst (IsOfFile s) (same_Some (let x : Listed = record { key = key; info = info; published = p } in x) l h) is

of-entry : (s : Export) (after : Option Key) (e : Key × Block) (l : Listed) → given s after e ≡ Some l → IsOfFile s l
of-entry s after e l h = by_test (is_after after e.0) h
  where
    by_test : (b : Bool) → cond b (option_and_then (λ l. given_if true l) (listed_at s.tree e.0 e.1)) None ≡ Some l → IsOfFile s l
    by_test true h' = of-file s e.0 (file_of s.tree e.0.fid) e.1.published l refl h'
    by_test false h' = cc

of-either : (s : Export) (after : Option Key) (e : Key × Block) (l : Listed) (o rest : Option Listed) → given s after e ≡ o → (rest ≡ Some l → IsOfFile s l) → option_or o rest ≡ Some l → IsOfFile s l
of-either s after e l (Some x) rest is more h = of-entry s after e l (is ∙ h)
of-either s after e l None rest is more h = more h

of-entries : (s : Export) (after : Option Key) (es : List (Key × Block)) (l : Listed) → first_given (given s after) es ≡ Some l → IsOfFile s l
of-entries s after [] l h = cc
of-entries s after (e ∷ es) l h = of-either s after e l (given s after e) (first_given (given s after) es) refl (of-entries s after es l) h

pub listed-file : (s : Export) (after : Option Key) (l : Listed) → published_after s after ≡ Some l → file_of s.tree l.key.fid ≡ Some l.info
listed-file s after l h = of-entries s after (maps.entries s.blocks) l h
