-- The export that entries make, and one entry or all parts more.
use Rattle.std.proofs.Common.{◌≡◌, ℕ, Bool, true, false, cond, ◌||◌, List, [], ◌∷◌, ◌++◌, length, map, replicate, Option, Some, None, IsSome, refl, sym, ◌∙◌, ap, subst, arith, append_assoc}
use Rattle.std.proofs.lemmas.List.{append-nil, length-replicate}
use Rattle.std.proofs.lemmas.Bool.Decides.{nat_tests}
use Rattle.std.specs.Prelude.{nat_le}
use Rattle.mj_angles.specs.Layout.{block_bytes_of}
use Rattle.rz_events.specs.Volume.{Volume}
use Rattle.rz_events.specs.declared.tree.TreeCall.{TreeCall}
use Rattle.rz_events.specs.declared.tree.TreeCall.TheVariants.{Lookup, Getattr, Rmdir, Mkdir, Create, Unlink, Readlink, Readdir, OpenFile, Setattr, Rename, Link, Symlink}
use Rattle.rz_events.specs.declared.export.Call.{Call}
use Rattle.rz_events.specs.declared.export.Call.TheVariants as call
use Rattle.rz_export_model.specs.Export.{Export, new_export, is_proper, export_reply, export_after}
use Rattle.rz_export.specs.Parts.{export_parts}
use Rattle.rz_export_laws.specs.Whole.{ArePartsAgain}
use Rattle.rz_journal_text.specs.declared.entry.JournalEntry.{JournalEntry}
use Rattle.rz_journal_text.specs.declared.entry.JournalEntry.TheVariants as entry
use Rattle.rz_journal_text.specs.Spelling.{IsShort, HasShortTexts, Spells}
use Rattle.rz_journal.specs.Row.{Entries}
use Rattle.rz_journal.specs.Said.{only_looks, is_long, has_long_text, entry_of, call_said, accepts}
use Rattle.rz_journal.specs.JournalText.{IsAccepted, AreAccepted, after_all, Makes, AreSpelled}
use Rattle.rz_journal.specs.Room.{part_entries}

-- ---- which texts have room

short_text : (text : List ℕ) → is_long text ≡ false → IsShort text
short_text text bad = grind (arith, nat_tests)

both_false : (a b : Bool) → (a || b) ≡ false → (a ≡ false) × (b ≡ false)
both_false true b bad = absurd (cc)
both_false false b bad = (refl, bad)

pub short_texts : (c : TreeCall) → has_long_text c ≡ false → HasShortTexts c
short_texts (Lookup path) bad = short_text path bad
short_texts (Getattr path) bad = short_text path bad
short_texts (Rmdir path) bad = short_text path bad
short_texts (Mkdir path) bad = short_text path bad
short_texts (Create path) bad = short_text path bad
short_texts (Unlink path) bad = short_text path bad
short_texts (Readlink path) bad = short_text path bad
short_texts (Readdir path) bad = short_text path bad
short_texts (OpenFile path) bad = short_text path bad
short_texts (Setattr path mode mtime) bad = short_text path bad
short_texts (Rename path to) bad = let parts = both_false (is_long path) (is_long to) bad in (short_text path parts.0, short_text to parts.1)
short_texts (Link path to) bad = let parts = both_false (is_long path) (is_long to) bad in (short_text path parts.0, short_text to parts.1)
short_texts (Symlink target path) bad = let parts = both_false (is_long target) (is_long path) bad in (short_text target parts.0, short_text path parts.1)

-- ---- the call that an entry says does what the call does that it was made of

pub record SaysSame (s : Export) (c : Call) (e : JournalEntry) (d : Call) : Type 0 where
  pub said : call_said e ≡ Some d
  pub kept : IsSome (entry_of d)
  pub proper : is_proper s d ≡ is_proper s c
  pub reply : export_reply s d ≡ export_reply s c
  pub after : export_after s d ≡ export_after s c

tree_said : (s : Export) (c : TreeCall) (b : Bool) → (only_looks c || has_long_text c) ≡ b → (e : JournalEntry) → cond b None (Some (entry.Tree c)) ≡ Some e → SaysSame s (call.Tree c) e (call.Tree c)
tree_said s c true is e at = absurd (cc)
tree_said s c false is e at =
    let same : entry.Tree c ≡ e = cc in
    record {
      said = ap call_said (sym same);
      kept = subst (λ (b : Bool). IsSome (cond b None (Some (entry.Tree c)))) (sym is) refl;
      proper = refl;
      reply = refl;
      after = refl;
    }

pub said_same : (s : Export) (c : Call) (e : JournalEntry) → entry_of c ≡ Some e → (d : Call) × SaysSame s c e d
said_same s (call.Tree c) e at = (call.Tree c, tree_said s c (only_looks c || has_long_text c) refl e at)
said_same s (call.Begin key text) e at =
    let same : entry.Begin key (length text) ≡ e = cc in
    let long : length (replicate (length text) 0) ≡ length text = length-replicate (length text) 0 in (
      call.Begin key (replicate (length text) 0),
      record {
        said = ap call_said (sym same);
        kept = refl;
        proper = ap (λ (n : ℕ). nat_le n (block_bytes_of s.volume.layout)) long;
        reply = refl;
        after = refl;
      },
    )
said_same s (call.Publish key stamp mask bytes) e at =
    let same : entry.Publish key stamp mask bytes ≡ e = cc in
    (call.Publish key stamp mask bytes, record { said = ap call_said (sym same); kept = refl; proper = refl; reply = refl; after = refl })
said_same s (call.Enroll node loss) e at =
    let same : entry.Enroll node loss ≡ e = cc in
    (call.Enroll node loss, record { said = ap call_said (sym same); kept = refl; proper = refl; reply = refl; after = refl })
said_same s (call.Look key) e at = absurd (cc)
said_same s (call.Next node after) e at = absurd (cc)
said_same s (call.Recheck key) e at = absurd (cc)

pub accepted_said : (s : Export) (c : Call) (e : JournalEntry) (d : Call) → SaysSame s c e d → IsAccepted s c → IsAccepted s d
accepted_said s c e d same is = record {
  kept = same.kept;
  proper = same.proper ∙ is.proper;
  accepted = ap accepts same.reply ∙ is.accepted;
}

-- ---- one call more

pub after_more : (s : Export) (calls : List Call) (c : Call) → after_all s (calls ++ c ∷ []) ≡ export_after (after_all s calls) c
after_more s [] c = refl
after_more s (d ∷ calls) c = after_more (export_after s d) calls c

pub accepted_more : (s : Export) (calls : List Call) (c : Call) → AreAccepted s calls → IsAccepted (after_all s calls) c → AreAccepted s (calls ++ c ∷ [])
accepted_more s [] c all one = (one, tt)
accepted_more s (d ∷ calls) c all one = (all.0, accepted_more (export_after s d) calls c all.1 one)

pub said_more : (later : List JournalEntry) (calls : List Call) (e : JournalEntry) (d : Call) → map call_said later ≡ map Some calls → call_said e ≡ Some d → map call_said (later ++ e ∷ []) ≡ map Some (calls ++ d ∷ [])
said_more [] [] e d all one = ap (λ (o : Option Call). o ∷ []) one
said_more [] (c ∷ calls) e d all one = absurd (cc)
said_more (x ∷ later) [] e d all one = absurd (cc)
said_more (x ∷ later) (c ∷ calls) e d all one =
    let head : call_said x ≡ Some c = cc in
    let tail : map call_said later ≡ map Some calls = cc in
    ap (λ (o : Option Call). o ∷ map call_said (later ++ e ∷ [])) head ∙ ap (λ (os : List (Option Call)). Some c ∷ os) (said_more later calls e d tail one)

-- entries with one accepted call more make the export after it
pub makes_more : (volume : Volume) (entries : List JournalEntry) (s : Export) (c : Call) (e : JournalEntry) → Makes volume entries s → IsAccepted s c → entry_of c ≡ Some e → Makes volume (entries ++ e ∷ []) (export_after s c)
makes_more volume entries s c e makes is at =
    let found = said_same s c e at in
    let d = found.0 in
    let there : IsAccepted (after_all makes.first makes.calls) d = subst (λ (u : Export). IsAccepted u d) makes.made (accepted_said s c e d found.1 is) in
    record {
      parts = makes.parts;
      first = makes.first;
      begins = makes.begins;
      later = makes.later ++ e ∷ [];
      calls = makes.calls ++ d ∷ [];
      are = ap (λ (es : List JournalEntry). es ++ e ∷ []) makes.are ∙ append_assoc (map entry.Built makes.parts) makes.later (e ∷ []);
      said = said_more makes.later makes.calls e d makes.said found.1.said;
      accepted = accepted_more makes.first makes.calls d makes.accepted there;
      made = sym found.1.after ∙ ap (λ (u : Export). export_after u d) makes.made ∙ sym (after_more makes.first makes.calls d);
    }

-- the parts of an export make it
pub makes_parts : (s : Export) → ArePartsAgain s → Makes s.volume (part_entries s) s
makes_parts s are = record {
  parts = export_parts s;
  first = s;
  begins = (are.parts, sym are.again);
  later = [];
  calls = [];
  are = sym (append-nil (part_entries s));
  said = refl;
  accepted = tt;
  made = refl;
}

-- no entries make a new store
pub makes_none : (volume : Volume) → Makes volume [] (new_export volume 0)
makes_none volume = record {
  parts = [];
  first = new_export volume 0;
  begins = refl;
  later = [];
  calls = [];
  are = refl;
  said = refl;
  accepted = tt;
  made = refl;
}

pub spelled_more : (bytes : Entries) (entries : List JournalEntry) (b : List ℕ) (e : JournalEntry) → AreSpelled bytes entries → Spells b e → AreSpelled (bytes ++ b ∷ []) (entries ++ e ∷ [])
spelled_more [] [] b e all one = (one, tt)
spelled_more [] (x ∷ xs) b e all one = absurd all
spelled_more (y ∷ ys) [] b e all one = absurd all
spelled_more (y ∷ ys) (x ∷ xs) b e all one = (all.0, spelled_more ys xs b e all.1 one)
