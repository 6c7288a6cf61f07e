-- What reads tell.
use Rattle.std.proofs.Common.{ℕ, Bool, ◌≡◌, List, [], ◌∷◌, Option, Some, None, refl, sym, ◌∙◌, ap, subst}
use Rattle.rz_events.specs.Volume.{Volume}
use Rattle.rz_events.specs.declared.keys.Key.{Key}
use Rattle.rz_events.specs.declared.keys.Actor.{Actor}
use Rattle.rz_events.specs.declared.ends.ReadEnd.{ReadEnd}
use Rattle.rz_events.specs.declared.ends.ReadEnd.TheVariants as read
use Rattle.rz_events.specs.declared.events.Event.{Event}
use Rattle.rz_events.specs.declared.events.Event.TheVariants as e
use Rattle.rz_core.specs.History.{Begun, wrote, facts, of_actor}
use Rattle.rz_core.specs.ExportWord.{accepted, with_length}
use Rattle.rz_core.specs.Own.{last, is_look}
use Rattle.rz_core.specs.OwnRows.{FoundRow}
use Rattle.rz_core.specs.Legal.{IsLegalInRuns}
use Rattle.rz_core.proofs.Extends.{some_length}
use Rattle.rz_core.proofs.Stamps.{export, accepted-begun}
use Rattle.rz_safety.specs.Reads.{before_look, before_read}
use Rattle.rz_safety.proofs.ReadLaws.{looked, look-rest}
use Rattle.rz_contents.specs.Contents.{text_begun, text_of, contents, TellsContents, AreReadsTrue, IsReadUndisturbed}
use Rattle.rz_contents.proofs.Changing.{unchanged}

none_accepted : (h : List Event) (m : Option (ℕ × ℕ)) → None ≡ with_length (facts h) m → text_of (facts h) m ≡ None
none_accepted h None k = refl
none_accepted h (Some a) k = cc

-- a read that found a text
found : (v : Volume) (a : Actor) (h : List Event) → IsLegalInRuns v h → (key : Key) (s : ℕ) (text : List ℕ) → FoundRow v (facts h) (of_actor a h) a key s text
    → contents (before_look a h) key ≡ Some text
found v a h legal key s text r =
    let l = looked v a h legal key (Some r.looked.0) r.looked.1 in
    let p = some_length (facts (before_look a h)) (accepted (export (before_look a h)) key) r.looked.0 l.legal.1.row.told in
    let same : p.0.0 ≡ s = sym p.2 ∙ r.looked.2 in
    let b = accepted-begun v (before_look a h) l.legal.0 key p.0 p.1 in
    let known : wrote h s ≡ Some b.0 = subst (λ n. wrote h n ≡ Some b.0) same (look-rest v (before_look a h) h a key (Some r.looked.0) l _ _ b.1) in
    let one : b.0 ≡ r.wrote.0 = cc in
    ap (text_of (facts (before_look a h))) p.1 ∙ ap text_begun b.1 ∙ ap (λ (w : Begun). Some w.text) one ∙ ap Some r.wrote.2

hole : (v : Volume) (a : Actor) (h : List Event) → IsLegalInRuns v h → (key : Key) → last is_look (of_actor a h) ≡ Some (e.Look a key None)
    → contents (before_look a h) key ≡ None
hole v a h legal key k =
    let l = looked v a h legal key None k in none_accepted (before_look a h) (accepted (export (before_look a h)) key) l.legal.1.row.told

tells : (v : Volume) (by : Actor) (number : ℕ) (key : Key) (part : Bool) (end : ReadEnd) (h : List Event)
    → IsLegalInRuns v (e.Got by number key part end ∷ h) → TellsContents (before_read by h end) key end
tells v by number key part (read.Found s text) h legal = found v by h legal.0 key s text legal.1.row.0
tells v by number key part read.Hole h legal = hole v by h legal.0 key legal.1.row.0
tells v by number key part end h legal = tt

pub reads : (v : Volume) (h : List Event) → IsLegalInRuns v h → AreReadsTrue h
reads v [] legal = tt
reads v (e.Got by number key part end ∷ h) legal = (reads v h legal.0, tells v by number key part end h legal)
reads v (x ∷ h) legal = reads v h legal.0

moved : (older newer : List Event) (key : Key) (end : ReadEnd) → contents newer key ≡ contents older key → TellsContents older key end → TellsContents newer key end
moved older newer key (read.Found s text) same is = same ∙ is
moved older newer key read.Hole same is = same ∙ is
moved older newer key end same is = tt

pub read_undisturbed : (v : Volume) → IsReadUndisturbed v
read_undisturbed v h more by number key part end legal there all =
    let legal' = subst (λ (z : List Event). IsLegalInRuns v z) (sym there) legal.0 in
    let same = unchanged v more (before_read by h end) key legal' all in
    moved (before_read by h end) h key end (ap (λ (z : List Event). contents z key) (sym there) ∙ same) (tells v by number key part end h legal)
