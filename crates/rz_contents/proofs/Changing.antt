-- What an event makes of the contents of blocks.
use Rattle.std.proofs.Common.{ℕ, Bool, true, false, ◌≡◌, inl, inr, ◌≤◌, List, [], ◌∷◌, ◌++◌, Option, Some, None, cond, refl, sym, ◌∙◌, ap, subst, arith, ◌&&◌}
use Rattle.std.proofs.lemmas.Bool.{lt-ltb}
use Rattle.rz_events.specs.Volume.{Volume}
use Rattle.rz_events.specs.declared.keys.Key.{Key}
use Rattle.rz_events.specs.declared.keys.Actor.{Actor}
use Rattle.rz_events.specs.declared.events.Event.{Event}
use Rattle.rz_events.specs.declared.events.Event.TheVariants as e
use Rattle.rz_events.specs.Events.{same_key}
use Rattle.rz_core.specs.History.{Begun, wrote, facts}
use Rattle.rz_core.specs.ExportWord.{accepted, latest, is_newer}
use Rattle.rz_core.specs.Legal.{IsLegalInRuns}
use Rattle.rz_core.proofs.Extends.{wrote-more}
use Rattle.rz_core.proofs.Stamps.{export, same_key-true, accepted-begun, accepted-latest, cases_le}
use Rattle.rz_contents.specs.Contents.{text_begun, text_of, contents, publishes, ChangesByPublish, StaysUnpublished}

-- the text of a write that was known stays
begun-more : (x : Event) (h : List Event) (s : ℕ) (b : Begun) → wrote h s ≡ Some b → text_begun (wrote (x ∷ h) s) ≡ text_begun (wrote h s)
begun-more x h s b k = ap text_begun (wrote-more (x ∷ []) h s b k) ∙ sym (ap text_begun k)

text-more : (v : Volume) (x : Event) (h : List Event) → IsLegalInRuns v h → (key : Key) (m : Option (ℕ × ℕ)) → accepted (export h) key ≡ m
    → text_of (facts (x ∷ h)) m ≡ text_of (facts h) m
text-more v x h legal key None k = refl
text-more v x h legal key (Some a) k = let b = accepted-begun v h legal key a k in begun-more x h a.0 b.0 b.1

-- a publish that is accepted after these
published : (v : Volume) (by : Actor) (at : Key) (stamp mask : ℕ) (h : List Event) (key : Key) → IsLegalInRuns v (e.Publish by at stamp mask None ∷ h)
    → (t n : Bool) (m : Option (ℕ × ℕ)) → same_key key at ≡ t → accepted (export h) key ≡ m → is_newer stamp m ≡ n
    → text_of (facts (e.Publish by at stamp mask None ∷ h)) (cond (t && n) (Some (stamp, mask)) m) ≡ cond t (text_begun (wrote h stamp)) (text_of (facts h) m)
published v by at stamp mask h key legal false n m same is newer = text-more v (e.Publish by at stamp mask None) h legal.0 key m is
published v by at stamp mask h key legal true true m same is newer =
    let w = legal.1.row.publishable.publishing.writer in begun-more (e.Publish by at stamp mask None) h stamp w.0 w.1.found
published v by at stamp mask h key legal true false None same is newer = cc
published v by at stamp mask h key legal true false (Some a) same is newer =
    let row = legal.1.row.publishable in
    let here = same_key-true key at same in
    let high = accepted-latest v h legal.0 key a is in
    let low = subst (λ (z : Key). latest (export h) z ≤ stamp) (sym here) row.newest in
    elim (cases_le a.0 stamp) [
      | inl l ↦ (let one : a.0 ≡ stamp = omega (arith, l, high, low) in
          let w = row.publishing.writer in
          subst (λ n. text_begun (wrote (e.Publish by at stamp mask None ∷ h) n) ≡ text_begun (wrote h stamp)) (sym one)
          (begun-more (e.Publish by at stamp mask None) h stamp w.0 w.1.found))
      | inr l ↦ (let w = lt-ltb a.0 stamp l in cc)
    ]

pub changed : (v : Volume) → ChangesByPublish v
changed v (e.Publish by at stamp mask None) h key legal =
    published v by at stamp mask h key legal (same_key key at) (is_newer stamp (accepted (export h) key)) (accepted (export h) key) refl refl refl
changed v x h key legal = text-more v x h legal.0 key (accepted (export h) key) refl

kept : (v : Volume) (x : Event) (h : List Event) (key : Key) → IsLegalInRuns v (x ∷ h) → publishes key x ≡ false → contents (x ∷ h) key ≡ contents h key
kept v (e.Publish by at stamp mask None) h key legal other =
    changed v (e.Publish by at stamp mask None) h key legal ∙ ap (λ t. cond t (text_begun (wrote h stamp)) (contents h key)) other
kept v x h key legal other = changed v x h key legal

pub unchanged : (v : Volume) → StaysUnpublished v
unchanged v [] h key legal all = refl
unchanged v (x ∷ more) h key legal all = kept v x (more ++ h) key legal all.0 ∙ unchanged v more h key legal.0 all.1
