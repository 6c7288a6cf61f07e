-- Losses, enrolments and fences.
use Rattle.std.proofs.Common.{ℕ, Bool, true, false, ◌≡◌, ◌⊎◌, inl, inr, ◌≤◌, ◌<◌, ◌+◌, List, [], ◌∷◌, Option, Some, None, cond, refl, sym, ◌∙◌, ap, subst, arith, ◌&&◌}
use Rattle.std.proofs.lemmas.Bool.{and_parts, cases_lt}
use Rattle.rz_events.specs.Volume.{Volume}
use Rattle.rz_events.specs.declared.keys.Key.{Key}
use Rattle.rz_events.specs.declared.keys.Actor.{Actor}
use Rattle.rz_events.specs.declared.nodes.Phase.TheVariants.{Up, Lost}
use Rattle.rz_events.specs.declared.events.Word.TheVariants.{Export, Node}
use Rattle.rz_events.specs.declared.events.Event.{Event}
use Rattle.rz_events.specs.declared.events.Event.TheVariants as e
use Rattle.rz_events.specs.Events.{by_of, word_of, same_actor, same_word, same_key}
use Rattle.rz_node_model.specs.Versions.{Stands}
use Rattle.rz_core.specs.History.{Facts, facts, of_actor, Has, IsPlace}
use Rattle.rz_core.specs.NodeWord.{phase, losses, last_fence}
use Rattle.rz_core.specs.ExportWord.{last_drawn, accepted, is_newer, enrolled}
use Rattle.rz_events.specs.Masks.{HasBit}
use Rattle.rz_core.specs.Legal.{IsLegalInRuns, Row}
use Rattle.rz_core.proofs.Extends.{some_length, extends-more, place-extends}
use Rattle.rz_core.proofs.Stamps.{export, same_key-true, drawn}
use Rattle.rz_safety.specs.Reads.{IsLostSince}
use Rattle.rz_safety.specs.Kept.{before_published, IsLostAfter, IsKept}
use Rattle.rz_core.proofs.EnrollLaws.{enrolled-has, new_cases}
use Rattle.rz_core.proofs.NodeLaws.{at-own, node, holds, at-node, node-row, filter-has, has-filter, did-up}
use Rattle.rz_safety.proofs.KeptLaws.{stored-begun, lost-stored, place-unique, place-before, accepted-kept, not_gone}

node_is : (m n : ℕ) → Node m ≡ Node n → m ≡ n
node_is m n q = cc

-- losses rise
losses-word : (v : Volume) (x : Event) (f : Facts) (w o run : List Event) → Row v f w o run x → losses w ≤ losses (x ∷ w)
losses-word v (e.Lose m l) f w o run r = let n = r.next in omega arith
losses-word v (x) f w o run r = omega arith

pub losses-more : (v : Volume) (x : Event) (h : List Event) → IsLegalInRuns v (x ∷ h) → (n : ℕ) → losses (node n h) ≤ losses (node n (x ∷ h))
losses-more v x h legal n =
    at-node x h n (λ w. losses (node n h) ≤ losses w)
    (λ is. losses-word v x (facts h) (node n h) _ _ (node-row v x h n legal is))
    (omega arith)

-- a probe answers a loss that came
pub probed-losses : (v : Volume) (h : List Event) → IsLegalInRuns v h → (by : Actor) (n loss : ℕ) → Has h (e.Probe by n (Some loss)) → loss ≤ losses (node n h)
probed-losses v [] legal by n loss has = absurd has
probed-losses v (x ∷ h) legal by n loss (inr has) = let i = probed-losses v h legal.0 by n loss has in let m = losses-more v x h legal n in omega (arith, i, m)
probed-losses v (x ∷ h) legal by n loss (inl is) =
    let legal' = subst (λ y. IsLegalInRuns v (y ∷ h)) is legal in
    let row = node-row v (e.Probe by n (Some loss)) h n legal' refl in
    let m = losses-more v x h legal n in
    let r = row.1 in omega (arith, m, r)

-- and an enrolment is of a loss that came
pub enrolled-losses : (v : Volume) (h : List Event) → IsLegalInRuns v h → (by : Actor) (n loss fence : ℕ) → Has h (e.Enroll by n loss fence) → loss ≤ losses (node n h)
enrolled-losses v [] legal by n loss fence has = absurd has
enrolled-losses v (x ∷ h) legal by n loss fence (inr has) =
    let i = enrolled-losses v h legal.0 by n loss fence has in let m = losses-more v x h legal n in omega (arith, i, m)
enrolled-losses v (x ∷ h) legal by n loss fence (inl is) =
    let legal' = subst (λ y. IsLegalInRuns v (y ∷ h)) is legal in
    let i = probed-losses v h legal.0 by n loss (filter-has (λ y. same_actor by (by_of y)) h (e.Probe by n (Some loss)) legal'.1.row.probed) in
    let m = losses-more v x h legal n in omega (arith, i, m)

-- a loss that came is at most the last
pub lost-losses : (v : Volume) (h : List Event) → IsLegalInRuns v h → (n : ℕ) (key : Key) (s loss : ℕ) → IsLostSince h n key s loss → loss ≤ losses (node n h)
lost-losses v [] legal n key s loss k = absurd k
lost-losses v (e.Lose m l ∷ h) legal n key s loss (inl k) =
    subst (λ z. z ≤ losses (node n (e.Lose m l ∷ h))) k.1 (at-own (e.Lose m l) h n (λ w. l ≤ losses w) (ap Node k.0) (omega arith))
lost-losses v (e.Lose m l ∷ h) legal n key s loss (inr k) =
    let i = lost-losses v h legal.0 n key s loss k in let m' = losses-more v (e.Lose m l) h legal n in omega (arith, i, m')
lost-losses v (x ∷ h) legal n key s loss k =
    let i = lost-losses v h legal.0 n key s loss k in let m = losses-more v x h legal n in omega (arith, i, m)

-- each enrolment of a loss after what was stored has a fence above it
pub enrolled-above : (v : Volume) (h : List Event) → IsLegalInRuns v h → (n : ℕ) (key : Key) (s loss : ℕ) → IsLostSince h n key s loss
    → (by : Actor) (l fence : ℕ) → Has h (e.Enroll by n l fence) → loss ≤ l → s < fence
enrolled-above v [] legal n key s loss lost by l fence has le = absurd has
enrolled-above v (e.Lose m k ∷ h) legal n key s loss (inl (en, ek, stored)) by l fence (inl is) le = cc
enrolled-above v (e.Lose m k ∷ h) legal n key s loss (inl (en, ek, stored)) by l fence (inr has) le =
    let i = enrolled-losses v h legal.0 by n l fence has in
    let next : k ≡ losses (node n h) + 1 = subst (λ z. k ≡ losses (node z h) + 1) en legal.1.row.next in
    absurd (omega (arith, i, next, ek, le))
enrolled-above v (e.Lose m k ∷ h) legal n key s loss (inr lost) by l fence (inl is) le = cc
enrolled-above v (e.Lose m k ∷ h) legal n key s loss (inr lost) by l fence (inr has) le = enrolled-above v h legal.0 n key s loss lost by l fence has le
enrolled-above v (e.Enroll by' m k g ∷ h) legal n key s loss lost by l fence (inl is) le =
    let legal' = subst (λ y. IsLegalInRuns v (y ∷ h)) is legal in
    elim (new_cases (enrolled (export h) n l) (last_drawn (export h)) fence legal'.1.row.fence_is) [
      | inl old ↦ (let i = enrolled-has (export h) n l fence old in
          enrolled-above v h legal.0 n key s loss lost i.0 l fence (filter-has (λ y. same_word Export (word_of y)) h (e.Enroll i.0 n l fence) i.1) le)
      | inr new ↦ (let b = stored-begun v h legal.0 n key s (lost-stored h n key s loss lost) in
          let d = drawn v h legal.0 s b.0 b.1 in omega (arith, d, new))
    ]
enrolled-above v (e.Enroll by' m k g ∷ h) legal n key s loss lost by l fence (inr has) le = enrolled-above v h legal.0 n key s loss lost by l fence has le
enrolled-above v (x ∷ h) legal n key s loss lost by l fence (inl is) le = cc
enrolled-above v (x ∷ h) legal n key s loss lost by l fence (inr has) le = enrolled-above v h legal.0 n key s loss lost by l fence has le

-- what bars a node from an older write
abbrev pub IsBarred : List Event → ℕ → Type 0
IsBarred w s = (phase w ≡ Lost) ⊎ (s < last_fence w)

barred-word : (v : Volume) (x : Event) (f : Facts) (w o run : List Event) (s : ℕ) → Row v f w o run x
    → ((by : Actor) (m loss fence : ℕ) → x ≡ e.Replace by m loss fence → loss ≡ losses w → Has o (e.Enroll by m loss fence) → s < fence)
    → IsBarred w s → IsBarred (x ∷ w) s
barred-word v (e.Lose m l) f w o run s r replace k = inl refl
barred-word v (e.Replace by m loss fence) f w o run s r replace k = inr (replace by m loss fence refl r.loss_is r.enrolled)
barred-word v (e.Broke by m None) f w o run s r replace (inl lost) = let up : phase w ≡ Up = r in cc
barred-word v (e.Broke by m (Some c)) f w o run s r replace (inl lost) = let up : phase w ≡ Up = did-up v f w o by m c r in cc
barred-word v (e.Broke by m c) f w o run s r replace (inr above) = inr above
barred-word v (e.Stop m) f w o run s r replace (inl lost) = let up : phase w ≡ Up = r in cc
barred-word v (e.Stop m) f w o run s r replace (inr above) = inr above
barred-word v (e.Start m took) f w o run s r replace (inl lost) = let down = r.down in cc
barred-word v (e.Start m took) f w o run s r replace (inr above) = inr above
barred-word v (x) f w o run s r replace k = k

-- a node that was lost after it stored a write is lost, or has a fence above it
pub barred : (v : Volume) (h : List Event) → IsLegalInRuns v h → (n : ℕ) (key : Key) (s loss : ℕ) → IsLostSince h n key s loss → IsBarred (node n h) s
barred v [] legal n key s loss k = absurd k
barred v (e.Lose m l ∷ h) legal n key s loss (inl k) = at-own (e.Lose m l) h n (λ w. IsBarred w s) (ap Node k.0) (inl refl)
barred v (e.Lose m l ∷ h) legal n key s loss (inr k) =
    let i = barred v h legal.0 n key s loss k in at-node (e.Lose m l) h n (λ w. IsBarred w s) (λ is. inl refl) i
barred v (x ∷ h) legal n key s loss k =
    let i = barred v h legal.0 n key s loss k in
    at-node x h n (λ w. IsBarred w s)
    (λ is. barred-word v x (facts h) (node n h) (of_actor (by_of x) h) legal.1.run s (node-row v x h n legal is)
    (λ by m loss' fence same loss_is has.
    let there : m ≡ n = node_is m n (sym (ap word_of same) ∙ is) in
    let le = lost-losses v h legal.0 n key s loss k in
    let has' : Has h (e.Enroll by m loss' fence) = filter-has (λ y. same_actor (by_of x) (by_of y)) h (e.Enroll by m loss' fence) has in
    enrolled-above v h legal.0 n key s loss k by loss' fence (subst (λ z. Has h (e.Enroll by z loss' fence)) there has') (omega (arith, le, loss_is)))
    i)
    i

abbrev first_in : Option (ℕ × ℕ) → ℕ
first_in None = 0
first_in (Some p) = p.0

abbrev second_in : Option (ℕ × ℕ) → ℕ
second_in None = 0
second_in (Some p) = p.1

-- before the publish no node of its mask was enrolled above its stamp
pub published-free : (v : Volume) (h : List Event) → IsLegalInRuns v h → (key : Key) (a : ℕ × ℕ) (q n : ℕ) → accepted (export h) key ≡ Some a → HasBit a.1 q → IsPlace (facts h) key.fid q n
    → (by : Actor) (l fence : ℕ) → Has (before_published h key) (e.Enroll by n l fence) → fence ≤ a.0
published-free v [] legal key a q n acc set place by l fence has = cc
published-free v (e.Publish by' at stamp mask None ∷ h) legal key a q n acc set place by l fence has =
    go (λ old has. published-free v h legal.0 key a q n old set (place-before v (e.Publish by' at stamp mask None) h legal.0 key a q n old place) by l fence has) (same_key key at && is_newer stamp (accepted (export h) key)) refl acc has
  where
    go : (accepted (export h) key ≡ Some a → Has (before_published h key) (e.Enroll by n l fence) → fence ≤ a.0) → (t : Bool) → (same_key key at && is_newer stamp (accepted (export h) key)) ≡ t → cond t (Some (stamp, mask)) (accepted (export h) key) ≡ Some a
        → Has (cond t h (before_published h key)) (e.Enroll by n l fence) → fence ≤ a.0
    go rest false t acc has = rest acc has
    go rest true t acc has =
        let same = same_key-true key at (and_parts _ _ t).0 in
        let one : stamp ≡ a.0 = ap first_in acc in
        let two : mask ≡ a.1 = ap second_in acc in
        let set' = subst (λ m. HasBit m q) (sym two) set in
        let k = legal.1.row.publishable.publishing.kept q set' in
        let k' = place-extends (facts h) (facts (e.Publish by' at stamp mask None ∷ h)) (extends-more (e.Publish by' at stamp mask None ∷ []) h) at.fid q k.0 k.1 in
        let there : n ≡ k.0 = place-unique (facts (e.Publish by' at stamp mask None ∷ h)) at.fid q n k.0 (subst (λ (z : Key). IsPlace (facts (e.Publish by' at stamp mask None ∷ h)) z.fid q n) same place) k' in
        let has' = has-filter (λ y. same_word Export (word_of y)) h (e.Enroll by k.0 l fence) refl (subst (λ z. Has h (e.Enroll by z l fence)) there has) in
        let le = legal.1.row.free q k.0 set' k.1 by l fence has' in omega (arith, le, one)
published-free v (x ∷ h) legal key a q n acc set place by l fence has =
    published-free v h legal.0 key a q n acc set (place-before v x h legal.0 key a q n acc place) by l fence has

before-has : (h : List Event) (key : Key) (x : Event) → Has (before_published h key) x → Has h x
before-has [] key x has = absurd has
before-has (e.Publish by at stamp mask None ∷ h) key x has = go (before-has h key x) (same_key key at && is_newer stamp (accepted (export h) key)) has
  where
    go : (Has (before_published h key) x → Has h x) → (t : Bool) → Has (cond t h (before_published h key)) x → Has (e.Publish by at stamp mask None ∷ h) x
    go rest true has = inr has
    go rest false has = inr (rest has)
before-has (y ∷ h) key x has = inr (before-has h key x has)

-- the law
pub kept : (v : Volume) (h : List Event) → IsLegalInRuns v h → IsKept h
kept v h legal key p q n live pub' set place =
    let s = some_length (facts h) (accepted (export h) key) p (sym pub') in
    let set' = subst (λ m. HasBit m q) s.3 set in
    let i = (accepted-kept v h legal key s.0 q n (not_gone (export h) key.fid live) s.1 set' place).1 in
    subst (λ z. Stands z (holds n h key) ⊎ IsLostAfter h n key z) (sym s.2) (elim i [
      | inl now ↦ inl now
      | inr lost ↦ inr (record {
        lost = lost;
        barred = barred v h legal n key s.0.0 lost.0 lost.1;
        later = λ loss since by l fence has.
            let free = published-free v h legal key s.0 q n s.1 set' place by l fence has in
            below l loss (λ le. let above = enrolled-above v h legal n key s.0.0 loss since by l fence (before-has h key (e.Enroll by n l fence) has) le in omega (arith, free, above));
      })
    ])
  where
    below : (l loss : ℕ) → (loss ≤ l → ⊥) → l < loss
    below l loss never = elim (cases_lt l loss) [ inl k ↦ k | inr k ↦ absurd (never k) ]
