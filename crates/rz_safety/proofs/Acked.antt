-- What was acknowledged, and what is accepted.
use Rattle.std.proofs.Common.{ℕ, Bool, true, false, ◌≡◌, ◌⊎◌, inl, inr, ◌≤◌, ◌<◌, List, [], ◌∷◌, ◌++◌, Option, Some, None, cond, refl, sym, subst, arith, ◌&&◌, nat_lt}
use Rattle.std.proofs.lemmas.Bool.{and_parts, ltb-true, lt-ltb}
use Rattle.rz_events.specs.Volume.{Volume}
use Rattle.rz_events.specs.declared.keys.Key.{Key}
use Rattle.rz_events.specs.declared.events.Event.{Event}
use Rattle.rz_events.specs.declared.events.Event.TheVariants as e
use Rattle.rz_events.specs.Events.{same_key}
use Rattle.rz_core.specs.ExportWord.{accepted, is_newer}
use Rattle.rz_core.specs.Legal.{IsLegalInRuns}
use Rattle.rz_core.proofs.Stamps.{export, same_key-true, same_key-refl, cases_le, accepted_cases}
use Rattle.rz_safety.specs.Reads.{IsAcked}

-- an accepted publish leaves what was accepted, or comes in its place
acked_then : (t : Bool) (stamp mask : ℕ) (old : Option (ℕ × ℕ)) → is_newer stamp old ≡ t
    → (a : ℕ × ℕ) × (cond t (Some (stamp, mask)) old ≡ Some a) × (stamp ≤ a.0)
acked_then true stamp mask old n = ((stamp, mask), refl, omega arith)
acked_then false stamp mask None n = cc
acked_then false stamp mask (Some a) n = (a, refl, low (cases_le a.0 stamp))
  where
    low : (stamp ≤ a.0) ⊎ (a.0 < stamp) → stamp ≤ a.0
    low (inl l) = l
    low (inr l) = let w = lt-ltb a.0 stamp l in cc

acked_more : (u : Bool) (stamp mask t : ℕ) (old : Option (ℕ × ℕ))
    → (a : ℕ × ℕ) × (old ≡ Some a) × (t ≤ a.0)
    → (a : ℕ × ℕ) × (cond (u && is_newer stamp old) (Some (stamp, mask)) old ≡ Some a) × (t ≤ a.0)
acked_more false stamp mask t old before = before
acked_more true stamp mask t (Some b) (a, is, l) =
    let same : b ≡ a = cc in
    let l2 : t ≤ b.0 = subst (λ (z : ℕ × ℕ). t ≤ z.0) (sym same) l in go (nat_lt b.0 stamp) refl l2
  where
    go : (v : Bool) → nat_lt b.0 stamp ≡ v → t ≤ b.0 → (c : ℕ × ℕ) × (cond v (Some (stamp, mask)) (Some b) ≡ Some c) × (t ≤ c.0)
    go true q l2 = let w = ltb-true b.0 stamp q in ((stamp, mask), refl, omega arith)
    go false q l2 = (b, refl, l2)
acked_more true stamp mask t None (a, is, l) = cc

-- what was acknowledged is at most what is accepted now
pub acked-accepted : (v : Volume) (h : List Event) → IsLegalInRuns v h → (key : Key) (t : ℕ) → IsAcked h key t → (a : ℕ × ℕ) × (accepted (export h) key ≡ Some a) × (t ≤ a.0)
acked-accepted v [] legal key t k = absurd k.2
acked-accepted v (e.Publish by at stamp mask None ∷ h) legal key t k =
    elim k.2 [
      | inl here ↦ (let same : at ≡ key = cc in let stamped : stamp ≡ t = cc in
          rw (same, same_key-refl key) (subst (λ z. (a : ℕ × ℕ) × (cond (is_newer stamp (accepted (export h) key)) (Some (stamp, mask)) (accepted (export h) key) ≡ Some a) × (z ≤ a.0)) stamped (acked_then (is_newer stamp (accepted (export h) key)) stamp mask (accepted (export h) key) refl)))
      | inr old ↦ acked_more (same_key key at) stamp mask t (accepted (export h) key) (acked-accepted v h legal.0 key t (k.0, k.1, old))
    ]
acked-accepted v (x ∷ h) legal key t k =
    elim k.2 [
      | inl here ↦ cc
      | inr old ↦ acked-accepted v h legal.0 key t (k.0, k.1, old)
    ]

pub accepted-acked : (h : List Event) → (key : Key) (a : ℕ × ℕ) → accepted (export h) key ≡ Some a → IsAcked h key a.0
accepted-acked [] key a k = cc
accepted-acked (e.Publish by at stamp mask None ∷ h) key a k =
    elim (accepted_cases (same_key key at && is_newer stamp (accepted (export h) key)) stamp mask (accepted (export h) key) a k) [
      | inl here ↦ (let same = same_key-true key at (and_parts _ _ here.0).0 in (by, mask, inl (cc)))
      | inr old ↦ (let i = accepted-acked h key a old.1 in (i.0, i.1, inr i.2))
    ]
accepted-acked (x ∷ h) key a k = let i = accepted-acked h key a k in (i.0, i.1, inr i.2)

pub acked-more : (more h : List Event) (key : Key) (s : ℕ) → IsAcked h key s → IsAcked (more ++ h) key s
acked-more [] h key s k = k
acked-more (x ∷ more) h key s k = let i = acked-more more h key s k in (i.0, i.1, inr i.2)
