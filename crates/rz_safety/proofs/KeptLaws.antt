-- A node of the published mask holds the published stamp, or was lost after it did, and is barred.
use Rattle.std.proofs.Common.{ℕ, Bool, true, false, ◌≡◌, ◌⊎◌, inl, inr, ◌≤◌, ◌<◌, List, [], ◌∷◌, Some, None, cond, refl, sym, ◌∙◌, ap, subst, arith, ◌&&◌, ◌||◌, not, nat_le, nat_lt, slice_get}
use Rattle.std.specs.List.{AllByRecursion}
use Rattle.std.proofs.lemmas.Bool.{eq-eqb, lt-ltb, le-ltb, le-leb, and_parts, cases_lt}
use Rattle.rz_events.specs.Volume.{Volume}
use Rattle.rz_events.specs.declared.keys.Key.{Key}
use Rattle.rz_events.specs.declared.keys.Actor.{Actor}
use Rattle.rz_events.specs.declared.files.FileInfo.{FileInfo}
use Rattle.rz_events.specs.declared.tree.TreeCall.{TreeCall}
use Rattle.rz_events.specs.declared.tree.TreeReply.TheVariants as reply
use Rattle.rz_events.specs.declared.records.Change.{Change}
use Rattle.rz_events.specs.declared.records.Change.TheVariants as change
use Rattle.rz_events.specs.declared.events.Word.TheVariants.{Export}
use Rattle.rz_events.specs.declared.events.Event.{Event}
use Rattle.rz_events.specs.declared.events.Event.TheVariants as e
use Rattle.rz_events.specs.Events.{by_of, word_of, same_actor, same_word, same_key}
use Rattle.rz_node_model.specs.Versions.{kept, refilled, without, IsAbove, Stands, IsPast, greatest}
use Rattle.rz_core.specs.History.{Facts, facts, Begun, wrote, of_word, of_actor, Has, IsPlace}
use Rattle.rz_core.specs.NodeWord.{last_fence, held, changed, base_begun, itself}
use Rattle.rz_export_model.specs.Files.{ends}
use Rattle.rz_core.specs.ExportWord.{latest, accepted, stamp_in, is_newer, is_gone, is_made, is_live}
use Rattle.rz_events.specs.Masks.{HasBit}
use Rattle.rz_core.specs.NodeRows.{HasGone}
use Rattle.rz_core.specs.Legal.{IsLegalInRuns, Row}
use Rattle.rz_core.proofs.Extends.{all-changed, OfChange, IsPlaced, Knows, made-placed, extends-more, place-extends, place-back}
use Rattle.rz_core.proofs.Locality.{all-filter, legal-knows}
use Rattle.rz_core.proofs.Stamps.{export, positive, same_key-true, same_key-refl, begun_by-is, wrote-cases, begun-latest, latest-more, accepted_cases}
use Rattle.rz_safety.specs.Reads.{IsAcked, IsStored, IsLostSince}
use Rattle.rz_safety.proofs.Acked.{acked-accepted}
use Rattle.rz_safety.proofs.EndLaws.{made-more}
use Rattle.rz_core.proofs.NodeLaws.{node, holds, at-node, Fits, IsPair, pairs, filter-has, has-filter}
use Rattle.rz_safety.proofs.NodeLaws.{Told, IsBegun, node-step, holds-step, begun-more, rebuild-acked}

-- what was acknowledged was begun
pub acked-begun : (v : Volume) (h : List Event) → IsLegalInRuns v h → (key : Key) (t : ℕ) → IsAcked h key t → IsBegun h key t
acked-begun v [] legal key t k = absurd k.2
acked-begun v (e.Publish by at stamp mask None ∷ h) legal key t (a, m, inl is) =
    let same : at ≡ key = cc in
    let stamped : stamp ≡ t = cc in
    let w = legal.1.row.publishable.publishing.writer in
    begun-more (e.Publish by at stamp mask None) h key t (w.0, ap (wrote h) (sym stamped) ∙ w.1.found, w.1.key_is ∙ same)
acked-begun v (x ∷ h) legal key t (a, m, inl is) = cc
acked-begun v (x ∷ h) legal key t (a, m, inr has) = begun-more x h key t (acked-begun v h legal.0 key t (a, m, has))

-- a write above the published one began with it as its base
pub bases : (v : Volume) (h : List Event) → IsLegalInRuns v h → (s : ℕ) (b : Begun) (a : ℕ × ℕ) → wrote h s ≡ Some b → accepted (export h) b.key ≡ Some a → a.0 < s → b.base ≡ a.0
bases v [] legal s b a k acc above = cc
bases v (e.Begin by at stamp base text ∷ h) legal s b a k acc above =
    elim (wrote-cases (e.Begin by at stamp base text) h s b k) [
      | inl old ↦ bases v h legal.0 s b a old acc above
      | inr new ↦ (let same = begun_by-is s (e.Begin by at stamp base text) b new in
          let key : at ≡ b.key = cc in
          let is : base ≡ b.base = cc in
          let from : base ≡ stamp_in (accepted (export h) at) = legal.1.row.from in
          sym is ∙ from ∙ ap (λ q. stamp_in (accepted (export h) q)) key ∙ ap stamp_in acc)
    ]
bases v (e.Publish by at stamp mask None ∷ h) legal s b a k acc above =
    elim (wrote-cases (e.Publish by at stamp mask None) h s b k) [
      | inl old ↦ elim (accepted_cases (same_key b.key at && is_newer stamp (accepted (export h) b.key)) stamp mask (accepted (export h) b.key) a acc) [
        | inl here ↦ (let l = begun-latest v h legal.0 s b old in
            let n = subst (λ q. latest (export h) q ≤ stamp) (sym (same_key-true b.key at (and_parts _ _ here.0).0)) legal.1.row.publishable.newest in
            let st = here.1 in absurd (omega arith))
        | inr kept ↦ bases v h legal.0 s b a old kept.1 above
      ]
      | inr new ↦ cc
    ]
bases v (x ∷ h) legal s b a k acc above =
    elim (wrote-cases x h s b k) [ inl old ↦ bases v h legal.0 s b a old acc above | inr new ↦ cc ]

-- the base outlives a keep
kept-stands : (base s : ℕ) (now : List ℕ) → IsPair now → IsAbove s now → Stands base now → Stands base (kept itself base s now)
kept-stands base s [] p above k = absurd k
kept-stands base s (a ∷ []) p above k = inr k
kept-stands base s (a ∷ b ∷ []) p above (inl k) =
    let first : nat_lt base a ≡ false = le-ltb base a (omega arith) in
    rw (first_false (nat_le b base) (nat_lt base a) first) (inr (inl k))
  where
    first_false : (u v : Bool) → v ≡ false → (u && v) ≡ false
    first_false true v e = e
    first_false false v e = refl
kept-stands base s (a ∷ b ∷ []) p above (inr (inl k)) =
    let low : nat_le b base ≡ true = le-leb b base (omega arith) in
    let high : nat_lt base a ≡ true = lt-ltb base a (omega arith) in
    rw (low, high) (inr (inl k))
kept-stands base s (a ∷ b ∷ []) p above (inr (inr k)) = absurd k
kept-stands base s (a ∷ b ∷ c ∷ more) p above k = absurd p

kept-new : (base s : ℕ) (now : List ℕ) → Stands s (kept itself base s now)
kept-new base s [] = inl refl
kept-new base s (a ∷ []) = inl refl
kept-new base s (a ∷ b ∷ more) = elim (nat_le b base && nat_lt base a) as (λ t. Stands s (cond t (s ∷ b ∷ []) (s ∷ a ∷ []))) [ true ↦ inl refl | false ↦ inl refl ]

pub refilled-new : (s : ℕ) (now : List ℕ) → Stands s (refilled itself s now)
refilled-new s [] = inl refl
refilled-new s (a ∷ more) = elim (nat_lt a s) as (λ t. Stands s (cond t (s ∷ a ∷ []) (a ∷ s ∷ []))) [ true ↦ inl refl | false ↦ inr (inl refl) ]

above-stands : (s t : ℕ) (now : List ℕ) → IsAbove t now → Stands s now → s < t
above-stands s t [] above k = absurd k
above-stands s t (a ∷ now) above (inl k) = let l = above.0 in omega arith
above-stands s t (a ∷ now) above (inr k) = above-stands s t now above.1 k

pub all-stands : (P : ℕ → Type 0) (now : List ℕ) → AllByRecursion P now → (s : ℕ) → Stands s now → P s
all-stands P [] all s k = absurd k
all-stands P (a ∷ now) all s (inl is) = subst P is all.0
all-stands P (a ∷ now) all s (inr k) = all-stands P now all.1 s k

-- a refill takes only the lesser of two away
refilled-stands : (t s : ℕ) (now : List ℕ) → IsPair now → Stands s now → ((a : ℕ) → (now ≡ a ∷ s ∷ []) → ⊥) → Stands s (refilled itself t now)
refilled-stands t s [] p k never = absurd k
refilled-stands t s (a ∷ more) p (inl k) never =
    elim (nat_lt a t) as (λ v. Stands s (cond v (t ∷ a ∷ []) (a ∷ t ∷ []))) [ true ↦ inr (inl k) | false ↦ inl k ]
refilled-stands t s (a ∷ []) p (inr k) never = absurd k
refilled-stands t s (a ∷ b ∷ []) p (inr (inl k)) never = absurd (never a (ap (λ z. a ∷ z ∷ []) k))
refilled-stands t s (a ∷ b ∷ []) p (inr (inr k)) never = absurd k
refilled-stands t s (a ∷ b ∷ c ∷ more) p (inr k) never = absurd p

-- the stamps that a node holds were begun on the key
begun-change : (v : Volume) (h : List Event) → IsLegalInRuns v h → (key : Key) (c : Change) → Told h c → OfChange (IsBegun h key) key c
begun-change v h legal key (change.Keep at s position) told = λ t. subst (λ q. IsBegun h q s) (sym (same_key-true key at t)) told
begun-change v h legal key (change.Refill fence at s position) told = λ t. subst (λ q. IsBegun h q s) (sym (same_key-true key at t)) (acked-begun v h legal at s told)
begun-change v h legal key (change.Drop at s) told = tt

all-begun-more : (x : Event) (h : List Event) (key : Key) (now : List ℕ) → AllByRecursion (IsBegun h key) now → AllByRecursion (IsBegun (x ∷ h) key) now
all-begun-more x h key [] all = tt
all-begun-more x h key (a ∷ now) all = (begun-more x h key a all.0, all-begun-more x h key now all.1)

pub held-begun : (v : Volume) (h : List Event) → IsLegalInRuns v h → (n : ℕ) (key : Key) → AllByRecursion (IsBegun h key) (holds n h key)
held-begun v [] legal n key = tt
held-begun v (x ∷ h) legal n key =
    all-begun-more x h key (holds n (x ∷ h) key) (node-step v x h legal n key (AllByRecursion (IsBegun h key))
    (λ c told fits. all-changed (IsBegun h key) (facts h) key c (holds n h key) (begun-change v h legal.0 key c told) (held-begun v h legal.0 n key))
    (λ loss is. tt)
    (held-begun v h legal.0 n key))

pub begun-most : (v : Volume) (h : List Event) → IsLegalInRuns v h → (key : Key) (s : ℕ) → IsBegun h key s → s ≤ latest (export h) key
begun-most v h legal key s b = subst (λ q. s ≤ latest (export h) q) b.2 (begun-latest v h legal s b.0 b.1)

-- a file that is not gone was not gone before
or_right : (u v : Bool) → (u || v) ≡ false → v ≡ false
or_right true v k = cc
or_right false v k = k

pub live-before : (x : Event) (h : List Event) (fid : ℕ) → is_gone (export (x ∷ h)) fid ≡ false → is_gone (export h) fid ≡ false
live-before (e.Meta by call given) h fid live = or_right (ends given fid) (is_gone (export h) fid) live
live-before (x) h fid live = live

gone-has : (w : List Event) (by : Actor) (c : TreeCall) (info : FileInfo) → Has w (e.Meta by c (reply.Gone (Some info))) → is_gone w info.fid ≡ true
gone-has [] by c info has = absurd has
gone-has (e.Meta by' c' given ∷ w) by c info (inl is) =
    let same : given ≡ reply.Gone (Some info) = cc in rw (same, eq-eqb info.fid info.fid refl) refl
gone-has (e.Meta by' c' given ∷ w) by c info (inr has) = or_true (ends given info.fid) (gone-has w by c info has)
  where
    or_true : {v : Bool} (u : Bool) → v ≡ true → (u || v) ≡ true
    or_true true k = refl
    or_true false k = k
gone-has (x ∷ w) by c info (inl is) = cc
gone-has (x ∷ w) by c info (inr has) = gone-has w by c info has

-- nothing of a live file is dropped
live-stays : (h : List Event) (key at : Key) (s t : ℕ) (now : List ℕ) → is_gone (export h) key.fid ≡ false → (by : Actor) → HasGone h by at.fid → Stands s now → Stands s (cond (same_key key at) (without itself t now) now)
live-stays h key at s t now live by (c, info, has, is) k = go (same_key key at) refl
  where
    go : (u : Bool) → same_key key at ≡ u → Stands s (cond u (without itself t now) now)
    go false q = k
    go true q =
        let x = e.Meta by c (reply.Gone (Some info)) in
        let gone = gone-has (export h) by c info (has-filter (λ y. same_word Export (word_of y)) h x refl has) in
        let there : info.fid ≡ key.fid = is ∙ ap (λ (z : Key). z.fid) (sym (same_key-true key at q)) in
        let gone' = subst (λ z. is_gone (export h) z ≡ true) there gone in cc

-- a change that fits leaves the published stamp where it is
pub published-stays : (v : Volume) (h : List Event) → IsLegalInRuns v h → (key : Key) → is_gone (export h) key.fid ≡ false → (c : Change) (now : List ℕ) (a : ℕ × ℕ) → Told h c → Fits (facts h) key c now
    → IsPair now → AllByRecursion (IsBegun h key) now → accepted (export h) key ≡ Some a → Stands a.0 now → Stands a.0 (changed (facts h) key c now)
published-stays v h legal key live (change.Keep at t position) now a told fits pair begun acc k = go (same_key key at) refl
  where
    go : (u : Bool) → same_key key at ≡ u → Stands a.0 (cond u (kept itself (base_begun (facts h) t) t now) now)
    go false q = k
    go true q =
        let above = fits q in
        let lt = above-stands a.0 t now above k in
        let on : told.0.key ≡ key = told.2 ∙ sym (same_key-true key at q) in
        let b = bases v h legal t told.0 a told.1 (ap (accepted (export h)) on ∙ acc) lt in
        rw (told.1, b) (kept-stands a.0 t now pair above k)
published-stays v h legal key live (change.Refill fence at t position) now a told fits pair begun acc k = go (same_key key at) refl
  where
    go : (u : Bool) → same_key key at ≡ u → Stands a.0 (cond u (refilled itself t now) now)
    go false q = k
    go true q =
        let old = acked-accepted v h legal key t (subst (λ z. IsAcked h z t) (sym (same_key-true key at q)) told) in
        let one : old.0 ≡ a = some_is old.0 a (sym old.1 ∙ acc) in
        let le : t ≤ a.0 = subst (λ (z : ℕ × ℕ). t ≤ z.0) one old.2 in
        refilled-stands t a.0 now pair k (λ g two.
        let pair' = subst IsPair two pair in
        let b = (subst (AllByRecursion (IsBegun h key)) two begun).0 in
        let base : b.0.base ≡ a.0 = bases v h legal g b.0 a b.1 (ap (accepted (export h)) b.2 ∙ acc) pair' in
        let ne : ¬ (a.0 ≡ t) = λ same. (fits q).0 (subst (Stands t) (sym two) (inr (inl same))) in
        let lt : t < a.0 = below t a.0 le ne in
        let high : t < g = omega arith in
        let low : a.0 ≤ base_begun (facts h) g = rw b.1 (omega (arith, base)) in
        (fits q).1 (subst (IsPast (base_begun (facts h)) t) (sym two) (high, lt, low)))
      where
        some_is : (x y : ℕ × ℕ) → Some x ≡ Some y → x ≡ y
        some_is x y e = cc

        below : (t s : ℕ) → t ≤ s → ¬ (s ≡ t) → t < s
        below t s le ne = elim (cases_lt t s) [ inl l ↦ l | inr l ↦ absurd (ne (omega arith)) ]
published-stays v h legal key live (change.Drop at t) now a told fits pair begun acc k = live-stays h key at a.0 t now live told.0 told.1 k

-- so does it the newest stamp
newest-stays : (v : Volume) (h : List Event) → IsLegalInRuns v h → (key : Key) → is_gone (export h) key.fid ≡ false → (c : Change) (now : List ℕ) (s : ℕ) → Told h c → Fits (facts h) key c now
    → IsPair now → AllByRecursion (IsBegun h key) now → s ≡ latest (export h) key → Stands s now → Stands s (changed (facts h) key c now)
newest-stays v h legal key live (change.Keep at t position) now s told fits pair begun newest k = go (same_key key at) refl
  where
    go : (u : Bool) → same_key key at ≡ u → Stands s (cond u (kept itself (base_begun (facts h) t) t now) now)
    go false q = k
    go true q =
        let lt = above-stands s t now (fits q) k in
        let l = begun-most v h legal key t (subst (λ z. IsBegun h z t) (sym (same_key-true key at q)) told) in
        absurd (omega (arith, lt, l, newest))
newest-stays v h legal key live (change.Refill fence at t position) now s told fits pair begun newest k = go (same_key key at) refl
  where
    go : (u : Bool) → same_key key at ≡ u → Stands s (cond u (refilled itself t now) now)
    go false q = k
    go true q = refilled-stands t s now pair k (λ g two.
        let pair' = subst IsPair two pair in
        let b = (subst (AllByRecursion (IsBegun h key)) two begun).0 in
        let l = begun-most v h legal key g b in
        omega (arith, pair', l, newest))
newest-stays v h legal key live (change.Drop at t) now s told fits pair begun newest k = live-stays h key at s t now live told.0 told.1 k

-- what was stored was begun
stored-more : (x : Event) (h : List Event) (n : ℕ) (key : Key) (s : ℕ) → IsStored h n key s → IsStored (x ∷ h) n key s
stored-more x h n key s (inl (by, p, has)) = inl (by, p, inr has)
stored-more x h n key s (inr (by, now, has)) = inr (by, now, inr has)

-- it is so by this event, or it was before
abbrev pub IsStoring : Event → ℕ → Key → ℕ → Type 0
IsStoring x n key s = ((by : Actor) × (position : ℕ) × (x ≡ e.Did by n (change.Keep key s position))) ⊎ ((by : Actor) × (now : ℕ) × (x ≡ e.Passed by n key s now))

stored-cases : (x : Event) (h : List Event) (n : ℕ) (key : Key) (s : ℕ) → IsStored (x ∷ h) n key s → IsStored h n key s ⊎ IsStoring x n key s
stored-cases x h n key s (inl (by, p, inl is)) = inr (inl (by, p, is))
stored-cases x h n key s (inl (by, p, inr has)) = inl (inl (by, p, has))
stored-cases x h n key s (inr (by, now, inl is)) = inr (inr (by, now, is))
stored-cases x h n key s (inr (by, now, inr has)) = inl (inr (by, now, has))

storing-begun : (v : Volume) (x : Event) (h : List Event) → IsLegalInRuns v (x ∷ h) → (n : ℕ) (key : Key) (s : ℕ) → IsStoring x n key s → IsBegun h key s
storing-begun v x h legal n key s (inl (by, p, is)) =
    let row = subst (λ y. Row v (facts h) (of_word (word_of y) h) (of_actor (by_of y) h) legal.1.run y) is legal.1.row in
    let i = row.keep.writing.writer in (i.0, i.1.found, i.1.key_is)
storing-begun v x h legal n key s (inr (by, now, is)) =
    elim (subst (λ y. Row v (facts h) (of_word (word_of y) h) (of_actor (by_of y) h) legal.1.run y) is legal.1.row) [
      | inl row ↦ (let i = row.keep.1.writing.writer in (i.0, i.1.found, i.1.key_is))
      | inr row ↦ acked-begun v h legal.0 key s (rebuild-acked v h legal.0 (facts h) by n (last_fence (node n h)) key s row.refill.0 row.refill.1.rebuilding)
    ]

pub stored-begun : (v : Volume) (h : List Event) → IsLegalInRuns v h → (n : ℕ) (key : Key) (s : ℕ) → IsStored h n key s → IsBegun h key s
stored-begun v [] legal n key s (inl k) = absurd k.2
stored-begun v [] legal n key s (inr k) = absurd k.2
stored-begun v (x ∷ h) legal n key s k =
    begun-more x h key s (elim (stored-cases x h n key s k) [
      | inl old ↦ stored-begun v h legal.0 n key s old
      | inr new ↦ storing-begun v x h legal n key s new
    ])

-- a loss stays, and a new one comes after what was stored
lost-more : (x : Event) (h : List Event) (n : ℕ) (key : Key) (s loss : ℕ) → IsLostSince h n key s loss → IsLostSince (x ∷ h) n key s loss
lost-more (e.Lose m l) h n key s loss k = inr k
lost-more (x) h n key s loss k = k

abbrev pub IsLost : List Event → ℕ → Key → ℕ → Type 0
IsLost h n key s = (loss : ℕ) × IsLostSince h n key s loss

lost-new : (x : Event) (h : List Event) (n : ℕ) (key : Key) (s loss : ℕ) → IsStored h n key s → x ≡ e.Lose n loss → IsLost (x ∷ h) n key s
lost-new x h n key s loss k is = (loss, subst (λ y. IsLostSince (y ∷ h) n key s loss) (sym is) (inl (refl, refl, k)))

pub lost-stored : (h : List Event) (n : ℕ) (key : Key) (s loss : ℕ) → IsLostSince h n key s loss → IsStored h n key s
lost-stored [] n key s loss k = absurd k
lost-stored (e.Lose m l ∷ h) n key s loss (inl k) = stored-more (e.Lose m l) h n key s k.2
lost-stored (e.Lose m l ∷ h) n key s loss (inr k) = stored-more (e.Lose m l) h n key s (lost-stored h n key s loss k)
lost-stored (x ∷ h) n key s loss k = stored-more x h n key s (lost-stored h n key s loss k)

-- an event that changes nothing at nodes leaves what they hold
pub pass-holds : (v : Volume) (h : List Event) (by : Actor) (m : ℕ) (key : Key) (s now : ℕ) → IsLegalInRuns v (e.Passed by m key s now ∷ h) → (n : ℕ) (at : Key) → holds n (e.Passed by m key s now ∷ h) at ≡ holds n h at
pass-holds v h by m key s now legal n at =
    let x = e.Passed by m key s now in
    holds-step v x h legal n at ∙ at-node x h n (λ w. held (facts h) w at ≡ held (facts h) (node n h) at) (λ is. refl) refl

publish-holds : (v : Volume) (h : List Event) (by : Actor) (key : Key) (s mask : ℕ) → IsLegalInRuns v (e.Publish by key s mask None ∷ h) → (n : ℕ) (at : Key) → holds n (e.Publish by key s mask None ∷ h) at ≡ holds n h at
publish-holds v h by key s mask legal n at = holds-step v (e.Publish by key s mask None) h legal n at

-- the greatest of stamps that are at most s is s where it is at least s
greatest-stands : (s : ℕ) (now : List ℕ) → 1 ≤ s → AllByRecursion (λ t. t ≤ s) now → s ≤ greatest now → Stands s now
greatest-stands s [] one all l = absurd (omega arith)
greatest-stands s (a ∷ now) one all l = let m = all.0 in inl (omega arith)

past-top : (f : Facts) (s : ℕ) (now : List ℕ) → AllByRecursion (λ t. t ≤ s) now → IsPast (base_begun f) s now → Stands s now
past-top f s [] all p = absurd p
past-top f s (a ∷ []) all p = absurd p
past-top f s (a ∷ b ∷ more) all p = let l = p.0 in let m = all.0 in absurd (omega arith)

all-most : (v : Volume) (h : List Event) → IsLegalInRuns v h → (key : Key) (s : ℕ) → s ≡ latest (export h) key → (now : List ℕ) → AllByRecursion (IsBegun h key) now → AllByRecursion (λ t. t ≤ s) now
all-most v h legal key s newest [] all = tt
all-most v h legal key s newest (a ∷ now) all =
    let l = begun-most v h legal key a all.0 in ((omega (arith, l, newest)), all-most v h legal key s newest now all.1)

-- a keep or pass of the newest stamp leaves it held
storing-holds : (v : Volume) (x : Event) (h : List Event) → IsLegalInRuns v (x ∷ h) → (n : ℕ) (key : Key) (s : ℕ) → s ≡ latest (export h) key → IsStoring x n key s → Stands s (holds n (x ∷ h) key)
storing-holds v x h legal n key s newest (inl (by, p, is)) = go x is legal
  where
    go : (x : Event) → x ≡ e.Did by n (change.Keep key s p) → IsLegalInRuns v (x ∷ h) → Stands s (holds n (x ∷ h) key)
    go (e.Did by' m (change.Keep at t place)) is legal =
        let en : m ≡ n = cc in
        let ek : at ≡ key = cc in
        let es : t ≡ s = cc in
        rw (en, ek, es, eq-eqb n n refl, same_key-refl key) (kept-new (base_begun (facts (e.Did by' n (change.Keep key s place) ∷ h)) s) s (held (facts (e.Did by' n (change.Keep key s place) ∷ h)) (node n h) key))
    go (y) is legal = cc
storing-holds v x h legal n key s newest (inr (by, now, is)) =
    let legal' = subst (λ y. IsLegalInRuns v (y ∷ h)) is legal in
    let begun = storing-begun v (e.Passed by n key s now) h legal' n key s (inr (by, now, refl)) in
    let one = positive v h legal'.0 s begun.0 begun.1 in
    let all = all-most v h legal'.0 key s newest (holds n h key) (held-begun v h legal'.0 n key) in
    let there : Stands s (holds n h key) = elim legal'.1.row [
      | inl row ↦ greatest-stands s (holds n h key) one all (subst (λ z. s ≤ z) row.now_is row.above)
      | inr row ↦ elim row.past [ inl k ↦ k | inr p ↦ past-top (facts h) s (holds n h key) all p ]
    ] in
    subst (λ y. Stands s (holds n (y ∷ h) key)) (sym is) (subst (Stands s) (sym (pass-holds v h by n key s now legal' n key)) there)

-- a node that kept or passed the newest write of a key holds it, or was lost since
pub newest-kept : (v : Volume) (h : List Event) → IsLegalInRuns v h → (n : ℕ) (key : Key) (s : ℕ) → is_gone (export h) key.fid ≡ false → IsStored h n key s → s ≡ latest (export h) key → Stands s (holds n h key) ⊎ IsLost h n key s
newest-kept v [] legal n key s live k newest = absurd (elim k [ inl (by, p, has) ↦ has | inr (by, p, has) ↦ has ])
newest-kept v (x ∷ h) legal n key s live k newest =
    let was = live-before x h key.fid live in
    elim (stored-cases x h n key s k) [
      | inl old ↦ (let top = still (stored-begun v h legal.0 n key s old) in
          elim (newest-kept v h legal.0 n key s was old top) [
            | inl holds' ↦ node-step v x h legal n key (λ now. Stands s now ⊎ IsLost (x ∷ h) n key s)
                (λ c told fits. inl (newest-stays v h legal.0 key was c (holds n h key) s told fits (pairs v h legal.0 n key) (held-begun v h legal.0 n key) top holds'))
                (λ loss is. inr (lost-new x h n key s loss old is))
                (inl holds')
            | inr lost ↦ inr (lost.0, lost-more x h n key s lost.0 lost.1)
          ])
      | inr new ↦ inl (storing-holds v x h legal n key s (still (storing-begun v x h legal n key s new)) new)
    ]
  where
    still : IsBegun h key s → s ≡ latest (export h) key
    still b = let l = begun-most v h legal.0 key s b in let m = latest-more v x h legal key in omega (arith, l, m, newest)

pub place-unique : (f : Facts) (fid p m n : ℕ) → IsPlace f fid p m → IsPlace f fid p n → m ≡ n
place-unique f fid p m n (i, a, b) (j, c, d) =
    let same : i ≡ j = cc in
    let one : slice_get i p ≡ Some n = subst (λ z. slice_get z p ≡ Some n) (sym same) d in cc

-- a further event leaves the published stamp at a node that holds it, or is its loss
pub published-step : (v : Volume) (x : Event) (h : List Event) → IsLegalInRuns v (x ∷ h) → (key : Key) (a : ℕ × ℕ) (n : ℕ) → is_gone (export h) key.fid ≡ false → accepted (export h) key ≡ Some a
    → IsStored h n key a.0 → Stands a.0 (holds n h key) ⊎ IsLost h n key a.0 → Stands a.0 (holds n (x ∷ h) key) ⊎ IsLost (x ∷ h) n key a.0
published-step v x h legal key a n live acc stored (inl k) =
    node-step v x h legal n key (λ now. Stands a.0 now ⊎ IsLost (x ∷ h) n key a.0)
    (λ c told fits. inl (published-stays v h legal.0 key live c (holds n h key) a told fits (pairs v h legal.0 n key) (held-begun v h legal.0 n key) acc k))
    (λ loss is. inr (lost-new x h n key a.0 loss stored is))
    (inl k)
published-step v x h legal key a n live acc stored (inr lost) = inr (lost.0, lost-more x h n key a.0 lost.0 lost.1)

-- the file of a published block was made
pub accepted-made : (v : Volume) (h : List Event) → IsLegalInRuns v h → (key : Key) (a : ℕ × ℕ) → accepted (export h) key ≡ Some a → is_made (export h) key.fid ≡ true
accepted-made v [] legal key a acc = cc
accepted-made v (e.Publish by at stamp mask None ∷ h) legal key a acc =
    elim (accepted_cases (same_key key at && is_newer stamp (accepted (export h) key)) stamp mask (accepted (export h) key) a acc) [
      | inl here ↦ (let same = same_key-true key at (and_parts _ _ here.0).0 in
          let made : is_made (export h) at.fid ≡ true = (and_parts (is_made (export h) at.fid) (not (is_gone (export h) at.fid)) legal.1.row.publishable.live).0 in
          subst (λ (z : Key). is_made (export h) z.fid ≡ true) (sym same) made)
      | inr old ↦ accepted-made v h legal.0 key a old.1
    ]
accepted-made v (x ∷ h) legal key a acc = made-more (x ∷ []) h key.fid (accepted-made v h legal.0 key a acc)

-- so its places were known
pub accepted-placed : (v : Volume) (h : List Event) → IsLegalInRuns v h → (key : Key) (a : ℕ × ℕ) → accepted (export h) key ≡ Some a → IsPlaced (facts h) key.fid
accepted-placed v h legal key a acc =
    made-placed (facts h) (export h) key.fid
    (all-filter (Knows (facts h)) (λ y. same_word Export (word_of y)) h (legal-knows v h legal)) (accepted-made v h legal key a acc)

-- and are the same after a further event
pub place-before : (v : Volume) (x : Event) (h : List Event) → IsLegalInRuns v h → (key : Key) (a : ℕ × ℕ) (q n : ℕ) → accepted (export h) key ≡ Some a
    → IsPlace (facts (x ∷ h)) key.fid q n → IsPlace (facts h) key.fid q n
place-before v x h legal key a q n acc place =
    place-back (facts h) (facts (x ∷ h)) (extends-more (x ∷ []) h) key.fid q n (accepted-placed v h legal key a acc) place

-- a file that is live is not gone
pub not_gone : (w : List Event) (fid : ℕ) → is_live w fid ≡ true → is_gone w fid ≡ false
not_gone w fid live = go (is_gone w fid) (and_parts (is_made w fid) (not (is_gone w fid)) live).1
  where
    go : (t : Bool) → not t ≡ true → t ≡ false
    go true k = cc
    go false k = refl

-- what is published was kept or passed by each node of its mask, and is held or was lost
pub accepted-kept : (v : Volume) (h : List Event) → IsLegalInRuns v h → (key : Key) (a : ℕ × ℕ) (q n : ℕ) → is_gone (export h) key.fid ≡ false → accepted (export h) key ≡ Some a → HasBit a.1 q → IsPlace (facts h) key.fid q n
    → IsStored h n key a.0 × (Stands a.0 (holds n h key) ⊎ IsLost h n key a.0)
accepted-kept v [] legal key a q n live acc set place = cc
accepted-kept v (e.Publish by at stamp mask None ∷ h) legal key a q n live acc set place =
    let x = e.Publish by at stamp mask None in
    elim (accepted_cases (same_key key at && is_newer stamp (accepted (export h) key)) stamp mask (accepted (export h) key) a acc) [
      | inl here ↦ (let same = same_key-true key at (and_parts _ _ here.0).0 in
          let k = legal.1.row.publishable.publishing.kept q (subst (λ m. HasBit m q) (sym here.2) set) in
          let w = legal.1.row.publishable.publishing.writer in
          let l = begun-most v h legal.0 at stamp (w.0, w.1.found, w.1.key_is) in
          let top : stamp ≡ latest (export h) at = omega (arith, l, legal.1.row.publishable.newest) in
          let k' = place-extends (facts h) (facts (x ∷ h)) (extends-more (x ∷ []) h) at.fid q k.0 k.1 in
          let there : n ≡ k.0 = place-unique (facts (x ∷ h)) at.fid q n k.0 (subst (λ (z : Key). IsPlace (facts (x ∷ h)) z.fid q n) same place) k' in
          let stored : IsStored h k.0 at stamp = elim k.2 [
            | inl did ↦ inl (by, q, filter-has (λ y. same_actor by (by_of y)) h (e.Did by k.0 (change.Keep at stamp q)) did)
            | inr passed ↦ inr (by, passed.0, filter-has (λ y. same_actor by (by_of y)) h (e.Passed by k.0 at stamp passed.0) passed.1)
          ] in
          let i = newest-kept v h legal.0 k.0 at stamp (not_gone (export h) at.fid legal.1.row.publishable.live) stored top in
          let done : IsStored (x ∷ h) k.0 at stamp × (Stands stamp (holds k.0 (x ∷ h) at) ⊎ IsLost (x ∷ h) k.0 at stamp) = (
            stored-more x h k.0 at stamp stored,
            elim i [
              | inl now ↦ inl (subst (Stands stamp) (sym (publish-holds v h by at stamp mask legal k.0 at)) now)
              | inr lost ↦ inr lost
            ],
          ) in
          let on_node = subst (λ m. IsStored (x ∷ h) m at stamp × (Stands stamp (holds m (x ∷ h) at) ⊎ IsLost (x ∷ h) m at stamp)) (sym there) done in
          let on_key = subst (λ r. IsStored (x ∷ h) n r stamp × (Stands stamp (holds n (x ∷ h) r) ⊎ IsLost (x ∷ h) n r stamp)) (sym same) on_node in
          subst (λ s. IsStored (x ∷ h) n key s × (Stands s (holds n (x ∷ h) key) ⊎ IsLost (x ∷ h) n key s)) here.1 on_key)
      | inr old ↦ (let i = accepted-kept v h legal.0 key a q n live old.1 set (place-before v x h legal.0 key a q n old.1 place) in
          (stored-more x h n key a.0 i.0, published-step v x h legal key a n live old.1 i.0 i.1))
    ]
accepted-kept v (x ∷ h) legal key a q n live acc set place =
    let was = live-before x h key.fid live in
    let i = accepted-kept v h legal.0 key a q n was acc set (place-before v x h legal.0 key a q n acc place) in
    (stored-more x h n key a.0 i.0, published-step v x h legal key a n was acc i.0 i.1)

-- each begin above a publish came after it, with a base of at least its stamp
pub base-of-later : (v : Volume) (h : List Event) → IsLegalInRuns v h → (key : Key) (s t : ℕ) (b : Begun) → IsAcked h key s → wrote h t ≡ Some b → b.key ≡ key → s < t → s ≤ b.base
base-of-later v [] legal key s t b acked w on above = cc
base-of-later v (e.Begin by at stamp base text ∷ h) legal key s t b (a, m, inl is) w on above = cc
base-of-later v (e.Begin by at stamp base text ∷ h) legal key s t b (a, m, inr has) w on above =
    elim (wrote-cases (e.Begin by at stamp base text) h t b w) [
      | inl old ↦ base-of-later v h legal.0 key s t b (a, m, has) old on above
      | inr new ↦ (let same = begun_by-is t (e.Begin by at stamp base text) b new in
          let there : at ≡ b.key = cc in
          let is : base ≡ b.base = cc in
          let from : base ≡ stamp_in (accepted (export h) at) = legal.1.row.from in
          let i = acked-accepted v h legal.0 key s (a, m, has) in
          let eq : base ≡ i.0.0 = from ∙ ap (λ q. stamp_in (accepted (export h) q)) (there ∙ on) ∙ ap stamp_in i.1 in
          let l = i.2 in omega (arith, eq, is, l))
    ]
base-of-later v (e.Publish by at stamp mask None ∷ h) legal key s t b (a, m, inl is) w on above =
    let same : at ≡ key = cc in
    let stamped : stamp ≡ s = cc in
    elim (wrote-cases (e.Publish by at stamp mask None) h t b w) [
      | inl old ↦ (let l = begun-most v h legal.0 key t (b, old, on) in
          let n = subst (λ q. latest (export h) q ≤ stamp) same legal.1.row.publishable.newest in absurd (omega (arith, l, n, stamped, above)))
      | inr new ↦ cc
    ]
base-of-later v (x ∷ h) legal key s t b (a, m, inl is) w on above = cc
base-of-later v (x ∷ h) legal key s t b (a, m, inr has) w on above =
    elim (wrote-cases x h t b w) [ inl old ↦ base-of-later v h legal.0 key s t b (a, m, has) old on above | inr new ↦ cc ]
