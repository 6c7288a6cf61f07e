-- Where the versions of a replaced node come from, and what an empty answer means.
use Rattle.std.proofs.Common.{ℕ, true, false, ◌≡◌, ◌⊎◌, inl, inr, ◌<◌, List, [], ◌∷◌, Some, None, refl, sym, ◌∙◌, subst}
use Rattle.std.specs.List.{AllByRecursion}
use Rattle.rz_events.specs.Volume.{Volume}
use Rattle.rz_events.specs.declared.keys.Key.{Key}
use Rattle.rz_events.specs.declared.keys.Actor.{Actor}
use Rattle.rz_events.specs.declared.records.Change.{Change}
use Rattle.rz_events.specs.declared.records.Change.TheVariants as change
use Rattle.rz_events.specs.declared.events.Event.{Event}
use Rattle.rz_events.specs.declared.events.Event.TheVariants as e
use Rattle.rz_node_model.specs.Versions.{Stands}
use Rattle.rz_core.specs.History.{Facts, facts}
use Rattle.rz_core.specs.NodeWord.{last_fence, held, undecided}
use Rattle.rz_core.specs.ExportWord.{accepted}
use Rattle.rz_events.specs.Masks.{HasBit}
use Rattle.rz_core.specs.NodeRows.{DidRow}
use Rattle.rz_core.specs.Legal.{IsLegalInRuns}
use Rattle.rz_core.proofs.Extends.{all-changed, all-taken, OfChange, some_length}
use Rattle.rz_core.proofs.Stamps.{export, same_key-true}
use Rattle.rz_safety.specs.Reads.{IsLostSince}
use Rattle.rz_safety.specs.Sound.{IsSoundMiss, IsSound}
use Rattle.rz_safety.specs.Rebuilt.{IsRefillOf, IsRefilled, IsFenced}
use Rattle.rz_core.proofs.NodeLaws.{lost-empty, node, holds, IsRows, rows, undecided-down}
use Rattle.rz_safety.proofs.KeptLaws.{all-stands, accepted-kept, not_gone}
use Rattle.rz_safety.proofs.EndLaws.{read_sound}

abbrev pub IsGood : List Event → Key → ℕ → Type 0
IsGood w key s = (last_fence w < s) ⊎ IsRefilled w key s

all-map : (P Q : ℕ → Type 0) → ((s : ℕ) → P s → Q s) → (now : List ℕ) → AllByRecursion P now → AllByRecursion Q now
all-map P Q more [] all = tt
all-map P Q more (a ∷ now) all = (more a all.0, all-map P Q more now all.1)

did-more : (by : Actor) (m : ℕ) (c : Change) (w : List Event) (key : Key) (s : ℕ) → IsGood w key s → IsGood (e.Did by m c ∷ w) key s
did-more by m c w key s (inl above) = inl above
did-more by m c w key s (inr old) = inr (inr old)

start-more : (m : ℕ) (w : List Event) (key : Key) (s : ℕ) → IsGood w key s → IsGood (e.Start m true ∷ w) key s
start-more m w key s (inl above) = inl above
start-more m w key s (inr old) = inr (inr old)

did-good : (v : Volume) (f : Facts) (w o : List Event) (by : Actor) (m : ℕ) (c : Change) (key : Key) → DidRow v f w o by m c → OfChange (IsGood (e.Did by m c ∷ w) key) key c
did-good v f w o by m (change.Keep k t p) key r = λ q. inl r.keep.fenced
did-good v f w o by m (change.Refill g k t p) key r = λ q. inr (inl (sym (same_key-true key k q), refl))
did-good v f w o by m (change.Drop k t) key r = tt

-- a keep that is left undecided is above the fence
keep-above : (v : Volume) (f : Facts) (w : List Event) → IsRows v f w → (k : Key) (t p : ℕ) → undecided w ≡ Some (change.Keep k t p) → last_fence w < t
keep-above v f [] r k t p u = cc
keep-above v f (e.Broke by m None ∷ w) r k t p u = cc
keep-above v f (e.Broke by m (Some d) ∷ w) r k t p u =
    let same : d ≡ change.Keep k t p = cc in
    (subst (λ z. DidRow v f w r.1.0 by m z) same r.1.2).keep.fenced
keep-above v f (e.Start m took ∷ w) r k t p u = cc
keep-above v f (e.Lose m l ∷ w) r k t p u = cc
keep-above v f (e.Replace by m l g ∷ w) r k t p u = let down = undecided-down v f w r.0 (change.Keep k t p) u in let lost = r.1.2.lost in cc
keep-above v f (x ∷ w) r k t p u = keep-above v f w r.0 k t p u

pending-good : (v : Volume) (f : Facts) (m : ℕ) (w : List Event) → IsRows v f w → (key : Key) (c : Change) → undecided w ≡ Some c → OfChange (IsGood (e.Start m true ∷ w) key) key c
pending-good v f m w r key (change.Keep k t p) u = λ q. inl (keep-above v f w r k t p u)
pending-good v f m w r key (change.Refill g k t p) u = λ q. inr (inl (subst (IsRefillOf key t) (sym u) (sym (same_key-true key k q), refl)))
pending-good v f m w r key (change.Drop k t) u = tt

versions : (v : Volume) (f : Facts) (w : List Event) → IsRows v f w → (key : Key) → AllByRecursion (IsGood w key) (held f w key)
versions v f [] r key = tt
versions v f (e.Did by m c ∷ w) r key =
    all-changed (IsGood (e.Did by m c ∷ w) key) f key c (held f w key) (did-good v f w r.1.0 by m c key r.1.2)
    (all-map (IsGood w key) (IsGood (e.Did by m c ∷ w) key) (did-more by m c w key) (held f w key) (versions v f w r.0 key))
versions v f (e.Start m true ∷ w) r key =
    all-taken (IsGood (e.Start m true ∷ w) key) f key (undecided w) (held f w key) (pending-good v f m w r.0 key)
    (all-map (IsGood w key) (IsGood (e.Start m true ∷ w) key) (start-more m w key) (held f w key) (versions v f w r.0 key))
versions v f (e.Start m false ∷ w) r key = versions v f w r.0 key
versions v f (e.Lose m l ∷ w) r key = tt
versions v f (e.Replace by m l g ∷ w) r key = subst (AllByRecursion (IsGood (e.Replace by m l g ∷ w) key)) (sym (lost-empty v f w r.0 key r.1.2.lost)) tt
versions v f (x ∷ w) r key = versions v f w r.0 key

pub fenced : (v : Volume) (h : List Event) → IsLegalInRuns v h → IsFenced h
fenced v h legal n key s k = all-stands (IsGood (node n h) key) (holds n h key) (versions v (facts h) (node n h) (rows v h legal n) key) s k

-- a fetch of the published stamp from a node of its mask finds none only after a loss
pub absent : (v : Volume) (h : List Event) → IsLegalInRuns v h → (n : ℕ) (key : Key) (s : ℕ) → ¬ Stands s (holds n h key) → IsSoundMiss h n key s
absent v h legal n key s told p q live pub' stamped set place =
    let a = some_length (facts h) (accepted (export h) key) p (sym pub') in
    let same : a.0.0 ≡ s = sym a.2 ∙ stamped in
    subst (λ z. (loss : ℕ) × IsLostSince h n key z loss) same
    (elim (accepted-kept v h legal key a.0 q n (not_gone (export h) key.fid live) a.1 (subst (λ m. HasBit m q) a.3 set) place).1 [
      | inl k ↦ absurd (told (subst (λ z. Stands z (holds n h key)) same k))
      | inr lost ↦ lost
    ])

-- a legal history is sound
pub sound : (v : Volume) (h : List Event) → IsLegalInRuns v h → IsSound v h
sound v [] legal = tt
sound v (e.Got by number key part end ∷ h) legal = (sound v h legal.0, read_sound v by h legal.0 key end legal.1.row.0)
sound v (e.Fetch by n key position s None ∷ h) legal = (sound v h legal.0, absent v h legal.0 n key s legal.1.row.told)
sound v (x ∷ h) legal = (sound v h legal.0, tt)
