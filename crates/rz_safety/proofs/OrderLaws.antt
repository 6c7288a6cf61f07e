-- In which order numbers and calls come.
use Rattle.std.proofs.Common.{ℕ, Bool, true, false, ◌≡◌, ◌⊎◌, inl, inr, ◌≤◌, ◌+◌, List, [], ◌∷◌, Some, None, cond, refl, sym, ◌∙◌, ap, subst, arith}
use Rattle.std.specs.List.{filter}
use Rattle.rz_events.specs.Volume.{Volume}
use Rattle.rz_events.specs.declared.keys.Key.{Key}
use Rattle.rz_events.specs.declared.keys.Actor.{Actor}
use Rattle.rz_events.specs.declared.nodes.Phase.TheVariants.{Lost}
use Rattle.rz_events.specs.declared.events.Word.TheVariants.{Export, Node}
use Rattle.rz_events.specs.declared.events.Event.{Event}
use Rattle.rz_events.specs.declared.events.Event.TheVariants as e
use Rattle.rz_events.specs.Events.{by_of, word_of, same_actor, same_word}
use Rattle.rz_core.specs.History.{Has}
use Rattle.rz_core.specs.NodeWord.{phase, losses}
use Rattle.rz_core.specs.ExportWord.{last_drawn, latest, stamp_in, enrolled}
use Rattle.rz_core.specs.Legal.{IsLegalInRuns}
use Rattle.rz_core.proofs.Stamps.{export, last_drawn-more, latest-drawn, latest-more, accepted-latest, greater-left, same_key-refl}
use Rattle.rz_safety.specs.Order.{IsBegun, IsNew, AreRising, IsMendedInOrder, IsOrdered}
use Rattle.rz_safety.specs.Reads.{IsAcked}
use Rattle.rz_safety.proofs.Acked.{acked-accepted}
use Rattle.rz_core.proofs.NodeLaws.{node, same_word-true, node-row, filter-has}
use Rattle.rz_core.proofs.EnrollLaws.{enrolled-has, new_cases}

stamp-drawn : (v : Volume) (h : List Event) → IsLegalInRuns v h → (by : Actor) (key : Key) (s base : ℕ) (text : List ℕ) → Has h (e.Begin by key s base text) → s ≤ last_drawn (export h)
stamp-drawn v [] legal by key s base text has = absurd has
stamp-drawn v (x ∷ h) legal by key s base text (inl is) = subst (λ y. s ≤ last_drawn (export (y ∷ h))) (sym is) (omega arith)
stamp-drawn v (x ∷ h) legal by key s base text (inr has) =
    let i = stamp-drawn v h legal.0 by key s base text has in let m = last_drawn-more v x h legal in omega (arith, i, m)

fence-drawn : (v : Volume) (h : List Event) → IsLegalInRuns v h → (by : Actor) (node loss s : ℕ) → Has h (e.Enroll by node loss s) → s ≤ last_drawn (export h)
fence-drawn v [] legal by node loss s has = absurd has
fence-drawn v (x ∷ h) legal by node loss s (inl is) = subst (λ y. s ≤ last_drawn (export (y ∷ h))) (sym is) (greater-left s (last_drawn (export h)))
fence-drawn v (x ∷ h) legal by node loss s (inr has) =
    let i = fence-drawn v h legal.0 by node loss s has in let m = last_drawn-more v x h legal in omega (arith, i, m)

next-new : (v : Volume) (h : List Event) → IsLegalInRuns v h → (n : ℕ) → n ≡ last_drawn (export h) + 1 → IsNew h n
next-new v h legal n is s (inl (by, key, base, text, has)) = let d = stamp-drawn v h legal by key s base text has in omega (arith, d, is)
next-new v h legal n is s (inr (by, node, loss, has)) = let d = fence-drawn v h legal by node loss s has in omega (arith, d, is)

pub rising : (v : Volume) (h : List Event) → IsLegalInRuns v h → AreRising h
rising v [] legal = tt
rising v (e.Begin by key stamp base text ∷ h) legal = (rising v h legal.0, next-new v h legal.0 stamp legal.1.row.next)
rising v (e.Enroll by n loss fence ∷ h) legal = (
  rising v h legal.0,
  elim (new_cases (enrolled (export h) n loss) (last_drawn (export h)) fence legal.1.row.fence_is) [
    | inl old ↦ (let i = enrolled-has (export h) n loss fence old in inl (i.0, filter-has (λ y. same_word Export (word_of y)) h (e.Enroll i.0 n loss fence) i.1))
    | inr new ↦ inr (next-new v h legal.0 fence new)
  ],
)
rising v (x ∷ h) legal = rising v h legal.0

-- what a filter leaves passes it
filter-passes : (p : Event → Bool) (h : List Event) (x : Event) → Has (filter p h) x → p x ≡ true
filter-passes p [] x has = absurd has
filter-passes p (y ∷ h) x has = go (filter-passes p h x) (p y) refl has
  where
    go : (Has (filter p h) x → p x ≡ true) → (t : Bool) → p y ≡ t → Has (cond t (y ∷ filter p h) (filter p h)) x → p x ≡ true
    go rest true q (inl is) = ap p (sym is) ∙ q
    go rest true q (inr has) = rest has
    go rest false q has = rest has

-- a lost node has the loss in its word
loss-there : (w : List Event) → phase w ≡ Lost → (m : ℕ) × Has w (e.Lose m (losses w))
loss-there [] lost = cc
loss-there (e.Lose m l ∷ w) lost = (m, inl refl)
loss-there (e.Broke by m c ∷ w) lost = cc
loss-there (e.Stop m ∷ w) lost = cc
loss-there (e.Start m took ∷ w) lost = cc
loss-there (e.Replace by m l g ∷ w) lost = cc
loss-there (x ∷ w) lost = let i = loss-there w lost in (i.0, inr i.1)

node_is : (m n : ℕ) → Node m ≡ Node n → m ≡ n
node_is m n q = cc

lost-has : (h : List Event) (n : ℕ) → phase (node n h) ≡ Lost → Has h (e.Lose n (losses (node n h)))
lost-has h n lost =
    let i = loss-there (node n h) lost in
    let x = e.Lose i.0 (losses (node n h)) in
    let here = node_is i.0 n (same_word-true n (Node i.0) (filter-passes (λ y. same_word (Node n) (word_of y)) h x i.1)) in
    subst (λ z. Has h (e.Lose z (losses (node n h)))) here (filter-has (λ y. same_word (Node n) (word_of y)) h x i.1)

-- a probe that told a loss came after it
probed-lost : (v : Volume) (h : List Event) → IsLegalInRuns v h → (by : Actor) (n loss : ℕ) → Has h (e.Probe by n (Some loss)) → Has h (e.Lose n loss)
probed-lost v [] legal by n loss has = absurd has
probed-lost v (x ∷ h) legal by n loss (inr has) = inr (probed-lost v h legal.0 by n loss has)
probed-lost v (x ∷ h) legal by n loss (inl is) =
    let legal' = subst (λ y. IsLegalInRuns v (y ∷ h)) is legal in
    let row = node-row v (e.Probe by n (Some loss)) h n legal' refl in
    inr (subst (λ l. Has h (e.Lose n l)) (sym row.1) (lost-has h n row.0))

pub mended : (v : Volume) (h : List Event) → IsLegalInRuns v h → IsMendedInOrder h
mended v [] legal = tt
mended v (e.Enroll by n loss fence ∷ h) legal =
    (mended v h legal.0, probed-lost v h legal.0 by n loss (filter-has (λ y. same_actor by (by_of y)) h (e.Probe by n (Some loss)) legal.1.row.probed))
mended v (e.Replace by n loss fence ∷ h) legal =
    (mended v h legal.0, filter-has (λ y. same_actor by (by_of y)) h (e.Enroll by n loss fence) legal.1.row.enrolled)
mended v (x ∷ h) legal = mended v h legal.0

-- a write that began, or was acknowledged, is at most the newest of its key

begun-most : (v : Volume) (h : List Event) → IsLegalInRuns v h → (by : Actor) (key : Key) (s base : ℕ) (text : List ℕ) → Has h (e.Begin by key s base text) → s ≤ latest (export h) key
begun-most v [] legal by key s base text has = absurd has
begun-most v (x ∷ h) legal by key s base text (inl is) =
    subst (λ y. s ≤ latest (export (y ∷ h)) key) (sym is) (subst (λ (t : Bool). s ≤ cond t s (latest (export h) key)) (sym (same_key-refl key)) (omega arith))
begun-most v (x ∷ h) legal by key s base text (inr has) =
    let i = begun-most v h legal.0 by key s base text has in let m = latest-more v x h legal key in omega (arith, i, m)

known-latest : (v : Volume) (h : List Event) → IsLegalInRuns v h → (key : Key) (s : ℕ) → IsAcked h key s ⊎ IsBegun h key s → s ≤ latest (export h) key
known-latest v h legal key s (inl acked) =
    let i = acked-accepted v h legal key s acked in let l = accepted-latest v h legal key i.0 i.1 in let le = i.2 in omega (arith, le, l)
known-latest v h legal key s (inr (by, base, text, has)) = begun-most v h legal by key s base text has

pub ordered : (v : Volume) (h : List Event) → IsLegalInRuns v h → IsOrdered h
ordered v [] legal = tt
ordered v (e.Begin by key stamp base text ∷ h) legal = (
  ordered v h legal.0,
  λ s acked.
      let i = acked-accepted v h legal.0 key s acked in
      let eq : base ≡ i.0.0 = legal.1.row.from ∙ ap stamp_in i.1 in
      let l = accepted-latest v h legal.0 key i.0 i.1 in
      let d = latest-drawn v h legal.0 key in
      let n = legal.1.row.next in
      let le = i.2 in
      (omega (arith, eq, le), omega (arith, le, l, d, n)),
)
ordered v (e.Publish by key stamp mask None ∷ h) legal = (
  ordered v h legal.0,
  λ s before.
      let l = known-latest v h legal.0 key s before in
      let n = legal.1.row.publishable.newest in
      omega (arith, l, n),
)
ordered v (x ∷ h) legal = ordered v h legal.0
