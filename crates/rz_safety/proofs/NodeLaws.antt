-- What the events of a node leave at it, step by step.
use Rattle.std.proofs.Common.{ℕ, true, false, ◌≡◌, ◌⊎◌, inl, inr, List, [], ◌∷◌, Option, Some, None, refl, sym, ◌∙◌, ap, subst}
use Rattle.std.specs.List.{AllByRecursion}
use Rattle.rz_events.specs.Volume.{Volume}
use Rattle.rz_events.specs.declared.keys.Key.{Key}
use Rattle.rz_events.specs.declared.keys.Actor.{Actor}
use Rattle.rz_events.specs.declared.files.Listed.{Listed}
use Rattle.rz_events.specs.declared.tree.TreeReply.TheVariants as reply
use Rattle.rz_events.specs.declared.records.Change.{Change}
use Rattle.rz_events.specs.declared.records.Change.TheVariants as change
use Rattle.rz_events.specs.declared.events.Word.TheVariants.{Node}
use Rattle.rz_events.specs.declared.events.Event.{Event}
use Rattle.rz_events.specs.declared.events.Event.TheVariants as e
use Rattle.rz_events.specs.Events.{by_of, word_of, same_actor, same_word}
use Rattle.rz_core.specs.History.{Facts, facts, Begun, wrote, of_word, of_actor, Has}
use Rattle.rz_core.specs.Own.{is_next}
use Rattle.rz_core.specs.NodeWord.{held, changed, settled, undecided}
use Rattle.rz_core.specs.ExportWord.{accepted}
use Rattle.rz_core.specs.NodeRows.{DidRow, IsRebuilding, HasGone}
use Rattle.rz_core.specs.Legal.{IsLegalInRuns, Row}
use Rattle.rz_core.proofs.Extends.{extends-more, wrote-more, held-extends, Knows, last-has, some_length}
use Rattle.rz_core.proofs.Locality.{all-filter, legal-knows, KnowsBefore, row-knows}
use Rattle.rz_core.proofs.Stamps.{export}
use Rattle.rz_safety.specs.Reads.{IsAcked}
use Rattle.rz_safety.proofs.Acked.{accepted-acked}
use Rattle.rz_core.proofs.NodeLaws.{node, holds, at-node, node-row, rows, Fits, did-fits, pending-fits, filter-has}

-- what a next listed was acknowledged
pub nexted : (v : Volume) (h : List Event) → IsLegalInRuns v h → (by : Actor) (m : ℕ) (after : Option Key) (l : Listed) → Has h (e.Next by m after (Some l)) → IsAcked h l.key l.published.stamp
nexted v [] legal by m after l has = absurd has
nexted v (e.Next by' m' after' (Some l') ∷ h) legal by m after l (inl is) =
    let same : l' ≡ l = cc in
    let a = some_length (facts h) (accepted (export h) l'.key) l'.published legal.1.row.listed.told in
    let k = accepted-acked h l'.key a.0 a.1 in
    let k' = subst (λ s. IsAcked h l'.key s) (sym a.2) k in
    let r = subst (λ (z : Listed). IsAcked h z.key z.published.stamp) same k' in
    (r.0, r.1, inr r.2)
nexted v (x ∷ h) legal by m after l (inl is) = cc
nexted v (x ∷ h) legal by m after l (inr has) = let r = nexted v h legal.0 by m after l has in (r.0, r.1, inr r.2)

pub rebuild-acked : (v : Volume) (h : List Event) → IsLegalInRuns v h → (f : Facts) (by : Actor) (n fence : ℕ) (key : Key) (s p : ℕ) → IsRebuilding v f (of_actor by h) by n fence key s p → IsAcked h key s
rebuild-acked v h legal f by n fence key s p r =
    let (m, l, is, stamped) = r.next in
    let x = e.Next by m is.after.0 (Some l) in
    let has = filter-has (λ y. same_actor by (by_of y)) h x (last-has is_next (of_actor by h) x is.after.1) in
    subst (λ z. IsAcked h key z) stamped (subst (λ q. IsAcked h q l.published.stamp) is.key_is (nexted v h legal by m is.after.0 l has))

-- what the log says of the stamp of a change
abbrev pub IsBegun : List Event → Key → ℕ → Type 0
IsBegun h key s = (b : Begun) × (wrote h s ≡ Some b) × (b.key ≡ key)

abbrev pub Told : List Event → Change → Type 0
Told h (change.Keep at s position) = IsBegun h at s
Told h (change.Refill fence at s position) = IsAcked h at s
Told h (change.Drop at s) = (by : Actor) × HasGone h by at.fid

pub begun-more : (x : Event) (h : List Event) (key : Key) (s : ℕ) → IsBegun h key s → IsBegun (x ∷ h) key s
begun-more x h key s b = (b.0, wrote-more (x ∷ []) h s b.0 b.1, b.2)

told-more : (x : Event) (h : List Event) (c : Change) → Told h c → Told (x ∷ h) c
told-more x h (change.Keep at s position) t = begun-more x h at s t
told-more x h (change.Refill fence at s position) t = (t.0, t.1, inr t.2)
told-more x h (change.Drop at s) t = let (by, (c, info, has, is)) = t in (by, (c, info, inr has, is))

did-told : (v : Volume) (h : List Event) → IsLegalInRuns v h → (w : List Event) (by : Actor) (n : ℕ) (c : Change) → DidRow v (facts h) w (of_actor by h) by n c → Told h c
did-told v h legal w by n (change.Keep at s position) r = let i = r.keep.writing.writer in (i.0, i.1.found, i.1.key_is)
did-told v h legal w by n (change.Refill fence at s position) r = rebuild-acked v h legal (facts h) by n fence at s position r.refill.rebuilding
did-told v h legal w by n (change.Drop at s) r =
    let (c, info, has, is) = r.gone in
    (by, (c, info, filter-has (λ y. same_actor by (by_of y)) h (e.Meta by c (reply.Gone (Some info))) has, is))

undecided-cases : (x : Event) (w : List Event) (c : Change) → undecided (x ∷ w) ≡ Some c → (undecided w ≡ Some c) ⊎ ((by : Actor) × (m : ℕ) × (x ≡ e.Broke by m (Some c)))
undecided-cases (e.Broke by m None) w c u = cc
undecided-cases (e.Broke by m (Some d)) w c u = let same : d ≡ c = cc in inr (by, m, ap (λ z. e.Broke by m (Some z)) same)
undecided-cases (e.Start m took) w c u = cc
undecided-cases (e.Lose m loss) w c u = cc
undecided-cases (x) w c u = inl u

pub pending-told : (v : Volume) (h : List Event) → IsLegalInRuns v h → (n : ℕ) (c : Change) → undecided (node n h) ≡ Some c → Told h c
pending-told v [] legal n c u = cc
pending-told v (x ∷ h) legal n c u =
    let ih = pending-told v h legal.0 n c in
    told-more x h c (at-node x h n (λ w. undecided w ≡ Some c → Told h c)
    (λ is u. elim (undecided-cases x (node n h) c u) [
      | inl old ↦ ih old
      | inr broke ↦ (let (by, m, same) = broke in
          did-told v h legal.0 (node n h) by m c (subst (λ y. Row v (facts h) (node n h) (of_actor (by_of y) h) legal.1.run y) same (node-row v x h n legal is)))
    ])
    ih u)

-- what a node holds after a further event, by the kinds that matter
held-cases : (f : Facts) (w : List Event) (x : Event) (key : Key) (P : List ℕ → Type 0)
    → ((by : Actor) (m : ℕ) (c : Change) → x ≡ e.Did by m c → P (changed f key c (held f w key)))
    → ((c : Change) → undecided w ≡ Some c → P (changed f key c (held f w key)))
    → ((m loss : ℕ) → x ≡ e.Lose m loss → P [])
    → P (held f w key)
    → P (held f (x ∷ w) key)
held-cases f w (e.Did by m c) key P did start lose now = did by m c refl
held-cases f w (e.Start m true) key P did start lose now = go (undecided w) refl
  where
    go : (u : Option Change) → undecided w ≡ u → P (settled f key u (held f w key))
    go None q = now
    go (Some c) q = start c q
held-cases f w (e.Start m false) key P did start lose now = now
held-cases f w (e.Lose m loss) key P did start lose now = lose m loss refl
held-cases f w (x) key P did start lose now = now

-- an event of a node speaks of known stamps alone
node-knows : (f : Facts) (n : ℕ) (x : Event) → word_of x ≡ Node n → KnowsBefore f x → Knows f x
node-knows f n (e.Meta by call given) is k = cc
node-knows f n (x) is k = k

-- a further event changes no base of what is held
pub holds-step : (v : Volume) (x : Event) (h : List Event) → IsLegalInRuns v (x ∷ h) → (n : ℕ) (key : Key) → holds n (x ∷ h) key ≡ held (facts h) (node n (x ∷ h)) key
holds-step v x h legal n key =
    held-extends (facts h) (facts (x ∷ h)) (extends-more (x ∷ []) h) (node n (x ∷ h)) key
    (at-node x h n (AllByRecursion (Knows (facts h)))
    (λ is. (node-knows (facts h) n x is (row-knows v (facts h) _ _ _ x own_word own_actor legal.1.row), known))
    known)
  where
    all : AllByRecursion (Knows (facts h)) h
    all = legal-knows v h legal.0

    known : AllByRecursion (Knows (facts h)) (node n h)
    known = all-filter (Knows (facts h)) (λ y. same_word (Node n) (word_of y)) h all

    own_word : AllByRecursion (Knows (facts h)) (of_word (word_of x) h)
    own_word = all-filter (Knows (facts h)) (λ y. same_word (word_of x) (word_of y)) h all

    own_actor : AllByRecursion (Knows (facts h)) (of_actor (by_of x) h)
    own_actor = all-filter (Knows (facts h)) (λ y. same_actor (by_of x) (by_of y)) h all

-- what a node holds is as before, or after a change that fits and that the log told of, or nothing after its loss
pub node-step : (v : Volume) (x : Event) (h : List Event) → IsLegalInRuns v (x ∷ h) → (n : ℕ) (key : Key) (P : List ℕ → Type 0)
    → ((c : Change) → Told h c → Fits (facts h) key c (holds n h key) → P (changed (facts h) key c (holds n h key)))
    → ((loss : ℕ) → x ≡ e.Lose n loss → P [])
    → P (holds n h key)
    → P (holds n (x ∷ h) key)
node-step v x h legal n key P change lose now =
    subst P (sym (holds-step v x h legal n key)) (at-node x h n (λ w. P (held (facts h) w key))
    (λ is. held-cases (facts h) (node n h) x key P
    (λ by m c same.
    let row = subst (λ y. Row v (facts h) (node n h) (of_actor (by_of y) h) legal.1.run y) same (node-row v x h n legal is) in
    change c (did-told v h legal.0 (node n h) by m c row) (did-fits v (facts h) (node n h) (of_actor by h) by m key c row))
    (λ c u. change c (pending-told v h legal.0 n c u) (pending-fits v (facts h) (node n h) (rows v h legal.0 n) key c u))
    (λ m loss same. let there : m ≡ n = node_is m n (sym (ap word_of same) ∙ is) in lose loss (same ∙ ap (λ z. e.Lose z loss) there))
    now)
    now)
  where
    node_is : (m n : ℕ) → Node m ≡ Node n → m ≡ n
    node_is m n q = cc
