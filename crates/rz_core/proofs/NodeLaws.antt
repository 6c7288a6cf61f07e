-- The events of a node's word: their rows, and what they leave at it.
use Rattle.std.proofs.Common.{ℕ, Bool, true, false, ◌==◌, ◌≡◌, ◌⊎◌, inl, inr, ◌≤◌, ◌<◌, List, [], ◌∷◌, Option, Some, None, cond, refl, sym, ◌∙◌, ap, subst, arith, nat_lt}
use Rattle.std.specs.List.{filter, AllByRecursion}
use Rattle.std.proofs.lemmas.Bool.{eqb-true, eq-eqb, lt-ltb, ltb-true, cases_lt}
use Rattle.rz_events.specs.Volume.{Volume}
use Rattle.rz_events.specs.declared.keys.Key.{Key}
use Rattle.rz_events.specs.declared.keys.Actor.{Actor}
use Rattle.rz_events.specs.declared.records.Change.{Change}
use Rattle.rz_events.specs.declared.records.Change.TheVariants as change
use Rattle.rz_events.specs.declared.nodes.Phase.TheVariants.{Up, Down, Lost}
use Rattle.rz_events.specs.declared.events.Word.{Word}
use Rattle.rz_events.specs.declared.events.Word.TheVariants.{Export, Node, Own}
use Rattle.rz_events.specs.declared.events.Event.{Event}
use Rattle.rz_events.specs.declared.events.Event.TheVariants as e
use Rattle.rz_events.specs.Events.{by_of, word_of, same_word, same_key}
use Rattle.rz_node_model.specs.Versions.{kept, refilled, without, greater_goes, IsAbove, Stands, IsPast}
use Rattle.rz_core.specs.History.{Facts, facts, of_word, of_actor, Has}
use Rattle.rz_core.specs.NodeWord.{phase, held, changed, settled, undecided, base_begun, itself}
use Rattle.rz_core.specs.NodeRows.{DidRow}
use Rattle.rz_core.specs.Legal.{IsLegalInRuns, Row}
use Rattle.rz_core.proofs.Extends.{Extends, extends-more, Knows}
use Rattle.rz_core.proofs.Rows.{row-extends}
use Rattle.rz_core.proofs.Locality.{all-filter, legal-knows}
use Rattle.rz_core.proofs.Stamps.{same_key-true}

abbrev pub node : ℕ → List Event → List Event
node n h = of_word (Node n) h

-- what the node holds of a key
abbrev pub holds : ℕ → List Event → Key → List ℕ
holds n h key = held (facts h) (node n h) key

pub same_word-true : (n : ℕ) (v : Word) → same_word (Node n) v ≡ true → v ≡ Node n
same_word-true n Export q = cc
same_word-true n (Node m) q = ap Node (sym (eqb-true n m q))
same_word-true n (Own a) q = cc

-- a further event is of the node's word, or it is not
pub at-node : (x : Event) (h : List Event) (n : ℕ) (P : List Event → Type 0) → (word_of x ≡ Node n → P (x ∷ node n h)) → P (node n h) → P (node n (x ∷ h))
at-node x h n P here there = go (same_word (Node n) (word_of x)) refl
  where
    go : (t : Bool) → same_word (Node n) (word_of x) ≡ t → P (cond t (x ∷ node n h) (node n h))
    go true q = here (same_word-true n (word_of x) q)
    go false q = there

pub node-row : (v : Volume) (x : Event) (h : List Event) (n : ℕ) (legal : IsLegalInRuns v (x ∷ h)) → word_of x ≡ Node n → Row v (facts h) (node n h) (of_actor (by_of x) h) legal.1.run x
node-row v x h n legal is = subst (λ w. Row v (facts h) (of_word w h) (of_actor (by_of x) h) legal.1.run x) is legal.1.row

-- the rows of a word, under some facts
abbrev pub IsRows : Volume → Facts → List Event → Type 0
IsRows v f [] = Unit {0}
IsRows v f (x ∷ w) = IsRows v f w × ((o run : List Event) × Row v f w o run x)

pub rows-extends : (v : Volume) (f g : Facts) → Extends f g → (w : List Event) → AllByRecursion (Knows f) w → IsRows v f w → IsRows v g w
rows-extends v f g ext [] k r = tt
rows-extends v f g ext (x ∷ w) k r = (rows-extends v f g ext w k.1 r.0, (r.1.0, r.1.1, row-extends v f g ext w r.1.0 r.1.1 x k.1 r.1.2))

pub rows : (v : Volume) (h : List Event) → IsLegalInRuns v h → (n : ℕ) → IsRows v (facts h) (node n h)
rows v [] legal n = tt
rows v (x ∷ h) legal n =
    let ext = extends-more (x ∷ []) h in
    let k = all-filter (Knows (facts h)) (λ y. same_word (Node n) (word_of y)) h (legal-knows v h legal.0) in
    let ih = rows-extends v (facts h) (facts (x ∷ h)) ext (node n h) k (rows v h legal.0 n) in
    at-node x h n (IsRows v (facts (x ∷ h)))
    (λ is. (ih, (of_actor (by_of x) h, legal.1.run, row-extends v (facts h) (facts (x ∷ h)) ext (node n h) _ _ x k (node-row v x h n legal is))))
    ih

-- what a change needs of the stamps held
abbrev pub Fits : Facts → Key → Change → List ℕ → Type 0
Fits f key (change.Keep at s position) now = same_key key at ≡ true → IsAbove s now
Fits f key (change.Refill fence at s position) now = same_key key at ≡ true → (¬ Stands s now) × (¬ IsPast (base_begun f) s now)
Fits f key (change.Drop at s) now = Unit {0}

pub did-fits : (v : Volume) (f : Facts) (w o : List Event) (by : Actor) (n : ℕ) (key : Key) (c : Change) → DidRow v f w o by n c → Fits f key c (held f w key)
did-fits v f w o by n key (change.Keep at s position) r = λ t. subst (λ q. IsAbove s (held f w q)) (sym (same_key-true key at t)) r.above
did-fits v f w o by n key (change.Refill fence at s position) r = λ t.
    let same = sym (same_key-true key at t) in
    (subst (λ q. ¬ Stands s (held f w q)) same r.absent, subst (λ q. ¬ IsPast (base_begun f) s (held f w q)) same r.dated)
did-fits v f w o by n key (change.Drop at s) r = tt

pub did-up : (v : Volume) (f : Facts) (w o : List Event) (by : Actor) (n : ℕ) (c : Change) → DidRow v f w o by n c → phase w ≡ Up
did-up v f w o by n (change.Keep at s position) r = r.keep.up
did-up v f w o by n (change.Refill fence at s position) r = r.refill.up
did-up v f w o by n (change.Drop at s) r = r.up

-- a node with an undecided change is down
pub undecided-down : (v : Volume) (f : Facts) (w : List Event) → IsRows v f w → (c : Change) → undecided w ≡ Some c → phase w ≡ Down
undecided-down v f [] r c u = cc
undecided-down v f (e.Broke by m d ∷ w) r c u = refl
undecided-down v f (e.Stop m ∷ w) r c u = refl
undecided-down v f (e.Start m took ∷ w) r c u = cc
undecided-down v f (e.Lose m loss ∷ w) r c u = cc
undecided-down v f (e.Replace by m loss fence ∷ w) r c u =
    let down = undecided-down v f w r.0 c u in let lost = r.1.2.lost in cc
undecided-down v f (x ∷ w) r c u = undecided-down v f w r.0 c u

-- an undecided change still fits
pub pending-fits : (v : Volume) (f : Facts) (w : List Event) → IsRows v f w → (key : Key) (c : Change) → undecided w ≡ Some c → Fits f key c (held f w key)
pending-fits v f [] r key c u = cc
pending-fits v f (e.Broke by m None ∷ w) r key c u = cc
pending-fits v f (e.Broke by m (Some d) ∷ w) r key c u =
    let same : d ≡ c = cc in subst (λ q. Fits f key q (held f w key)) same (did-fits v f w r.1.0 by m key d r.1.2)
pending-fits v f (e.Start m took ∷ w) r key c u = cc
pending-fits v f (e.Lose m loss ∷ w) r key c u = cc
pending-fits v f (e.Did by m d ∷ w) r key c u =
    let down = undecided-down v f w r.0 c u in let up = did-up v f w r.1.0 by m d r.1.2 in cc
pending-fits v f (x ∷ w) r key c u = pending-fits v f w r.0 key c u

-- one or two stamps, the greater first
abbrev pub IsPair : List ℕ → Type 0
IsPair [] = Unit {0}
IsPair (a ∷ []) = Unit {0}
IsPair (a ∷ b ∷ []) = b < a
IsPair (a ∷ b ∷ c ∷ more) = ⊥

kept-pair : (base s : ℕ) (now : List ℕ) → IsPair now → IsAbove s now → IsPair (kept itself base s now)
kept-pair base s [] p above = tt
kept-pair base s (a ∷ []) p above = above.0
kept-pair base s (a ∷ b ∷ []) p above =
    elim (greater_goes base a b) as (λ t. IsPair (cond t (s ∷ b ∷ []) (s ∷ a ∷ []))) [ true ↦ above.1.0 | false ↦ above.0 ]
kept-pair base s (a ∷ b ∷ c ∷ more) p above = absurd p

two_pair : (a s : ℕ) → ¬ (a ≡ s) → IsPair (cond (nat_lt a s) (s ∷ a ∷ []) (a ∷ s ∷ []))
two_pair a s ne = go (nat_lt a s) refl
  where
    go : (t : Bool) → nat_lt a s ≡ t → IsPair (cond t (s ∷ a ∷ []) (a ∷ s ∷ []))
    go true q = ltb-true a s q
    go false q = elim (cases_lt a s) [ inl l ↦ (let w = lt-ltb a s l in cc) | inr l ↦ other l (cases_lt s a) ]
      where
        other : s ≤ a → (s < a) ⊎ (a ≤ s) → s < a
        other l (inl k) = k
        other l (inr k) = let same : a ≡ s = omega arith in absurd (ne same)

refilled-pair : (s : ℕ) (now : List ℕ) → ¬ Stands s now → IsPair (refilled itself s now)
refilled-pair s [] absent = tt
refilled-pair s (a ∷ more) absent = two_pair a s (λ same. absent (inl same))

without-pair : (s : ℕ) (now : List ℕ) → IsPair now → IsPair (without itself s now)
without-pair s [] p = tt
without-pair s (a ∷ []) p = elim (a == s) as (λ t. IsPair (cond t [] (a ∷ []))) [ true ↦ tt | false ↦ tt ]
without-pair s (a ∷ b ∷ []) p =
    elim (a == s) as (λ t. IsPair (cond t (b ∷ []) (a ∷ cond (b == s) [] (b ∷ [])))) [
      | true ↦ tt
      | false ↦ elim (b == s) as (λ t. IsPair (a ∷ cond t [] (b ∷ []))) [ true ↦ tt | false ↦ p ]
    ]
without-pair s (a ∷ b ∷ c ∷ more) p = absurd p

pub change-pair : (f : Facts) (key : Key) (c : Change) (now : List ℕ) → Fits f key c now → IsPair now → IsPair (changed f key c now)
change-pair f key (change.Keep at s position) now fits p = go (same_key key at) refl
  where
    go : (t : Bool) → same_key key at ≡ t → IsPair (cond t (kept itself (base_begun f s) s now) now)
    go true q = kept-pair (base_begun f s) s now p (fits q)
    go false q = p
change-pair f key (change.Refill fence at s position) now fits p = go (same_key key at) refl
  where
    go : (t : Bool) → same_key key at ≡ t → IsPair (cond t (refilled itself s now) now)
    go true q = refilled-pair s now (fits q).0
    go false q = p
change-pair f key (change.Drop at s) now fits p = go (same_key key at)
  where
    go : (t : Bool) → IsPair (cond t (without itself s now) now)
    go true = without-pair s now p
    go false = p

taken-pair : (f : Facts) (key : Key) (u : Option Change) (now : List ℕ) → ((c : Change) → u ≡ Some c → Fits f key c now) → IsPair now → IsPair (settled f key u now)
taken-pair f key None now fits p = p
taken-pair f key (Some c) now fits p = change-pair f key c now (fits c refl) p

pub word-pair : (v : Volume) (f : Facts) (w : List Event) → IsRows v f w → (key : Key) → IsPair (held f w key)
word-pair v f [] r key = tt
word-pair v f (e.Did by m c ∷ w) r key = change-pair f key c (held f w key) (did-fits v f w r.1.0 by m key c r.1.2) (word-pair v f w r.0 key)
word-pair v f (e.Start m true ∷ w) r key = taken-pair f key (undecided w) (held f w key) (pending-fits v f w r.0 key) (word-pair v f w r.0 key)
word-pair v f (e.Start m false ∷ w) r key = word-pair v f w r.0 key
word-pair v f (e.Lose m loss ∷ w) r key = tt
word-pair v f (x ∷ w) r key = word-pair v f w r.0 key

pub pairs : (v : Volume) (h : List Event) → IsLegalInRuns v h → (n : ℕ) (key : Key) → IsPair (holds n h key)
pairs v h legal n key = word-pair v (facts h) (node n h) (rows v h legal n) key

-- a filter takes no event that is not there, and each one that passes
has_cases : (y x : Event) (few h : List Event) (t : Bool) → (Has few x → Has h x) → Has (cond t (y ∷ few) few) x → Has (y ∷ h) x
has_cases y x few h true rest (inl is) = inl is
has_cases y x few h true rest (inr has) = inr (rest has)
has_cases y x few h false rest has = inr (rest has)

pub filter-has : (p : Event → Bool) (h : List Event) (x : Event) → Has (filter p h) x → Has h x
filter-has p [] x has = absurd has
filter-has p (y ∷ h) x has = has_cases y x (filter p h) h (p y) (filter-has p h x) has

pub has-filter : (p : Event → Bool) (h : List Event) (x : Event) → p x ≡ true → Has h x → Has (filter p h) x
has-filter p [] x q has = absurd has
has-filter p (y ∷ h) x q (inl is) = rw (ap p is ∙ q) (inl is)
has-filter p (y ∷ h) x q (inr has) =
    elim (p y) as (λ t. Has (cond t (y ∷ filter p h) (filter p h)) x) [ true ↦ inr (has-filter p h x q has) | false ↦ has-filter p h x q has ]

-- the node's own event, where its number is known
pub at-own : (x : Event) (h : List Event) (n : ℕ) (P : List Event → Type 0) → word_of x ≡ Node n → P (x ∷ node n h) → P (node n (x ∷ h))
at-own x h n P is p = subst (λ w. P (cond (same_word (Node n) w) (x ∷ node n h) (node n h))) (sym is) (rw (eq-eqb n n refl) p)

-- a lost node holds nothing
pub lost-empty : (v : Volume) (f : Facts) (w : List Event) → IsRows v f w → (key : Key) → phase w ≡ Lost → held f w key ≡ []
lost-empty v f [] r key lost = cc
lost-empty v f (e.Lose m l ∷ w) r key lost = refl
lost-empty v f (e.Broke by m c ∷ w) r key lost = cc
lost-empty v f (e.Stop m ∷ w) r key lost = cc
lost-empty v f (e.Start m took ∷ w) r key lost = cc
lost-empty v f (e.Replace by m l g ∷ w) r key lost = cc
lost-empty v f (e.Did by m c ∷ w) r key lost = let up = did-up v f w r.1.0 by m c r.1.2 in cc
lost-empty v f (x ∷ w) r key lost = lost-empty v f w r.0 key lost
