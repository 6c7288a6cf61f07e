-- The permanent facts only grow, and what a word leaves is the same under more facts.
use Rattle.std.proofs.Common.{ℕ, Bool, true, false, ◌==◌, ◌≡◌, ◌⊎◌, inl, inr, ◌≤◌, List, [], ◌∷◌, ◌++◌, Option, Some, None, cond, refl, sym, ◌∙◌, ap, subst, ◌&&◌, ◌||◌, nat_lt}
use Rattle.std.specs.List.{AllByRecursion}
use Rattle.std.proofs.lemmas.Bool.{eqb-true, and_parts}
use Rattle.rz_events.specs.Volume.{Volume}
use Rattle.rz_events.specs.declared.keys.Key.{Key}
use Rattle.rz_events.specs.declared.files.Published.{Published}
use Rattle.rz_events.specs.declared.records.Change.{Change}
use Rattle.rz_events.specs.declared.records.Change.TheVariants as change
use Rattle.rz_events.specs.declared.tree.TreeReply.{TreeReply}
use Rattle.rz_events.specs.declared.tree.TreeReply.TheVariants as reply
use Rattle.rz_events.specs.declared.events.Event.{Event}
use Rattle.rz_events.specs.declared.events.Event.TheVariants as e
use Rattle.rz_events.specs.Events.{same_key}
use Rattle.rz_node_model.specs.Versions.{kept, refilled, without, greater_goes, IsPast}
use Rattle.rz_export_model.specs.Export.{Export, after_tree, after_begin, after_publish, after_enroll}
use Rattle.rz_core.specs.History.{Facts, Begun, wrote, places_of, facts, IsPlace, Has, base_in, length_in}
use Rattle.rz_core.specs.NodeWord.{held, base_begun, changed, undecided, settled, itself}
use Rattle.rz_export_model.specs.Files.{makes}
use Rattle.rz_core.specs.ExportWord.{is_made, is_live, is_newer, accepted, with_length, published, export_of}
use Rattle.rz_core.specs.Own.{last}

-- what f knows stays so in g
pub record Extends (f g : Facts) : Type 0 where
  pub wrote : (s : ℕ) (b : Begun) → f.wrote s ≡ Some b → g.wrote s ≡ Some b
  pub places : (fid : ℕ) (ps : List ℕ) → f.places fid ≡ Some ps → g.places fid ≡ Some ps

-- the write with stamp s is known
abbrev pub IsKnown : Facts → ℕ → Type 0
IsKnown f s = (b : Begun) × (f.wrote s ≡ Some b)

-- where the file lies is known
abbrev pub IsPlaced : Facts → ℕ → Type 0
IsPlaced f fid = (ps : List ℕ) × (f.places fid ≡ Some ps)

abbrev pub KnowsChange : Facts → Change → Type 0
KnowsChange f (change.Keep key s position) = IsKnown f s
KnowsChange f (change.Refill fence key s position) = IsKnown f s
KnowsChange f (change.Drop key s) = Unit {0}

abbrev pub KnowsReply : Facts → TreeReply → Type 0
KnowsReply f (reply.MadeFile info) = IsPlaced f info.fid
KnowsReply f _ = Unit {0}

-- the stamps and the new file that an event speaks of are known
abbrev pub Knows : Facts → Event → Type 0
Knows f (e.Meta by call reply) = KnowsReply f reply
Knows f (e.Did by node change) = KnowsChange f change
Knows f (e.Broke by node (Some change)) = KnowsChange f change
Knows f (e.Publish by key stamp mask None) = IsKnown f stamp
Knows f (e.Next by node after (Some l)) = IsKnown f l.published.stamp
Knows f _ = Unit {0}

pub has-all : (P : Event → Type 0) (h : List Event) (x : Event) → AllByRecursion P h → Has h x → P x
has-all P [] x all has = absurd has
has-all P (y ∷ h) x all (inl is) = subst P is all.0
has-all P (y ∷ h) x all (inr has) = has-all P h x all.1 has

last_cases : (t : Bool) (y x : Event) (o : Option Event) → cond t (Some y) o ≡ Some x → (y ≡ x) ⊎ (o ≡ Some x)
last_cases true y x o e = inl (cc)
last_cases false y x o e = inr e

-- the newest event of a kind stands in the history
pub last-has : (test : Event → Bool) (o : List Event) (x : Event) → last test o ≡ Some x → Has o x
last-has test [] x e = cc
last-has test (y ∷ o) x e = elim (last_cases (test y) y x (last test o) e) [ inl is ↦ inl is | inr old ↦ inr (last-has test o x old) ]

-- facts grow
pub wrote-more : (more h : List Event) (s : ℕ) (b : Begun) → wrote h s ≡ Some b → wrote (more ++ h) s ≡ Some b
wrote-more [] h s b k = k
wrote-more (y ∷ more) h s b k = rw (wrote-more more h s b k) refl

pub places-more : (more h : List Event) (fid : ℕ) (ps : List ℕ) → places_of h fid ≡ Some ps → places_of (more ++ h) fid ≡ Some ps
places-more [] h fid ps k = k
places-more (y ∷ more) h fid ps k = rw (places-more more h fid ps k) refl

pub extends-more : (more h : List Event) → Extends (facts h) (facts (more ++ h))
extends-more more h = record { wrote = wrote-more more h; places = places-more more h }

-- places, in both directions
pub place-extends : (f g : Facts) → Extends f g → (fid p n : ℕ) → IsPlace f fid p n → IsPlace g fid p n
place-extends f g ext fid p n i = (i.0, ext.places fid i.0 i.1, i.2)

pub place-back : (f g : Facts) → Extends f g → (fid p n : ℕ) → IsPlaced f fid → IsPlace g fid p n → IsPlace f fid p n
place-back f g ext fid p n known (ps, is, at) =
    let here = ext.places fid known.0 known.1 in
    let same : known.0 ≡ ps = cc in
    (ps, known.1 ∙ ap (λ (l : List ℕ). Some l) same, at)

-- a file that is made is placed
pub made-placed : (f : Facts) (w : List Event) (fid : ℕ) → AllByRecursion (Knows f) w → is_made w fid ≡ true → IsPlaced f fid
made-placed f [] fid k m = cc
made-placed f (e.Meta by call given ∷ w) fid k m = or_either (makes given fid) refl m (made-placed f w fid k.1)
  where
    by_reply : (r : TreeReply) → KnowsReply f r → makes r fid ≡ true → IsPlaced f fid
    by_reply (reply.MadeFile info) known is = subst (IsPlaced f) (sym (eqb-true fid info.fid is)) known
    by_reply (_) known is = cc

    or_either : (t : Bool) → makes given fid ≡ t → (t || is_made w fid) ≡ true → (is_made w fid ≡ true → IsPlaced f fid) → IsPlaced f fid
    or_either true is m rest = by_reply given k.0 is
    or_either false is m rest = rest m
made-placed f (_ ∷ w) fid k m = made-placed f w fid k.1 m

pub live-placed : (f : Facts) (w : List Event) (fid : ℕ) → AllByRecursion (Knows f) w → is_live w fid ≡ true → IsPlaced f fid
live-placed f w fid k live = made-placed f w fid k (and_parts _ _ live).0

-- the versions of a key
changed-extends : (f g : Facts) → Extends f g → (key : Key) (c : Change) (now : List ℕ) → KnowsChange f c → changed g key c now ≡ changed f key c now
changed-extends f g ext key (change.Keep at s position) now k = rw (ext.wrote s k.0 k.1, k.1) refl
changed-extends f g ext key (change.Refill fence at s position) now k = refl
changed-extends f g ext key (change.Drop at s) now k = refl

-- what is undecided is known
pub undecided-known : (f : Facts) (w : List Event) → AllByRecursion (Knows f) w → (c : Change) → undecided w ≡ Some c → KnowsChange f c
undecided-known f [] k c u = cc
undecided-known f (e.Broke by node None ∷ w) k c u = cc
undecided-known f (e.Broke by node (Some d) ∷ w) k c u = let same : d ≡ c = cc in subst (KnowsChange f) same k.0
undecided-known f (e.Start node took ∷ w) k c u = cc
undecided-known f (e.Lose node loss ∷ w) k c u = cc
undecided-known f (_ ∷ w) k c u = undecided-known f w k.1 c u

taken-extends : (f g : Facts) → Extends f g → (key : Key) (u : Option Change) (now : List ℕ) → ((c : Change) → u ≡ Some c → KnowsChange f c) → settled g key u now ≡ settled f key u now
taken-extends f g ext key None now k = refl
taken-extends f g ext key (Some c) now k = changed-extends f g ext key c now (k c refl)

pub held-extends : (f g : Facts) → Extends f g → (w : List Event) (key : Key) → AllByRecursion (Knows f) w → held g w key ≡ held f w key
held-extends f g ext [] key k = refl
held-extends f g ext (e.Did by node c ∷ w) key k =
    ap (changed g key c) (held-extends f g ext w key k.1) ∙ changed-extends f g ext key c (held f w key) k.0
held-extends f g ext (e.Start node true ∷ w) key k =
    ap (settled g key (undecided w)) (held-extends f g ext w key k.1) ∙ taken-extends f g ext key (undecided w) (held f w key) (undecided-known f w k.1)
held-extends f g ext (e.Start node false ∷ w) key k = held-extends f g ext w key k.1
held-extends f g ext (e.Lose node loss ∷ w) key k = refl
held-extends f g ext (_ ∷ w) key k = held-extends f g ext w key k.1

-- the stamps that are held are known
pub all-kept : (P : ℕ → Type 0) (base s : ℕ) (now : List ℕ) → P s → AllByRecursion P now → AllByRecursion P (kept itself base s now)
all-kept P base s [] p all = (p, tt)
all-kept P base s (a ∷ []) p all = (p, (all.0, tt))
all-kept P base s (a ∷ b ∷ more) p all =
    elim (greater_goes base a b) as (λ t. AllByRecursion P (cond t (s ∷ b ∷ []) (s ∷ a ∷ []))) [ true ↦ (p, (all.1.0, tt)) | false ↦ (p, (all.0, tt)) ]

pub all-refilled : (P : ℕ → Type 0) (s : ℕ) (now : List ℕ) → P s → AllByRecursion P now → AllByRecursion P (refilled itself s now)
all-refilled P s [] p all = (p, tt)
all-refilled P s (a ∷ more) p all =
    elim (nat_lt a s) as (λ t. AllByRecursion P (cond t (s ∷ a ∷ []) (a ∷ s ∷ []))) [ true ↦ (p, (all.0, tt)) | false ↦ (all.0, (p, tt)) ]

pub all-without : (P : ℕ → Type 0) (s : ℕ) (now : List ℕ) → AllByRecursion P now → AllByRecursion P (without itself s now)
all-without P s [] all = tt
all-without P s (a ∷ more) all = elim (a == s) as (λ t. AllByRecursion P (cond t more (a ∷ without itself s more))) [ true ↦ all.1 | false ↦ (all.0, all-without P s more all.1) ]

all_cond : (P : ℕ → Type 0) (t : Bool) (a b : List ℕ) → (t ≡ true → AllByRecursion P a) → AllByRecursion P b → AllByRecursion P (cond t a b)
all_cond P true a b p q = p refl
all_cond P false a b p q = q

-- what holds of the stamps of a change and of those held holds after it
abbrev pub OfChange : (ℕ → Type 0) → Key → Change → Type 0
OfChange P key (change.Keep at s position) = same_key key at ≡ true → P s
OfChange P key (change.Refill fence at s position) = same_key key at ≡ true → P s
OfChange P key (change.Drop at s) = Unit {0}

pub all-changed : (P : ℕ → Type 0) (f : Facts) (key : Key) (c : Change) (now : List ℕ) → OfChange P key c → AllByRecursion P now → AllByRecursion P (changed f key c now)
all-changed P f key (change.Keep at s position) now p all = all_cond P (same_key key at) _ now (λ t. all-kept P (base_begun f s) s now (p t) all) all
all-changed P f key (change.Refill fence at s position) now p all = all_cond P (same_key key at) _ now (λ t. all-refilled P s now (p t) all) all
all-changed P f key (change.Drop at s) now p all = all_cond P (same_key key at) _ now (λ t. all-without P s now all) all

pub all-taken : (P : ℕ → Type 0) (f : Facts) (key : Key) (u : Option Change) (now : List ℕ) → ((c : Change) → u ≡ Some c → OfChange P key c) → AllByRecursion P now → AllByRecursion P (settled f key u now)
all-taken P f key None now p all = all
all-taken P f key (Some c) now p all = all-changed P f key c now (p c refl) all

known-change : (f : Facts) (key : Key) (c : Change) → KnowsChange f c → OfChange (IsKnown f) key c
known-change f key (change.Keep at s position) k = λ t. k
known-change f key (change.Refill fence at s position) k = λ t. k
known-change f key (change.Drop at s) k = tt

pub held-known : (f : Facts) (w : List Event) (key : Key) → AllByRecursion (Knows f) w → AllByRecursion (IsKnown f) (held f w key)
held-known f [] key k = tt
held-known f (e.Did by node c ∷ w) key k = all-changed (IsKnown f) f key c (held f w key) (known-change f key c k.0) (held-known f w key k.1)
held-known f (e.Start node true ∷ w) key k =
    all-taken (IsKnown f) f key (undecided w) (held f w key) (λ c u. known-change f key c (undecided-known f w k.1 c u)) (held-known f w key k.1)
held-known f (e.Start node false ∷ w) key k = held-known f w key k.1
held-known f (e.Lose node loss ∷ w) key k = tt
held-known f (_ ∷ w) key k = held-known f w key k.1

pub past-back : (f g : Facts) → Extends f g → (s : ℕ) (now : List ℕ) → AllByRecursion (IsKnown f) now → IsPast (base_begun g) s now → IsPast (base_begun f) s now
past-back f g ext s [] k p = absurd p
past-back f g ext s (a ∷ []) k p = absurd p
past-back f g ext s (a ∷ b ∷ more) k p =
    let same : g.wrote a ≡ f.wrote a = ext.wrote a k.0.0 k.0.1 ∙ sym k.0.1 in
    (p.0, p.1, subst (λ z. b ≤ base_in z) same p.2)

pub past-extends : (f g : Facts) → Extends f g → (s : ℕ) (now : List ℕ) → AllByRecursion (IsKnown f) now → IsPast (base_begun f) s now → IsPast (base_begun g) s now
past-extends f g ext s [] k p = absurd p
past-extends f g ext s (a ∷ []) k p = absurd p
past-extends f g ext s (a ∷ b ∷ more) k p =
    let same : f.wrote a ≡ g.wrote a = k.0.1 ∙ sym (ext.wrote a k.0.0 k.0.1) in
    (p.0, p.1, subst (λ z. b ≤ base_in z) same p.2)

-- what is published
with_length-extends : (f g : Facts) → Extends f g → (a : Option (ℕ × ℕ)) → ((m : ℕ × ℕ) → a ≡ Some m → IsKnown f m.0) → with_length g a ≡ with_length f a
with_length-extends f g ext None k = refl
with_length-extends f g ext (Some m) k = let b = k m refl in rw (ext.wrote m.0 b.0 b.1, b.1) refl

some_pair : (t : Bool) (s m : ℕ) (old : Option (ℕ × ℕ)) (a : ℕ × ℕ) → cond t (Some (s, m)) old ≡ Some a → (s ≡ a.0) ⊎ (old ≡ Some a)
some_pair true s m old a k = inl (cc)
some_pair false s m old a k = inr k

-- the write that was published is known
pub accepted-known : (f : Facts) (w : List Event) (key : Key) → AllByRecursion (Knows f) w → (a : ℕ × ℕ) → accepted w key ≡ Some a → IsKnown f a.0
accepted-known f [] key k a e = cc
accepted-known f (e.Publish by at s mask None ∷ w) key k a e =
    elim (some_pair (same_key key at && is_newer s (accepted w key)) s mask (accepted w key) a e) [
      | inl here ↦ (k.0.0, ap f.wrote (sym here) ∙ k.0.1)
      | inr old ↦ accepted-known f w key k.1 a old
    ]
accepted-known f (e.Publish by at s mask (Some r) ∷ w) key k a e = accepted-known f w key k.1 a e
accepted-known f (x ∷ w) key k a e = accepted-known f w key k.1 a e

pub published-extends : (f g : Facts) → Extends f g → (w : List Event) (key : Key) → AllByRecursion (Knows f) w → published g w key ≡ published f w key
published-extends f g ext w key k = with_length-extends f g ext (accepted w key) (accepted-known f w key k)

-- the stamp and the mask of what is published
pub some_length : (f : Facts) (m : Option (ℕ × ℕ)) (p : Published) → Some p ≡ with_length f m → (a : ℕ × ℕ) × (m ≡ Some a) × (p.stamp ≡ a.0) × (p.mask ≡ a.1)
some_length f None p k = cc
some_length f (Some a) p k =
    let r : Published = record { stamp = a.0; mask = a.1; length = length_in (f.wrote a.0) } in
    let same : p ≡ r = cc in
    (a, refl, ap (λ (q : Published). q.stamp) same, ap (λ (q : Published). q.mask) same)

-- the export
abbrev pub published_as : ℕ → ℕ → Option Begun → Published
published_as stamp mask b = record { stamp = stamp; mask = mask; length = length_in b }

pub export-extends : (v : Volume) (f g : Facts) → Extends f g → (w : List Event) → AllByRecursion (Knows f) w → export_of v g w ≡ export_of v f w
export-extends v f g ext [] k = refl
export-extends v f g ext (e.Meta by call reply ∷ w) k = ap (λ (s : Export). after_tree s call) (export-extends v f g ext w k.1)
export-extends v f g ext (e.Begin by key stamp base text ∷ w) k = ap (λ (s : Export). after_begin s key) (export-extends v f g ext w k.1)
export-extends v f g ext (e.Publish by key stamp mask None ∷ w) k =
    ap (λ (s : Export). after_publish s key (published_as stamp mask (g.wrote stamp))) (export-extends v f g ext w k.1)
    ∙ ap (λ (b : Option Begun). after_publish (export_of v f w) key (published_as stamp mask b)) (ext.wrote stamp k.0.0 k.0.1 ∙ sym k.0.1)
export-extends v f g ext (e.Publish by key stamp mask (Some r) ∷ w) k = export-extends v f g ext w k.1
export-extends v f g ext (e.Enroll by node loss fence ∷ w) k = ap (λ (s : Export). after_enroll s node loss) (export-extends v f g ext w k.1)
export-extends v f g ext (_ ∷ w) k = export-extends v f g ext w k.1
