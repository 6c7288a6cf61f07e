-- What is allowed stays allowed, whatever others do.
use Rattle.std.proofs.Common.{ℕ, Bool, true, false, ◌==◌, ◌≡◌, List, [], ◌∷◌, ◌++◌, Option, Some, None, cond, refl, sym, ◌∙◌, ap, subst}
use Rattle.std.specs.List.{filter, AllByRecursion}
use Rattle.rz_events.specs.Volume.{Volume}
use Rattle.rz_events.specs.declared.keys.Actor.{Actor}
use Rattle.rz_events.specs.declared.files.Listed.{Listed}
use Rattle.rz_events.specs.declared.records.Change.{Change}
use Rattle.rz_events.specs.declared.records.Change.TheVariants as change
use Rattle.std.proofs.lemmas.Bool.{eq-eqb}
use Rattle.std.proofs.lemmas.List.{append-nil}
use Rattle.std.proofs.lemmas.List.Elements.{filter-append}
use Rattle.rz_events.specs.declared.tree.TreeCall.{TreeCall}
use Rattle.rz_events.specs.declared.tree.TreeReply.{TreeReply}
use Rattle.rz_events.specs.declared.tree.TreeReply.TheVariants as reply
use Rattle.rz_events.specs.declared.events.Event.{Event}
use Rattle.rz_events.specs.declared.events.Event.TheVariants as e
use Rattle.rz_events.specs.Events.{by_of, word_of, same_actor, same_word}
use Rattle.rz_core.specs.History.{Facts, facts, of_word, of_actor, first_some, places_of}
use Rattle.rz_core.specs.ExportWord.{accepted}
use Rattle.rz_core.specs.ExportRows.{IsListed}
use Rattle.rz_core.specs.NodeRows.{DidRow}
use Rattle.rz_core.specs.Own.{is_next}
use Rattle.rz_core.specs.Legal.{Row, IsLegal, IsLegalInRuns, IsLegalAfter, IsAllowedIn, IsForeign, IsLocal, IsLocalInRuns}
use Rattle.rz_core.proofs.Extends.{Extends, Knows, KnowsChange, KnowsReply, IsKnown, has-all, last-has, extends-more, accepted-known, some_length}
use Rattle.rz_core.proofs.Rows.{row-extends}

-- a filter that takes none of the front
pub filter-none : {A : Type 0} (p : A → Bool) (more h : List A) → AllByRecursion (λ y. p y ≡ false) more → filter p (more ++ h) ≡ filter p h
filter-none p [] h none = refl
filter-none p (y ∷ more) h none = rw none.0 (filter-none p more h none.1)

pub foreign_word : (x : Event) (more : List Event) → AllByRecursion (IsForeign x) more → AllByRecursion (λ y. same_word (word_of x) (word_of y) ≡ false) more
foreign_word x [] a = tt
foreign_word x (y ∷ more) a = (a.0.0, foreign_word x more a.1)

pub foreign_actor : (x : Event) (more : List Event) → AllByRecursion (IsForeign x) more → AllByRecursion (λ y. same_actor (by_of x) (by_of y) ≡ false) more
foreign_actor x [] a = tt
foreign_actor x (y ∷ more) a = (a.0.1, foreign_actor x more a.1)

-- each event of a legal history is known
knows-change-extends : (f g : Facts) → Extends f g → (c : Change) → KnowsChange f c → KnowsChange g c
knows-change-extends f g ext (change.Keep key s position) k = (k.0, ext.wrote s k.0 k.1)
knows-change-extends f g ext (change.Refill fence key s position) k = (k.0, ext.wrote s k.0 k.1)
knows-change-extends f g ext (change.Drop key s) k = tt

knows-reply-extends : (f g : Facts) → Extends f g → (r : TreeReply) → KnowsReply f r → KnowsReply g r
knows-reply-extends f g ext (reply.MadeFile info) k = (k.0, ext.places info.fid k.0 k.1)
knows-reply-extends f g ext _ k = tt

pub knows-extends : (f g : Facts) → Extends f g → (x : Event) → Knows f x → Knows g x
knows-extends f g ext (e.Meta by call given) k = knows-reply-extends f g ext given k
knows-extends f g ext (e.Did by node c) k = knows-change-extends f g ext c k
knows-extends f g ext (e.Broke by node (Some c)) k = knows-change-extends f g ext c k
knows-extends f g ext (e.Broke by node None) k = tt
knows-extends f g ext (e.Publish by key s mask None) k = (k.0, ext.wrote s k.0 k.1)
knows-extends f g ext (e.Publish by key s mask (Some r)) k = tt
knows-extends f g ext (e.Next by node after (Some l)) k = (k.0, ext.wrote l.published.stamp k.0 k.1)
knows-extends f g ext (e.Next by node after None) k = tt
knows-extends f g ext _ k = tt

did-knows : (v : Volume) (f : Facts) (w o : List Event) (by : Actor) (node : ℕ) (c : Change) → AllByRecursion (Knows f) o → DidRow v f w o by node c → KnowsChange f c
did-knows v f w o by node (change.Keep key s position) ko r = (r.keep.writing.writer.0, r.keep.writing.writer.1.found)
did-knows v f w o by node (change.Refill fence key s position) ko r =
    let (m, l, is, same_stamp) = r.refill.rebuilding.next in
    let k = has-all (Knows f) o (e.Next by m is.after.0 (Some l)) ko (last-has is_next o (e.Next by m is.after.0 (Some l)) is.after.1) in
    (k.0, ap f.wrote (sym same_stamp) ∙ k.1)
did-knows v f w o by node (change.Drop key s) ko r = tt

next-knows : (f : Facts) (w : List Event) (n : ℕ) (l : Listed) → AllByRecursion (Knows f) w → IsListed f w n l.key l.published → IsKnown f l.published.stamp
next-knows f w n l kw r =
    let a = some_length f (accepted w l.key) l.published r.told in
    let b = accepted-known f w l.key kw a.0 a.1 in
    (b.0, ap f.wrote a.2 ∙ b.1)

-- what a row says of the facts before; the places of a new file are its own event's
abbrev pub KnowsBefore : Facts → Event → Type 0
KnowsBefore f (e.Meta by call given) = Unit {0}
KnowsBefore f x = Knows f x

pub row-knows : (v : Volume) (f : Facts) (w o run : List Event) (x : Event) → AllByRecursion (Knows f) w → AllByRecursion (Knows f) o → Row v f w o run x → KnowsBefore f x
row-knows v f w o run (e.Meta by call given) kw ko r = tt
row-knows v f w o run (e.Did by node c) kw ko r = did-knows v f w o by node c ko r
row-knows v f w o run (e.Broke by node (Some c)) kw ko r = did-knows v f w o by node c ko r
row-knows v f w o run (e.Broke by node None) kw ko r = tt
row-knows v f w o run (e.Publish by key s mask None) kw ko r = (r.publishable.publishing.writer.0, r.publishable.publishing.writer.1.found)
row-knows v f w o run (e.Publish by key s mask (Some refused)) kw ko r = tt
row-knows v f w o run (e.Next by node after (Some l)) kw ko r = next-knows f w node l kw r.listed
row-knows v f w o run (e.Next by node after None) kw ko r = tt
row-knows v f w o run _ kw ko r = tt

-- a file that was made just now, or before, is placed
made-knows : (h : List Event) (by : Actor) (c : TreeCall) (given : TreeReply) → KnowsReply (facts (e.Meta by c given ∷ h)) given
made-knows h by c (reply.MadeFile info) = go (places_of h info.fid)
  where
    at_own : (t : Bool) → t ≡ true → (o : Option (List ℕ)) → (ps : List ℕ) × (first_some o (cond t (Some info.places) None) ≡ Some ps)
    at_own true is None = (info.places, refl)
    at_own true is (Some ps) = (ps, refl)
    at_own false is o = cc

    go : (o : Option (List ℕ)) → (ps : List ℕ) × (first_some o (cond (info.fid == info.fid) (Some info.places) None) ≡ Some ps)
    go o = at_own (info.fid == info.fid) (eq-eqb info.fid info.fid refl) o
made-knows h by c _ = tt

event-knows : (v : Volume) (h : List Event) (x : Event) → KnowsBefore (facts h) x → Knows (facts (x ∷ h)) x
event-knows v h (e.Meta by c given) k = made-knows h by c given
event-knows v h x k = knows-extends (facts h) (facts (x ∷ h)) (extends-more (x ∷ []) h) x k

all-knows-extends : (f g : Facts) → Extends f g → (w : List Event) → AllByRecursion (Knows f) w → AllByRecursion (Knows g) w
all-knows-extends f g ext [] k = tt
all-knows-extends f g ext (x ∷ w) k = (knows-extends f g ext x k.0, all-knows-extends f g ext w k.1)

pub all-filter : {A : Type 0} (P : A → Type 0) (p : A → Bool) (xs : List A) → AllByRecursion P xs → AllByRecursion P (filter p xs)
all-filter P p [] a = tt
all-filter P p (x ∷ xs) a =
    elim (p x) as (λ v. AllByRecursion P (cond v (x ∷ filter p xs) (filter p xs))) [ true ↦ (a.0, all-filter P p xs a.1) | false ↦ all-filter P p xs a.1 ]

pub legal-knows : (v : Volume) (h : List Event) → IsLegalInRuns v h → AllByRecursion (Knows (facts h)) h
legal-knows v [] legal = tt
legal-knows v (x ∷ h) legal =
    let ext = extends-more (x ∷ []) h in
    let all = legal-knows v h legal.0 in
    let kw = all-filter (Knows (facts h)) (λ y. same_word (word_of x) (word_of y)) h all in
    let ko = all-filter (Knows (facts h)) (λ y. same_actor (by_of x) (by_of y)) h all in (
      event-knows v h x (row-knows v (facts h) _ _ _ x kw ko legal.1.row),
      all-knows-extends (facts h) (facts (x ∷ h)) ext h all,
    )

pub legal-rest : (v : Volume) (more h : List Event) → IsLegalInRuns v (more ++ h) → IsLegalInRuns v h
legal-rest v [] h l = l
legal-rest v (x ∷ more) h l = legal-rest v more h l.0

-- a legal history is one of a single run
pub one-run : (v : Volume) (h : List Event) → IsLegal v h → IsLegalInRuns v h
one-run v [] legal = tt
one-run v (x ∷ h) legal = (
  one-run v h legal.0,
  record {
    run = of_actor (by_of x) h;
    newest = ([], append-nil (of_actor (by_of x) h));
    room = legal.1.room;
    word = legal.1.word;
    row = legal.1.row;
  },
)

-- a run goes on after any number of runs
pub next-run : (v : Volume) (old h : List Event) → IsLegalAfter v old h → IsLegalInRuns v (h ++ old)
next-run v old [] legal = legal
next-run v old (x ∷ h) legal = (
  next-run v old h legal.0,
  record {
    run = of_actor (by_of x) h;
    newest = (of_actor (by_of x) old, sym (filter-append (λ y. same_actor (by_of x) (by_of y)) h old));
    room = legal.1.room;
    word = legal.1.word;
    row = legal.1.row;
  },
)

-- the events of a word and of an actor are the same after others have acted
abbrev pub SameParts : List Event → List Event → Event → Type 0
SameParts h k x = (of_word (word_of x) k ≡ of_word (word_of x) h) × (of_actor (by_of x) k ≡ of_actor (by_of x) h)

foreign-parts : (more h : List Event) (x : Event) → AllByRecursion (IsForeign x) more → SameParts h (more ++ h) x
foreign-parts more h x foreign = (
  filter-none (λ y. same_word (word_of x) (word_of y)) more h (foreign_word x more foreign),
  filter-none (λ y. same_actor (by_of x) (by_of y)) more h (foreign_actor x more foreign),
)

pub local-in-runs : (v : Volume) → IsLocalInRuns v
local-in-runs v h more run x legal foreign allowed =
    let ext = extends-more more h in
    let knows = all-filter (Knows (facts h)) (λ y. same_word (word_of x) (word_of y)) h (legal-knows v h (legal-rest v more h legal)) in
    let row = row-extends v (facts h) (facts (more ++ h)) ext _ _ run x knows allowed.row in
    let same = foreign-parts more h x foreign in
    rw (same.0, same.1) (record { room = allowed.room; word = allowed.word; row = row })

pub local : (v : Volume) → IsLocal v
local v h more x legal foreign allowed =
    subst (λ run. IsAllowedIn v (more ++ h) run x) (sym (foreign-parts more h x foreign).1)
    (local-in-runs v h more (of_actor (by_of x) h) x (one-run v (more ++ h) legal) foreign allowed)

pub prefix : (v : Volume) (more h : List Event) → IsLegal v (more ++ h) → IsLegal v h
prefix v [] h l = l
prefix v (x ∷ more) h l = prefix v more h l.0
