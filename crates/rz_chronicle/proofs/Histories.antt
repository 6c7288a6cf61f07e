-- Logs with the oldest event first, and their histories.
use Rattle.std.proofs.Common.{◌≡◌, ◌==◌, ◌||◌, ℕ, Bool, true, false, List, [], ◌∷◌, ◌++◌, cond, reverse, sym, refl, ap, ◌∙◌, subst, inl, inr, arith}
use Rattle.std.specs.List.{AllByRecursion, filter}
use Rattle.std.proofs.lemmas.Bool.{eqb-true}
use Rattle.std.proofs.lemmas.Bool.Decides.{nat_tests}
use Rattle.std.proofs.lemmas.List.{reverse-append, reverse-reverse, append_assoc}
use mathlib.Core.List.{IsPrefix}
use Rattle.rz_events.specs.declared.keys.Actor.{Actor}
use Rattle.rz_events.specs.declared.keys.Actor.TheVariants.{Client, Rebuilder, Admin}
use Rattle.rz_events.specs.declared.events.Word.{Word}
use Rattle.rz_events.specs.declared.events.Word.TheVariants.{Export, Node, Own}
use Rattle.rz_events.specs.declared.events.Event.{Event}
use Rattle.rz_events.specs.Events.{by_of, word_of, same_actor, same_word}
use Rattle.rz_events.specs.Volume.{Volume}
use Rattle.rz_core.specs.History.{of_actor}
use Rattle.rz_core.specs.Legal.{IsLegal, IsAllowed, IsForeign, IsLocal, IsLegalInRuns, IsAllowedIn, IsLocalInRuns, IsLegalAfter}
use Rattle.rz_core.specs.Longer.{IsNextRun}
use Rattle.rz_chronicle.specs.Keys.{touches, events_at, count_at, word_key, actor_key, IsLater}
use Rattle.rz_chronicle.specs.Kinds.{history, HasPlace, HavePlaces, MayFit, volume_in}
use Rattle.rz_chronicle.specs.Laws.{IsLocalAfter}
use Rattle.rz_chronicle.specs.Tokens.{at, Agree, IsHolding, HasCount, Covers, KeepsBookKind, counts}
use Rattle.rz_chronicle.specs.Holds.{keys, Stays}
use Rattle.rz_chronicle.proofs.Keys.{count-append}

-- a filter that takes none of the front
filter-none : {A : Type 0} (p : A → Bool) (more h : List A) → AllByRecursion (λ y. p y ≡ false) more → filter p (more ++ h) ≡ filter p h
filter-none p [] h none = refl
filter-none p (y ∷ more) h none = rw none.0 (filter-none p more h none.1)

abbrev pub later : (xs ys : List Event) → IsPrefix xs ys → IsLater (history xs) (history ys)
later xs ys p = (reverse p.0, sym (ap reverse p.1) ∙ reverse-append xs p.0)

-- logs of one history are one log
pub same-log : (xs ys : List Event) → history xs ≡ history ys → xs ≡ ys
same-log xs ys is = sym (reverse-reverse xs) ∙ (ap reverse is ∙ reverse-reverse ys)

pub later-self : (h : List Event) → IsLater h h
later-self h = ([], refl)

pub history-more : (xs : List Event) (x : Event) → history (xs ++ x ∷ []) ≡ x ∷ history xs
history-more xs x = reverse-append xs (x ∷ [])

pub placed-more : (kind : List ℕ) (xs : List Event) (x : Event) → HavePlaces kind (history xs) → HasPlace kind x → HavePlaces kind (history (xs ++ x ∷ []))
placed-more kind xs x all one = subst (HavePlaces kind) (sym (history-more xs x)) (one, all)

all-append : {A : Type 0} (P : A → Type 0) (xs ys : List A) → AllByRecursion P xs → AllByRecursion P ys → AllByRecursion P (xs ++ ys)
all-append P [] ys a b = b
all-append P (x ∷ xs) ys a b = (a.0, all-append P xs ys a.1 b)

all-reverse : {A : Type 0} (P : A → Type 0) (xs : List A) → AllByRecursion P xs → AllByRecursion P (reverse xs)
all-reverse P [] a = tt
all-reverse P (x ∷ xs) a = subst (AllByRecursion P) (sym (reverse-append (x ∷ []) xs)) (all-append P (reverse xs) (x ∷ []) (all-reverse P xs a.1) (a.0, tt))

all-map : {A : Type 0} (P Q : A → Type 0) (xs : List A) → ((x : A) → P x → Q x) → AllByRecursion P xs → AllByRecursion Q xs
all-map P Q [] f a = tt
all-map P Q (x ∷ xs) f a = (f x a.0, all-map P Q xs f a.1)

all-both : {A : Type 0} (P Q : A → Type 0) (xs : List A) → AllByRecursion P xs → AllByRecursion Q xs → AllByRecursion (λ x. P x × Q x) xs
all-both P Q [] a b = tt
all-both P Q (x ∷ xs) a b = ((a.0, b.0), all-both P Q xs a.1 b.1)

untouched_by : (k : ℕ) (x : Event) (xs : List Event) → count_at k (x ∷ xs) ≡ 0 → (count_at k xs ≡ 0 → AllByRecursion (λ y. touches k y ≡ false) xs)
    → (b : Bool) → touches k x ≡ b → AllByRecursion (λ y. touches k y ≡ false) (x ∷ xs)
untouched_by k x xs z rest true is = let one : ℕ = 1 in let n : cond (touches k x) 1 0 ≡ one = ap (λ (b : Bool). cond b 1 0) is in absurd (omega (arith, count-append k (x ∷ []) xs, n, z))
untouched_by k x xs z rest false is = let none : ℕ = 0 in let n : cond (touches k x) 1 0 ≡ none = ap (λ (b : Bool). cond b 1 0) is in (is, rest (omega (arith, count-append k (x ∷ []) xs, n, z)))

untouched : (k : ℕ) (xs : List Event) → count_at k xs ≡ 0 → AllByRecursion (λ x. touches k x ≡ false) xs
untouched k [] z = tt
untouched k (x ∷ xs) z = untouched_by k x xs z (untouched k xs) (touches k x) refl

-- what lies between two logs with as many events of a key has none
between : (k : ℕ) (xs ys : List Event) → (p : IsPrefix xs ys) → count_at k ys ≡ count_at k xs → AllByRecursion (λ x. touches k x ≡ false) (reverse p.0)
between k xs ys p same =
    let n : count_at k (xs ++ p.0) ≡ count_at k xs = ap (count_at k) p.1 ∙ same in
    all-reverse (λ x. touches k x ≡ false) p.0 (untouched k p.0 (omega (arith, count-append k xs p.0, n)))

pub same-events : (k : ℕ) (xs ys : List Event) → IsPrefix xs ys → count_at k ys ≡ count_at k xs → events_at k (history ys) ≡ events_at k (history xs)
same-events k xs ys p same =
    ap (events_at k) (later xs ys p).1 ∙ filter-none (touches k) (reverse p.0) (history xs) (between k xs ys p same)

pub stays : (held : List (ℕ × ℕ)) (xs ys : List Event) → IsPrefix xs ys → held ≡ at (counts xs) held → Agree (counts ys) held → Stays (keys held) (history xs) (history ys)
stays [] xs ys p right agree k h = absurd h
stays (x ∷ held) xs ys p right agree k h = elim h [
  | inl e ↦ let n : x.1 ≡ count_at x.0 xs = cc (right) in
      subst (λ (j : ℕ). events_at j (history ys) ≡ events_at j (history xs)) (sym e) (same-events x.0 xs ys p (agree.0 ∙ n))
  | inr rest ↦ stays held xs ys p (cc (right)) agree.1 k rest
]

pub count-held : (held : List (ℕ × ℕ)) (f : ℕ → ℕ) (k : ℕ) → held ≡ at f held → IsHolding k held → HasCount held k (f k)
count-held [] f k right h = absurd h
count-held (x ∷ held) f k right h = elim h [
  | inl e ↦ inl (subst (λ (j : ℕ). x ≡ (j, f j)) (sym e) (cc (right)))
  | inr rest ↦ inr (count-held held f k (cc (right)) rest)
]

pub same-held : (held : List (ℕ × ℕ)) (f g : ℕ → ℕ) (k : ℕ) → held ≡ at f held → Agree g held → IsHolding k held → g k ≡ f k
same-held [] f g k right agree h = absurd h
same-held (x ∷ held) f g k right agree h = elim h [
  | inl e ↦ let n : x.1 ≡ f x.0 = cc (right) in subst (λ (j : ℕ). g j ≡ f j) (sym e) (agree.0 ∙ n)
  | inr rest ↦ same-held held f g k (cc (right)) agree.1 rest
]

-- Foreign events.

same_actor-true : (a b : Actor) → same_actor a b ≡ true → b ≡ a
same_actor-true (Client a) (Client b) e = ap Client (sym (eqb-true a b e))
same_actor-true (Rebuilder a) (Rebuilder b) e = ap Rebuilder (sym (eqb-true a b e))
same_actor-true Admin Admin e = refl
same_actor-true (Client a) (Rebuilder b) e = absurd cc
same_actor-true (Client a) Admin e = absurd cc
same_actor-true (Rebuilder a) (Client b) e = absurd cc
same_actor-true (Rebuilder a) Admin e = absurd cc
same_actor-true Admin (Client b) e = absurd cc
same_actor-true Admin (Rebuilder b) e = absurd cc

same_word-true : (a b : Word) → same_word a b ≡ true → b ≡ a
same_word-true Export Export e = refl
same_word-true (Node a) (Node b) e = ap Node (sym (eqb-true a b e))
same_word-true (Own a) (Own b) e = ap Own (same_actor-true a b e)
same_word-true Export (Node b) e = absurd cc
same_word-true Export (Own b) e = absurd cc
same_word-true (Node a) Export e = absurd cc
same_word-true (Node a) (Own b) e = absurd cc
same_word-true (Own a) Export e = absurd cc
same_word-true (Own a) (Node b) e = absurd cc

-- what does not touch the word is not of it
pub other-word : (w : Word) (y : Event) → touches (word_key w) y ≡ false → same_word w (word_of y) ≡ false
other-word w y off = go (same_word w (word_of y)) refl
  where
    go : (b : Bool) → same_word w (word_of y) ≡ b → b ≡ false
    go false is = refl
    go true is =
        let on : (word_key (word_of y) == word_key w) ≡ true = grind (arith, nat_tests, ap word_key (same_word-true w (word_of y) is)) in
        absurd (cc (off, ap (λ (b : Bool). b || (actor_key (by_of y) == word_key w)) on))

or-right : (a b : Bool) → b ≡ true → (a || b) ≡ true
or-right true b e = refl
or-right false b e = e

pub other-actor : (a : Actor) (y : Event) → touches (actor_key a) y ≡ false → same_actor a (by_of y) ≡ false
other-actor a y off = go (same_actor a (by_of y)) refl
  where
    go : (b : Bool) → same_actor a (by_of y) ≡ b → b ≡ false
    go false is = refl
    go true is =
        let on : (actor_key (by_of y) == actor_key a) ≡ true = grind (arith, nat_tests, ap actor_key (same_actor-true a (by_of y) is)) in
        absurd (cc (off, or-right (word_key (word_of y) == actor_key a) (actor_key (by_of y) == actor_key a) on))

-- what is neither of the word nor by the actor of the event lies between
foreign : (x : Event) (log xs : List Event) → (p : IsPrefix log xs) → count_at (word_key (word_of x)) xs ≡ count_at (word_key (word_of x)) log
    → count_at (actor_key (by_of x)) xs ≡ count_at (actor_key (by_of x)) log → AllByRecursion (IsForeign x) (reverse p.0)
foreign x log xs p w a =
    let ws = all-map (λ y. touches (word_key (word_of x)) y ≡ false) (λ y. same_word (word_of x) (word_of y) ≡ false) (reverse p.0) (other-word (word_of x)) (between (word_key (word_of x)) log xs p w) in
    let bys = all-map (λ y. touches (actor_key (by_of x)) y ≡ false) (λ y. same_actor (by_of x) (by_of y) ≡ false) (reverse p.0) (other-actor (by_of x)) (between (actor_key (by_of x)) log xs p a) in
    all-both (λ y. same_word (word_of x) (word_of y) ≡ false) (λ y. same_actor (by_of x) (by_of y) ≡ false) (reverse p.0) ws bys

-- The same after an earlier log.
pub local-after : ((v : Volume) → IsLocalInRuns v) → ((v : Volume) → IsNextRun v) → (v : Volume) → IsLocalAfter v
local-after local next v earlier h more x legal foreign-all allowed =
    let others = all-map (IsForeign x) (λ y. same_actor (by_of x) (by_of y) ≡ false) more (λ y f. f.1) foreign-all in
    let run : of_actor (by_of x) (more ++ h) ≡ of_actor (by_of x) h = filter-none (λ y. same_actor (by_of x) (by_of y)) more h others in
    let runs = subst (λ (z : List Event). IsLegalInRuns v z) (append_assoc more h earlier) (next v earlier (more ++ h) legal) in
    let now = local v (h ++ earlier) more (of_actor (by_of x) h) x runs foreign-all allowed in (
      legal,
      subst (λ (z : List Event). IsAllowedIn v z (of_actor (by_of x) (more ++ h)) x) (sym (append_assoc more h earlier))
          (subst (λ (r : List Event). IsAllowedIn v (more ++ (h ++ earlier)) r x) (sym run) now),
    )

-- what may come may follow all that others add
pub follows : ((v : Volume) → IsLocal v) → ((v : Volume) → IsLocalAfter v) → (kind : List ℕ) (held : List (ℕ × ℕ)) (log : List Event) (x : Event) → held ≡ at (counts log) held → Covers held x
    → MayFit kind (history log) x → KeepsBookKind kind held log x
follows local local_after kind held log x right covers may xs p agree fit =
    let v : Volume = volume_in kind in
    let w : count_at (word_key (word_of x)) xs ≡ count_at (word_key (word_of x)) log = same-held held (counts log) (counts xs) (word_key (word_of x)) right agree covers.0 in
    let a : count_at (actor_key (by_of x)) xs ≡ count_at (actor_key (by_of x)) log = same-held held (counts log) (counts xs) (actor_key (by_of x)) right agree covers.1 in
    let split : history xs ≡ reverse p.0 ++ history log = (later log xs p).1 in (
      (λ honest.
          let legal : IsLegal v (history xs) = fit.0 honest in
          let still : IsAllowed v (reverse p.0 ++ history log) x = local v (history log) (reverse p.0) x (subst (IsLegal v) split legal) (foreign x log xs p w a) (may.0 honest) in
          subst (IsLegal v) (sym (history-more xs x)) (legal, subst (λ (h : List Event). IsAllowed v h x) (sym split) still)),
      (λ on earlier is.
          let legal : IsLegalAfter v earlier (reverse p.0 ++ history log) = subst (IsLegalAfter v earlier) split (fit.1 on earlier is) in
          let now : IsLegalAfter v earlier (x ∷ reverse p.0 ++ history log) = local_after v earlier (history log) (reverse p.0) x legal (foreign x log xs p w a) (may.1 on earlier is) in
          subst (IsLegalAfter v earlier) (sym (history-more xs x)) (subst (λ (h : List Event). IsLegalAfter v earlier (x ∷ h)) (sym split) now)),
    )

pub count_history : (k : ℕ) (xs : List Event) → count_at k (history xs) ≡ count_at k xs
count_history k [] = refl
count_history k (x ∷ xs) = ap (count_at k) (reverse-append (x ∷ []) xs) ∙ (count-append k (reverse xs) (x ∷ []) ∙ omega (arith, count_history k xs, count-append k (x ∷ []) xs))
