-- Where each event is of one word of a book, the words have as many events as the log.
use Rattle.std.proofs.Common.{◌≡◌, ◌≢◌, ◌==◌, ◌||◌, ◌≤◌, ◌<◌, ◌+◌, ◌-◌, ◌++◌, ℕ, zero, suc, Bool, true, false, cond, List, [], ◌∷◌, Option, Some, None, length, sym, refl, ap, ap₂, ◌∙◌, subst, inl, inr, arith}
use Rattle.std.specs.List.{AllByRecursion}
use Rattle.std.proofs.lemmas.Bool.Decides.{nat_tests}
use Rattle.std.proofs.lemmas.List.Sums.{sum_by-cons}
use Rattle.std.proofs.Math.Nat.{eq-or-lt_of_le}
use Rattle.rz_events.specs.declared.keys.Actor.{Actor}
use Rattle.rz_events.specs.declared.keys.Actor.TheVariants.{Client, Rebuilder, Admin}
use Rattle.rz_events.specs.declared.events.Word.{Word}
use Rattle.rz_events.specs.declared.events.Word.TheVariants.{Export, Node, Own}
use Rattle.rz_events.specs.declared.events.Event.{Event}
use Rattle.rz_events.specs.Events.{by_of, word_of}
use Rattle.rz_events.specs.Volume.{Volume}
use Rattle.rz_chronicle.specs.Keys.{IsLater, StandApart, actor_key, count_at, moves_of, number, owner, sids_of, touches, word_key}
use Rattle.rz_chronicle.specs.Kinds.{HavePlaces, volume_in}
use Rattle.rz_threads_workers.proofs.Counts.{moves_before, moves_in}

-- Keys.

number-apart : (a b : Actor) → number a ≡ number b → a ≡ b
number-apart (Client a) (Client b) e = ap Client (omega (arith, e))
number-apart (Client a) (Rebuilder b) e = absurd (omega (arith, e))
number-apart (Client a) Admin e = absurd (omega (arith, e))
number-apart (Rebuilder a) (Client b) e = absurd (omega (arith, e))
number-apart (Rebuilder a) (Rebuilder b) e = ap Rebuilder (omega (arith, e))
number-apart (Rebuilder a) Admin e = absurd (omega (arith, e))
number-apart Admin (Client b) e = absurd (omega (arith, e))
number-apart Admin (Rebuilder b) e = absurd (omega (arith, e))
number-apart Admin Admin e = refl

-- no two words have one key
word-apart : (v w : Word) → word_key v ≡ word_key w → v ≡ w
word-apart Export Export e = refl
word-apart Export (Node n) e = absurd (omega (arith, e))
word-apart Export (Own b) e = absurd (omega (arith, e))
word-apart (Node m) Export e = absurd (omega (arith, e))
word-apart (Node m) (Node n) e = ap Node (omega (arith, e))
word-apart (Node m) (Own b) e = absurd (omega (arith, e))
word-apart (Own a) Export e = absurd (omega (arith, e))
word-apart (Own a) (Node n) e = absurd (omega (arith, e))
word-apart (Own a) (Own b) e = ap Own (number-apart a b (omega (arith, e)))

actor-apart : (a : Actor) (w : Word) → actor_key a ≢ word_key w
actor-apart a Export e = omega (arith, e)
actor-apart a (Node n) e = omega (arith, e)
actor-apart a (Own b) e = omega (arith, e)

-- One event more.

one-more : (k : ℕ) (x : Event) (h : List Event) → touches k x ≡ true → count_at k (x ∷ h) ≡ 1 + count_at k h
one-more k x h on = sum_by-cons (λ (e : Event). cond (touches k e) 1 0) x h ∙ ap (λ (b : Bool). cond b 1 0 + count_at k h) on

no-more : (k : ℕ) (x : Event) (h : List Event) → touches k x ≡ false → count_at k (x ∷ h) ≡ count_at k h
no-more k x h off = sum_by-cons (λ (e : Event). cond (touches k e) 1 0) x h ∙ (ap (λ (b : Bool). cond b 1 0 + count_at k h) off ∙ omega arith)

own-key : (x : Event) → touches (word_key (word_of x)) x ≡ true
own-key x =
    let on : (word_key (word_of x) == word_key (word_of x)) ≡ true = grind (arith, nat_tests) in
    ap (λ (b : Bool). b || (actor_key (by_of x) == word_key (word_of x))) on

other-key : (w : Word) (x : Event) → word_of x ≢ w → touches (word_key w) x ≡ false
other-key w x differ =
    let keys : word_key (word_of x) ≢ word_key w = λ e. differ (word-apart (word_of x) w e) in
    let a : (word_key (word_of x) == word_key w) ≡ false = grind (arith, nat_tests, keys) in
    let b : (actor_key (by_of x) == word_key w) ≡ false = grind (arith, nat_tests, actor-apart (by_of x) w) in
    ap₂ (λ (p q : Bool). p || q) a b

-- the owner of the event's word has one more
moves-here : (o : Option Word) (x : Event) (h : List Event) → o ≡ Some (word_of x) → moves_of o (x ∷ h) ≡ 1 + moves_of o h
moves-here o x h is =
    subst (λ (p : Option Word). moves_of p (x ∷ h) ≡ 1 + moves_of p h) (sym is) (one-more (word_key (word_of x)) x h (own-key x))

-- each other has as many as before
moves-there : (o : Option Word) (x : Event) (h : List Event) → o ≢ Some (word_of x) → moves_of o (x ∷ h) ≡ moves_of o h
moves-there None x h apart = refl
moves-there (Some w) x h apart = no-more (word_key w) x h (other-key w x (λ e. apart (ap Some (sym e))))

module _ (sids : List ℕ) (apart : StandApart sids) where
  module _ (x : Event) (h : List Event) (q : ℕ) (low : q < 338) (is : owner sids q ≡ Some (word_of x)) where
    -- the places before that of the event's word
    before : (place : ℕ) → place ≤ q → moves_before place sids (x ∷ h) ≡ moves_before place sids h
    unfolding moves_before
    before zero le = refl
    before (suc place) le =
        let there : owner sids place ≢ Some (word_of x) = λ e. let same : place ≡ q = apart place q (word_of x) (omega (arith, le, low)) low e is in omega (arith, same, le) in
        ap₂ (λ (a b : ℕ). a + b) (before place (omega (arith, le))) (moves-there (owner sids place) x h there)

    -- its own place, and as many after it
    after : (place : ℕ) → q < place → place ≤ 338 → moves_before place sids (x ∷ h) ≡ suc (moves_before place sids h)
    unfolding moves_before
    after zero past le = absurd (omega (arith, past))
    after (suc place) past le = elim (eq-or-lt_of_le le-place) [
      | inl here ↦ subst (λ (n : ℕ). moves_before n sids (x ∷ h) + moves_of (owner sids n) (x ∷ h) ≡ suc (moves_before n sids h + moves_of (owner sids n) h)) here at-own
      | inr later ↦ let there : owner sids place ≢ Some (word_of x) = λ e. let same : place ≡ q = apart place q (word_of x) (omega (arith, le)) low e is in omega (arith, same, later) in
          let a : moves_before place sids (x ∷ h) ≡ suc (moves_before place sids h) = after place later (omega (arith, le)) in
          let b : moves_of (owner sids place) (x ∷ h) ≡ moves_of (owner sids place) h = moves-there (owner sids place) x h there in
          omega (arith, a, b)
    ]
      where
        le-place : q ≤ place
        le-place = omega (arith, past)

        at-own : moves_before q sids (x ∷ h) + moves_of (owner sids q) (x ∷ h) ≡ suc (moves_before q sids h + moves_of (owner sids q) h)
        at-own =
            let a : moves_before q sids (x ∷ h) ≡ moves_before q sids h = before q (omega arith) in
            let b : moves_of (owner sids q) (x ∷ h) ≡ 1 + moves_of (owner sids q) h = moves-here (owner sids q) x h is in
            omega (arith, a, b)

    one-event : moves_in sids (x ∷ h) ≡ suc (moves_in sids h)
    one-event = after 338 low (omega arith)

none-moves : (o : Option Word) → moves_of o [] ≡ 0
none-moves None = refl
none-moves (Some w) = refl

none-before : (place : ℕ) (sids : List ℕ) → moves_before place sids [] ≡ 0
unfolding moves_before
none-before zero sids = refl
none-before (suc place) sids = omega (arith, none-before place sids, none-moves (owner sids place))

total-at : (kind : List ℕ) → StandApart (sids_of (volume_in kind)) → (h : List Event) → HavePlaces kind h → moves_in (sids_of (volume_in kind)) h ≡ length h
total-at kind apart [] placed = none-before 338 (sids_of (volume_in kind))
total-at kind apart (x ∷ h) placed =
    let here = placed.0 in
    one-event (sids_of (volume_in kind)) apart x h here.place here.low here.owner_is ∙ ap suc (total-at kind apart h placed.1)

-- so the words have as many events as the log
pub total : (kind : List ℕ) (v : Volume) → v ≡ volume_in kind → StandApart (sids_of v) → (h : List Event) → HavePlaces kind h → moves_in (sids_of v) h ≡ length h
total kind v is apart h placed =
    subst (λ (u : Volume). moves_in (sids_of u) h ≡ length h) (sym is) (total-at kind (subst (λ (u : Volume). StandApart (sids_of u)) is apart) h placed)

all-right : {A : Type 0} (P : A → Type 0) (xs ys : List A) → AllByRecursion P (xs ++ ys) → AllByRecursion P ys
all-right P [] ys all = all
all-right P (x ∷ xs) ys all = all-right P xs ys all.1

-- what is said of all events is said of the older ones
pub placed-before : (kind : List ℕ) (old new : List Event) → IsLater old new → HavePlaces kind new → HavePlaces kind old
placed-before kind old new later placed = all-right _ later.0 old (subst (HavePlaces kind) later.1 placed)
