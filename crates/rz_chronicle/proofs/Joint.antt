-- A step with two sets of tokens: of a word, and of an actor.
use Rattle.std.proofs.Common.{◌≡◌, ◌==◌, ℕ, ◌+◌, true, List, [], ◌∷◌, ◌++◌, sym, refl, ap, ap₂, ◌∙◌, subst, inl, arith}
use Rattle.std.proofs.lemmas.Bool.Decides.{nat_tests}
use Rattle.rz_events.specs.declared.events.Event.{Event}
use Rattle.rz_events.specs.Events.{word_of}
use Rattle.rz_chronicle.specs.Keys.{count_at, word_key}
use Rattle.rz_chronicle.specs.Kinds.{history}
use Rattle.rz_chronicle.specs.Tokens.{at, Agree, AllInRow, IsHolding, EndsOnEvent, counts, without, count_in}
use Rattle.rz_chronicle.specs.Holds.{keys, Commits}
use Rattle.rz_chronicle.proofs.Keys.{count-same, touches-own}
use Rattle.rz_chronicle.proofs.TokenLaws.{committed}

same-number : (k : ℕ) → (k == k) ≡ true
same-number k = grind (arith, nat_tests)

-- the tokens of both
pub joined : (k n : ℕ) (mine its all : List (ℕ × ℕ)) → its ≡ (k, n) ∷ [] → all ≡ its ++ mine → all ≡ (k, n) ∷ mine
joined k n mine its all is both = both ∙ ap (λ (h : List (ℕ × ℕ)). h ++ mine) is

pub all-low : (k n : ℕ) (mine its all : List (ℕ × ℕ)) → its ≡ (k, n) ∷ [] → all ≡ its ++ mine → AllInRow its → AllInRow mine → AllInRow all
all-low k n mine its all is both low rest =
    let here : AllInRow ((k, n) ∷ []) = subst AllInRow is low in
    subst AllInRow (sym (joined k n mine its all is both)) (here.0, rest)

pub all-right : (k n : ℕ) (log : List Event) (mine its all : List (ℕ × ℕ)) → its ≡ (k, n) ∷ [] → all ≡ its ++ mine → count_at k log ≡ n → mine ≡ at (counts log) mine → all ≡ at (counts log) all
all-right k n log mine its all is both count right =
    let e : all ≡ (k, n) ∷ mine = joined k n mine its all is both in
    let f : (k, n) ∷ mine ≡ at (counts log) ((k, n) ∷ mine) = ap₂ (λ (m : ℕ) (h : List (ℕ × ℕ)). (k, m) ∷ h) (sym count) right in
    e ∙ (f ∙ ap (at (counts log)) (sym e))

-- the first token and the others, at a log
pub first-count : (f : ℕ → ℕ) (k n : ℕ) (mine held : List (ℕ × ℕ)) → held ≡ at f ((k, n) ∷ mine) → count_in k held ≡ f k
first-count f k n mine held is = ap (count_in k) is ∙ rw (same-number k) refl

pub first-without : (f : ℕ → ℕ) (k n : ℕ) (mine held : List (ℕ × ℕ)) → held ≡ at f ((k, n) ∷ mine) → without k held ≡ at f mine
first-without f k n mine held is = ap (without k) is ∙ rw (same-number k) refl

pub first-held : (f : ℕ → ℕ) (k n : ℕ) (mine held : List (ℕ × ℕ)) → held ≡ at f ((k, n) ∷ mine) → IsHolding k held
first-held f k n mine held is = subst (IsHolding k) (sym is) (inl refl)

pub moved-by-one : (k n : ℕ) (mine held : List (ℕ × ℕ)) (x : Event) (log new : List Event) → held ≡ (k, n) ∷ mine → word_key (word_of x) ≡ k → EndsOnEvent held log x new → count_at k new ≡ n + 1
moved-by-one k n mine held x log new is key e =
    let agree : Agree (counts e.0) ((k, n) ∷ mine) = subst (Agree (counts e.0)) is e.2 in
    let one : count_at k (e.0 ++ x ∷ []) ≡ count_at k e.0 + 1 = subst (λ (j : ℕ). count_at j (e.0 ++ x ∷ []) ≡ count_at j e.0 + 1) key (count-same (word_key (word_of x)) e.0 x (touches-own x)) in
    ap (count_at k) e.3 ∙ (one ∙ ap (λ (m : ℕ). m + 1) agree.0)

pub both-commit : (k n : ℕ) (mine held : List (ℕ × ℕ)) (x : Event) (log new : List Event) → held ≡ (k, n) ∷ mine → held ≡ at (counts log) held → EndsOnEvent held log x new
    → Commits (k ∷ keys mine) (history log) x (history new)
both-commit k n mine held x log new is right e =
    subst (λ (ks : List ℕ). Commits ks (history log) x (history new)) (ap keys is) (committed held log new x right e)
