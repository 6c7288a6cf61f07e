-- What a step leaves of a pass.
use Rattle.std.proofs.Common.{◌≡◌, ◌≢◌, cond, length, ℕ, ◌+◌, ◌<◌, Bool, true, false, List, [], ◌∷◌, ◌++◌, sym, refl, ap, ◌∙◌, subst, inl, inr, arith, Option, Some, None, IsSomeAnd}
use Rattle.std.proofs.lemmas.List.Sums.{sum_by-cons}
use Rattle.rz_events.specs.declared.keys.Actor.{Actor}
use Rattle.rz_events.specs.declared.keys.Actor.TheVariants.{Client, Rebuilder, Admin}
use Rattle.rz_events.specs.declared.events.Word.{Word}
use Rattle.rz_events.specs.declared.events.Word.TheVariants.{Export, Node, Own}
use Rattle.rz_events.specs.declared.events.Event.{Event}
use Rattle.rz_events.specs.Events.{by_of, word_of}
use Rattle.rz_chronicle.specs.declared.tokens.Tokens.{Tokens}
use Rattle.rz_chronicle.specs.Keys.{touches, count_at, events_at, IsOneOf, IsMember, word_key, actor_key, owner, key_at, key_of_owner, rows}
use Rattle.rz_chronicle.specs.Kinds.{history, MayFit}
use Rattle.rz_chronicle.specs.Tokens.{at, Agree, AllInRow, IsHolding, HasCount, Covers, EndsOnEvent, counts}
use Rattle.rz_chronicle.specs.Holds.{keys, keys_in, AreTokens, AreTokensOf, AreTokensRight, IsShared, Commits}
use Rattle.rz_chronicle.proofs.Keys.{at-at, at-keys, at-holding, count-same, touches-own, touches-other, count-append}
use Rattle.rz_chronicle.proofs.Histories.{later, history-more, stays, count-held, same-held, count_history}

-- what the invariant says of the token that was taken out
pub taken : (P : Tokens → Type 0) (o r : Option Tokens) (h : Tokens) → r ≡ o → r ≡ Some h → IsSomeAnd o P → P h
taken P o r h e is all = subst (λ x. IsSomeAnd x P) (sym e ∙ is) all

pub taken-keys : (o r : Option Tokens) (h : Tokens) → r ≡ o → r ≡ Some h → keys_in o ≡ keys h.held
taken-keys o r h e is = ap keys_in (sym e ∙ is)

pub at-same-keys : (f : ℕ → ℕ) (held : List (ℕ × ℕ)) → keys (at f held) ≡ keys held
at-same-keys f [] = refl
at-same-keys f (x ∷ held) = ap (λ (ks : List ℕ). x.0 ∷ ks) (at-same-keys f held)

-- the own word of an actor stands at its place
pub own-place : (sids : List ℕ) (place : ℕ) (w : Word) → owner sids place ≡ Some w → key_at sids place ≡ word_key w
own-place sids place w is = ap (key_of_owner place) is

pub member-low : (a : Actor) → IsMember a → word_key (Own a) < rows
unfolding rows
member-low (Client c) m = omega (arith, m.1)
member-low (Rebuilder r) m = omega (arith, m.1)
member-low Admin m = omega arith

pub member-actor-low : (a : Actor) → IsMember a → actor_key a < rows
unfolding rows
member-actor-low (Client c) m = omega (arith, m.1)
member-actor-low (Rebuilder r) m = omega (arith, m.1)
member-actor-low Admin m = omega arith

pub tokens-right : (δ η : ℕ) (kind : List ℕ) (log : List Event) (h : Tokens) → AreTokens δ η kind log h → AreTokensRight h
tokens-right δ η kind log h is = record { right = subst (λ (l : List Event). h.held ≡ at (counts l) h.held) (sym is.log_is) is.right; low = is.low }

pub tokens-may : (δ η : ℕ) (kind : List ℕ) (log : List Event) (x : Event) (h : Tokens) → AreTokens δ η kind log h → MayFit kind (history log) x → MayFit h.kind (history h.log) x
tokens-may δ η kind log x h is may = subst (λ (l : List Event). MayFit h.kind (history l) x) (sym is.log_is) (subst (λ (k : List ℕ). MayFit k (history log) x) (sym is.kind_is) may)

-- the tokens after a step
pub tokens-after : (δ η : ℕ) (kind : List ℕ) (xs ys : List Event) (h r : Tokens) → AreTokens δ η kind xs h
    → r.counters ≡ h.counters → r.copy ≡ h.copy → r.kind ≡ h.kind → r.held ≡ at (counts ys) h.held → r.log ≡ ys → AreTokens δ η kind ys r
tokens-after δ η kind xs ys h r is a b c d e = record {
  counters_is = a ∙ is.counters_is;
  copy_is = b ∙ is.copy_is;
  kind_is = c ∙ is.kind_is;
  log_is = e;
  right = d ∙ (sym (at-at (counts ys) (counts ys) h.held) ∙ ap (at (counts ys)) (sym d));
  low = subst AllInRow (sym d) (at-keys (λ (k : ℕ). k < rows) (counts ys) h.held is.low);
}

pub own-after : (a : Actor) (f : ℕ → ℕ) (held more : List (ℕ × ℕ)) → more ≡ at f held → AreTokensOf a held → AreTokensOf a more
own-after a f held more e own = subst (AreTokensOf a) (sym e) (record { own = at-holding (word_key (Own a)) f held own.own; by = at-holding (actor_key a) f held own.by })

pub committed : (held : List (ℕ × ℕ)) (xs new : List Event) (x : Event) → held ≡ at (counts xs) held → EndsOnEvent held xs x new → Commits (keys held) (history xs) x (history new)
committed held xs new x right e = record {
  before = history e.0;
  later = later xs e.0 e.1;
  stays = stays held xs e.0 e.1 right e.2;
  last = ap history e.3 ∙ history-more e.0 x;
}

-- the word of the event has moved by one
pub moved-on : (held : List (ℕ × ℕ)) (xs new : List Event) (x : Event) (n : ℕ) → held ≡ at (counts xs) held → IsHolding (word_key (word_of x)) held
    → n ≡ count_at (word_key (word_of x)) xs → EndsOnEvent held xs x new → n + 1 ≡ count_at (word_key (word_of x)) new
moved-on held xs new x n right has is e =
    let k : ℕ = word_key (word_of x) in
    ap (λ (m : ℕ). m + 1) (is ∙ sym (same-held held (counts xs) (counts e.0) k right e.2 has)) ∙ (sym (count-same k e.0 x (touches-own x)) ∙ ap (count_at k) (sym e.3))

-- the tokens of the actor cover its own events
pub covers : (a : Actor) (held : List (ℕ × ℕ)) (x : Event) → word_of x ≡ Own a → by_of x ≡ a → AreTokensOf a held → Covers held x
covers a held x w b own = (subst (λ v. IsHolding (word_key v) held) (sym w) own.own, subst (λ v. IsHolding (actor_key v) held) (sym b) own.by)

pub has-own : (a : Actor) (held : List (ℕ × ℕ)) (xs : List Event) (x : Event) (n : ℕ) → word_of x ≡ Own a → held ≡ at (counts xs) held → AreTokensOf a held
    → n ≡ count_at (word_key (Own a)) xs → HasCount held (word_key (word_of x)) n
has-own a held xs x n w right own is =
    subst (λ v. HasCount held (word_key v) n) (sym w) (subst (HasCount held (word_key (Own a))) (sym is) (count-held held (counts xs) (word_key (Own a)) right own.own))

count-length : (k : ℕ) (xs : List Event) → count_at k xs ≡ length (events_at k xs)
count-length k [] = refl
count-length k (x ∷ xs) = sum_by-cons (λ (e : Event). cond (touches k e) 1 0) x xs ∙ go (touches k x) (count-length k xs)
  where
    go : (b : Bool) → count_at k xs ≡ length (events_at k xs) → cond b 1 0 + count_at k xs ≡ length (cond b (x ∷ events_at k xs) (events_at k xs))
    go true rest = omega (arith, rest)
    go false rest = omega (arith, rest)

pub holding-key : (k : ℕ) (held : List (ℕ × ℕ)) → IsHolding k held → IsOneOf k (keys held)
holding-key k [] h = h
holding-key k (x ∷ held) h = elim h [ inl e ↦ inl e | inr rest ↦ inr (holding-key k held rest) ]

shared-apart : (w : Word) → IsShared w → (a : Actor) → word_key (Own a) ≢ word_key w
shared-apart Export s a e = absurd (omega (arith, e))
shared-apart (Node n) s a e = absurd (omega (arith, e))
shared-apart (Own b) s a e = absurd s

-- an event of a shared word leaves the actor's own word where it was
pub own-stays : (a : Actor) (held : List (ℕ × ℕ)) (xs new : List Event) (x : Event) → IsShared (word_of x) → AreTokensOf a held → Commits (keys held) (history xs) x (history new)
    → count_at (word_key (Own a)) xs ≡ count_at (word_key (Own a)) new
own-stays a held xs new x shared own c =
    let k : ℕ = word_key (Own a) in
    let off : touches k x ≡ false = touches-other (Own a) x (shared-apart (word_of x) shared a) in
    let none : ℕ = 0 in let z : cond (touches k x) 1 0 ≡ none = ap (λ (b : Bool). cond b 1 0) off in
    let before : count_at k c.before ≡ count_at k (history xs) = count-length k c.before ∙ (ap length (c.stays k (holding-key k held own.own)) ∙ sym (count-length k (history xs))) in
    let top : count_at k (x ∷ c.before) ≡ count_at k c.before = omega (arith, count-append k (x ∷ []) c.before, z) in
    sym (sym (count_history k new) ∙ (ap (count_at k) c.last ∙ (top ∙ (before ∙ count_history k xs))))

-- what is said of more keys
pub later-keys : (k : ℕ) (ks : List ℕ) (old new : List Event) (x : Event) → Commits (k ∷ ks) old x new → Commits ks old x new
later-keys k ks old new x c = record { before = c.before; later = c.later; stays = λ j is. c.stays j (inr is); last = c.last }

-- Tokens that were put together.

pub at-append : (f : ℕ → ℕ) (xs ys : List (ℕ × ℕ)) → at f (xs ++ ys) ≡ at f xs ++ at f ys
at-append f [] ys = refl
at-append f (x ∷ xs) ys = ap (λ (r : List (ℕ × ℕ)). (x.0, f x.0) ∷ r) (at-append f xs ys)

pub keys-append : (xs ys : List (ℕ × ℕ)) → keys (xs ++ ys) ≡ keys xs ++ keys ys
keys-append [] ys = refl
keys-append (x ∷ xs) ys = ap (λ (r : List ℕ). x.0 ∷ r) (keys-append xs ys)

pub agree-left : (f : ℕ → ℕ) (xs ys : List (ℕ × ℕ)) → Agree f (xs ++ ys) → Agree f xs
agree-left f [] ys a = tt
agree-left f (x ∷ xs) ys a = (a.0, agree-left f xs ys a.1)

pub agree-right : (f : ℕ → ℕ) (xs ys : List (ℕ × ℕ)) → Agree f (xs ++ ys) → Agree f ys
agree-right f [] ys a = a
agree-right f (x ∷ xs) ys a = agree-right f xs ys a.1

pub low-append : (xs ys : List (ℕ × ℕ)) → AllInRow xs → AllInRow ys → AllInRow (xs ++ ys)
low-append [] ys a b = b
low-append (x ∷ xs) ys a b = (a.0, low-append xs ys a.1 b)

pub holding-left : (k : ℕ) (xs ys : List (ℕ × ℕ)) → IsHolding k xs → IsHolding k (xs ++ ys)
holding-left k [] ys h = absurd h
holding-left k (x ∷ xs) ys h = elim h [ inl e ↦ inl e | inr rest ↦ inr (holding-left k xs ys rest) ]

pub own-left : (a : Actor) (xs ys : List (ℕ × ℕ)) → AreTokensOf a xs → AreTokensOf a (xs ++ ys)
own-left a xs ys own = record { own = holding-left (word_key (Own a)) xs ys own.own; by = holding-left (actor_key a) xs ys own.by }

pub tokens-made : (δ η : ℕ) (kind : List ℕ) (ys : List Event) (held : List (ℕ × ℕ)) (r : Tokens)
    → r.counters ≡ δ → r.copy ≡ η → r.kind ≡ kind → r.held ≡ at (counts ys) held → r.log ≡ ys → AllInRow held → AreTokens δ η kind ys r
tokens-made δ η kind ys held r a b c d e low = record {
  counters_is = a;
  copy_is = b;
  kind_is = c;
  log_is = e;
  right = d ∙ (sym (at-at (counts ys) (counts ys) held) ∙ ap (at (counts ys)) (sym d));
  low = subst AllInRow (sym d) (at-keys (λ (k : ℕ). k < rows) (counts ys) held low);
}

-- the own word of the actor stands where it stood
pub own-same : (a : Actor) (held : List (ℕ × ℕ)) (xs ys : List Event) → held ≡ at (counts xs) held → Agree (counts ys) held → AreTokensOf a held
    → count_at (word_key (Own a)) xs ≡ count_at (word_key (Own a)) ys
own-same a held xs ys right agree own = sym (same-held held (counts xs) (counts ys) (word_key (Own a)) right agree own.own)

-- a token's count is that of its log
pub one-count : (k n : ℕ) (f : ℕ → ℕ) (held : List (ℕ × ℕ)) → held ≡ (k, n) ∷ [] → held ≡ at f held → n ≡ f k
one-count k n f held one right =
    let e : (k, n) ∷ [] ≡ at f ((k, n) ∷ []) = sym one ∙ (right ∙ ap (at f) one) in
    let pair : (k, n) ≡ (k, f k) = cc (e) in ap (λ (y : ℕ × ℕ). y.1) pair

pub word_token-count : (δ η : ℕ) (kind : List ℕ) (k n : ℕ) (xs : List Event) (o : Option Tokens) → IsSomeAnd o (λ h. AreTokens δ η kind xs h × (h.held ≡ (k, n) ∷ [])) → n ≡ count_at k xs
word_token-count δ η kind k n xs None h = absurd h
word_token-count δ η kind k n xs (Some tokens) h = one-count k n (counts xs) tokens.held h.1 h.0.right

pub own-key : (δ η : ℕ) (kind : List ℕ) (a : Actor) (xs : List Event) (o : Option Tokens) → IsSomeAnd o (λ h. AreTokens δ η kind xs h × AreTokensOf a h.held) → IsOneOf (actor_key a) (keys_in o)
own-key δ η kind a xs None h = absurd h
own-key δ η kind a xs (Some tokens) h = holding-key (actor_key a) tokens.held h.1.by

pub own-word : (δ η : ℕ) (kind : List ℕ) (a : Actor) (xs : List Event) (o : Option Tokens) → IsSomeAnd o (λ h. AreTokens δ η kind xs h × AreTokensOf a h.held) → IsOneOf (word_key (Own a)) (keys_in o)
own-word δ η kind a xs None h = absurd h
own-word δ η kind a xs (Some tokens) h = holding-key (word_key (Own a)) tokens.held h.1.own

-- The first of an actor's tokens and of a word's.

pub pass-first : (δ η : ℕ) (kind : List ℕ) (a : Actor) (h : Tokens) → h.counters ≡ δ → h.copy ≡ η → h.kind ≡ kind → h.log ≡ [] → h.held ≡ (word_key (Own a), 0) ∷ (actor_key a, 0) ∷ []
    → IsMember a → AreTokens δ η kind [] h × AreTokensOf a h.held
pass-first δ η kind a h t c k l is member =
    let two : List (ℕ × ℕ) = (word_key (Own a), 0) ∷ (actor_key a, 0) ∷ [] in (
      record {
        counters_is = t;
        copy_is = c;
        kind_is = k;
        log_is = l;
        right = is ∙ ap (at (counts [])) (sym is);
        low = subst AllInRow (sym is) (member-low a member, (member-actor-low a member, tt));
      },
      subst (AreTokensOf a) (sym is) (record { own = inl refl; by = inr (inl refl) }),
    )

pub word_token-first : (δ η : ℕ) (kind : List ℕ) (k : ℕ) (h : Tokens) → h.counters ≡ δ → h.copy ≡ η → h.kind ≡ kind → h.log ≡ [] → h.held ≡ (k, 0) ∷ [] → k < rows
    → AreTokens δ η kind [] h × (h.held ≡ (k, 0) ∷ [])
word_token-first δ η kind k h t c n l is low = (
  record {
    counters_is = t;
    copy_is = c;
    kind_is = n;
    log_is = l;
    right = is ∙ ap (at (counts [])) (sym is);
    low = subst AllInRow (sym is) (low, tt);
  },
  is,
)

keys-holding : (k : ℕ) (held : List (ℕ × ℕ)) → IsOneOf k (keys held) → IsHolding k held
keys-holding k [] one = one
keys-holding k (x ∷ held) one = elim one [ inl e ↦ inl e | inr rest ↦ inr (keys-holding k held rest) ]

-- tokens are those of another actor too, whose keys are among theirs
pub own-other : (δ η : ℕ) (kind : List ℕ) (log : List Event) (a b : Actor) (o : Option Tokens) → IsSomeAnd o (λ h. AreTokens δ η kind log h × AreTokensOf a h.held)
    → IsOneOf (word_key (Own b)) (keys_in o) → IsOneOf (actor_key b) (keys_in o) → IsSomeAnd o (λ h. AreTokens δ η kind log h × AreTokensOf b h.held)
own-other δ η kind log a b None is own by = is
own-other δ η kind log a b (Some h) is own by = (is.0, record { own = keys-holding (word_key (Own b)) h.held own; by = keys-holding (actor_key b) h.held by })
