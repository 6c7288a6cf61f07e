-- What is left of the tokens when some were dealt out.
use Rattle.std.proofs.Common.{◌≡◌, ◌≢◌, ◌==◌, ℕ, zero, suc, ◌+◌, ◌<◌, ◌≤◌, Bool, true, false, cond, List, [], ◌∷◌, sym, refl, ap, ◌∙◌, subst, inl, inr, arith}
use Rattle.std.specs.List.{AllByRecursion}
use Rattle.std.proofs.lemmas.Bool.{eqb-true}
use Rattle.std.proofs.Math.Nat.{eq-or-lt_of_le}
use Rattle.rz_events.specs.declared.keys.Actor.{Actor}
use Rattle.rz_events.specs.declared.events.Word.TheVariants.{Own}
use Rattle.rz_chronicle.specs.Keys.{word_key, actor_key}
use Rattle.rz_chronicle.specs.Tokens.{IsHolding, without, count_in, zeros}

-- each count is 0
abbrev pub AreNone : List (ℕ × ℕ) → Type 0
AreNone held = AllByRecursion (λ (x : ℕ × ℕ). x.1 ≡ 0) held

pub none-count : (k : ℕ) (held : List (ℕ × ℕ)) → AreNone held → count_in k held ≡ 0
none-count k [] all = refl
none-count k (x ∷ held) all = go (none-count k held all.1) (x.0 == k)
  where
    go : count_in k held ≡ 0 → (b : Bool) → cond b x.1 (count_in k held) ≡ 0
    go rest true = all.0
    go rest false = rest

pub none-without : (k : ℕ) (held : List (ℕ × ℕ)) → AreNone held → AreNone (without k held)
none-without k [] all = tt
none-without k (x ∷ held) all = go (none-without k held all.1) (x.0 == k)
  where
    go : AreNone (without k held) → (b : Bool) → AreNone (cond b held (x ∷ without k held))
    go rest true = all.1
    go rest false = (all.0, rest)

pub still-held : (k j : ℕ) (held : List (ℕ × ℕ)) → j ≢ k → IsHolding j held → IsHolding j (without k held)
still-held k j [] apart h = absurd h
still-held k j (x ∷ held) apart h = go (still-held k j held apart) (x.0 == k) refl
  where
    go : (IsHolding j held → IsHolding j (without k held)) → (b : Bool) → (x.0 == k) ≡ b → IsHolding j (cond b held (x ∷ without k held))
    go rest true is = elim h [ inl e ↦ absurd (apart (e ∙ eqb-true x.0 k is)) | inr more ↦ more ]
    go rest false is = elim h [ inl e ↦ inl e | inr more ↦ inr (rest more) ]

pub zeros-held : (k n j : ℕ) → k ≤ j → j < k + n → IsHolding j (zeros k n)
zeros-held k zero j low high = absurd (omega arith)
zeros-held k (suc n) j low high = elim (eq-or-lt_of_le low) [
  | inl e ↦ inl (sym e)
  | inr l ↦ inr (zeros-held (suc k) n j (omega arith) (omega arith))
]

pub zeros-none : (k n : ℕ) → AreNone (zeros k n)
zeros-none k zero = tt
zeros-none k (suc n) = (refl, zeros-none (suc k) n)

-- the keys of an actor
next-key : (a : Actor) → word_key (Own a) + 1 ≡ actor_key a
next-key a = omega arith

pub held-next : (a : Actor) (k : ℕ) (held rest : List (ℕ × ℕ)) → k ≡ word_key (Own a) → rest ≡ without k held → IsHolding (actor_key a) held → IsHolding (k + 1) rest
held-next a k held rest is left h =
    let next : k + 1 ≡ actor_key a = ap (λ (j : ℕ). j + 1) is ∙ next-key a in
    let apart : actor_key a ≢ k = (λ e. absurd (omega (arith, e, next))) in
    subst (IsHolding (k + 1)) (sym left) (subst (λ (j : ℕ). IsHolding j (without k held)) (sym next) (still-held k (actor_key a) held apart h))

pub held-one : (k key : ℕ) (held rest : List (ℕ × ℕ)) → rest ≡ without key held → IsHolding k held → k ≢ key → IsHolding k rest
held-one k key held rest left h apart = subst (IsHolding k) (sym left) (still-held key k held apart h)

pub held-two : (a : Actor) (k key : ℕ) (held mid rest : List (ℕ × ℕ)) → key ≡ word_key (Own a) → mid ≡ without key held → rest ≡ without (key + 1) mid → IsHolding k held → k ≢ word_key (Own a) → k ≢ actor_key a → IsHolding k rest
held-two a k key held mid rest is left left2 h apart apart2 =
    let next : key + 1 ≡ actor_key a = ap (λ (j : ℕ). j + 1) is ∙ next-key a in
    held-one k (key + 1) mid rest left2 (held-one k key held mid left h (λ e. apart (e ∙ is))) (λ e. apart2 (e ∙ next))
