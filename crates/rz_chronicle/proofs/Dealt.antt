-- Passes that are dealt out one after another.
use Rattle.std.proofs.Common.{◌≡◌, ◌≢◌, ◌⊎◌, ℕ, ◌+◌, ◌*◌, ◌<◌, List, [], ◌∷◌, ◌++◌, length-append, sym, refl, ap, ◌∙◌, subst, inl, inr, arith}
use Rattle.std.proofs.lemmas.List.{get_or_push}
use Rattle.std.proofs.Math.ListN.{get_or-append}
use Rattle.rz_events.specs.declared.keys.Actor.{Actor}
use Rattle.rz_events.specs.declared.keys.Actor.TheVariants.{Client, Rebuilder, Admin}
use Rattle.rz_events.specs.declared.events.Word.TheVariants.{Node, Own}
use Rattle.rz_chronicle.specs.Keys.{number, word_key, actor_key, rows}
use Rattle.rz_chronicle.specs.Tokens.{IsHolding, zeros}
use Rattle.rz_chronicle.specs.Rules.{PassView}
use Rattle.rz_chronicle.specs.Dealing.{new_pass, ArePasses}
use Rattle.rz_chronicle.proofs.Adding.{below_or}
use Rattle.rz_chronicle.proofs.Dealing.{zeros-held}
use Rattle.rz_chronicle.proofs.Rows.{rows-is}

-- one pass more
pub passes-more : (f : ℕ → Actor) (n : ℕ) (ps : List PassView) (p : PassView) → ArePasses n f ps → p ≡ new_pass (f n) → ArePasses (n + 1) f (ps ++ p ∷ [])
passes-more f n ps p are is = (
  omega (arith, length-append ps (p ∷ []), are.0),
  λ i d lt. elim (below_or i n lt) [
    | inl low ↦ get_or-append ps (p ∷ []) d i (omega (arith, low, are.0)) ∙ are.1 i d low
    | inr here ↦ get_or_push ps p d i (are.0 ∙ here) ∙ (is ∙ ap (λ (j : ℕ). new_pass (f j)) here)
  ],
)

-- the tokens of an actor
abbrev pub HasBoth : List (ℕ × ℕ) → Actor → Type 0
HasBoth held a = IsHolding (word_key (Own a)) held × IsHolding (actor_key a) held

-- the tokens of the actors after the i-th are left
pub dealt-next : (f : ℕ → Actor) (e : ℕ) → ((c : ℕ) → number (f c) ≡ 3 * c + e) → (i n : ℕ) (old new : List (ℕ × ℕ)) → ((c : ℕ) → i < c → c < n → HasBoth old (f c))
    → ((k : ℕ) → IsHolding k old → k ≢ word_key (Own (f (i + 1))) → k ≢ actor_key (f (i + 1)) → IsHolding k new) → (c : ℕ) → i + 1 < c → c < n → HasBoth new (f c)
dealt-next f e numbers i n old new held rest c low high =
    let both = held c (omega (arith, low)) high in let a = numbers c in let b = numbers (i + 1) in (
      rest (word_key (Own (f c))) both.0 (λ is. absurd (omega (arith, is, a, b, low))) (λ is. absurd (omega (arith, is, a, b, low))),
      rest (actor_key (f c)) both.1 (λ is. absurd (omega (arith, is, a, b, low))) (λ is. absurd (omega (arith, is, a, b, low))),
    )

-- What is left when a new book deals out its tokens: the export's first, then those of the nodes, the administrator's, those of the
-- clients, and those of the rebuilders.

start-held : (held : List (ℕ × ℕ)) → held ≡ zeros 0 rows → (k : ℕ) → k < rows → IsHolding k held
start-held held is k low = subst (IsHolding k) (sym is) (zeros-held 0 rows k (omega arith) (omega (arith, low)))

abbrev pub AfterExport : List (ℕ × ℕ) → List (ℕ × ℕ) → Type 0
AfterExport old new = (k : ℕ) → IsHolding k old → k ≢ 0 → IsHolding k new

abbrev pub AfterNodes : List (ℕ × ℕ) → List (ℕ × ℕ) → Type 0
AfterNodes old new = (k : ℕ) → IsHolding k old → ((n : ℕ) → k ≢ word_key (Node n)) → IsHolding k new

abbrev pub AfterAdmin : List (ℕ × ℕ) → List (ℕ × ℕ) → Type 0
AfterAdmin old new = (k : ℕ) → IsHolding k old → k ≢ word_key (Own Admin) → k ≢ actor_key Admin → IsHolding k new

abbrev pub AfterClients : List (ℕ × ℕ) → List (ℕ × ℕ) → Type 0
AfterClients old new = (k : ℕ) → IsHolding k old → ((c : ℕ) → k ≢ word_key (Own (Client c))) → ((c : ℕ) → k ≢ actor_key (Client c)) → IsHolding k new

pub export-held : (a : List (ℕ × ℕ)) → a ≡ zeros 0 rows → IsHolding 0 a
export-held a is = start-held a is 0 (omega (arith, rows-is))

pub nodes-held : (a b : List (ℕ × ℕ)) → a ≡ zeros 0 rows → AfterExport a b → (n : ℕ) → word_key (Node n) < rows → IsHolding (word_key (Node n)) b
nodes-held a b is r n low = r (word_key (Node n)) (start-held a is (word_key (Node n)) low) (λ e. absurd (omega (arith, e)))

pub admin-held : (a b d : List (ℕ × ℕ)) → a ≡ zeros 0 rows → AfterExport a b → AfterNodes b d → HasBoth d Admin
admin-held a b d is r s = (
  s 10 (r 10 (start-held a is 10 (omega (arith, rows-is))) (λ e. absurd (omega (arith, e)))) (λ n e. absurd (omega (arith, e))),
  s 11 (r 11 (start-held a is 11 (omega (arith, rows-is))) (λ e. absurd (omega (arith, e)))) (λ n e. absurd (omega (arith, e))),
)

own-held : (a b d e : List (ℕ × ℕ)) → a ≡ zeros 0 rows → AfterExport a b → AfterNodes b d → AfterAdmin d e → (k m : ℕ) → k < rows → (k ≡ 4 * m + 2) ⊎ (k ≡ 4 * m + 3) → m ≢ 2 → IsHolding k e
own-held a b d e is r s t k m low (inl at) apart =
    t k (s k (r k (start-held a is k low) (λ x. absurd (omega (arith, x, at)))) (λ n x. absurd (omega (arith, x, at)))) (λ x. apart (omega (arith, x, at))) (λ x. absurd (omega (arith, x, at)))
own-held a b d e is r s t k m low (inr at) apart =
    t k (s k (r k (start-held a is k low) (λ x. absurd (omega (arith, x, at)))) (λ n x. absurd (omega (arith, x, at)))) (λ x. absurd (omega (arith, x, at))) (λ x. apart (omega (arith, x, at)))

pub clients-held : (a b d e : List (ℕ × ℕ)) → a ≡ zeros 0 rows → AfterExport a b → AfterNodes b d → AfterAdmin d e → (c : ℕ) → c < 65 → HasBoth e (Client c)
clients-held a b d e is r s t c few = (
  own-held a b d e is r s t (word_key (Own (Client c))) (3 * c) (omega (arith, few, rows-is)) (inl refl) (λ x. absurd (omega (arith, x))),
  own-held a b d e is r s t (actor_key (Client c)) (3 * c) (omega (arith, few, rows-is)) (inr refl) (λ x. absurd (omega (arith, x))),
)

pub rebuilders-held : (a b d e f : List (ℕ × ℕ)) → a ≡ zeros 0 rows → AfterExport a b → AfterNodes b d → AfterAdmin d e → AfterClients e f → (c : ℕ) → c < 17 → HasBoth f (Rebuilder c)
rebuilders-held a b d e f is r s t u c few = (
  u (word_key (Own (Rebuilder c))) (own-held a b d e is r s t (word_key (Own (Rebuilder c))) (3 * c + 1) (omega (arith, few, rows-is)) (inl refl) (λ x. absurd (omega (arith, x))))
      (λ n x. absurd (omega (arith, x))) (λ n x. absurd (omega (arith, x))),
  u (actor_key (Rebuilder c)) (own-held a b d e is r s t (actor_key (Rebuilder c)) (3 * c + 1) (omega (arith, few, rows-is)) (inr refl) (λ x. absurd (omega (arith, x))))
      (λ n x. absurd (omega (arith, x))) (λ n x. absurd (omega (arith, x))),
)
