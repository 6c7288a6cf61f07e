-- What a step does to the tokens. Assumes `Logic`.
use Rattle.std.proofs.Common.{◌≡◌, ◌≢◌, ◌==◌, ℕ, zero, suc, ◌+◌, ◌<◌, ◌≤◌, Bool, true, false, List, [], ◌∷◌, ◌++◌, map, cond, sym, refl, ap, ap₂, ◌∙◌, subst, inl, inr, arith, MatchBool, None}
use Rattle.std.specs.List.{AllByRecursion, IsDistinct}
use Rattle.std.specs.Prelude.{nat_eq}
use Rattle.std.proofs.lemmas.Map.Keys.{IsDistinct-cons}
use Rattle.std.proofs.lemmas.Bool.Decides.{nat_tests}
use Rattle.std.proofs.lemmas.Bool.{eqb-true, eqb-false}
use Rattle.std.proofs.lemmas.List.{append-nil}
use Rattle.std.proofs.Math.Nat.{eq-or-lt_of_le}
use mathlib.Core.List.{IsPrefix}
use base.Growing.{latest, at_least}
use seplogic.Ra.Ura.{Ura}
use base.Fraction.{full_share}
use base.Share.{quarter, three_quarters}
use base.Logic.{SProp, ent, sep, wand, ex, all, upd, emp, via, all_i, upd_i}
use base.Fml.{Fml, ftrue, fsep}
use base.Shift.{Keyless}
use types.Logic.{Logic, sem}
use types.Owned.{basic}
use types.Keyed.{entries_new, entries_take, entry_keyless}
use types.Growing.{latest_new, latest_grows, latest_shows, latest_bounds}
use types.Kit.{‵, raw, ◌⊛◌, some, given, later, ◌$◌, ◌∵◌, !, qed, by, move, keep, drop, split, fsplit, fsplit3, fjoin, fpick, fpack, pick, learn, show, assume, suffices, settle, done, use0, use1, use2, updating, await, now, rewrite}
use denote.Steps.{nothing}
use Rattle.logbook.specs.Kept.{fact, halved, part, roster, logs, reached, offer_owns}
use Rattle.logbook.proofs.Roster.{joined, resets, prefix_in, prefix_out}
use Rattle.rz_events.specs.contracts.events.Event.{the_row}
use Rattle.rz_events.specs.declared.events.Event.{Event}
use Rattle.rz_chronicle.specs.declared.told.Told.{Told}
use Rattle.rz_chronicle.specs.Keys.{rows, IsInRow}
use Rattle.rz_chronicle.specs.Kinds.{HasPlace, Fits}
use Rattle.rz_chronicle.specs.Tokens.{halves, parts, at, Agree, AreKeysApart, counts, grown, kept, tokens_own, gained, AllInRow, IsHolding, IsOfKind, Covers, KeepsBookKind, zeros, without, count_in}
use Rattle.rz_chronicle.specs.Rules.{IsMove}
use Rattle.rz_chronicle.proofs.Keys.{outside, at-at, at-keys}
use Rattle.rz_chronicle.proofs.Histories.{placed-more}

pub halves_keyless : (δ k n : ℕ) (f : ℕ → ℕ) → Keyless (halves δ k n f)
halves_keyless δ k zero f = tt
halves_keyless δ k (suc n) f = (entry_keyless halved δ k _, halves_keyless δ (suc k) n f)

same_halves : (δ k n : ℕ) (f g : ℕ → ℕ) → ((b : ℕ) → k ≤ b → f b ≡ g b) → halves δ k n f ≡ halves δ k n g
same_halves δ k zero f g same = refl
same_halves δ k (suc n) f g same =
    ap₂ (λ (v : ℕ) (rest : Fml). fsep (part δ k three_quarters v) rest) (same k (omega arith)) (same_halves δ (suc k) n f g (λ b le. same b (omega arith)))

-- f, but m at a
abbrev put : (ℕ → ℕ) → ℕ → ℕ → ℕ → ℕ
put f a m b = cond (b == a) m (f b)

put-here : (f : ℕ → ℕ) (a m : ℕ) → put f a m a ≡ m
put-here f a m = let on : (a == a) ≡ true = grind (arith, nat_tests) in rw on refl

put-else : (f : ℕ → ℕ) (a m b : ℕ) → b ≢ a → f b ≡ put f a m b
put-else f a m b apart = let off : (b == a) ≡ false = grind (arith, nat_tests, apart) in rw off refl

-- what is outside of all is, once the first is put right, outside of the others
put-out : (f g : ℕ → ℕ) (x : ℕ × ℕ) (held : List (ℕ × ℕ)) → ((k : ℕ) → mathlib.Core.Logic.◌⊎◌ (IsHolding k (x ∷ held)) (f k ≡ g k))
    → (k : ℕ) → mathlib.Core.Logic.◌⊎◌ (IsHolding k held) (put f x.0 (g x.0) k ≡ g k)
put-out f g x held out k = go (k == x.0) refl
  where
    go : (b : Bool) → (k == x.0) ≡ b → mathlib.Core.Logic.◌⊎◌ (IsHolding k held) (cond b (g x.0) (f k) ≡ g k)
    go true is = inr (ap g (sym (eqb-true k x.0 is)))
    go false is = elim (out k) [
      | inl h ↦ elim h [ inl e ↦ absurd (eqb-false k x.0 is e) | inr rest ↦ inl rest ]
      | inr e ↦ inr e
    ]

is-held : (k : ℕ) (held : List (ℕ × ℕ)) → mathlib.Core.Logic.◌⊎◌ (IsHolding k held) (IsHolding k held → ⊥)
is-held k [] = inr (λ h. h)
is-held k (x ∷ held) = go (k == x.0) refl (is-held k held)
  where
    go : (b : Bool) → (k == x.0) ≡ b → mathlib.Core.Logic.◌⊎◌ (IsHolding k held) (IsHolding k held → ⊥) → mathlib.Core.Logic.◌⊎◌ (IsHolding k (x ∷ held)) (IsHolding k (x ∷ held) → ⊥)
    go true is rest = inl (inl (eqb-true k x.0 is))
    go false is rest = elim rest [
      | inl h ↦ inl (inr h)
      | inr none ↦ inr (λ h. elim h [ inl e ↦ eqb-false k x.0 is e | inr more ↦ none more ])
    ]

none-equal : (k : ℕ) (held : List (ℕ × ℕ)) → (IsHolding k held → ⊥) → AllByRecursion (λ (j : ℕ). nat_eq k j ≡ false) (map (λ (x : ℕ × ℕ). x.0) held)
none-equal k [] none = tt
none-equal k (x ∷ held) none = (
  (let apart : k ≢ x.0 = λ e. none (inl e) in grind (arith, nat_tests, apart)),
  none-equal k held (λ h. none (inr h)),
)

apart-first : AreKeysApart []
unfolding IsDistinct
apart-first = tt

apart-more : (x : ℕ × ℕ) (held : List (ℕ × ℕ)) → (IsHolding x.0 held → ⊥) → AreKeysApart held → AreKeysApart (x ∷ held)
apart-more x held none rest = IsDistinct-cons nat_eq x.0 (map (λ (y : ℕ × ℕ). y.0) held) (none-equal x.0 held none) rest

module _ {M : Type 1} {𝓤 : Ura M} (𝓛 : Logic 𝓤) (δ : ℕ) where
  open 𝓛 use {H, A as At}

  abbrev Pr : Type 2
  Pr = SProp 𝓤

  abbrev ◌⊢◌ : Pr → Pr → Type 1
  P ⊢ Q = ent 𝓤 P Q

  abbrev ◌∗◌ : Pr → Pr → Pr
  P ∗ Q = sep 𝓤 P Q

  abbrev ⟦◌⟧ : Fml → Pr
  ⟦ P ⟧ = sem 𝓛 P

  infix 26 ◌⊢◌
  infixr 35 ◌∗◌
  -- the two halves of a token agree, and move together
  swap : (k n : ℕ) (f g : ℕ → ℕ) (a t : ℕ) (F : Type 0) → k ≤ a → a < k + n → ((b : ℕ) → b ≢ a → f b ≡ g b) → (f a ≡ t → F)
      → ⟦ halves δ k n f ⟧ ∗ ⟦ part δ a quarter t ⟧ ⊢ upd 𝓤 (⟦ halves δ k n g ⟧ ∗ ⟦ fsep (part δ a quarter (g a)) (fact F) ⟧)
  swap k zero f g a t F low high same so = absurd (omega arith)
  swap k (suc n) f g a t F low high same so =
      let Z : Pr = ⟦ halves δ k (suc n) g ⟧ ∗ ⟦ fsep (part δ a quarter (g a)) (fact F) ⟧ in
      elim (eq-or-lt_of_le low) [
        | inl e ↦ let rest : halves δ (suc k) n f ≡ halves δ (suc k) n g = same_halves δ (suc k) n f g (λ b le. same b (λ is. absurd (omega arith))) in
            qed 𝓛 ((‵ (part δ k three_quarters (f k)) ⊛ ‵ (halves δ (suc k) n f)) ∷ ‵ (part δ a quarter t) ∷ []) ∵ split ! $
            rewrite ! 2 (λ (m : ℕ). ‵ (part δ m quarter t)) (sym e) refl $ rewrite ! 1 (λ (q : Fml). ‵ q) rest refl $ move ! (2 ∷ 0 ∷ []) $
            use2 𝓛 (given (t ≡ f k) (‵ (part δ k full_share t))) (joined 𝓛 δ k t (f k)) $ learn ! (λ is.
            use1 𝓛 (raw (upd 𝓤 (⟦ part δ k quarter (g k) ⟧ ∗ ⟦ part δ k three_quarters (g k) ⟧))) (resets 𝓛 δ k t (g k)) $
            settle 𝓛 Z (‵ (part δ k quarter (g k)) ⊛ ‵ (part δ k three_quarters (g k))) $ split ! $ suffices ! _ (upd_i 𝓤 Z) $
            move ! (1 ∷ 2 ∷ []) $ fjoin ! $ move ! (1 ∷ []) $ rewrite ! 0 (λ (m : ℕ). ‵ (part δ m quarter (g m))) e refl $
            nothing ! $ fpack ! F (λ _. ftrue) (so (ap f (sym e) ∙ sym is)) $ move ! (1 ∷ 0 ∷ []) $ fjoin ! $ move ! (1 ∷ 0 ∷ []) $ done !)
        | inr l ↦ let Y : Pr = ⟦ halves δ (suc k) n g ⟧ ∗ ⟦ fsep (part δ a quarter (g a)) (fact F) ⟧ in
            qed 𝓛 ((‵ (part δ k three_quarters (f k)) ⊛ ‵ (halves δ (suc k) n f)) ∷ ‵ (part δ a quarter t) ∷ []) ∵ split ! $
            rewrite ! 0 (λ (m : ℕ). ‵ (part δ k three_quarters m)) (same k (λ is. absurd (omega arith))) refl $ move ! (1 ∷ 2 ∷ []) $
            use2 𝓛 (raw (upd 𝓤 Y)) (swap (suc k) n f g a t F (omega arith) (omega arith) same so) $
            settle 𝓛 Z (‵ (halves δ (suc k) n g) ⊛ ‵ (fsep (part δ a quarter (g a)) (fact F))) $ split ! $ suffices ! _ (upd_i 𝓤 Z) $
            move ! (2 ∷ 0 ∷ []) $ fjoin ! $ done !
      ]

  -- what a set of tokens holds is what the book counts
  agrees : (n : ℕ) (f : ℕ → ℕ) (held : List (ℕ × ℕ)) → AllByRecursion (λ (x : ℕ × ℕ). x.0 < n) held
      → ⟦ halves δ 0 n f ⟧ ∗ ⟦ parts δ held ⟧ ⊢ upd 𝓤 (⟦ halves δ 0 n f ⟧ ∗ ⟦ fsep (parts δ (at f held)) (fact (Agree f held)) ⟧)
  agrees n f [] low = let Z : Pr = ⟦ halves δ 0 n f ⟧ ∗ ⟦ fsep (parts δ []) (fact (Agree f [])) ⟧ in
      qed 𝓛 (‵ (halves δ 0 n f) ∷ ‵ (parts δ []) ∷ []) ∵ suffices ! _ (upd_i 𝓤 Z) $
      nothing ! $ fpack ! (Agree f []) (λ _. ftrue) tt $ move ! (2 ∷ 0 ∷ []) $ fjoin ! $ move ! (1 ∷ 0 ∷ []) $ done !
  agrees n f (x ∷ held) low = let Z : Pr = ⟦ halves δ 0 n f ⟧ ∗ ⟦ fsep (parts δ (at f (x ∷ held))) (fact (Agree f (x ∷ held))) ⟧ in
      let one : Fml = fsep (part δ x.0 quarter (f x.0)) (fact (f x.0 ≡ x.1)) in let more : Fml = fsep (parts δ (at f held)) (fact (Agree f held)) in
      qed 𝓛 (‵ (halves δ 0 n f) ∷ ‵ (parts δ (x ∷ held)) ∷ []) ∵ move ! (1 ∷ []) $ fsplit ! $ move ! (2 ∷ 0 ∷ []) $
      use2 𝓛 (raw (upd 𝓤 (⟦ halves δ 0 n f ⟧ ∗ ⟦ one ⟧))) (swap 0 n f f x.0 x.1 (f x.0 ≡ x.1) (omega arith) (omega (arith, low.0)) (λ b apart. refl) (λ is. is)) $
      settle 𝓛 Z (‵ (halves δ 0 n f) ⊛ ‵ one) $ split ! $ move ! (0 ∷ 2 ∷ []) $
      use2 𝓛 (raw (upd 𝓤 (⟦ halves δ 0 n f ⟧ ∗ ⟦ more ⟧))) (agrees n f held low.1) $
      settle 𝓛 Z (‵ (halves δ 0 n f) ⊛ ‵ more) $ split ! $ suffices ! _ (upd_i 𝓤 Z) $
      move ! (1 ∷ []) $ fsplit ! $ move ! (1 ∷ []) $ fpick ! (λ rest. drop ! $ move ! (2 ∷ []) $ fsplit ! $ move ! (1 ∷ []) $ fpick ! (λ here. drop ! $
      fjoin ! $ nothing ! $ fpack ! (Agree f (x ∷ held)) (λ _. ftrue) (here, rest) $ move ! (1 ∷ 0 ∷ []) $ fjoin ! $ move ! (1 ∷ 0 ∷ []) $ done !))

  -- those of a set of tokens move, where the others stay
  updates : (n : ℕ) (f g : ℕ → ℕ) (held : List (ℕ × ℕ)) → AllByRecursion (λ (x : ℕ × ℕ). x.0 < n) held → ((k : ℕ) → mathlib.Core.Logic.◌⊎◌ (IsHolding k held) (f k ≡ g k))
      → ⟦ halves δ 0 n f ⟧ ∗ ⟦ parts δ held ⟧ ⊢ upd 𝓤 (⟦ halves δ 0 n g ⟧ ∗ ⟦ parts δ (at g held) ⟧)
  updates n f g [] low out = let Z : Pr = ⟦ halves δ 0 n g ⟧ ∗ ⟦ parts δ [] ⟧ in
      let same : halves δ 0 n f ≡ halves δ 0 n g = same_halves δ 0 n f g (λ b le. elim (out b) [ inl held ↦ absurd held | inr e ↦ e ]) in
      qed 𝓛 (‵ (halves δ 0 n f) ∷ ‵ (parts δ []) ∷ []) ∵ rewrite ! 0 (λ (q : Fml). ‵ q) same refl $ suffices ! _ (upd_i 𝓤 Z) $ done !
  updates n f g (x ∷ held) low out = let Z : Pr = ⟦ halves δ 0 n g ⟧ ∗ ⟦ parts δ (at g (x ∷ held)) ⟧ in
      let h : ℕ → ℕ = put f x.0 (g x.0) in let one : Fml = fsep (part δ x.0 quarter (h x.0)) (fact (Unit {0})) in
      qed 𝓛 (‵ (halves δ 0 n f) ∷ ‵ (parts δ (x ∷ held)) ∷ []) ∵ move ! (1 ∷ []) $ fsplit ! $ move ! (2 ∷ 0 ∷ []) $
      use2 𝓛 (raw (upd 𝓤 (⟦ halves δ 0 n h ⟧ ∗ ⟦ one ⟧))) (swap 0 n f h x.0 x.1 (Unit {0}) (omega arith) (omega (arith, low.0)) (λ b apart. put-else f x.0 (g x.0) b apart) (λ is. tt)) $
      settle 𝓛 Z (‵ (halves δ 0 n h) ⊛ ‵ one) $ split ! $ move ! (0 ∷ 2 ∷ []) $
      use2 𝓛 (raw (upd 𝓤 (⟦ halves δ 0 n g ⟧ ∗ ⟦ parts δ (at g held) ⟧))) (updates n h g held low.1 (put-out f g x held out)) $
      settle 𝓛 Z (‵ (halves δ 0 n g) ⊛ ‵ (parts δ (at g held))) $ split ! $ suffices ! _ (upd_i 𝓤 Z) $
      move ! (2 ∷ []) $ fsplit ! $ move ! (1 ∷ []) $ drop ! $ rewrite ! 0 (λ (m : ℕ). ‵ (part δ x.0 quarter m)) (put-here f x.0 (g x.0)) refl $
      move ! (0 ∷ 2 ∷ []) $ fjoin ! $ move ! (1 ∷ 0 ∷ []) $ done !

  out-by : (k : ℕ) (x : ℕ × ℕ) (held : List (ℕ × ℕ)) → (IsHolding k held → ⟦ parts δ held ⟧ ⊢ ⟦ part δ k quarter (count_in k held) ⟧ ∗ ⟦ parts δ (without k held) ⟧) → IsHolding k (x ∷ held)
      → (b : Bool) → (x.0 == k) ≡ b → ⟦ parts δ (x ∷ held) ⟧ ⊢ ⟦ part δ k quarter (cond b x.1 (count_in k held)) ⟧ ∗ ⟦ parts δ (cond b held (x ∷ without k held)) ⟧
  out-by k x held rest h true is = qed 𝓛 (‵ (parts δ (x ∷ held)) ∷ []) ∵ fsplit ! $ rewrite ! 0 (λ (m : ℕ). ‵ (part δ m quarter x.1)) (eqb-true x.0 k is) refl $ done !
  out-by k x held rest h false is =
      let inner : IsHolding k held = elim h [ inl e ↦ absurd (eqb-false x.0 k is (sym e)) | inr more ↦ more ] in
      qed 𝓛 (‵ (parts δ (x ∷ held)) ∷ []) ∵ fsplit ! $ move ! (1 ∷ []) $
      use1 𝓛 (‵ (part δ k quarter (count_in k held)) ⊛ ‵ (parts δ (without k held))) (rest inner) $ split ! $
      move ! (2 ∷ 1 ∷ []) $ fjoin ! $ move ! (1 ∷ 0 ∷ []) $ done !

  -- the token of a key, and the others
  pub out : (k : ℕ) (held : List (ℕ × ℕ)) → IsHolding k held → ⟦ parts δ held ⟧ ⊢ ⟦ part δ k quarter (count_in k held) ⟧ ∗ ⟦ parts δ (without k held) ⟧
  out k [] h = absurd h
  out k (x ∷ held) h = out-by k x held (out k held) h (x.0 == k) refl

  -- a token that is held twice: one would stay behind when the other moves
  twice : (n : ℕ) (f : ℕ → ℕ) (a t u : ℕ) (Z : Pr) → a < n → ⟦ halves δ 0 n f ⟧ ∗ ⟦ part δ a quarter t ⟧ ∗ ⟦ part δ a quarter u ⟧ ⊢ upd 𝓤 Z
  twice n f a t u Z low =
      let g : ℕ → ℕ = put f a (f a + 1) in
      let one : Fml = fsep (part δ a quarter (f a)) (fact (Unit {0})) in let two : Fml = fsep (part δ a quarter (g a)) (fact (Unit {0})) in let three : Fml = fsep (part δ a quarter (g a)) (fact (g a ≡ f a)) in
      qed 𝓛 (‵ (halves δ 0 n f) ∷ ‵ (part δ a quarter t) ∷ ‵ (part δ a quarter u) ∷ []) ∵ move ! (0 ∷ 2 ∷ []) $
      use2 𝓛 (raw (upd 𝓤 (⟦ halves δ 0 n f ⟧ ∗ ⟦ one ⟧))) (swap 0 n f f a u (Unit {0}) (omega arith) (omega (arith, low)) (λ b apart. refl) (λ is. tt)) $
      settle 𝓛 Z (‵ (halves δ 0 n f) ⊛ ‵ one) $ split ! $ move ! (0 ∷ 2 ∷ []) $
      use2 𝓛 (raw (upd 𝓤 (⟦ halves δ 0 n g ⟧ ∗ ⟦ two ⟧))) (swap 0 n f g a t (Unit {0}) (omega arith) (omega (arith, low)) (λ b apart. put-else f a (f a + 1) b apart) (λ is. tt)) $
      settle 𝓛 Z (‵ (halves δ 0 n g) ⊛ ‵ two) $ split ! $
      -- halves, the one that moved, the one that did not
      move ! (2 ∷ []) $ fsplit ! $ move ! (2 ∷ 0 ∷ []) $
      use2 𝓛 (raw (upd 𝓤 (⟦ halves δ 0 n g ⟧ ∗ ⟦ three ⟧))) (swap 0 n g g a (f a) (g a ≡ f a) (omega arith) (omega (arith, low)) (λ b apart. refl) (λ is. is)) $
      settle 𝓛 Z (‵ (halves δ 0 n g) ⊛ ‵ three) $ split ! $ move ! (1 ∷ []) $ fsplit ! $ move ! (1 ∷ []) $
      fpick ! (λ same. absurd (let moved : g a ≡ f a + 1 = put-here f a (f a + 1) in omega (arith, same, moved)))

  -- so no key of a set of tokens is held twice
  alone : (n : ℕ) (f : ℕ → ℕ) (held : List (ℕ × ℕ)) → AllByRecursion (λ (x : ℕ × ℕ). x.0 < n) held
      → ⟦ halves δ 0 n f ⟧ ∗ ⟦ parts δ held ⟧ ⊢ upd 𝓤 (⟦ halves δ 0 n f ⟧ ∗ ⟦ fsep (parts δ held) (fact (AreKeysApart held)) ⟧)
  alone n f [] low = let Z : Pr = ⟦ halves δ 0 n f ⟧ ∗ ⟦ fsep (parts δ []) (fact (AreKeysApart [])) ⟧ in
      qed 𝓛 (‵ (halves δ 0 n f) ∷ ‵ (parts δ []) ∷ []) ∵ suffices ! _ (upd_i 𝓤 Z) $
      nothing ! $ fpack ! (AreKeysApart []) (λ _. ftrue) apart-first $ move ! (2 ∷ 0 ∷ []) $ fjoin ! $ move ! (1 ∷ 0 ∷ []) $ done !
  alone n f (x ∷ held) low = let Z : Pr = ⟦ halves δ 0 n f ⟧ ∗ ⟦ fsep (parts δ (x ∷ held)) (fact (AreKeysApart (x ∷ held))) ⟧ in
      let more : Fml = fsep (parts δ held) (fact (AreKeysApart held)) in
      elim (is-held x.0 held) [
        | inl h ↦ qed 𝓛 (‵ (halves δ 0 n f) ∷ ‵ (parts δ (x ∷ held)) ∷ []) ∵ move ! (1 ∷ []) $ fsplit ! $ move ! (1 ∷ []) $
            use1 𝓛 (‵ (part δ x.0 quarter (count_in x.0 held)) ⊛ ‵ (parts δ (without x.0 held))) (out x.0 held h) $ split ! $
            -- the second, the others, the first, halves
            keep ! (3 ∷ 2 ∷ 0 ∷ []) $ by ! (twice n f x.0 x.1 (count_in x.0 held) Z low.0)
        | inr none ↦ qed 𝓛 (‵ (halves δ 0 n f) ∷ ‵ (parts δ (x ∷ held)) ∷ []) ∵ move ! (1 ∷ []) $ fsplit ! $ move ! (2 ∷ 1 ∷ []) $
            use2 𝓛 (raw (upd 𝓤 (⟦ halves δ 0 n f ⟧ ∗ ⟦ more ⟧))) (alone n f held low.1) $
            settle 𝓛 Z (‵ (halves δ 0 n f) ⊛ ‵ more) $ split ! $ suffices ! _ (upd_i 𝓤 Z) $
            -- halves, the others, the first
            move ! (1 ∷ []) $ fsplit ! $ move ! (1 ∷ []) $ fpick ! (λ rest. drop ! $ move ! (2 ∷ 0 ∷ []) $
            fjoin ! $ nothing ! $ fpack ! (AreKeysApart (x ∷ held)) (λ _. ftrue) (apart-more x held none rest) $ move ! (1 ∷ 0 ∷ []) $ fjoin ! $ move ! (1 ∷ 0 ∷ []) $ done !)
      ]

  -- at the start each of n tokens is 0
  dealt : (n k : ℕ) → ⟦ roster δ k [] ⟧ ⊢ upd 𝓤 (⟦ halves δ k n (counts []) ⟧ ∗ ⟦ parts δ (zeros k n) ⟧)
  dealt zero k = qed 𝓛 (‵ (roster δ k []) ∷ []) ∵ suffices ! _ (upd_i 𝓤 (⟦ halves δ k zero (counts []) ⟧ ∗ emp 𝓤)) $ drop ! $ nothing ! $ nothing ! $ done !
  dealt (suc n) k = let Z : Pr = ⟦ halves δ k (suc n) (counts []) ⟧ ∗ ⟦ parts δ (zeros k (suc n)) ⟧ in qed 𝓛 (‵ (roster δ k []) ∷ []) ∵
      use1 𝓛 (‵ (part δ k full_share 0) ⊛ ‵ (roster δ (suc k) [])) (entries_take halved 𝓛 δ k (λ _. (full_share, 0))) $ split ! $
      use1 𝓛 (raw (upd 𝓤 (⟦ part δ k quarter 0 ⟧ ∗ ⟦ part δ k three_quarters 0 ⟧))) (resets 𝓛 δ k 0 0) $ settle 𝓛 Z (‵ (part δ k quarter 0) ⊛ ‵ (part δ k three_quarters 0)) $ split ! $ move ! (2 ∷ []) $
      use1 𝓛 (raw (upd 𝓤 (⟦ halves δ (suc k) n (counts []) ⟧ ∗ ⟦ parts δ (zeros (suc k) n) ⟧))) (dealt n (suc k)) $ settle 𝓛 Z (‵ (halves δ (suc k) n (counts [])) ⊛ ‵ (parts δ (zeros (suc k) n))) $ split ! $
      suffices ! _ (upd_i 𝓤 Z) $ move ! (3 ∷ 0 ∷ []) $ fjoin ! $ move ! (2 ∷ 1 ∷ []) $ fjoin ! $ move ! (1 ∷ 0 ∷ []) $ done !

  -- what a step may do: its event stands next, or nothing does
  abbrev May : List ℕ → List (ℕ × ℕ) → List Event → Event → Type 0
  May kind held log ask = IsInRow ask → Covers held ask × KeepsBookKind kind held log ask × HasPlace kind ask

  record Goes (kind : List ℕ) (held : List (ℕ × ℕ)) (xs ys : List Event) : Type 0 where
    outer : (k : ℕ) → mathlib.Core.Logic.◌⊎◌ (IsHolding k held) (counts xs k ≡ counts ys k)
    of_kind : IsOfKind kind ys
    longer : IsPrefix xs ys

  goes : (kind : List ℕ) (held : List (ℕ × ℕ)) (log : List Event) (ask : Event) → May kind held log ask → (xs ys : List Event) (won : Bool)
      → MatchBool won (IsInRow ask × (ys ≡ xs ++ ask ∷ [])) (ys ≡ xs) → IsPrefix log xs → Agree (counts xs) held → IsOfKind kind xs → Goes kind held xs ys
  goes kind held log ask may xs ys true m pre agree was =
      let both = may m.0 in
      subst (Goes kind held xs) (sym m.1) (record {
        outer = outside held ask xs both.0;
        of_kind = (both.1 xs pre agree was.0, placed-more kind xs ask was.1 both.2);
        longer = (ask ∷ [], refl);
      })
  goes kind held log ask may xs ys false m pre agree was =
      subst (Goes kind held xs) (sym m) (record { outer = λ k. inr refl; of_kind = was; longer = ([], append-nil xs) })

  trade : (η : ℕ) (kind : List ℕ) (held : List (ℕ × ℕ)) (log : List Event) (ask : Event) → AllInRow held → May kind held log ask → (xs ys : List Event) (won : Bool)
      → MatchBool won (IsInRow ask × (ys ≡ xs ++ ask ∷ [])) (ys ≡ xs)
      → ⟦ kept (δ ∷ η ∷ kind) xs ⟧ ∗ ⟦ tokens_own δ η held log ⟧ ⊢ upd 𝓤 (⟦ kept (δ ∷ η ∷ kind) ys ⟧ ∗ ⟦ gained (δ ∷ η ∷ kind) held xs ys ⟧)
  trade η kind held log ask low may xs ys won m =
      let c = the_row.coded.code in let Z : Pr = ⟦ kept (δ ∷ η ∷ kind) ys ⟧ ∗ ⟦ gained (δ ∷ η ∷ kind) held xs ys ⟧ in
      let mine : Fml = fsep (parts δ (at (counts xs) held)) (fact (Agree (counts xs) held)) in
      let single : Fml = fsep (parts δ held) (fact (AreKeysApart held)) in
      let all : Type 0 = Agree (counts xs) held × IsOfKind kind ys × AreKeysApart held in
      qed 𝓛 (‵ (kept (δ ∷ η ∷ kind) xs) ∷ ‵ (tokens_own δ η held log) ∷ []) ∵
      fsplit3 ! $ move ! (2 ∷ []) $ fpick ! (λ was. drop ! $ move ! (2 ∷ []) $ fsplit ! $
      -- parts, reached, halves, grown
      move ! (3 ∷ 1 ∷ []) $
      use2 𝓛 (given (IsPrefix (map c log) (map c xs)) (‵ (grown η xs) ⊛ ‵ (reached c η log))) (latest_bounds logs 𝓛 full_share η (map c xs) (map c log)) $ learn ! (λ below. split ! $
      let pre : IsPrefix log xs = prefix_out the_row.coded log xs below in
      -- grown, reached, parts, halves
      move ! (3 ∷ 2 ∷ []) $
      use2 𝓛 (raw (upd 𝓤 (⟦ halves δ 0 rows (counts xs) ⟧ ∗ ⟦ single ⟧))) (alone rows (counts xs) held low) $ settle 𝓛 Z (‵ (halves δ 0 rows (counts xs)) ⊛ ‵ single) $ split ! $
      move ! (1 ∷ []) $ fsplit ! $ move ! (1 ∷ []) $ fpick ! (λ apart. drop ! $
      -- parts, halves, grown, reached
      move ! (1 ∷ 0 ∷ []) $
      use2 𝓛 (raw (upd 𝓤 (⟦ halves δ 0 rows (counts xs) ⟧ ∗ ⟦ mine ⟧))) (agrees rows (counts xs) held low) $ settle 𝓛 Z (‵ (halves δ 0 rows (counts xs)) ⊛ ‵ mine) $ split ! $
      move ! (1 ∷ []) $ fsplit ! $ move ! (1 ∷ []) $ fpick ! (λ agree. drop ! $
      -- parts, halves, grown, reached
      let so : Goes kind held xs ys = goes kind held log ask may xs ys won m pre agree was in
      let out : (k : ℕ) → mathlib.Core.Logic.◌⊎◌ (IsHolding k (at (counts xs) held)) (counts xs k ≡ counts ys k) =
      (λ k. elim (so.outer k) [ inl h ↦ inl (Rattle.rz_chronicle.proofs.Keys.at-holding k (counts xs) held h) | inr e ↦ inr e ]) in
      move ! (1 ∷ 0 ∷ []) $
      use2 𝓛 (raw (upd 𝓤 (⟦ halves δ 0 rows (counts ys) ⟧ ∗ ⟦ parts δ (at (counts ys) (at (counts xs) held)) ⟧)))
      (updates rows (counts xs) (counts ys) (at (counts xs) held) (at-keys (λ (k : ℕ). k < rows) (counts xs) held low) out) $
      settle 𝓛 Z (‵ (halves δ 0 rows (counts ys)) ⊛ ‵ (parts δ (at (counts ys) (at (counts xs) held)))) $ split ! $
      -- halves, parts, grown, reached
      rewrite ! 1 (λ (hs : List (ℕ × ℕ)). ‵ (parts δ hs)) (at-at (counts xs) (counts ys) held) refl $ move ! (2 ∷ []) $
      use1 𝓛 (raw (upd 𝓤 ⟦ grown η ys ⟧)) (latest_grows logs 𝓛 η (map c xs) (map c ys) (subst (λ (l : List Event). IsPrefix (map c xs) (map c l)) so.longer.1 (prefix_in the_row.coded xs so.longer.0))) $ settle 𝓛 Z (‵ (grown η ys)) $
      use1 𝓛 (‵ (grown η ys) ⊛ ‵ (reached c η ys)) (latest_shows logs 𝓛 full_share η (map c ys) (map c ys) (logs.same (map c ys))) $ split ! $
      suffices ! _ (upd_i 𝓤 Z) $
      -- grown, reached, halves, parts, the old reached
      move ! (3 ∷ 1 ∷ []) $ fjoin ! $ nothing ! $ fpack ! all (λ _. ftrue) (agree, so.of_kind, apart) $ move ! (1 ∷ 0 ∷ []) $ fjoin ! $
      -- gained, grown, halves, the old reached
      move ! (1 ∷ []) $ nothing ! $ fpack ! (IsOfKind kind ys) (λ _. ftrue) so.of_kind $ move ! (1 ∷ 0 ∷ []) $ fjoin ! $ move ! (2 ∷ 0 ∷ []) $ fjoin ! $ keep ! (0 ∷ 1 ∷ []) $ done !))))

  pub offers : (η : ℕ) (kind : List ℕ) (held : List (ℕ × ℕ)) (log : List Event) (ask : Event) → AllInRow held → May kind held log ask
      → ⟦ tokens_own δ η held log ⟧ ⊢ ⟦ offer_owns (kept (δ ∷ η ∷ kind)) (IsMove ask) (λ answer. gained (δ ∷ η ∷ kind) held answer.before answer.log) None ⟧
  offers η kind held log ask low may =
      let names : List ℕ = δ ∷ η ∷ kind in
      let N : List Event × List Event × Told → Pr = λ z. wand 𝓤 ⟦ kept names z.0 ⟧ (upd 𝓤 (⟦ kept names z.1 ⟧ ∗ ⟦ gained names held z.2.before z.2.log ⟧)) in
      all_i 𝓤 (λ (z : List Event × List Event × Told). all 𝓤 (λ (_ : IsMove ask z.0 z.1 z.2). N z)) (λ z. all_i 𝓤 (λ (_ : IsMove ask z.0 z.1 z.2). N z) (λ m.
      let P : List Event × List Event → Type 1 = λ w. ⟦ kept names z.0 ⟧ ∗ ⟦ tokens_own δ η held log ⟧ ⊢ upd 𝓤 (⟦ kept names z.1 ⟧ ∗ ⟦ gained names held w.0 w.1 ⟧) in
      let made : P (z.2.before, z.2.log) = subst P (λ i. (sym m.0 i, sym m.1 i)) (trade η kind held log ask low may z.0 z.1 z.2.won m.2) in
      qed 𝓛 (‵ (tokens_own δ η held log) ∷ []) ∵ assume ! (‵ (kept names z.0)) $ by ! made))

grown_keyless : (η : ℕ) (log : List Event) → Keyless (grown η log)
unfolding latest
grown_keyless η log = tt

pub kept_keyless : (names : List ℕ) (log : List Event) → Keyless (kept names log)
kept_keyless [] log = tt
kept_keyless (δ ∷ []) log = tt
kept_keyless (δ ∷ η ∷ kind) log = (halves_keyless δ 0 rows (counts log), (grown_keyless η log, λ _. tt))

pub parts_keyless : (δ : ℕ) (held : List (ℕ × ℕ)) → Keyless (parts δ held)
parts_keyless δ [] = tt
parts_keyless δ (x ∷ held) = (entry_keyless halved δ x.0 _, parts_keyless δ held)

pub tokens_keyless : (δ η : ℕ) (held : List (ℕ × ℕ)) (log : List Event) → Keyless (tokens_own δ η held log)
unfolding at_least
tokens_keyless δ η held log = (parts_keyless δ held, tt)

module _ {M : Type 1} {𝓤 : Ura M} (𝓛 : Logic 𝓤) where
  -- what a set of tokens is at the start
  abbrev pub Begun : List ℕ → ℕ × ℕ → SProp 𝓤
  Begun kind n = sep 𝓤 (sem 𝓛 (kept (n.0 ∷ n.1 ∷ kind) [])) (sem 𝓛 (tokens_own n.0 n.1 (zeros 0 rows) []))

  pub begins : (kind : List ℕ) → Fits kind [] → ent 𝓤 (emp 𝓤) (𝓛.H.⇛ (ex 𝓤 (Begun kind)))
  begins kind fits = qed 𝓛 [] ∵ updating ! $
      use0 𝓛 (later (some (λ (δ : ℕ). ‵ (roster δ 0 [])))) (via 𝓤 _ (entries_new halved 𝓛 0 (λ _. (full_share, 0))) (basic 𝓛 _)) $ await ! tt $ pick ! (λ δ.
      use1 𝓛 (later (‵ (halves δ 0 rows (counts [])) ⊛ ‵ (parts δ (zeros 0 rows)))) (via 𝓤 _ (dealt 𝓛 δ rows 0) (basic 𝓛 _)) $ await ! tt $ split ! $
      use0 𝓛 (later (some (λ (η : ℕ). ‵ (grown η [])))) (via 𝓤 _ (latest_new logs 𝓛 []) (basic 𝓛 _)) $ await ! tt $ pick ! (λ η.
      use1 𝓛 (‵ (grown η []) ⊛ ‵ (reached the_row.coded.code η [])) (latest_shows logs 𝓛 full_share η [] [] (logs.same [])) $ split ! $ now ! $
      -- grown, reached, halves, parts
      nothing ! $ fpack ! (IsOfKind kind []) (λ _. ftrue) (fits, tt) $ move ! (1 ∷ 0 ∷ []) $ fjoin ! $ move ! (2 ∷ 0 ∷ []) $ fjoin ! $
      -- kept, reached, parts
      move ! (2 ∷ 1 ∷ []) $ fjoin ! $ move ! (1 ∷ 0 ∷ []) $ show ! (Begun kind) (δ, η) $ done !))

-- two sets of tokens in one
pub two_parts : {M : Type 1} {𝓤 : Ura M} (𝓛 : Logic 𝓤) (δ : ℕ) (xs ys : List (ℕ × ℕ)) → ent 𝓤 (sep 𝓤 (sem 𝓛 (parts δ xs)) (sem 𝓛 (parts δ ys))) (sem 𝓛 (parts δ (xs ++ ys)))
two_parts 𝓛 δ [] ys = qed 𝓛 (‵ (parts δ []) ∷ ‵ (parts δ ys) ∷ []) ∵ drop ! $ done !
two_parts 𝓛 δ (x ∷ xs) ys = qed 𝓛 (‵ (parts δ (x ∷ xs)) ∷ ‵ (parts δ ys) ∷ []) ∵ fsplit ! $ move ! (1 ∷ 2 ∷ []) $
    use2 𝓛 (‵ (parts δ (xs ++ ys))) (two_parts 𝓛 δ xs ys) $ move ! (1 ∷ 0 ∷ []) $ fjoin ! $ done !
