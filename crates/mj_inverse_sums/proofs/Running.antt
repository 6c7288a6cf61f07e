-- A running exclusive or with a stride divides by 1 + x^s.
use Rattle.std.proofs.Common.{◌≡◌, ℕ, zero, suc, ◌+◌, ◌-◌, ◌<◌, ◌≤◌, sym, ap, ◌∙◌, arith, ◌⊎◌, inl, inr}
use Rattle.std.specs.Prelude.{bit_xor}
use Rattle.std.proofs.lemmas.Bool.{cases_lt}
use mathlib.Core.Path.{fun_ext}
use lib.Bits.{xor_zero_l, xor_zero_r, xor_assoc, xor_self}
use Rattle.mj_inverse_sums.specs.Polynomials.{plus, raised, times, IsFinite}
use Rattle.mj_inverse_sums.proofs.Algebra.{split, plus_at, raised_below, raised_at, raised-raised}

-- r is the running exclusive or of z with stride s, as far as place most; z ends before top
pub record Runs (z r : ℕ → ℕ) (s top most : ℕ) : Type 0 where
  pub stride : 0 < s
  pub fits : top ≤ most
  pub ends : (e : ℕ) → top ≤ e → z e ≡ 0
  pub none : (e : ℕ) → most ≤ e → r e ≡ 0
  pub runs : (e : ℕ) → e < most → r e ≡ bit_xor (z e) (raised s r e)

-- the last s places before top, and all behind them
abbrev pub IsSpent : (ℕ → ℕ) → ℕ → ℕ → ℕ → Type 0
IsSpent r s top most = (e : ℕ) → top ≤ e + s → e < most → r e ≡ 0

xor_back : (a b c : ℕ) → a ≡ bit_xor b c → b ≡ bit_xor a c
xor_back a b c h =
    sym (xor_zero_r b) ∙ ap (bit_xor b) (sym (xor_self c)) ∙ sym (xor_assoc b c c) ∙ ap (λ x. bit_xor x c) (sym h)

-- no remainder, so z is r times 1 + x^s
pub exact : (z r : ℕ → ℕ) (s top most : ℕ) → Runs z r s top most → IsSpent r s top most → z ≡ plus r (raised s r)
exact z r s top most run spent = fun_ext (λ e. by e (cases_lt e most))
  where
    gone : (e : ℕ) → top ≤ e + s → (e < most) ⊎ (most ≤ e) → r e ≡ 0
    gone e h (inl k) = spent e h k
    gone e h (inr k) = run.none e k

    carried : (e : ℕ) → most ≤ e → (e < s) ⊎ ((d : ℕ) × (e ≡ s + d)) → raised s r e ≡ 0
    carried e h (inl k) = raised_below s r e k
    carried e h (inr (d, k)) = raised_at s r e d k ∙ gone d (let f : top ≤ most = run.fits in omega arith) (cases_lt d most)

    by : (e : ℕ) → (e < most) ⊎ (most ≤ e) → z e ≡ plus r (raised s r) e
    by e (inl h) = xor_back (r e) (z e) (raised s r e) (run.runs e h) ∙ sym (plus_at r (raised s r) e)
    by e (inr h) =
        let a = run.none e h in
        let b = carried e h (split s e) in
        run.ends e (let f : top ≤ most = run.fits in omega arith) ∙ sym (plus_at r (raised s r) e ∙ rw (a, b) (xor_self 0))

-- a finite function that repeats from m on is zero from m on
pub repeats : (h : ℕ → ℕ) (s m : ℕ) → 0 < s → IsFinite h → ((e : ℕ) → m ≤ e → h e ≡ h (e + s)) → (e : ℕ) → m ≤ e → h e ≡ 0
repeats h s m pos (n, zero_from) again e le = down n e le (omega arith)
  where
    down : (k e : ℕ) → m ≤ e → n ≤ e + k → h e ≡ 0
    down zero e le far = zero_from e (omega arith)
    down (suc k) e le far = again e le ∙ down k (e + s) (omega arith) (omega arith)

-- where z is some h times 1 + x^s, r is that h as far as place most
pub same_words : (z r h : ℕ → ℕ) (s top most : ℕ) → Runs z r s top most → z ≡ plus h (raised s h) → (e : ℕ) → e < most → r e ≡ h e
same_words z r h s top most run is e near = same (suc e) e (omega arith) near
  where
    at : (e : ℕ) → z e ≡ bit_xor (h e) (raised s h e)
    at e = ap (λ (f : ℕ → ℕ). f e) is ∙ plus_at h (raised s h) e

    lower : (e : ℕ) → ((d : ℕ) → e ≡ s + d → r d ≡ h d) → (e < s) ⊎ ((d : ℕ) × (e ≡ s + d)) → raised s r e ≡ raised s h e
    lower e before (inl k) = raised_below s r e k ∙ sym (raised_below s h e k)
    lower e before (inr (d, k)) = raised_at s r e d k ∙ before d k ∙ sym (raised_at s h e d k)

    same : (n e : ℕ) → e < n → e < most → r e ≡ h e
    same zero e less near = absurd (omega arith)
    same (suc n) e less near =
        let pos = run.stride in
        run.runs e near
        ∙ ap (bit_xor (z e)) (lower e (λ d k. same n d (omega arith) (omega arith)) (split s e))
        ∙ sym (xor_back (z e) (h e) (raised s h e) (at e))

-- where z is some finite h times 1 + x^s, nothing remains
pub spent : (z r h : ℕ → ℕ) (s top most : ℕ) → Runs z r s top most → IsFinite h → z ≡ plus h (raised s h) → IsSpent r s top most
spent z r h s top most run finite is e far near =
    same_words z r h s top most run is e near ∙ repeats h s (top - s) run.stride finite (λ e le. again e le) e (omega arith)
  where
    at : (e : ℕ) → z e ≡ bit_xor (h e) (raised s h e)
    at e = ap (λ (f : ℕ → ℕ). f e) is ∙ plus_at h (raised s h) e

    again : (e : ℕ) → top - s ≤ e → h e ≡ h (e + s)
    again e le =
        let none : z (e + s) ≡ 0 = run.ends (e + s) (omega arith) in
        let here : z (e + s) ≡ bit_xor (h (e + s)) (h e) = at (e + s) ∙ ap (bit_xor (h (e + s))) (raised_at s h (e + s) e (omega arith)) in
        sym (xor_back (z (e + s)) (h (e + s)) (h e) here ∙ ap (λ x. bit_xor x (h e)) none ∙ xor_zero_l (h e))

-- the same of a division by x^a + x^(a + s): below place a r is zero, and the quotient is r moved down by a
abbrev pub lowered : ℕ → (ℕ → ℕ) → ℕ → ℕ
lowered a r e = r (a + e)

pub raised-lowered : (a : ℕ) (r : ℕ → ℕ) → ((e : ℕ) → e < a → r e ≡ 0) → raised a (lowered a r) ≡ r
raised-lowered a r low = fun_ext (λ e. by e (split a e))
  where
    by : (e : ℕ) → (e < a) ⊎ ((d : ℕ) × (e ≡ a + d)) → raised a (lowered a r) e ≡ r e
    by e (inl h) = raised_below a (lowered a r) e h ∙ sym (low e h)
    by e (inr (d, h)) = raised_at a (lowered a r) e d h ∙ ap r (sym h)

pub times_is : (a s : ℕ) (x : ℕ → ℕ) → times a (a + s) x ≡ plus (raised a x) (raised s (raised a x))
times_is a s x =
    let k : a + s ≡ s + a = omega arith in
    ap (plus (raised a x)) (ap (λ n. raised n x) k ∙ sym (raised-raised s a x))
