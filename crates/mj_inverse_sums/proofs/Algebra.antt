-- Polynomials are added, moved up, and multiplied by x^p + x^q.
use Rattle.std.proofs.Common.{◌≡◌, ◌≢◌, ℕ, zero, suc, ◌+◌, ◌-◌, ◌<◌, ◌≤◌, refl, sym, ap, ◌∙◌, arith, ◌⊎◌, inl, inr}
use Rattle.std.specs.Prelude.{bit_xor}
use Rattle.std.proofs.lemmas.Bool.{cases_lt}
use Rattle.std.proofs.lemmas.Grind.{common_steps}
use mathlib.Core.Path.{fun_ext}
use lib.Bits.{xor_zero_l, xor_zero_r, xor_assoc, xor_comm, xor_self}
use Rattle.mj_inverse_sums.specs.Polynomials.{nothing, plus, raised, times, IsFinite}

-- a place is below a, or it is a and some more
pub split : (a e : ℕ) → (e < a) ⊎ ((d : ℕ) × (e ≡ a + d))
split a e = elim (cases_lt e a) as (λ _. (e < a) ⊎ ((d : ℕ) × (e ≡ a + d))) [ inl h ↦ inl h | inr h ↦ inr (e - a, omega arith) ]

pub plus_at : (f g : ℕ → ℕ) (e : ℕ) → plus f g e ≡ bit_xor (f e) (g e)
unfolding plus
plus_at f g e = refl

pub raised_below : (a : ℕ) (f : ℕ → ℕ) (e : ℕ) → e < a → raised a f e ≡ 0
unfolding raised
raised_below a f e h = grind (arith, common_steps)

pub raised_at : (a : ℕ) (f : ℕ → ℕ) (e d : ℕ) → e ≡ a + d → raised a f e ≡ f d
unfolding raised
raised_at a f e d h =
    let k : e - a ≡ d = omega arith in
    rw k (grind (arith, common_steps))

pub plus-self : (f : ℕ → ℕ) → plus f f ≡ nothing
plus-self f = fun_ext (λ e. plus_at f f e ∙ xor_self (f e))

pub plus-nothing : (f : ℕ → ℕ) → plus f nothing ≡ f
plus-nothing f = fun_ext (λ e. plus_at f nothing e ∙ xor_zero_r (f e))

pub nothing-plus : (f : ℕ → ℕ) → plus nothing f ≡ f
nothing-plus f = fun_ext (λ e. plus_at nothing f e ∙ xor_zero_l (f e))

pub plus-comm : (f g : ℕ → ℕ) → plus f g ≡ plus g f
plus-comm f g = fun_ext (λ e. plus_at f g e ∙ xor_comm (f e) (g e) ∙ sym (plus_at g f e))

pub plus-assoc : (f g h : ℕ → ℕ) → plus (plus f g) h ≡ plus f (plus g h)
plus-assoc f g h =
    fun_ext (λ e. plus_at (plus f g) h e ∙ ap (λ x. bit_xor x (h e)) (plus_at f g e) ∙ xor_assoc (f e) (g e) (h e)
    ∙ ap (bit_xor (f e)) (sym (plus_at g h e)) ∙ sym (plus_at f (plus g h) e))

pub plus-swap : (a b c d : ℕ → ℕ) → plus (plus a b) (plus c d) ≡ plus (plus a c) (plus b d)
plus-swap a b c d =
    plus-assoc a b (plus c d)
    ∙ ap (plus a) (sym (plus-assoc b c d) ∙ ap (λ x. plus x d) (plus-comm b c) ∙ plus-assoc c b d)
    ∙ sym (plus-assoc a c (plus b d))

-- what is added twice is gone
pub plus_twice : (f g : ℕ → ℕ) → plus (plus f g) g ≡ f
plus_twice f g = plus-assoc f g g ∙ ap (plus f) (plus-self g) ∙ plus-nothing f

pub raised-nothing : (a : ℕ) → raised a nothing ≡ nothing
raised-nothing a = fun_ext (λ e. by e (split a e))
  where
    by : (e : ℕ) → (e < a) ⊎ ((d : ℕ) × (e ≡ a + d)) → raised a nothing e ≡ 0
    by e (inl h) = raised_below a nothing e h
    by e (inr (d, h)) = raised_at a nothing e d h

pub raised-plus : (a : ℕ) (f g : ℕ → ℕ) → raised a (plus f g) ≡ plus (raised a f) (raised a g)
raised-plus a f g = fun_ext (λ e. by e (split a e))
  where
    by : (e : ℕ) → (e < a) ⊎ ((d : ℕ) × (e ≡ a + d)) → raised a (plus f g) e ≡ plus (raised a f) (raised a g) e
    by e (inl h) =
        raised_below a (plus f g) e h ∙ sym (plus_at (raised a f) (raised a g) e ∙ rw (raised_below a f e h, raised_below a g e h) (xor_self 0))
    by e (inr (d, h)) =
        raised_at a (plus f g) e d h ∙ plus_at f g d
        ∙ sym (plus_at (raised a f) (raised a g) e ∙ rw (raised_at a f e d h, raised_at a g e d h) refl)

pub raised-raised : (a b : ℕ) (f : ℕ → ℕ) → raised a (raised b f) ≡ raised (a + b) f
raised-raised a b f = fun_ext (λ e. by e (split a e))
  where
    by' : (e d : ℕ) → e ≡ a + d → (d < b) ⊎ ((d' : ℕ) × (d ≡ b + d')) → raised a (raised b f) e ≡ raised (a + b) f e
    by' e d h (inl k) = raised_at a (raised b f) e d h ∙ raised_below b f d k ∙ sym (raised_below (a + b) f e (omega arith))
    by' e d h (inr (d', k)) = raised_at a (raised b f) e d h ∙ raised_at b f d d' k ∙ sym (raised_at (a + b) f e d' (omega arith))

    by : (e : ℕ) → (e < a) ⊎ ((d : ℕ) × (e ≡ a + d)) → raised a (raised b f) e ≡ raised (a + b) f e
    by e (inl h) = raised_below a (raised b f) e h ∙ sym (raised_below (a + b) f e (omega arith))
    by e (inr (d, h)) = by' e d h (split b d)

pub raised-swap : (a b : ℕ) (f : ℕ → ℕ) → raised a (raised b f) ≡ raised b (raised a f)
raised-swap a b f =
    let e : a + b ≡ b + a = omega arith in
    raised-raised a b f ∙ ap (λ n. raised n f) e ∙ sym (raised-raised b a f)

pub times-nothing : (p q : ℕ) → times p q nothing ≡ nothing
times-nothing p q = rw (raised-nothing p, raised-nothing q) (plus-self nothing)

pub times-self : (q : ℕ) (f : ℕ → ℕ) → times q q f ≡ nothing
times-self q f = plus-self (raised q f)

pub finite-plus : (f g : ℕ → ℕ) → IsFinite f → IsFinite g → IsFinite (plus f g)
finite-plus f g (m, h) (n, k) = (m + n, λ e le. plus_at f g e ∙ rw (h e (omega arith), k e (omega arith)) (xor_self 0))

pub finite-raised : (a : ℕ) (f : ℕ → ℕ) → IsFinite f → IsFinite (raised a f)
finite-raised a f (n, h) = (a + n, λ e le. let k : e ≡ a + (e - a) = omega arith in raised_at a f e (e - a) k ∙ h (e - a) (omega arith))

-- division by x^p + x^q has one answer at most
pub times-one : (p q : ℕ) (f g : ℕ → ℕ) → p < q → times p q f ≡ times p q g → f ≡ g
times-one p q f g less same = fun_ext (λ e. up_to (suc e) e (omega arith))
  where
    at : (f : ℕ → ℕ) (e : ℕ) → times p q f (p + e) ≡ bit_xor (f e) (raised q f (p + e))
    at f e = plus_at (raised p f) (raised q f) (p + e) ∙ ap (λ x. bit_xor x (raised q f (p + e))) (raised_at p f (p + e) e refl)

    cancel : (a b c d : ℕ) → bit_xor a c ≡ bit_xor b d → c ≡ d → a ≡ b
    cancel a b c d h k =
        sym (xor_zero_r a) ∙ ap (bit_xor a) (sym (xor_self c)) ∙ sym (xor_assoc a c c) ∙ ap (λ x. bit_xor x c) h
        ∙ ap (bit_xor (bit_xor b d)) k ∙ xor_assoc b d d ∙ ap (bit_xor b) (xor_self d) ∙ xor_zero_r b

    lower : (e : ℕ) → ((d : ℕ) → p + e ≡ q + d → f d ≡ g d) → (p + e < q) ⊎ ((d : ℕ) × (p + e ≡ q + d)) → raised q f (p + e) ≡ raised q g (p + e)
    lower e before (inl k) = raised_below q f (p + e) k ∙ sym (raised_below q g (p + e) k)
    lower e before (inr (d, k)) = raised_at q f (p + e) d k ∙ before d k ∙ sym (raised_at q g (p + e) d k)

    up_to : (n e : ℕ) → e < n → f e ≡ g e
    up_to zero e h = absurd (omega arith)
    up_to (suc n) e h =
        cancel (f e) (g e) (raised q f (p + e)) (raised q g (p + e)) (sym (at f e) ∙ ap (λ (t : ℕ → ℕ). t (p + e)) same ∙ at g e)
        (lower e (λ d k. up_to n d (omega arith)) (split q (p + e)))

pub times-comm : (p q : ℕ) (f : ℕ → ℕ) → times p q f ≡ times q p f
times-comm p q f = plus-comm (raised p f) (raised q f)

pub times-unique : (p q : ℕ) (f g : ℕ → ℕ) → p ≢ q → times p q f ≡ times p q g → f ≡ g
times-unique p q f g ne same = by (cases_lt p q)
  where
    by : (p < q) ⊎ (q ≤ p) → f ≡ g
    by (inl h) = times-one p q f g h same
    by (inr h) = times-one q p f g (omega arith) (sym (times-comm p q f) ∙ same ∙ times-comm p q g)
