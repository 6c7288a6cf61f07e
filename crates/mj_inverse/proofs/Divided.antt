-- One angle is divided out of the projections of some rows.
use Rattle.std.proofs.Common.{◌≡◌, ℕ, suc, refl, sym, ap, ◌∙◌, List, [], ◌∷◌, length}
use Rattle.mj_inverse_sums.specs.Polynomials.{plus, raised, times, IsFinite}
use Rattle.mj_inverse_sums.proofs.Algebra.{plus-nothing, plus-comm, plus-assoc, plus-swap, plus_twice, raised-nothing, raised-plus, raised-swap, times-nothing, finite-plus, finite-raised}
use Rattle.mj_inverse.specs.Rows.{value, joined, Every}

-- the projection of joined rows at another angle
pub value-joined : (p q : ℕ) (c : ℕ → ℕ) (hs : List (ℕ → ℕ)) → value p (joined q c hs) ≡ plus c (times p q (value p hs))
value-joined p q c [] = ap (plus c) (raised-nothing p ∙ sym (times-nothing p q))
value-joined p q c (h ∷ hs) =
    let v : ℕ → ℕ = value p hs in
    let low : ℕ → ℕ = raised p h in
    let side : ℕ → ℕ = raised q h in
    let pp : ℕ → ℕ = raised p (raised p v) in
    let pq : ℕ → ℕ = raised p (raised q v) in
    let left : raised p (value p (joined q h hs)) ≡ plus low (plus pp pq) =
    ap (raised p) (value-joined p q h hs) ∙ raised-plus p h (times p q v) ∙ ap (plus low) (raised-plus p (raised p v) (raised q v)) in
    let right : times p q (plus h (raised p v)) ≡ plus (plus low pp) (plus side pq) =
    ap (λ x. plus x (raised q (plus h (raised p v)))) (raised-plus p h (raised p v))
    ∙ ap (plus (plus low pp)) (raised-plus q h (raised p v) ∙ ap (plus side) (raised-swap q p v)) in
    ap (plus (plus c side)) left
    ∙ plus-assoc c side (plus low (plus pp pq))
    ∙ ap (plus c) (sym (plus-assoc side low (plus pp pq)) ∙ ap (λ x. plus x (plus pp pq)) (plus-comm side low) ∙ plus-swap low side pp pq)
    ∙ sym (ap (plus c) right)

-- what is left of rows once the angle q is divided out
abbrev pub quotient : ℕ → List (ℕ → ℕ) → List (ℕ → ℕ)
quotient q [] = []
quotient q (f ∷ []) = []
quotient q (f ∷ g ∷ gs) = value q (g ∷ gs) ∷ quotient q (g ∷ gs)

pub joined-quotient : (q : ℕ) (f : ℕ → ℕ) (fs : List (ℕ → ℕ)) → joined q (value q (f ∷ fs)) (quotient q (f ∷ fs)) ≡ f ∷ fs
joined-quotient q f [] = ap (λ x. x ∷ []) (ap (plus f) (raised-nothing q) ∙ plus-nothing f)
joined-quotient q f (g ∷ gs) =
    let v : ℕ → ℕ = value q (g ∷ gs) in
    ap (λ x. x ∷ joined q v (quotient q (g ∷ gs))) (plus_twice f (raised q v)) ∙ ap (λ x. f ∷ x) (joined-quotient q g gs)

pub length-quotient : (q : ℕ) (f : ℕ → ℕ) (fs : List (ℕ → ℕ)) → length (quotient q (f ∷ fs)) ≡ length fs
length-quotient q f [] = refl
length-quotient q f (g ∷ gs) = ap suc (length-quotient q g gs)

pub finite-value : (q : ℕ) (fs : List (ℕ → ℕ)) → Every IsFinite fs → IsFinite (value q fs)
finite-value q [] all = (0, λ e le. refl)
finite-value q (f ∷ fs) all = finite-plus f (raised q (value q fs)) all.0 (finite-raised q (value q fs) (finite-value q fs all.1))

pub finite-quotient : (q : ℕ) (fs : List (ℕ → ℕ)) → Every IsFinite fs → Every IsFinite (quotient q fs)
finite-quotient q [] all = tt
finite-quotient q (f ∷ []) all = tt
finite-quotient q (f ∷ g ∷ gs) all = (finite-value q (g ∷ gs) all.1, finite-quotient q (g ∷ gs) all.1)
