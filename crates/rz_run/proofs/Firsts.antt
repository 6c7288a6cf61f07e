-- What each node's disk had counted, looked up by the node's number.
use Rattle.std.proofs.Common.{ℕ, ◌≡◌, Bool, true, false, List, [], ◌∷◌, length, map, cond, refl, ap, ◌∙◌, arith, eq-eqb}
use Rattle.std.specs.Prelude.{nat_eq}
use Rattle.std.specs.List.{AllByRecursion, IsDistinct}

-- the number that stands beside this one; where none does, 0
abbrev pub beside : List ℕ → List ℕ → ℕ → ℕ
beside [] counts n = 0
beside (k ∷ ks) [] n = 0
beside (k ∷ ks) (x ∷ counts) n = cond (nat_eq k n) x (beside ks counts n)

same-eq : (k : ℕ) → nat_eq k k ≡ true
same-eq k = eq-eqb k k refl

-- another number in front changes nothing of those that it is not
beside-rest : (k x : ℕ) (ks counts others : List ℕ) → AllByRecursion (λ n. nat_eq k n ≡ false) others → map (beside (k ∷ ks) (x ∷ counts)) others ≡ map (beside ks counts) others
beside-rest k x ks counts [] apart = refl
beside-rest k x ks counts (n ∷ others) apart =
    let here : cond (nat_eq k n) x (beside ks counts n) ≡ beside ks counts n = ap (λ (b : Bool). cond b x (beside ks counts n)) apart.0 in
    ap (λ (c : ℕ). c ∷ map (beside (k ∷ ks) (x ∷ counts)) others) here ∙ ap (λ (cs : List ℕ). beside ks counts n ∷ cs) (beside-rest k x ks counts others apart.1)

-- the numbers beside them are found
pub beside-all : (ks counts : List ℕ) → IsDistinct nat_eq ks → length ks ≡ length counts → map (beside ks counts) ks ≡ counts
unfolding IsDistinct
beside-all [] [] distinct same = refl
beside-all [] (x ∷ counts) distinct same = absurd (omega (arith, same))
beside-all (k ∷ ks) [] distinct same = absurd (omega (arith, same))
beside-all (k ∷ ks) (x ∷ counts) distinct same =
    let here : cond (nat_eq k k) x (beside ks counts k) ≡ x = ap (λ (b : Bool). cond b x (beside ks counts k)) (same-eq k) in
    ap (λ (c : ℕ). c ∷ map (beside (k ∷ ks) (x ∷ counts)) ks) here
    ∙ ap (λ (cs : List ℕ). x ∷ cs) (beside-rest k x ks counts ks distinct.0 ∙ beside-all ks counts distinct.1 (omega (arith, same)))
