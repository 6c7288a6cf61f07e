-- Tables of outcomes, and which positions a mask of one names.
use Rattle.std.proofs.Common.{◌≡◌, ℕ, suc, zero, ◌+◌, ◌<◌, Bool, true, false, cond, List, [], ◌∷◌, ◌++◌, length, get_or, set, replicate, arith, ap, ◌∙◌, sym, refl, append_assoc, rules}
use Rattle.std.specs.Prelude.{count_by, IsTrue, ◌↔◌}
use Rattle.std.proofs.lemmas.List.{set_at}
use Rattle.std.proofs.lemmas.List.Sums.{sum_by_push, sum_by-set}
use Rattle.rz_events.specs.declared.ends.Why.{Why}
use Rattle.rz_events.specs.declared.ends.Why.TheVariants.{NotAsked, Enrolled}
use Rattle.rz_client_model.specs.Write.{is_kept}

-- one more outcome, in a table whose other places are the same
pub set-append-replicate : (ws : List Why) (w d : Why) (m k n : ℕ) → m ≡ suc k → length ws ≡ n →
    set (ws ++ replicate m d) n w ≡ (ws ++ w ∷ []) ++ replicate k d
set-append-replicate ws w d m k n next at =
    ap (λ j. set (ws ++ replicate j d) n w) next ∙ set_at ws d (replicate k d) w n at ∙ sym (append_assoc ws (w ∷ []) (replicate k d))

pub one-true : (b : Bool) → (◌≡◌ {A = ℕ} (cond b 1 0) 1) ↔ IsTrue b
one-true true = (λ _. search rules, λ _. refl)
one-true false = (λ h. absurd (omega (arith, h)), λ h. absurd (let e : false ≡ true = h in cc))

-- a position past the table was not asked
pub within : (ws : List Why) (p : ℕ) → is_kept (get_or ws p NotAsked) ≡ true → p < length ws
within [] p h = absurd (let z : false ≡ true = h in cc)
within (w ∷ ws) zero h = omega arith
within (w ∷ ws) (suc p) h = omega (arith, within ws p h)

-- one more position
pub count-push : (ws : List Why) (w : Why) (b : Bool) → is_kept w ≡ b → count_by is_kept (ws ++ w ∷ []) ≡ count_by is_kept ws + cond b 1 0
count-push ws w b h = sum_by_push (λ x. cond (is_kept x) 1 0) ws w ∙ ap (λ t. count_by is_kept ws + cond t 1 0) h

-- a position that had the record has failed
pub count-set : (ws : List Why) (p : ℕ) → is_kept (get_or ws p NotAsked) ≡ true → count_by is_kept (set ws p Enrolled) + 1 ≡ count_by is_kept ws
count-set ws p h =
    let moved = sum_by-set (λ x. cond (is_kept x) 1 0) ws p Enrolled NotAsked (within ws p h) in
    let one : ◌≡◌ {A = ℕ} (cond (is_kept (get_or ws p NotAsked)) 1 0) 1 = ap (λ t. cond {A = ℕ} t 1 0) h in
    omega (arith, moved, one)
