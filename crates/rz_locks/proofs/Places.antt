-- The places of the owners, and the map that they make.
use Rattle.std.proofs.Common.{◌≡◌, ◌≢◌, ◌⊎◌, inl, inr, ◌+◌, ◌<◌, ℕ, zero, suc, Bool, true, false, cond, eqb, List, [], ◌∷◌, Option, None, Some, length, get_or, set, refl, sym, ◌∙◌, arith}
use Rattle.std.specs.Ordering.{nat_cmp, eq_by_cmp}
use Rattle.std.specs.Cmp.{nat_cmp_total, unsigned_tied}
use Rattle.std.specs.FinMap.{get, insert, remove, find, get-from_entries, get-insert, get-remove, same_map, nat_cmp-IsAntisymmetric}
use Rattle.std.proofs.lemmas.Bool.Decides.{nat_tests}
use Rattle.std.proofs.lemmas.Grind.{common_steps}
use Rattle.rz_locks.specs.declared.conflict.Lock.{Lock}
use Rattle.rz_locks.specs.Places.{by_owner, entries_from}

apart : (a b : ℕ) → a ≢ b → eqb a b ≡ false
apart a b ne = grind (arith, nat_tests)

same : (a b : ℕ) → a ≡ b → eqb a b ≡ true
same a b e = grind (arith, nat_tests)

tied : (a b : ℕ) → a ≡ b → eq_by_cmp nat_cmp a b ≡ true
tied a b e = unsigned_tied a b ∙ same a b e

untied : (a b : ℕ) → a ≢ b → eq_by_cmp nat_cmp a b ≡ false
untied a b ne = unsigned_tied a b ∙ apart a b ne

-- an owner before the places has no lock in them
find_below : (q owner : ℕ) (places : List (Option Lock)) → q < owner → find nat_cmp q (entries_from owner places) ≡ None
find_below q owner [] below = refl
find_below q owner (None ∷ places) below = find_below q (owner + 1) places (omega arith)
find_below q owner (Some lock ∷ places) below =
    rw (untied q owner (omega arith)) (find_below q (owner + 1) places (omega arith))

-- and each other has that in his place
find_at : (q owner k : ℕ) (places : List (Option Lock)) → q ≡ owner + k → find nat_cmp q (entries_from owner places) ≡ get_or places k None
find_at q owner zero [] is = refl
find_at q owner (suc k) [] is = refl
find_at q owner zero (None ∷ places) is = find_below q (owner + 1) places (omega arith)
find_at q owner zero (Some lock ∷ places) is = rw (tied q owner (omega arith)) refl
find_at q owner (suc k) (None ∷ places) is = find_at q (owner + 1) k places (omega arith)
find_at q owner (suc k) (Some lock ∷ places) is =
    rw (untied q owner (omega arith)) (find_at q (owner + 1) k places (omega arith))

-- what an owner holds: owner 0 nothing, and each other what stands in his place
abbrev pub lock_of : List (Option Lock) → ℕ → Option Lock
lock_of places zero = None
lock_of places (suc k) = get_or places k None

pub get-by_owner : (places : List (Option Lock)) (owner : ℕ) → get (by_owner places) owner ≡ lock_of places owner
get-by_owner places zero = get-from_entries nat_cmp_total (entries_from 1 places) 0 ∙ find_below 0 1 places (omega arith)
get-by_owner places (suc k) = get-from_entries nat_cmp_total (entries_from 1 places) (suc k) ∙ find_at (suc k) 1 k places (omega arith)

lock_of-set : (places : List (Option Lock)) (k : ℕ) (held : Option Lock) (owner : ℕ) → k < length places
    → lock_of (set places k held) owner ≡ cond (eq_by_cmp nat_cmp owner (suc k)) held (lock_of places owner)
lock_of-set places k held zero inside = rw (untied zero (suc k) (omega arith)) refl
lock_of-set places k held (suc j) inside = rw (unsigned_tied (suc j) (suc k)) (grind (arith, nat_tests, common_steps))

pub lock_of-set_at : (places : List (Option Lock)) (k : ℕ) (held : Option Lock) (owner q : ℕ) → k < length places → owner ≡ suc k
    → get (by_owner (set places k held)) q ≡ cond (eq_by_cmp nat_cmp q owner) held (get (by_owner places) q)
lock_of-set_at places k held owner q inside is =
    rw (get-by_owner (set places k held) q, get-by_owner places q, is) (lock_of-set places k held q inside)

-- a write of a lock is an insertion
pub by_owner-set : (places : List (Option Lock)) (k : ℕ) (lock : Lock) (owner : ℕ) → k < length places → owner ≡ suc k
    → by_owner (set places k (Some lock)) ≡ insert (by_owner places) owner lock
by_owner-set places k lock owner inside is = same_map nat_cmp_total nat_cmp-IsAntisymmetric _ _
    (λ q. lock_of-set_at places k (Some lock) owner q inside is ∙ sym (get-insert nat_cmp_total (by_owner places) owner lock q))

-- and a write of nothing is a removal
pub by_owner-clear : (places : List (Option Lock)) (k : ℕ) (owner : ℕ) → k < length places → owner ≡ suc k
    → by_owner (set places k None) ≡ remove (by_owner places) owner
by_owner-clear places k owner inside is = same_map nat_cmp_total nat_cmp-IsAntisymmetric _ _
    (λ q. lock_of-set_at places k None owner q inside is ∙ sym (get-remove nat_cmp_total (by_owner places) owner q))

none_past : (places : List (Option Lock)) (owner : ℕ) → length places < owner → lock_of places owner ≡ None
none_past places zero past = absurd (omega arith)
none_past places (suc k) past = grind (arith, common_steps)

pub same_owner : (q owner : ℕ) → eq_by_cmp nat_cmp q owner ≡ true → q ≡ owner
same_owner q owner e = let test : eqb q owner ≡ true = sym (unsigned_tied q owner) ∙ e in grind (arith, nat_tests)

nobody_holds : (places : List (Option Lock)) (owner : ℕ) → (owner ≡ 0) ⊎ (length places < owner) → get (by_owner places) owner ≡ None
nobody_holds places owner (inl none) = rw none (get-by_owner places 0)
nobody_holds places owner (inr past) = get-by_owner places owner ∙ none_past places owner past

removed : (b : Bool) (held : Option Lock) → (b ≡ true → held ≡ None) → held ≡ cond b None held
removed true held none = none refl
removed false held none = refl

remove_nobody-get : (places : List (Option Lock)) (owner : ℕ) → (owner ≡ 0) ⊎ (length places < owner) → (q : ℕ)
    → get (by_owner places) q ≡ get (remove (by_owner places) owner) q
remove_nobody-get places owner nobody q =
    let none : eq_by_cmp nat_cmp q owner ≡ true → get (by_owner places) q ≡ None =
    λ e. rw (same_owner q owner e) (nobody_holds places owner nobody) in
    removed (eq_by_cmp nat_cmp q owner) (get (by_owner places) q) none ∙ sym (get-remove nat_cmp_total (by_owner places) owner q)

-- to remove an owner who has no place changes nothing
pub remove_nobody : (places : List (Option Lock)) (owner : ℕ) → (owner ≡ 0) ⊎ (length places < owner)
    → by_owner places ≡ remove (by_owner places) owner
remove_nobody places owner nobody = same_map nat_cmp_total nat_cmp-IsAntisymmetric _ _ (remove_nobody-get places owner nobody)
