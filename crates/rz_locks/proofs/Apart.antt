-- No two held locks conflict, also after a lock was granted or taken away.
use Rattle.std.proofs.Common.{◌≡◌, ◌≢◌, ◌⊎◌, inl, inr, ℕ, Bool, true, false, cond, Option, None, Some, refl, sym, ◌∙◌}
use Rattle.std.specs.Ordering.{nat_cmp, eq_by_cmp}
use Rattle.std.specs.Cmp.{nat_cmp_total}
use Rattle.std.specs.FinMap.{get, insert, remove, empty, get-insert, get-remove, get-empty}
use Rattle.rz_locks.specs.declared.conflict.Range.{Range}
use Rattle.rz_locks.specs.declared.conflict.Lock.{Lock}
use Rattle.rz_locks.specs.Conflicts.{SharesByte, Conflict}
use Rattle.rz_locks.specs.Held.{Held, Blocks, IsApart}
use Rattle.rz_locks.proofs.Places.{same_owner}

SharesByte-swap : (a b : Range) → SharesByte a b → SharesByte b a
SharesByte-swap a b shares = (sym shares.0, (shares.1.0, shares.1.2, shares.1.1))

either-swap : {P Q : Type 0} → P ⊎ Q → Q ⊎ P
either-swap (inl p) = inr p
either-swap (inr q) = inl q

Conflict-swap : (a b : Lock) → Conflict a b → Conflict b a
Conflict-swap a b conflict = (SharesByte-swap a.range b.range conflict.0, either-swap conflict.1)

-- a lock that blocks nothing conflicts with no held lock
free_of : (held : Held) (lock other : Lock) (owner : ℕ) → ¬ Blocks held lock owner → get held owner ≡ Some other → ¬ Conflict other lock
free_of held lock other owner free is conflict = free (rw is conflict)

pub IsApart-empty : IsApart empty
IsApart-empty a b x y ne at_a at_b conflict = cc (sym (get-empty {X = Lock} nat_cmp a) ∙ at_a)

kept : (b : Bool) (old : Option Lock) (x : Lock) → cond b None old ≡ Some x → old ≡ Some x
kept true old x e = cc
kept false old x e = e

pub IsApart-remove : (held : Held) (owner : ℕ) → IsApart held → IsApart (remove held owner)
IsApart-remove held owner apart a b x y ne at_a at_b =
    apart a b x y ne (kept _ _ x (sym (get-remove nat_cmp_total held owner a) ∙ at_a)) (kept _ _ y (sym (get-remove nat_cmp_total held owner b) ∙ at_b))

added : (b : Bool) (lock : Lock) (old : Option Lock) (x : Lock) → cond b (Some lock) old ≡ Some x → ((b ≡ true) × (lock ≡ x)) ⊎ (old ≡ Some x)
added true lock old x e = inl (refl, cc)
added false lock old x e = inr e

-- what is held after an insertion is the new lock or was held before
after_insert : (held : Held) (owner : ℕ) (lock : Lock) (a : ℕ) (x : Lock) → get (insert held owner lock) a ≡ Some x
    → ((eq_by_cmp nat_cmp a owner ≡ true) × (lock ≡ x)) ⊎ (get held a ≡ Some x)
after_insert held owner lock a x at_a = added _ _ _ x (sym (get-insert nat_cmp_total held owner lock a) ∙ at_a)

both : (held : Held) (owner : ℕ) (lock : Lock) → IsApart held → ((other : ℕ) → ¬ Blocks held lock other)
    → (a b : ℕ) (x y : Lock) → a ≢ b
    → ((eq_by_cmp nat_cmp a owner ≡ true) × (lock ≡ x)) ⊎ (get held a ≡ Some x)
    → ((eq_by_cmp nat_cmp b owner ≡ true) × (lock ≡ y)) ⊎ (get held b ≡ Some y) → ¬ Conflict x y
both held owner lock apart free a b x y ne (inl new_a) (inl new_b) conflict = ne (same_owner a owner new_a.0 ∙ sym (same_owner b owner new_b.0))
both held owner lock apart free a b x y ne (inl new_a) (inr old_b) conflict =
    free_of held lock y b (free b) old_b (rw new_a.1 (Conflict-swap x y conflict))
both held owner lock apart free a b x y ne (inr old_a) (inl new_b) conflict =
    free_of held lock x a (free a) old_a (rw new_b.1 conflict)
both held owner lock apart free a b x y ne (inr old_a) (inr old_b) conflict = apart a b x y ne old_a old_b conflict

pub IsApart-insert : (held : Held) (owner : ℕ) (lock : Lock) → IsApart held → ((other : ℕ) → ¬ Blocks held lock other)
    → IsApart (insert held owner lock)
IsApart-insert held owner lock apart free a b x y ne at_a at_b =
    both held owner lock apart free a b x y ne (after_insert held owner lock a x at_a) (after_insert held owner lock b y at_b)
