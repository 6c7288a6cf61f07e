-- Which lock each owner holds.
use Rattle.std.specs.Prelude.{◌≡◌, ◌≢◌, ◌<◌, ℕ, Some, IsSomeAnd}
use Rattle.std.specs.Ordering.{nat_cmp}
use Rattle.std.specs.FinMap.{FinMap, get}
use Rattle.rz_locks.specs.declared.conflict.Lock.{Lock}
use Rattle.rz_locks.specs.declared.conflict.LockAnswer.{LockAnswer}
use Rattle.rz_locks.specs.declared.conflict.LockAnswer.TheVariants.{Granted, Busy}
use Rattle.rz_locks.specs.Conflicts.{Conflict}

-- the held locks by owner
abbrev pub Held : Type 0
Held = FinMap nat_cmp Lock

-- the owner holds a lock that conflicts with this one
abbrev pub Blocks : Held → Lock → ℕ → Type 0
Blocks held lock owner = IsSomeAnd (get held owner) (λ other. Conflict other lock)

-- granted where nobody blocks the lock, and else busy with the least owner who does
abbrev pub Answers : Held → Lock → LockAnswer → Type 0
Answers held lock Granted = (owner : ℕ) → ¬ Blocks held lock owner
Answers held lock (Busy owner) = Blocks held lock owner × ((other : ℕ) → other < owner → ¬ Blocks held lock other)

-- no two owners hold locks that conflict
abbrev pub IsApart : Held → Type 0
IsApart held = (a b : ℕ) (x y : Lock) → a ≢ b → get held a ≡ Some x → get held b ≡ Some y → ¬ Conflict x y
