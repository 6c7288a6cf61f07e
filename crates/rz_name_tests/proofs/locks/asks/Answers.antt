use Rattle.std.proofs.Common.{ap, ◌∙◌, ◌≡◌, ℕ, cond, None}
use Rattle.std.specs.Cmp.{nat_cmp_total, tied_itself}
use Rattle.std.specs.FinMap.{get, remove, get-remove}
use Rattle.std.specs.Ordering.{is_eq}
use Rattle.rz_locks.specs.Held.{Held}
use Rattle.rz_name_tests.proofs.locks.asks.Goals as goal

-- an owner whose lock was released holds none
released : (locks : Held) (owner : ℕ) → get (remove locks owner) owner ≡ None
released locks owner = get-remove nat_cmp_total locks owner owner ∙ ap (λ r. cond (is_eq r) None (get locks owner)) (tied_itself nat_cmp_total owner)

pub take-requires-clause-holds_none : goal.take-requires-clause-holds_none
take-requires-clause-holds_none c = ap (λ (l : Held). get l c.args.owner) c.release.ensures.after ∙ released c.args.locks.now c.args.owner
