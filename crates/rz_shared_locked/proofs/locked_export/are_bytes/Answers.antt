use Rattle.std.proofs.Common.{◌<◌, ℕ, subst, arith}
use Rattle.std.proofs.lemmas.List.{get_or_default}
use Rattle.rz_shared_locked.proofs.locked_export.are_bytes.Goals as goal

pub returns : goal.returns
returns c = λ i d within. subst (λ (n : ℕ). n < 256) (get_or_default c.args.text.now i 0 d within) (omega (arith, c.type_inv.text i))
