-- From the counts of the cells' calls to those of a node's.
use Rattle.std.proofs.Common.{◌≡◌, ◌≢◌, ℕ, ◌-◌, ◌≤◌, true, false, Some, Result, Ok, Err, is_ok, refl, sym, ◌∙◌, ap, arith}
use Rattle.rz_disk.specs.Meter.{Meter, Took, Passes, spent}
use Rattle.rz_cells_slots.specs.Counted.{CountedWhere}
use Rattle.rz_node.specs.Spends.{Failed, Passed}

-- what was counted depends on the success alone
pub took-as : {T E T' E' : Type 0} (k : ℕ) (r : Result T E) (q : Result T' E') (old new : Meter) → is_ok q ≡ is_ok r → Took k r old new → Took k q old new
took-as k r q old new same took = record { planned_only = took.planned_only; unarmed = took.unarmed; enough = λ n armed ok. took.enough n armed (sym same ∙ ok); left = took.left }

-- and so what a failure of the disk raised
pub counted-as : {T E T' E' : Type 0} (k : ℕ) (r : Result T E) (q : Result T' E') (F G : Type 0) (old new : Meter) → is_ok q ≡ is_ok r → (G → F) → CountedWhere k r F old new → CountedWhere k q G old new
counted-as k r q F G old new same fails c = record { took = took-as k r q old new same c.took; lasts = c.lasts; risen = λ failed. c.risen (fails failed); own_risen = λ failed. c.own_risen (fails failed) }

not-blown : (n : ℕ) → n ≢ 0 → 1 ≤ n
not-blown n never = omega arith

false-true : false ≡ true → ⊥
false-true is = absurd (cc)

-- one call takes one pass
pub passed-one : {T E : Type 0} (x : T) (old new : Meter) → Passes {T = T} {E = E} (Ok x) old new → Passed 1 old new
passed-one {T} {E} x old new p = record {
  took = record {
    planned_only = λ rose. (0, p.planned_only rose, omega arith);
    unarmed = λ none. p.fuse ∙ ap spent none;
    enough = λ n armed ok. (not-blown n (λ zero-is. false-true (p.blown (armed ∙ ap (λ (m : ℕ). Some m) zero-is))), p.fuse ∙ ap spent armed);
    left = λ n armed. (n - 1, p.fuse ∙ ap spent armed, omega arith, omega arith);
  };
  lasts = record { planned = p.planned; own = p.own };
}

pub failed-one : {T E : Type 0} (e : E) (old new : Meter) → Passes {T = T} {E = E} (Err e) old new → Failed 1 old new
failed-one {T} {E} e old new p = record {
  took = record {
    planned_only = λ rose. (0, p.planned_only rose, omega arith);
    unarmed = λ none. p.fuse ∙ ap spent none;
    enough = λ n armed ok. absurd (cc);
    left = λ n armed. (n - 1, p.fuse ∙ ap spent armed, omega arith, omega arith);
  };
  lasts = record { planned = p.planned; own = p.own };
  risen = p.risen refl;
  own_risen = p.own_risen refl;
}
