-- The passes that calls one after another take.
use Rattle.std.proofs.Common.{zero, suc, ◌≡◌, ◌⊎◌, inl, inr, ⊎_elim, ℕ, ◌+◌, ◌-◌, ◌<◌, ◌≤◌, Option, Some, None, Result, Ok, Err, is_ok, IsErr, true, refl, sym, ◌∙◌, ap, arith}
use Rattle.std.proofs.lemmas.Bool.{cases_lt}
use Rattle.rz_disk.specs.Meter.{Meter, Passes, Took, spent}

-- a disk is unarmed, or it has a number of passes left
seen : (o : Option ℕ) → (o ≡ None) ⊎ ((n : ℕ) × (o ≡ Some n))
seen None = inl refl
seen (Some n) = inr (n, refl)

some_or_none : (n : ℕ) → (1 ≤ n) ⊎ (n ≡ 0)
some_or_none zero = inr refl
some_or_none (suc n) = inl (omega arith)

-- a result is not both
not_both : {T E : Type 0} (result : Result T E) → is_ok result ≡ true → IsErr result → ⊥
not_both (Ok x) ok err = cc
not_both (Err e) ok err = cc

-- one call takes one pass
pub took_one : {T E : Type 0} (result : Result T E) (a b : Meter) → Passes result a b → Took 1 result a b
took_one result a b one = record {
  planned_only = λ rose. (0, one.planned_only rose, omega arith);
  unarmed = λ none. one.fuse ∙ ap spent none;
  enough = λ n is ok. (
    ⊎_elim
        (λ (left : 1 ≤ n). left)
        (λ (zero : n ≡ 0). absurd (not_both result ok (one.blown (is ∙ ap (λ (m : ℕ). Some m) zero))))
        (some_or_none n),
    one.fuse ∙ ap spent is,
  );
  left = λ n is. (n - 1, one.fuse ∙ ap spent is, omega arith, omega arith);
}

-- where calls failed, those that were to follow took none
pub took_failed : {S T E F : Type 0} (j k : ℕ) (first : Result S E) (result : Result T F) (a b : Meter) → j ≤ k → IsErr result → Took j first a b → Took k result a b
took_failed j k first result a b fewer failed took = record {
  planned_only = λ rose. let at = took.planned_only rose in (at.0, at.1, omega (arith, at.2));
  unarmed = took.unarmed;
  enough = λ n is ok. absurd (not_both result ok failed);
  left = λ n is. let end = took.left n is in (end.0, end.1, omega (arith, end.2), end.3);
}

-- calls that went well, and then others
pub took_then : {S T E F : Type 0} (j k : ℕ) (first : Result S E) (second : Result T F) (a b c : Meter) → is_ok first ≡ true → Took j first a b → Took k second b c → Took (j + k) second a c
took_then j k first second a b c went one two = record {
  planned_only = λ rose. ⊎_elim
      (λ (early : a.planned < b.planned). let at = one.planned_only early in (at.0, at.1, omega (arith, at.2)))
      (λ (late : b.planned ≤ a.planned).
      let at = two.planned_only (omega (arith, rose, late)) in
      ⊎_elim
      (λ (none : a.fuse ≡ None). let no : None ≡ Some at.0 = sym (one.unarmed none) ∙ at.1 in absurd (cc))
      (λ (some : (n : ℕ) × (a.fuse ≡ Some n)).
      let mid = one.left some.0 some.1 in
      let same : mid.0 ≡ at.0 = cc (mid.1, at.1) in
      (some.0, some.1, omega (arith, mid.2, same, at.2)))
      (seen a.fuse))
      (cases_lt a.planned b.planned);
  unarmed = λ none. two.unarmed (one.unarmed none);
  enough = λ n is ok.
      let first-two = one.enough n is went in
      let last-two = two.enough (n - j) first-two.1 ok in
      (omega (arith, first-two.0, last-two.0), last-two.1 ∙ ap (λ (m : ℕ). Some m) (omega arith));
  left = λ n is. let mid = one.left n is in let end = two.left mid.0 mid.1 in (end.0, end.1, omega (arith, mid.2, end.2), omega (arith, mid.3, end.3));
}
