-- Passes and faults of calls one after another.
use Rattle.std.proofs.Common.{◌≡◌, ◌⊎◌, inl, inr, ⊎_elim, ℕ, ◌+◌, ◌-◌, ◌≤◌, Option, Some, None, Result, Ok, is_ok, IsErr, true, List, refl, sym, ◌∙◌, ap, arith}
use Rattle.rz_disk.specs.Images.{Within}
use Rattle.rz_disk.specs.Meter.{Meter, Passes, Took, Lasts, Rises, HasPasses, faults}
use Rattle.rz_disk.proofs.Passes.{took_then, took_failed}
use Rattle.rz_cells_slots.specs.Counted.{Counted}
use Rattle.rz_cells_slots.specs.Opening.{OnlyRead}

-- a call before that takes no pass and plans no fault
pub took_after : {S T E F : Type 0} (k : ℕ) (first : Result S E) (result : Result T F) (a b c : Meter) → b.fuse ≡ a.fuse → b.planned ≡ a.planned → (is_ok result ≡ true → is_ok first ≡ true) → Took k first b c → Took k result a c
took_after k first result a b c fuse planned same took = record {
  planned_only = λ rose. let at = took.planned_only (omega (arith, planned)) in (at.0, sym fuse ∙ at.1, at.2);
  unarmed = λ none. took.unarmed (fuse ∙ none);
  enough = λ n is ok. took.enough n (fuse ∙ is) (same ok);
  left = λ n is. took.left n (fuse ∙ is);
}

pub lasts_then : (a b c : Meter) → Lasts a b → Lasts b c → Lasts a c
lasts_then a b c one two = record { planned = omega (arith, one.planned, two.planned); own = omega (arith, one.own, two.own) }

pub lasts_same : (a : Meter) → Lasts a a
lasts_same a = record { planned = omega arith; own = omega arith }

-- one call
pub lasts_one : {T E : Type 0} (result : Result T E) (a b : Meter) → Passes result a b → Lasts a b
lasts_one result a b one = record { planned = one.planned; own = one.own }

-- faults that rose later rose from before
pub risen_after : (a b c : Meter) → Lasts a b → Rises (faults b) (faults c) → Rises (faults a) (faults c)
risen_after a b c lasts rose = omega (arith, lasts.planned, lasts.own, rose)

pub read_then : (t u v : List ℕ) (i j k : List ℕ → Type 0) (a b c : Meter) → OnlyRead t u i j a b → OnlyRead u v j k b c → OnlyRead t v i k a c
read_then t u v i j k a b c one two = record {
  same = two.same ∙ one.same;
  within = λ text left. one.within text (two.within text left);
  lasts = lasts_then a b c one.lasts two.lasts;
}

-- the result of calls that went well
abbrev pub went : Result (Unit {0}) (Unit {0})
went = Ok tt

-- no call
pub took_nothing : (a : Meter) → Took 0 went a a
took_nothing a = record {
  planned_only = λ rose. absurd (omega arith);
  unarmed = λ none. none;
  enough = λ n is ok. (omega arith, is ∙ ap (λ (m : ℕ). Some m) (omega arith));
  left = λ n is. (n, is, omega arith, omega arith);
}

-- the passes of calls under another result
pub took_under : {S T E F : Type 0} (k : ℕ) (first : Result S E) (result : Result T F) (a b : Meter) → (is_ok result ≡ true → is_ok first ≡ true) → Took k first a b → Took k result a b
took_under k first result a b same took = took_after k first result a a b refl refl same took

-- one more call that went well
pub took_more : {T E : Type 0} (j : ℕ) (next : Result T E) (a b c : Meter) → is_ok next ≡ true → Took j went a b → Took 1 next b c → Took (j + 1) went a c
took_more j next a b c ok one two = took_then j 1 went went a b c refl one (took_under 1 next went b c (λ _. ok) two)

-- a call that failed, after calls that went well
pub took_up_to : {S T E F : Type 0} (j m k : ℕ) (last : Result S E) (result : Result T F) (a b c : Meter) → j + m ≤ k → IsErr result → Took j went a b → Took m last b c → Took k result a c
took_up_to j m k last result a b c fits failed one two =
    took_failed (j + m) k last result a c fits failed (took_then j m went last a b c refl one two)

fuse_cases : (o : Option ℕ) → (o ≡ None) ⊎ ((n : ℕ) × (o ≡ Some n))
fuse_cases None = inl refl
fuse_cases (Some n) = inr (n, refl)

-- the passes that are left after calls that went well
pub passes_left : (j m k : ℕ) (a b : Meter) → j + m ≤ k → Took j went a b → HasPasses k a → HasPasses m b
passes_left j m k a b fits took has n is = ⊎_elim
    (λ (none : a.fuse ≡ None). let no : None ≡ Some n = sym (took.unarmed none) ∙ is in absurd (cc))
    (λ (some : (i : ℕ) × (a.fuse ≡ Some i)).
    let end = took.enough some.0 some.1 refl in
    let same : some.0 - j ≡ n = cc (end.1, is) in
    let enough = has some.0 some.1 in
    omega (arith, same, enough))
    (fuse_cases a.fuse)

-- own faults that rose later rose from before
pub own_after : (a b c : Meter) → Lasts a b → Rises b.own c.own → Rises a.own c.own
own_after a b c lasts rose = omega (arith, lasts.own, rose)

-- a disk that was read
pub read_one : {T E : Type 0} (result : Result T E) (t u : List ℕ) (i j : List ℕ → Type 0) (a b : Meter) → u ≡ t → Within i j → Passes result a b → OnlyRead t u i j a b
read_one result t u i j a b same within one = record { same = same; within = within; lasts = lasts_one result a b one }

-- the first call failed
pub counted_failed : {S T E F : Type 0} (j k : ℕ) (first : Result S E) (result : Result T F) (a b : Meter) → j ≤ k → IsErr result → Took j first a b → Lasts a b
    → Rises (faults a) (faults b) → (HasPasses j a → Rises a.own b.own) → Counted k result a b
counted_failed j k first result a b fits failed took lasts rose own = record {
  took = took_failed j k first result a b fits failed took;
  lasts = lasts;
  risen = λ _. rose;
  own_risen = λ _ has. own (λ n is. let enough = has n is in omega (arith, fits));
}

-- a second store, after one that went well
pub counted_second : {S T E F : Type 0} (first : Result S E) (result : Result T F) (a b c : Meter) → is_ok first ≡ true → Took 2 first a b → Lasts a b → Took 2 result b c → Lasts b c
    → (IsErr result → Rises (faults b) (faults c)) → (IsErr result → HasPasses 2 b → Rises b.own c.own) → Counted 4 result a c
counted_second first result a b c ok one lasts two also rose own = record {
  took = took_then 2 2 first result a b c ok one two;
  lasts = lasts_then a b c lasts also;
  risen = λ failed. risen_after a b c lasts (rose failed);
  own_risen = λ failed has. own_after a b c lasts (own failed (passes_left 2 2 4 a b (omega arith) (took_under 2 first went a b (λ _. ok) one) has));
}

-- a call that went well, under another result
pub counted_ok : {S T E F : Type 0} (k : ℕ) (first : Result S E) (x : T) (a b : Meter) → is_ok first ≡ true → Counted k first a b → Counted {T = T} {E = F} k (Ok x) a b
counted_ok k first x a b ok counted = record {
  took = took_under k first (Ok x) a b (λ _. ok) counted.took;
  lasts = counted.lasts;
  risen = λ failed. absurd (cc);
  own_risen = λ failed has. absurd (cc);
}
