-- How many cells hold something, and the device calls of a loop that makes one for each of these.
use Rattle.std.proofs.Common.{◌≡◌, inl, inr, ⊎_elim, ℕ, ◌+◌, ◌<◌, ◌≤◌, Bool, IsTrue, Option, Some, None, is_some, Result, Ok, is_ok, IsErr, true, List, [], ◌∷◌, length, take, cond, refl, sym, ◌∙◌, ap, subst, arith}
use Rattle.std.proofs.lemmas.Bool.{cases_lt}
use Rattle.std.proofs.lemmas.List.Sums.{count_by-le-length, count_by_more_no, count_by_more_yes, sum_by-cons, sum_by-take-le}
use Rattle.rz_events.specs.declared.records.Head.{Head}
use Rattle.rz_disk.specs.Meter.{Meter, Took, Lasts, HasPasses}
use Rattle.rz_disk.proofs.Passes.{took_failed, took_then}
use Rattle.rz_record.specs.Slot.{Rec}
use Rattle.rz_cells_slots.specs.declared.geometry.Geometry.{Geometry}
use Rattle.rz_cells_slots.specs.Counted.{CountedWhere, TookAll}
use Rattle.rz_cells_slots.specs.Held.{count_held, head_in, heads_of, in_cell}
use Rattle.rz_cells_slots.specs.Old.{HoldsAtMost, HoldsOld, paired}
use Rattle.rz_cells_slots.proofs.OldOpened.{same_old_cells}
use Rattle.rz_cells_slots.proofs.Meters.{went, lasts_same, lasts_then, own_after, passes_left, risen_after, took_more, took_nothing, took_under, took_up_to}

-- one cell more
pub held_more : {A : Type 0} (cells : List (Option A)) (k : ℕ) (x : A) → k < length cells → in_cell cells k ≡ Some x → count_held (take (k + 1) cells) ≡ count_held (take k cells) + 1
held_more cells k x lt is = count_by_more_yes is_some cells k None lt (ap is_some is)

pub held_same : {A : Type 0} (cells : List (Option A)) (k : ℕ) → k < length cells → in_cell cells k ≡ None → count_held (take (k + 1) cells) ≡ count_held (take k cells)
held_same cells k lt is = count_by_more_no is_some cells k None lt (ap is_some is)

-- no more than all
pub held_up_to : {A : Type 0} (cells : List (Option A)) (k : ℕ) → count_held (take k cells) ≤ count_held cells
held_up_to cells k = sum_by-take-le _ cells k

-- and the next
pub held_next : {A : Type 0} (cells : List (Option A)) (k : ℕ) (x : A) → k < length cells → in_cell cells k ≡ Some x → count_held (take k cells) + 1 ≤ count_held cells
held_next cells k x lt is = omega (arith, held_more cells k x lt is, held_up_to cells (k + 1))

pub held_few : {A : Type 0} (cells : List (Option A)) → count_held cells ≤ length cells
held_few cells = count_by-le-length is_some cells

held_cons : {A : Type 0} (o : Option A) (cells : List (Option A)) → count_held (o ∷ cells) ≡ cond (is_some o) 1 0 + count_held cells
held_cons o cells = sum_by-cons (λ (p : Option _). cond (is_some p) 1 0) o cells

held_none : {A : Type 0} (cells : List (Option A)) → count_held (None ∷ cells) ≡ count_held cells
held_none cells = let one : count_held (None ∷ cells) ≡ 0 + count_held cells = held_cons None cells in omega (arith, one)

-- pairs hold no more than the cells of which they are made
pub held_paired : {A : Type 0} (cells : List (Option A)) → count_held (paired cells) ≡ count_held cells
unfolding paired
held_paired [] = refl
held_paired (o ∷ os) = held_cons o (None ∷ paired os) ∙ ap (λ (n : ℕ). cond (is_some o) 1 0 + n) (held_none (paired os) ∙ held_paired os) ∙ sym (held_cons o os)

some_head : (o : Option Rec) → is_some (head_in o) ≡ is_some o
some_head None = refl
some_head (Some r) = refl

held_heads : (cells : List (Option Rec)) → count_held (heads_of cells) ≡ count_held cells
held_heads [] = refl
held_heads (o ∷ os) = held_cons (head_in o) (heads_of os) ∙ ap (λ (b : Bool). cond b 1 0 + count_held (heads_of os)) (some_head o) ∙ ap (λ (n : ℕ). cond (is_some o) 1 0 + n) (held_heads os) ∙ sym (held_cons o os)

-- what was read of an old disk is no more than it holds
pub read_at_most : (tells : Bool) (g : Geometry) (text : List ℕ) (heads : List (Option Head)) (n : ℕ) → length heads ≡ g.cells
    → (IsTrue tells → (fence : ℕ) × ((its : List (Option Rec)) × HoldsOld g fence text its × (heads_of its ≡ heads))) → HoldsAtMost tells g text n → count_held heads ≤ n
read_at_most tells g text heads n count has (inl few) = omega (arith, held_few heads, count, few)
read_at_most tells g text heads n count has (inr (told, (fence, cells, holds, few))) =
    let its = has told in
    let same : its.1.0 ≡ cells = same_old_cells g its.0 fence text its.1.0 cells its.1.1 holds in
    omega (arith, few, ap count_held its.1.2, held_heads its.1.0, ap count_held same)

-- one more call that went well, under another count
pub took_cell : {T E : Type 0} (k n : ℕ) (next : Result T E) (a b c : Meter) → n ≡ k + 1 → is_ok next ≡ true → Took k went a b → Took 1 next b c → Took n went a c
took_cell k n next a b c is ok one two = subst (λ (m : ℕ). Took m went a c) (sym is) (took_more k next a b c ok one two)

-- calls that went well, and the last ones
pub took_whole : {S T E F : Type 0} (j m k : ℕ) (last : Result S E) (result : Result T F) (a b c : Meter) → k ≡ j + m → (is_ok result ≡ true → is_ok last ≡ true) → Took j went a b → Took m last b c → Took k result a c
took_whole j m k last result a b c all same one two = subst (λ (n : ℕ). Took n result a c) (sym all) (took_under (j + m) last result a c same (took_then j m went last a b c refl one two))

-- no call, where there was an error
pub took_none : {T E : Type 0} (k : ℕ) (result : Result T E) (a : Meter) → IsErr result → Took k result a a
took_none k result a failed = took_failed 0 k went result a a (omega arith) failed (took_nothing a)

pub fewer_passes : (j k : ℕ) (a : Meter) → j ≤ k → HasPasses k a → HasPasses j a
fewer_passes j k a fewer has n is = let enough = has n is in omega (arith, fewer)

-- no call was made
pub counted_none : {T E : Type 0} (k : ℕ) (result : Result T E) (Failed : Type 0) (a : Meter) → IsErr result → (Failed → ⊥) → CountedWhere k result Failed a a
counted_none k result Failed a failed never = record {
  took = took_none k result a failed;
  lasts = lasts_same a;
  risen = λ is. absurd (never is);
  own_risen = λ is has. absurd (never is);
}

-- the first calls failed
pub counted_first : {S T E F : Type 0} (j k : ℕ) (first : Result S E) (result : Result T F) (P Q : Type 0) (a b : Meter) → j ≤ k → IsErr result → (Q → P) → CountedWhere j first P a b → CountedWhere k result Q a b
counted_first j k first result P Q a b fits failed since one = record {
  took = took_failed j k first result a b fits failed one.took;
  lasts = one.lasts;
  risen = λ is. one.risen (since is);
  own_risen = λ is has. one.own_risen (since is) (fewer_passes j k a fits has);
}

-- the first calls went well, and later ones failed
pub counted_last : {S T R E F G : Type 0} (j m k : ℕ) (first : Result S E) (last : Result T F) (result : Result R G) (O P Q : Type 0) (a b c : Meter) → j + m ≤ k → is_ok first ≡ true → IsErr result → (Q → P) → CountedWhere j first O a b → CountedWhere m last P b c → CountedWhere k result Q a c
counted_last j m k first last result O P Q a b c fits ok failed since one two =
    let before = took_under j first went a b (λ _. ok) one.took in
    record {
      took = took_up_to j m k last result a b c fits failed before two.took;
      lasts = lasts_then a b c one.lasts two.lasts;
      risen = λ is. risen_after a b c one.lasts (two.risen (since is));
      own_risen = λ is has. own_after a b c one.lasts (two.own_risen (since is) (passes_left j m k a b fits before has));
    }

-- all went well
pub counted_whole : {S T R E F G : Type 0} (j m k : ℕ) (first : Result S E) (last : Result T F) (x : R) (O P : Type 0) (a b c : Meter) → k ≡ j + m → is_ok first ≡ true → is_ok last ≡ true → CountedWhere j first O a b → CountedWhere m last P b c → CountedWhere {T = R} {E = G} k (Ok x) ⊥ a c
counted_whole j m k first last x O P a b c all ok ok' one two = record {
  took = took_whole j m k last (Ok x) a b c all (λ _. ok') (took_under j first went a b (λ _. ok) one.took) two.took;
  lasts = lasts_then a b c one.lasts two.lasts;
  risen = λ is. absurd is;
  own_risen = λ is has. absurd is;
}

-- the same under another result
pub counted_under : {S T E F : Type 0} (k : ℕ) (first : Result S E) (result : Result T F) (P Q : Type 0) (a b : Meter) → (is_ok result ≡ true → is_ok first ≡ true) → (Q → P) → CountedWhere k first P a b → CountedWhere k result Q a b
counted_under k first result P Q a b same since one = record {
  took = took_under k first result a b same one.took;
  lasts = one.lasts;
  risen = λ is. one.risen (since is);
  own_risen = λ is has. one.own_risen (since is) has;
}

-- calls that all went well planned no fault
pub none_planned : (k : ℕ) (a b : Meter) → TookAll k a b → Lasts a b → b.planned ≡ a.planned
none_planned k a b took lasts = ⊎_elim
    (λ (rose : a.planned < b.planned).
    let at = took.planned_only rose in
    let enough = took.enough at.0 at.1 refl in
    absurd (omega (arith, at.2, enough.0)))
    (λ (same : b.planned ≤ a.planned). omega (arith, same, lasts.planned))
    (cases_lt a.planned b.planned)
