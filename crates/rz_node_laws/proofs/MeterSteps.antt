-- One event more, by what it spends.
use Rattle.std.proofs.Common.{◌≡◌, ◌⊎◌, inl, inr, ⊎_elim, ℕ, ◌+◌, ◌-◌, ◌^◌, ◌<◌, ◌≤◌, Bool, true, false, cond, not, List, ◌∷◌, Option, Some, None, refl, sym, ◌∙◌, ap, subst, arith}
use Rattle.std.specs.Prelude.{◌&&◌, nat_lt}
use Rattle.std.proofs.lemmas.Bool.Decides.{nat_tests}
use Rattle.rz_disk.specs.Meter.{Meter}
use Rattle.rz_events.specs.declared.nodes.Phase.{Phase}
use Rattle.rz_events.specs.declared.nodes.Phase.TheVariants.{Up}
use Rattle.rz_events.specs.declared.events.Event.{Event}
use Rattle.rz_node.specs.Spends.{Failed, Passed}
use Rattle.rz_play.specs.Faults.{fuse_of, own_passes, less, is_barred, is_fault, unplanned, slips}
use Rattle.rz_node_laws.specs.Metered.{IsMetered}

less-zero : (o : Option ℕ) → less 0 o ≡ o
less-zero None = refl
less-zero (Some n) = ap (λ (m : ℕ). Some m) (omega arith)

less-none : (n : ℕ) (o : Option ℕ) → less n o ≡ None → o ≡ None
less-none n None is = refl
less-none n (Some left) is = absurd (cc)

less-some : (n : ℕ) (o : Option ℕ) (left : ℕ) → less n o ≡ Some left → (before : ℕ) × (o ≡ Some before) × (left ≡ before - n)
less-some n None left is = absurd (cc)
less-some n (Some before) left is = (before, refl, (let same : before - n ≡ left = cc in sym same))

pub barred-zero : (o : Option ℕ) → is_barred o 0 ≡ false
barred-zero None = refl
barred-zero (Some left) = low left
  where
    low : (left : ℕ) → nat_lt left 0 ≡ false
    low left = grind (arith, nat_tests)

barred-low : (left n : ℕ) → is_barred (Some left) n ≡ true → left < n
barred-low left n is = low left n is
  where
    low : (left n : ℕ) → nat_lt left n ≡ true → left < n
    low left n is = grind (arith, nat_tests)

free-high : (left n : ℕ) → is_barred (Some left) n ≡ false → n ≤ left
free-high left n is = high left n is
  where
    high : (left n : ℕ) → nat_lt left n ≡ false → n ≤ left
    high left n is = grind (arith, nat_tests)

the-number : (a b : ℕ) → Some a ≡ Some b → a ≡ b
the-number a b is = cc

-- the fuse of a longer word, by what the event spends
abbrev IsSpending : ℕ → Event → List Event → Type 0
IsSpending n x w = fuse_of (x ∷ w) ≡ less n (fuse_of w)

pub no-slip : (b : Bool) → b ≡ false → (c : Bool) → b && c ≡ false
no-slip b is c = ap (λ x. x && c) is

pub zero-plus : (n : ℕ) → 0 + n ≡ n
zero-plus n = omega arith

-- ---- an event that spends nothing, and is no fault

pub quiet : (first : ℕ) (x : Event) (w : List Event) (phase phase' : Phase) (m m' : Meter) → IsSpending 0 x w → own_passes x ≡ 0 → is_fault x ≡ false → (phase' ≡ Up → phase ≡ Up) → m' ≡ m
    → IsMetered first w phase m → IsMetered first (x ∷ w) phase' m'
quiet first x w phase phase' m m' spends own fine up same metered =
    subst (IsMetered first (x ∷ w) phase') (sym same) (record {
      few = subst (λ (n : ℕ). first + n ≤ m.own) (sym planned) metered.few;
      unarmed = λ none. metered.unarmed (sym fuse ∙ none);
      least = λ left is. metered.least left (sym fuse ∙ is);
      most = λ clean left l is there. ⊎_elim
          (λ (low : l ≤ left). inl low)
          (λ (away : (phase ≡ Up → ⊥) × (l < 4)). inr (λ is_up. away.0 (up is_up), away.1))
          (metered.most clean left l (sym fuse ∙ is) there);
      effect = λ clean. slip ∙ metered.effect clean;
    })
  where
    fuse : fuse_of (x ∷ w) ≡ fuse_of w
    fuse = spends ∙ less-zero (fuse_of w)

    planned : unplanned (x ∷ w) ≡ unplanned w
    planned = ap (λ (b : Bool). cond (b && not (is_barred (fuse_of w) (own_passes x))) 1 0 + unplanned w) fine ∙ zero-plus (unplanned w)

    slip : slips (x ∷ w) ≡ slips w
    slip = ap (λ (b : Bool). cond b 1 0 + slips w) (no-slip (is_barred (fuse_of w) (own_passes x)) (ap (is_barred (fuse_of w)) own ∙ barred-zero (fuse_of w)) (not (is_fault x))) ∙ zero-plus (slips w)

-- ---- an event of a call of which all n device calls went well

pub went : (first n : ℕ) (x : Event) (w : List Event) (phase phase' : Phase) (old new : Meter) → IsSpending n x w → own_passes x ≡ n → is_fault x ≡ false → ((phase ≡ Up) ⊎ (4 ≤ n)) → Passed n old new
    → IsMetered first w phase old → IsMetered first (x ∷ w) phase' new
went first n x w phase phase' old new spends own fine up passed metered = record {
  few = subst (λ (k : ℕ). first + k ≤ new.own) (sym planned) (omega (arith, metered.few, passed.lasts.own));
  unarmed = λ none. passed.took.unarmed (metered.unarmed (less-none n (fuse_of w) (sym spends ∙ none)));
  least = λ left is.
      let before = less-some n (fuse_of w) left (sym spends ∙ is) in
      let had = metered.least before.0 before.1 in
      let now = passed.took.enough had.0 had.1 refl in
      (had.0 - n, now.1, omega (arith, before.2, had.2));
  most = λ clean left l is there.
      let before = less-some n (fuse_of w) left (sym spends ∙ is) in
      let had = metered.least before.0 before.1 in
      let now = passed.took.enough had.0 had.1 refl in
      let l_is : had.0 - n ≡ l = the-number (had.0 - n) l (sym now.1 ∙ there) in
      let low = few-left before.0 had.0 clean before.1 had.1 now.0 in
      inl (omega (arith, before.2, l_is, low));
  effect = λ clean. slip clean ∙ metered.effect (clean-before clean);
}
  where
    planned : unplanned (x ∷ w) ≡ unplanned w
    planned = ap (λ (b : Bool). cond (b && not (is_barred (fuse_of w) (own_passes x))) 1 0 + unplanned w) fine ∙ zero-plus (unplanned w)

    clean-before : new.own ≡ first → old.own ≡ first
    clean-before clean = let few = metered.few in let lasts = passed.lasts.own in omega (arith, clean, few, lasts)

    -- where no fault was counted, the disk had no more passes than the word said
    few-left : (before l : ℕ) → new.own ≡ first → fuse_of w ≡ Some before → old.fuse ≡ Some l → n ≤ l → l ≤ before
    few-left before l clean is there enough = ⊎_elim
        (λ (low : l ≤ before). low)
        (λ (away : (phase ≡ Up → ⊥) × (l < 4)). ⊎_elim
        (λ (is_up : phase ≡ Up). absurd (away.0 is_up))
        (λ (four : 4 ≤ n). absurd (let few = away.1 in omega (arith, four, enough, few)))
        up)
        (metered.most (clean-before clean) before l is there)

    fuse-cases : (o : Option ℕ) → fuse_of w ≡ o → new.own ≡ first → is_barred o n ≡ false
    fuse-cases None is clean = refl
    fuse-cases (Some before) is clean =
        let had = metered.least before is in
        let now = passed.took.enough had.0 had.1 refl in
        let low = few-left before had.0 clean is had.1 now.0 in
        free (is_barred (Some before) n) refl (omega (arith, low, now.0))
      where
        free : (b : Bool) → is_barred (Some before) n ≡ b → n ≤ before → is_barred (Some before) n ≡ false
        free false is enough = is
        free true is enough = absurd (let low = barred-low before n is in omega (arith, low, enough))

    slip : new.own ≡ first → slips (x ∷ w) ≡ slips w
    slip clean = ap (λ (b : Bool). cond b 1 0 + slips w) (no-slip (is_barred (fuse_of w) (own_passes x)) (ap (is_barred (fuse_of w)) own ∙ fuse-cases (fuse_of w) refl clean) (not (is_fault x))) ∙ zero-plus (slips w)

-- ---- an event of a call of which one of n device calls failed: the word takes it for four

pub failed : (first n : ℕ) (x : Event) (w : List Event) (phase phase' : Phase) (old new : Meter) → new.own < 2 ^ 64 - 1 → n ≤ 4 → IsSpending 4 x w → own_passes x ≡ n → is_fault x ≡ true → (phase' ≡ Up → ⊥) → Failed n old new
    → IsMetered first w phase old → IsMetered first (x ∷ w) phase' new
failed first n x w phase phase' old new below small spends own fault down fails metered = record {
  few = subst (λ (k : ℕ). first + k ≤ new.own) (sym planned) (counted (is_barred (fuse_of w) n) refl);
  unarmed = λ none. fails.took.unarmed (metered.unarmed (less-none 4 (fuse_of w) (sym spends ∙ none)));
  least = λ left is.
      let before = less-some 4 (fuse_of w) left (sym spends ∙ is) in
      let had = metered.least before.0 before.1 in
      let now = fails.took.left had.0 had.1 in
      (now.0, now.1, omega (arith, before.2, had.2, now.2, small));
  most = λ clean left l is there.
      let before = less-some 4 (fuse_of w) left (sym spends ∙ is) in
      let had = metered.least before.0 before.1 in
      let now = fails.took.left had.0 had.1 in
      let l_is : now.0 ≡ l = the-number now.0 l (sym now.1 ∙ there) in
      let few = short had.0 clean had.1 in
      inr (down, omega (arith, l_is, now.3, few, small));
  effect = λ clean. slip ∙ metered.effect (clean-before clean);
}
  where
    planned : unplanned (x ∷ w) ≡ cond (not (is_barred (fuse_of w) n)) 1 0 + unplanned w
    planned = (λ i. cond (fault i && not (is_barred (fuse_of w) (own i))) 1 0 + unplanned w)

    clean-before : new.own ≡ first → old.own ≡ first
    clean-before clean = let few = metered.few in let lasts = fails.lasts.own in omega (arith, clean, few, lasts)

    -- where no fault was counted, there were too few passes
    short : (l : ℕ) → new.own ≡ first → old.fuse ≡ Some l → l < n
    short l clean there = ⊎_elim
        (λ (low : l < n). low)
        (λ (high : n ≤ l).
        absurd (let rises = fails.own_risen (λ k is. (let same : l ≡ k = the-number l k (sym there ∙ is) in omega (arith, same, high))) in let few = metered.few in omega (arith, rises, few, clean, below)))
        (cases l n)
      where
        cases : (a b : ℕ) → (a < b) ⊎ (b ≤ a)
        cases a b = go (nat_lt a b) refl
          where
            go : (c : Bool) → nat_lt a b ≡ c → (a < b) ⊎ (b ≤ a)
            go true is = inl (lt a b is)
              where
                lt : (a b : ℕ) → nat_lt a b ≡ true → a < b
                lt a b is = grind (arith, nat_tests)
            go false is = inr (ge a b is)
              where
                ge : (a b : ℕ) → nat_lt a b ≡ false → b ≤ a
                ge a b is = grind (arith, nat_tests)

    -- enough passes: the fault is counted
    risen : is_barred (fuse_of w) n ≡ false → old.own + 1 ≤ new.own
    risen free = by-fuse (fuse_of w) refl free
      where
        from : ((k : ℕ) → old.fuse ≡ Some k → n ≤ k) → old.own + 1 ≤ new.own
        from has = let rises = fails.own_risen has in omega (arith, rises, below)

        by-fuse : (o : Option ℕ) → fuse_of w ≡ o → is_barred o n ≡ false → old.own + 1 ≤ new.own
        by-fuse None is free = from (λ k some. (let never : None ≡ Some k = sym (metered.unarmed is) ∙ some in absurd (cc)))
        by-fuse (Some left) is free = from (λ k some.
            let had = metered.least left is in
            let same : had.0 ≡ k = the-number had.0 k (sym had.1 ∙ some) in
            let high = free-high left n free in
            omega (arith, same, high, had.2))

    counted : (b : Bool) → is_barred (fuse_of w) n ≡ b → first + (cond (not (is_barred (fuse_of w) n)) 1 0 + unplanned w) ≤ new.own
    counted true barred = subst (λ (b : Bool). first + (cond (not b) 1 0 + unplanned w) ≤ new.own) (sym barred) (let few = metered.few in let lasts = fails.lasts.own in omega (arith, few, lasts))
    counted false free = subst (λ (b : Bool). first + (cond (not b) 1 0 + unplanned w) ≤ new.own) (sym free) (let few = metered.few in let rises = risen free in omega (arith, few, rises))

    and-false : (b : Bool) → b && false ≡ false
    and-false true = refl
    and-false false = refl

    slip : slips (x ∷ w) ≡ slips w
    slip = (λ i. cond (is_barred (fuse_of w) (own_passes x) && not (fault i)) 1 0 + slips w) ∙ ap (λ (b : Bool). cond b 1 0 + slips w) (and-false (is_barred (fuse_of w) (own_passes x))) ∙ zero-plus (slips w)
