-- Where the heads of pairs stand in the list of all.
use Rattle.std.proofs.Common.{zero, suc, ◌≡◌, ℕ, ◌+◌, ◌*◌, ◌<◌, Bool, true, false, if◌then◌else◌, Option, Some, None, List, [], ◌∷◌, length, get_or, set, replicate, refl, sym, ◌∙◌, ap, arith}
use Rattle.rz_events.specs.declared.keys.Key.{Key}
use Rattle.rz_events.specs.declared.records.Head.{Head}
use Rattle.rz_cells_slots.specs.declared.heads.Pair.{Pair}
use Rattle.rz_cells_slots.specs.declared.heads.Slot.{Slot}
use Rattle.rz_cells_slots.specs.Held.{in_cell}
use Rattle.rz_cells_slots.specs.Packed.{FitsPair, head_at, heads_in, one_in, zero_in}

pub heads_long : (ps : List Pair) → length (heads_in ps) ≡ 2 * length ps
unfolding heads_in
heads_long [] = refl
heads_long (p ∷ ps) = omega (arith, heads_long ps)

-- the first of a pair, and the second
pub heads_even : (ps : List Pair) (i : ℕ) (d : Pair) → i < length ps → in_cell (heads_in ps) (2 * i) ≡ zero_in (get_or ps i d)
unfolding heads_in
heads_even [] i d lt = absurd (omega (arith, lt))
heads_even (p ∷ ps) zero d lt = refl
heads_even (p ∷ ps) (suc i) d lt =
    let two : 2 * suc i ≡ suc (suc (2 * i)) = omega arith in
    ap (λ (n : ℕ). in_cell (zero_in p ∷ one_in p ∷ heads_in ps) n) two ∙ heads_even ps i d (omega (arith, lt))

pub heads_odd : (ps : List Pair) (i : ℕ) (d : Pair) → i < length ps → in_cell (heads_in ps) (2 * i + 1) ≡ one_in (get_or ps i d)
unfolding heads_in
heads_odd [] i d lt = absurd (omega (arith, lt))
heads_odd (p ∷ ps) zero d lt = refl
heads_odd (p ∷ ps) (suc i) d lt =
    let two : 2 * suc i + 1 ≡ suc (suc (2 * i + 1)) = omega arith in
    ap (λ (n : ℕ). in_cell (zero_in p ∷ one_in p ∷ heads_in ps) n) two ∙ heads_odd ps i d (omega (arith, lt))

-- a pair of which the one cell changes
pub heads_set_even : (ps : List Pair) (i : ℕ) (q d : Pair) → i < length ps → one_in q ≡ one_in (get_or ps i d) → heads_in (set ps i q) ≡ set (heads_in ps) (2 * i) (zero_in q)
unfolding heads_in
heads_set_even [] i q d lt same = absurd (omega (arith, lt))
heads_set_even (p ∷ ps) zero q d lt same = ap (λ (o : Option Head). zero_in q ∷ o ∷ heads_in ps) same
heads_set_even (p ∷ ps) (suc i) q d lt same =
    let two : 2 * suc i ≡ suc (suc (2 * i)) = omega arith in
    ap (λ (l : List (Option Head)). zero_in p ∷ one_in p ∷ l) (heads_set_even ps i q d (omega (arith, lt)) same)
    ∙ ap (λ (n : ℕ). set (zero_in p ∷ one_in p ∷ heads_in ps) n (zero_in q)) (sym two)

pub heads_set_odd : (ps : List Pair) (i : ℕ) (q d : Pair) → i < length ps → zero_in q ≡ zero_in (get_or ps i d) → heads_in (set ps i q) ≡ set (heads_in ps) (2 * i + 1) (one_in q)
unfolding heads_in
heads_set_odd [] i q d lt same = absurd (omega (arith, lt))
heads_set_odd (p ∷ ps) zero q d lt same = ap (λ (o : Option Head). o ∷ one_in q ∷ heads_in ps) same
heads_set_odd (p ∷ ps) (suc i) q d lt same =
    let two : 2 * suc i + 1 ≡ suc (suc (2 * i + 1)) = omega arith in
    ap (λ (l : List (Option Head)). zero_in p ∷ one_in p ∷ l) (heads_set_odd ps i q d (omega (arith, lt)) same)
    ∙ ap (λ (n : ℕ). set (zero_in p ∷ one_in p ∷ heads_in ps) n (one_in q)) (sym two)

-- pairs that are seen as these heads
module _ (ps : List Pair) (hs : List (Option Head)) (view : heads_in ps ≡ hs) (i : ℕ) (lt : i < length ps) (d : Pair) (cell : ℕ) (o : Option Head) where
  pub fits_zero : 2 * i ≡ cell → FitsPair hs cell o → (h k : Head) → o ≡ Some h → one_in (get_or ps i d) ≡ Some k → k.key ≡ h.key
  fits_zero at fits h k is there = fits h k (2 * i + 1) is (omega (arith, at)) (omega (arith, at)) (ap (λ (l : List (Option Head)). in_cell l (2 * i + 1)) (sym view) ∙ heads_odd ps i d lt ∙ there)

  pub fits_one : 2 * i + 1 ≡ cell → FitsPair hs cell o → (h k : Head) → o ≡ Some h → zero_in (get_or ps i d) ≡ Some k → k.key ≡ h.key
  fits_one at fits h k is there = fits h k (2 * i) is (omega (arith, at)) (omega (arith, at)) (ap (λ (l : List (Option Head)). in_cell l (2 * i)) (sym view) ∙ heads_even ps i d lt ∙ there)

  pub set_zero : 2 * i ≡ cell → (q : Pair) → zero_in q ≡ o → one_in q ≡ one_in (get_or ps i d) → heads_in (set ps i q) ≡ set hs cell o
  set_zero at q own same = heads_set_even ps i q d lt same ∙ ap (λ (n : ℕ). set (heads_in ps) n (zero_in q)) at ∙ ap (λ (l : List (Option Head)). set l cell (zero_in q)) view ∙ ap (λ (p : Option Head). set hs cell p) own

  pub set_one : 2 * i + 1 ≡ cell → (q : Pair) → zero_in q ≡ zero_in (get_or ps i d) → one_in q ≡ o → heads_in (set ps i q) ≡ set hs cell o
  set_one at q same own = heads_set_odd ps i q d lt same ∙ ap (λ (n : ℕ). set (heads_in ps) n (one_in q)) at ∙ ap (λ (l : List (Option Head)). set l cell (one_in q)) view ∙ ap (λ (p : Option Head). set hs cell p) own

-- pairs of which each is free have no head
pub heads_none : (n : ℕ) (p : Pair) (c : ℕ) → zero_in p ≡ None → one_in p ≡ None → in_cell (heads_in (replicate n p)) c ≡ None
unfolding heads_in
heads_none zero p c z o = refl
heads_none (suc n) p zero z o = z
heads_none (suc n) p (suc zero) z o = o
heads_none (suc n) p (suc (suc c)) z o = heads_none n p c z o

-- what a slot says is the same under a key that its head has
by_test : {A : Type 0} (b : Bool) (f : Key → A) (x : A) (a k : Key) → (b ≡ true → a ≡ k) → (if b then f k else x) ≡ (if b then f a else x)
by_test true f x a k same = ap f (sym (same refl))
by_test false f x a k same = refl

held : (b : Bool) (f : Key → Head) (a : Key) → b ≡ true → (if b then Some (f a) else None) ≡ Some (f a)
held b f a is = ap (λ (t : Bool). if t then Some (f a) else None) is

keeps : (s : Slot) (a k : Key) → ((h : Head) → head_at a s ≡ Some h → h.key ≡ k) → head_at k s ≡ head_at a s
keeps s a k ok =
    let f : Key → Head = λ key. record { stamp = s.stamp; key = key; layout = s.layout; bsize = s.bsize; position = s.position; length = s.length; base = s.base } in
    by_test s.is_held (λ (key : Key). Some (f key)) None a k (λ is. ok (f a) (held s.is_held f a is))

pub keeps_beside : (s : Slot) (a k : Key) (o : Option Head) → ((h q : Head) → o ≡ Some h → head_at a s ≡ Some q → q.key ≡ h.key) → ((h : Head) → o ≡ Some h → k ≡ h.key) → (o ≡ None → k ≡ a) → head_at k s ≡ head_at a s
keeps_beside s a k None fits some none = ap (λ (key : Key). head_at key s) (none refl)
keeps_beside s a k (Some h) fits some none = keeps s a k (λ q is. fits h q refl is ∙ sym (some h refl))

-- what a slot without a key says under the key that it gets
pub says : (s : Slot) (k : Key) (o : Option Head) → ((h : Head) → o ≡ Some h → head_at h.key s ≡ o) → ((key : Key) → o ≡ None → head_at key s ≡ o) → ((h : Head) → o ≡ Some h → k ≡ h.key) → head_at k s ≡ o
says s k None some none same = none k refl
says s k (Some h) some none same = ap (λ (key : Key). head_at key s) (same h refl) ∙ some h refl
