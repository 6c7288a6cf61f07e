-- One cell of a map changes.
use Rattle.std.proofs.Common.{◌≡◌, ◌≢◌, ◌⊎◌, inl, inr, ⊎_elim, ℕ, ◌<◌, ◌≤◌, ◌==◌, ◌&&◌, Bool, true, false, if◌then◌else◌, Option, Some, None, List, length, set, refl, sym, ◌∙◌, ap, subst, arith, get_or}
use Rattle.std.proofs.lemmas.Bool.{cases_eq}
use Rattle.std.proofs.lemmas.Bool.{cases_lt}
use Rattle.std.proofs.lemmas.Bool.Decides.{nat_tests}
use Rattle.std.proofs.lemmas.List.{get_or_read, get_or-set_same, get_or-set_other, get_or-map, get_or_past, map-set, length-map}
use Rattle.rz_events.specs.declared.keys.Key.{Key}
use Rattle.rz_events.specs.declared.records.Head.{Head}
use Rattle.rz_record.specs.Slot.{Rec}
use Rattle.rz_cells_slots.specs.Held.{Records, Together, Apart, Made, Goes, in_cell, heads_of, head_in, names, changed, nothing}

-- what a read of a list gives is what stands there
pub stands_there : {A : Type 0} (xs : List (Option A)) (i n : ℕ) (x : Option A) (a : A) → i < n → length xs ≡ n → x ≡ get_or xs i x → x ≡ Some a → in_cell xs i ≡ Some a
stands_there xs i n x a lt long is some = sym (get_or_read xs i x (omega arith) is None) ∙ some

-- a head has its own key and stamp
pub names_own : (h : Head) → names (Some h) h.key h.stamp ≡ true
names_own h = grind (arith, nat_tests)

pub both : (a b : Bool) → a && b ≡ true → (a ≡ true) × (b ≡ true)
both true true is = (refl, refl)
both true false is = absurd (cc)
both false b is = absurd (cc)

pub eq_from : (m n : ℕ) → (m == n) ≡ true → m ≡ n
eq_from m n is = grind (arith, nat_tests)

pub named : (o : Option Head) (key : Key) (stamp : ℕ) → names o key stamp ≡ true → (h : Head) × (o ≡ Some h) × (h.key ≡ key) × (h.stamp ≡ stamp)
named None key stamp is = absurd (cc)
named (Some h) key stamp is =
    let outer = both ((h.key.fid == key.fid) && (h.key.block == key.block)) (h.stamp == stamp) is in
    let inner = both (h.key.fid == key.fid) (h.key.block == key.block) outer.0 in
    let fid = eq_from h.key.fid key.fid inner.0 in
    let block = eq_from h.key.block key.block inner.1 in
    (h, refl, (λ i. record { fid = fid i; block = block i }), eq_from h.stamp stamp outer.1)

pub bool_cases : (b : Bool) → (b ≡ true) ⊎ (b ≡ false)
bool_cases true = inl refl
bool_cases false = inr refl

pub chosen : {A : Type 0} (b : Bool) (x y : A) → b ≡ true → (if b then x else y) ≡ x
chosen b x y is = ap (λ (t : Bool). if t then x else y) is

pub passed : {A : Type 0} (b : Bool) (x y : A) → b ≡ false → (if b then x else y) ≡ y
passed b x y is = ap (λ (t : Bool). if t then x else y) is

-- what a cell's head says of the cell
pub head_in-cell : (cells : List (Option Rec)) (c : ℕ) → in_cell (heads_of cells) c ≡ head_in (in_cell cells c)
head_in-cell cells c = ⊎_elim
    (λ (lt : c < length cells). get_or-map head_in cells c None None lt)
    (λ (le : length cells ≤ c). get_or_past (heads_of cells) c None (omega (arith, length-map cells head_in)) ∙ sym (ap head_in (get_or_past cells c None le)))
    (cases_lt c (length cells))

pub head_some : (o : Option Rec) (h : Head) → head_in o ≡ Some h → (r : Rec) × (o ≡ Some r) × (r.head ≡ h)
head_some None h is = absurd (cc)
head_some (Some r) h is = (r, refl, cc)

-- a record in a cell has its head there
pub has_head : (cells : List (Option Rec)) (c : ℕ) (r : Rec) → in_cell cells c ≡ Some r → in_cell (heads_of cells) c ≡ Some r.head
has_head cells c r is = head_in-cell cells c ∙ ap head_in is

-- what goes into a cell is apart from all others
pub goes_from : (heads : List (Option Head)) (cell : ℕ) (h : Head) → Goes heads cell h → (d : ℕ) (k : Head) → d ≢ cell → in_cell heads d ≡ Some k → Together cell d h k
goes_from heads cell h goes d k ne is = record {
  one_pair = λ same. sym (goes.no_other_pair d k is (sym same));
  one_key = λ pair. sym (goes.one_key d k ne is (sym pair));
  two_stamps = λ same stamps. goes.two_stamps d k ne is (goes.no_other_pair d k is (sym same)) (sym stamps);
}

pub goes_to : (heads : List (Option Head)) (cell : ℕ) (h : Head) → Goes heads cell h → (d : ℕ) (k : Head) → d ≢ cell → in_cell heads d ≡ Some k → Together d cell k h
goes_to heads cell h goes d k ne is = record {
  one_pair = λ same. goes.no_other_pair d k is same;
  one_key = λ pair. goes.one_key d k ne is pair;
  two_stamps = λ same stamps. goes.two_stamps d k ne is (goes.no_other_pair d k is same) stamps;
}

-- heads stay apart where one that goes there, or none, is put
pub apart-set : (heads : List (Option Head)) (cell : ℕ) (new : Option Head) → cell < length heads → ((h : Head) → new ≡ Some h → Goes heads cell h) → Apart heads → Apart (set heads cell new)
apart-set heads cell new in_range goes apart c d h k ne is is' = ⊎_elim
    (λ (c-here : c ≡ cell). ⊎_elim
    (λ (d-here : d ≡ cell). absurd (ne (c-here ∙ sym d-here)))
    (λ (d-other : d ≢ cell). subst (λ (e : ℕ). Together e d h k) (sym c-here) (goes_from heads cell h (goes h (at_here c h c-here is)) d k d-other (other d k d-other is')))
    (cases_eq d cell))
    (λ (c-other : c ≢ cell). ⊎_elim
    (λ (d-here : d ≡ cell). subst (λ (e : ℕ). Together c e h k) (sym d-here) (goes_to heads cell k (goes k (at_here d k d-here is')) c h c-other (other c h c-other is)))
    (λ (d-other : d ≢ cell). apart c d h k ne (other c h c-other is) (other d k d-other is'))
    (cases_eq d cell))
    (cases_eq c cell)
  where
    at_here : (e : ℕ) (q : Head) → e ≡ cell → in_cell (set heads cell new) e ≡ Some q → new ≡ Some q
    at_here e q here is = sym (get_or-set_same heads cell new None in_range) ∙ ap (λ (j : ℕ). in_cell (set heads cell new) j) (sym here) ∙ is

    other : (e : ℕ) (q : Head) → e ≢ cell → in_cell (set heads cell new) e ≡ Some q → in_cell heads e ≡ Some q
    other e q ne is = sym (get_or-set_other heads cell e new None ne) ∙ is

module _ (cells : List (Option Rec)) (held : Records) (cell : ℕ) (new : Option Rec) (in_range : cell < length cells) (goes : (h : Head) → head_in new ≡ Some h → Goes (heads_of cells) cell h) (made : Made cells held) where
  abbrev was : Option Head
  was = in_cell (heads_of cells) cell

  abbrev after : List (Option Rec)
  after = set cells cell new

  here : in_cell after cell ≡ new
  here = get_or-set_same cells cell new None in_range

  at_here : (c : ℕ) → c ≡ cell → in_cell after c ≡ new
  at_here c is = ap (λ (d : ℕ). in_cell after d) is ∙ here

  other : (c : ℕ) → c ≢ cell → in_cell after c ≡ in_cell cells c
  other c ne = get_or-set_other cells cell c new None ne

  there : (key : Key) (stamp : ℕ) (r : Rec) → changed held was new key stamp ≡ Some r → (names (head_in new) key stamp ≡ true) ⊎ (names (head_in new) key stamp ≡ false) → (names was key stamp ≡ true) ⊎ (names was key stamp ≡ false) → (c : ℕ) × (in_cell after c ≡ Some r) × (r.head.key ≡ key) × (r.head.stamp ≡ stamp)
  there key stamp r is (inl hit) _ =
      let is_new : new ≡ Some r = sym (chosen (names (head_in new) key stamp) new (if names was key stamp then None else held key stamp) hit) ∙ is in
      let n = named (head_in new) key stamp hit in
      let own : Some n.0 ≡ Some r.head = sym n.1 ∙ ap head_in is_new in
      let same : n.0 ≡ r.head = cc in
      (cell, here ∙ is_new, ap (λ (q : Head). q.key) (sym same) ∙ n.2, ap (λ (q : Head). q.stamp) (sym same) ∙ n.3)
  there key stamp r is (inr miss) (inl hit) =
      let none : None ≡ Some r = sym (chosen (names was key stamp) None (held key stamp) hit) ∙ sym (passed (names (head_in new) key stamp) new (if names was key stamp then None else held key stamp) miss) ∙ is in
      absurd (cc)
  there key stamp r is (inr miss) (inr miss') =
      let old : held key stamp ≡ Some r = sym (passed (names was key stamp) None (held key stamp) miss') ∙ sym (passed (names (head_in new) key stamp) new (if names was key stamp then None else held key stamp) miss) ∙ is in
      let at = made.there key stamp r old in
      let ne : at.0 ≢ cell = λ same.
      let head_is : was ≡ Some r.head = ap (λ (d : ℕ). in_cell (heads_of cells) d) (sym same) ∙ has_head cells at.0 r at.1 in
      let hit : names was key stamp ≡ true = ap (λ (o : Option Head). names o key stamp) head_is ∙ subst (λ (k : Key). names (Some r.head) k stamp ≡ true) at.2 (subst (λ (t : ℕ). names (Some r.head) r.head.key t ≡ true) at.3 (names_own r.head)) in
      absurd (cc) in
      (at.0, other at.0 ne ∙ at.1, at.2, at.3)

  only : (c : ℕ) (r : Rec) → in_cell after c ≡ Some r → (c ≡ cell) ⊎ (c ≢ cell) → (names (head_in new) r.head.key r.head.stamp ≡ true) ⊎ (names (head_in new) r.head.key r.head.stamp ≡ false) → (names was r.head.key r.head.stamp ≡ true) ⊎ (names was r.head.key r.head.stamp ≡ false) → changed held was new r.head.key r.head.stamp ≡ Some r
  only c r is (inl same) _ _ =
      let is_new : new ≡ Some r = sym (at_here c same) ∙ is in
      let hit : names (head_in new) r.head.key r.head.stamp ≡ true = ap (λ (o : Option Rec). names (head_in o) r.head.key r.head.stamp) is_new ∙ names_own r.head in
      chosen (names (head_in new) r.head.key r.head.stamp) new (if names was r.head.key r.head.stamp then None else held r.head.key r.head.stamp) hit ∙ is_new
  only c r is (inr ne) (inl hit) _ =
      let n = named (head_in new) r.head.key r.head.stamp hit in
      let t = goes_from (heads_of cells) cell n.0 (goes n.0 n.1) c r.head ne (has_head cells c r (sym (other c ne) ∙ is)) in
      absurd (t.two_stamps n.2 n.3)
  only c r is (inr ne) (inr miss) (inl hit) =
      let n = named was r.head.key r.head.stamp hit in
      let t = made.apart cell c n.0 r.head (λ same. ne (sym same)) n.1 (has_head cells c r (sym (other c ne) ∙ is)) in
      absurd (t.two_stamps n.2 n.3)
  only c r is (inr ne) (inr miss) (inr miss') =
      passed (names (head_in new) r.head.key r.head.stamp) new (if names was r.head.key r.head.stamp then None else held r.head.key r.head.stamp) miss
      ∙ passed (names was r.head.key r.head.stamp) None (held r.head.key r.head.stamp) miss'
      ∙ made.only c r (sym (other c ne) ∙ is)

  pub made_set : Made (set cells cell new) (changed held was new)
  made_set = record {
    there = λ key stamp r is. there key stamp r is (bool_cases (names (head_in new) key stamp)) (bool_cases (names was key stamp));
    only = λ c r is. only c r is (cases_eq c cell) (bool_cases (names (head_in new) r.head.key r.head.stamp)) (bool_cases (names was r.head.key r.head.stamp));
    apart = subst Apart (sym (map-set head_in cells cell new)) (apart-set (heads_of cells) cell (head_in new) (omega (arith, length-map cells head_in)) goes made.apart);
  }

-- cells that hold nothing make the empty map
pub made_nothing : (cells : List (Option Rec)) → ((c : ℕ) → in_cell cells c ≡ None) → Made cells nothing
made_nothing cells empty = record {
  there = λ key stamp r is. absurd (cc);
  only = λ c r is. let none : None ≡ Some r = sym (empty c) ∙ is in absurd (cc);
  apart = λ c d h k ne is is'. let none : None ≡ Some h = sym (ap head_in (empty c)) ∙ sym (head_in-cell cells c) ∙ is in absurd (cc);
}

-- any head may go where nothing is held
pub goes_alone : (heads : List (Option Head)) (cell : ℕ) (h : Head) → ((d : ℕ) → in_cell heads d ≡ None) → Goes heads cell h
goes_alone heads cell h empty = record {
  no_other_pair = λ d k is. let none : None ≡ Some k = sym (empty d) ∙ is in absurd (cc);
  one_key = λ d k ne is pair. let none : None ≡ Some k = sym (empty d) ∙ is in absurd (cc);
  two_stamps = λ d k ne is pair. let none : None ≡ Some k = sym (empty d) ∙ is in absurd (cc);
}
