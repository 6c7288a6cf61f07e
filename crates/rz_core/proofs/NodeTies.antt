-- A node whose state is the one that the log gives: what each says of the other.
use Rattle.std.proofs.Common.{ℕ, zero, suc, Bool, true, false, not, ◌==◌, ◌&&◌, ◌||◌, ◌≡◌, inl, inr, ◌≤◌, ◌<◌, ◌-◌, ◌^◌, nat_le, T, List, [], ◌∷◌, map, length, take, Option, Some, None, cond, refl, sym, ◌∙◌, ap, ap₂, subst, arith, is_some}
use Rattle.std.specs.Option.{option_map}
use Rattle.std.specs.List.{AllByRecursion, list_any}
use Rattle.std.specs.FinMap as maps
use Rattle.std.specs.FinMap.Entries.{below_all, is_sorted}
use Rattle.std.specs.Ordering.{eq_by_cmp}
use Rattle.std.proofs.Math.Path.{fun_ext}
use Rattle.std.proofs.lemmas.Bool.{eqb-true, eqb-false, and_parts, leb-true, leb-false}
use Rattle.std.proofs.lemmas.List.{length-map, length-take-le}
use Rattle.rz_events.specs.Volume.{Volume}
use Rattle.rz_events.specs.declared.keys.Key.{Key}
use Rattle.rz_events.specs.declared.records.Held.{Held}
use Rattle.rz_events.specs.declared.records.Head.{Head}
use Rattle.rz_events.specs.declared.records.Change.{Change}
use Rattle.rz_events.specs.declared.records.Change.TheVariants as change
use Rattle.rz_events.specs.declared.events.Word.TheVariants.{Node}
use Rattle.rz_events.specs.declared.events.Event.{Event}
use Rattle.rz_events.specs.declared.events.Event.TheVariants as e
use Rattle.rz_events.specs.Keys.{key_cmp}
use Rattle.rz_events.specs.Events.{by_of, word_of, same_key}
use Rattle.rz_node_model.specs.Versions.{kept, refilled, without, IsAbove, Stands, IsHeld, passes_keep, passes_refill}
use Rattle.rz_node_model.specs.Records.{Records, listed, held_of, with_held, IsWhole, stamp_of, base_of, found, record_of, carried}
use Rattle.rz_node_model.specs.States.{NodeState}
use Rattle.rz_node_model.specs.Answers.{is_full}
use Rattle.rz_node_model.proofs.VersionLaws.{kept-map, refilled-map, without-map, passes_keep-map, passes_refill-map, keep-above}
use Rattle.rz_node_model.proofs.RecordLaws.{tie-same_key, held_of-with_held, whole-with_held}
use Rattle.rz_core.specs.History.{Facts, facts, wrote, places_of, begun_by, placed_by, first_some, of_word, of_actor, length_in, base_in}
use Rattle.rz_core.specs.NodeWord.{phase, losses, last_fence, undecided, held, base_begun, changed, itself}
use Rattle.rz_core.specs.ExportRows.{IsLess}
use Rattle.rz_core.specs.NodeRows.{cells_of, IsNodeOf, IsAmong, IsRising, IsFull, HasCell, IsRecordTold}
use Rattle.rz_core.specs.Legal.{Row, HasWord}
use Rattle.rz_core.specs.Tied.{record_in, pending_in, IsNode, IsOfWrite, IsNodeStep}
use Rattle.rz_core.proofs.Extends.{IsKnown, Knows, held-known}
use Rattle.rz_core.proofs.Stamps.{same_key-true, same_key-refl}
use Rattle.rz_core.proofs.NodeLaws.{node, IsPair, at-own}
use Rattle.rz_core.proofs.Keys.{less-is}

-- an event that begins no write and makes no file
pub record IsSilent (x : Event) : Type 0 where
  pub begins : (s : ℕ) → begun_by s x ≡ None
  pub makes : (fid : ℕ) → placed_by fid x ≡ None

first_none : {A : Type 0} (a : Option A) → first_some a None ≡ a
first_none None = refl
first_none (Some a) = refl

pub same-facts : (x : Event) (h : List Event) → IsSilent x → facts (x ∷ h) ≡ facts h
same-facts x h q =
    let w : wrote (x ∷ h) ≡ wrote h = fun_ext (λ s. ap (first_some (wrote h s)) (q.begins s) ∙ first_none (wrote h s)) in
    let p : places_of (x ∷ h) ≡ places_of h = fun_ext (λ fid. ap (first_some (places_of h fid)) (q.makes fid) ∙ first_none (places_of h fid)) in
    ap₂ (λ a b. let f : Facts = record { wrote = a; places = b } in f) w p

-- no row of a node's word looks at the run
any_run : (v : Volume) (f : Facts) (w o run : List Event) (n : ℕ) (x : Event) → word_of x ≡ Node n → Row v f w o [] x → Row v f w o run x
any_run v f w o run n (e.Missed by m reply) is r = cc
any_run v f w o run n (e.Got by number key part end) is r = cc
any_run v f w o run n (e.Gave by number key part end) is r = cc
any_run v f w o run n (e.Done by number answer) is r = cc
any_run v f w o run n _ is r = r

-- an allowed event of a node of the volume, and the state after it
pub step : (v : Volume) (h : List Event) (n : ℕ) (x : Event) (after : NodeState) → word_of x ≡ Node n → IsSilent x → IsNodeOf v n → length (node n h) < 2 ^ 64 - 1
    → Row v (facts h) (node n h) (of_actor (by_of x) h) [] x → IsNode (facts h) (x ∷ node n h) after → IsNodeStep v h n x after
step v h n x after is silent there room row tied = record {
  allowed = λ run. record {
    room = subst (λ w. length (of_word w h) < 2 ^ 64 - 1) (sym is) room;
    word = subst (HasWord v) (sym is) there;
    row = subst (λ w. Row v (facts h) (of_word w h) (of_actor (by_of x) h) run x) (sym is) (any_run v (facts h) (node n h) (of_actor (by_of x) h) run n x is row);
  };
  tied = subst (λ f. IsNode f (node n (x ∷ h)) after) (sym (same-facts x h silent)) (at-own x h n (λ w. IsNode (facts h) w after) is tied);
}

-- an event that leaves all as it was
pub idle : (f : Facts) (w w2 : List Event) (s : NodeState) → phase w2 ≡ phase w → last_fence w2 ≡ last_fence w → losses w2 ≡ losses w
    → ((key : Key) → held f w2 key ≡ held f w key) → undecided w2 ≡ undecided w → IsNode f w s → IsNode f w2 s
idle f w w2 s p g l k u t = record {
  phase_is = t.phase_is ∙ sym p;
  fence_is = t.fence_is ∙ sym g;
  losses_is = t.losses_is ∙ sym l;
  held_is = λ key. t.held_is key ∙ ap (map (record_in f)) (sym (k key));
  whole = t.whole;
  undecided_is = t.undecided_is ∙ ap (option_map (pending_in f)) (sym u);
}

-- the record of a head is that of its write
pub same-record : (f : Facts) (head : Head) → IsOfWrite f head → record_of head ≡ record_in f head.stamp
same-record f head w = ap₂ (λ l b. let r : Held = record { stamp = head.stamp; length = l; base = b } in r) w.0 w.1

-- a change leaves in the records what it leaves in the log
chosen : (f : Facts) (t : Bool) (a b : List ℕ) → cond t (map (record_in f) a) (map (record_in f) b) ≡ map (record_in f) (cond t a b)
chosen f true a b = refl
chosen f false a b = refl

with_key : (f : Facts) (w : List Event) (s : NodeState) → IsNode f w s → (key : Key) (rs : List Held) (new : List ℕ → List ℕ)
    → rs ≡ map (record_in f) (new (held f w key)) → (q : Key)
    → held_of (with_held s.held key rs) q ≡ map (record_in f) (cond (same_key q key) (new (held f w q)) (held f w q))
with_key f w s t key rs new are q = held_of-with_held s.held key rs q ∙ go (same_key q key) refl
  where
    go : (b : Bool) → same_key q key ≡ b → cond b rs (held_of s.held q) ≡ map (record_in f) (cond b (new (held f w q)) (held f w q))
    go true is = are ∙ ap (λ k. map (record_in f) (new (held f w k))) (sym (same_key-true q key is))
    go false is = t.held_is q

pub carried-ties : (f : Facts) (w : List Event) (s : NodeState) → IsNode f w s → (c : Change) (q : Key)
    → held_of (carried (pending_in f c) s.held) q ≡ map (record_in f) (changed f q c (held f w q))
carried-ties f w s t (change.Keep key stamp position) q =
    with_key f w s t key (kept stamp_of (base_begun f stamp) (record_in f stamp) (held_of s.held key)) (kept itself (base_begun f stamp) stamp)
    (ap (kept stamp_of (base_begun f stamp) (record_in f stamp)) (t.held_is key) ∙ kept-map (record_in f) itself stamp_of (λ a. refl) (base_begun f stamp) stamp (held f w key)) q
carried-ties f w s t (change.Refill fence key stamp position) q =
    with_key f w s t key (refilled stamp_of (record_in f stamp) (held_of s.held key)) (refilled itself stamp)
    (ap (refilled stamp_of (record_in f stamp)) (t.held_is key) ∙ refilled-map (record_in f) itself stamp_of (λ a. refl) stamp (held f w key)) q
carried-ties f w s t (change.Drop key stamp) q =
    with_key f w s t key (without stamp_of stamp (held_of s.held key)) (without itself stamp)
    (ap (without stamp_of stamp) (t.held_is key) ∙ without-map (record_in f) itself stamp_of (λ a. refl) stamp (held f w key)) q

pub whole-carried : (f : Facts) (c : Change) (records : Records) → IsWhole records → IsWhole (carried (pending_in f c) records)
whole-carried f (change.Keep key stamp position) records whole = whole-with_held records key _ whole
whole-carried f (change.Refill fence key stamp position) records whole = whole-with_held records key _ whole
whole-carried f (change.Drop key stamp) records whole = whole-with_held records key _ whole

-- keeps and refills that are passed over or not
pub keep-passes : (f : Facts) (w : List Event) (s : NodeState) → IsNode f w s → (key : Key) (stamp : ℕ)
    → passes_keep stamp_of stamp (held_of s.held key) ≡ passes_keep itself stamp (held f w key)
keep-passes f w s t key stamp =
    ap (passes_keep stamp_of stamp) (t.held_is key) ∙ passes_keep-map (record_in f) itself stamp_of (λ a. refl) stamp (held f w key)

pub refill-passes : (f : Facts) (w : List Event) (s : NodeState) → IsNode f w s → (key : Key) (stamp : ℕ)
    → passes_refill stamp_of base_of stamp (held_of s.held key) ≡ passes_refill itself (base_begun f) stamp (held f w key)
refill-passes f w s t key stamp =
    ap (passes_refill stamp_of base_of stamp) (t.held_is key)
    ∙ passes_refill-map (record_in f) itself stamp_of (λ a. refl) (base_begun f) base_of (λ a. refl) stamp (held f w key)

pub above-all : (stamp : ℕ) (now : List ℕ) → IsPair now → passes_keep itself stamp now ≡ None → IsAbove stamp now
above-all stamp [] p q = tt
above-all stamp (a ∷ []) p q = (keep-above stamp a [] q, tt)
above-all stamp (a ∷ b ∷ []) p q = let k = keep-above stamp a (b ∷ []) q in (k, (omega (arith, k, p), tt))
above-all stamp (a ∷ b ∷ c ∷ more) p q = absurd p

-- what is held, in the map of records
nonempty : (f : Facts) (now : List ℕ) (r : Held) (rs : List Held) → (r ∷ rs) ≡ map (record_in f) now → IsHeld now
nonempty f [] r rs q = cc
nonempty f (a ∷ now) r rs q = tt

pub there-held : (f : Facts) (w : List Event) (s : NodeState) → IsNode f w s → (key : Key) → maps.contains_key s.held key ≡ true → IsHeld (held f w key)
there-held f w s t key there = go (maps.get s.held key) refl there (t.held_is key)
  where
    go : (o : Option (List Held)) → maps.get s.held key ≡ o → is_some o ≡ true → listed o ≡ map (record_in f) (held f w key) → IsHeld (held f w key)
    go None q there is = cc
    go (Some []) q there is = absurd (t.whole key q)
    go (Some (r ∷ rs)) q there is = nonempty f (held f w key) r rs is

pub held-there : (f : Facts) (w : List Event) (s : NodeState) → IsNode f w s → (key : Key) → IsHeld (held f w key) → maps.contains_key s.held key ≡ true
held-there f w s t key some = go (maps.get s.held key) (held f w key) some (t.held_is key)
  where
    go : (o : Option (List Held)) (now : List ℕ) → IsHeld now → listed o ≡ map (record_in f) now → is_some o ≡ true
    go (Some rs) now some is = refl
    go None [] some is = absurd some
    go None (a ∷ now) some is = cc

-- the keys of the map
any_among : (q : Key) (ks : List Key) → list_any (eq_by_cmp key_cmp q) ks ≡ true → IsAmong q ks
any_among q [] a = cc
any_among q (k ∷ ks) a = go (any_among q ks) (eq_by_cmp key_cmp q k) refl (list_any (eq_by_cmp key_cmp q) ks) refl a
  where
    go : (list_any (eq_by_cmp key_cmp q) ks ≡ true → IsAmong q ks) → (t : Bool) → eq_by_cmp key_cmp q k ≡ t → (u : Bool) → list_any (eq_by_cmp key_cmp q) ks ≡ u
        → (t || u) ≡ true → IsAmong q (k ∷ ks)
    go rest true p u m a = inl (sym (same_key-true q k (sym (tie-same_key q k) ∙ p)))
    go rest false p true m a = inr (rest m)
    go rest false p false m a = cc

pub held-among : (f : Facts) (w : List Event) (s : NodeState) → IsNode f w s → (key : Key) → IsHeld (held f w key) → IsAmong key (maps.keys s.held)
held-among f w s t key some =
    any_among key (maps.keys s.held) (sym (maps.contains_key-keys s.held key) ∙ held-there f w s t key some)

keys_len : (records : Records) → length (maps.keys records) ≡ maps.len records
keys_len records = length-map (maps.entries records) (λ x. x.0) ∙ sym (maps.len-entries records)

pub has-cell : (v : Volume) (f : Facts) (w : List Event) (n : ℕ) (s : NodeState) → IsNode f w s → (key : Key) → is_full (cells_of v n) s.held key ≡ false → HasCell v f w n key
has-cell v f w n s t key not_full = go (maps.contains_key s.held key) refl (nat_le (cells_of v n) (maps.len s.held)) refl not_full
  where
    go : (c : Bool) → maps.contains_key s.held key ≡ c → (m : Bool) → nat_le (cells_of v n) (maps.len s.held) ≡ m → (not c && m) ≡ false → HasCell v f w n key
    go true c m l q = inl (there-held f w s t key c)
    go false c false l q = inr (record {
      keys = maps.keys s.held;
      all = λ k some. held-among f w s t k some;
      few = subst (λ z. z < cells_of v n) (sym (keys_len s.held)) (leb-false _ _ l);
    })
    go false c true l q = cc

-- they rise
T_true : (b : Bool) → T b → b ≡ true
T_true true h = refl
T_true false h = absurd h

below_keys : {X : Type 0} (a : Key) (es : List (Key × X)) → below_all key_cmp a es ≡ true → AllByRecursion (λ b. IsLess a b) (map (λ x. x.0) es)
below_keys a [] h = tt
below_keys a (x ∷ es) h = let p = and_parts _ _ h in (less-is a x.0 p.0, below_keys a es p.1)

sorted_keys : {X : Type 0} (es : List (Key × X)) → is_sorted key_cmp es ≡ true → IsRising (map (λ x. x.0) es)
sorted_keys [] h = tt
sorted_keys (x ∷ es) h = let p = and_parts _ _ h in (below_keys x.0 es p.0, sorted_keys es p.1)

pub keys-rise : (records : Records) → IsRising (maps.keys records)
keys-rise records = sorted_keys (maps.entries records) (T_true _ (maps.entries_sorted records))

-- a node that is full holds as many keys as it has cells
all_take : (P : Key → Type 0) (i : ℕ) (ks : List Key) → AllByRecursion P ks → AllByRecursion P (take i ks)
all_take P zero ks all = tt
all_take P (suc i) [] all = tt
all_take P (suc i) (k ∷ ks) all = (all.0, all_take P i ks all.1)

rising_take : (i : ℕ) (ks : List Key) → IsRising ks → IsRising (take i ks)
rising_take zero ks r = tt
rising_take (suc i) [] r = tt
rising_take (suc i) (k ∷ ks) r = (all_take (λ b. IsLess k b) i ks r.0, rising_take i ks r.1)

all_any : (P : Key → Type 0) (ks : List Key) → ((k : Key) → IsAmong k ks → P k) → AllByRecursion P ks
all_any P [] each = tt
all_any P (k ∷ ks) each = (each k (inl refl), all_any P ks (λ q among. each q (inr among)))

or_left : (a b : Bool) → a ≡ true → (a || b) ≡ true
or_left true b q = refl
or_left false b q = cc

or_right : (a b : Bool) → b ≡ true → (a || b) ≡ true
or_right true b q = refl
or_right false b q = q

among_any : (q : Key) (ks : List Key) → IsAmong q ks → list_any (eq_by_cmp key_cmp q) ks ≡ true
among_any q [] a = absurd a
among_any q (k ∷ ks) (inl is) = or_left _ _ (tie-same_key q k ∙ subst (λ z. same_key q z ≡ true) (sym is) (same_key-refl q))
among_any q (k ∷ ks) (inr a) = or_right _ _ (among_any q ks a)

pub among-held : (f : Facts) (w : List Event) (s : NodeState) → IsNode f w s → (key : Key) → IsAmong key (maps.keys s.held) → IsHeld (held f w key)
among-held f w s t key among = there-held f w s t key (maps.contains_key-keys s.held key ∙ among_any key (maps.keys s.held) among)

pub full-cells : (v : Volume) (f : Facts) (w : List Event) (n : ℕ) (s : NodeState) → IsNode f w s → (key : Key) → is_full (cells_of v n) s.held key ≡ true → IsFull v f w n
full-cells v f w n s t key full = record {
  keys = take (cells_of v n) (maps.keys s.held);
  distinct = rising_take (cells_of v n) (maps.keys s.held) (keys-rise s.held);
  all = all_take (λ k. IsHeld (held f w k)) (cells_of v n) (maps.keys s.held) (all_any (λ k. IsHeld (held f w k)) (maps.keys s.held) (λ k among. among-held f w s t k among));
  many = length-take-le (cells_of v n) (maps.keys s.held) (subst (λ z. cells_of v n ≤ z) (sym (keys_len s.held)) (leb-true _ _ (and_parts _ _ full).1));
}

-- a record that is found
record_found : (f : Facts) (stamp : ℕ) (now : List ℕ) (r : Held) → found stamp (map (record_in f) now) ≡ Some r → Stands stamp now × (r ≡ record_in f stamp)
record_found f stamp [] r q = cc
record_found f stamp (a ∷ now) r q = go (record_found f stamp now r) (a == stamp) refl q
  where
    go : (found stamp (map (record_in f) now) ≡ Some r → Stands stamp now × (r ≡ record_in f stamp)) → (t : Bool) → (a == stamp) ≡ t
        → cond t (Some (record_in f a)) (found stamp (map (record_in f) now)) ≡ Some r → Stands stamp (a ∷ now) × (r ≡ record_in f stamp)
    go rest true is q =
        let here = eqb-true a stamp is in
        let same : record_in f a ≡ r = cc in
        (inl here, sym same ∙ ap (record_in f) here)
    go rest false is q = let i = rest q in (inr i.0, i.1)

none_found : (f : Facts) (stamp : ℕ) (now : List ℕ) → found stamp (map (record_in f) now) ≡ None → ¬ Stands stamp now
none_found f stamp [] q there = there
none_found f stamp (a ∷ now) q there = go (none_found f stamp now) (a == stamp) refl q there
  where
    go : (found stamp (map (record_in f) now) ≡ None → ¬ Stands stamp now) → (t : Bool) → (a == stamp) ≡ t
        → cond t (Some (record_in f a)) (found stamp (map (record_in f) now)) ≡ None → Stands stamp (a ∷ now) → ⊥
    go rest true is q there = cc
    go rest false is q (inl here) = eqb-false a stamp is here
    go rest false is q (inr there) = rest q there

known_stands : (f : Facts) (stamp : ℕ) (now : List ℕ) → AllByRecursion (IsKnown f) now → Stands stamp now → IsKnown f stamp
known_stands f stamp [] k there = absurd there
known_stands f stamp (a ∷ now) k (inl here) = subst (IsKnown f) here k.0
known_stands f stamp (a ∷ now) k (inr there) = known_stands f stamp now k.1 there

pub answer-some : (f : Facts) (w : List Event) (s : NodeState) → IsNode f w s → AllByRecursion (Knows f) w → (key : Key) (stamp : ℕ) (r : Held)
    → found stamp (held_of s.held key) ≡ Some r → IsRecordTold f stamp (held f w key) (Some r)
answer-some f w s t k key stamp r q =
    let i = record_found f stamp (held f w key) r (ap (found stamp) (sym (t.held_is key)) ∙ q) in
    let b = known_stands f stamp (held f w key) (held-known f w key k) i.0 in (
      i.0,
      (
        b.0,
        record {
          found = b.1;
          stamp = ap (λ (z : Held). z.stamp) i.1;
          length = ap (λ (z : Held). z.length) i.1 ∙ ap length_in b.1;
          base = ap (λ (z : Held). z.base) i.1 ∙ ap base_in b.1;
        },
      ),
    )

pub answer-none : (f : Facts) (w : List Event) (s : NodeState) → IsNode f w s → (key : Key) (stamp : ℕ)
    → found stamp (held_of s.held key) ≡ None → IsRecordTold f stamp (held f w key) None
answer-none f w s t key stamp q = none_found f stamp (held f w key) (ap (found stamp) (sym (t.held_is key)) ∙ q)
