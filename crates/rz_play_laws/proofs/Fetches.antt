-- One outcome more of the read of a block.
use Rattle.std.proofs.Common.{◌≡◌, ◌≢◌, ℕ, zero, suc, ◌==◌, ◌+◌, ◌-◌, ◌^◌, ◌<◌, ◌≤◌, w16, Bool, true, false, cond, List, [], ◌∷◌, ◌++◌, length, get_or, set, replicate, refl, sym, ◌∙◌, ap, subst, arith, Some, bit_and}
use Rattle.std.specs.Prelude.{count_by, slice_get, bit_xor}
use Rattle.std.specs.List.{AllByRecursion}
use Rattle.std.specs.Int.{bit_at}
use Rattle.std.specs.Int.Count.{count_trailing_zeros}
use Rattle.std.proofs.lemmas.Bool.{eqb-true, eq-eqb}
use Rattle.std.proofs.lemmas.Nat.{and_le_l, xor_lt}
use Rattle.std.proofs.lemmas.Nat.Bits.{bit_at-zero, bit_at-trailing_zeros, bit_at_and, bit_at_xor, bit_at-pow_other, bit_at-pow_same, bit_at-lt, bit_at_ones}
use Rattle.std.proofs.Math.Pow.{pow_mono, pow-lt, pow-sub-lt}
use Rattle.std.proofs.lemmas.List.{get_or-set_same, get_or-set_other}
use Rattle.std.proofs.lemmas.List.Sums.{sum_by-set, sum_by-cons}
use Rattle.mj_angles.specs.declared.layout.Layout.{Layout}
use Rattle.mj_angles.specs.Layout.{inverse_of, safe_of}
use Rattle.rz_events.specs.Volume.{Volume}
use Rattle.rz_events.specs.declared.keys.Key.{Key}
use Rattle.rz_events.specs.declared.ends.Seen.{Seen}
use Rattle.rz_events.specs.declared.ends.Seen.TheVariants as seen
use Rattle.rz_events.specs.declared.events.Event.{Event}
use Rattle.rz_events.specs.declared.files.Published.{Published}
use Rattle.rz_safety.proofs.PositionLaws.{seens-same}
use Rattle.rz_node_model.specs.Versions.{Stands}
use Rattle.rz_core.specs.History.{Facts, Begun}
use Rattle.rz_core.specs.Own.{is_recheck, since, fetched_at, IsFalling, HasDistinct}
use Rattle.rz_play_laws.proofs.Words.{skip-since}
use Rattle.rz_core.specs.Outcomes.{IsShort, seens, seen_at, is_held, is_asked}
use Rattle.rz_core.proofs.Extends.{Extends}
use Rattle.rz_client_model.specs.declared.reading.Fetches.{Fetches}
use Rattle.rz_client_model.specs.Read.{next_position, none_fetched}
use Rattle.rz_play_laws.specs.Own.{IsPlacing, IsFetching}
use Rattle.rz_client_model.proofs.Masks.{in-below, safe-few}

-- A table in which one outcome changes.

seens-set : (key : Key) (s : ℕ) (new old : List Event) (i : ℕ) (places : List ℕ) (r : ℕ) (w : Seen) → r < length places
    → ((n : ℕ) → slice_get places r ≡ Some n → seen_at key s n new ≡ w)
    → ((q n : ℕ) → q ≢ r → slice_get places q ≡ Some n → seen_at key s n new ≡ seen_at key s n old)
    → seens key s new i places ≡ set (seens key s old i places) r w
seens-set key s new old i [] r w low here same = absurd (omega arith)
seens-set key s new old i (n ∷ places) zero w low here same =
    ap (λ x. x ∷ seens key s new (i + 1) places) (here n refl)
    ∙ ap (λ ws. w ∷ ws) (seens-same key s new old (i + 1) places (λ q m at. same (suc q) m (λ k. omega (arith, k)) at))
seens-set key s new old i (n ∷ places) (suc r) w low here same =
    ap (λ x. x ∷ seens key s new (i + 1) places) (same 0 n (λ k. omega (arith, k)) refl)
    ∙ ap (λ ws. seen_at key s n old ∷ ws) (seens-set key s new old (i + 1) places r w (omega (arith, low)) (λ m at. here m at)
    (λ q m other at. same (suc q) m (λ k. other (omega (arith, k))) at))

seens-none : (key : Key) (s i : ℕ) (places : List ℕ) (k : ℕ) → i + length places ≤ 16 → k ≡ 16 - i → seens key s [] i places ≡ replicate k seen.NotAsked
seens-none key s i [] k few is = ap (λ n. replicate n seen.NotAsked) (sym is)
seens-none key s i (n ∷ places) zero few is = absurd (omega arith)
seens-none key s i (n ∷ places) (suc k) few is = ap (λ ws. seen.NotAsked ∷ ws) (seens-none key s (i + 1) places k (omega arith) (omega arith))

seens-long : (key : Key) (s : ℕ) (o : List Event) (i : ℕ) (places : List ℕ) → length places ≤ length (seens key s o i places)
seens-long key s o i [] = omega arith
seens-long key s o i (n ∷ places) = let more = seens-long key s o (i + 1) places in omega arith

none-seen : (k p : ℕ) → get_or (replicate k seen.NotAsked) p seen.NotAsked ≡ seen.NotAsked
none-seen zero p = refl
none-seen (suc k) zero = refl
none-seen (suc k) (suc p) = none-seen k p

-- each node was asked, where the table says so
pub all-asked : (key : Key) (s : ℕ) (o : List Event) (i : ℕ) (places : List ℕ)
    → ((p : ℕ) → p < length places → is_asked (get_or (seens key s o i places) p seen.NotAsked) ≡ true)
    → AllByRecursion (λ n. is_asked (seen_at key s n o) ≡ true) places
all-asked key s o i [] asked = tt
all-asked key s o i (n ∷ places) asked =
    (asked 0 (omega arith), all-asked key s o (i + 1) places (λ p low. asked (suc p) (omega (arith, low))))

-- nothing was asked
nobody-asked : (key : Key) (s : ℕ) (places : List ℕ) → AllByRecursion (λ n. is_asked (seen_at key s n []) ≡ false) places
nobody-asked key s [] = tt
nobody-asked key s (n ∷ places) = (refl, nobody-asked key s places)

-- Each position was asked, and too few records came: so it is after a recheck x.
pub short-now : (v : Volume) (f g : Facts) → Extends f g → (o : List Event) (start : Event → Bool) (key : Key) (places : List ℕ) → IsPlacing v f key.fid places
    → (t : Fetches) → IsFetching v f o start key places t → t.left ≡ 0 → (x : Event) → start x ≡ false → since is_recheck (x ∷ o) ≡ []
    → ((n : ℕ) (os : List Event) → seen_at key t.stamp n (x ∷ os) ≡ seen_at key t.stamp n os) → IsShort v g start (x ∷ o) key t.stamp t.seen
short-now v f g ext o start key places placing t h none x not_it again quiet = record {
  places = places;
  placed = ext.places key.fid places placing.placed;
  asked = all-asked key t.stamp (since start (x ∷ o)) 0 places
      (λ p low. subst (λ (ws : List Seen). is_asked (get_or ws p seen.NotAsked) ≡ true) table
      (h.asked p (subst (λ n. p < n) placing.many low) (ap (λ m. bit_at m p) none ∙ bit_at-zero p)));
  told_is = table;
  few = (let k = h.given_is in let few = h.few in omega (arith, k, few));
  ended = subst (λ (z : List Event). AllByRecursion (λ n. is_asked (seen_at key t.stamp n z) ≡ false) places) (sym again) (nobody-asked key t.stamp places);
}
  where
    table : t.seen ≡ seens key t.stamp (since start (x ∷ o)) 0 places
    table =
        h.seen_is ∙ sym (seens-same key t.stamp (x ∷ since start o) (since start o) 0 places (λ q n at. quiet n (since start o)))
        ∙ ap (λ (z : List Event). seens key t.stamp z 0 places) (sym (skip-since start x o not_it))

-- Distinct positions of a table.

falling-push : (ps : List ℕ) (i : ℕ) → IsFalling ps → AllByRecursion (λ p. i < p) ps → IsFalling (ps ++ i ∷ [])
falling-push [] i falling above = (tt, tt)
falling-push (p ∷ ps) i falling above = (pushed ps falling.0, falling-push ps i falling.1 above.1)
  where
    pushed : (qs : List ℕ) → AllByRecursion (λ q. q < p) qs → AllByRecursion (λ q. q < p) (qs ++ i ∷ [])
    pushed [] all = (above.0, tt)
    pushed (q ∷ qs) all = (all.0, pushed qs all.1)

all-push : (P : ℕ → Type 0) (ps : List ℕ) (i : ℕ) → AllByRecursion P ps → P i → AllByRecursion P (ps ++ i ∷ [])
all-push P [] i all here = (here, tt)
all-push P (p ∷ ps) i all here = (all.0, all-push P ps i all.1 here)

all-lower : (ps : List ℕ) (i : ℕ) → AllByRecursion (λ p. i + 1 ≤ p) ps → AllByRecursion (λ p. i < p) ps
all-lower [] i all = tt
all-lower (p ∷ ps) i all = ((let l = all.0 in omega (arith, l)), all-lower ps i all.1)

all-least : (ps : List ℕ) (i : ℕ) → AllByRecursion (λ p. i + 1 ≤ p) ps → AllByRecursion (λ p. i ≤ p) ps
all-least [] i all = tt
all-least (p ∷ ps) i all = ((let l = all.0 in omega (arith, l)), all-least ps i all.1)

long-push : (ps : List ℕ) (i : ℕ) → length (ps ++ i ∷ []) ≡ length ps + 1
long-push [] i = omega arith
long-push (p ∷ ps) i = let l = long-push ps i in omega (arith, l)

-- the held positions of a table whose first position is i
record Picked (given : List ℕ) (i : ℕ) (ws : List Seen) : Type 0 where
  ps : List ℕ
  falling : IsFalling ps
  many : length ps ≡ count_by is_held ws
  stand : AllByRecursion (λ p. Stands p given) ps
  least : AllByRecursion (λ p. i ≤ p) ps

picked : (given : List ℕ) (i : ℕ) (ws : List Seen) → ((p : ℕ) → is_held (get_or ws p seen.NotAsked) ≡ true → Stands (i + p) given) → Picked given i ws
picked given i [] stands = record { ps = []; falling = tt; many = refl; stand = tt; least = tt }
picked given i (w ∷ ws) stands =
    go (is_held w) refl
    (picked given (i + 1) ws (λ p held. (let next : i + suc p ≡ (i + 1) + p = omega arith in subst (λ z. Stands z given) next (stands (suc p) held))))
  where
    go : (b : Bool) → is_held w ≡ b → Picked given (i + 1) ws → Picked given i (w ∷ ws)
    go true is r =
        let first : i + 0 ≡ i = omega arith in
        let m = r.many in
        let l = long-push r.ps i in
        let c = sum_by-cons (λ x. cond (is_held x) 1 0) w ws in
        let one : ◌≡◌ {A = ℕ} (cond (is_held w) 1 0) 1 = ap (λ b. cond {A = ℕ} b 1 0) is in
        record {
          ps = r.ps ++ i ∷ [];
          falling = falling-push r.ps i r.falling (all-lower r.ps i r.least);
          many = omega (arith, m, l, c, one);
          stand = all-push (λ p. Stands p given) r.ps i r.stand (subst (λ z. Stands z given) first (stands 0 is));
          least = all-push (λ p. i ≤ p) r.ps i (all-least r.ps i r.least) (omega arith);
        }
    go false is r =
        let m = r.many in
        let c = sum_by-cons (λ x. cond (is_held x) 1 0) w ws in
        let none : ◌≡◌ {A = ℕ} (cond (is_held w) 1 0) 0 = ap (λ b. cond {A = ℕ} b 1 0) is in
        record { ps = r.ps; falling = r.falling; many = omega (arith, m, c, none); stand = r.stand; least = all-least r.ps i r.least }

pub distinct : (given : List ℕ) (ws : List Seen) (n : ℕ) → ((p : ℕ) → is_held (get_or ws p seen.NotAsked) ≡ true → Stands p given) → count_by is_held ws ≡ n → HasDistinct n given
distinct given ws n stands many =
    let r = picked given 0 ws (λ p held. (let same : p ≡ 0 + p = omega arith in subst (λ z. Stands z given) same (stands p held))) in
    (r.ps, r.falling, r.many ∙ many, r.stand)

-- The position that comes next was not asked yet.

pub positive : (n : ℕ) → (n == 0) ≡ false → 0 < n
positive zero is = (let z : (0 == 0) ≡ true = eq-eqb 0 0 refl in cc)
positive (suc n) is = omega arith

next-left : (left mask n : ℕ) → 0 < left → left < 2 ^ n → n ≤ 16
    → bit_at left (count_trailing_zeros 16 (cond (bit_and left mask == 0) left (bit_and left mask))) ≡ 1
next-left left mask n some few most = go (bit_and left mask == 0) refl
  where
    small : left < 2 ^ 16
    small = omega (arith, few, pow_mono {i = n} {j = 16} most)

    go : (b : Bool) → (bit_and left mask == 0) ≡ b → bit_at left (count_trailing_zeros 16 (cond b left (bit_and left mask))) ≡ 1
    go true none = (bit_at-trailing_zeros w16 left some small).1
    go false has =
        let p = count_trailing_zeros 16 (bit_and left mask) in
        let there : 0 < bit_and left mask = positive (bit_and left mask) has in
        let least = bit_at-trailing_zeros w16 (bit_and left mask) there (omega (arith, and_le_l left mask, small)) in
        omega (arith, bit_at_and left mask p, least.1, bit_at-lt left p, bit_at-lt mask p)

-- Position p of the read has the outcome w by the events xs, none of which begins it.
module _ (v : Volume) (f g : Facts) (ext : Extends f g) (xs o : List Event) (start : Event → Bool) (key : Key) (places : List ℕ)
    (placing : IsPlacing v f key.fid places) (t : Fetches) (h : IsFetching v f o start key places t)
    (later : since start (xs ++ o) ≡ xs ++ since start o) (some : 0 < t.left) (w : Seen) where
  abbrev pub next : ℕ
  next = next_position t

  pub left_at : bit_at t.left next ≡ 1
  left_at = next-left t.left t.mask (safe_of v.layout) some h.low (safe-few v.layout)

  pub within : next < length places
  within = let m = placing.many in let l = in-below t.left (safe_of v.layout) next h.low left_at in omega (arith, m, l)

  module _ (here : (n : ℕ) → slice_get places next ≡ Some n → seen_at key t.stamp n (xs ++ since start o) ≡ w)
      (there : (q n : ℕ) → q ≢ next → slice_get places q ≡ Some n → seen_at key t.stamp n (xs ++ since start o) ≡ seen_at key t.stamp n (since start o))
      (gives : (p : ℕ) → Stands p (fetched_at key t.stamp (since start o)) → Stands p (fetched_at key t.stamp (xs ++ since start o)))
      (gives_it : is_held w ≡ true → Stands next (fetched_at key t.stamp (xs ++ since start o))) (told : is_asked w ≡ true) where
    table : set t.seen next w ≡ seens key t.stamp (since start (xs ++ o)) 0 places
    table =
        ap (λ ws. set ws next w) h.seen_is
        ∙ sym (seens-set key t.stamp (xs ++ since start o) (since start o) 0 places next w within here there)
        ∙ ap (λ z. seens key t.stamp z 0 places) (sym later)

    long : next < length t.seen
    long = let l = seens-long key t.stamp (since start o) 0 places in subst (λ (ws : List Seen). next < length ws) (sym h.seen_is) (omega (arith, l, within))

    read_here : get_or (set t.seen next w) next seen.NotAsked ≡ w
    read_here = get_or-set_same t.seen next w seen.NotAsked long

    fetched_now : (p : ℕ) → is_held (get_or (set t.seen next w) p seen.NotAsked) ≡ true → Stands p (fetched_at key t.stamp (since start (xs ++ o)))
    fetched_now p held = subst (λ z. Stands p (fetched_at key t.stamp z)) (sym later) (go (p == next) refl)
      where
        go : (b : Bool) → (p == next) ≡ b → Stands p (fetched_at key t.stamp (xs ++ since start o))
        go true at =
            let same : p ≡ next = eqb-true p next at in
            let mine : is_held (get_or (set t.seen next w) next seen.NotAsked) ≡ true = subst (λ z. is_held (get_or (set t.seen next w) z seen.NotAsked) ≡ true) same held in
            subst (λ z. Stands z (fetched_at key t.stamp (xs ++ since start o))) (sym same) (gives_it (sym (ap is_held read_here) ∙ mine))
        go false at =
            let apart : p ≢ next = λ k. (let y : (p == next) ≡ true = eq-eqb p next k in cc) in
            gives p (h.fetched p (sym (ap is_held (get_or-set_other t.seen next p w seen.NotAsked apart)) ∙ held))

    abbrev left_now : ℕ
    left_now = bit_xor t.left (2 ^ next)

    low_now : left_now < 2 ^ safe_of v.layout
    low_now = xor_lt (safe_of v.layout) t.left (2 ^ next) h.low (pow-lt (in-below t.left (safe_of v.layout) next h.low left_at))

    other_bit : (p : ℕ) → p ≢ next → bit_at left_now p ≡ bit_at t.left p
    other_bit p apart = omega (arith, bit_at_xor t.left (2 ^ next) p, bit_at-pow_other next p apart, bit_at-lt t.left p)

    this_bit : bit_at left_now next ≡ 0
    this_bit = omega (arith, bit_at_xor t.left (2 ^ next) next, bit_at-pow_same next, left_at)

    asked_now : (p : ℕ) → p < safe_of v.layout → bit_at left_now p ≡ 0 → is_asked (get_or (set t.seen next w) p seen.NotAsked) ≡ true
    asked_now p few none = go (p == next) refl
      where
        go : (b : Bool) → (p == next) ≡ b → is_asked (get_or (set t.seen next w) p seen.NotAsked) ≡ true
        go true at =
            let same : p ≡ next = eqb-true p next at in
            subst (λ z. is_asked (get_or (set t.seen next w) z seen.NotAsked) ≡ true) (sym same) (ap is_asked read_here ∙ told)
        go false at =
            let apart : p ≢ next = λ k. (let y : (p == next) ≡ true = eq-eqb p next k in cc) in
            ap is_asked (get_or-set_other t.seen next p w seen.NotAsked apart) ∙ h.asked p few (sym (other_bit p apart) ∙ none)

    ahead_now : (p : ℕ) → bit_at left_now p ≡ 1 → get_or (set t.seen next w) p seen.NotAsked ≡ seen.NotAsked
    ahead_now p set_bit =
        let apart : p ≢ next = λ same. (let z : bit_at left_now next ≡ 1 = subst (λ y. bit_at left_now y ≡ 1) same set_bit in let n = this_bit in omega (arith, z, n)) in
        get_or-set_other t.seen next p w seen.NotAsked apart ∙ h.ahead p (sym (other_bit p apart) ∙ set_bit)

    pub counted : (b : Bool) → is_held w ≡ b → count_by is_held (set t.seen next w) ≡ t.given + cond b 1 0
    counted b is =
        let moved = sum_by-set (λ x. cond (is_held x) 1 0) t.seen next w seen.NotAsked long in
        let old : ◌≡◌ {A = ℕ} (cond (is_held (get_or t.seen next seen.NotAsked)) 1 0) 0 = ap (λ x. cond {A = ℕ} (is_held x) 1 0) (h.ahead next left_at) in
        let new : ◌≡◌ {A = ℕ} (cond (is_held w) 1 0) (cond b 1 0) = ap (λ c. cond {A = ℕ} c 1 0) is in
        let g = h.given_is in
        omega (arith, moved, old, new, g)

    -- it goes on with so many records
    pub fetched : (given length : ℕ) → given ≡ count_by is_held (set t.seen next w) → given < inverse_of v.layout
        → IsFetching v g (xs ++ o) start key places (record t { left = bit_xor t.left (2 ^ next); given = given; length = length; seen = set t.seen next w })
    fetched given length given_is few = record {
      known = (h.known.0, ext.wrote t.stamp h.known.0 h.known.1);
      seen_is = table;
      given_is = given_is;
      fetched = fetched_now;
      few = few;
      low = low_now;
      asked = asked_now;
      ahead = ahead_now;
    }

    -- as many as the table has
    pub held : count_by is_held (seens key t.stamp (since start (xs ++ o)) 0 places) ≡ count_by is_held (set t.seen next w)
    held = ap (count_by is_held) (sym table)

    -- enough records came
    pub enough : (n : ℕ) → n ≡ count_by is_held (set t.seen next w) → HasDistinct n (fetched_at key t.stamp (since start (xs ++ o)))
    enough n is = distinct (fetched_at key t.stamp (since start (xs ++ o))) (set t.seen next w) n fetched_now (sym is)

some-inverse : (y : Layout) → 0 < inverse_of y
some-inverse y = grind arith

safe-positive : (n : ℕ) → 2 ^ n - 1 < 2 ^ n
safe-positive n = let one : 0 < 1 = omega arith in pow-sub-lt n one

-- no position was asked
pub fresh-fetches : (v : Volume) (g : Facts) (o : List Event) (start : Event → Bool) (key : Key) (places : List ℕ) (p : Published)
    → length places ≡ safe_of v.layout → since start o ≡ [] → ((b : Begun) × (g.wrote p.stamp ≡ Some b)) → IsFetching v g o start key places (none_fetched v.layout p)
fresh-fetches v g o start key places p many none known = record {
  known = known;
  seen_is = sym (ap (λ z. seens key p.stamp z 0 places) none ∙ seens-none key p.stamp 0 places 16 few refl);
  given_is = refl;
  fetched = λ q held. (let z = none-seen 16 q in (let both : is_held seen.NotAsked ≡ true = sym (ap is_held z) ∙ held in cc));
  few = some-inverse v.layout;
  low = safe-positive (safe_of v.layout);
  asked = λ q less unset. (let z = bit_at_ones (safe_of v.layout) q less in absurd (omega (arith, z, unset)));
  ahead = λ q bit. none-seen 16 q;
}
  where
    few : 0 + length places ≤ 16
    few = let s = safe-few v.layout in omega (arith, many, s)
