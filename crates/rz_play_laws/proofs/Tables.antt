-- Tables of outcomes, and the masks of what was kept.
use Rattle.std.proofs.Common.{◌≡◌, ◌≢◌, ℕ, suc, zero, ◌+◌, ◌-◌, ◌^◌, ◌<◌, ◌≤◌, Bool, cond, List, [], ◌∷◌, length, get_or, set, replicate, arith, ap, ◌∙◌, sym, refl, subst, pow-suc, Some}
use Rattle.std.specs.Prelude.{count_by, slice_get}
use Rattle.std.proofs.lemmas.List.Sums.{sum_by-set}
use Rattle.rz_events.specs.declared.keys.Key.{Key}
use Rattle.rz_events.specs.declared.ends.Why.{Why}
use Rattle.rz_events.specs.declared.ends.Why.TheVariants as why
use Rattle.rz_events.specs.declared.events.Event.{Event}
use Rattle.rz_safety.proofs.PositionLaws.{whys-same}
use Rattle.rz_core.specs.Outcomes.{whys, why_at}
use Rattle.rz_client_model.specs.Write.{is_kept, mask_of}
use Rattle.rz_client_model.proofs.Masks.{bit-le, mask_of-replicate}

-- A table in which one outcome changes.

pub whys-set : (key : Key) (s : ℕ) (new old : List Event) (i : ℕ) (places : List ℕ) (r : ℕ) (w : Why) → r < length places
    → ((n : ℕ) → slice_get places r ≡ Some n → why_at key s (i + r) n new ≡ w)
    → ((q n : ℕ) → q ≢ r → slice_get places q ≡ Some n → why_at key s (i + q) n new ≡ why_at key s (i + q) n old)
    → whys key s new i places ≡ set (whys key s old i places) r w
whys-set key s new old i [] r w low here same = absurd (omega arith)
whys-set key s new old i (n ∷ places) zero w low here same =
    let first : i + 0 ≡ i = omega arith in
    let head : why_at key s i n new ≡ w = subst (λ z. why_at key s z n new ≡ w) first (here n refl) in
    let rest = whys-same key s new old (i + 1) places (λ q m at.
    let next : i + suc q ≡ (i + 1) + q = omega arith in
    let apart : suc q ≢ 0 = λ k. omega (arith, k) in
    subst (λ z. why_at key s z m new ≡ why_at key s z m old) next (same (suc q) m apart at)) in
    ap (λ x. x ∷ whys key s new (i + 1) places) head ∙ ap (λ ws. w ∷ ws) rest
whys-set key s new old i (n ∷ places) (suc r) w low here same =
    let first : i + 0 ≡ i = omega arith in
    let apart : 0 ≢ suc r = λ k. omega (arith, k) in
    let head : why_at key s i n new ≡ why_at key s i n old =
    subst (λ z. why_at key s z n new ≡ why_at key s z n old) first (same 0 n apart refl) in
    let at_r : i + suc r ≡ (i + 1) + r = omega arith in
    let rest = whys-set key s new old (i + 1) places r w (omega arith)
    (λ m at. subst (λ z. why_at key s z m new ≡ w) at_r (here m at))
    (λ q m other at.
    let next : i + suc q ≡ (i + 1) + q = omega arith in
    let more : suc q ≢ suc r = λ k. other (omega (arith, k)) in
    subst (λ z. why_at key s z m new ≡ why_at key s z m old) next (same (suc q) m more at)) in
    ap (λ x. x ∷ whys key s new (i + 1) places) head ∙ ap (λ ws. why_at key s i n old ∷ ws) rest

-- before anything was asked
pub whys-none : (key : Key) (s i : ℕ) (places : List ℕ) (k : ℕ) → i + length places ≤ 16 → k ≡ 16 - i → whys key s [] i places ≡ replicate k why.NotAsked
whys-none key s i [] k few is = ap (λ n. replicate n why.NotAsked) (sym is)
whys-none key s i (n ∷ places) zero few is = absurd (omega arith)
whys-none key s i (n ∷ places) (suc k) few is = ap (λ ws. why.NotAsked ∷ ws) (whys-none key s (i + 1) places k (omega arith) (omega arith))

pub whys-long : (key : Key) (s : ℕ) (o : List Event) (i : ℕ) (places : List ℕ) → length places ≤ length (whys key s o i places)
whys-long key s o i [] = omega arith
whys-long key s o i (n ∷ places) = let more = whys-long key s o (i + 1) places in omega arith

pub none-asked : (k p : ℕ) → get_or (replicate k why.NotAsked) p why.NotAsked ≡ why.NotAsked
none-asked zero p = refl
none-asked (suc k) zero = refl
none-asked (suc k) (suc p) = none-asked k p

-- Masks.

-- no position past the places is in the mask
pub mask-low : (key : Key) (s : ℕ) (o : List Event) (i : ℕ) (places : List ℕ) → mask_of (whys key s o i places) < 2 ^ length places
mask-low key s o i [] = let m = mask_of-replicate (16 - i) in omega arith
mask-low key s o i (n ∷ places) =
    let ih = mask-low key s o (i + 1) places in
    let b = bit-le (is_kept (why_at key s i n o)) in
    let p = pow-suc 2 (length places) in
    omega (arith, ih, b, p)

-- one outcome more, of a position that was not asked or has the record
pub count-set : (test : Why → Bool) (ws : List Why) (p : ℕ) (w old : Why) → p < length ws → get_or ws p why.NotAsked ≡ old
    → count_by test (set ws p w) + cond (test old) 1 0 ≡ count_by test ws + cond (test w) 1 0
count-set test ws p w old within is =
    let moved = sum_by-set (λ x. cond (test x) 1 0) ws p w why.NotAsked within in
    subst (λ z. count_by test (set ws p w) + cond (test z) 1 0 ≡ count_by test ws + cond (test w) 1 0) is moved
