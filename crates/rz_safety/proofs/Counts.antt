-- Positions of a mask that gave no record.
use Rattle.std.proofs.Common.{ℕ, zero, suc, Bool, true, false, not, ◌==◌, ◌≡◌, ◌≤◌, ◌<◌, ◌+◌, ◌-◌, ◌/◌, ◌%◌, ◌^◌, List, [], ◌∷◌, cond, refl, sym, ◌∙◌, ap, subst, arith, ◌&&◌, length, count_by, add-one, pow-suc, nat_lt, lit≤}
use Rattle.std.proofs.lemmas.Bool.{eqb-true, and_parts, ltb-true}
use Rattle.std.proofs.lemmas.List.{length-replicate}
use Rattle.std.proofs.lemmas.List.Sums.{sum_by-cons}
use Rattle.std.proofs.lemmas.Nat.Bits.{bit_at-suc, bit_at_lowest}
use Rattle.std.specs.Int.{bit_at}
use Rattle.std.specs.Int.Count.{ones, ones_step, ones-le}
use Rattle.std.proofs.Math.Pow.{pow_mono}
use Rattle.mj_angles.specs.declared.layout.Layout.{Layout}
use Rattle.mj_angles.specs.declared.layout.Layout.TheVariants.{L0, L1, L2, L0B1, L0B2, L0B3, L1B1, L1B2, L1B3, L2B1, L2B2, L2B3}
use Rattle.mj_angles.specs.Layout.{inverse_of, forward_of, safe_of}
use Rattle.rz_events.specs.declared.keys.Key.{Key}
use Rattle.rz_events.specs.declared.ends.Seen.{Seen}
use Rattle.rz_events.specs.declared.ends.Seen.TheVariants as seen
use Rattle.rz_events.specs.declared.events.Event.{Event}
use Rattle.rz_export_model.specs.Export.{is_mask}
use Rattle.rz_events.specs.Masks.{has_bit}
use Rattle.rz_core.specs.Outcomes.{seens, is_held}
use Rattle.rz_safety.specs.Sound.{not_held}

-- a position of the mask is held, or counts as not held
one_bit : (b : ℕ) (t : Bool) → b < 2 → b ≤ cond t 1 0 + cond ((b == 1) && not t) 1 0
one_bit zero t h = omega arith
one_bit (suc zero) true h = lit≤ tt
one_bit (suc zero) false h = lit≤ tt
one_bit (suc (suc b)) t h = omega arith

-- the positions from 1 on are those of half the mask
shift : (mask i : ℕ) (seen : List Seen) → not_held mask (i + 1) seen ≡ not_held (mask / 2) i seen
shift mask i [] = refl
shift mask i (x ∷ seen) =
    ap (λ b. cond ((b == 1) && not (is_held x)) 1 0 + not_held mask (i + 1 + 1) seen) (ap (bit_at mask) (add-one i) ∙ bit_at-suc mask i)
    ∙ ap (λ n. cond (has_bit (mask / 2) i && not (is_held x)) 1 0 + n) (shift mask (i + 1) seen)

counted : (mask : ℕ) (seen : List Seen) → mask < 2 ^ length seen → ones mask ≤ count_by is_held seen + not_held mask 0 seen
counted mask [] h = let z = ones-le 0 mask h in omega arith
counted mask (x ∷ seen) h =
    let p = pow-suc 2 (length seen) in
    let half : mask / 2 < 2 ^ length seen = omega arith in
    let ih = counted (mask / 2) seen half in
    let step = ones_step mask in
    let moved = shift mask 0 seen in
    let first : mask % 2 ≤ cond (is_held x) 1 0 + cond (has_bit mask 0 && not (is_held x)) 1 0 =
    subst (λ b. mask % 2 ≤ cond (is_held x) 1 0 + cond ((b == 1) && not (is_held x)) 1 0) (sym (bit_at_lowest mask)) (one_bit (mask % 2) (is_held x) (omega arith)) in
    let more = sum_by-cons (λ y. cond (is_held y) 1 0) x seen in
    omega arith

-- a table of outcomes has sixteen or more
seens-long : (key : Key) (s : ℕ) (o : List Event) (i : ℕ) (places : List ℕ) → 16 ≤ i + length (seens key s o i places)
seens-long key s o i [] = rw (length-replicate (16 - i) seen.NotAsked) (omega arith)
seens-long key s o i (n ∷ places) = let more = seens-long key s o (i + 1) places in omega arith

safe-few : (y : Layout) → safe_of y ≤ 16
safe-few L0 = lit≤ tt
safe-few L1 = lit≤ tt
safe-few L2 = lit≤ tt
safe-few L0B1 = lit≤ tt
safe-few L0B2 = lit≤ tt
safe-few L0B3 = lit≤ tt
safe-few L1B1 = lit≤ tt
safe-few L1B2 = lit≤ tt
safe-few L1B3 = lit≤ tt
safe-few L2B1 = lit≤ tt
safe-few L2B2 = lit≤ tt
safe-few L2B3 = lit≤ tt

inverse-few : (y : Layout) → inverse_of y ≤ forward_of y
inverse-few L0 = lit≤ tt
inverse-few L1 = lit≤ tt
inverse-few L2 = lit≤ tt
inverse-few L0B1 = lit≤ tt
inverse-few L0B2 = lit≤ tt
inverse-few L0B3 = lit≤ tt
inverse-few L1B1 = lit≤ tt
inverse-few L1B2 = lit≤ tt
inverse-few L1B3 = lit≤ tt
inverse-few L2B1 = lit≤ tt
inverse-few L2B2 = lit≤ tt
inverse-few L2B3 = lit≤ tt

-- where fewer are held than give the block back, more of a mask than can be spared are not held
pub few-missing : (y : Layout) (mask : ℕ) (key : Key) (s : ℕ) (o : List Event) (places : List ℕ) → is_mask y mask ≡ true
    → count_by is_held (seens key s o 0 places) < inverse_of y → forward_of y - inverse_of y < not_held mask 0 (seens key s o 0 places)
few-missing y mask key s o places quorum few =
    let p = and_parts (ones mask == forward_of y) (nat_lt mask (2 ^ safe_of y)) quorum in
    let all : ones mask ≡ forward_of y = eqb-true (ones mask) (forward_of y) p.0 in
    let low : mask < 2 ^ safe_of y = ltb-true mask (2 ^ safe_of y) p.1 in
    let long = seens-long key s o 0 places in
    let fits : 2 ^ safe_of y ≤ 2 ^ length (seens key s o 0 places) = let less : safe_of y ≤ length (seens key s o 0 places) = omega (arith, safe-few y, long) in pow_mono less in
    let c = counted mask (seens key s o 0 places) (omega arith) in
    omega (arith, inverse-few y)
