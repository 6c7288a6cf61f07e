-- The mask of a table of outcomes.
use Rattle.std.proofs.Common.{◌≡◌, ℕ, ◌+◌, ◌*◌, ◌^◌, ◌<◌, ◌≤◌, Bool, true, false, cond, List, length, drop, get_or, arith, ap, ◌∙◌, refl}
use Rattle.std.proofs.lemmas.List.{drop_more}
use Rattle.std.proofs.Math.Pow.{pow_mono}
use mir.Val.{bool_byte}
use Rattle.rz_events.specs.declared.ends.Why.{Why}
use Rattle.rz_events.specs.declared.ends.Why.TheVariants.{NotAsked}
use Rattle.rz_client_model.specs.Write.{is_kept, mask_of}
use Rattle.rz_client_model.proofs.Masks.{mask_of-lt}

byte-le : (b : Bool) → bool_byte b ≤ 1
byte-le true = omega arith
byte-le false = omega arith

byte-cond : (b : Bool) → bool_byte b ≡ cond b 1 0
byte-cond true = refl
byte-cond false = refl

pub bit-of : (n : ℕ) (b : Bool) → n ≡ bool_byte b → n ≤ 1
bit-of n b e = omega (arith, byte-le b)

pub mask_of-small : (ws : List Why) → length ws ≤ 15 → mask_of ws < 2 ^ 15
mask_of-small ws h = omega (arith, mask_of-lt ws, pow_mono {i = length ws} {j = 15} h)

-- one more position, below those of which the mask is known
pub mask_of-more : (ws : List Why) (i mask bit j : ℕ) (kept : Bool) → i < length ws → bit ≡ bool_byte kept →
    kept ≡ is_kept (get_or ws i NotAsked) → mask ≡ mask_of (drop j ws) → j ≡ i + 1 → 2 * mask + bit ≡ mask_of (drop i ws)
mask_of-more ws i mask bit j kept within is_bit is_it before next =
    let here : mask_of (drop i ws) ≡ cond (is_kept (get_or ws i NotAsked)) 1 0 + 2 * mask_of (drop (i + 1) ws) = ap mask_of (drop_more ws i NotAsked within) in
    let one : bit ≡ cond (is_kept (get_or ws i NotAsked)) 1 0 = is_bit ∙ byte-cond kept ∙ ap (λ b. cond b 1 0) is_it in
    let rest : mask ≡ mask_of (drop (i + 1) ws) = before ∙ ap (λ k. mask_of (drop k ws)) next in
    omega (arith, here, one, rest)
