-- The order of keys, by file and then by block.
use Rattle.std.proofs.Common.{ℕ, true, ◌≡◌, ◌⊎◌, inl, inr, ◌<◌, refl, ◌∙◌, ap, arith}
use Rattle.std.specs.declared.cmp.Ordering.{Ordering}
use Rattle.std.specs.declared.cmp.Ordering.TheVariants.{Less, Equal, Greater}
use Rattle.std.specs.Ordering.{nat_cmp, ordering_then, is_lt}
use Rattle.std.specs.Cmp.{ranked}
use Rattle.std.proofs.lemmas.Bool.Decides.{nat_tests}
use Rattle.rz_events.specs.Keys.{key_cmp, keys_total}
use Rattle.rz_events.specs.declared.keys.Key.{Key}
use Rattle.rz_core.specs.ExportRows.{IsLess}

pub less-is : (a b : Key) → is_lt (key_cmp a b) ≡ true → IsLess a b
less-is a b is = go (key_cmp a b) is
  where
    go : (r : Ordering) → is_lt r ≡ true → r ≡ Less
    go Less is = refl
    go Equal is = cc
    go Greater is = cc

less_cmp : (a b : ℕ) → a < b → nat_cmp a b ≡ Less
less_cmp a b h = grind (arith, nat_tests)

same_cmp : (a b : ℕ) → a ≡ b → nat_cmp a b ≡ Equal
same_cmp a b h = grind (arith, nat_tests)

-- the file is less, or the block is in one file
pub less-parts : (a b : Key) → IsLess a b → (a.fid < b.fid) ⊎ ((a.fid ≡ b.fid) × (a.block < b.block))
less-parts a b is = go (nat_cmp a.fid b.fid) refl (nat_cmp a.block b.block) refl is
  where
    go : (r : Ordering) → r ≡ nat_cmp a.fid b.fid → (t : Ordering) → t ≡ nat_cmp a.block b.block → ordering_then r t ≡ Less
        → (a.fid < b.fid) ⊎ ((a.fid ≡ b.fid) × (a.block < b.block))
    go Less p t q is = inl (ranked a.fid b.fid Less p)
    go Equal p Less q is = inr (ranked a.fid b.fid Equal p, ranked a.block b.block Less q)
    go Equal p Equal q is = cc
    go Equal p Greater q is = cc
    go Greater p t q is = cc

pub parts-less : (a b : Key) → (a.fid < b.fid) ⊎ ((a.fid ≡ b.fid) × (a.block < b.block)) → IsLess a b
parts-less a b (inl fid) = ap (λ r. ordering_then r (nat_cmp a.block b.block)) (less_cmp a.fid b.fid fid)
parts-less a b (inr block) = ap (λ r. ordering_then r (nat_cmp a.block b.block)) (same_cmp a.fid b.fid block.0) ∙ less_cmp a.block b.block block.1

pub less-trans : (a b c : Key) → IsLess a b → IsLess b c → IsLess a c
less-trans a b c p q = keys_total.trans a b c p q
