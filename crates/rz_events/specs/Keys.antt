-- Keys in their order, as keys of finite maps.
use Rattle.std.specs.Prelude.{ℕ, refl}
use Rattle.std.proofs.Common.{ap}
use Rattle.std.specs.Ordering.{nat_cmp, ordering_then}
use Rattle.std.specs.declared.cmp.Ordering.{Ordering}
use Rattle.std.specs.Cmp.{IsTotalOrder, nat_cmp_total}
use Rattle.std.specs.Coded.{Coded, code_by, coded×, coded_ℕ}
use Rattle.std.proofs.lemmas.Cmp.{on_total, then_total}
use Rattle.std.proofs.lemmas.Map.Lookups.{CmpEqualImpliesEq, exact_pairs, exact_unsigned}
use Rattle.rz_events.specs.declared.keys.Key.{Key}

-- by the file, and then by the block
abbrev pub key_cmp : Key → Key → Ordering
key_cmp a b = ordering_then (nat_cmp a.fid b.fid) (nat_cmp a.block b.block)

abbrev pub coded_key : Coded Key
coded_key = code_by (ℕ × ℕ) (coded× coded_ℕ coded_ℕ) (λ s. (s.fid, s.block)) (λ p. record { fid = p.0; block = p.1 }) (λ _. refl)

pub keys_total : IsTotalOrder key_cmp
keys_total = then_total (on_total (λ s. s.fid) nat_cmp_total) (on_total (λ s. s.block) nat_cmp_total)

pub exact_keys : CmpEqualImpliesEq key_cmp
exact_keys a b h = ap (λ (p : ℕ × ℕ). (let k : Key = record { fid = p.0; block = p.1 } in k)) (exact_pairs nat_cmp nat_cmp exact_unsigned exact_unsigned (a.fid, a.block) (b.fid, b.block) h)
