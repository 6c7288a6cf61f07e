use Rattle.std.proofs.Common.{rules, ◌≡◌, ℕ, false, nat_eq, ◌&&◌, ap, sym, ◌∙◌}
use Rattle.std.proofs.lemmas.Bool.Decides.{nat_tests}
use Rattle.rz_file.proofs.range.RangeProgress.is_whole.Goals as goal

whole : (s n b s' n' b' : ℕ) → s ≡ s' → n ≡ n' → b ≡ b' → s ≡ 0 → nat_eq n b ≡ (nat_eq s' 0 && nat_eq n' b')
whole s n b s' n' b' p q r z =
    ap (λ x. nat_eq x b) q ∙ ap (nat_eq n') r ∙ ap (λ x. nat_eq x 0 && nat_eq n' b') (sym z ∙ p)

part : (s n' b' s' : ℕ) → s ≡ s' → nat_eq s 0 ≡ false → nat_eq s 0 ≡ (nat_eq s' 0 && nat_eq n' b')
part s n' b' s' p z = z ∙ ap (λ x. x && nat_eq n' b') (sym z ∙ ap (λ x. nat_eq x 0) p)

pub returns-then-start-eq0 : goal.returns-then-start-eq0
returns-then-start-eq0 c = whole _ _ _ _ _ _ c.start.ensures.value c.count.ensures.value c.block_bytes.ensures.value c.if-start-eq0.true

pub returns-else-start-eq0 : goal.returns-else-start-eq0
returns-else-start-eq0 c = part _ _ _ _ c.start.ensures.value (search (rules, nat_tests))
