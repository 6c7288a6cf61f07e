use Rattle.std.proofs.Common.{◌≡◌, ◌+◌, ◌*◌, ℕ, length, ap, subst, sym, arith}
use Rattle.rz_events.specs.declared.keys.Actor.TheVariants.{Rebuilder}
use Rattle.rz_chronicle.specs.Keys.{number}
use Rattle.rz_chronicle.specs.Dealing.{ArePasses}
use Rattle.rz_chronicle.proofs.Dealt.{passes-more, dealt-next}
use Rattle.rz_chronicle.proofs.dealer.rebuilders.Goals as goal

pub loop-i-init : goal.loop-i-init
loop-i-init g c = ((ap length c.in_ok-rebuilders.ensures.items, λ i d lt. absurd (omega (arith, lt))), (λ c2 low high. c.requires c2 high), λ k h a b. h)

pub pass-pass-requires-clause-held : goal.pass-pass-requires-clause-held
pass-pass-requires-clause-held g c = c.loop-i.invariant.1 (c.loop-i.i + 1) (omega arith) (omega (arith, c.loop-i-test.true))

pub loop-i-preserved : goal.loop-i-preserved
loop-i-preserved g c =
    let inv = c.loop-i.invariant in let i = c.loop-i.i in
    let numbers : (n : ℕ) → number (Rebuilder n) ≡ 3 * n + 1 = (λ n. omega arith) in (
      subst (ArePasses (i + 1) (λ j. Rebuilder (j + 1))) (sym c.in_ok-push.ensures.items) (passes-more (λ j. Rebuilder (j + 1)) i c.loop-i.rebuilders.items c.pass-pass.result.0 inv.0 c.pass-pass.ensures.pass),
      dealt-next (λ j. Rebuilder j) 1 numbers i 17 c.loop-i.dealer c.pass-pass.result.1 inv.1 c.pass-pass.ensures.rest,
      λ k h a b. c.pass-pass.ensures.rest k (inv.2 k h a b) (a (i + 1)) (b (i + 1)),
    )
