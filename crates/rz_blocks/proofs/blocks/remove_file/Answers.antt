use Rattle.std.proofs.Common.{◌≡◌, ℕ, ◌+◌, ◌<◌, Bool, true, false, sym, ap, ◌∙◌, is_some, arith}
use Rattle.std.specs.Prelude.{if◌then◌else◌}
use Rattle.rz_blocks.proofs.Forgets.{found-key, others-stay, all-gone}
use Rattle.rz_blocks.proofs.blocks.remove_file.Goals as goal

one-less : (there : Bool) (a b : ℕ) → there ≡ true → a + (if there then 1 else 0) ≡ b → a < b
one-less true a b h e = omega (arith, e)
one-less false a b h e = cc

pub loop-key-smaller : goal.loop-key-smaller
loop-key-smaller c =
    one-less (is_some c.remove.result) _ _
    (ap is_some c.remove.ensures.value ∙ found-key c.loop-key.entries.entries c.args.fid c.in-Some.key (sym c.first_key.ensures.first ∙ c.in-Some.is)) c.remove.ensures.len

pub loop-key-preserved : goal.loop-key-preserved
loop-key-preserved c =
    λ q other. others-stay c.loop-key.entries.entries c.args.fid c.remove.new.self.entries c.in-Some.key (sym c.first_key.ensures.first ∙ c.in-Some.is) c.remove.ensures.updates.0 q other
    ∙ c.loop-key.invariant q other

pub returns : goal.returns
returns c = all-gone c.loop-key.entries.entries c.args.fid c.args.entries.now.entries (sym c.first_key.ensures.first ∙ c.in_default.is) c.loop-key.invariant
