use Rattle.std.proofs.Common.{◌≢◌, ◌+◌, ◌<◌, ℕ}
use Rattle.rz_events.specs.declared.keys.Actor.TheVariants.{Client}
use Rattle.rz_events.specs.declared.events.Word.TheVariants.{Own}
use Rattle.rz_chronicle.specs.Keys.{word_key, actor_key}
use Rattle.rz_chronicle.specs.Tokens.{IsHolding}
use Rattle.rz_chronicle.specs.Dealing.{ArePasses}
use Rattle.rz_chronicle.proofs.dealer.clients.Given as goal

-- the passes so far are dealt out, and no other token is
abbrev pub invariant-loop-i : goal.invariant-loop-i
invariant-loop-i g l = ArePasses l.i (λ i. Client (i + 1)) l.clients.items
    × ((c : ℕ) → l.i < c → c < 65 → IsHolding (word_key (Own (Client c))) l.dealer × IsHolding (actor_key (Client c)) l.dealer)
    × ((k : ℕ) → IsHolding k l.fn.dealer → ((c : ℕ) → k ≢ word_key (Own (Client c))) → ((c : ℕ) → k ≢ actor_key (Client c)) → IsHolding k l.dealer)
