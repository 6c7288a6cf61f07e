use Rattle.std.proofs.Common.{◌≡◌, ◌≢◌, ◌<◌, ℕ, map, take, slice_index_or}
use Rattle.rz_events.specs.declared.events.Word.TheVariants.{Node}
use Rattle.rz_chronicle.specs.Keys.{word_key, rows}
use Rattle.rz_chronicle.specs.Tokens.{IsHolding}
use Rattle.rz_chronicle.specs.Dealing.{new_word_token}
use Rattle.rz_chronicle.proofs.dealer.word_tokens.Given as goal

-- the tokens of the nodes so far are dealt out, and no other token is
abbrev pub invariant-loop-i : goal.invariant-loop-i
invariant-loop-i g l = (l.word_tokens.items ≡ map (λ (n : ℕ). new_word_token (Node n)) (take l.i l.nodes))
    × ((n : ℕ) → word_key (Node n) < rows → ((j : ℕ) (d : ℕ) → j < l.i → n ≢ slice_index_or l.nodes j d) → IsHolding (word_key (Node n)) l.dealer)
    × ((k : ℕ) → IsHolding k l.fn.dealer → ((n : ℕ) → k ≢ word_key (Node n)) → IsHolding k l.dealer)
