-- The outcomes of positions: a letter or a digit for each position, position 0 first.
use Rattle.std.specs.Prelude.{ℕ, ◌+◌, List, map, take}
use Rattle.std.specs.Int.{bit_at}
use Rattle.std.specs.List.{range_with_len}
use Rattle.rz_events.specs.declared.ends.Why.{Why}
use Rattle.rz_events.specs.declared.ends.Why.TheVariants as why
use Rattle.rz_events.specs.declared.ends.Seen.{Seen}
use Rattle.rz_events.specs.declared.ends.Seen.TheVariants as seen
use Rattle.rz_script_words.specs.Words.{Word}

-- a write's outcome: - k p d l f u x m e, and ? for what no position of a write comes to
unfoldable pub why_letter : Why → ℕ
why_letter why.NotAsked = 45
why_letter why.Kept = 107
why_letter why.Passed = 112
why_letter why.Down = 100
why_letter why.Lost = 108
why_letter why.Fenced = 102
why_letter why.Full = 117
why_letter why.DiskFault = 120
why_letter why.Missed = 109
why_letter why.Enrolled = 101
why_letter why.OtherFence = 63
why_letter why.NotLost = 63
why_letter why.OtherLoss = 63

-- a read's outcome: - s n d l x m
unfoldable pub seen_letter : Seen → ℕ
seen_letter seen.NotAsked = 45
seen_letter seen.Held = 115
seen_letter seen.Nothing = 110
seen_letter seen.Down = 100
seen_letter seen.Lost = 108
seen_letter seen.DiskFault = 120
seen_letter seen.Missed = 109

-- the letters of so many positions
unfoldable pub why_word : ℕ → List Why → Word
why_word positions why = map why_letter (take positions why)

unfoldable pub seen_word : ℕ → List Seen → Word
seen_word positions seen = map seen_letter (take positions seen)

-- 1 for each position of a mask, and 0 for the others, out of so many
unfoldable pub mask_word : ℕ → ℕ → Word
mask_word positions mask = map (λ p. 48 + bit_at mask p) (range_with_len 0 positions)
