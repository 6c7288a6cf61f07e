-- The marks of a disk in memory.
use Rattle.std.proofs.Common.{⊎_elim, ℕ, ◌+◌, ◌<◌, ◌≤◌, Bool, true, List, length, sym, ◌∙◌, arith}
use Rattle.std.proofs.lemmas.Bool.{cases_lt}
use Rattle.rz_disk.specs.Images.{Torn, Follows}
use Rattle.rz_disk.specs.Stored.{Leaves, Marked}
use Rattle.rz_disk.proofs.Images.{splice, spliced}

-- What a crash may leave after a write was, in a range apart, what it might leave before.
pub write_follows : (at n : ℕ) (marks marks' : List Bool) (text text' : List ℕ) → at + n ≤ length text → Marked true at n marks marks' → Torn at n text text' → Follows (Torn at n) (Leaves marks text) (Leaves marks' text')
write_follows at n marks marks' text text' fits outside torn c left =
    let whole = spliced at n c text (left.size ∙ torn.size) (omega (arith, left.size, torn.size)) in (
      splice at n c text,
      record {
        size = whole.size ∙ left.size ∙ torn.size;
        same = λ i free. ⊎_elim
            (λ (lt : i < at). whole.below i lt ∙ left.same i (outside.below i lt ∙ free) ∙ torn.below i lt)
            (λ (le : at ≤ i). ⊎_elim
            (λ (lt : i < at + n). whole.inside i le lt)
            (λ (past : at + n ≤ i). whole.above i past ∙ left.same i (outside.above i past ∙ free) ∙ torn.above i past)
            (cases_lt i (at + n)))
            (cases_lt i at);
      },
      record {
        size = sym whole.size;
        below = λ i lt. sym (whole.below i lt);
        above = λ i past. sym (whole.above i past);
      },
    )
