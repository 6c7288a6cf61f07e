-- A node that has room for one block is asked to keep a second one.
use Rattle.std.specs.Prelude.{List, ◌∷◌}
use Rattle.rz_events.specs.declared.ends.Why.TheVariants as why
use Rattle.rz_events.specs.declared.events.Event.{Event}
use Rattle.rz_events.specs.declared.events.Event.TheVariants as e
use Rattle.rz_examples.specs.Plain.{two, next_block, world}
use Rattle.rz_examples.specs.Ordinary.{kept_at, with_begin}
use Rattle.rz_examples.specs.Rivals.{opened_by_two}

abbrev pub with_next_begun : List Event
with_next_begun = e.Begin two next_block 2 0 world ∷ opened_by_two 0 ∷ kept_at 1 0 ∷ with_begin

abbrev pub full : List Event
full = e.Refused two 1 why.Full 0 ∷ with_next_begun
