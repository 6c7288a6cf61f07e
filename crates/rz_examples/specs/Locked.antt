-- A client updates bytes of a file, and views them, each under a lock. The log has the openings of the file, and no locks.
use Rattle.std.specs.Prelude.{true, List, ◌∷◌}
use Rattle.rz_events.specs.declared.ends.ReadEnd.TheVariants as read
use Rattle.rz_events.specs.declared.ends.WriteEnd.TheVariants as write
use Rattle.rz_events.specs.declared.events.Answer.TheVariants as answers
use Rattle.rz_events.specs.declared.events.Event.{Event}
use Rattle.rz_events.specs.declared.events.Event.TheVariants as e
use Rattle.rz_examples.specs.Plain.{one, block, hello}
use Rattle.rz_examples.specs.Ordinary.{opened, begun, kept_at, accepted_on, looked, fetched_at, with_file}
use Rattle.rz_examples.specs.Ranged.{hole_looked, hole_got}

-- the bytes are locked by another, so the file is opened again
abbrev pub with_lock : List Event
with_lock = opened 0 ∷ opened 0 ∷ with_file

abbrev pub with_update_begun : List Event
with_update_begun = begun ∷ hole_got 2 0 ∷ hole_looked 0 ∷ with_lock

abbrev pub with_update_kept : List Event
with_update_kept = kept_at 3 2 ∷ kept_at 2 1 ∷ kept_at 1 0 ∷ with_update_begun

abbrev pub part_acked : Event
part_acked = e.Gave one 2 block true (write.Acked 1 7)

abbrev pub updated : List Event
updated = e.Done one 2 (answers.Wrote 5) ∷ part_acked ∷ accepted_on 7 ∷ with_update_kept

abbrev pub part_found : Event
part_found = e.Got one 3 block true (read.Found 1 hello)

abbrev pub with_view : List Event
with_view = fetched_at 2 1 ∷ fetched_at 1 0 ∷ looked ∷ opened 5 ∷ updated

abbrev pub viewed : List Event
viewed = e.Done one 3 (answers.Read hello) ∷ part_found ∷ with_view
