-- Rebuilds of node 1 that another rebuild, another loss or a failure ends.
use Rattle.std.specs.Prelude.{ℕ, false, List, [], ◌∷◌, Some}
use Rattle.rz_events.specs.declared.keys.Actor.{Actor}
use Rattle.rz_events.specs.declared.ends.Why.TheVariants as why
use Rattle.rz_events.specs.declared.ends.Denial.TheVariants as denial
use Rattle.rz_events.specs.declared.ends.LeftWhy.TheVariants as left
use Rattle.rz_events.specs.declared.ends.RebuildEnd.{RebuildEnd}
use Rattle.rz_events.specs.declared.ends.RebuildEnd.TheVariants as rebuild
use Rattle.rz_events.specs.declared.export.Asked.TheVariants as asked
use Rattle.rz_events.specs.declared.events.Answer.TheVariants as answers
use Rattle.rz_events.specs.declared.events.Event.{Event}
use Rattle.rz_events.specs.declared.events.Event.TheVariants as e
use Rattle.rz_examples.specs.Plain.{mender, rival, third, block}
use Rattle.rz_examples.specs.Mended.{none_left, with_sources}

abbrev pub ends_with : Actor → RebuildEnd → Event
ends_with by end = e.Done by 1 (answers.Rebuild end)

-- Rebuilds of a store that has no file yet.

abbrev pub lost_as : ℕ → Event
lost_as loss = e.Lose 1 loss

abbrev pub probed_by : Actor → ℕ → Event
probed_by by loss = e.Probe by 1 (Some loss)

-- each new loss gets a new fence: 1, and then 2
abbrev pub enrolled_by : Actor → ℕ → Event
enrolled_by by loss = e.Enroll by 1 loss loss

abbrev pub replaced_by : Actor → ℕ → Event
replaced_by by loss = e.Replace by 1 loss loss

-- two rebuilders enroll one loss, and are given one fence
abbrev pub with_both_enrolled : List Event
with_both_enrolled = enrolled_by rival 1 ∷ enrolled_by mender 1 ∷ probed_by rival 1 ∷ probed_by mender 1 ∷ lost_as 1 ∷ []

-- one of them replaces the disk
abbrev pub with_one_replaced : List Event
with_one_replaced = replaced_by mender 1 ∷ with_both_enrolled

-- and the other one is told that the node is not lost
abbrev pub not_lost : Event
not_lost = e.Refused rival 1 why.NotLost 0

abbrev pub replaced_twice : List Event
replaced_twice = ends_with rival rebuild.NotLost ∷ not_lost ∷ with_one_replaced

-- or that it was lost once more
abbrev pub other_loss : Event
other_loss = e.Refused rival 1 why.OtherLoss 2

abbrev pub lost_anew : List Event
lost_anew = ends_with rival (rebuild.OtherLoss 2) ∷ other_loss ∷ lost_as 2 ∷ with_one_replaced

-- the new disk fails
abbrev pub disk_fault : Event
disk_fault = e.Refused mender 1 why.DiskFault 0

abbrev pub not_replaced : List Event
not_replaced = ends_with mender rebuild.DiskFault ∷ disk_fault ∷ enrolled_by mender 1 ∷ probed_by mender 1 ∷ lost_as 1 ∷ []

-- a loss is enrolled after a greater one of the node
abbrev pub old_loss : Event
old_loss = e.Denied rival (asked.Enroll 1 1) (denial.OldLoss 2)

abbrev pub with_new_loss : List Event
with_new_loss =
    enrolled_by third 2 ∷ probed_by third 2 ∷ lost_as 2 ∷ replaced_by mender 1 ∷ enrolled_by mender 1 ∷ probed_by rival 1 ∷ probed_by mender 1
    ∷ lost_as 1 ∷ []

abbrev pub enrolled_late : List Event
enrolled_late = ends_with rival (rebuild.Denied (denial.OldLoss 2)) ∷ old_loss ∷ with_new_loss

-- Rebuilds that have read the block.

-- the node is lost again
abbrev pub refill_lost : Event
refill_lost = e.Refused mender 1 why.Lost 0

abbrev pub lost_again : List Event
lost_again = ends_with mender rebuild.LostAgain ∷ refill_lost ∷ lost_as 2 ∷ with_sources

-- and gets a disk with the fence 3
abbrev pub with_other_fence : List Event
with_other_fence = e.Replace rival 1 2 3 ∷ e.Enroll rival 1 2 3 ∷ probed_by rival 2 ∷ lost_as 2 ∷ with_sources

abbrev pub other_fence : Event
other_fence = e.Refused mender 1 why.OtherFence 3

abbrev pub refilled_late : List Event
refilled_late = ends_with mender (rebuild.OtherFence 3) ∷ other_fence ∷ with_other_fence

-- the message with the refill is lost
abbrev pub refill_missed : Event
refill_missed = e.Missed mender 1 false

abbrev pub block_left : Event
block_left = e.Left mender block left.Missed

abbrev pub left_behind : List Event
left_behind = ends_with mender (rebuild.Left 2 0 1) ∷ none_left ∷ block_left ∷ refill_missed ∷ with_sources
