-- Histories in which something goes wrong that an honest store tells of: a lost message, nodes that are down, a read
-- that comes to too few records, and a file that goes.
use Rattle.std.specs.Prelude.{ℕ, true, false, List, ◌∷◌, Some, None, replicate}
use Rattle.rz_events.specs.declared.records.Change.TheVariants as change
use Rattle.rz_events.specs.declared.tree.TreeCall.TheVariants as call
use Rattle.rz_events.specs.declared.tree.TreeReply.TheVariants as reply
use Rattle.rz_events.specs.declared.ends.Why.{Why}
use Rattle.rz_events.specs.declared.ends.Why.TheVariants as why
use Rattle.rz_events.specs.declared.ends.Seen.{Seen}
use Rattle.rz_events.specs.declared.ends.Seen.TheVariants as seen
use Rattle.rz_events.specs.declared.ends.ReadEnd.TheVariants as read
use Rattle.rz_events.specs.declared.ends.WriteEnd.TheVariants as write
use Rattle.rz_events.specs.declared.events.Answer.TheVariants as answers
use Rattle.rz_events.specs.declared.events.Event.{Event}
use Rattle.rz_events.specs.declared.events.Event.TheVariants as e
use Rattle.rz_examples.specs.Plain.{one, path, block, file}
use Rattle.rz_examples.specs.Ordinary.{opened, begun, kept_at, accepted_on, looked, hello_published, fetched_at, with_file, with_begin, with_write}
use Rattle.rz_examples.specs.Mended.{with_disk}

-- node 1 kept the record, and its reply was lost
abbrev pub with_loss : List Event
with_loss = e.Missed one 1 true ∷ kept_at 1 0 ∷ with_begin

abbrev pub with_three : List Event
with_three = kept_at 4 3 ∷ kept_at 3 2 ∷ kept_at 2 1 ∷ with_loss

-- the client goes on with the other nodes
abbrev pub lost_reply : List Event
lost_reply = e.Gave one 2 block false (write.Acked 1 14) ∷ accepted_on 14 ∷ with_three

abbrev pub down_at : ℕ → Event
down_at node = e.Refused one node why.Down 0

abbrev pub short_causes : List Why
short_causes = why.Down ∷ why.Down ∷ replicate 14 why.NotAsked

-- two nodes are down: one more than a write can spare
abbrev pub short_write : List Event
short_write =
    e.Gave one 2 block false (write.TooFew short_causes) ∷ down_at 2 ∷ down_at 1 ∷ begun ∷ opened 0 ∷ e.Stop 2 ∷ e.Stop 1 ∷ with_file

abbrev pub none_at : ℕ → ℕ → Event
none_at node position = e.Fetch one node block position 1 None

abbrev pub lost_at : ℕ → Event
lost_at node = e.Refused one node why.Lost 0

abbrev pub looked_again : Event
looked_again = e.Recheck one block (Some hello_published)

abbrev pub short_outcomes : List Seen
short_outcomes = seen.Nothing ∷ seen.Lost ∷ seen.Held ∷ seen.Nothing ∷ replicate 12 seen.NotAsked

-- Node 1 has a new disk, which is empty; node 2 is lost; node 4 never had a record.
abbrev pub with_few : List Event
with_few = none_at 4 3 ∷ fetched_at 3 2 ∷ lost_at 2 ∷ none_at 1 0 ∷ looked ∷ opened 5 ∷ e.Lose 2 1 ∷ with_disk

-- the reader looks again, and nothing else is published
abbrev pub short_read : List Event
short_read = e.Got one 3 block false (read.TooFew short_outcomes) ∷ looked_again ∷ with_few

-- the file's one name goes
abbrev pub gone : Event
gone = e.Meta one (call.Unlink path) (reply.Gone (Some (file 5)))

-- a record of the block is dropped at a node
abbrev pub dropped_at : ℕ → Event
dropped_at node = e.Did one node (change.Drop block 1)

-- its records are dropped, of which the message to node 3 is lost
abbrev pub unlinked : List Event
unlinked = e.Done one 3 answers.Plain ∷ e.Void one 4 1 ∷ e.Missed one 3 false ∷ dropped_at 2 ∷ dropped_at 1 ∷ gone ∷ with_write
