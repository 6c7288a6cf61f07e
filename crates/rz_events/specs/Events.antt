-- Who did an event, and whose word it moves.
use Rattle.std.specs.Prelude.{Bool, true, false, ◌==◌, ◌&&◌}
use Rattle.rz_events.specs.declared.keys.Key.{Key}
use Rattle.rz_events.specs.declared.keys.Actor.{Actor}
use Rattle.rz_events.specs.declared.keys.Actor.TheVariants.{Client, Rebuilder, Admin}
use Rattle.rz_events.specs.declared.events.Word.{Word}
use Rattle.rz_events.specs.declared.events.Word.TheVariants.{Export, Node, Own}
use Rattle.rz_events.specs.declared.events.Event.{Event}
use Rattle.rz_events.specs.declared.events.Event.TheVariants as e

-- the actor of an event, the administrator where no actor is named
abbrev pub by_of : Event → Actor
by_of (e.Meta by call reply) = by
by_of (e.Begin by key stamp base text) = by
by_of (e.Denied by asked why) = by
by_of (e.Publish by key stamp mask refused) = by
by_of (e.Revoked by key stamp later) = by
by_of (e.Look by key answer) = by
by_of (e.Recheck by key answer) = by
by_of (e.Enroll by node loss fence) = by
by_of (e.Next by node after answer) = by
by_of (e.Did by node change) = by
by_of (e.Passed by node key stamp held) = by
by_of (e.Refused by node why told) = by
by_of (e.Fetch by node key position stamp answer) = by
by_of (e.Void by node fid) = by
by_of (e.Broke by node change) = by
by_of (e.Probe by node loss) = by
by_of (e.Armed node k pick) = Admin
by_of (e.Stop node) = Admin
by_of (e.Start node took) = Admin
by_of (e.Unopened node cause) = Admin
by_of (e.Lose node loss) = Admin
by_of (e.Replace by node loss fence) = by
by_of (e.Missed by node reply) = by
by_of (e.Left by key why) = by
by_of (e.Got by number key part end) = by
by_of (e.Gave by number key part end) = by
by_of (e.Done by number answer) = by

-- who owns the word that an event moves
abbrev pub word_of : Event → Word
word_of (e.Meta by call reply) = Export
word_of (e.Begin by key stamp base text) = Export
word_of (e.Denied by asked why) = Export
word_of (e.Publish by key stamp mask refused) = Export
word_of (e.Revoked by key stamp later) = Export
word_of (e.Look by key answer) = Export
word_of (e.Recheck by key answer) = Export
word_of (e.Enroll by node loss fence) = Export
word_of (e.Next by node after answer) = Export
word_of (e.Did by node change) = Node node
word_of (e.Passed by node key stamp held) = Node node
word_of (e.Refused by node why told) = Node node
word_of (e.Fetch by node key position stamp answer) = Node node
word_of (e.Void by node fid) = Node node
word_of (e.Broke by node change) = Node node
word_of (e.Probe by node loss) = Node node
word_of (e.Armed node k pick) = Node node
word_of (e.Stop node) = Node node
word_of (e.Start node took) = Node node
word_of (e.Unopened node cause) = Node node
word_of (e.Lose node loss) = Node node
word_of (e.Replace by node loss fence) = Node node
word_of (e.Missed by node reply) = Own by
word_of (e.Left by key why) = Own by
word_of (e.Got by number key part end) = Own by
word_of (e.Gave by number key part end) = Own by
word_of (e.Done by number answer) = Own by

abbrev pub same_key : Key → Key → Bool
same_key a b = (a.fid == b.fid) && (a.block == b.block)

abbrev pub same_actor : Actor → Actor → Bool
same_actor (Client a) (Client b) = a == b
same_actor (Rebuilder a) (Rebuilder b) = a == b
same_actor Admin Admin = true
same_actor _ _ = false

abbrev pub same_word : Word → Word → Bool
same_word Export Export = true
same_word (Node a) (Node b) = a == b
same_word (Own a) (Own b) = same_actor a b
same_word _ _ = false
