-- The text of a log.
use Rattle.std.specs.Prelude.{ℕ, Bool, if◌then◌else◌, List, [], ◌∷◌, ◌++◌, codes, length}
use Rattle.std.specs.Fmt.{decimal}
use Rattle.rz_events.specs.declared.events.Event.{Event}
use Rattle.rz_events.specs.declared.events.Event.TheVariants as e
use Rattle.rz_events.specs.Events.{by_of}
use Rattle.rz_show.specs.Words.{actor_line, node_line}
use Rattle.rz_show.specs.Ends.{write_words, read_words, answer_words}
use Rattle.rz_show.specs.Opened.{positions}

-- The line of an event of an actor whose file has so many positions. The ends of operations, of blocks that are no part of
-- one, and the starts of nodes have a line; all other events have none.
unfoldable pub line : ℕ → Event → List ℕ
line positions (e.Got by number key part end) = if part then [] else actor_line by number (read_words positions end)
line positions (e.Gave by number key part end) = if part then [] else actor_line by number (write_words positions end)
line positions (e.Done by number answer) = actor_line by number (answer_words positions answer)
line positions (e.Start node took) = node_line node (codes "started" ∷ decimal (if took then 1 else 0) ∷ [])
line positions (e.Unopened node cause) = node_line node (codes "unopened" ∷ decimal cause ∷ [])
line positions _ = []

-- the lines of events in their order, of which each stands after those before it, the newest first
abbrev pub lines : List Event → List Event → List ℕ
lines before [] = []
lines before (x ∷ xs) = line (positions (by_of x) before) x ++ lines (x ∷ before) xs

-- the last line of a play that ended: how many events its log has
unfoldable pub end_line : ℕ → List ℕ
end_line events = codes "end " ++ decimal events ++ codes "\n"

-- the text of a log, the oldest event first
abbrev pub text_of : List Event → Bool → List ℕ
text_of log ended = lines [] log ++ (if ended then end_line (length log) else [])
