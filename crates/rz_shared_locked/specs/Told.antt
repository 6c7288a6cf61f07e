-- What a node tells that adds no event.
use Rattle.std.specs.Prelude.{ℕ, ◌≡◌, Bool, List}
use Rattle.std.specs.FinMap as maps
use Rattle.rz_events.specs.declared.keys.Key.{Key}
use Rattle.rz_events.specs.declared.events.Word.TheVariants.{Node}
use Rattle.rz_events.specs.declared.events.Event.{Event}
use Rattle.rz_node_model.specs.States.{NodeState}
use Rattle.rz_node_model.specs.Versions.{has_stamp}
use Rattle.rz_core.specs.History.{facts, of_word}
use Rattle.rz_core.specs.NodeWord.{held, itself}
use Rattle.rz_core.specs.Tied.{IsNode}

-- Of a whole log, with the earlier log behind the events of this run.

-- it leaves records of so many keys at node n
abbrev pub HoldsKeys : List Event → (n count : ℕ) → Type 0
HoldsKeys h n count = (s : NodeState) × IsNode (facts h) (of_word (Node n) h) s × (count ≡ maps.len s.held)

-- it leaves the record of the key with this stamp at node n
abbrev pub holds_record : List Event → ℕ → Key → ℕ → Bool
holds_record h n key stamp = has_stamp itself stamp (held (facts h) (of_word (Node n) h) key)
