use Rattle.std.proofs.Common.{◌≡◌, map}
use Rattle.rz_store_file.proofs.Keys.{unknown_name}
use Rattle.rz_store_file.proofs.reading.unknown_key.Given as goal

abbrev pub invariant-loop-key : goal.invariant-loop-key
invariant-loop-key l =
    (goal.iterator-loop-key).can_next l.key-iterator × (goal.iterator-loop-key).is_finite l.key-iterator
    × (unknown_name l.key-iterator ≡ unknown_name (map (λ m. m.0) l.members.entries))
