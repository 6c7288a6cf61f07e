use Rattle.std.proofs.Common.{◌≡◌, map}
use Rattle.rz_config.proofs.Keys.{unknown_name}
use Rattle.rz_config.proofs.parts.unknown_key.Given as goal

abbrev pub invariant-loop-key : goal.invariant-loop-key
invariant-loop-key l =
    (goal.iterator-loop-key).can_next l.key-iterator × (goal.iterator-loop-key).is_finite l.key-iterator
    × (unknown_name l.kind l.key-iterator ≡ unknown_name l.kind (map (λ m. m.0) l.members.entries))
