use Rattle.std.proofs.Common.{◌≡◌, ℕ, true, take}
use Rattle.rz_events.specs.declared.keys.Key.{Key}
use Rattle.rz_blocks.specs.Marks.{is_marked, has_room}
use Rattle.rz_export.specs.Kept.{AreRoomy}
use Rattle.rz_export.proofs.lists.make_room.Given as goal

-- the lists of the nodes so far have room
abbrev pub invariant-loop-place : goal.invariant-loop-place
invariant-loop-place l = record {
  marks : (n : ℕ) (q : Key) → is_marked l.listed n q ≡ is_marked l.initial.listed n q;
  kept : (n : ℕ) (q : Key) → has_room l.initial.listed n q ≡ true → has_room l.listed n q ≡ true;
  room : AreRoomy l.listed (take l.place-index l.places) l.key;
}
