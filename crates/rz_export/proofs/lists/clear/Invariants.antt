use Rattle.std.proofs.Common.{◌≡◌, ◌&&◌, ◌==◌, ℕ, not, take}
use Rattle.rz_events.specs.declared.keys.Key.{Key}
use Rattle.rz_blocks.specs.Marks.{is_marked, has_room}
use Rattle.rz_export.specs.Kept.{is_place}
use Rattle.rz_export.proofs.lists.clear.Given as goal

-- the lists of the nodes so far have nothing of the file
abbrev pub invariant-loop-place : goal.invariant-loop-place
invariant-loop-place l = record {
  marks : (n : ℕ) (q : Key) → is_marked l.listed n q ≡ (not (is_place n (take l.place-index l.places) && (q.fid == l.fid)) && is_marked l.initial.listed n q);
  room : (n : ℕ) (q : Key) → has_room l.listed n q ≡ (not (is_place n (take l.place-index l.places) && (q.fid == l.fid)) && has_room l.initial.listed n q);
}
