use Rattle.std.proofs.Common.{◌≡◌, ◌&&◌, ℕ, cond, take}
use Rattle.std.specs.Ordering.{is_eq}
use Rattle.rz_events.specs.Keys.{key_cmp}
use Rattle.rz_events.specs.declared.keys.Key.{Key}
use Rattle.rz_blocks.specs.Marks.{is_marked, has_room}
use Rattle.rz_export.specs.Nodes.{is_named}
use Rattle.rz_export.specs.Kept.{is_place}
use Rattle.rz_export.proofs.lists.mark.Given as goal

-- the lists of the nodes so far have the marks of the publish
abbrev pub invariant-loop-place : goal.invariant-loop-place
invariant-loop-place l = record {
  marks : (n : ℕ) (q : Key) → is_marked l.listed n q
      ≡ cond (is_place n (take l.place-index l.places) && is_eq (key_cmp l.key q)) (is_named n l.places l.published) (is_marked l.initial.listed n q);
  room : (n : ℕ) (q : Key) → has_room l.listed n q ≡ has_room l.initial.listed n q;
}
