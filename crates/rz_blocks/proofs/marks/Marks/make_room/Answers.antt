use Rattle.std.proofs.Common.{not, ap, ◌∙◌}
use Rattle.std.specs.Prelude.{◌||◌}
use Rattle.rz_blocks.specs.Marks.{is_marked, has_room, is_beside}
use Rattle.rz_blocks.specs.Rows.{rank}
use Rattle.rz_blocks.proofs.Written.{made-marks, made-room, made-rising, gap-none}
use Rattle.rz_blocks.proofs.marks.Marks.make_room.Goals as goal

pub invariant_of-self : goal.invariant_of-self
invariant_of-self c =
    made-rising c.self.inside.rows c.insert.new.self c.find-at.result.0 c.args.list c.args.key c.bare-row.result c.in_ok-insert.ensures.ok
    c.bare-row.ensures.list c.bare-row.ensures.fid c.bare-row.ensures.index c.bare-row.ensures.word c.bare-row.ensures.small
    (gap-none (rank c.bare-row.result) c.self.inside.rows c.find-at.result.0 c.find-at.result.1 (c.is_none.ensures ∙ ap not c.if-is_none.true) c.find-at.ensures.there)

pub returns-in_ok-insert-clause-marks : goal.returns-in_ok-insert-clause-marks
returns-in_ok-insert-clause-marks c =
    λ l q. made-marks c.self.inside.rows c.insert.new.self c.find-at.result.0 c.args.list c.args.key c.bare-row.result c.in_ok-insert.ensures.ok
    c.bare-row.ensures.list c.bare-row.ensures.fid c.bare-row.ensures.index c.bare-row.ensures.word l q
    ∙ ap (λ rows. is_marked rows l q) c.self.view_is

pub returns-in_ok-insert-clause-room : goal.returns-in_ok-insert-clause-room
returns-in_ok-insert-clause-room c =
    λ l q. made-room c.self.inside.rows c.insert.new.self c.find-at.result.0 c.args.list c.args.key c.bare-row.result c.in_ok-insert.ensures.ok
    c.bare-row.ensures.list c.bare-row.ensures.fid c.bare-row.ensures.index c.bare-row.ensures.word l q
    ∙ ap (λ rows. has_room rows l q || is_beside c.args.list c.args.key l q) c.self.view_is
