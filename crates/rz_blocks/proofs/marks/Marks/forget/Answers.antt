use Rattle.std.proofs.Common.{◌-◌, ◌^◌, ◌++◌, ◌≤◌, not, take, drop, length, sym, ap, ◌∙◌, subst, arith}
use Rattle.std.specs.Prelude.{◌==◌, ◌&&◌}
use Rattle.rz_blocks.specs.Marks.{is_marked, has_room}
use Rattle.rz_blocks.specs.Rows.{rank}
use Rattle.rz_blocks.proofs.Forget.{from_fits, from-end, gone-fits, left-rising, left-marks, left-room}
use Rattle.rz_blocks.proofs.marks.Marks.forget.Goals as goal

pub split_off-gone-requires : goal.split_off-gone-requires
split_off-gone-requires c =
    record {
      place = from_fits c.self.inside.rows c.self.invariant c.args.list c.args.fid c.ranges.list.fits c.ranges.fid.fits (rank (record { list = c.args.list; fid = c.args.fid; index = 0; word = 0 })) (rank (record { list = c.args.list; fid = c.args.fid; index = 2 ^ 64 - 1; word = 0 }))
          c.count_before-from.result c.count_before-end.result (omega arith) (omega arith) c.count_before-from.ensures.count c.count_before-end.ensures.count;
    }

pub overflow_sub-end : goal.overflow_sub-end
overflow_sub-end c =
    from-end c.self.inside.rows c.self.invariant c.args.list c.args.fid c.ranges.list.fits c.ranges.fid.fits (rank (record { list = c.args.list; fid = c.args.fid; index = 0; word = 0 })) (rank (record { list = c.args.list; fid = c.args.fid; index = 2 ^ 64 - 1; word = 0 }))
    c.count_before-from.result c.count_before-end.result (omega arith) (omega arith) c.count_before-from.ensures.count c.count_before-end.ensures.count

pub split_off-behind-requires : goal.split_off-behind-requires
split_off-behind-requires c =
    record {
      place = subst (λ rows. c.count_before-end.result - c.count_before-from.result ≤ length rows) (sym c.split_off-gone.ensures.back)
          (gone-fits c.self.inside.rows c.self.invariant c.args.list c.args.fid c.ranges.list.fits c.ranges.fid.fits (rank (record { list = c.args.list; fid = c.args.fid; index = 0; word = 0 })) (rank (record { list = c.args.list; fid = c.args.fid; index = 2 ^ 64 - 1; word = 0 }))
          c.count_before-from.result c.count_before-end.result (omega arith) (omega arith) c.count_before-from.ensures.count c.count_before-end.ensures.count);
    }

pub invariant_of-self : goal.invariant_of-self
invariant_of-self c =
    left-rising c.self.inside.rows c.self.invariant c.args.list c.args.fid c.ranges.list.fits c.ranges.fid.fits (rank (record { list = c.args.list; fid = c.args.fid; index = 0; word = 0 })) (rank (record { list = c.args.list; fid = c.args.fid; index = 2 ^ 64 - 1; word = 0 }))
    c.count_before-from.result c.count_before-end.result (omega arith) (omega arith) c.count_before-from.ensures.count c.count_before-end.ensures.count
    c.append.new.self (c.append.ensures ∙ ap (λ rows. rows ++ c.split_off-behind.result) c.split_off-gone.ensures.front ∙ ap (λ rows. take c.count_before-from.result c.self.inside.rows ++ rows) (c.split_off-behind.ensures.back ∙ ap (drop (c.count_before-end.result - c.count_before-from.result)) c.split_off-gone.ensures.back))

pub returns-clause-marks : goal.returns-clause-marks
returns-clause-marks c =
    λ l q. left-marks c.self.inside.rows c.self.invariant c.args.list c.args.fid c.ranges.list.fits c.ranges.fid.fits (rank (record { list = c.args.list; fid = c.args.fid; index = 0; word = 0 })) (rank (record { list = c.args.list; fid = c.args.fid; index = 2 ^ 64 - 1; word = 0 }))
    c.count_before-from.result c.count_before-end.result (omega arith) (omega arith) c.count_before-from.ensures.count c.count_before-end.ensures.count
    c.append.new.self (c.append.ensures ∙ ap (λ rows. rows ++ c.split_off-behind.result) c.split_off-gone.ensures.front ∙ ap (λ rows. take c.count_before-from.result c.self.inside.rows ++ rows) (c.split_off-behind.ensures.back ∙ ap (drop (c.count_before-end.result - c.count_before-from.result)) c.split_off-gone.ensures.back)) l q
    ∙ ap (λ rows. not ((l == c.args.list) && (q.fid == c.args.fid)) && is_marked rows l q) c.self.view_is

pub returns-clause-room : goal.returns-clause-room
returns-clause-room c =
    λ l q. left-room c.self.inside.rows c.self.invariant c.args.list c.args.fid c.ranges.list.fits c.ranges.fid.fits (rank (record { list = c.args.list; fid = c.args.fid; index = 0; word = 0 })) (rank (record { list = c.args.list; fid = c.args.fid; index = 2 ^ 64 - 1; word = 0 }))
    c.count_before-from.result c.count_before-end.result (omega arith) (omega arith) c.count_before-from.ensures.count c.count_before-end.ensures.count
    c.append.new.self (c.append.ensures ∙ ap (λ rows. rows ++ c.split_off-behind.result) c.split_off-gone.ensures.front ∙ ap (λ rows. take c.count_before-from.result c.self.inside.rows ++ rows) (c.split_off-behind.ensures.back ∙ ap (drop (c.count_before-end.result - c.count_before-from.result)) c.split_off-gone.ensures.back)) l q
    ∙ ap (λ rows. not ((l == c.args.list) && (q.fid == c.args.fid)) && has_room rows l q) c.self.view_is
