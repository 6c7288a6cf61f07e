-- The entries are those whose bytes are counted, and the new one stands behind them.
use Rattle.std.proofs.Common.{◌∙◌, arith}
use Rattle.rz_journal.specs.Stands.{with_last}
use Rattle.rz_journal.proofs.FramedRows.{taken_more}
use Rattle.rz_journal.proofs.Changes.{size_is, known_list, either_half, length-one}
use Rattle.rz_journal.proofs.entries.Entries.append.Goals as goal

pub add-requires-clause-range : goal.add-requires-clause-range
add-requires-clause-range g c = omega (arith, c.half_at-start.ensures, c.requires.open.size, c.requires.open.small, c.requires.room, size_is)

pub add-requires-clause-near : goal.add-requires-clause-near
add-requires-clause-near g c = omega (arith, c.half_at-start.ensures, c.requires.open.small, c.requires.open.room)

pub returns-in_err-add-clause-crash : goal.returns-in_err-add-clause-crash
returns-in_err-add-clause-crash g c told entry spelled entries image stands left =
    let self = c.args.self.now in
    let at = known_list g.D.Disk.tells (g.D.Disk.text self.disk) (g.D.Disk.image self.disk) self.half self.used c.requires.open told entries stands in
    either_half self.half self.half entries (with_last entry entries) image
    (c.add.ensures.crash told self.half entries entry image spelled (omega (arith, c.half_at-start.ensures, at.1)) (omega (arith, c.requires.room, at.1, length-one c.args.row.now entry spelled)) at.0 left)

pub returns-clause-crash : goal.returns-clause-crash
returns-clause-crash g c told entry spelled entries image stands left =
    let self = c.args.self.now in
    let at = known_list g.D.Disk.tells (g.D.Disk.text self.disk) (g.D.Disk.image self.disk) self.half self.used c.requires.open told entries stands in
    either_half self.half self.half entries (with_last entry entries) image
    (c.add.ensures.crash told self.half entries entry image spelled (omega (arith, c.half_at-start.ensures, at.1)) (omega (arith, c.requires.room, at.1, length-one c.args.row.now entry spelled)) at.0 left)

pub returns-clause-done : goal.returns-clause-done
returns-clause-done g c told entry spelled entries stands =
    let self = c.args.self.now in
    let at = known_list g.D.Disk.tells (g.D.Disk.text self.disk) (g.D.Disk.image self.disk) self.half self.used c.requires.open told entries stands in
    (self.half, c.in_ok-add.ensures.done told self.half entries entry spelled (omega (arith, c.half_at-start.ensures, at.1)) (omega (arith, c.requires.room, at.1, length-one c.args.row.now entry spelled)) at.0)

pub returns-clause-open : goal.returns-clause-open
returns-clause-open g c entry spelled =
    let self = c.args.self.now in
    record {
      size = c.add.ensures.size ∙ c.requires.open.size;
      settled = c.in_ok-add.ensures.settled;
      small = c.requires.open.small;
      room = omega (arith, c.requires.room, c.requires.some);
      holds = λ told.
          let mine = c.requires.open.holds told in (
            with_last entry mine.0,
            c.in_ok-add.ensures.done told self.half mine.0 entry spelled (omega (arith, c.half_at-start.ensures, mine.2)) (omega (arith, c.requires.room, mine.2, length-one c.args.row.now entry spelled)) mine.1,
            omega (arith, taken_more mine.0 entry, mine.2, length-one c.args.row.now entry spelled),
          );
    }
