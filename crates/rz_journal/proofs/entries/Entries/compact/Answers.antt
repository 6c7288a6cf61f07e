-- The new entries stand in the other half.
use Rattle.std.proofs.Common.{◌-◌, length, ◌∙◌, ap, arith}
use Rattle.rz_journal.proofs.FramedRows.{length-row_bytes}
use Rattle.rz_journal.proofs.Changes.{known_list, either_half}
use Rattle.rz_journal.proofs.entries.Entries.compact.Goals as goal

pub returns-in_err-replace-clause-crash : goal.returns-in_err-replace-clause-crash
returns-in_err-replace-clause-crash g c told new spelled entries image stands left =
    let self = c.args.self.now in
    let at = known_list g.D.Disk.tells (g.D.Disk.text self.disk) (g.D.Disk.image self.disk) self.half self.used c.requires.open told entries stands in
    either_half self.half (1 - self.half) entries new image
    (c.replace.ensures.crash told entries new image spelled (omega (arith, c.requires.room, ap length spelled, length-row_bytes new)) at.0 left)

pub returns-clause-crash : goal.returns-clause-crash
returns-clause-crash g c told new spelled entries image stands left =
    let self = c.args.self.now in
    let at = known_list g.D.Disk.tells (g.D.Disk.text self.disk) (g.D.Disk.image self.disk) self.half self.used c.requires.open told entries stands in
    either_half self.half (1 - self.half) entries new image
    (c.replace.ensures.crash told entries new image spelled (omega (arith, c.requires.room, ap length spelled, length-row_bytes new)) at.0 left)

pub returns-clause-done : goal.returns-clause-done
returns-clause-done g c told new spelled entries stands =
    let self = c.args.self.now in
    let at = known_list g.D.Disk.tells (g.D.Disk.text self.disk) (g.D.Disk.image self.disk) self.half self.used c.requires.open told entries stands in
    (1 - self.half, c.in_ok-replace.ensures.done told entries new spelled (omega (arith, c.requires.room, ap length spelled, length-row_bytes new)) at.0)

pub returns-clause-open : goal.returns-clause-open
returns-clause-open g c new spelled = record {
  size = c.replace.ensures.size ∙ c.requires.open.size;
  settled = c.in_ok-replace.ensures.settled;
  small = omega arith;
  room = omega (arith, c.requires.room, c.requires.some);
  holds = λ told.
      let mine = c.requires.open.holds told in (
        new,
        c.in_ok-replace.ensures.done told mine.0 new spelled (omega (arith, c.requires.room, ap length spelled, length-row_bytes new)) mine.1,
        omega (arith, ap length spelled, length-row_bytes new),
      );
}
