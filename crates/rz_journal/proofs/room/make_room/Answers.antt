-- The parts of the export in the place of all entries keep it.
use Rattle.std.proofs.Common.{◌+◌, ◌-◌, length, ◌∙◌, arith}
use Rattle.rz_journal.specs.Room.{bytes_of, part_entries}
use Rattle.rz_journal.proofs.Keepings.{row_long, no_room, full_halt, room_there, replaced_images, replaced_text}
use Rattle.rz_journal.proofs.Makings.{makes_parts}
use Rattle.rz_journal.proofs.room.make_room.Goals as goal

pub returns-then-need-gt-HALF_BYTES-clause-halted : goal.returns-then-need-gt-HALF_BYTES-clause-halted
returns-then-need-gt-HALF_BYTES-clause-halted g c =
    let s = c.args.export.now in
    let used = c.args.entries.now.used in
    let row = length c.args.row.now in
    let past = no_room c.has_room.result used row c.has_room.ensures c.if-has_room.false in
    let long = row_long (part_entries s) c.in-Ok.parts.items c.in-Ok.ensures in
    full_halt s used row (length c.in-Ok.parts.items) _ past long (omega arith) (omega arith)

pub returns-in-Ok-compact-clause-ready : goal.returns-in-Ok-compact-clause-ready
returns-in-Ok-compact-clause-ready g c =
    let s = c.args.export.now in
    let old = c.args.entries.now in
    let new = c.compact.new.self in
    let is = c.in-Ok.ensures in
    let spelled = c.as_slice.ensures.value ∙ is.1 in
    record {
      is_open = c.in-Ok-compact.ensures.open (bytes_of (part_entries s)) spelled;
      keeps = λ told.
          replaced_text g.D.Disk.tells (g.D.Disk.text old.disk) (g.D.Disk.image old.disk) old.half old.used s c.requires.ready c.in-Ok.parts.items is (makes_parts s (c.parts_make_it.ensures s c.requires.ready.whole)) told
          (g.D.Disk.text new.disk) (c.in-Ok-compact.ensures.done told (bytes_of (part_entries s)) spelled);
      whole = c.requires.ready.whole;
    }

pub returns-in-Ok-compact-clause-fits : goal.returns-in-Ok-compact-clause-fits
returns-in-Ok-compact-clause-fits g c =
    let s = c.args.export.now in
    let long = row_long (part_entries s) c.in-Ok.parts.items c.in-Ok.ensures in
    room_there s c.args.entries.now.used (length c.args.row.now) (length c.in-Ok.parts.items) ((length c.in-Ok.parts.items - 1) + length c.args.row.now) long (omega arith) (omega arith)

pub returns-in-Ok-compact-clause-images : goal.returns-in-Ok-compact-clause-images
returns-in-Ok-compact-clause-images g c told =
    let s = c.args.export.now in
    let old = c.args.entries.now in
    let is = c.in-Ok.ensures in
    replaced_images g.D.Disk.tells (g.D.Disk.text old.disk) (g.D.Disk.image old.disk) old.half old.used s c.requires.ready c.in-Ok.parts.items is (makes_parts s (c.parts_make_it.ensures s c.requires.ready.whole)) told
    (g.D.Disk.image c.compact.new.self.disk) (c.compact.ensures.crash told (bytes_of (part_entries s)) (c.as_slice.ensures.value ∙ is.1))

pub returns-clause-halted : goal.returns-clause-halted
returns-clause-halted g c =
    let s = c.args.export.now in
    let long = row_long (part_entries s) c.in-Ok.parts.items c.in-Ok.ensures in
    room_there s c.args.entries.now.used (length c.args.row.now) (length c.in-Ok.parts.items) ((length c.in-Ok.parts.items - 1) + length c.args.row.now) long (omega arith) (omega arith)

pub returns-clause-images : goal.returns-clause-images
returns-clause-images g c told =
    let s = c.args.export.now in
    let old = c.args.entries.now in
    let is = c.in-Ok.ensures in
    replaced_images g.D.Disk.tells (g.D.Disk.text old.disk) (g.D.Disk.image old.disk) old.half old.used s c.requires.ready c.in-Ok.parts.items is (makes_parts s (c.parts_make_it.ensures s c.requires.ready.whole)) told
    (g.D.Disk.image c.compact.new.self.disk) (c.compact.ensures.crash told (bytes_of (part_entries s)) (c.as_slice.ensures.value ∙ is.1))
