use Rattle.std.proofs.Common.{Some, ap, ◌∙◌, arith}
use Rattle.std.specs.FinMap as maps
use Rattle.rz_blocks.specs.declared.blocks.BlockEntry.{BlockEntry}
use Rattle.rz_blocks.specs.Shown.{shown}
use Rattle.rz_blocks.proofs.Shows.{one-set}
use Rattle.rz_blocks.proofs.Marked.{roomier, room-made, rewritten}
use Rattle.rz_blocks.proofs.blocks.Blocks.add.Goals as goal

pub invariant_of-self-2 : goal.invariant_of-self-2
invariant_of-self-2 c =
    let e : BlockEntry = record { latest = c.args.latest; published = c.args.published } in
    rewritten c.self.inside.entries.entries c.insert.new.self.entries c.make_room.new.self c.set.new.self c.args.key (Some e) c.is_some.result
    (roomier c.self.inside.entries.entries c.self.inside.published c.make_room.new.self c.args.key c.self.invariant c.make_room.ensures.marks c.in_ok-make_room.ensures.room)
    c.in_ok-insert.ensures.updates.0 c.set.ensures.marks c.set.ensures.room c.is_some.ensures
    (λ _. room-made c.self.inside.published c.make_room.new.self c.args.key c.in_ok-make_room.ensures.room) (λ _. omega arith)

pub returns-clause-ok : goal.returns-clause-ok
returns-clause-ok c =
    let e : BlockEntry = record { latest = c.args.latest; published = c.args.published } in
    one-set c.self.inside.entries.entries c.insert.new.self.entries c.args.key e c.in_ok-insert.ensures.updates.0 ∙ ap (λ m. maps.insert m c.args.key (shown e)) c.self.view_is
