-- A record leaves its cell, and its version the index.
use Rattle.std.proofs.Common.{◌+◌, ◌*◌, ℕ, List, Option, None, refl, sym, ◌∙◌, ap, subst, arith}
use Rattle.rz_events.specs.declared.records.Head.{Head}
use Rattle.rz_node_model.specs.Records.{stamp_of, with_held}
use Rattle.rz_versions.specs.Sides.{in_order, put_at}
use Rattle.rz_cells_slots.specs.declared.geometry.Geometry.{Geometry}
use Rattle.rz_cells_slots.specs.Held.{in_cell}
use Rattle.rz_cells_slots.specs.Stands.{StandsEither, StandsChanged}
use Rattle.rz_node.specs.Kept.{held_by, sides_in, IsTied}
use Rattle.rz_node.proofs.Places.{held-key}
use Rattle.rz_node.proofs.Clears.{cleared, records-after}
use Rattle.rz_node.proofs.Keeps.{gives-way}
use Rattle.rz_node.proofs.Spent.{took-as}
use Rattle.rz_node.proofs.Waits.{either-held, either-moved, apart-cleared, shown-cleared}
use Rattle.rz_node.proofs.dropping.clear_in.Goals as goal

pub overflow_mul-cell : goal.overflow_mul-cell
overflow_mul-cell g c =
    let s = c.args.cells.now in
    let e = c.args.entry in
    let p = held-key s.geometry.cells s.heads c.args.index.now c.requires.tied e.key e c.requires.there in
    omega (arith, p.within, s.geometry_ok.few)

pub overflow_add-cell : goal.overflow_add-cell
overflow_add-cell g c =
    let s = c.args.cells.now in
    let e = c.args.entry in
    let p = held-key s.geometry.cells s.heads c.args.index.now c.requires.tied e.key e c.requires.there in
    omega (arith, p.within, s.geometry_ok.few, c.requires.side, c.from.ensures)

pub clear-requires-clause-cell : goal.clear-requires-clause-cell
clear-requires-clause-cell g c =
    let s = c.args.cells.now in
    let e = c.args.entry in
    let p = held-key s.geometry.cells s.heads c.args.index.now c.requires.tied e.key e c.requires.there in
    omega (arith, p.within, c.requires.side, c.from.ensures)

pub note-requires : goal.note-requires
note-requires g c =
    let s = c.args.cells.now in
    let e = c.args.entry in
    let p = held-key s.geometry.cells s.heads c.args.index.now c.requires.tied e.key e c.requires.there in
    p.fits

pub returns-in-Ok-clause-stands : goal.returns-in-Ok-clause-stands
returns-in-Ok-clause-stands g c told =
    let s = c.args.cells.now in
    let e = c.args.entry in
    let p = held-key s.geometry.cells s.heads c.args.index.now c.requires.tied e.key e c.requires.there in
    let gone : ℕ → Option Head = λ n. in_cell s.heads (2 * e.cell + n) in
    record {
      gone = in_cell s.heads (2 * e.cell + c.args.side);
      way = gives-way s.geometry.cells s.heads c.args.index.now e.key e p c.requires.open.apart c.args.side None c.requires.side;
      either = subst (λ (n : ℕ). StandsEither s.geometry s.fence (g.D.Disk.text s.disk) (g.D.Disk.image c.clear.new.self.disk) (gone n) None) c.from.ensures (c.clear.ensures.crash told).records;
      done = λ _. subst (λ (n : ℕ). StandsChanged s.geometry s.fence (g.D.Disk.text s.disk) (g.D.Disk.text c.clear.new.self.disk) (gone n) None) c.from.ensures (c.in-Ok.ensures.done told).records;
      settled = λ _. c.in-Ok.ensures.open.settled;
    }

pub returns-in-Err-clause-stands : goal.returns-in-Err-clause-stands
returns-in-Err-clause-stands g c told =
    let s = c.args.cells.now in
    let e = c.args.entry in
    let p = held-key s.geometry.cells s.heads c.args.index.now c.requires.tied e.key e c.requires.there in
    let gone : ℕ → Option Head = λ n. in_cell s.heads (2 * e.cell + n) in
    record {
      gone = in_cell s.heads (2 * e.cell + c.args.side);
      way = gives-way s.geometry.cells s.heads c.args.index.now e.key e p c.requires.open.apart c.args.side None c.requires.side;
      either = subst (λ (n : ℕ). StandsEither s.geometry s.fence (g.D.Disk.text s.disk) (g.D.Disk.image c.clear.new.self.disk) (gone n) None) c.from.ensures (c.clear.ensures.crash told).records;
      done = λ never. absurd (cc);
      settled = λ never. absurd (cc);
    }

pub returns-in-Ok-clause-tied : goal.returns-in-Ok-clause-tied
returns-in-Ok-clause-tied g c =
    let s = c.args.cells.now in
    let e = c.args.entry in
    let p = held-key s.geometry.cells s.heads c.args.index.now c.requires.tied e.key e c.requires.there in
    let both = cleared s.geometry.cells s.heads c.args.index.now c.requires.tied e.key e c.requires.there p c.args.side (2 * e.cell + c.from.result) c.requires.side (omega (arith, c.from.ensures)) s.heads_fit c.note.new.index c.without-versions.result c.without-versions.ensures.sides c.note.ensures.left c.note.ensures.left_free c.note.ensures.gone c.note.ensures.gone_free in
    subst (λ (y : Geometry). IsTied y.cells c.clear.new.self.heads c.note.new.index) (sym c.clear.ensures.geometry)
    (subst (λ (hs : List (Option Head)). IsTied s.geometry.cells hs c.note.new.index) (sym c.in-Ok.ensures.heads) both.0)

pub returns-in-Err-clause-tied : goal.returns-in-Err-clause-tied
returns-in-Err-clause-tied g c =
    let s = c.args.cells.now in
    subst (λ (y : Geometry). IsTied y.cells c.clear.new.self.heads c.args.index.now) (sym c.clear.ensures.geometry)
    (subst (λ (hs : List (Option Head)). IsTied s.geometry.cells hs c.args.index.now) (sym c.in-Err.ensures.heads) c.requires.tied)

pub returns-in-Ok-clause-held : goal.returns-in-Ok-clause-held
returns-in-Ok-clause-held g c =
    let s = c.args.cells.now in
    let e = c.args.entry in
    let p = held-key s.geometry.cells s.heads c.args.index.now c.requires.tied e.key e c.requires.there in
    let both = cleared s.geometry.cells s.heads c.args.index.now c.requires.tied e.key e c.requires.there p c.args.side (2 * e.cell + c.from.result) c.requires.side (omega (arith, c.from.ensures)) s.heads_fit c.note.new.index c.without-versions.result c.without-versions.ensures.sides c.note.ensures.left c.note.ensures.left_free c.note.ensures.gone c.note.ensures.gone_free in
    ap (λ (hs : List (Option Head)). held_by c.note.new.index.entries hs) c.in-Ok.ensures.heads ∙ both.1
    ∙ ap (with_held (held_by c.args.index.now.entries s.heads) e.key) (records-after s.geometry.cells s.heads c.args.index.now c.requires.tied e.key e c.requires.there p c.args.side (2 * e.cell + c.from.result) c.requires.side (omega (arith, c.from.ensures)) s.heads_fit)

pub returns-in-Err-clause-waits : goal.returns-in-Err-clause-waits
returns-in-Err-clause-waits g c told =
    let s = c.args.cells.now in
    let i = c.args.index.now in
    let e = c.args.entry in
    let p = held-key s.geometry.cells s.heads i c.requires.tied e.key e c.requires.there in
    let rs = in_order stamp_of (put_at (sides_in s.heads e.cell) c.args.side None) in
    either-moved s.geometry c.clear.new.self.geometry s.fence c.clear.new.self.fence (g.D.Disk.image c.clear.new.self.disk) i i s.heads c.clear.new.self.heads e.key rs
    c.clear.ensures.geometry c.clear.ensures.fence refl c.in-Err.ensures.heads
    (either-held s.geometry s.fence (g.D.Disk.text s.disk) (g.D.Disk.image c.clear.new.self.disk) s.heads (2 * e.cell + c.from.result) None i (with_held (held_by i.entries s.heads) e.key rs)
    c.requires.tied c.requires.open.apart (apart-cleared s.heads (2 * e.cell + c.from.result) (omega (arith, p.within, c.requires.side, c.from.ensures, s.heads_fit)) c.requires.open.apart)
    (c.requires.open.holds told) (c.clear.ensures.crash told).cells
    (shown-cleared s.geometry.cells s.heads i c.requires.tied e.key e c.requires.there p c.args.side (2 * e.cell + c.from.result) c.requires.side (omega (arith, c.from.ensures)) s.heads_fit))

pub returns-in-Ok-clause-spends : goal.returns-in-Ok-clause-spends
returns-in-Ok-clause-spends g c = record {
  took = took-as 4 _ _ (g.D.Disk.meter c.args.cells.now.disk) (g.D.Disk.meter c.clear.new.self.disk) refl c.in-Ok.ensures.meter.took;
  lasts = c.clear.ensures.meter.lasts;
}

pub returns-in-Err-clause-spends : goal.returns-in-Err-clause-spends
returns-in-Err-clause-spends g c = record {
  took = took-as 4 _ _ (g.D.Disk.meter c.args.cells.now.disk) (g.D.Disk.meter c.clear.new.self.disk) refl c.in-Err.ensures.meter.took;
  lasts = c.clear.ensures.meter.lasts;
  risen = c.in-Err.ensures.meter.risen refl;
  own_risen = c.in-Err.ensures.meter.own_risen refl;
}
