-- A record goes into its cell, and its version into the index.
use Rattle.std.proofs.Common.{◌+◌, ◌*◌, ℕ, List, Option, Some, refl, sym, ◌∙◌, ap, subst, arith}
use Rattle.std.specs.FinMap as maps
use Rattle.rz_events.specs.declared.records.Head.{Head}
use Rattle.rz_record.specs.Slot.{Rec}
use Rattle.rz_node_model.specs.Records.{record_of, stamp_of, with_held}
use Rattle.rz_versions.specs.declared.versions.Version.{Version}
use Rattle.rz_versions.specs.Sides.{Sides, in_order, put_at, Differ}
use Rattle.rz_versions.specs.Sides as sides
use Rattle.rz_cells_slots.specs.declared.geometry.Geometry.{Geometry}
use Rattle.rz_cells_slots.specs.Held.{in_cell}
use Rattle.rz_cells_slots.specs.Stands.{StandsEither, StandsChanged}
use Rattle.rz_node.specs.Kept.{held_by, sides_in, IsTied}
use Rattle.rz_node.proofs.Places.{placed}
use Rattle.rz_node.proofs.Puts.{tied-put, held-put, records-after, goes-put}
use Rattle.rz_node.proofs.Keeps.{gives-way}
use Rattle.rz_node.proofs.Spent.{took-as}
use Rattle.rz_node.proofs.Waits.{either-held, either-moved, apart-put, shown-put}
use Rattle.rz_node.proofs.keeping.put_in.Goals as goal

pub overflow_mul-cell : goal.overflow_mul-cell
overflow_mul-cell g c =
    let s = c.args.cells.now in
    let p = placed s.geometry.cells s.heads c.args.index.now c.requires.tied c.args.head.now.key c.args.entry c.requires.place in
    omega (arith, p.within, s.geometry_ok.few)

pub overflow_add-cell : goal.overflow_add-cell
overflow_add-cell g c =
    let s = c.args.cells.now in
    let p = placed s.geometry.cells s.heads c.args.index.now c.requires.tied c.args.head.now.key c.args.entry c.requires.place in
    omega (arith, p.within, s.geometry_ok.few, c.requires.side, c.from.ensures)

pub put-requires-clause-cell : goal.put-requires-clause-cell
put-requires-clause-cell g c =
    let s = c.args.cells.now in
    let p = placed s.geometry.cells s.heads c.args.index.now c.requires.tied c.args.head.now.key c.args.entry c.requires.place in
    omega (arith, p.within, c.requires.side, c.from.ensures)

pub put-requires-clause-goes : goal.put-requires-clause-goes
put-requires-clause-goes g c =
    let s = c.args.cells.now in
    let p = placed s.geometry.cells s.heads c.args.index.now c.requires.tied c.args.head.now.key c.args.entry c.requires.place in
    goes-put s.geometry.cells s.heads c.args.index.now c.requires.tied c.args.head.now c.args.entry p c.args.side (2 * c.args.entry.cell + c.from.result) c.requires.side (omega (arith, c.from.ensures)) s.heads_fit c.requires.differ

pub with-versions-requires-clause-other : goal.with-versions-requires-clause-other
with-versions-requires-clause-other g c =
    subst (λ (v : Version). Differ sides.version_stamp (sides.other c.args.entry.versions c.args.side) (Some v)) (sym c.version.ensures) c.requires.differ

pub set-requires : goal.set-requires
set-requires g c =
    let s = c.args.cells.now in
    let p = placed s.geometry.cells s.heads c.args.index.now c.requires.tied c.args.head.now.key c.args.entry c.requires.place in
    p.fits

pub returns-in-Ok-clause-stands : goal.returns-in-Ok-clause-stands
returns-in-Ok-clause-stands g c told =
    let s = c.args.cells.now in
    let p = placed s.geometry.cells s.heads c.args.index.now c.requires.tied c.args.head.now.key c.args.entry c.requires.place in
    let r : Rec = record { head = c.args.head.now; bins = c.args.bins.now } in
    let gone : ℕ → Option Head = λ n. in_cell s.heads (2 * c.args.entry.cell + n) in
    record {
      gone = in_cell s.heads (2 * c.args.entry.cell + c.args.side);
      way = gives-way s.geometry.cells s.heads c.args.index.now c.args.head.now.key c.args.entry p c.requires.open.apart c.args.side (Some r) c.requires.side;
      either = subst (λ (n : ℕ). StandsEither s.geometry s.fence (g.D.Disk.text s.disk) (g.D.Disk.image c.put.new.self.disk) (gone n) (Some r)) c.from.ensures (c.put.ensures.crash told).records;
      done = λ _. subst (λ (n : ℕ). StandsChanged s.geometry s.fence (g.D.Disk.text s.disk) (g.D.Disk.text c.put.new.self.disk) (gone n) (Some r)) c.from.ensures (c.in-Ok.ensures.done told).records;
      settled = λ _. c.in-Ok.ensures.open.settled;
    }

pub returns-in-Err-clause-stands : goal.returns-in-Err-clause-stands
returns-in-Err-clause-stands g c told =
    let s = c.args.cells.now in
    let p = placed s.geometry.cells s.heads c.args.index.now c.requires.tied c.args.head.now.key c.args.entry c.requires.place in
    let r : Rec = record { head = c.args.head.now; bins = c.args.bins.now } in
    let gone : ℕ → Option Head = λ n. in_cell s.heads (2 * c.args.entry.cell + n) in
    record {
      gone = in_cell s.heads (2 * c.args.entry.cell + c.args.side);
      way = gives-way s.geometry.cells s.heads c.args.index.now c.args.head.now.key c.args.entry p c.requires.open.apart c.args.side (Some r) c.requires.side;
      either = subst (λ (n : ℕ). StandsEither s.geometry s.fence (g.D.Disk.text s.disk) (g.D.Disk.image c.put.new.self.disk) (gone n) (Some r)) c.from.ensures (c.put.ensures.crash told).records;
      done = λ never. absurd (cc);
      settled = λ never. absurd (cc);
    }

pub returns-in-Ok-clause-tied : goal.returns-in-Ok-clause-tied
returns-in-Ok-clause-tied g c =
    let s = c.args.cells.now in
    let i = c.args.index.now in
    let h = c.args.head.now in
    let p = placed s.geometry.cells s.heads i c.requires.tied h.key c.args.entry c.requires.place in
    let versions = c.with-versions.ensures ∙ ap (λ (v : Version). put_at c.args.entry.versions c.args.side (Some v)) c.version.ensures in
    let entries = c.set.ensures.entries ∙ ap (λ (v : Sides Version). maps.insert i.entries h.key (record { key = h.key; cell = c.args.entry.cell; versions = v })) versions in
    subst (λ (y : Geometry). IsTied y.cells c.put.new.self.heads c.set.new.self) (sym c.put.ensures.geometry)
    (subst (λ (hs : List (Option Head)). IsTied s.geometry.cells hs c.set.new.self) (sym c.in-Ok.ensures.heads)
    (tied-put s.geometry.cells s.heads i c.requires.tied h c.args.entry p c.args.side (2 * c.args.entry.cell + c.from.result) c.requires.side (omega (arith, c.from.ensures)) s.heads_fit c.set.new.self entries c.set.ensures.free))

pub returns-in-Err-clause-tied : goal.returns-in-Err-clause-tied
returns-in-Err-clause-tied g c =
    let s = c.args.cells.now in
    subst (λ (y : Geometry). IsTied y.cells c.put.new.self.heads c.args.index.now) (sym c.put.ensures.geometry)
    (subst (λ (hs : List (Option Head)). IsTied s.geometry.cells hs c.args.index.now) (sym c.in-Err.ensures.heads) c.requires.tied)

pub returns-in-Ok-clause-held : goal.returns-in-Ok-clause-held
returns-in-Ok-clause-held g c =
    let s = c.args.cells.now in
    let i = c.args.index.now in
    let h = c.args.head.now in
    let p = placed s.geometry.cells s.heads i c.requires.tied h.key c.args.entry c.requires.place in
    let versions = c.with-versions.ensures ∙ ap (λ (v : Version). put_at c.args.entry.versions c.args.side (Some v)) c.version.ensures in
    let entries = c.set.ensures.entries ∙ ap (λ (v : Sides Version). maps.insert i.entries h.key (record { key = h.key; cell = c.args.entry.cell; versions = v })) versions in
    ap (λ (hs : List (Option Head)). held_by c.set.new.self.entries hs) c.in-Ok.ensures.heads
    ∙ held-put s.geometry.cells s.heads i c.requires.tied h c.args.entry p c.args.side (2 * c.args.entry.cell + c.from.result) c.requires.side (omega (arith, c.from.ensures)) s.heads_fit c.set.new.self.entries entries
    ∙ ap (with_held (held_by i.entries s.heads) h.key) (records-after s.geometry.cells s.heads i c.requires.tied h c.args.entry p c.args.side (2 * c.args.entry.cell + c.from.result) c.requires.side (omega (arith, c.from.ensures)) s.heads_fit)

pub returns-in-Err-clause-waits : goal.returns-in-Err-clause-waits
returns-in-Err-clause-waits g c told =
    let s = c.args.cells.now in
    let i = c.args.index.now in
    let h = c.args.head.now in
    let p = placed s.geometry.cells s.heads i c.requires.tied h.key c.args.entry c.requires.place in
    let r : Rec = record { head = h; bins = c.args.bins.now } in
    let rs = in_order stamp_of (put_at (sides_in s.heads c.args.entry.cell) c.args.side (Some (record_of h))) in
    either-moved s.geometry c.put.new.self.geometry s.fence c.put.new.self.fence (g.D.Disk.image c.put.new.self.disk) i i s.heads c.put.new.self.heads h.key rs
    c.put.ensures.geometry c.put.ensures.fence refl c.in-Err.ensures.heads
    (either-held s.geometry s.fence (g.D.Disk.text s.disk) (g.D.Disk.image c.put.new.self.disk) s.heads (2 * c.args.entry.cell + c.from.result) (Some r) i (with_held (held_by i.entries s.heads) h.key rs)
    c.requires.tied c.requires.open.apart
    (apart-put s.heads (2 * c.args.entry.cell + c.from.result) (omega (arith, p.within, c.requires.side, c.from.ensures, s.heads_fit)) c.requires.open.apart h
    (goes-put s.geometry.cells s.heads i c.requires.tied h c.args.entry p c.args.side (2 * c.args.entry.cell + c.from.result) c.requires.side (omega (arith, c.from.ensures)) s.heads_fit c.requires.differ))
    (c.requires.open.holds told) (c.put.ensures.crash told).cells
    (shown-put s.geometry.cells s.heads i c.requires.tied h c.args.entry p c.args.side (2 * c.args.entry.cell + c.from.result) c.requires.side (omega (arith, c.from.ensures)) s.heads_fit))

pub returns-in-Ok-clause-spends : goal.returns-in-Ok-clause-spends
returns-in-Ok-clause-spends g c = record {
  took = took-as 4 _ _ (g.D.Disk.meter c.args.cells.now.disk) (g.D.Disk.meter c.put.new.self.disk) refl c.in-Ok.ensures.meter.took;
  lasts = c.put.ensures.meter.lasts;
}

pub returns-in-Err-clause-spends : goal.returns-in-Err-clause-spends
returns-in-Err-clause-spends g c = record {
  took = took-as 4 _ _ (g.D.Disk.meter c.args.cells.now.disk) (g.D.Disk.meter c.put.new.self.disk) refl c.in-Err.ensures.meter.took;
  lasts = c.put.ensures.meter.lasts;
  risen = c.in-Err.ensures.meter.risen refl;
  own_risen = c.in-Err.ensures.meter.own_risen refl;
}
