-- The entries are added to a new export of the volume.
use Rattle.std.proofs.Common.{sym, ◌∙◌, ap, subst}
use Rattle.rz_events.specs.Volume.{Volume}
use Rattle.rz_export_model.specs.Export.{Export, new_export}
use Rattle.rz_journal.specs.Opening.{MakeExport, StopsAtEntry}
use Rattle.rz_journal.proofs.rebuilding.rebuild.Goals as goal

pub add_all-requires-clause-new : goal.add_all-requires-clause-new
add_all-requires-clause-new c =
    let same = ap (λ (x : Export). x.volume) c.in-Ok.ensures in
    c.in-Ok.ensures ∙ ap (λ (v : Volume). new_export v 0) (sym same)

pub returns-in-Ok-add_all-clause-rebuilt : goal.returns-in-Ok-add_all-clause-rebuilt
returns-in-Ok-add_all-clause-rebuilt c =
    let same = ap (λ (x : Export). x.volume) c.in-Ok.ensures in
    subst (λ (v : Volume). MakeExport v c.args.half.now c.in-Ok-add_all.used c.add_all.new.self.export) same c.in-Ok-add_all.ensures.rebuilt

pub returns-in-Err-clause-stopped : goal.returns-in-Err-clause-stopped
returns-in-Err-clause-stopped c =
    let same = ap (λ (x : Export). x.volume) c.in-Ok.ensures in
    subst (λ (v : Volume). StopsAtEntry v c.args.half.now c.in-Err.fault) same c.in-Err.ensures.stopped
