use Rattle.std.proofs.Common.{◌∙◌, ap, List, subst, sym}
use Rattle.std.specs.List.{AllZip}
use Rattle.rz_events.specs.Volume.{Volume}
use Rattle.rz_script.specs.declared.line.Line.{Line}
use Rattle.rz_script.specs.Lines.{AreLines}
use Rattle.rz_chronicle.specs.Kinds.{volume_in}
use Rattle.rz_chronicle.specs.Rules.{PassView}
use Rattle.rz_threads_workers.specs.WorkerPool.{IsPoolWorker}
use Rattle.rz_run.proofs.setting_up.set_up.Goals as goal

pub make_pool-requires-clause-layout : goal.make_pool-requires-clause-layout
make_pool-requires-clause-layout g c = ap (λ (v : Volume). v.layout) (c.known.view_is ∙ (c.in-Ok.ensures.known ∙ (c.volume.ensures ∙ c.requires.volume)))

pub make_pool-requires-clause-lines : goal.make_pool-requires-clause-lines
make_pool-requires-clause-lines g c =
    subst (λ (ls : List Line). AreLines (volume_in g.J.Naming.kind) ls) (sym c.lines.ensures.value) (subst (λ (v : Volume). AreLines v c.args.script.now.lines) c.requires.volume c.lines.ensures.limits)

pub returns-in-Ok-make_pool-clause-staffed : goal.returns-in-Ok-make_pool-clause-staffed
returns-in-Ok-make_pool-clause-staffed g c =
    subst (λ (ps : List PassView). AllZip (IsPoolWorker g.J.Naming.kind c.args.script.now.lines) ps c.in-Ok-make_pool.pool.workers.items) c.in-Ok.ensures.passes
    (subst (λ (ls : List Line). AllZip (IsPoolWorker g.J.Naming.kind ls) c.in-Ok.named.passes.items c.in-Ok-make_pool.pool.workers.items) c.lines.ensures.value c.in-Ok-make_pool.ensures.staffed)
