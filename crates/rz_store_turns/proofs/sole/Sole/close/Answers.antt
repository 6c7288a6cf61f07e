use Rattle.std.proofs.Common.{◌≡◌, ◌∙◌, ◌++◌, List, subst, ap}
use Rattle.std.specs.Prelude.{IfSome, is_some}
use Rattle.std.specs.List.{AllZip}
use Rattle.rz_events.specs.Volume.{nodes_of}
use Rattle.rz_events.specs.declared.events.Event.{Event}
use Rattle.rz_restart_laws.specs.Calls.{changing_calls}
use Rattle.rz_chronicle.specs.Kinds.{volume_in}
use Rattle.rz_shared_locked.specs.LockedExports.{AreTextsOfBytes, faults_of}
use Rattle.rz_store_turns.specs.Closed.{IsDiskHere, IsJournalLeft}
use Rattle.rz_store_turns.specs.Sole.{SoleView}
use Rattle.rz_store_turns.proofs.Leaving.{journal-there}
use Rattle.rz_store_turns.proofs.sole.Sole.close.Goals as goal

pub taken_apart-disks-requires-clause-volume : goal.taken_apart-disks-requires-clause-volume
taken_apart-disks-requires-clause-volume g c = c.self.invariant.cluster_is

pub returns-clause-journal : goal.returns-clause-journal
returns-clause-journal g c = λ legal told.
    let h : List Event = c.self.inside.pass.log ++ g.J.Naming.earlier in
    let left = journal-there g.D.Disk.tells g.D.Disk.meter g.D.Disk.image (faults_of g.J.Metering.journal) g.J.Naming.kind h legal told c.taken_apart-disks.result.1 c.into_disk.result c.refusal-refusal.result
    c.into_disk.ensures c.refusal-refusal.ensures c.taken_apart-disks.ensures.volume c.taken_apart-disks.ensures.metadata in
    subst (λ (s : SoleView). IfSome c.into_disk.result (IsJournalLeft g.D.Disk.image (volume_in g.J.Naming.kind) c.refusal-refusal.result (changing_calls (s.pass.log ++ g.J.Naming.earlier)))) c.self.view_is left

pub returns-clause-here : goal.returns-clause-here
returns-clause-here g c = λ legal.
    subst (λ (s : SoleView). AllZip (IsDiskHere (s.pass.log ++ g.J.Naming.earlier)) (nodes_of (volume_in g.J.Naming.kind).clusters) c.taken_apart-disks.result.0.items) c.self.view_is
    (c.taken_apart-disks.ensures.here legal)

pub returns-clause-journaled : goal.returns-clause-journaled
returns-clause-journaled g c = ap is_some c.into_disk.ensures ∙ c.taken_apart-disks.ensures.journal

pub returns-clause-texts : goal.returns-clause-texts
returns-clause-texts g c = λ legal.
    subst (λ (s : SoleView). AreTextsOfBytes (s.pass.log ++ g.J.Naming.earlier)) c.self.view_is (c.taken_apart-disks.ensures.texts legal)
