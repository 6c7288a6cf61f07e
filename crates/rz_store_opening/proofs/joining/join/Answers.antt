use Rattle.std.proofs.Common.{ℕ, ◌≡◌, List, length, sym, ap, subst}
use Rattle.rz_events.specs.Volume.{Volume}
use Rattle.rz_events.specs.declared.events.Event.{Event}
use Rattle.rz_metadata.specs.Stands.{CountsFaults}
use Rattle.rz_shared_locked.specs.LockedExports.{AreTextsOfBytes, faults_of}
use Rattle.rz_shared.specs.declared.resuming.OpenedParts.{OpenedParts}
use Rattle.rz_store_opening.specs.Opening.{IsAfterPast, IsOpenedOnSome}
use Rattle.rz_store_opening.proofs.Joinings.{are-ready, count-missing, count-nodes, goes-legal, reopened-on}
use Rattle.rz_store_opening.proofs.joining.join.Goals as goal

pub named-requires-clause-legal : goal.named-requires-clause-legal
named-requires-clause-legal g c = λ on.
    (reopened-on g.D.Disk.tells g.D.Disk.meter g.D.Disk.text g.D.Disk.image g.J.Naming.kind g.J.Naming.earlier (faults_of g.J.Metering.journal) c.args.opened
    (subst (λ (v : Volume). IsAfterPast g.D.Disk.tells g.D.Disk.meter g.D.Disk.text g.D.Disk.image v (faults_of g.J.Metering.journal) g.J.Naming.earlier c.args.opened) c.requires.volume (c.requires.goes_on (goes-legal g.J.Naming.kind on)))).back.back.restart.legal

pub hand_back-requires-clause-count : goal.hand_back-requires-clause-count
hand_back-requires-clause-count g c = count-missing g.D.Disk.tells g.D.Disk.meter g.D.Disk.text g.D.Disk.image c.args.volume.now c.requires.opened.0 c.args.opened c.requires.opened.3.nodes

pub after-requires-clause-ready : goal.after-requires-clause-ready
after-requires-clause-ready g c =
    are-ready g.D.Disk.tells g.D.Disk.meter g.D.Disk.text g.D.Disk.image g.J.Naming.kind g.J.Naming.earlier (faults_of g.J.Metering.journal) c.args.opened c.ready.ensures g.J.Metering.first c.requires.first g.J.Metering.journal
    (subst (λ (v : Volume). IsOpenedOnSome g.D.Disk.tells g.D.Disk.meter g.D.Disk.text g.D.Disk.image v g.J.Metering.journal c.args.opened) c.requires.volume c.requires.opened)
    (λ keeps. subst (λ (v : Volume). IsAfterPast g.D.Disk.tells g.D.Disk.meter g.D.Disk.text g.D.Disk.image v (faults_of g.J.Metering.journal) g.J.Naming.earlier c.args.opened) c.requires.volume (c.requires.goes_on keeps))
    c.in-Ok.crew.desk.nodes.items c.in-Ok.ensures.nodes

pub after-requires-clause-count : goal.after-requires-clause-count
after-requires-clause-count g c = count-nodes g.D.Disk.tells g.D.Disk.meter g.D.Disk.text g.D.Disk.image c.args.volume.now c.requires.opened.0 c.args.opened c.requires.opened.3.nodes

pub after-requires-clause-counted : goal.after-requires-clause-counted
after-requires-clause-counted g c = subst (λ (n : ℕ). CountsFaults g.D.Disk.meter n c.args.opened.parts.metadata) (ap faults_of (sym c.requires.opened.2)) c.requires.opened.3.counted

pub after-requires-clause-bytes : goal.after-requires-clause-bytes
after-requires-clause-bytes g c = λ keeps. (let past = c.requires.goes_on keeps in subst (λ (l : List Event). AreTextsOfBytes l) (sym past.3) past.2.bytes)

pub hand_back-requires-in-Err-clause-count : goal.hand_back-requires-in-Err-clause-count
hand_back-requires-in-Err-clause-count g c =
    subst (λ (o : OpenedParts g.row.D.Denot). length c.args.opened.missing.items ≡ length o.nodes.items) (sym c.in-Err.ensures.back)
    (count-missing g.D.Disk.tells g.D.Disk.meter g.D.Disk.text g.D.Disk.image c.args.volume.now c.requires.opened.0 c.args.opened c.requires.opened.3.nodes)
