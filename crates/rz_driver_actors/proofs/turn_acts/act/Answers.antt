use Rattle.std.proofs.Common.{◌≡◌, IsTrue, OnErr, Option, Some, refl, sym, ap, ◌∙◌, subst}
use Rattle.std.proofs.lemmas.Result.{on_ok_weaker, on_err_weaker}
use Rattle.rz_driver_actors.specs.Acts.{IsActorMessage, Exports, Opens, Sends, Says}
use Rattle.rz_events.specs.declared.export.Call.TheVariants as call
use Rattle.rz_events.specs.declared.tree.TreeCall.TheVariants as tree
use Rattle.rz_export_model.specs.Export.{export_reply}
use Rattle.rz_metadata.specs.Stands.{IsJournalOpen, export_in}
use Rattle.rz_operation.specs.Machine.{Machine, text_of, work_in}
use Rattle.rz_operation_model.specs.Ask.{Ask, ask_of}
use Rattle.rz_driver_asks.specs.Asked.{KeepsAsked, LeavesAsked, call_asked}
use Rattle.rz_player.specs.Messages.{IsAskSent, IsSent}
use Rattle.rz_driver_actors.specs.Stores.{Asks, AsksNothing}
use Rattle.rz_driver_actors.proofs.StoreLemmas.{ask-there, fate-stays, leaves-with-it, said-stays-export, same-store}
use Rattle.rz_driver_nodes.proofs.MeterLemmas.{still-err, metered-stays, still-left, export-stays, said-stays}
use Rattle.rz_driver_asks.specs.Locking.{IsOpenPart, open_reply}
use Rattle.rz_driver_asks.specs.Parts.{IsExportPart}
use Rattle.rz_driver_actors.specs.Hands.{StaysCoherent, LeavesUnchanged}
use Rattle.rz_driver_actors.proofs.ActCoherence.{still-keeps, still-unchanged, at-machine, at-unchanged, export-keeps, open-keeps, say-keeps}
use Rattle.rz_driver_nodes.proofs.CoherenceLemmas.{both-ok, on-err}
use Rattle.rz_driver_actors.proofs.turn_acts.act.Goals as goal

pub returns-in-Export-clause-ok : goal.returns-in-Export-clause-ok
returns-in-Export-clause-ok g c =
    let old = c.in-Some.machine in
    let new = c.ask_export.new.machine in
    let p = c.args.shared.now in
    on_ok_weaker c.ask_export.result
    (λ (part : IsExportPart c.args.by old new (export_in p.export) (export_in c.ask_export.new.export) p.log.events c.ask_export.new.log.events).
    Exports old new c.in-Some.is refl (record { todo = refl; number = refl }) refl refl part refl refl refl)
    c.ask_export.ensures.ok

pub returns-in-Lock-clause-ok : goal.returns-in-Lock-clause-ok
returns-in-Lock-clause-ok g c =
    let old = c.in-Some.machine in
    let new = c.open.new.machine in
    let p = c.args.shared.now in
    on_ok_weaker c.open.result
    (λ (part : IsOpenPart c.args.by old new (export_in p.export) (export_in c.open.new.export) p.locks c.open.new.locks c.args.agenda.now.lock c.open.new.held p.log.events c.open.new.log.events).
    Opens old new c.in-Some.is refl (record { todo = refl; number = refl }) refl part refl refl)
    c.open.ensures.ok

pub returns-in-Node-clause-ok : goal.returns-in-Node-clause-ok
returns-in-Node-clause-ok g c =
    let old = c.in-Some.machine in
    let new = c.message.new.machine in
    on_ok_weaker c.message.result
    (λ (sent : IsActorMessage c.args.by c.in-Node.node c.in-Node.ask old new c.args.agenda.now.miss c.message.new.miss c.args.shared.now c.message.new.shared).
    Sends old new c.in-Some.is refl (record { todo = refl; number = refl }) refl c.in-Node.node c.in-Node.ask c.in-Node.ensures sent)
    c.message.ensures.ok

pub returns-in_ok-done-in-Say-clause-ok : goal.returns-in_ok-done-in-Say-clause-ok
returns-in_ok-done-in-Say-clause-ok g c =
    Says c.in-Some.machine c.say.new.machine c.in-Some.is refl (record { todo = refl; number = refl }) refl c.in_ok-done-in-Say.done c.in_ok-done-in-Say.ensures.ok c.release_if.ensures refl refl refl

-- The link.

pub returns-in_default-clause-sent : goal.returns-in_default-clause-sent
returns-in_default-clause-sent g c =
    let p = c.args.shared.now in
    subst (λ (o : Option Machine). IsAskSent g.L.Link.says (ask_of c.args.layout (work_in o)) c.args.agenda.now.miss c.args.by c.args.link.now c.args.link.now p.log.events p.log.events) (sym c.in_default.is) refl

pub returns-in-Rest-clause-sent : goal.returns-in-Rest-clause-sent
returns-in-Rest-clause-sent g c =
    let p = c.args.shared.now in
    let there = ask-there c.args.layout c.args.agenda.now.machine c.in-Some.machine c.in-Some.is c.requires.machine in
    subst (λ (a : Ask). IsAskSent g.L.Link.says a c.args.agenda.now.miss c.args.by c.args.link.now c.args.link.now p.log.events p.log.events) (sym c.in-Rest.ensures ∙ there) refl

pub returns-in-Export-clause-sent : goal.returns-in-Export-clause-sent
returns-in-Export-clause-sent g c =
    let p = c.args.shared.now in
    let new = c.ask_export.new.machine in
    let there = ask-there c.args.layout c.args.agenda.now.machine c.in-Some.machine c.in-Some.is c.requires.machine in
    on_ok_weaker c.ask_export.result
    (λ (part : IsExportPart c.args.by c.in-Some.machine new (export_in p.export) (export_in c.ask_export.new.export) p.log.events c.ask_export.new.log.events).
    subst (λ (a : Ask). IsAskSent g.L.Link.says a c.args.agenda.now.miss c.args.by c.args.link.now c.args.link.now p.log.events c.ask_export.new.log.events) (sym part.1 ∙ there) refl)
    c.ask_export.ensures.ok

pub returns-in-Lock-clause-sent : goal.returns-in-Lock-clause-sent
returns-in-Lock-clause-sent g c =
    let p = c.args.shared.now in
    let new = c.open.new.machine in
    let there = ask-there c.args.layout c.args.agenda.now.machine c.in-Some.machine c.in-Some.is c.requires.machine in
    on_ok_weaker c.open.result
    (λ (part : IsOpenPart c.args.by c.in-Some.machine new (export_in p.export) (export_in c.open.new.export) p.locks c.open.new.locks c.args.agenda.now.lock c.open.new.held p.log.events c.open.new.log.events).
    subst (λ (a : Ask). IsAskSent g.L.Link.says a c.args.agenda.now.miss c.args.by c.args.link.now c.args.link.now p.log.events c.open.new.log.events) (sym part.4 ∙ there) refl)
    c.open.ensures.ok

pub returns-in-Node-clause-sent : goal.returns-in-Node-clause-sent
returns-in-Node-clause-sent g c =
    let p = c.args.shared.now in
    let there = ask-there c.args.layout c.args.agenda.now.machine c.in-Some.machine c.in-Some.is c.requires.machine in
    on_ok_weaker c.message.result
    (λ (sent : IsSent g.L.Link.says c.args.agenda.now.miss c.args.by c.in-Node.node c.in-Node.ask c.args.link.now c.message.new.link p.log.events c.message.new.shared.log.events).
    subst (λ (a : Ask). IsAskSent g.L.Link.says a c.args.agenda.now.miss c.args.by c.args.link.now c.message.new.link p.log.events c.message.new.shared.log.events) (sym c.in-Node.ensures ∙ there) sent)
    c.message.ensures.sent

pub returns-in_ok-done-in-Say-clause-sent : goal.returns-in_ok-done-in-Say-clause-sent
returns-in_ok-done-in-Say-clause-sent g c =
    let p = c.args.shared.now in
    let there = ask-there c.args.layout c.args.agenda.now.machine c.in-Some.machine c.in-Some.is c.requires.machine in
    subst (λ (a : Ask). IsAskSent g.L.Link.says a c.args.agenda.now.miss c.args.by c.args.link.now c.args.link.now p.log.events c.say.new.log.events) (sym c.in-Say.ensures.1 ∙ there) refl

-- The words beside the meters.

pub returns-in-Export-clause-held : goal.returns-in-Export-clause-held
returns-in-Export-clause-held g c =
    let p = c.args.shared.now in
    let h = p.log.events in
    let h' = c.ask_export.new.log.events in
    on_ok_weaker c.ask_export.result (λ (part : IsExportPart c.args.by c.in-Some.machine c.ask_export.new.machine (export_in p.export) (export_in c.ask_export.new.export) h h'). λ numbers first met.
    metered-stays g.D.Disk.meter first numbers p.servers.items h h' (export-stays c.args.by part.0 (export_reply (export_in p.export) part.0) h h' part.2.noted) met) c.ask_export.ensures.ok

pub returns-in-Export-clause-left : goal.returns-in-Export-clause-left
returns-in-Export-clause-left g c =
    let p = c.args.shared.now in
    on_err_weaker c.ask_export.result (λ (same : c.ask_export.new.log.events ≡ p.log.events). λ numbers first met.
    still-left g.D.Disk.meter first numbers p.servers.items p.log.events c.ask_export.new.log.events same met) c.ask_export.ensures.err

pub returns-in-Lock-clause-held : goal.returns-in-Lock-clause-held
returns-in-Lock-clause-held g c =
    let p = c.args.shared.now in
    let h = p.log.events in
    let h' = c.open.new.log.events in
    on_ok_weaker c.open.result
    (λ (part : IsOpenPart c.args.by c.in-Some.machine c.open.new.machine (export_in p.export) (export_in c.open.new.export) p.locks c.open.new.locks c.args.agenda.now.lock c.open.new.held h h'). λ numbers first met.
    metered-stays g.D.Disk.meter first numbers p.servers.items h h' (export-stays c.args.by (call.Tree (tree.OpenFile part.0)) (open_reply (export_in p.export) part.0) h h' part.5.1.noted) met) c.open.ensures.ok

pub returns-in-Lock-clause-left : goal.returns-in-Lock-clause-left
returns-in-Lock-clause-left g c =
    let p = c.args.shared.now in
    on_err_weaker c.open.result (λ (same : c.open.new.log.events ≡ p.log.events). λ numbers first met.
    still-left g.D.Disk.meter first numbers p.servers.items p.log.events c.open.new.log.events same met) c.open.ensures.err

pub returns-in_ok-done-in-Say-clause-held : goal.returns-in_ok-done-in-Say-clause-held
returns-in_ok-done-in-Say-clause-held g c = λ numbers first met.
    let p = c.args.shared.now in
    let part = c.in_ok-done-in-Say.ensures.ok in
    metered-stays g.D.Disk.meter first numbers p.servers.items p.log.events c.say.new.log.events (said-stays c.args.by c.args.agenda.now.number (text_of c.in-Some.machine) part.0 p.log.events c.say.new.log.events part.2.noted) met

pub returns-in_err-done-in-Say-clause-left : goal.returns-in_err-done-in-Say-clause-left
returns-in_err-done-in-Say-clause-left g c =
    let p = c.args.shared.now in
    still-err c.from_residual.result g.D.Disk.meter p.servers.items p.log.events c.say.new.log.events c.in_err-done-in-Say.ensures.err

-- Beside the log.

pub returns-in_default-clause-coherent : goal.returns-in_default-clause-coherent
returns-in_default-clause-coherent g c = λ told. still-keeps g.D.Disk.image c.args.by c.args.shared.now.servers.items c.args.agenda.now.machine c.args.shared.now.log.events

pub returns-in-Rest-clause-coherent : goal.returns-in-Rest-clause-coherent
returns-in-Rest-clause-coherent g c = λ told.
    let row = c.args.shared.now.servers.items in
    let h = c.args.shared.now.log.events in
    let m = c.in-Some.machine in
    at-machine g.D.Disk.image c.args.by row c.args.agenda.now.machine m m c.in-Some.is h row h (still-keeps g.D.Disk.image c.args.by row (Some m) h)

pub returns-in-Export-clause-coherent : goal.returns-in-Export-clause-coherent
returns-in-Export-clause-coherent g c =
    let p = c.args.shared.now in
    let h = p.log.events in
    let h' = c.ask_export.new.log.events in
    let m = c.in-Some.machine in
    let new = c.ask_export.new.machine in
    on_ok_weaker c.ask_export.result (λ (part : IsExportPart c.args.by m new (export_in p.export) (export_in c.ask_export.new.export) h h'). λ told.
    export-keeps g.D.Disk.image c.args.by p.servers.items c.longer.ensures c.told.ensures c.args.agenda.now.machine m new c.in-Some.is h h' (export_in p.export) (export_in c.ask_export.new.export) part) c.ask_export.ensures.ok

pub returns-in-Lock-clause-coherent : goal.returns-in-Lock-clause-coherent
returns-in-Lock-clause-coherent g c =
    let p = c.args.shared.now in
    let h = p.log.events in
    let h' = c.open.new.log.events in
    let m = c.in-Some.machine in
    let new = c.open.new.machine in
    on_ok_weaker c.open.result
    (λ (part : IsOpenPart c.args.by m new (export_in p.export) (export_in c.open.new.export) p.locks c.open.new.locks c.args.agenda.now.lock c.open.new.held h h'). λ told.
    open-keeps g.D.Disk.image c.args.by p.servers.items c.longer.ensures c.told.ensures c.args.agenda.now.machine m new c.in-Some.is h h' (export_in p.export) (export_in c.open.new.export) p.locks c.open.new.locks c.args.agenda.now.lock c.open.new.held part) c.open.ensures.ok

pub returns-in-Node-clause-coherent : goal.returns-in-Node-clause-coherent
returns-in-Node-clause-coherent g c =
    let p = c.args.shared.now in
    let q = c.message.new.shared in
    let m = c.in-Some.machine in
    let new = c.message.new.machine in
    on_ok_weaker c.message.result (λ (keeps : IsTrue g.D.Disk.tells → StaysCoherent g.D.Disk.image c.args.by (Some m) (Some new) p.servers.items p.log.events q.servers.items q.log.events). λ told.
    at-machine g.D.Disk.image c.args.by p.servers.items c.args.agenda.now.machine m new c.in-Some.is p.log.events q.servers.items q.log.events (keeps told)) c.message.ensures.coherent

pub returns-in_ok-done-in-Say-clause-coherent : goal.returns-in_ok-done-in-Say-clause-coherent
returns-in_ok-done-in-Say-clause-coherent g c = λ told.
    let p = c.args.shared.now in
    say-keeps g.D.Disk.image c.args.by p.servers.items c.longer.ensures c.told.ensures c.args.agenda.now.machine c.in-Some.machine c.say.new.machine c.in-Some.is p.log.events c.say.new.log.events c.args.agenda.now.number c.in_ok-done-in-Say.done c.in_ok-done-in-Say.ensures.ok

pub returns-in-Export-clause-unchanged : goal.returns-in-Export-clause-unchanged
returns-in-Export-clause-unchanged g c =
    let row = c.args.shared.now.servers.items in
    let h = c.args.shared.now.log.events in
    let P : Type 0 = IsTrue g.D.Disk.tells → LeavesUnchanged g.D.Disk.image c.args.by c.args.agenda.now.machine row h row in
    on-err {P = P} c.ask_export.result (λ told. still-unchanged g.D.Disk.image c.args.by row c.args.agenda.now.machine h)

pub returns-in-Lock-clause-unchanged : goal.returns-in-Lock-clause-unchanged
returns-in-Lock-clause-unchanged g c =
    let row = c.args.shared.now.servers.items in
    let h = c.args.shared.now.log.events in
    let P : Type 0 = IsTrue g.D.Disk.tells → LeavesUnchanged g.D.Disk.image c.args.by c.args.agenda.now.machine row h row in
    on-err {P = P} c.open.result (λ told. still-unchanged g.D.Disk.image c.args.by row c.args.agenda.now.machine h)

pub returns-in-Node-clause-unchanged : goal.returns-in-Node-clause-unchanged
returns-in-Node-clause-unchanged g c =
    let p = c.args.shared.now in
    let q = c.message.new.shared in
    let m = c.in-Some.machine in
    on_err_weaker c.message.result (λ (unchanged : IsTrue g.D.Disk.tells → LeavesUnchanged g.D.Disk.image c.args.by (Some m) p.servers.items p.log.events q.servers.items). λ told.
    at-unchanged g.D.Disk.image c.args.by p.servers.items c.args.agenda.now.machine m c.in-Some.is p.log.events q.servers.items (unchanged told)) c.message.ensures.unchanged

pub returns-in_err-done-in-Say-clause-unchanged : goal.returns-in_err-done-in-Say-clause-unchanged
returns-in_err-done-in-Say-clause-unchanged g c =
    let row = c.args.shared.now.servers.items in
    let h = c.args.shared.now.log.events in
    let P : Type 0 = IsTrue g.D.Disk.tells → LeavesUnchanged g.D.Disk.image c.args.by c.args.agenda.now.machine row h row in
    on-err {P = P} c.from_residual.result (λ told. still-unchanged g.D.Disk.image c.args.by row c.args.agenda.now.machine h)

-- The journal beside the log.

pub returns-in_default-clause-store : goal.returns-in_default-clause-store
returns-in_default-clause-store g c = same-store g.J.Disk.meter c.args.shared.now.export c.args.shared.now.export refl

pub returns-in-Rest-clause-store : goal.returns-in-Rest-clause-store
returns-in-Rest-clause-store g c = same-store g.J.Disk.meter c.args.shared.now.export c.args.shared.now.export refl

pub returns-in-Export-clause-store : goal.returns-in-Export-clause-store
returns-in-Export-clause-store g c = record { journal = c.ask_export.ensures.journal; volume = c.ask_export.ensures.volume; counted = c.ask_export.ensures.counted }

pub returns-in-Lock-clause-store : goal.returns-in-Lock-clause-store
returns-in-Lock-clause-store g c = record { journal = c.open.ensures.journal; volume = c.open.ensures.volume; counted = c.open.ensures.counted }

pub returns-in-Node-clause-store : goal.returns-in-Node-clause-store
returns-in-Node-clause-store g c = same-store g.J.Disk.meter c.args.shared.now.export c.message.new.shared.export c.message.ensures.export

pub returns-in_ok-done-in-Say-clause-store : goal.returns-in_ok-done-in-Say-clause-store
returns-in_ok-done-in-Say-clause-store g c = same-store g.J.Disk.meter c.args.shared.now.export c.args.shared.now.export refl

pub returns-in_err-done-in-Say-clause-store : goal.returns-in_err-done-in-Say-clause-store
returns-in_err-done-in-Say-clause-store g c = same-store g.J.Disk.meter c.args.shared.now.export c.args.shared.now.export refl

pub returns-in_default-clause-kept : goal.returns-in_default-clause-kept
returns-in_default-clause-kept g c = AsksNothing refl refl

pub returns-in-Rest-clause-kept : goal.returns-in-Rest-clause-kept
returns-in-Rest-clause-kept g c = AsksNothing refl refl

pub returns-in-Export-clause-kept : goal.returns-in-Export-clause-kept
returns-in-Export-clause-kept g c =
    let m = c.in-Some.machine in
    let p = c.args.shared.now in
    let q = c.ask_export.new in
    both-ok c.ask_export.result
    (λ (keeps : KeepsAsked g.J.Disk.tells g.J.Disk.meter g.J.Disk.image m p.export q.export) (part : IsExportPart c.args.by m q.machine (export_in p.export) (export_in q.export) p.log.events q.log.events).
    let asks = ap call_asked part.1 in
    Asks m part.0 c.in-Some.is asks (keeps part.0 asks) part.2.noted)
    c.ask_export.ensures.kept c.ask_export.ensures.ok

pub returns-in-Lock-clause-kept : goal.returns-in-Lock-clause-kept
returns-in-Lock-clause-kept g c =
    let m = c.in-Some.machine in
    let p = c.args.shared.now in
    let q = c.open.new in
    both-ok c.open.result
    (λ (keeps : KeepsAsked g.J.Disk.tells g.J.Disk.meter g.J.Disk.image m p.export q.export) (part : IsOpenPart c.args.by m q.machine (export_in p.export) (export_in q.export) p.locks q.locks c.args.agenda.now.lock q.held p.log.events q.log.events).
    let asks = ap call_asked part.4 in
    Asks m (call.Tree (tree.OpenFile part.0)) c.in-Some.is asks (keeps (call.Tree (tree.OpenFile part.0)) asks) part.5.1.noted)
    c.open.ensures.kept c.open.ensures.ok

pub returns-in-Node-clause-kept : goal.returns-in-Node-clause-kept
returns-in-Node-clause-kept g c =
    let p = c.args.shared.now in
    let q = c.message.new.shared in
    on_ok_weaker c.message.result
    (λ (sent : IsActorMessage c.args.by c.in-Node.node c.in-Node.ask c.in-Some.machine c.message.new.machine c.args.agenda.now.miss c.message.new.miss p q).
    AsksNothing sent.export (fate-stays sent.fate))
    c.message.ensures.ok

pub returns-in_ok-done-in-Say-clause-kept : goal.returns-in_ok-done-in-Say-clause-kept
returns-in_ok-done-in-Say-clause-kept g c =
    let p = c.args.shared.now in
    AsksNothing refl
    (said-stays-export c.args.by c.args.agenda.now.number c.in_ok-done-in-Say.done c.in-Some.machine c.say.new.machine p.log.events c.say.new.log.events c.in_ok-done-in-Say.ensures.ok)

-- Where nothing came of it.

pub returns-in-Export-clause-ended : goal.returns-in-Export-clause-ended
returns-in-Export-clause-ended g c =
    let p = c.args.shared.now in
    let P : Ask → Type 0 = λ a. OnErr c.ask_export.result (IsJournalOpen p.export → LeavesAsked g.J.Disk.tells g.J.Disk.meter g.J.Disk.image a p.export c.ask_export.new.export) in
    subst P (ask-there c.args.layout c.args.agenda.now.machine c.in-Some.machine c.in-Some.is c.requires.machine) c.ask_export.ensures.left

pub returns-in-Lock-clause-ended : goal.returns-in-Lock-clause-ended
returns-in-Lock-clause-ended g c =
    let p = c.args.shared.now in
    let P : Ask → Type 0 = λ a. OnErr c.open.result (IsJournalOpen p.export → LeavesAsked g.J.Disk.tells g.J.Disk.meter g.J.Disk.image a p.export c.open.new.export) in
    subst P (ask-there c.args.layout c.args.agenda.now.machine c.in-Some.machine c.in-Some.is c.requires.machine) c.open.ensures.left

pub returns-in-Node-clause-ended : goal.returns-in-Node-clause-ended
returns-in-Node-clause-ended g c =
    let p = c.args.shared.now in
    let ask = ask_of c.args.layout (work_in c.args.agenda.now.machine) in
    let P : Type 0 = IsJournalOpen p.export → LeavesAsked g.J.Disk.tells g.J.Disk.meter g.J.Disk.image ask p.export c.message.new.shared.export in
    on-err {P = P} c.message.result (leaves-with-it g.J.Disk.tells g.J.Disk.meter g.J.Disk.image ask p.export c.message.new.shared.export c.message.ensures.export)

pub returns-in_err-done-in-Say-clause-ended : goal.returns-in_err-done-in-Say-clause-ended
returns-in_err-done-in-Say-clause-ended g c =
    let p = c.args.shared.now in
    let ask = ask_of c.args.layout (work_in c.args.agenda.now.machine) in
    let P : Type 0 = IsJournalOpen p.export → LeavesAsked g.J.Disk.tells g.J.Disk.meter g.J.Disk.image ask p.export p.export in
    on-err {P = P} c.from_residual.result (leaves-with-it g.J.Disk.tells g.J.Disk.meter g.J.Disk.image ask p.export p.export refl)
