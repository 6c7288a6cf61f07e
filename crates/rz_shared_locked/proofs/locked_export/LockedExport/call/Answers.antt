use Rattle.std.proofs.Common.{ℕ, List, ◌++◌, None, sym, subst}
use Rattle.rz_events.specs.declared.keys.Actor.{Actor}
use Rattle.rz_events.specs.declared.export.Reply.{Reply}
use Rattle.rz_events.specs.Borrowed.{call_of}
use Rattle.rz_export_model.specs.ExportEvents.{export_event}
use Rattle.rz_shared_locked.specs.Adding.{AddsEvent}
use Rattle.rz_shared_locked.specs.LockedExports.{AnswersCall}
use Rattle.rz_core.specs.History.{facts, of_actor}
use Rattle.rz_core.specs.Tied.{IsProperCall}
use Rattle.rz_chronicle.specs.Keys.{actor_key}
use Rattle.rz_chronicle.specs.Kinds.{volume_in}
use Rattle.rz_shared_locked.proofs.Logs.{adds-after}
use Rattle.rz_shared_locked.proofs.LockedExports.{ok-then, err-then}
use Rattle.rz_shared_locked.proofs.locked_export.LockedExport.call.Goals as goal

pub returns-clause-replied : goal.returns-clause-replied
returns-clause-replied g c =
    let kind = g.J.Naming.kind in
    let earlier = g.J.Naming.earlier in
    let old = c.args.pass.now in
    let mid = c.enter.new.pass in
    let new = c.replied.new.pass.log in
    let q = (call_of c.args.call) in
    ok-then (λ (r : Reply). AnswersCall kind earlier q r (export_event mid.actor q r) mid.keys mid.log new) (λ (r : Reply). AnswersCall kind earlier q r (export_event old.actor q r) old.keys old.log new) c.replied.result
    (λ given there.
    let it : AnswersCall kind earlier q given (export_event old.actor q given) old.keys mid.log new =
    subst (λ (ks : List ℕ). AnswersCall kind earlier q given (export_event old.actor q given) ks mid.log new) c.enter.ensures.same.1
    (subst (λ (a : Actor). AnswersCall kind earlier q given (export_event a q given) mid.keys mid.log new) c.enter.ensures.same.0 there) in
    record { adds = adds-after old.keys old.log mid.log new (export_event old.actor q given) c.enter.ensures.later c.enter.ensures.stays it.adds; right = it.right })
    c.replied.ensures.replied

pub returns-clause-unanswered : goal.returns-clause-unanswered
returns-clause-unanswered g c =
    let old = c.args.pass.now in
    let mid = c.enter.new.pass in
    let new = c.replied.new.pass.log in
    err-then c.replied.result
    (λ there. record {
      adds = adds-after old.keys old.log mid.log new None c.enter.ensures.later c.enter.ensures.stays (subst (λ (ks : List ℕ). AddsEvent ks mid.log None new) c.enter.ensures.same.1 there.adds);
      wanting = there.wanting;
    })
    c.replied.ensures.unanswered

pub replied-requires-clause-may : goal.replied-requires-clause-may
replied-requires-clause-may g c = λ keeps.
    let kind = g.J.Naming.kind in
    let v = volume_in kind in
    let earlier = g.J.Naming.earlier in
    let old = c.args.pass.now in
    let mid = c.enter.new.pass.log in
    let q = (call_of c.args.call) in
    let fit = c.one_rule.ensures.legal kind earlier old.log c.actor-by.ensures.earlier keeps (c.actor-by.ensures.fit, c.actor-by.ensures.after) in
    subst (λ (a : Actor). IsProperCall v (facts (mid ++ earlier)) (of_actor a (mid ++ earlier)) a q) (sym c.enter.ensures.same.0)
    (c.caller_kept.ensures v earlier old.log mid old.actor q fit c.enter.ensures.later (c.enter.ensures.stays (actor_key old.actor) c.actor-by.ensures.own) (c.requires.may keeps))
