use Rattle.std.proofs.Common.{subst}
use Rattle.rz_events.specs.declared.keys.Actor.{Actor}
use Rattle.rz_events.specs.declared.export.Call.{Call}
use Rattle.rz_events.specs.Borrowed.{call_of}
use Rattle.rz_shared_locked.specs.Adding.{MayBeNext}
use Rattle.rz_shared_locked.specs.LockedExports.{event_given}
use Rattle.rz_shared_locked.proofs.locked_export.add_reply.Goals as goal

pub commit-requires-clause-legal : goal.commit-requires-clause-legal
commit-requires-clause-legal g c =
    let kind = g.J.Naming.kind in
    let earlier = g.J.Naming.earlier in
    let log = c.args.pass.now.log in
    (c.one_rule.ensures.may kind earlier log (event_given g.C.Asking.by g.C.Asking.call c.args.reply.now) c.actor-by.ensures.earlier
    (subst (λ (q : Call). MayBeNext kind earlier log (event_given g.C.Asking.by q c.args.reply.now)) c.requires.of.1
    (subst (λ (a : Actor). MayBeNext kind earlier log (event_given a (call_of c.args.call) c.args.reply.now)) c.requires.of.0 c.requires.legal))).0

pub commit-requires-clause-after : goal.commit-requires-clause-after
commit-requires-clause-after g c =
    let kind = g.J.Naming.kind in
    let earlier = g.J.Naming.earlier in
    let log = c.args.pass.now.log in
    (c.one_rule.ensures.may kind earlier log (event_given g.C.Asking.by g.C.Asking.call c.args.reply.now) c.actor-by.ensures.earlier
    (subst (λ (q : Call). MayBeNext kind earlier log (event_given g.C.Asking.by q c.args.reply.now)) c.requires.of.1
    (subst (λ (a : Actor). MayBeNext kind earlier log (event_given a (call_of c.args.call) c.args.reply.now)) c.requires.of.0 c.requires.legal))).1
