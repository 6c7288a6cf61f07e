use Rattle.std.proofs.Common.{◌∷◌, Option, Some, None, IfSome, refl, sym, subst}
use Rattle.rz_events.specs.declared.events.Event.{Event}
use Rattle.rz_chronicle.specs.Keys.{word_key}
use Rattle.rz_chronicle.specs.Rules.{PassView}
use Rattle.rz_shared_locked.specs.Adding.{AddsEvent, MayBeNext}
use Rattle.rz_shared_locked.proofs.Logs.{commits-adds}
use Rattle.rz_chronicle.proofs.Histories.{later-self}
use Rattle.rz_shared_locked.proofs.adding.add.Goals as goal
use Rattle.rz_shared_locked.proofs.adding.add.Goals.{in-Some, in-None}

pub commit-requires-clause-legal : goal.commit-requires-clause-legal
commit-requires-clause-legal g c =
    (c.one_rule.ensures.may g.J.Naming.kind g.J.Naming.earlier c.args.pass.now.log c.in-Some.event c.actor-by.ensures.earlier
    (subst (λ (o : Option Event). IfSome o (λ x. MayBeNext g.J.Naming.kind g.J.Naming.earlier c.args.pass.now.log x)) c.in-Some.is c.requires.legal)).0

pub commit-requires-clause-after : goal.commit-requires-clause-after
commit-requires-clause-after g c =
    (c.one_rule.ensures.may g.J.Naming.kind g.J.Naming.earlier c.args.pass.now.log c.in-Some.event c.actor-by.ensures.earlier
    (subst (λ (o : Option Event). IfSome o (λ x. MayBeNext g.J.Naming.kind g.J.Naming.earlier c.args.pass.now.log x)) c.in-Some.is c.requires.legal)).1

pub returns-clause-adds : goal.returns-clause-adds
returns-clause-adds g c =
    let ks = word_key c.args.word_token.now.word ∷ c.args.pass.now.keys in
    let old = c.args.pass.now.log in
    elim c.match-event.branch [
      | in-Some w ↦ subst (λ (o : Option Event). AddsEvent ks old o c.match-event.pass.log) (sym w.in-Some.is)
          (subst (λ (p : PassView). AddsEvent ks old (Some w.in-Some.event) p.log) (sym w.pass-is)
          (commits-adds ks old w.commit.new.pass.log w.in-Some.event w.commit.ensures.commits))
      | in-None w ↦ subst (λ (o : Option Event). AddsEvent ks old o c.match-event.pass.log) (sym w.in-None.is)
          (subst (λ (p : PassView). AddsEvent ks old None p.log) (sym w.pass-is)
          (record { before = old; later = later-self old; stays = λ k one. refl; last = refl }))
    ]
