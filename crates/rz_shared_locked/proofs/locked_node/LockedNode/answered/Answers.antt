use Rattle.std.proofs.Common.{◌≡◌, ◌<◌, ◌-◌, ◌^◌, ℕ, IsTrue, IfSome, List, ◌∷◌, ◌++◌, length, Option, sym, ap, ◌∙◌, subst}
use Rattle.rz_events.specs.declared.keys.Actor.{Actor}
use Rattle.rz_events.specs.declared.events.Word.{Word}
use Rattle.rz_events.specs.declared.events.Word.TheVariants as w
use Rattle.rz_events.specs.declared.events.Event.{Event}
use Rattle.rz_events.specs.Events.{by_of, word_of}
use Rattle.rz_node_model.specs.NodeEvents.{node_event}
use Rattle.rz_core.specs.History.{facts, of_word}
use Rattle.rz_core.specs.Legal.{IsLegalAfter}
use Rattle.rz_play.specs.Faults.{fuse_of}
use Rattle.rz_play.specs.Lines.{noted}
use Rattle.rz_chronicle.specs.Keys.{word_key}
use Rattle.rz_chronicle.specs.Kinds.{keeps_legal, volume_in}
use Rattle.rz_shared_locked.specs.Adding.{AddsEvent, MayBeNext}
use Rattle.rz_shared_locked.specs.Occupants.{CountsHere, IsBehindLock}
use Rattle.rz_shared_locked.specs.Picks.{pick_of}
use Rattle.rz_shared_locked.specs.LockedNodes.{LockedNodeView, MayAsk, Answered, IsTrueRecord}
use Rattle.rz_shared_locked.proofs.Picks.{call-picks}
use Rattle.rz_shared_locked.proofs.LockedNodes.{Served, its-event, may-come, behind-after, answered, later-adds, word-after}
use Rattle.rz_shared_locked.proofs.locked_node.LockedNode.answered.Goals as goal

pub add-requires-clause-its : goal.add-requires-clause-its
add-requires-clause-its g c =
    let kind = g.J.Naming.kind in
    let v = volume_in kind in
    let tells = g.D.Disk.tells in
    let image = g.D.Disk.image in
    let n = c.self.inside.sid in
    let q = c.args.ask.now in
    let given = c.serve_any-answer.result in
    let by = c.args.pass.now.actor in
    let h = c.args.pass.now.log in
    let was = c.self.inside.who in
    let inv = c.self.invariant in
    let node : n ≡ c.args.self.now.node = ap (λ (x : LockedNodeView). x.node) c.self.view_is in
    let log : c.self.inside.word_token.log ≡ h = ap (λ (x : LockedNodeView). x.log) c.self.view_is ∙ c.requires.one in
    let earlier = g.J.Naming.earlier in
    let behind : IsBehindLock tells image kind (h ++ earlier) n was = subst (λ (l : List Event). IsBehindLock tells image kind (l ++ earlier) n was) log inv.3 in
    let s = behind.state in
    let fit : IsTrue (keeps_legal kind) → IsLegalAfter v earlier h = λ keeps.
    c.one_rule.ensures.legal kind earlier h c.actor-by.ensures.earlier keeps (c.actor-by.ensures.fit, c.actor-by.ensures.after) in
    let it : Served kind earlier h by n q given s = record {
      of_volume = inv.1;
      asker = c.requires.actor;
      fit = fit;
      tied = behind.tied;
      room = subst (λ (m : ℕ). length (of_word (w.Node m) (h ++ earlier)) < 2 ^ 64 - 1) (sym node)
          (subst (λ (l : List Event). length (of_word (w.Node c.args.self.now.node) (l ++ earlier)) < 2 ^ 64 - 1) c.requires.one
          (c.roomy.ensures kind (w.Node c.args.self.now.node) c.args.self.now.log earlier c.actor-by.ensures.earlier c.requires.room));
      right = c.serve_any-answer.ensures.answer s behind.is_in;
      opening = λ keeps. c.serve_any-answer.ensures.opening (behind.imaged keeps).0;
    } in
    let may : IsTrue (keeps_legal kind) → MayAsk v (h ++ earlier) by n q c.args.bins.now = λ keeps. subst (λ (m : ℕ). MayAsk v (h ++ earlier) by m q c.args.bins.now) (sym node) (c.requires.may keeps) in
    let event : c.node_event-event.result ≡ node_event by n q given = c.node_event-event.ensures ∙ ap (λ (a : Actor). node_event a n q given) c.actor-by.ensures.value in
    subst (λ (o : Option Event). IfSome o (λ x. (word_of x ≡ c.self.inside.word_token.word) × (by_of x ≡ by))) (sym event)
    (subst (λ (u : Word). IfSome (node_event by n q given) (λ x. (word_of x ≡ u) × (by_of x ≡ by))) (sym inv.0)
    (its-event kind earlier h by n q given s c.args.bins.now (c.answers.ensures v) it may))

pub add-requires-clause-legal : goal.add-requires-clause-legal
add-requires-clause-legal g c =
    let kind = g.J.Naming.kind in
    let v = volume_in kind in
    let tells = g.D.Disk.tells in
    let image = g.D.Disk.image in
    let n = c.self.inside.sid in
    let q = c.args.ask.now in
    let given = c.serve_any-answer.result in
    let by = c.args.pass.now.actor in
    let h = c.args.pass.now.log in
    let was = c.self.inside.who in
    let inv = c.self.invariant in
    let node : n ≡ c.args.self.now.node = ap (λ (x : LockedNodeView). x.node) c.self.view_is in
    let log : c.self.inside.word_token.log ≡ h = ap (λ (x : LockedNodeView). x.log) c.self.view_is ∙ c.requires.one in
    let earlier = g.J.Naming.earlier in
    let behind : IsBehindLock tells image kind (h ++ earlier) n was = subst (λ (l : List Event). IsBehindLock tells image kind (l ++ earlier) n was) log inv.3 in
    let s = behind.state in
    let fit : IsTrue (keeps_legal kind) → IsLegalAfter v earlier h = λ keeps.
    c.one_rule.ensures.legal kind earlier h c.actor-by.ensures.earlier keeps (c.actor-by.ensures.fit, c.actor-by.ensures.after) in
    let it : Served kind earlier h by n q given s = record {
      of_volume = inv.1;
      asker = c.requires.actor;
      fit = fit;
      tied = behind.tied;
      room = subst (λ (m : ℕ). length (of_word (w.Node m) (h ++ earlier)) < 2 ^ 64 - 1) (sym node)
          (subst (λ (l : List Event). length (of_word (w.Node c.args.self.now.node) (l ++ earlier)) < 2 ^ 64 - 1) c.requires.one
          (c.roomy.ensures kind (w.Node c.args.self.now.node) c.args.self.now.log earlier c.actor-by.ensures.earlier c.requires.room));
      right = c.serve_any-answer.ensures.answer s behind.is_in;
      opening = λ keeps. c.serve_any-answer.ensures.opening (behind.imaged keeps).0;
    } in
    let may : IsTrue (keeps_legal kind) → MayAsk v (h ++ earlier) by n q c.args.bins.now = λ keeps. subst (λ (m : ℕ). MayAsk v (h ++ earlier) by m q c.args.bins.now) (sym node) (c.requires.may keeps) in
    let event : c.node_event-event.result ≡ node_event by n q given = c.node_event-event.ensures ∙ ap (λ (a : Actor). node_event a n q given) c.actor-by.ensures.value in
    subst (λ (o : Option Event). IfSome o (λ x. MayBeNext kind earlier h x)) (sym event)
    (may-come kind earlier h by n q given s c.args.bins.now (c.answers.ensures v) it may)

pub invariant_of-self : goal.invariant_of-self
invariant_of-self g c =
    let kind = g.J.Naming.kind in
    let v = volume_in kind in
    let tells = g.D.Disk.tells in
    let image = g.D.Disk.image in
    let n = c.self.inside.sid in
    let q = c.args.ask.now in
    let given = c.serve_any-answer.result in
    let by = c.args.pass.now.actor in
    let h = c.args.pass.now.log in
    let was = c.self.inside.who in
    let inv = c.self.invariant in
    let node : n ≡ c.args.self.now.node = ap (λ (x : LockedNodeView). x.node) c.self.view_is in
    let log : c.self.inside.word_token.log ≡ h = ap (λ (x : LockedNodeView). x.log) c.self.view_is ∙ c.requires.one in
    let earlier = g.J.Naming.earlier in
    let behind : IsBehindLock tells image kind (h ++ earlier) n was = subst (λ (l : List Event). IsBehindLock tells image kind (l ++ earlier) n was) log inv.3 in
    let s = behind.state in
    let fit : IsTrue (keeps_legal kind) → IsLegalAfter v earlier h = λ keeps.
    c.one_rule.ensures.legal kind earlier h c.actor-by.ensures.earlier keeps (c.actor-by.ensures.fit, c.actor-by.ensures.after) in
    let it : Served kind earlier h by n q given s = record {
      of_volume = inv.1;
      asker = c.requires.actor;
      fit = fit;
      tied = behind.tied;
      room = subst (λ (m : ℕ). length (of_word (w.Node m) (h ++ earlier)) < 2 ^ 64 - 1) (sym node)
          (subst (λ (l : List Event). length (of_word (w.Node c.args.self.now.node) (l ++ earlier)) < 2 ^ 64 - 1) c.requires.one
          (c.roomy.ensures kind (w.Node c.args.self.now.node) c.args.self.now.log earlier c.actor-by.ensures.earlier c.requires.room));
      right = c.serve_any-answer.ensures.answer s behind.is_in;
      opening = λ keeps. c.serve_any-answer.ensures.opening (behind.imaged keeps).0;
    } in
    let may : IsTrue (keeps_legal kind) → MayAsk v (h ++ earlier) by n q c.args.bins.now = λ keeps. subst (λ (m : ℕ). MayAsk v (h ++ earlier) by m q c.args.bins.now) (sym node) (c.requires.may keeps) in
    let event : c.node_event-event.result ≡ node_event by n q given = c.node_event-event.ensures ∙ ap (λ (a : Actor). node_event a n q given) c.actor-by.ensures.value in
    let new = c.add.new.pass.log in
    let after = c.serve_any-answer.new.who in
    let ks = c.args.pass.now.keys in
    let adds : AddsEvent (word_key (w.Node n) ∷ ks) h (node_event by n q given) new =
    subst (λ (u : Word). AddsEvent (word_key u ∷ ks) h (node_event by n q given) new) inv.0
    (subst (λ (o : Option Event). AddsEvent (word_key c.self.inside.word_token.word ∷ ks) h o new) event c.add.ensures.adds) in
    let new_fit : IsTrue (keeps_legal kind) → IsLegalAfter v earlier new = λ keeps. c.one_rule.ensures.legal kind earlier new c.actor-by.ensures.earlier keeps (c.add.ensures.fit, c.add.ensures.after) in
    let own = its-event kind earlier h by n q given s c.args.bins.now (c.answers.ensures v) it may in
    let word : of_word (w.Node n) c.add.new.word_token.log ≡ noted (node_event by n q given) (of_word (w.Node n) c.self.inside.word_token.log) =
    ap (of_word (w.Node n)) c.add.ensures.one ∙ word-after c.words_kept.ensures by n ks c.self.inside.word_token.log h new (node_event by n q given) log adds own in (
      c.add.ensures.same.2 ∙ inv.0,
      inv.1,
      c.serve_any-answer.ensures.laid_out,
      subst (λ (l : List Event). IsBehindLock tells image kind (l ++ earlier) n after) (sym c.add.ensures.one)
          (behind-after kind earlier h by n q given s c.args.bins.now (c.answers.ensures v) it may (c.locked_node_kept.ensures v) ks new adds c.actor-by.ensures.own new_fit tells image c.longer.ensures was after behind.is_in
          (λ keeps. (behind.imaged keeps).0) (λ told is. c.serve_any-answer.ensures.after told s is) (λ is. c.serve_any-answer.ensures.some s is)
          (λ keeps. c.serve_any-answer.ensures.imaged (behind.imaged keeps).0 (facts (h ++ earlier)) (may keeps).hands (behind.imaged keeps).1)),
      inv.4,
      c.left_with-self-inside.ensures (of_word (w.Node n) c.self.inside.word_token.log) inv.5 ∙ ap (λ (o : Option Event). fuse_of (noted o (of_word (w.Node n) c.self.inside.word_token.log))) event ∙ ap fuse_of (sym word),
      λ fixed. subst (λ (u : List Event). CountsHere g.D.Disk.meter (g.J.Metering.first n) u after) (sym word)
          (c.serve_any-answer.ensures.counts (g.J.Metering.first n) (of_word (w.Node n) c.self.inside.word_token.log) by inv.5 (inv.6 fixed)),
      inv.7 ∙ sym (call-picks by n q given (of_word (w.Node n) c.self.inside.word_token.log)) ∙ ap pick_of (sym word),
    )

pub returns-clause-answered : goal.returns-clause-answered
returns-clause-answered g c =
    let kind = g.J.Naming.kind in
    let v = volume_in kind in
    let tells = g.D.Disk.tells in
    let image = g.D.Disk.image in
    let n = c.self.inside.sid in
    let q = c.args.ask.now in
    let given = c.serve_any-answer.result in
    let by = c.args.pass.now.actor in
    let h = c.args.pass.now.log in
    let was = c.self.inside.who in
    let inv = c.self.invariant in
    let node : n ≡ c.args.self.now.node = ap (λ (x : LockedNodeView). x.node) c.self.view_is in
    let log : c.self.inside.word_token.log ≡ h = ap (λ (x : LockedNodeView). x.log) c.self.view_is ∙ c.requires.one in
    let earlier = g.J.Naming.earlier in
    let behind : IsBehindLock tells image kind (h ++ earlier) n was = subst (λ (l : List Event). IsBehindLock tells image kind (l ++ earlier) n was) log inv.3 in
    let s = behind.state in
    let fit : IsTrue (keeps_legal kind) → IsLegalAfter v earlier h = λ keeps.
    c.one_rule.ensures.legal kind earlier h c.actor-by.ensures.earlier keeps (c.actor-by.ensures.fit, c.actor-by.ensures.after) in
    let it : Served kind earlier h by n q given s = record {
      of_volume = inv.1;
      asker = c.requires.actor;
      fit = fit;
      tied = behind.tied;
      room = subst (λ (m : ℕ). length (of_word (w.Node m) (h ++ earlier)) < 2 ^ 64 - 1) (sym node)
          (subst (λ (l : List Event). length (of_word (w.Node c.args.self.now.node) (l ++ earlier)) < 2 ^ 64 - 1) c.requires.one
          (c.roomy.ensures kind (w.Node c.args.self.now.node) c.args.self.now.log earlier c.actor-by.ensures.earlier c.requires.room));
      right = c.serve_any-answer.ensures.answer s behind.is_in;
      opening = λ keeps. c.serve_any-answer.ensures.opening (behind.imaged keeps).0;
    } in
    let may : IsTrue (keeps_legal kind) → MayAsk v (h ++ earlier) by n q c.args.bins.now = λ keeps. subst (λ (m : ℕ). MayAsk v (h ++ earlier) by m q c.args.bins.now) (sym node) (c.requires.may keeps) in
    let event : c.node_event-event.result ≡ node_event by n q given = c.node_event-event.ensures ∙ ap (λ (a : Actor). node_event a n q given) c.actor-by.ensures.value in
    let new = c.add.new.pass.log in
    let after = c.serve_any-answer.new.who in
    let ks = c.args.pass.now.keys in
    let adds : AddsEvent (word_key (w.Node n) ∷ ks) h (node_event by n q given) new =
    subst (λ (u : Word). AddsEvent (word_key u ∷ ks) h (node_event by n q given) new) inv.0
    (subst (λ (o : Option Event). AddsEvent (word_key c.self.inside.word_token.word ∷ ks) h o new) event c.add.ensures.adds) in
    let new_fit : IsTrue (keeps_legal kind) → IsLegalAfter v earlier new = λ keeps. c.one_rule.ensures.legal kind earlier new c.actor-by.ensures.earlier keeps (c.add.ensures.fit, c.add.ensures.after) in
    subst (λ (m : ℕ). Answered kind earlier m q given (node_event by m q given) ks h new) node
    (answered kind earlier h by n q given s c.args.bins.now (c.answers.ensures v) it may (c.locked_node_kept.ensures v) ks new adds c.actor-by.ensures.own new_fit)

pub returns-clause-read : goal.returns-clause-read
returns-clause-read g c =
    let kind = g.J.Naming.kind in
    let v = volume_in kind in
    let tells = g.D.Disk.tells in
    let image = g.D.Disk.image in
    let n = c.self.inside.sid in
    let q = c.args.ask.now in
    let given = c.serve_any-answer.result in
    let by = c.args.pass.now.actor in
    let h = c.args.pass.now.log in
    let was = c.self.inside.who in
    let inv = c.self.invariant in
    let node : n ≡ c.args.self.now.node = ap (λ (x : LockedNodeView). x.node) c.self.view_is in
    let log : c.self.inside.word_token.log ≡ h = ap (λ (x : LockedNodeView). x.log) c.self.view_is ∙ c.requires.one in
    let earlier = g.J.Naming.earlier in
    let behind : IsBehindLock tells image kind (h ++ earlier) n was = subst (λ (l : List Event). IsBehindLock tells image kind (l ++ earlier) n was) log inv.3 in
    let s = behind.state in
    let fit : IsTrue (keeps_legal kind) → IsLegalAfter v earlier h = λ keeps.
    c.one_rule.ensures.legal kind earlier h c.actor-by.ensures.earlier keeps (c.actor-by.ensures.fit, c.actor-by.ensures.after) in
    let it : Served kind earlier h by n q given s = record {
      of_volume = inv.1;
      asker = c.requires.actor;
      fit = fit;
      tied = behind.tied;
      room = subst (λ (m : ℕ). length (of_word (w.Node m) (h ++ earlier)) < 2 ^ 64 - 1) (sym node)
          (subst (λ (l : List Event). length (of_word (w.Node c.args.self.now.node) (l ++ earlier)) < 2 ^ 64 - 1) c.requires.one
          (c.roomy.ensures kind (w.Node c.args.self.now.node) c.args.self.now.log earlier c.actor-by.ensures.earlier c.requires.room));
      right = c.serve_any-answer.ensures.answer s behind.is_in;
      opening = λ keeps. c.serve_any-answer.ensures.opening (behind.imaged keeps).0;
    } in
    let may : IsTrue (keeps_legal kind) → MayAsk v (h ++ earlier) by n q c.args.bins.now = λ keeps. subst (λ (m : ℕ). MayAsk v (h ++ earlier) by m q c.args.bins.now) (sym node) (c.requires.may keeps) in
    let event : c.node_event-event.result ≡ node_event by n q given = c.node_event-event.ensures ∙ ap (λ (a : Actor). node_event a n q given) c.actor-by.ensures.value in
    let new = c.add.new.pass.log in
    let after = c.serve_any-answer.new.who in
    let ks = c.args.pass.now.keys in
    let adds : AddsEvent (word_key (w.Node n) ∷ ks) h (node_event by n q given) new =
    subst (λ (u : Word). AddsEvent (word_key u ∷ ks) h (node_event by n q given) new) inv.0
    (subst (λ (o : Option Event). AddsEvent (word_key c.self.inside.word_token.word ∷ ks) h o new) event c.add.ensures.adds) in
    let new_fit : IsTrue (keeps_legal kind) → IsLegalAfter v earlier new = λ keeps. c.one_rule.ensures.legal kind earlier new c.actor-by.ensures.earlier keeps (c.add.ensures.fit, c.add.ensures.after) in
    λ keeps. subst (λ (m : ℕ). IsTrueRecord v (facts (new ++ earlier)) m q given c.args.bins.now c.serve_any-answer.new.bins) node
    (c.read_kept.ensures v earlier h new n q given c.args.bins.now c.serve_any-answer.new.bins (later-adds (word_key (w.Node n) ∷ ks) h (node_event by n q given) new adds)
    (c.serve_any-answer.ensures.read (behind.imaged keeps).0 (facts (h ++ earlier)) (behind.imaged keeps).1))
