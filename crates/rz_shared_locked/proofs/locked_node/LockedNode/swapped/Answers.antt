use Rattle.std.proofs.Common.{◌≡◌, ◌<◌, ◌-◌, ◌^◌, ℕ, IsTrue, IfSome, List, [], ◌∷◌, ◌++◌, length, Option, sym, ap, ◌∙◌, subst, true≢false}
use Rattle.rz_events.specs.declared.keys.Actor.{Actor}
use Rattle.rz_events.specs.declared.nodes.NodeAsk.{NodeAsk}
use Rattle.rz_events.specs.declared.nodes.NodeAsk.TheVariants as ask
use Rattle.rz_events.specs.declared.nodes.NodeAnswer.{NodeAnswer}
use Rattle.rz_events.specs.declared.nodes.NodeAnswer.TheVariants as answer
use Rattle.rz_events.specs.declared.events.Word.{Word}
use Rattle.rz_events.specs.declared.events.Word.TheVariants as w
use Rattle.rz_events.specs.declared.events.Event.{Event}
use Rattle.rz_cells_slots.specs.declared.geometry.Geometry.{Geometry}
use Rattle.rz_node_model.specs.NodeEvents.{node_event}
use Rattle.rz_node_laws.specs.Images.{geometry_in}
use Rattle.rz_core.specs.History.{facts, of_word}
use Rattle.rz_core.specs.Legal.{IsLegalAfter}
use Rattle.rz_play.specs.Faults.{fuse_of}
use Rattle.rz_play.specs.Lines.{noted}
use Rattle.rz_chronicle.specs.Keys.{word_key}
use Rattle.rz_chronicle.specs.Kinds.{keeps_legal, volume_in}
use Rattle.rz_shared_locked.specs.Adding.{AddsEvent, MayBeNext}
use Rattle.rz_shared_locked.specs.Occupants.{IsBehindLock, IsLaidOut}
use Rattle.rz_shared_locked.specs.Swaps.{IsUnswapped, lost_after}
use Rattle.rz_shared_locked.specs.Picks.{pick_of}
use Rattle.rz_shared_locked.specs.LockedNodes.{LockedNodeView, MayAsk, Answered}
use Rattle.rz_shared_locked.proofs.Picks.{call-picks}
use Rattle.rz_shared_locked.proofs.LockedNodes.{Served, its-event, may-come, tied-after, answered, word-after}
use Rattle.rz_shared_locked.proofs.Swaps.{tied-lost, unswapped-so}
use Rattle.rz_shared_locked.proofs.locked_node.LockedNode.swapped.Goals as goal

pub returns-in-Err-clause-unswapped : goal.returns-in-Err-clause-unswapped
returns-in-Err-clause-unswapped g c =
    let kind = g.J.Naming.kind in
    let v = volume_in kind in
    let tells = g.D.Disk.tells in
    let image = g.D.Disk.image in
    let n = c.self.inside.sid in
    let by = c.args.pass.now.actor in
    let h = c.args.pass.now.log in
    let ks = c.args.pass.now.keys in
    let was = c.self.inside.who in
    let inv = c.self.invariant in
    let node : n ≡ c.args.self.now.node = ap (λ (x : LockedNodeView). x.node) c.self.view_is in
    let log : c.self.inside.word_token.log ≡ h = ap (λ (x : LockedNodeView). x.log) c.self.view_is ∙ c.requires.one in
    let earlier = g.J.Naming.earlier in
    let behind : IsBehindLock tells image kind (h ++ earlier) n was = subst (λ (l : List Event). IsBehindLock tells image kind (l ++ earlier) n was) log inv.3 in
    let s = behind.state in (
      c.in-Err.ensures.back,
      subst (λ (m : ℕ). IsUnswapped kind earlier m c.in-Err.back.1 ks h h) node
          (unswapped-so kind earlier h n c.in-Err.back.1 ks s (λ spent. c.in-Err.ensures.spent spent s behind.is_in) behind.tied),
    )

pub add-requires-clause-legal : goal.add-requires-clause-legal
add-requires-clause-legal g c =
    let kind = g.J.Naming.kind in
    let v = volume_in kind in
    let tells = g.D.Disk.tells in
    let image = g.D.Disk.image in
    let n = c.self.inside.sid in
    let by = c.args.pass.now.actor in
    let h = c.args.pass.now.log in
    let ks = c.args.pass.now.keys in
    let was = c.self.inside.who in
    let inv = c.self.invariant in
    let node : n ≡ c.args.self.now.node = ap (λ (x : LockedNodeView). x.node) c.self.view_is in
    let log : c.self.inside.word_token.log ≡ h = ap (λ (x : LockedNodeView). x.log) c.self.view_is ∙ c.requires.one in
    let earlier = g.J.Naming.earlier in
    let behind : IsBehindLock tells image kind (h ++ earlier) n was = subst (λ (l : List Event). IsBehindLock tells image kind (l ++ earlier) n was) log inv.3 in
    let s = behind.state in
    let loss = c.in-Ok.swap.loss in
    let q : NodeAsk = ask.Lose in
    let given : NodeAnswer = answer.Lose loss in
    let fit : IsTrue (keeps_legal kind) → IsLegalAfter v earlier h = λ keeps.
    c.one_rule.ensures.legal kind earlier h c.actor-by.ensures.earlier keeps (c.actor-by.ensures.fit, c.actor-by.ensures.after) in
    let it : Served kind earlier h by n q given s = record {
      of_volume = inv.1;
      asker = c.requires.actor;
      fit = fit;
      tied = behind.tied;
      room = subst (λ (m : ℕ). length (of_word (w.Node m) (h ++ earlier)) < 2 ^ 64 - 1) (sym node)
          (subst (λ (l : List Event). length (of_word (w.Node c.args.self.now.node) (l ++ earlier)) < 2 ^ 64 - 1) c.requires.one
          (c.roomy.ensures kind (w.Node c.args.self.now.node) c.args.self.now.log earlier c.actor-by.ensures.earlier c.requires.room));
      right = c.in-Ok.ensures.loss s behind.is_in;
      opening = λ keeps. tt;
    } in
    let may : IsTrue (keeps_legal kind) → MayAsk v (h ++ earlier) by n q [] = λ keeps. record { proper = tt; hands = tt } in
    let event : c.node_event-event.result ≡ node_event by n q given = c.node_event-event.ensures in
    subst (λ (o : Option Event). IfSome o (λ x. MayBeNext kind earlier h x)) (sym event)
    (may-come kind earlier h by n q given s [] (c.answers.ensures v) it may)

pub invariant_of-self-2 : goal.invariant_of-self-2
invariant_of-self-2 g c =
    let kind = g.J.Naming.kind in
    let v = volume_in kind in
    let tells = g.D.Disk.tells in
    let image = g.D.Disk.image in
    let n = c.self.inside.sid in
    let by = c.args.pass.now.actor in
    let h = c.args.pass.now.log in
    let ks = c.args.pass.now.keys in
    let was = c.self.inside.who in
    let inv = c.self.invariant in
    let node : n ≡ c.args.self.now.node = ap (λ (x : LockedNodeView). x.node) c.self.view_is in
    let log : c.self.inside.word_token.log ≡ h = ap (λ (x : LockedNodeView). x.log) c.self.view_is ∙ c.requires.one in
    let earlier = g.J.Naming.earlier in
    let behind : IsBehindLock tells image kind (h ++ earlier) n was = subst (λ (l : List Event). IsBehindLock tells image kind (l ++ earlier) n was) log inv.3 in
    let s = behind.state in
    let loss = c.in-Ok.swap.loss in
    let q : NodeAsk = ask.Lose in
    let given : NodeAnswer = answer.Lose loss in
    let fit : IsTrue (keeps_legal kind) → IsLegalAfter v earlier h = λ keeps.
    c.one_rule.ensures.legal kind earlier h c.actor-by.ensures.earlier keeps (c.actor-by.ensures.fit, c.actor-by.ensures.after) in
    let it : Served kind earlier h by n q given s = record {
      of_volume = inv.1;
      asker = c.requires.actor;
      fit = fit;
      tied = behind.tied;
      room = subst (λ (m : ℕ). length (of_word (w.Node m) (h ++ earlier)) < 2 ^ 64 - 1) (sym node)
          (subst (λ (l : List Event). length (of_word (w.Node c.args.self.now.node) (l ++ earlier)) < 2 ^ 64 - 1) c.requires.one
          (c.roomy.ensures kind (w.Node c.args.self.now.node) c.args.self.now.log earlier c.actor-by.ensures.earlier c.requires.room));
      right = c.in-Ok.ensures.loss s behind.is_in;
      opening = λ keeps. tt;
    } in
    let may : IsTrue (keeps_legal kind) → MayAsk v (h ++ earlier) by n q [] = λ keeps. record { proper = tt; hands = tt } in
    let event : c.node_event-event.result ≡ node_event by n q given = c.node_event-event.ensures in
    let new = c.add.new.pass.log in
    let after = c.swap.new.self in
    let adds : AddsEvent (word_key (w.Node n) ∷ ks) h (node_event by n q given) new =
    subst (λ (u : Word). AddsEvent (word_key u ∷ ks) h (node_event by n q given) new) inv.0
    (subst (λ (o : Option Event). AddsEvent (word_key c.self.inside.word_token.word ∷ ks) h o new) event c.add.ensures.adds) in
    let new_fit : IsTrue (keeps_legal kind) → IsLegalAfter v earlier new = λ keeps. c.one_rule.ensures.legal kind earlier new c.actor-by.ensures.earlier keeps (c.add.ensures.fit, c.add.ensures.after) in
    let own = its-event kind earlier h by n q given s [] (c.answers.ensures v) it may in
    let word : of_word (w.Node n) c.add.new.word_token.log ≡ noted (node_event by n q given) (of_word (w.Node n) c.self.inside.word_token.log) =
    ap (of_word (w.Node n)) c.add.ensures.one ∙ word-after c.words_kept.ensures by n ks c.self.inside.word_token.log h new (node_event by n q given) log adds own in
    let lost : IsBehindLock tells image kind (new ++ earlier) n after = record {
      state = lost_after loss s;
      is_in = c.in-Ok.ensures.lost s behind.is_in;
      tied = λ keeps. tied-lost (facts (new ++ earlier)) (of_word (w.Node n) (new ++ earlier)) s loss (λ none. c.in-Ok.ensures.already none s behind.is_in)
          (λ there tied. c.lost.ensures v earlier new n s (new_fit keeps) tied there)
          (tied-after kind earlier h by n q given s [] (c.answers.ensures v) it may (c.locked_node_kept.ensures v) ks new adds c.actor-by.ensures.own new_fit keeps);
      imaged = λ keeps. ((behind.imaged keeps).0, c.in-Ok.ensures.empty v (facts (new ++ earlier)) n);
    } in (
      c.add.ensures.same.2 ∙ inv.0,
      inv.1,
      subst (λ (k : Geometry). IsLaidOut k after) (c.requires.of_volume ∙ ap (geometry_in v) (sym node)) c.in-Ok.ensures.laid_out,
      subst (λ (l : List Event). IsBehindLock tells image kind (l ++ earlier) n after) (sym c.add.ensures.one) lost,
      inv.4,
      c.left_with-self-inside.ensures (of_word (w.Node n) c.self.inside.word_token.log) inv.5 ∙ ap (λ (o : Option Event). fuse_of (noted o (of_word (w.Node n) c.self.inside.word_token.log))) event ∙ ap fuse_of (sym word),
      λ fixed. absurd (true≢false (sym fixed ∙ c.requires.free)),
      inv.7 ∙ sym (call-picks by n q given (of_word (w.Node n) c.self.inside.word_token.log)) ∙ ap pick_of (sym word),
    )

pub returns-clause-swapped : goal.returns-clause-swapped
returns-clause-swapped g c =
    let kind = g.J.Naming.kind in
    let v = volume_in kind in
    let tells = g.D.Disk.tells in
    let image = g.D.Disk.image in
    let n = c.self.inside.sid in
    let by = c.args.pass.now.actor in
    let h = c.args.pass.now.log in
    let ks = c.args.pass.now.keys in
    let was = c.self.inside.who in
    let inv = c.self.invariant in
    let node : n ≡ c.args.self.now.node = ap (λ (x : LockedNodeView). x.node) c.self.view_is in
    let log : c.self.inside.word_token.log ≡ h = ap (λ (x : LockedNodeView). x.log) c.self.view_is ∙ c.requires.one in
    let earlier = g.J.Naming.earlier in
    let behind : IsBehindLock tells image kind (h ++ earlier) n was = subst (λ (l : List Event). IsBehindLock tells image kind (l ++ earlier) n was) log inv.3 in
    let s = behind.state in
    let loss = c.in-Ok.swap.loss in
    let q : NodeAsk = ask.Lose in
    let given : NodeAnswer = answer.Lose loss in
    let fit : IsTrue (keeps_legal kind) → IsLegalAfter v earlier h = λ keeps.
    c.one_rule.ensures.legal kind earlier h c.actor-by.ensures.earlier keeps (c.actor-by.ensures.fit, c.actor-by.ensures.after) in
    let it : Served kind earlier h by n q given s = record {
      of_volume = inv.1;
      asker = c.requires.actor;
      fit = fit;
      tied = behind.tied;
      room = subst (λ (m : ℕ). length (of_word (w.Node m) (h ++ earlier)) < 2 ^ 64 - 1) (sym node)
          (subst (λ (l : List Event). length (of_word (w.Node c.args.self.now.node) (l ++ earlier)) < 2 ^ 64 - 1) c.requires.one
          (c.roomy.ensures kind (w.Node c.args.self.now.node) c.args.self.now.log earlier c.actor-by.ensures.earlier c.requires.room));
      right = c.in-Ok.ensures.loss s behind.is_in;
      opening = λ keeps. tt;
    } in
    let may : IsTrue (keeps_legal kind) → MayAsk v (h ++ earlier) by n q [] = λ keeps. record { proper = tt; hands = tt } in
    let event : c.node_event-event.result ≡ node_event by n q given = c.node_event-event.ensures in
    let new = c.add.new.pass.log in
    let after = c.swap.new.self in
    let adds : AddsEvent (word_key (w.Node n) ∷ ks) h (node_event by n q given) new =
    subst (λ (u : Word). AddsEvent (word_key u ∷ ks) h (node_event by n q given) new) inv.0
    (subst (λ (o : Option Event). AddsEvent (word_key c.self.inside.word_token.word ∷ ks) h o new) event c.add.ensures.adds) in
    let new_fit : IsTrue (keeps_legal kind) → IsLegalAfter v earlier new = λ keeps. c.one_rule.ensures.legal kind earlier new c.actor-by.ensures.earlier keeps (c.add.ensures.fit, c.add.ensures.after) in
    subst (λ (m : ℕ). Answered kind earlier m q given (node_event by m q given) ks h new) node
    (answered kind earlier h by n q given s [] (c.answers.ensures v) it may (c.locked_node_kept.ensures v) ks new adds c.actor-by.ensures.own new_fit)
