use Rattle.std.proofs.Common.{◌≡◌, ◌<◌, ◌-◌, ◌^◌, ℕ, IsTrue, List, ◌∷◌, ◌++◌, length, Some, refl, sym, ap, ◌∙◌, subst}
use Rattle.rz_events.specs.declared.keys.Actor.TheVariants.{Admin}
use Rattle.rz_events.specs.declared.events.Word.{Word}
use Rattle.rz_events.specs.declared.events.Word.TheVariants as w
use Rattle.rz_events.specs.declared.events.Event.{Event}
use Rattle.rz_events.specs.declared.events.Event.TheVariants as e
use Rattle.rz_core.specs.History.{of_word}
use Rattle.rz_core.specs.Legal.{IsLegalAfter}
use Rattle.rz_play.specs.Faults.{fuse_of}
use Rattle.rz_chronicle.specs.Keys.{word_key}
use Rattle.rz_chronicle.specs.Kinds.{keeps_legal, volume_in}
use Rattle.rz_shared_locked.specs.Adding.{AddsEvent}
use Rattle.rz_shared_locked.specs.Laws.{IsAllowedLater}
use Rattle.rz_shared_locked.specs.Occupants.{CountsHere, IsBehindLock}
use Rattle.rz_shared_locked.specs.Picks.{pick_of}
use Rattle.rz_shared_locked.specs.LockedNodes.{LockedNodeView}
use Rattle.rz_shared_locked.proofs.LockedNodes.{armed-behind, word-after}
use Rattle.rz_shared_locked.proofs.locked_node.LockedNode.armed.Goals as goal

pub add-requires-clause-legal : goal.add-requires-clause-legal
add-requires-clause-legal g c =
    let kind = g.J.Naming.kind in
    let v = volume_in kind in
    let tells = g.D.Disk.tells in
    let image = g.D.Disk.image in
    let n = c.self.inside.sid in
    let h = c.args.pass.now.log in
    let by = c.args.pass.now.actor in
    let was = c.self.inside.who in
    let inv = c.self.invariant in
    let node : n ≡ c.args.self.now.node = ap (λ (x : LockedNodeView). x.node) c.self.view_is in
    let log : c.self.inside.word_token.log ≡ h = ap (λ (x : LockedNodeView). x.log) c.self.view_is ∙ c.requires.one in
    let earlier = g.J.Naming.earlier in
    let behind : IsBehindLock tells image kind (h ++ earlier) n was = subst (λ (l : List Event). IsBehindLock tells image kind (l ++ earlier) n was) log inv.3 in
    let fit : IsTrue (keeps_legal kind) → IsLegalAfter v earlier h = λ keeps.
    c.one_rule.ensures.legal kind earlier h c.actor-by.ensures.earlier keeps (c.actor-by.ensures.fit, c.actor-by.ensures.after) in
    let room : length (of_word (w.Node n) (h ++ earlier)) < 2 ^ 64 - 1 = subst (λ (m : ℕ). length (of_word (w.Node m) (h ++ earlier)) < 2 ^ 64 - 1) (sym node)
    (subst (λ (l : List Event). length (of_word (w.Node c.args.self.now.node) (l ++ earlier)) < 2 ^ 64 - 1) c.requires.one
    (c.roomy.ensures kind (w.Node c.args.self.now.node) c.args.self.now.log earlier c.actor-by.ensures.earlier c.requires.room)) in
    let step : IsTrue (keeps_legal kind) → IsAllowedLater v earlier h by n (e.Armed n c.args.passes c.args.pick) behind.state = λ keeps.
    c.arming.ensures v earlier h by n c.args.passes c.args.pick behind.state (record { legal = fit keeps; of_volume = inv.1; tied = behind.tied keeps; room = room }) in
    λ keeps. (step keeps).allowed

pub invariant_of-self : goal.invariant_of-self
invariant_of-self g c =
    let kind = g.J.Naming.kind in
    let v = volume_in kind in
    let tells = g.D.Disk.tells in
    let image = g.D.Disk.image in
    let n = c.self.inside.sid in
    let h = c.args.pass.now.log in
    let by = c.args.pass.now.actor in
    let was = c.self.inside.who in
    let inv = c.self.invariant in
    let node : n ≡ c.args.self.now.node = ap (λ (x : LockedNodeView). x.node) c.self.view_is in
    let log : c.self.inside.word_token.log ≡ h = ap (λ (x : LockedNodeView). x.log) c.self.view_is ∙ c.requires.one in
    let earlier = g.J.Naming.earlier in
    let behind : IsBehindLock tells image kind (h ++ earlier) n was = subst (λ (l : List Event). IsBehindLock tells image kind (l ++ earlier) n was) log inv.3 in
    let fit : IsTrue (keeps_legal kind) → IsLegalAfter v earlier h = λ keeps.
    c.one_rule.ensures.legal kind earlier h c.actor-by.ensures.earlier keeps (c.actor-by.ensures.fit, c.actor-by.ensures.after) in
    let room : length (of_word (w.Node n) (h ++ earlier)) < 2 ^ 64 - 1 = subst (λ (m : ℕ). length (of_word (w.Node m) (h ++ earlier)) < 2 ^ 64 - 1) (sym node)
    (subst (λ (l : List Event). length (of_word (w.Node c.args.self.now.node) (l ++ earlier)) < 2 ^ 64 - 1) c.requires.one
    (c.roomy.ensures kind (w.Node c.args.self.now.node) c.args.self.now.log earlier c.actor-by.ensures.earlier c.requires.room)) in
    let step : IsTrue (keeps_legal kind) → IsAllowedLater v earlier h by n (e.Armed n c.args.passes c.args.pick) behind.state = λ keeps.
    c.arming.ensures v earlier h by n c.args.passes c.args.pick behind.state (record { legal = fit keeps; of_volume = inv.1; tied = behind.tied keeps; room = room }) in
    let new = c.add.new.pass.log in
    let after = c.arm_any.new.who in
    let x = e.Armed n c.args.passes c.args.pick in
    let ks = c.args.pass.now.keys in
    let adds : AddsEvent (word_key (w.Node n) ∷ ks) h (Some x) new = subst (λ (u : Word). AddsEvent (word_key u ∷ ks) h (Some x) new) inv.0 c.add.ensures.adds in
    let word : of_word (w.Node n) c.add.new.word_token.log ≡ x ∷ of_word (w.Node n) c.self.inside.word_token.log =
    ap (of_word (w.Node n)) c.add.ensures.one ∙ word-after c.words_kept.ensures Admin n ks c.self.inside.word_token.log h new (Some x) log adds (refl, refl) in (
      c.add.ensures.same.2 ∙ inv.0,
      inv.1,
      c.arm_any.ensures.laid_out,
      subst (λ (l : List Event). IsBehindLock tells image kind (l ++ earlier) n after) (sym c.add.ensures.one)
          (armed-behind tells image kind earlier h by n x was after c.longer.ensures behind step c.arm_any.ensures.state c.arm_any.ensures.imaged ks new adds c.actor-by.ensures.own
          (λ keeps. c.one_rule.ensures.legal kind earlier new c.actor-by.ensures.earlier keeps (c.add.ensures.fit, c.add.ensures.after))),
      inv.4,
      ap fuse_of (sym word),
      λ fixed. subst (λ (u : List Event). CountsHere g.D.Disk.meter (g.J.Metering.first n) u after) (sym word)
          (c.arm_any.ensures.counts (g.J.Metering.first n) c.args.pick (of_word (w.Node n) c.self.inside.word_token.log) (inv.6 fixed)),
      ap pick_of (sym word),
    )
