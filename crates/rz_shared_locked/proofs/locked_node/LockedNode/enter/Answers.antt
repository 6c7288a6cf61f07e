use Rattle.std.proofs.Common.{◌≡◌, List, ◌++◌, refl, sym, ap, ◌∙◌, subst, inl}
use Rattle.rz_events.specs.declared.events.Word.{Word}
use Rattle.rz_events.specs.declared.events.Word.TheVariants as w
use Rattle.rz_events.specs.declared.events.Event.{Event}
use Rattle.rz_core.specs.History.{of_word}
use Rattle.rz_play.specs.Faults.{fuse_of}
use Rattle.rz_chronicle.specs.Keys.{events_at, word_key}
use Rattle.rz_chronicle.specs.Kinds.{volume_in}
use Rattle.rz_shared_locked.specs.Picks.{pick_of}
use Rattle.rz_shared_locked.specs.Occupants.{CountsHere, IsBehindLock}
use Rattle.rz_shared_locked.proofs.LockedNodes.{behind-later}
use Rattle.rz_shared_locked.proofs.locked_node.LockedNode.enter.Goals as goal

pub invariant_of-self : goal.invariant_of-self
invariant_of-self g c =
    let kind = g.J.Naming.kind in
    let v = volume_in kind in
    let earlier = g.J.Naming.earlier in
    let tells = g.D.Disk.tells in
    let image = g.D.Disk.image in
    let n = c.self.inside.sid in
    let who = c.self.inside.who in
    let inv = c.self.invariant in
    let old = c.self.inside.word_token.log in
    let new = c.enter.new.pass.log in
    let same : events_at (word_key (w.Node n)) new ≡ events_at (word_key (w.Node n)) old =
    subst (λ (u : Word). events_at (word_key u) new ≡ events_at (word_key u) old) inv.0 (c.enter.ensures.serves (word_key c.self.inside.word_token.word) (inl refl)) in
    let word : of_word (w.Node n) c.enter.new.word_token.log ≡ of_word (w.Node n) old = ap (of_word (w.Node n)) c.enter.ensures.one ∙ c.words_kept.ensures (w.Node n) new old same in (
      c.enter.ensures.same.2 ∙ inv.0,
      inv.1,
      inv.2,
      subst (λ (l : List Event). IsBehindLock tells image kind (l ++ earlier) n who) (sym c.enter.ensures.one)
          (behind-later tells image kind earlier n who old new (c.locked_node_kept.ensures v) c.longer.ensures
          (λ there. c.one_rule.ensures.legal kind earlier old c.room-fit.ensures.earlier there (c.room-fit.ensures.fit, c.room-fit.ensures.after))
          c.enter.ensures.later.1 same inv.3),
      inv.4,
      inv.5 ∙ ap fuse_of (sym word),
      λ fixed. subst (λ (u : List Event). CountsHere g.D.Disk.meter (g.J.Metering.first n) u who) (sym word) (inv.6 fixed),
      inv.7 ∙ ap pick_of (sym word),
    )
