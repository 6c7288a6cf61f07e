use Rattle.std.proofs.Common.{◌≡◌, List, [], ◌++◌, sym, ap, subst}
use Rattle.rz_events.specs.declared.events.Word.TheVariants as w
use Rattle.rz_events.specs.declared.events.Event.{Event}
use Rattle.rz_core.specs.History.{of_word}
use Rattle.rz_chronicle.specs.Rules.{WordTokenView}
use Rattle.rz_play.specs.Faults.{fuse_of}
use Rattle.rz_shared_locked.specs.declared.occupant.Occupant.TheVariants.{Here}
use Rattle.rz_shared_locked.specs.Counts.{GoesWith}
use Rattle.rz_shared_locked.specs.Occupants.{IsBehindLock}
use Rattle.rz_shared_locked.specs.Picks.{pick_of}
use Rattle.rz_shared_locked.proofs.Meters.{fresh-goes}
use Rattle.rz_shared_locked.proofs.Occupants.{here-behind}
use Rattle.rz_shared_locked.proofs.locked_node.LockedNode.opened.Goals as goal

pub invariant_of-result : goal.invariant_of-result
invariant_of-result g c =
    let kind = g.J.Naming.kind in
    let earlier = g.J.Naming.earlier in
    let n = c.args.sid in
    let node = c.args.node in
    let empty : c.args.word_token.log ≡ [] = ap (λ (p : WordTokenView). p.log) c.requires.word_token in (
      ap (λ (p : WordTokenView). p.word) c.requires.word_token,
      c.requires.of_volume,
      c.requires.geometry,
      subst (λ (h : List Event). IsBehindLock g.D.Disk.tells g.D.Disk.image kind (h ++ earlier) n (Here node)) (sym empty)
          (here-behind g.D.Disk.tells g.D.Disk.image kind earlier n node c.requires.logged),
      c.requires.fuse,
      ap (λ (h : List Event). fuse_of (of_word (w.Node n) h)) (sym empty),
      λ fixed. subst (λ (h : List Event). GoesWith g.D.Disk.meter (g.J.Metering.first n) (of_word (w.Node n) h) node) (sym empty)
          (fresh-goes g.D.Disk.meter (g.J.Metering.first n) node c.requires.count c.requires.unarmed),
      ap (λ (h : List Event). pick_of (of_word (w.Node n) h)) (sym empty),
    )
