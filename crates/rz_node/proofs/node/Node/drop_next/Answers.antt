-- The lesser version of the least block goes.
use Rattle.std.proofs.Common.{ℕ, true, false, Some, None, refl, sym, ◌∙◌, ap, subst}
use Rattle.std.specs.Prelude.{is_some}
use Rattle.rz_events.specs.declared.keys.Key.{Key}
use Rattle.rz_events.specs.declared.nodes.DropAnswer.TheVariants as drop
use Rattle.rz_node_model.specs.declared.pending.Pending.TheVariants as pending
use Rattle.rz_node_model.specs.Afterwards.{with_change}
use Rattle.rz_node_model.specs.Answers.{drop_answer}
use Rattle.rz_node_model.specs.Records.{Records, stamp_of, key_at, least_block, carried, with_held}
use Rattle.rz_node_model.specs.Versions.{has_stamp, without}
use Rattle.rz_versions.specs.Sides.{in_order, put_at}
use Rattle.rz_node.specs.CrashOutcomes.{CrashOutcomes}
use Rattle.rz_node.specs.Kept.{held_by, sides_in, records_in}
use Rattle.rz_node.proofs.Drops.{first-none, first-some, some-lesser, side-stands, dropping, held-dropped}
use Rattle.rz_node.proofs.Ready.{ready-up}
use Rattle.rz_node.proofs.Views.{state-same, around-along, held-up, drop-none, drop-some, changed-up}
use Rattle.rz_node.specs.DownDisk.{HoldsEitherHeld}
use Rattle.rz_node.proofs.Waits.{down-drop}
use Rattle.rz_node.proofs.node.Node.drop_next.Goals as goal

pub returns-in_default-clause-answer : goal.returns-in_default-clause-answer
returns-in_default-clause-answer g c =
    let s = c.self.inside in
    sym (drop-none s.phase s.losses s.undecided s.cells.fence s.index.entries s.cells.heads c.in-Up.is c.args.fid (first-none s.cells.geometry.cells s.cells.heads s.index c.self.invariant.tied c.args.fid c.in_default.ensures)) ∙ (λ i. drop_answer (state-same _ _ c.self.view_is i) c.args.fid)

pub unreachable-requires : goal.unreachable-requires
unreachable-requires g c =
    let s = c.self.inside in
    some-lesser s.cells.geometry.cells s.cells.heads s.index c.self.invariant.tied c.args.fid c.in-Some.entry c.in-Some.ensures c.in_default-lesser.ensures

pub unreachable-requires-in_default-side_of : goal.unreachable-requires-in_default-side_of
unreachable-requires-in_default-side_of g c =
    let s = c.self.inside in
    side-stands s.cells.geometry.cells s.cells.heads s.index c.self.invariant.tied c.args.fid c.in-Some.entry c.in-Some.ensures c.in-Some-lesser.version c.in-Some-lesser.ensures c.in_default-side_of.ensures

pub clear_in-requires-clause-there : goal.clear_in-requires-clause-there
clear_in-requires-clause-there g c =
    let s = c.self.inside in
    let is_open = ready-up s.phase _ _ c.in-Up.is c.self.invariant.ready in
    let e = c.in-Some.entry in
    let v = c.in-Some-lesser.version in
    let d = dropping s.cells.geometry.cells s.cells.heads s.index c.self.invariant.tied c.args.fid e c.in-Some.ensures is_open.apart v c.in-Some-lesser.ensures c.in-Some-side_of.side c.in-Some-side_of.ensures in
    d.there

pub clear_in-requires-clause-side : goal.clear_in-requires-clause-side
clear_in-requires-clause-side g c =
    let s = c.self.inside in
    let is_open = ready-up s.phase _ _ c.in-Up.is c.self.invariant.ready in
    let e = c.in-Some.entry in
    let v = c.in-Some-lesser.version in
    let d = dropping s.cells.geometry.cells s.cells.heads s.index c.self.invariant.tied c.args.fid e c.in-Some.ensures is_open.apart v c.in-Some-lesser.ensures c.in-Some-side_of.side c.in-Some-side_of.ensures in
    d.two

pub returns-in-Ok-clause-answer : goal.returns-in-Ok-clause-answer
returns-in-Ok-clause-answer g c =
    let s = c.self.inside in
    let is_open = ready-up s.phase _ _ c.in-Up.is c.self.invariant.ready in
    let e = c.in-Some.entry in
    let v = c.in-Some-lesser.version in
    let d = dropping s.cells.geometry.cells s.cells.heads s.index c.self.invariant.tied c.args.fid e c.in-Some.ensures is_open.apart v c.in-Some-lesser.ensures c.in-Some-side_of.side c.in-Some-side_of.ensures in
    let H = held_by s.index.entries s.cells.heads in
    let held = c.in-Ok.ensures.held ∙ held-dropped s.cells.heads s.index c.args.fid e v c.in-Some-side_of.side d in
    let more = c.is_some.ensures ∙ ap is_some c.first_of-in-Ok.ensures ∙ first-some c.clear_in.new.cells.geometry.cells c.clear_in.new.cells.heads c.clear_in.new.index c.clear_in.ensures.tied c.args.fid ∙ ap (λ (x : Records). is_some (least_block x c.args.fid)) held in
    (λ i. drop.Dropped e.key.block v.stamp (more i))
    ∙ ap (λ (n : ℕ). drop.Dropped e.key.block n (is_some (least_block (carried (pending.Drop (key_at c.args.fid e.key.block) n) H) c.args.fid))) (sym d.stamp_is)
    ∙ sym (drop-some s.phase s.losses s.undecided s.cells.fence s.index.entries s.cells.heads c.in-Up.is c.args.fid e.key.block d.gone d.least d.lesser) ∙ (λ i. drop_answer (state-same _ _ c.self.view_is i) c.args.fid)

pub returns-in-Ok-clause-after : goal.returns-in-Ok-clause-after
returns-in-Ok-clause-after g c =
    let s = c.self.inside in
    let is_open = ready-up s.phase _ _ c.in-Up.is c.self.invariant.ready in
    let e = c.in-Some.entry in
    let v = c.in-Some-lesser.version in
    let d = dropping s.cells.geometry.cells s.cells.heads s.index c.self.invariant.tied c.args.fid e c.in-Some.ensures is_open.apart v c.in-Some-lesser.ensures c.in-Some-side_of.side c.in-Some-side_of.ensures in
    changed-up s.phase s.losses s.undecided s.cells.fence s.index.entries s.cells.heads c.in-Up.is c.clear_in.new.cells.fence c.clear_in.new.index.entries c.clear_in.new.cells.heads (pending.Drop (key_at c.args.fid e.key.block) v.stamp)
    c.clear_in.ensures.fence (c.in-Ok.ensures.held ∙ held-dropped s.cells.heads s.index c.args.fid e v c.in-Some-side_of.side d)
    ∙ (λ i. with_change (state-same _ _ c.self.view_is i) (pending.Drop (key_at c.args.fid e.key.block) v.stamp))

pub returns-in-Err-clause-answer : goal.returns-in-Err-clause-answer
returns-in-Err-clause-answer g c =
    let s = c.self.inside in
    let is_open = ready-up s.phase _ _ c.in-Up.is c.self.invariant.ready in
    let e = c.in-Some.entry in
    let v = c.in-Some-lesser.version in
    let d = dropping s.cells.geometry.cells s.cells.heads s.index c.self.invariant.tied c.args.fid e c.in-Some.ensures is_open.apart v c.in-Some-lesser.ensures c.in-Some-side_of.side c.in-Some-side_of.ensures in (
      is_some (least_block (carried (pending.Drop (key_at c.args.fid e.key.block) v.stamp) (held_by s.index.entries s.cells.heads)) c.args.fid),
      sym (λ i. drop_answer (state-same _ _ c.self.view_is i) c.args.fid) ∙ drop-some s.phase s.losses s.undecided s.cells.fence s.index.entries s.cells.heads c.in-Up.is c.args.fid e.key.block d.gone d.least d.lesser
          ∙ ap (λ (n : ℕ). drop.Dropped e.key.block n (is_some (least_block (carried (pending.Drop (key_at c.args.fid e.key.block) n) (held_by s.index.entries s.cells.heads)) c.args.fid))) d.stamp_is,
    )

pub returns-in-Ok-clause-stands : goal.returns-in-Ok-clause-stands
returns-in-Ok-clause-stands g c told =
    let s = c.self.inside in
    let is_open = ready-up s.phase _ _ c.in-Up.is c.self.invariant.ready in
    let e = c.in-Some.entry in
    let v = c.in-Some-lesser.version in
    let d = dropping s.cells.geometry.cells s.cells.heads s.index c.self.invariant.tied c.args.fid e c.in-Some.ensures is_open.apart v c.in-Some-lesser.ensures c.in-Some-side_of.side c.in-Some-side_of.ensures in
    around-along g.D.Disk.text _ _ (g.D.Disk.text c.clear_in.new.cells.disk) (g.D.Disk.image c.clear_in.new.cells.disk) (Some true) (key_at c.args.fid e.key.block) (without stamp_of v.stamp)
    (records_in s.cells.heads e.cell) (in_order stamp_of (put_at (sides_in s.cells.heads e.cell) c.in-Some-side_of.side None)) None
    c.self.view_is (held-up s.phase s.index.entries s.cells.heads (key_at c.args.fid e.key.block) c.in-Up.is ∙ d.before) d.leaves
    (subst (λ (k : Key). CrashOutcomes s.cells.geometry s.cells.fence (g.D.Disk.text s.cells.disk) (g.D.Disk.text c.clear_in.new.cells.disk) (g.D.Disk.image c.clear_in.new.cells.disk) (Some true) k (records_in s.cells.heads e.cell) (in_order stamp_of (put_at (sides_in s.cells.heads e.cell) c.in-Some-side_of.side None)) None) (sym d.key_is) (c.in-Ok.ensures.stands told))

pub returns-in-Err-clause-stands : goal.returns-in-Err-clause-stands
returns-in-Err-clause-stands g c told =
    let s = c.self.inside in
    let is_open = ready-up s.phase _ _ c.in-Up.is c.self.invariant.ready in
    let e = c.in-Some.entry in
    let v = c.in-Some-lesser.version in
    let d = dropping s.cells.geometry.cells s.cells.heads s.index c.self.invariant.tied c.args.fid e c.in-Some.ensures is_open.apart v c.in-Some-lesser.ensures c.in-Some-side_of.side c.in-Some-side_of.ensures in
    around-along g.D.Disk.text _ _ (g.D.Disk.text c.clear_in.new.cells.disk) (g.D.Disk.image c.clear_in.new.cells.disk) (Some false) (key_at c.args.fid e.key.block) (without stamp_of v.stamp)
    (records_in s.cells.heads e.cell) (in_order stamp_of (put_at (sides_in s.cells.heads e.cell) c.in-Some-side_of.side None)) None
    c.self.view_is (held-up s.phase s.index.entries s.cells.heads (key_at c.args.fid e.key.block) c.in-Up.is ∙ d.before) d.leaves
    (subst (λ (k : Key). CrashOutcomes s.cells.geometry s.cells.fence (g.D.Disk.text s.cells.disk) (g.D.Disk.text c.clear_in.new.cells.disk) (g.D.Disk.image c.clear_in.new.cells.disk) (Some false) k (records_in s.cells.heads e.cell) (in_order stamp_of (put_at (sides_in s.cells.heads e.cell) c.in-Some-side_of.side None)) None) (sym d.key_is) (c.in-Err.ensures.stands told))

pub invariant_of-self-in-Err : goal.invariant_of-self-in-Err
invariant_of-self-in-Err g c =
    let s = c.self.inside in
    let is_open = ready-up s.phase _ _ c.in-Up.is c.self.invariant.ready in
    let e = c.in-Some.entry in
    let v = c.in-Some-lesser.version in
    let d = dropping s.cells.geometry.cells s.cells.heads s.index c.self.invariant.tied c.args.fid e c.in-Some.ensures is_open.apart v c.in-Some-lesser.ensures c.in-Some-side_of.side c.in-Some-side_of.ensures in
    let rs = in_order stamp_of (put_at (sides_in s.cells.heads e.cell) c.in-Some-side_of.side None) in
    let H = held_by c.clear_in.new.index.entries c.clear_in.new.cells.heads in
    record {
      tied = c.clear_in.ensures.tied;
      decided = λ down. absurd (down refl);
      ready = down-drop g.D.Disk.tells (g.D.Disk.image c.clear_in.new.cells.disk) c.clear_in.new.cells.geometry c.clear_in.new.cells.fence (held_by s.index.entries s.cells.heads) H
          (λ i. held_by (c.in-Err.ensures.index i).entries (c.in-Err.ensures.heads i)) (key_at c.args.fid e.key.block) rs
          (λ told. subst (λ (k : Key). HoldsEitherHeld c.clear_in.new.cells.geometry c.clear_in.new.cells.fence (g.D.Disk.image c.clear_in.new.cells.disk) H (with_held H k rs)) (sym d.key_is) (c.in-Err.ensures.waits told))
          v.stamp (ap (has_stamp stamp_of v.stamp) d.before ∙ d.had) d.lost (d.leaves ∙ ap (without stamp_of v.stamp) (sym d.before));
    }
