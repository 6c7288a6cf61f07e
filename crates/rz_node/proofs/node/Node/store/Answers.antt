-- What is put is what the rule puts.
use Rattle.std.proofs.Common.{◌≡◌, true, false, Some, None, refl, sym, ◌∙◌, ap, subst}
use Rattle.rz_record.specs.Slot.{Rec}
use Rattle.rz_node_model.specs.Afterwards.{with_change}
use Rattle.rz_node_model.specs.Records.{record_of, held_of, stamp_of, with_held}
use Rattle.rz_node_model.specs.States.{NodeState}
use Rattle.rz_versions.specs.declared.versions.Version.{Version}
use Rattle.rz_versions.specs.declared.versions.Room.TheVariants.{Put, Passed}
use Rattle.rz_versions.specs.Sides.{in_order, put_at, side_for, room}
use Rattle.rz_versions.specs.Sides as sides
use Rattle.rz_node.specs.Kept.{held_by, sides_in, records_in}
use Rattle.rz_node.specs.Stores.{passes, gives_way, stored_in, stored_answer, change_by}
use Rattle.rz_node.proofs.Places.{placed}
use Rattle.rz_node.proofs.Keeps.{not-full, full, nothing-held}
use Rattle.rz_node.proofs.Stores.{by-passed, by-put, by-none, by-carried, stored-up, down-stored}
use Rattle.rz_node.proofs.Views.{state-same, geometry-same, around-along, held-up, changed-up}
use Rattle.rz_node.proofs.node.Node.store.Goals as goal

pub returns-in_default-clause-stored : goal.returns-in_default-clause-stored
returns-in_default-clause-stored g c =
    let s = c.self.inside in
    let h = c.args.head.now in
    let up = ap (λ (n : NodeState). n.phase) (state-same _ _ c.self.view_is) ∙ c.requires.up in
    sym (stored-up s.phase s.index.entries s.cells.heads up s.cells.geometry.cells c.args.rule h.key (record_of h) None true
    (by-none c.args.rule h.stamp (held_of (held_by s.index.entries s.cells.heads) h.key) (nothing-held s.cells.geometry.cells s.cells.heads s.index c.self.invariant.tied h.key (sym c.in_default.ensures)))
    (full s.cells.geometry.cells s.cells.heads s.index c.self.invariant.tied h.key (sym c.in_default.ensures)))
    ∙ (λ i. stored_answer (geometry-same _ _ c.self.view_is i).cells (state-same _ _ c.self.view_is i).held c.args.rule h.key (record_of h))

pub returns-in-Passed-clause-stored : goal.returns-in-Passed-clause-stored
returns-in-Passed-clause-stored g c =
    let s = c.self.inside in
    let h = c.args.head.now in
    let e = c.in-Some.entry in
    let up = ap (λ (n : NodeState). n.phase) (state-same _ _ c.self.view_is) ∙ c.requires.up in
    let p = placed s.cells.geometry.cells s.cells.heads s.index c.self.invariant.tied h.key e (sym c.in-Some.ensures) in
    let passed = by-passed s.cells.geometry.cells s.cells.heads s.index h e p c.args.rule c.in-Passed.held (subst (λ (v : Version). Passed c.in-Passed.held ≡ room (passes c.args.rule sides.version_stamp sides.version_base v.stamp (in_order sides.version_stamp e.versions)) (side_for sides.version_stamp (gives_way c.args.rule v.base) e.versions)) c.version.ensures c.in-Passed.ensures.room) in
    sym (stored-up s.phase s.index.entries s.cells.heads up s.cells.geometry.cells c.args.rule h.key (record_of h) (Some c.in-Passed.held) false passed (not-full s.cells.geometry.cells s.cells.heads s.index c.self.invariant.tied h.key e (sym c.in-Some.ensures)))
    ∙ (λ i. stored_answer (geometry-same _ _ c.self.view_is i).cells (state-same _ _ c.self.view_is i).held c.args.rule h.key (record_of h))

pub returns-in-Ok-clause-stored : goal.returns-in-Ok-clause-stored
returns-in-Ok-clause-stored g c =
    let s = c.self.inside in
    let h = c.args.head.now in
    let e = c.in-Some.entry in
    let up = ap (λ (n : NodeState). n.phase) (state-same _ _ c.self.view_is) ∙ c.requires.up in
    let p = placed s.cells.geometry.cells s.cells.heads s.index c.self.invariant.tied h.key e (sym c.in-Some.ensures) in
    let put = by-put s.cells.geometry.cells s.cells.heads s.index h e p c.args.rule c.in-Put.side (subst (λ (v : Version). Put c.in-Put.side ≡ room (passes c.args.rule sides.version_stamp sides.version_base v.stamp (in_order sides.version_stamp e.versions)) (side_for sides.version_stamp (gives_way c.args.rule v.base) e.versions)) c.version.ensures c.in-Put.ensures.room) in
    sym (stored-up s.phase s.index.entries s.cells.heads up s.cells.geometry.cells c.args.rule h.key (record_of h) None false put.0 (not-full s.cells.geometry.cells s.cells.heads s.index c.self.invariant.tied h.key e (sym c.in-Some.ensures)))
    ∙ (λ i. stored_answer (geometry-same _ _ c.self.view_is i).cells (state-same _ _ c.self.view_is i).held c.args.rule h.key (record_of h))

pub returns-in-Err-clause-stored : goal.returns-in-Err-clause-stored
returns-in-Err-clause-stored g c =
    let s = c.self.inside in
    let h = c.args.head.now in
    let e = c.in-Some.entry in
    let up = ap (λ (n : NodeState). n.phase) (state-same _ _ c.self.view_is) ∙ c.requires.up in
    let p = placed s.cells.geometry.cells s.cells.heads s.index c.self.invariant.tied h.key e (sym c.in-Some.ensures) in
    let put = by-put s.cells.geometry.cells s.cells.heads s.index h e p c.args.rule c.in-Put.side (subst (λ (v : Version). Put c.in-Put.side ≡ room (passes c.args.rule sides.version_stamp sides.version_base v.stamp (in_order sides.version_stamp e.versions)) (side_for sides.version_stamp (gives_way c.args.rule v.base) e.versions)) c.version.ensures c.in-Put.ensures.room) in
    sym (λ i. stored_answer (geometry-same _ _ c.self.view_is i).cells (state-same _ _ c.self.view_is i).held c.args.rule h.key (record_of h))
    ∙ stored-up s.phase s.index.entries s.cells.heads up s.cells.geometry.cells c.args.rule h.key (record_of h) None false put.0 (not-full s.cells.geometry.cells s.cells.heads s.index c.self.invariant.tied h.key e (sym c.in-Some.ensures))

pub returns-in-Ok-clause-after : goal.returns-in-Ok-clause-after
returns-in-Ok-clause-after g c =
    let s = c.self.inside in
    let h = c.args.head.now in
    let e = c.in-Some.entry in
    let up = ap (λ (n : NodeState). n.phase) (state-same _ _ c.self.view_is) ∙ c.requires.up in
    let p = placed s.cells.geometry.cells s.cells.heads s.index c.self.invariant.tied h.key e (sym c.in-Some.ensures) in
    let put = by-put s.cells.geometry.cells s.cells.heads s.index h e p c.args.rule c.in-Put.side (subst (λ (v : Version). Put c.in-Put.side ≡ room (passes c.args.rule sides.version_stamp sides.version_base v.stamp (in_order sides.version_stamp e.versions)) (side_for sides.version_stamp (gives_way c.args.rule v.base) e.versions)) c.version.ensures c.in-Put.ensures.room) in
    changed-up s.phase s.losses s.undecided s.cells.fence s.index.entries s.cells.heads up c.put_in.new.cells.fence c.put_in.new.index.entries c.put_in.new.cells.heads (change_by c.args.rule h.key (record_of h))
    c.put_in.ensures.fence (c.in-Ok.ensures.held ∙ ap (with_held (held_by s.index.entries s.cells.heads) h.key) put.1 ∙ by-carried c.args.rule h.key (record_of h) (held_by s.index.entries s.cells.heads))
    ∙ (λ i. with_change (state-same _ _ c.self.view_is i) (change_by c.args.rule h.key (record_of h)))

pub returns-in-Ok-clause-stands : goal.returns-in-Ok-clause-stands
returns-in-Ok-clause-stands g c ne told =
    let s = c.self.inside in
    let h = c.args.head.now in
    let e = c.in-Some.entry in
    let up = ap (λ (n : NodeState). n.phase) (state-same _ _ c.self.view_is) ∙ c.requires.up in
    let p = placed s.cells.geometry.cells s.cells.heads s.index c.self.invariant.tied h.key e (sym c.in-Some.ensures) in
    let put = by-put s.cells.geometry.cells s.cells.heads s.index h e p c.args.rule c.in-Put.side (subst (λ (v : Version). Put c.in-Put.side ≡ room (passes c.args.rule sides.version_stamp sides.version_base v.stamp (in_order sides.version_stamp e.versions)) (side_for sides.version_stamp (gives_way c.args.rule v.base) e.versions)) c.version.ensures c.in-Put.ensures.room) in
    let r : Rec = record { head = h; bins = c.args.bins.now } in
    around-along g.D.Disk.text _ _ (g.D.Disk.text c.put_in.new.cells.disk) (g.D.Disk.image c.put_in.new.cells.disk) (Some true) h.key (stored_in c.args.rule (record_of h))
    (records_in s.cells.heads e.cell) (in_order stamp_of (put_at (sides_in s.cells.heads e.cell) c.in-Put.side (Some (record_of h)))) (Some r)
    c.self.view_is (held-up s.phase s.index.entries s.cells.heads h.key up ∙ p.held) (put.1 ∙ ap (stored_in c.args.rule (record_of h)) p.held) (c.in-Ok.ensures.stands told)

pub returns-in-Err-clause-stands : goal.returns-in-Err-clause-stands
returns-in-Err-clause-stands g c ne told =
    let s = c.self.inside in
    let h = c.args.head.now in
    let e = c.in-Some.entry in
    let up = ap (λ (n : NodeState). n.phase) (state-same _ _ c.self.view_is) ∙ c.requires.up in
    let p = placed s.cells.geometry.cells s.cells.heads s.index c.self.invariant.tied h.key e (sym c.in-Some.ensures) in
    let put = by-put s.cells.geometry.cells s.cells.heads s.index h e p c.args.rule c.in-Put.side (subst (λ (v : Version). Put c.in-Put.side ≡ room (passes c.args.rule sides.version_stamp sides.version_base v.stamp (in_order sides.version_stamp e.versions)) (side_for sides.version_stamp (gives_way c.args.rule v.base) e.versions)) c.version.ensures c.in-Put.ensures.room) in
    let r : Rec = record { head = h; bins = c.args.bins.now } in
    around-along g.D.Disk.text _ _ (g.D.Disk.text c.put_in.new.cells.disk) (g.D.Disk.image c.put_in.new.cells.disk) (Some false) h.key (stored_in c.args.rule (record_of h))
    (records_in s.cells.heads e.cell) (in_order stamp_of (put_at (sides_in s.cells.heads e.cell) c.in-Put.side (Some (record_of h)))) (Some r)
    c.self.view_is (held-up s.phase s.index.entries s.cells.heads h.key up ∙ p.held) (put.1 ∙ ap (stored_in c.args.rule (record_of h)) p.held) (c.in-Err.ensures.stands told)

pub invariant_of-self-in-Err : goal.invariant_of-self-in-Err
invariant_of-self-in-Err g c =
    let s = c.self.inside in
    let h = c.args.head.now in
    let e = c.in-Some.entry in
    let p = placed s.cells.geometry.cells s.cells.heads s.index c.self.invariant.tied h.key e (sym c.in-Some.ensures) in
    let put = by-put s.cells.geometry.cells s.cells.heads s.index h e p c.args.rule c.in-Put.side (subst (λ (v : Version). Put c.in-Put.side ≡ room (passes c.args.rule sides.version_stamp sides.version_base v.stamp (in_order sides.version_stamp e.versions)) (side_for sides.version_stamp (gives_way c.args.rule v.base) e.versions)) c.version.ensures c.in-Put.ensures.room) in
    record {
      tied = c.put_in.ensures.tied;
      decided = λ down. absurd (down refl);
      ready = down-stored g.D.Disk.tells (g.D.Disk.image c.put_in.new.cells.disk) c.put_in.new.cells.geometry c.put_in.new.cells.fence (held_by s.index.entries s.cells.heads) (held_by c.put_in.new.index.entries c.put_in.new.cells.heads)
          (λ i. held_by (c.in-Err.ensures.index i).entries (c.in-Err.ensures.heads i)) h.key (in_order stamp_of (put_at (sides_in s.cells.heads e.cell) c.in-Put.side (Some (record_of h)))) c.in-Err.ensures.waits
          c.args.rule (record_of h) (sides_in s.cells.heads e.cell) c.change.result (c.change.ensures ∙ ap (change_by c.args.rule h.key) c.told.ensures) p.held put.0 put.1;
    }
