-- The head's cell has the bins.
use Rattle.std.proofs.Common.{◌≡◌, ◌≤◌, List, length, Option, Some, None, refl, sym, ◌∙◌, ap, subst, arith}
use Rattle.std.proofs.lemmas.List.{length-take-le}
use Rattle.std.proofs.lemmas.Slice.{drop-append-drop}
use Rattle.mj_angles.specs.declared.layout.Layout.{Layout}
use Rattle.mj_angles.specs.Layout.{block_bytes_of, max_bins_of}
use Rattle.rz_events.specs.declared.keys.Key.{Key}
use Rattle.rz_events.specs.declared.records.Head.{Head}
use Rattle.rz_events.specs.declared.records.Held.{Held}
use Rattle.rz_record.specs.Record.{bins_of}
use Rattle.rz_node_model.specs.Records.{record_of}
use Rattle.rz_node_model.specs.Answers.{fetch_answer}
use Rattle.rz_events.specs.declared.nodes.FetchAnswer.TheVariants as fetch
use Rattle.rz_cells_slots.specs.declared.geometry.Geometry.{Geometry}
use Rattle.rz_node_model.specs.States.{NodeState}
use Rattle.rz_node.proofs.Views.{state-same, geometry-same, passed-along, failed-along, stands-along}
use Rattle.rz_node.proofs.Ready.{ready-up, bins-fit, fetch-holds, gives-bins, count-is}
use Rattle.rz_node.proofs.Read.{one-record}
use Rattle.rz_node.proofs.Spent.{passed-one, failed-one}
use Rattle.rz_node.specs.Kept.{IsTied}
use Rattle.rz_node.proofs.Waits.{down-open}
use Rattle.rz_node.proofs.node.Node.fetch_into.Goals as goal

pub slice_bounds-bins_into-end : goal.slice_bounds-bins_into-end
slice_bounds-bins_into-end g c =
    let is_open = ready-up c.self.inside.phase _ _ c.in-Up.is c.self.invariant.ready in
    bins-fit c.in-Some.head.layout c.args.self.now.geometry.layout c.bins_at-count.result (length c.args.out.now) c.bins_at-count.ensures.within
    (is_open.layout c.in-Some.cell c.in-Some.head c.in-Some.ensures.there.is ∙ ap (λ (y : Geometry). y.layout) (geometry-same _ _ c.self.view_is)) c.requires.room

pub slice_bounds-bins_into-end-2 : goal.slice_bounds-bins_into-end-2
slice_bounds-bins_into-end-2 g c =
    let is_open = ready-up c.self.inside.phase _ _ c.in-Up.is c.self.invariant.ready in
    let room : c.bins_at-count.result ≤ length c.args.out.now = bins-fit c.in-Some.head.layout c.args.self.now.geometry.layout c.bins_at-count.result (length c.args.out.now) c.bins_at-count.ensures.within
    (is_open.layout c.in-Some.cell c.in-Some.head c.in-Some.ensures.there.is ∙ ap (λ (y : Geometry). y.layout) (geometry-same _ _ c.self.view_is)) c.requires.room in
    sym (length-take-le c.bins_at-count.result c.args.out.now room)

pub bins_into-requires-clause-held : goal.bins_into-requires-clause-held
bins_into-requires-clause-held g c h is =
    let is_open = ready-up c.self.inside.phase _ _ c.in-Up.is c.self.invariant.ready in
    let room : c.bins_at-count.result ≤ length c.args.out.now = bins-fit c.in-Some.head.layout c.args.self.now.geometry.layout c.bins_at-count.result (length c.args.out.now) c.bins_at-count.ensures.within
    (is_open.layout c.in-Some.cell c.in-Some.head c.in-Some.ensures.there.is ∙ ap (λ (y : Geometry). y.layout) (geometry-same _ _ c.self.view_is)) c.requires.room in
    let long = length-take-le c.bins_at-count.result c.args.out.now room in
    let count = count-is c.in-Some.head c.bins_at-count.result c.bins_at-count.ensures.value in
    let there : Some c.in-Some.head ≡ Some h = sym c.in-Some.ensures.there.is ∙ is in
    let one : c.in-Some.head ≡ h = cc in
    let size = ap bins_of one in
    omega (arith, long, count, size)

pub returns-in-Ok-clause-bins : goal.returns-in-Ok-clause-bins
returns-in-Ok-clause-bins g c told records stands =
    let s = c.self.inside in
    let is_open = ready-up s.phase _ _ c.in-Up.is c.self.invariant.ready in
    let room : c.bins_at-count.result ≤ length c.args.out.now = bins-fit c.in-Some.head.layout c.args.self.now.geometry.layout c.bins_at-count.result (length c.args.out.now) c.bins_at-count.ensures.within
    (is_open.layout c.in-Some.cell c.in-Some.head c.in-Some.ensures.there.is ∙ ap (λ (y : Geometry). y.layout) (geometry-same _ _ c.self.view_is)) c.requires.room in
    let stood = stands-along g.D.Disk.text _ _ records c.self.view_is stands in
    let r = one-record s.cells.geometry s.cells.fence s.cells.fence (g.D.Disk.text s.cells.disk) s.cells.heads (is_open.holds told) stood.0 stood.1 c.in-Some.cell c.in-Some.head c.in-Some.ensures.there.within c.in-Some.ensures.there.is in
    gives-bins records c.args.key c.in-Some.head r.0 c.in-Ok.field-0 c.bins_at-count.result c.args.out.now c.bins_into.new.out room c.bins_into.auto.out c.bins_at-count.ensures.value
    (c.in-Ok.ensures.count c.in-Some.head c.in-Some.ensures.there.is) c.in-Some.ensures.there.named
    (ap (λ (k : Key). records k c.in-Some.head.stamp) (sym r.2) ∙ ap (records r.0.head.key) (ap (λ (t : Held). t.stamp) (sym r.3)) ∙ stood.2.only c.in-Some.cell r.0 r.1) r.3 (c.in-Ok.ensures.bins told stood.0 r.0 stood.1 r.1)

-- the head that the node keeps is one of the layout
pub returns-in-Ok-clause-fetched : goal.returns-in-Ok-clause-fetched
returns-in-Ok-clause-fetched g c =
    let is_open = ready-up c.self.inside.phase _ _ c.in-Up.is c.self.invariant.ready in
    let head = c.in-Some.head in
    let is = c.in-Some.ensures.there.is in
    let layout : head.layout ≡ c.args.self.now.geometry.layout = is_open.layout c.in-Some.cell head is ∙ ap (λ (y : Geometry). y.layout) (geometry-same _ _ c.self.view_is) in
    let valid = is_open.valid c.in-Some.cell head is in
    (valid.older, subst (λ (y : Layout). head.length ≤ block_bytes_of y) layout valid.fits)

pub returns-in-Ok-clause-rest : goal.returns-in-Ok-clause-rest
returns-in-Ok-clause-rest g c =
    let is_open = ready-up c.self.inside.phase _ _ c.in-Up.is c.self.invariant.ready in
    let layout : c.in-Some.head.layout ≡ c.args.self.now.geometry.layout = is_open.layout c.in-Some.cell c.in-Some.head c.in-Some.ensures.there.is ∙ ap (λ (y : Geometry). y.layout) (geometry-same _ _ c.self.view_is) in
    let most : c.bins_at-count.result ≤ max_bins_of c.args.self.now.geometry.layout = subst (λ (y : Layout). c.bins_at-count.result ≤ max_bins_of y) layout c.bins_at-count.ensures.within in
    let room : c.bins_at-count.result ≤ length c.args.out.now = bins-fit c.in-Some.head.layout c.args.self.now.geometry.layout c.bins_at-count.result (length c.args.out.now) c.bins_at-count.ensures.within layout c.requires.room in
    drop-append-drop c.bins_at-count.result c.args.out.now c.bins_into.new.out (max_bins_of c.args.self.now.geometry.layout) most (c.bins_into.auto.out ∙ length-take-le c.bins_at-count.result c.args.out.now room)

pub returns-in-Ok-clause-spends : goal.returns-in-Ok-clause-spends
returns-in-Ok-clause-spends g c =
    passed-along g.D.Disk.meter _ _ 1 (g.D.Disk.meter c.bins_into.new.self.disk) c.self.view_is
    (passed-one c.in-Ok.field-0 (g.D.Disk.meter c.self.inside.cells.disk) (g.D.Disk.meter c.bins_into.new.self.disk) c.in-Ok.ensures.meter)

pub returns-in-Err-clause-answer : goal.returns-in-Err-clause-answer
returns-in-Err-clause-answer g c position =
    let s = c.self.inside in (
      record_of c.in-Some.head,
      subst (λ (v : NodeState). fetch_answer v c.args.key c.args.stamp ≡ fetch.Held (record_of c.in-Some.head)) (state-same _ _ c.self.view_is)
          (fetch-holds s.phase s.losses s.undecided s.cells.fence s.index.entries s.cells.heads c.args.key c.args.stamp (record_of c.in-Some.head) c.in-Up.is c.in-Some.ensures.found),
    )

pub returns-in-Err-clause-spends : goal.returns-in-Err-clause-spends
returns-in-Err-clause-spends g c =
    failed-along g.D.Disk.meter _ _ 1 (g.D.Disk.meter c.bins_into.new.self.disk) c.self.view_is
    (failed-one c.in-Err.field-0 (g.D.Disk.meter c.self.inside.cells.disk) (g.D.Disk.meter c.bins_into.new.self.disk) c.in-Err.ensures.meter)

pub invariant_of-self-in-Err : goal.invariant_of-self-in-Err
invariant_of-self-in-Err g c =
    let n = c.bins_into.new.self in
    let tied = subst (λ (y : Geometry). IsTied y.cells n.heads c.self.inside.index) (sym c.bins_into.ensures.geometry) (subst (λ (hs : List (Option Head)). IsTied c.self.inside.cells.geometry.cells hs c.self.inside.index) (sym c.bins_into.ensures.heads) c.self.invariant.tied) in
    record {
      tied = tied;
      decided = λ down. absurd (down refl);
      ready = down-open g.D.Disk.tells (g.D.Disk.text n.disk) (g.D.Disk.image n.disk) n.geometry n.fence n.gates.items n.heads c.self.inside.index None tied c.bins_into.ensures.open refl;
    }
