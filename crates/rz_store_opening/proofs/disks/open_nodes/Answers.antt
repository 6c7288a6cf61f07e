use Rattle.std.proofs.Common.{◌≡◌, List, Option, length, sym, ◌∙◌, ap, subst, arith, vec_len}
use Rattle.std.specs.List.{AllZip, zip}
use Rattle.std.proofs.lemmas.List.{length-map}
use Rattle.mj_angles.specs.declared.layout.Layout.{Layout}
use Rattle.rz_events.specs.Volume.{nodes_of}
use Rattle.rz_metadata.specs.Stands.{export_in}
use Rattle.rz_nodes.specs.Arrived.{IsArrival}
use Rattle.rz_nodes.specs.declared.arriving.KnownNode.{KnownNode}
use Rattle.rz_nodes.specs.declared.arriving.Arrival.{Arrival}
use Rattle.rz_store_opening.specs.Opening.{arrived_by, known_of}
use Rattle.rz_store_opening.proofs.Joinings.{arrivals-count, nodes-count}
use Rattle.rz_store_opening.proofs.disks.open_nodes.Goals as goal

pub with-nodes-requires-clause-count : goal.with-nodes-requires-clause-count
with-nodes-requires-clause-count g c =
    let known : c.as_slice.result.now ≡ known_of (export_in c.args.metadata) (nodes_of c.args.volume.now.clusters) = c.as_slice.ensures.value ∙ c.in-Ok.ensures.known in
    let as_many : length c.args.disks.items ≡ length c.as_slice.result.now = c.requires.count ∙ sym (length-map (nodes_of c.args.volume.now.clusters) _) ∙ ap length (sym known) in
    arrivals-count (λ p a. IsArrival g.D.Disk.tells g.D.Disk.meter g.D.Disk.text g.D.Disk.image c.volume.inside.layout p a) c.as_slice.result.now c.args.disks.items c.in-Ok-open_each.arrivals.items as_many c.in-Ok-open_each.ensures.arrived
    ∙ ap length (c.as_slice.ensures.value ∙ sym c.as_slice-in-Ok-open_each.ensures.value)

pub returns-in-Ok-open_each-clause-opened : goal.returns-in-Ok-open_each-clause-opened
returns-in-Ok-open_each-clause-opened g c =
    let specs = nodes_of c.args.volume.now.clusters in
    let s = export_in c.args.metadata in
    let known : c.as_slice.result.now ≡ known_of s specs = c.as_slice.ensures.value ∙ c.in-Ok.ensures.known in
    let again : c.as_slice-in-Ok-open_each.result.now ≡ known_of s specs = c.as_slice-in-Ok-open_each.ensures.value ∙ c.in-Ok.ensures.known in
    let layout : c.volume.inside.layout ≡ c.args.volume.now.layout = cc in
    let as_many : length c.args.disks.items ≡ length (known_of s specs) = c.requires.count ∙ sym (length-map specs _) in
    let arrived : AllZip (IsArrival g.D.Disk.tells g.D.Disk.meter g.D.Disk.text g.D.Disk.image c.args.volume.now.layout) (zip (known_of s specs) c.args.disks.items) c.in-Ok-open_each.arrivals.items =
    subst (λ (l : Layout). AllZip (IsArrival g.D.Disk.tells g.D.Disk.meter g.D.Disk.text g.D.Disk.image l) (zip (known_of s specs) c.args.disks.items) c.in-Ok-open_each.arrivals.items) layout
    (subst (λ (ks : List KnownNode). AllZip (IsArrival g.D.Disk.tells g.D.Disk.meter g.D.Disk.text g.D.Disk.image c.volume.inside.layout) (zip ks c.args.disks.items) c.in-Ok-open_each.arrivals.items) known c.in-Ok-open_each.ensures.arrived) in
    let nodes = c.with-nodes.ensures.nodes ∙ ap (λ (ks : List KnownNode). arrived_by ks c.in-Ok-open_each.arrivals.items) again in
    let R = λ (p : KnownNode × Option g.row.D.Denot) (a : Arrival g.row.D.Denot). IsArrival g.D.Disk.tells g.D.Disk.meter g.D.Disk.text g.D.Disk.image c.args.volume.now.layout p a in
    let nodes_count = ap length nodes ∙ nodes-count R (known_of s specs) c.args.disks.items c.in-Ok-open_each.arrivals.items as_many arrived in
    let arrivals_count = arrivals-count R (known_of s specs) c.args.disks.items c.in-Ok-open_each.arrivals.items as_many arrived in
    let nodes_len : vec_len c.with-nodes.result.nodes ≡ length c.with-nodes.result.nodes.items = c.with-nodes.result.nodes.ok.0 in
    let arrivals_len : vec_len c.in-Ok-open_each.arrivals ≡ length c.in-Ok-open_each.arrivals.items = c.in-Ok-open_each.arrivals.ok.0 in
    let room = c.in-Ok-open_each.ensures.room in
    record {
      count = c.requires.count;
      arrivals = c.in-Ok-open_each.arrivals.items;
      arrived = arrived;
      nodes = nodes;
      missing = c.with-nodes.ensures.missing;
      empty = c.in-Ok-open_each.ensures.empty;
      room = omega (arith, nodes_count, arrivals_count, nodes_len, arrivals_len, room);
    }
