use Rattle.std.proofs.Common.{◌≡◌, ◌≤◌, List, [], ◌∷◌, length, refl, arith, sym, subst}
use Rattle.std.specs.Vec.{with_items}
use Rattle.mj_angles.specs.Layout.{max_bins_of}
use Rattle.rz_disk.specs.UnderFuse.{UnderFuse, fused_meter}
use Rattle.rz_scrub_report.specs.Stores.{AreBinsRead}
use Rattle.rz_node_model.specs.NodeEvents.{fetch_event}
use Rattle.rz_events.specs.declared.keys.Actor.TheVariants.{Admin}
use Rattle.rz_nodes.specs.declared.formatting.Server.{Server}
use Rattle.rz_driver_nodes.specs.Fetches.{HaveRoom, IsFetch, GivesIn}
use Rattle.rz_driver_nodes.specs.Asked.{AreOnlyAsked, fused_text}
use Rattle.rz_driver_nodes.specs.Images.{fused_image}
use Rattle.rz_driver.specs.Worlds.{numbers_in}
use Rattle.rz_driver_nodes.proofs.FetchLemmas.{have-room, numbers-asked}
use Rattle.rz_driver.proofs.FetchLemmas.{asked-ready}
use Rattle.rz_driver_nodes.proofs.MeterLemmas.{metered-in, named-vector}
use Rattle.rz_driver.proofs.driver.Driver.fetch.Given as given
use Rattle.rz_driver.proofs.driver.Driver.fetch.Goals as goal

pub fetch_node-requires : goal.fetch_node-requires
fetch_node-requires g c =
    let d = c.args.self.now in
    subst (λ (xs : List (Server (UnderFuse g.row.D.Denot))). HaveRoom (length c.args.out.now) xs) (sym c.as_mut_slice.ensures.value)
    (have-room d.volume (length c.args.out.now) d.shared.servers.items c.requires.room c.requires.ready.servers)

-- the row of the driver is the row that was written
row-is : (g : given.Over) (c : goal.After-slice_known-2-1 g) → (with_items c.args.self.now.shared.servers c.fetch_node.new.servers).items ≡ c.fetch_node.new.servers
row-is g c = named-vector (fused_meter g.D.Disk.meter) [] (λ n. n) c.args.self.now.shared.servers c.as_mut_slice.result.now c.fetch_node.new.servers c.as_mut_slice.ensures.value
    (numbers-asked (fused_text g.D.Disk.text) (fused_image g.D.Disk.image) c.as_mut_slice.result.now c.fetch_node.new.servers c.fetch_node.ensures.asked)

nodes-asked : (g : given.Over) (c : goal.After-slice_known-2-1 g)
    → AreOnlyAsked (fused_text g.D.Disk.text) (fused_image g.D.Disk.image) c.args.self.now.shared.servers.items (with_items c.args.self.now.shared.servers c.fetch_node.new.servers).items
nodes-asked g c =
    let text = fused_text g.D.Disk.text in
    let image = fused_image g.D.Disk.image in
    let ys = c.fetch_node.new.servers in
    subst (λ (zs : List (Server (UnderFuse g.row.D.Denot))). AreOnlyAsked text image zs (with_items c.args.self.now.shared.servers ys).items) c.as_mut_slice.ensures.value
    (subst (λ (zs : List (Server (UnderFuse g.row.D.Denot))). AreOnlyAsked text image c.as_mut_slice.result.now zs) (sym (row-is g c)) c.fetch_node.ensures.asked)

pub returns-clause-fetched : goal.returns-clause-fetched
returns-clause-fetched g c =
    let ys = c.fetch_node.new.servers in
    let P : List (Server (UnderFuse g.row.D.Denot)) → List (Server (UnderFuse g.row.D.Denot)) → Type 0 = λ zs ws. IsFetch c.args.key c.args.stamp c.fetch_node.result c.args.node zs ws in
    subst (λ (zs : List (Server (UnderFuse g.row.D.Denot))). P zs (with_items c.args.self.now.shared.servers ys).items) c.as_mut_slice.ensures.value
    (subst (λ (zs : List (Server (UnderFuse g.row.D.Denot))). P c.as_mut_slice.result.now zs) (sym (row-is g c)) c.fetch_node.ensures.fetched)

pub returns-clause-read : goal.returns-clause-read
returns-clause-read g c =
    subst (λ (xs : List (Server (UnderFuse g.row.D.Denot))). AreBinsRead (GivesIn g.D.Disk.tells (fused_text g.D.Disk.text) xs c.args.node c.args.key) c.fetch_node.result c.args.out.now c.fetch_node.new.room)
    c.as_mut_slice.ensures.value c.fetch_node.ensures.read

pub returns-clause-behind : goal.returns-clause-behind
returns-clause-behind g c =
    let d = c.args.self.now in
    let count = max_bins_of d.volume.layout in
    c.fetch_node.ensures.behind count
    (subst (λ (xs : List (Server (UnderFuse g.row.D.Denot))). HaveRoom count xs) (sym c.as_mut_slice.ensures.value) (have-room d.volume count d.shared.servers.items (let same : count ≤ count = omega arith in same) c.requires.ready.servers))

pub returns-clause-asked : goal.returns-clause-asked
returns-clause-asked g c = record { volume = refl; agendas = refl; turns = refl; shared = refl; nodes = nodes-asked g c }

pub returns-clause-ready : goal.returns-clause-ready
returns-clause-ready g c = asked-ready c.args.self.now _ (record { volume = refl; agendas = refl; turns = refl; shared = refl; nodes = nodes-asked g c }) c.requires.ready

pub returns-clause-metered : goal.returns-clause-metered
returns-clause-metered g c = λ position h first met.
    let d = c.args.self.now in
    let x = fetch_event Admin c.args.node c.args.key position c.args.stamp c.fetch_node.result in
    metered-in (fused_meter g.D.Disk.meter) (numbers_in d) first d.shared.servers c.as_mut_slice.result.now c.fetch_node.new.servers c.as_mut_slice.ensures.value h (x ∷ h)
    (c.fetch_node.ensures.metered position (numbers_in d) h first) met
