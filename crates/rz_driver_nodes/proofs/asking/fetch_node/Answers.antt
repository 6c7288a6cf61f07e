use Rattle.std.proofs.Common.{◌≤◌, ◌<◌, get_or, length, rules}
use Rattle.std.proofs.lemmas.Option.{slice_get-get_or}
use Rattle.mj_angles.specs.Layout.{max_bins_of}
use Rattle.rz_events.specs.declared.keys.Actor.TheVariants.{Admin}
use Rattle.rz_node_model.specs.NodeEvents.{fetch_event}
use Rattle.rz_nodes.specs.declared.formatting.Server.{Server}
use Rattle.rz_driver_nodes.proofs.AskedLaws.{all-themselves}
use Rattle.rz_driver_nodes.proofs.FetchLemmas.{at-fetch, at-metered, behind-more, gives-in, nowhere-fetch, nowhere-metered, only-set, read-then}
use Rattle.rz_driver_nodes.proofs.Rows.{all-at, at-within}
use Rattle.rz_driver_nodes.proofs.asking.fetch_node.Goals as goal

pub offset_bounds-servers-place : goal.offset_bounds-servers-place
offset_bounds-servers-place g c = let low : c.in-Some.place < length c.args.servers.now = at-within c.args.servers.now c.args.sid c.in-Some.place c.in-Some.ensures in search rules

pub bounds-servers-place : goal.bounds-servers-place
bounds-servers-place g c = at-within c.args.servers.now c.args.sid c.in-Some.place c.in-Some.ensures

pub fetch-requires : goal.fetch-requires
fetch-requires g c =
    let row = c.args.servers.now in
    let low = at-within row c.args.sid c.in-Some.place c.in-Some.ensures in
    let s = get_or row c.in-Some.place c.index-servers-place.result in
    let is = slice_get-get_or row c.in-Some.place c.index-servers-place.result low in
    all-at (λ (x : Server g.row.D.Denot). max_bins_of x.node.geometry.layout ≤ length c.args.room.now) row c.in-Some.place s c.requires is

pub returns-in-Some-clause-fetched : goal.returns-in-Some-clause-fetched
returns-in-Some-clause-fetched g c =
    let row = c.args.servers.now in
    let low = at-within row c.args.sid c.in-Some.place c.in-Some.ensures in
    let s = get_or row c.in-Some.place c.index-servers-place.result in
    let is = slice_get-get_or row c.in-Some.place c.index-servers-place.result low in
    at-fetch c.args.key c.args.stamp c.fetch.result c.args.sid c.in-Some.place row s c.fetch.new.server c.in-Some.ensures is c.fetch.ensures.given c.fetch.ensures.after c.fetch.ensures.asked.called

pub returns-in-Some-clause-asked : goal.returns-in-Some-clause-asked
returns-in-Some-clause-asked g c =
    let row = c.args.servers.now in
    let low = at-within row c.args.sid c.in-Some.place c.in-Some.ensures in
    let s = get_or row c.in-Some.place c.index-servers-place.result in
    let is = slice_get-get_or row c.in-Some.place c.index-servers-place.result low in
    only-set g.D.Disk.text g.D.Disk.image row c.in-Some.place s c.fetch.new.server is c.fetch.ensures.asked

pub returns-in-Some-clause-read : goal.returns-in-Some-clause-read
returns-in-Some-clause-read g c =
    let row = c.args.servers.now in
    let low = at-within row c.args.sid c.in-Some.place c.in-Some.ensures in
    let s = get_or row c.in-Some.place c.index-servers-place.result in
    let is = slice_get-get_or row c.in-Some.place c.index-servers-place.result low in
    read-then (gives-in g.D.Disk.tells g.D.Disk.text row c.args.sid c.in-Some.place s c.args.key c.in-Some.ensures is) c.fetch.result c.args.room.now c.fetch.new.room c.fetch.ensures.read

pub returns-in-Some-clause-behind : goal.returns-in-Some-clause-behind
returns-in-Some-clause-behind g c = λ count rooms.
    let row = c.args.servers.now in
    let low = at-within row c.args.sid c.in-Some.place c.in-Some.ensures in
    let s = get_or row c.in-Some.place c.index-servers-place.result in
    let is = slice_get-get_or row c.in-Some.place c.index-servers-place.result low in
    behind-more (max_bins_of s.node.geometry.layout) count c.fetch.new.room c.args.room.now
    (all-at (λ (x : Server g.row.D.Denot). max_bins_of x.node.geometry.layout ≤ count) row c.in-Some.place s rooms is) c.fetch.ensures.behind

pub returns-in-Some-clause-metered : goal.returns-in-Some-clause-metered
returns-in-Some-clause-metered g c = λ position numbers h first met.
    let row = c.args.servers.now in
    let low = at-within row c.args.sid c.in-Some.place c.in-Some.ensures in
    let s = get_or row c.in-Some.place c.index-servers-place.result in
    let is = slice_get-get_or row c.in-Some.place c.index-servers-place.result low in
    at-metered g.D.Disk.meter (λ n. fetch_event Admin n c.args.key position c.args.stamp c.fetch.result) c.args.sid c.in-Some.place numbers first row s c.fetch.new.server h c.in-Some.ensures is
    c.fetch.ensures.asked.called.sid (c.fetch.ensures.metered position) met

pub returns-in-None-clause-fetched : goal.returns-in-None-clause-fetched
returns-in-None-clause-fetched g c = nowhere-fetch c.args.key c.args.stamp c.args.sid c.args.servers.now c.in-None.ensures

pub returns-in-None-clause-asked : goal.returns-in-None-clause-asked
returns-in-None-clause-asked g c = all-themselves g.D.Disk.text g.D.Disk.image c.args.servers.now

pub returns-in-None-clause-metered : goal.returns-in-None-clause-metered
returns-in-None-clause-metered g c = λ position numbers h first met.
    nowhere-metered g.D.Disk.meter c.args.key position c.args.stamp c.args.sid numbers first c.args.servers.now h c.in-None.ensures met
