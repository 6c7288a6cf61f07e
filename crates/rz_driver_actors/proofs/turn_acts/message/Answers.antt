use Rattle.std.proofs.Common.{◌≡◌, ℕ, IsTrue, Some, refl, sym, subst}
use Rattle.std.specs.Prelude.{slice_set}
use Rattle.std.proofs.lemmas.Result.{on_ok_weaker, on_err_weaker}
use Rattle.rz_nodes.specs.declared.formatting.Server.{Server}
use Rattle.rz_driver_actors.specs.Acts.{Through, ReplyLost, RequestLost}
use Rattle.rz_driver_nodes.specs.Nodes.{IsThroughPart}
use Rattle.rz_driver_nodes.specs.Meters.{OneNodeGoesOn}
use Rattle.rz_driver_nodes.specs.Images.{NodeStaysCoherent, NodeUnchanged}
use Rattle.rz_driver_actors.specs.Hands.{LeavesUnchanged}
use Rattle.rz_driver_nodes.proofs.MeterLemmas.{order-err, sid-at, metered-counts, metered-step, order-left, unheard-goes}
use Rattle.rz_driver_actors.proofs.MessageLemmas.{read-at, within-len, layout-at}
use Rattle.rz_driver_actors.proofs.ActCoherence.{node-keeps, node-unchanged, still-unchanged, unheard-keeps, lost-by-link, through-grows, lost-grows}
use Rattle.rz_driver_nodes.proofs.CoherenceLemmas.{both-ok, on-err}
use Rattle.rz_player.proofs.Fates.{comes-through, loses-reply, loses-request, sent-as}
use Rattle.rz_link.specs.declared.Sent.TheVariants as sent
use Rattle.rz_driver_actors.proofs.turn_acts.message.Goals as goal

pub index_mut-requires : goal.index_mut-requires
index_mut-requires g c = within-len c.args.shared.now.servers.items c.as_slice.result.now c.args.number c.in-Some.place _ c.as_slice.ensures.value c.in-Some.ensures c.args.shared.now.servers.ok.0

pub through-requires-clause-layout : goal.through-requires-clause-layout
through-requires-clause-layout g c =
    let xs = c.args.shared.now.servers.items in
    let there = read-at xs c.as_slice.result.now c.args.number c.in-Some.place c.index_mut.result.now c.as_slice.ensures.value c.in-Some.ensures c.index_mut.ensures.value in
    layout-at c.args.layout xs c.in-Some.place c.index_mut.result.now c.requires.servers there.1

pub without_reply-requires-clause-layout : goal.without_reply-requires-clause-layout
without_reply-requires-clause-layout g c =
    let xs = c.args.shared.now.servers.items in
    let there = read-at xs c.as_slice.result.now c.args.number c.in-Some.place c.index_mut.result.now c.as_slice.ensures.value c.in-Some.ensures c.index_mut.ensures.value in
    layout-at c.args.layout xs c.in-Some.place c.index_mut.result.now c.requires.servers there.1

pub without_reply-requires-clause-lossy : goal.without_reply-requires-clause-lossy
without_reply-requires-clause-lossy g c =
    lost-by-link c.args.miss.now c.args.ask _ (loses-reply c.goes_by_link.result c.args.ask c.goes_by_link.ensures c.args.miss.now c.in-ReplyLost.ensures.fared.said c.in-ReplyLost.ensures.fared.fate)

pub without_request-requires-clause-lossy : goal.without_request-requires-clause-lossy
without_request-requires-clause-lossy g c =
    lost-by-link c.args.miss.now c.args.ask _ (loses-request c.goes_by_link.result c.args.ask c.goes_by_link.ensures c.args.miss.now c.in-RequestLost.ensures.fared.said c.in-RequestLost.ensures.fared.fate)

pub returns-in-Through-clause-ok : goal.returns-in-Through-clause-ok
returns-in-Through-clause-ok g c =
    let s = c.index_mut.result.now in
    let there = read-at c.args.shared.now.servers.items c.as_slice.result.now c.args.number c.in-Some.place s c.as_slice.ensures.value c.in-Some.ensures c.index_mut.ensures.value in
    on_ok_weaker c.through.result
    (λ (part : IsThroughPart c.args.by c.args.number s.node.geometry.cells c.args.ask s.node.state c.through.new.node.state c.args.machine.now c.through.new.machine c.args.shared.now.log.events c.through.new.log.events). record {
      place = c.in-Some.place;
      server = s;
      after = record { sid = s.sid; node = c.through.new.node; pick = s.pick };
      at = there.0;
      is = there.1;
      called = record { sid = refl; pick = refl; geometry = c.through.ensures.geometry };
      servers = refl;
      fate = Through part (comes-through c.goes_by_link.result c.args.ask c.goes_by_link.ensures c.args.miss.now c.in-Through.ensures.fared.said c.in-Through.ensures.fared.fate) refl refl;
      export = refl;
      locks = refl;
    }) c.through.ensures.ok

pub returns-in_ok-without_reply-in-ReplyLost-clause-ok : goal.returns-in_ok-without_reply-in-ReplyLost-clause-ok
returns-in_ok-without_reply-in-ReplyLost-clause-ok g c =
    let s = c.index_mut.result.now in
    let there = read-at c.args.shared.now.servers.items c.as_slice.result.now c.args.number c.in-Some.place s c.as_slice.ensures.value c.in-Some.ensures c.index_mut.ensures.value in
    record {
      place = c.in-Some.place;
      server = s;
      after = record { sid = s.sid; node = c.without_reply.new.node; pick = s.pick };
      at = there.0;
      is = there.1;
      called = record { sid = refl; pick = refl; geometry = c.without_reply.ensures.geometry };
      servers = refl;
      fate = ReplyLost c.in_ok-without_reply-in-ReplyLost.ensures.ok (loses-reply c.goes_by_link.result c.args.ask c.goes_by_link.ensures c.args.miss.now c.in-ReplyLost.ensures.fared.said c.in-ReplyLost.ensures.fared.fate) refl c.in-Some-lost_after.ensures.1;
      export = refl;
      locks = refl;
    }

pub returns-in-RequestLost-clause-ok : goal.returns-in-RequestLost-clause-ok
returns-in-RequestLost-clause-ok g c =
    let s = c.index_mut.result.now in
    let there = read-at c.args.shared.now.servers.items c.as_slice.result.now c.args.number c.in-Some.place s c.as_slice.ensures.value c.in-Some.ensures c.index_mut.ensures.value in
    record {
      place = c.in-Some.place;
      server = s;
      after = record { sid = s.sid; node = s.node; pick = s.pick };
      at = there.0;
      is = there.1;
      called = record { sid = refl; pick = refl; geometry = refl };
      servers = refl;
      fate = RequestLost refl c.without_request.ensures (loses-request c.goes_by_link.result c.args.ask c.goes_by_link.ensures c.args.miss.now c.in-RequestLost.ensures.fared.said c.in-RequestLost.ensures.fared.fate) refl c.in-Some-lost_after.ensures.1;
      export = refl;
      locks = refl;
    }

-- What the link said.

pub returns-in-Through-clause-sent : goal.returns-in-Through-clause-sent
returns-in-Through-clause-sent g c =
    let s = c.index_mut.result.now in
    let h = c.args.shared.now.log.events in
    on_ok_weaker c.through.result
    (λ (part : IsThroughPart c.args.by c.args.number s.node.geometry.cells c.args.ask s.node.state c.through.new.node.state c.args.machine.now c.through.new.machine h c.through.new.log.events).
    sent-as c.goes_by_link.result c.args.ask c.goes_by_link.ensures g.L.Link.says c.args.miss.now c.args.by c.args.number c.args.link.now c.fate.new.link h c.through.new.log.events sent.Through c.in-Through.ensures.fared
    (part.noted.0, (part.given, part.noted.1), part.noted.2)) c.through.ensures.ok

pub returns-in_ok-without_reply-in-ReplyLost-clause-sent : goal.returns-in_ok-without_reply-in-ReplyLost-clause-sent
returns-in_ok-without_reply-in-ReplyLost-clause-sent g c =
    let part = c.in_ok-without_reply-in-ReplyLost.ensures.ok in
    sent-as c.goes_by_link.result c.args.ask c.goes_by_link.ensures g.L.Link.says c.args.miss.now c.args.by c.args.number c.args.link.now c.fate.new.link c.args.shared.now.log.events c.without_reply.new.log.events sent.ReplyLost c.in-ReplyLost.ensures.fared
    (part.event, (part.given, part.event_is), part.noted)

pub returns-in-RequestLost-clause-sent : goal.returns-in-RequestLost-clause-sent
returns-in-RequestLost-clause-sent g c =
    sent-as c.goes_by_link.result c.args.ask c.goes_by_link.ensures g.L.Link.says c.args.miss.now c.args.by c.args.number c.args.link.now c.fate.new.link c.args.shared.now.log.events c.without_request.new.log.events sent.RequestLost c.in-RequestLost.ensures.fared
    c.without_request.ensures.noted

-- The words beside the meters.

pub returns-in-Through-clause-held : goal.returns-in-Through-clause-held
returns-in-Through-clause-held g c =
    let meter = g.D.Disk.meter in
    let row = c.args.shared.now.servers.items in
    let h = c.args.shared.now.log.events in
    let s = c.index_mut.result.now in
    let there = read-at row c.as_slice.result.now c.args.number c.in-Some.place s c.as_slice.ensures.value c.in-Some.ensures c.index_mut.ensures.value in
    let named = sid-at row c.args.number c.in-Some.place s there.0 there.1 in
    on_ok_weaker c.through.result (λ (goes : OneNodeGoesOn meter c.args.number s.node c.through.new.node h c.through.new.log.events). λ numbers first met.
    metered-step meter first numbers row c.in-Some.place s (record { sid = s.sid; node = c.through.new.node; pick = s.pick }) h c.through.new.log.events there.1 refl
    (subst (λ (n : ℕ). OneNodeGoesOn meter n s.node c.through.new.node h c.through.new.log.events) (sym named) goes) met) c.through.ensures.metered

pub returns-in-Through-clause-left : goal.returns-in-Through-clause-left
returns-in-Through-clause-left g c =
    let meter = g.D.Disk.meter in
    let row = c.args.shared.now.servers.items in
    let h = c.args.shared.now.log.events in
    let s = c.index_mut.result.now in
    let there = read-at row c.as_slice.result.now c.args.number c.in-Some.place s c.as_slice.ensures.value c.in-Some.ensures c.index_mut.ensures.value in
    on_err_weaker c.through.result (λ (same : c.through.new.log.events ≡ h). λ numbers first met.
    order-left meter first numbers row c.in-Some.place s (record { sid = s.sid; node = c.through.new.node; pick = s.pick }) h c.through.new.log.events there.1 refl
    c.through.ensures.counted same met) c.through.ensures.err

pub returns-in_ok-without_reply-in-ReplyLost-clause-held : goal.returns-in_ok-without_reply-in-ReplyLost-clause-held
returns-in_ok-without_reply-in-ReplyLost-clause-held g c = λ numbers first met.
    let meter = g.D.Disk.meter in
    let row = c.args.shared.now.servers.items in
    let h = c.args.shared.now.log.events in
    let s = c.index_mut.result.now in
    let there = read-at row c.as_slice.result.now c.args.number c.in-Some.place s c.as_slice.ensures.value c.in-Some.ensures c.index_mut.ensures.value in
    let named = sid-at row c.args.number c.in-Some.place s there.0 there.1 in
    metered-step meter first numbers row c.in-Some.place s (record { sid = s.sid; node = c.without_reply.new.node; pick = s.pick }) h c.without_reply.new.log.events there.1 refl
    (subst (λ (n : ℕ). OneNodeGoesOn meter n s.node c.without_reply.new.node h c.without_reply.new.log.events) (sym named) c.in_ok-without_reply-in-ReplyLost.ensures.metered) met

pub returns-in-RequestLost-clause-held : goal.returns-in-RequestLost-clause-held
returns-in-RequestLost-clause-held g c = λ numbers first met.
    let meter = g.D.Disk.meter in
    let row = c.args.shared.now.servers.items in
    let h = c.args.shared.now.log.events in
    let s = c.index_mut.result.now in
    let there = read-at row c.as_slice.result.now c.args.number c.in-Some.place s c.as_slice.ensures.value c.in-Some.ensures c.index_mut.ensures.value in
    metered-step meter first numbers row c.in-Some.place s (record { sid = s.sid; node = s.node; pick = s.pick }) h c.without_request.new.log.events there.1 refl
    (unheard-goes meter s.sid s.node c.args.by c.args.number h c.without_request.new.log.events c.without_request.ensures.noted) met

pub returns-in_default-clause-left : goal.returns-in_default-clause-left
returns-in_default-clause-left g c = λ numbers first met. metered-counts g.D.Disk.meter first numbers c.args.shared.now.servers.items c.args.shared.now.log.events met

pub returns-in_default-lost_after-clause-left : goal.returns-in_default-lost_after-clause-left
returns-in_default-lost_after-clause-left g c = λ numbers first met. metered-counts g.D.Disk.meter first numbers c.args.shared.now.servers.items c.args.shared.now.log.events met

pub returns-in_err-without_reply-in-ReplyLost-clause-left : goal.returns-in_err-without_reply-in-ReplyLost-clause-left
returns-in_err-without_reply-in-ReplyLost-clause-left g c =
    let row = c.args.shared.now.servers.items in
    let h = c.args.shared.now.log.events in
    let s = c.index_mut.result.now in
    let there = read-at row c.as_slice.result.now c.args.number c.in-Some.place s c.as_slice.ensures.value c.in-Some.ensures c.index_mut.ensures.value in
    order-err c.from_residual.result g.D.Disk.meter row c.in-Some.place s (record { sid = s.sid; node = c.without_reply.new.node; pick = s.pick }) h c.without_reply.new.log.events there.1 refl
    c.without_reply.ensures.counted c.in_err-without_reply-in-ReplyLost.ensures.err

-- Beside the log.

pub returns-in-Through-clause-coherent : goal.returns-in-Through-clause-coherent
returns-in-Through-clause-coherent g c =
    let image = g.D.Disk.image in
    let row = c.args.shared.now.servers.items in
    let h = c.args.shared.now.log.events in
    let h' = c.through.new.log.events in
    let m = c.args.machine.now in
    let new = c.through.new.machine in
    let s = c.index_mut.result.now in
    let there = read-at row c.as_slice.result.now c.args.number c.in-Some.place s c.as_slice.ensures.value c.in-Some.ensures c.index_mut.ensures.value in
    let named = sid-at row c.args.number c.in-Some.place s there.0 there.1 in
    both-ok c.through.result
    (λ (part : IsThroughPart c.args.by c.args.number s.node.geometry.cells c.args.ask s.node.state c.through.new.node.state m new h h') (keeps : IsTrue g.D.Disk.tells → NodeStaysCoherent image c.args.by c.args.number m new s.node c.through.new.node h h'). λ told.
    node-keeps image c.args.by row m h c.args.number c.in-Some.place s (record { sid = s.sid; node = c.through.new.node; pick = s.pick }) named there.1 refl c.longer.ensures new h' (through-grows part) (keeps told))
    c.through.ensures.ok c.through.ensures.coherent

pub returns-in-Through-clause-unchanged : goal.returns-in-Through-clause-unchanged
returns-in-Through-clause-unchanged g c =
    let image = g.D.Disk.image in
    let row = c.args.shared.now.servers.items in
    let h = c.args.shared.now.log.events in
    let m = c.args.machine.now in
    let s = c.index_mut.result.now in
    let there = read-at row c.as_slice.result.now c.args.number c.in-Some.place s c.as_slice.ensures.value c.in-Some.ensures c.index_mut.ensures.value in
    let named = sid-at row c.args.number c.in-Some.place s there.0 there.1 in
    on_err_weaker c.through.result (λ (unchanged : IsTrue g.D.Disk.tells → NodeUnchanged image c.args.by c.args.number m s.node c.through.new.node h). λ told.
    node-unchanged image c.args.by row m h c.args.number c.in-Some.place s (record { sid = s.sid; node = c.through.new.node; pick = s.pick }) named there.1 refl (unchanged told)) c.through.ensures.unchanged

pub returns-in_ok-without_reply-in-ReplyLost-clause-coherent : goal.returns-in_ok-without_reply-in-ReplyLost-clause-coherent
returns-in_ok-without_reply-in-ReplyLost-clause-coherent g c = λ told.
    let image = g.D.Disk.image in
    let row = c.args.shared.now.servers.items in
    let h = c.args.shared.now.log.events in
    let s = c.index_mut.result.now in
    let there = read-at row c.as_slice.result.now c.args.number c.in-Some.place s c.as_slice.ensures.value c.in-Some.ensures c.index_mut.ensures.value in
    let named = sid-at row c.args.number c.in-Some.place s there.0 there.1 in
    node-keeps image c.args.by row c.args.machine.now h c.args.number c.in-Some.place s (record { sid = s.sid; node = c.without_reply.new.node; pick = s.pick }) named there.1 refl c.longer.ensures
    c.without_reply.new.machine c.without_reply.new.log.events (lost-grows c.in_ok-without_reply-in-ReplyLost.ensures.ok) (c.in_ok-without_reply-in-ReplyLost.ensures.coherent told)

pub returns-in_err-without_reply-in-ReplyLost-clause-unchanged : goal.returns-in_err-without_reply-in-ReplyLost-clause-unchanged
returns-in_err-without_reply-in-ReplyLost-clause-unchanged g c =
    let image = g.D.Disk.image in
    let row = c.args.shared.now.servers.items in
    let h = c.args.shared.now.log.events in
    let m = c.args.machine.now in
    let s = c.index_mut.result.now in
    let after : Server g.row.D.Denot = record { sid = s.sid; node = c.without_reply.new.node; pick = s.pick } in
    let there = read-at row c.as_slice.result.now c.args.number c.in-Some.place s c.as_slice.ensures.value c.in-Some.ensures c.index_mut.ensures.value in
    let named = sid-at row c.args.number c.in-Some.place s there.0 there.1 in
    let P : Type 0 = IsTrue g.D.Disk.tells → LeavesUnchanged image c.args.by (Some m) row h (slice_set row c.in-Some.place after) in
    on-err {P = P} c.from_residual.result (λ told. node-unchanged image c.args.by row m h c.args.number c.in-Some.place s after named there.1 refl (c.in_err-without_reply-in-ReplyLost.ensures.unchanged told))

pub returns-in-RequestLost-clause-coherent : goal.returns-in-RequestLost-clause-coherent
returns-in-RequestLost-clause-coherent g c = λ told.
    let row = c.args.shared.now.servers.items in
    let s = c.index_mut.result.now in
    let there = read-at row c.as_slice.result.now c.args.number c.in-Some.place s c.as_slice.ensures.value c.in-Some.ensures c.index_mut.ensures.value in
    unheard-keeps g.D.Disk.image c.args.by row c.longer.ensures c.told.ensures c.args.machine.now c.without_request.new.machine c.args.shared.now.log.events c.without_request.new.log.events c.args.number c.args.ask c.in-Some.place s there.1 c.requires.asked
    (lost-by-link c.args.miss.now c.args.ask _ (loses-request c.goes_by_link.result c.args.ask c.goes_by_link.ensures c.args.miss.now c.in-RequestLost.ensures.fared.said c.in-RequestLost.ensures.fared.fate)) c.without_request.ensures

pub returns-in_default-clause-unchanged : goal.returns-in_default-clause-unchanged
returns-in_default-clause-unchanged g c = λ told. still-unchanged g.D.Disk.image c.args.by c.args.shared.now.servers.items (Some c.args.machine.now) c.args.shared.now.log.events

pub returns-in_default-lost_after-clause-unchanged : goal.returns-in_default-lost_after-clause-unchanged
returns-in_default-lost_after-clause-unchanged g c = λ told. still-unchanged g.D.Disk.image c.args.by c.args.shared.now.servers.items (Some c.args.machine.now) c.args.shared.now.log.events
