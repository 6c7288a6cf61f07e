use Rattle.std.proofs.Common.{ℕ, ◌≡◌, ◌++◌, ◌∷◌, [], Option, length, get_or, map, ◌∙◌, ap, arith, vec_len}
use Rattle.rz_nodes.specs.declared.arriving.KnownNode.{KnownNode}
use Rattle.rz_nodes.specs.declared.arriving.Arrival.{Arrival}
use Rattle.rz_nodes.specs.declared.arriving.Missing.{Missing}
use Rattle.rz_nodes.proofs.Rowwise.{one-back}
use Rattle.rz_store_opening.specs.Opening.{arrived_at, arrived_by, missing_in}
use Rattle.rz_store_opening.proofs.InOrder.{node-out, nodes-out, none-out}
use Rattle.rz_store_opening.proofs.rows.Rows.with.Goals as goal

abbrev nobody : KnownNode
nobody = record { node = record { sid = 0; cells = 0 }; losses = 0; fence = 0 }

pub loop-arrival-init : goal.loop-arrival-init
loop-arrival-init g c =
    let nodes : vec_len c.args.self.nodes ≡ length c.args.self.nodes.items = c.args.self.nodes.ok.0 in
    let missing : vec_len c.args.self.missing ≡ length c.args.self.missing.items = c.args.self.missing.ok.0 in
    let arrivals : vec_len c.args.arrivals ≡ length c.args.arrivals.items = c.args.arrivals.ok.0 in
    let no_nodes = c.requires.empty.0 in
    let no_missing = c.requires.empty.1 in
    let nodes_room = c.requires.room.0 in
    let missing_room = c.requires.room.1 in
    let count = c.requires.count in
    record {
      all = none-out (arrived_by c.args.known.now c.args.arrivals.items) c.args.self.nodes.items (omega (arith, no_nodes, nodes));
      why = none-out (map (λ (a : Arrival g.row.D.Denot). missing_in a) c.args.arrivals.items) c.args.self.missing.items (omega (arith, no_missing, missing));
      count = omega (arith, count, arrivals);
      nodes_room = omega (arith, no_nodes, nodes_room, count, arrivals);
      missing_room = omega (arith, no_missing, missing_room, count, arrivals);
    }

pub loop-arrival-preserved : goal.loop-arrival-preserved
loop-arrival-preserved g c =
    let inv = c.loop-arrival.invariant in
    let popped = c.in-Some.ensures.cases in
    let rest : vec_len c.pop.new.self ≡ length c.pop.new.self.items = c.pop.new.self.ok.0 in
    let count = inv.count in
    let nodes_room = inv.nodes_room in
    let missing_room = inv.missing_room in
    let node_more = c.push_reserved.ensures.len in
    let node_room = c.push_reserved.ensures.capacity in
    let why_more = c.push_reserved-in-Some.ensures.len in
    let why_room = c.push_reserved-in-Some.ensures.capacity in
    let place : c.len.result ≡ length c.pop.new.self.items = c.len.ensures ∙ rest in
    record {
      all = node-out c.args.known.now c.loop-arrival.arrivals.items c.pop.new.self.items c.in-Some.arrival nobody c.sorted-node.result.0 c.loop-arrival.nodes.items c.push_reserved.new.self.items _
          c.in-Some.ensures.items (omega (arith, popped, rest, count)) (c.sorted-node.ensures.node ∙ ap (λ (i : ℕ). arrived_at (get_or c.args.known.now i nobody) c.in-Some.arrival) place) c.push_reserved.ensures.items inv.all;
      why = one-back (λ (a : Arrival g.row.D.Denot). missing_in a) c.loop-arrival.arrivals.items c.pop.new.self.items c.in-Some.arrival c.loop-arrival.missing.items c.push_reserved-in-Some.new.self.items _
          c.in-Some.ensures.items (c.push_reserved-in-Some.ensures.items ∙ ap (λ (y : Option (Missing g.row.D.Denot)). c.loop-arrival.missing.items ++ y ∷ []) c.sorted-node.ensures.why) inv.why;
      count = omega (arith, popped, count);
      nodes_room = omega (arith, popped, nodes_room, node_more, node_room);
      missing_room = omega (arith, popped, missing_room, why_more, why_room);
    }

pub returns-clause-nodes : goal.returns-clause-nodes
returns-clause-nodes g c =
    let none = c.in_default.ensures.cases.0 in
    let arrivals : vec_len c.loop-arrival.arrivals ≡ length c.loop-arrival.arrivals.items = c.loop-arrival.arrivals.ok.0 in
    c.reverse.ensures.items ∙ nodes-out c.args.known.now c.loop-arrival.arrivals.items c.loop-arrival.nodes.items _ (omega (arith, none, arrivals)) c.loop-arrival.invariant.all
