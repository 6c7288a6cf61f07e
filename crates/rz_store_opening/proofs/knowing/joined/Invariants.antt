use Rattle.std.proofs.Common.{ℕ, ◌≡◌, ◌++◌, drop, map}
use Rattle.rz_events.specs.declared.files.NodeSpec.{NodeSpec}
use Rattle.rz_nodes.specs.declared.arriving.KnownNode.{KnownNode}
use Rattle.rz_store_opening.proofs.knowing.joined.Given as goal

-- the nodes so far and those to come are all, each with what stands at its place
abbrev pub invariant-loop-index : goal.invariant-loop-index
invariant-loop-index l =
    (f g : NodeSpec → ℕ) → l.losses ≡ map f l.nodes → l.fences ≡ map g l.nodes
    → l.known.items ++ map (λ (n : NodeSpec). (let it : KnownNode = record { node = n; losses = f n; fence = g n } in it)) (drop l.index l.nodes) ≡ map (λ (n : NodeSpec). (let it : KnownNode = record { node = n; losses = f n; fence = g n } in it)) l.nodes
