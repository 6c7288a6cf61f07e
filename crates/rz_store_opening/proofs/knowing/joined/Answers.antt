use Rattle.std.proofs.Common.{ℕ, ◌≡◌, ◌≤◌, ◌++◌, List, length, drop, map, sym, ◌∙◌, ap}
use Rattle.std.proofs.lemmas.List.{append-nil, drop_all}
use Rattle.rz_events.specs.declared.files.NodeSpec.{NodeSpec}
use Rattle.rz_nodes.specs.declared.arriving.KnownNode.{KnownNode}
use Rattle.rz_store_opening.proofs.knowing.joined.Goals as goal

-- all are there
all-there : (F : NodeSpec → KnownNode) (known whole : List KnownNode) (nodes : List NodeSpec) (i : ℕ) → length nodes ≤ i → known ++ map F (drop i nodes) ≡ whole → known ≡ whole
all-there F known whole nodes i over is = sym (append-nil known) ∙ ap (λ (ns : List NodeSpec). known ++ map F ns) (sym (drop_all i nodes over)) ∙ is

pub returns : goal.returns
returns c f g losses fences =
    all-there (λ n. record { node = n; losses = f n; fence = g n }) c.loop-index.known.items _ c.args.nodes.now c.loop-index.index c.loop-index-test.false (c.loop-index.invariant f g losses fences)
