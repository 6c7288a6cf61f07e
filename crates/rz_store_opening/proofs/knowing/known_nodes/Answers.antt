use Rattle.std.proofs.Common.{ℕ, ◌≡◌, List, [], ◌∷◌, map, sym, ◌∙◌, ap, subst}
use Rattle.std.specs.List.{AllByRecursion}
use Rattle.rz_events.specs.Volume.{IsNode, nodes_of}
use Rattle.rz_events.specs.declared.files.NodeSpec.{NodeSpec}
use Rattle.rz_export_model.specs.Export.{Export, fence_of}
use Rattle.rz_metadata.specs.Enrolled.{loss_of}
use Rattle.rz_metadata.specs.Stands.{export_in}
use Rattle.rz_nodes.specs.Arrived.{IsKnown}
use Rattle.rz_nodes.specs.declared.arriving.KnownNode.{KnownNode}
use Rattle.rz_store_opening.specs.Opening.{known_of}
use Rattle.rz_store_opening.proofs.knowing.known_nodes.Goals as goal

all-known : (s : Export) (specs : List NodeSpec) → AllByRecursion IsNode specs → AllByRecursion IsKnown (known_of s specs)
all-known s [] all = tt
all-known s (spec ∷ specs) all = (all.0, all-known s specs all.1)

pub returns-clause-known : goal.returns-clause-known
returns-clause-known g c =
    let s = export_in c.args.metadata.now in
    let loss : NodeSpec → ℕ = λ (n : NodeSpec). loss_of s n.sid in
    let fence : NodeSpec → ℕ = λ (n : NodeSpec). fence_of s n.sid in
    let nodes : c.as_slice-3.result.now ≡ nodes_of c.args.volume.now.clusters = c.as_slice-3.ensures.value ∙ c.in_ok-nodes.ensures.nodes in
    let losses : c.as_slice-4.result.now ≡ map loss c.as_slice-3.result.now = c.as_slice-4.ensures.value ∙ c.in_ok-losses.ensures ∙ ap (map loss) (c.as_slice.ensures.value ∙ sym c.as_slice-3.ensures.value) in
    let fences : c.as_slice-5.result.now ≡ map fence c.as_slice-3.result.now = c.as_slice-5.ensures.value ∙ c.in_ok-fences.ensures ∙ ap (map fence) (c.as_slice-2.ensures.value ∙ sym c.as_slice-3.ensures.value) in
    c.in_ok-known.ensures loss fence losses fences ∙ ap (known_of s) nodes

pub returns-clause-proper : goal.returns-clause-proper
returns-clause-proper g c =
    subst (λ (ks : List KnownNode). AllByRecursion IsKnown ks) (sym (returns-clause-known g c)) (all-known (export_in c.args.metadata.now) (nodes_of c.args.volume.now.clusters) c.in_ok-nodes.ensures.proper)
