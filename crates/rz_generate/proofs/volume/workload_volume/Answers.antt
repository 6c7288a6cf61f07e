use Rattle.std.proofs.Common.{◌≡◌, List, [], ◌∷◌, sym, ap, subst, ◌∙◌}
use Rattle.mj_angles.specs.declared.layout.Layout.TheVariants.{L1}
use Rattle.rz_events.specs.Volume.{Cluster, IsVolume}
use Rattle.rz_generate.specs.Workload.{cluster_of, volume}
use Rattle.rz_generate.proofs.Volumes.{volume_ok}
use Rattle.rz_generate.proofs.volume.workload_volume.Goals as goal

pub invariant_of-result : goal.invariant_of-result
unfolding volume
invariant_of-result c =
    let both : c.in_ok-clusters.clusters.items ≡ cluster_of 1 1 ∷ cluster_of 2 9 ∷ [] =
    c.in_ok-clusters.ensures.items
    ∙ ap (λ (x : Cluster). x ∷ c.in_ok-two.two ∷ []) c.in_ok-one.ensures
    ∙ ap (λ (x : Cluster). cluster_of 1 1 ∷ x ∷ []) c.in_ok-two.ensures in
    (c.bsize.ensures.value, subst (λ (cs : List Cluster). IsVolume (record { layout = L1; clusters = cs })) (sym both) volume_ok)
