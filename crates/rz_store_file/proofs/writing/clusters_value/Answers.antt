use Rattle.std.proofs.Common.{◌∙◌, ap, subst, map}
use Rattle.std.proofs.lemmas.List.{take_all}
use Rattle.std.proofs.lemmas.List.Elements.{All-more}
use Rattle.serde_json.specs.Data.{array}
use Rattle.serde_json.specs.View.{items_of}
use Rattle.serde_json.proofs.Views.{view-Array}
use Rattle.rz_store_file.specs.Written.{IsSmall, cluster_data}
use Rattle.rz_store_file.proofs.Rows.{pushed}
use Rattle.rz_store_file.proofs.writing.clusters_value.Goals as goal

pub loop-cluster-preserved : goal.loop-cluster-preserved
loop-cluster-preserved c = (
  pushed cluster_data c.loop-cluster.items.items c.push.new.self.items c.in_ok-cluster_value.field-0 c.args.clusters.now c.loop-cluster.cluster-index c.cluster-item.result c.loop-cluster-test.true c.loop-cluster.invariant.0
      (c.in_ok-cluster_value.ensures.value ∙ ap cluster_data c.cluster-item.is) c.in_ok-push.ensures.items,
  All-more IsSmall c.args.clusters.now c.loop-cluster.cluster-index c.cluster-item.result c.loop-cluster-test.true c.loop-cluster.invariant.1 (subst IsSmall c.cluster-item.is c.in_ok-cluster_value.ensures.small),
)

pub returns-clause-value : goal.returns-clause-value
returns-clause-value c =
    view-Array c.loop-cluster.items
    ∙ ap (λ ds. array (items_of ds)) (c.loop-cluster.invariant.0 ∙ ap (map cluster_data) (take_all c.loop-cluster.cluster-index c.args.clusters.now c.loop-cluster-test.false))
