-- The codes of the states, by which proofs tell them apart.
use Rattle.std.specs.Prelude.{ℕ, List, Option, refl}
use Rattle.std.specs.Coded.{Coded, code_by, coded×, coded_ℕ, coded_list, coded_option}
use Rattle.std.specs.Ordering.{nat_cmp}
use Rattle.std.specs.FinMap as maps
use Rattle.std.specs.FinMap.{FinMap}
use Rattle.mj_angles.specs.declared.layout.Layout.{Layout}
use Rattle.mj_angles.specs.contracts.layout.Layout as layout
use Rattle.rz_events.specs.Keys.{key_cmp, coded_key}
use Rattle.rz_events.specs.Volume.{Volume, Cluster}
use Rattle.rz_events.specs.declared.files.Kind.{Kind}
use Rattle.rz_events.specs.contracts.files.Kind as kind
use Rattle.rz_events.specs.declared.files.NodeSpec.{NodeSpec}
use Rattle.rz_events.specs.contracts.files.NodeSpec as node
use Rattle.rz_events.specs.declared.files.Published.{Published}
use Rattle.rz_events.specs.contracts.files.Published as published
use Rattle.rz_export_model.specs.Paths.{path_cmp, coded_path}
use Rattle.rz_export_model.specs.Tree.{Tree, Object}
use Rattle.rz_export_model.specs.Export.{Export, Block, Enrolled}

abbrev pub object_code : Coded Object
object_code =
    code_by (Kind × (ℕ × (ℕ × (List ℕ × (ℕ × (ℕ × List ℕ))))))
    (coded× kind.the_row.coded (coded× coded_ℕ (coded× coded_ℕ (coded× (coded_list coded_ℕ) (coded× coded_ℕ (coded× coded_ℕ (coded_list coded_ℕ)))))))
    (λ o. (o.kind, (o.mode, (o.mtime, (o.target, (o.size, (o.cid, o.places)))))))
    (λ p. record { kind = p.0; mode = p.1.0; mtime = p.1.1.0; target = p.1.1.1.0; size = p.1.1.1.1.0; cid = p.1.1.1.1.1.0; places = p.1.1.1.1.1.1 })
    (λ _. refl)

abbrev pub tree_code : Coded Tree
tree_code =
    code_by (FinMap path_cmp ℕ × (FinMap nat_cmp Object × ℕ))
    (coded× (maps.code coded_path coded_ℕ) (coded× (maps.code coded_ℕ object_code) coded_ℕ))
    (λ t. (t.names, (t.objects, t.made))) (λ p. record { names = p.0; objects = p.1.0; made = p.1.1 }) (λ _. refl)

abbrev pub block_code : Coded Block
block_code =
    code_by (ℕ × Option Published) (coded× coded_ℕ (coded_option published.the_row.coded))
    (λ b. (b.latest, b.published)) (λ p. record { latest = p.0; published = p.1 }) (λ _. refl)

abbrev pub enrolled_code : Coded Enrolled
enrolled_code =
    code_by (ℕ × ℕ) (coded× coded_ℕ coded_ℕ) (λ e. (e.loss, e.fence)) (λ p. record { loss = p.0; fence = p.1 }) (λ _. refl)

abbrev pub cluster_code : Coded Cluster
cluster_code =
    code_by (ℕ × List NodeSpec) (coded× coded_ℕ (coded_list node.the_row.coded))
    (λ c. (c.cid, c.nodes)) (λ p. record { cid = p.0; nodes = p.1 }) (λ _. refl)

abbrev pub volume_code : Coded Volume
volume_code =
    code_by (Layout × List Cluster) (coded× layout.the_row.coded (coded_list cluster_code))
    (λ v. (v.layout, v.clusters)) (λ p. record { layout = p.0; clusters = p.1 }) (λ _. refl)

abbrev pub export_code : Coded Export
export_code =
    code_by (Volume × (Tree × (FinMap key_cmp Block × (FinMap nat_cmp Enrolled × ℕ))))
    (coded× volume_code (coded× tree_code (coded× (maps.code coded_key block_code) (coded× (maps.code coded_ℕ enrolled_code) coded_ℕ))))
    (λ s. (s.volume, (s.tree, (s.blocks, (s.enrolled, s.last)))))
    (λ p. record { volume = p.0; tree = p.1.0; blocks = p.1.1.0; enrolled = p.1.1.1.0; last = p.1.1.1.1 })
    (λ _. refl)
