use Rattle.std.proofs.Common.{◌≡◌, map, Some}
use Rattle.std.specs.FinMap as maps
use Rattle.rz_export_model.specs.Tree.{Tree}
use Rattle.rz_export_model.specs.Export.{without_file}
use Rattle.rz_export.specs.declared.nodes.KeptNode.{KeptNode}
use Rattle.rz_export.specs.Nodes.{enrolments_of}
use Rattle.rz_export.specs.Kept.{AreCounted, lies_at}
use Rattle.rz_export.proofs.releases.release.Given as goal

-- what is left without the file is what was there without it, and the counts are those of what is left
abbrev pub invariant-loop-key : goal.invariant-loop-key
invariant-loop-key l = record {
  rest : without_file l.blocks l.info.fid ≡ without_file l.initial.blocks l.info.fid;
  specs : map (λ (n : KeptNode). n.spec) l.nodes ≡ map (λ (n : KeptNode). n.spec) l.initial.nodes;
  enrolled : enrolments_of l.nodes ≡ enrolments_of l.initial.nodes;
  counted : (t : Tree) → lies_at t l.info.fid ≡ Some l.info.places → AreCounted t l.initial.blocks l.initial.nodes → AreCounted t l.blocks l.nodes;
}

abbrev pub decreases-loop-key : goal.decreases-loop-key
decreases-loop-key l = maps.len l.blocks
