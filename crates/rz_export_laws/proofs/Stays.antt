-- A new export is whole, and each call keeps it so.
use Rattle.std.proofs.Common.{◌≡◌, ℕ, ◌+◌, Option, Some, None, is_some, sym, ap, ◌∙◌, subst, refl, arith, inl, inr}
use Rattle.std.specs.Ordering.{nat_cmp}
use Rattle.std.specs.Cmp.{nat_cmp_total}
use Rattle.std.specs.FinMap as maps
use Rattle.std.specs.FinMap.{FinMap, get-empty, nat_cmp-IsAntisymmetric}
use Rattle.rz_events.specs.Volume.{Volume, IsVolume}
use Rattle.rz_events.specs.Keys.{key_cmp}
use Rattle.rz_events.specs.declared.export.Call.{Call}
use Rattle.rz_export_model.specs.Tree.{Object, empty_tree, new_dir, is_file}
use Rattle.rz_export_model.specs.Export.{Export}
use Rattle.rz_tree.proofs.Keys.{false-true, one-or-two, get-inserted, get-beside, same_some, not_none}
use Rattle.rz_export_laws.specs.WholeTree.{IsWholeTree}
use Rattle.rz_export_laws.specs.Whole.{FilesLie, IsWholeAtFirst, StaysWhole}
use Rattle.rz_export_laws.proofs.Calls.{IsBeside, call-keeps, same-volume}
use Rattle.rz_export_laws.proofs.Empty.{empty-whole}
use Rattle.rz_export_laws.proofs.TreeKept.{tree-kept}

abbrev nothing : FinMap nat_cmp Object
nothing = maps.empty

-- a new tree has no file
files-none : (volume : Volume) → FilesLie volume empty_tree
files-none volume fid o at file = elim (one-or-two nat_cmp_total nat_cmp-IsAntisymmetric fid 0) [
  | inl is ↦
      let root : new_dir ≡ o = same_some new_dir o (sym (ap (maps.get empty_tree.objects) is ∙ get-inserted nat_cmp_total nat_cmp-IsAntisymmetric nothing 0 new_dir) ∙ at) in
      absurd (false-true (ap (λ (x : Object). is_file x.kind) root ∙ file))
  | inr other ↦ absurd (not_none o (sym at ∙ get-beside nat_cmp_total nat_cmp-IsAntisymmetric nothing 0 new_dir fid other ∙ get-empty nat_cmp fid))
]

pub at-first : (volume : Volume) (last : ℕ) → IsWholeAtFirst volume last
at-first volume last rules = record {
  volume = rules;
  tree = empty-whole;
  files = files-none volume;
  blocks = λ key b at. absurd (not_none b (sym at ∙ get-empty key_cmp key));
  enrolments = λ node e at. absurd (not_none e (sym at ∙ get-empty nat_cmp node));
}

-- no object has the next number
next-blank : (s : Export) → IsWholeTree s.tree → maps.get s.tree.objects (s.tree.made + 1) ≡ None
next-blank s whole = go (maps.get s.tree.objects (s.tree.made + 1)) refl
  where
    go : (o : Option Object) → maps.get s.tree.objects (s.tree.made + 1) ≡ o → o ≡ None
    go None at = refl
    go (Some o) at = let low = whole.rules.drawn (s.tree.made + 1) (ap is_some at) in absurd (omega (arith, low))

-- a call that the export takes keeps it whole
pub stays-whole : (s : Export) (c : Call) → StaysWhole s c
stays-whole s c proper whole =
    let old : IsBeside s = record { files = whole.files; blocks = whole.blocks; enrolments = whole.enrolments } in
    let kept = call-keeps s old whole.volume (next-blank s whole.tree) c proper in
    record {
      volume = subst IsVolume (sym (same-volume s c)) whole.volume;
      tree = tree-kept s c whole.tree;
      files = kept.files;
      blocks = kept.blocks;
      enrolments = kept.enrolments;
    }
