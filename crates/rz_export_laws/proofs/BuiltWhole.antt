-- An export that parts make is whole at the end.
use Rattle.std.proofs.Common.{◌≡◌, ℕ, true, List, [], ◌∷◌, Option, Some, None, is_some, IfSome, sym, ap, ◌∙◌, subst, inl, inr}
use Rattle.std.specs.Ordering.{nat_cmp}
use Rattle.std.specs.Cmp.{nat_cmp_total}
use Rattle.std.specs.FinMap as maps
use Rattle.std.specs.FinMap.{FinMap, nat_cmp-IsAntisymmetric, get-empty}
use Rattle.rz_events.specs.Volume.{Volume, IsVolume}
use Rattle.rz_events.specs.Keys.{key_cmp, keys_total, exact_keys}
use Rattle.rz_events.specs.declared.keys.Key.{Key}
use Rattle.rz_events.specs.declared.files.Kind.{Kind}
use Rattle.rz_events.specs.declared.files.Kind.TheVariants.{File, Dir, Link}
use Rattle.rz_events.specs.declared.files.Published.{Published}
use Rattle.rz_export_model.specs.Tree.{Object, is_dir, is_file, empty_tree}
use Rattle.rz_export_model.specs.Export.{Export, Block, Blocks, Enrolled}
use Rattle.rz_tree.specs.declared.parts.Part.{Part}
use Rattle.rz_tree.specs.declared.parts.Part.TheVariants as part
use Rattle.rz_tree.specs.Added.{IsRoot}
use Rattle.rz_blocks.specs.Shown.{added}
use Rattle.rz_export.specs.Building.{LiesIn, MayBePublished, MayBeNext, IsBlockless, made_of, with_part}
use Rattle.rz_export_laws.specs.WholeTree.{IsPlainPart}
use Rattle.rz_export_laws.specs.Whole.{FilesLie, IsWholeBlock, IsWholeEnrolment, PartsAreWhole}
use Rattle.rz_tree.proofs.Keys.{same_some, not_none, false-true, one-or-two, get-inserted, get-beside}
use Rattle.rz_export_laws.proofs.Empty.{number}
use Rattle.rz_export_laws.proofs.Built.{SoFar, all-parts, builds-whole, rooted, step}

abbrev Rolls : Type 0
Rolls = FinMap nat_cmp Enrolled

-- an export that parts made so far: whole, but for names that are to come
record IsSoFar (s : Export) : Type 0 where
  pub volume : IsVolume s.volume
  pub tree : SoFar s.tree
  pub files : FilesLie s.volume s.tree
  pub blocks : (key : Key) (b : Block) → maps.get s.blocks key ≡ Some b → IsWholeBlock s key b
  pub enrolments : (node : ℕ) (e : Enrolled) → maps.get s.enrolled node ≡ Some e → IsWholeEnrolment s node e

-- ---- beside other blocks and enrolments

module _ (s : Export) (blocks : Blocks) (enrolled : Rolls) where
  abbrev beside : Export
  beside = record s { blocks = blocks; enrolled = enrolled }

  public-too : (key : Key) (o : Option Published) → IfSome o (MayBePublished s key) → IfSome o (MayBePublished beside key)
  public-too key None may = may
  public-too key (Some p) may = record { drawn = may.drawn; mask = may.mask; fits = may.fits; within = may.within }

  block-too : (key : Key) (b : Block) → IsWholeBlock s key b → IsWholeBlock beside key b
  block-too key b old = record { live = old.live; near = old.near; begun = old.begun; public = public-too key b.published old.public }

  enrolment-too : (node : ℕ) (e : Enrolled) → IsWholeEnrolment s node e → IsWholeEnrolment beside node e
  enrolment-too node e old = record { known = old.known; drawn = old.drawn }

-- ---- one more part

module _ (s : Export) (none : IsBlockless s) where
  no-block : (key : Key) (b : Block) → maps.get s.blocks key ≡ Some b → ⊥
  no-block key b at = not_none b (sym at ∙ ap (λ (m : Blocks). maps.get m key) none.no_blocks ∙ get-empty key_cmp key)

  no-enrolment : (node : ℕ) (e : Enrolled) → maps.get s.enrolled node ≡ Some e → ⊥
  no-enrolment node e at = not_none e (sym at ∙ ap (λ (m : Rolls). maps.get m node) none.no_enrolments ∙ get-empty nat_cmp node)

part-kept : (s : Export) (p : Part) → IsSoFar s → MayBeNext s p → IsPlainPart p → IsSoFar (with_part s p)
part-kept s (part.Counters last made) x may plain = absurd may
part-kept s (part.Object fid kind mode mtime size cid places target) x may plain = record {
  volume = x.volume;
  tree = step s (part.Object fid kind mode mtime size cid places target) x.tree may plain;
  files = λ f y at file. elim (one-or-two nat_cmp_total nat_cmp-IsAntisymmetric f fid) [
    | inl same ↦
        let own : new ≡ y = same_some new y (sym (ap (maps.get (maps.insert s.tree.objects fid new)) same ∙ get-inserted nat_cmp_total nat_cmp-IsAntisymmetric s.tree.objects fid new) ∙ at) in
        subst (LiesIn s.volume) own (may.lies (ap (λ (z : Object). is_file z.kind) own ∙ file))
    | inr other ↦ x.files f y (sym (get-beside nat_cmp_total nat_cmp-IsAntisymmetric s.tree.objects fid new f other) ∙ at) file
  ];
  blocks = λ key b at. absurd (no-block s may.before_blocks key b at);
  enrolments = λ node e at. absurd (no-enrolment s may.before_blocks node e at);
}
  where
    new : Object
    new = record { kind = kind; mode = mode; mtime = mtime; target = target; size = size; cid = cid; places = places }
part-kept s (part.Name path fid) x may plain = record {
  volume = x.volume;
  tree = step s (part.Name path fid) x.tree may plain;
  files = x.files;
  blocks = λ key b at. absurd (no-block s may.before_blocks key b at);
  enrolments = λ node e at. absurd (no-enrolment s may.before_blocks node e at);
}
part-kept s (part.Block key latest published) x may plain = record {
  volume = x.volume;
  tree = x.tree;
  files = x.files;
  blocks = λ k b at. elim (one-or-two keys_total exact_keys k key) [
    | inl same ↦
        let own : new ≡ b = same_some new b (sym (ap (maps.get (added s.blocks key latest published)) same ∙ get-inserted keys_total exact_keys s.blocks key new) ∙ at) in
        subst (IsWholeBlock (with_part s (part.Block key latest published)) k) own
        (subst (λ (q : Key). IsWholeBlock (with_part s (part.Block key latest published)) q new) (sym same)
        (block-too s (added s.blocks key latest published) s.enrolled key new (record { live = may.live; near = may.near; begun = may.begun; public = may.public })))
    | inr other ↦ block-too s (added s.blocks key latest published) s.enrolled k b (x.blocks k b (sym (get-beside keys_total exact_keys s.blocks key new k other) ∙ at))
  ];
  enrolments = λ node e at. enrolment-too s (added s.blocks key latest published) s.enrolled node e (x.enrolments node e at);
}
  where
    new : Block
    new = record { latest = latest; published = published }
part-kept s (part.Enrolled node loss fence) x may plain = record {
  volume = x.volume;
  tree = x.tree;
  files = x.files;
  blocks = λ k b at. block-too s s.blocks (maps.insert s.enrolled node new) k b (x.blocks k b at);
  enrolments = λ n e at. elim (one-or-two nat_cmp_total nat_cmp-IsAntisymmetric n node) [
    | inl same ↦
        let own : new ≡ e = same_some new e (sym (ap (maps.get (maps.insert s.enrolled node new)) same ∙ get-inserted nat_cmp_total nat_cmp-IsAntisymmetric s.enrolled node new) ∙ at) in
        subst (IsWholeEnrolment (with_part s (part.Enrolled node loss fence)) n) own
        (subst (λ (q : ℕ). IsWholeEnrolment (with_part s (part.Enrolled node loss fence)) q new) (sym same) (record { known = may.known; drawn = may.drawn }))
    | inr other ↦ enrolment-too s s.blocks (maps.insert s.enrolled node new) n e (x.enrolments n e (sym (get-beside nat_cmp_total nat_cmp-IsAntisymmetric s.enrolled node new n other) ∙ at))
  ];
}
  where
    new : Enrolled
    new = record { loss = loss; fence = fence }

-- ---- the first two parts

no-file : (k : Kind) → is_dir k ≡ true → is_file k ≡ true → ⊥
no-file File dir file = false-true dir
no-file Dir dir file = false-true file
no-file Link dir file = false-true file

begun : (volume : Volume) → IsVolume volume → (last made fid : ℕ) (o : Object) → IsRoot fid o
    → IsSoFar (made_of volume (part.Counters last made ∷ part.Object fid o.kind o.mode o.mtime o.size o.cid o.places o.target ∷ []))
begun volume rules last made fid o root = record {
  volume = rules;
  tree = rooted made fid o root;
  files = λ f y at file. elim (one-or-two nat_cmp_total nat_cmp-IsAntisymmetric f fid) [
    | inl same ↦
        let own : o ≡ y = same_some o y (sym (ap (maps.get (maps.insert empty_tree.objects fid o)) same ∙ get-inserted nat_cmp_total nat_cmp-IsAntisymmetric empty_tree.objects fid o) ∙ at) in
        absurd (no-file o.kind root.kind (ap (λ (z : Object). is_file z.kind) own ∙ file))
    | inr other ↦
        let old : maps.get empty_tree.objects f ≡ Some y = sym (get-beside nat_cmp_total nat_cmp-IsAntisymmetric empty_tree.objects fid o f other) ∙ at in
        let zero : f ≡ 0 = number f (ap is_some old) in
        let again = sym (ap (maps.get (maps.insert empty_tree.objects fid o)) (zero ∙ sym root.number) ∙ get-inserted nat_cmp_total nat_cmp-IsAntisymmetric empty_tree.objects fid o) ∙ at in
        let own : o ≡ y = same_some o y again in
        absurd (no-file o.kind root.kind (ap (λ (z : Object). is_file z.kind) own ∙ file))
  ];
  blocks = λ key b at. absurd (not_none b (sym at ∙ get-empty key_cmp key));
  enrolments = λ node e at. absurd (not_none e (sym at ∙ get-empty nat_cmp node));
}

pub parts-are-whole : (volume : Volume) (parts : List Part) → PartsAreWhole volume parts
parts-are-whole volume parts rules are plain =
    let x = all-parts volume IsSoFar (begun volume rules) part-kept parts are.each are.rooted plain in
    record { volume = x.volume; tree = builds-whole volume parts are plain; files = x.files; blocks = x.blocks; enrolments = x.enrolments }
