use Rattle.std.proofs.Common.{◌≡◌, ℕ, Bool, not, take, drop, ◌++◌, sym, ap, ◌∙◌, is_some, subst, IsTrue}
use Rattle.std.specs.FinMap as maps
use Rattle.std.specs.FinMap.{is_sorted}
use Rattle.std.specs.FinMap.Entries.{where_key, is_sorted-where_key}
use Rattle.rz_export_model.specs.Paths.{Path, path_cmp, above, begins_with}
use Rattle.rz_export_model.specs.Tree.{names_under, moved}
use Rattle.rz_names.specs.Names.{with_root, IsNameMap}
use Rattle.rz_names.proofs.Sorted.{so, unso}
use Rattle.rz_names.proofs.Names.{Entries, place, others, sorted-kept}
use Rattle.rz_names.proofs.Moves.{moves}
use Rattle.rz_names.proofs.Renames.{renamed, renamed-kept, renamed-map, rename-steps}
use Rattle.rz_names.proofs.map.NameMap.rename.Goals as goal

-- entries that are left of entries in order are in order
sorted_left : (test : Path → Bool) (l kept : Entries) → kept ≡ where_key path_cmp test l → IsTrue (is_sorted path_cmp l) → IsTrue (is_sorted path_cmp kept)
sorted_left test l kept is h = ap (is_sorted path_cmp) is ∙ unso _ (is_sorted-where_key path_cmp test l (so _ h))

-- what the steps leave, with the names as each of them was given
leaves : (p t p1 t1 p2 t2 t3 : Path) (es block d d1 new : Entries) (at : ℕ) → p1 ≡ p → t1 ≡ t → p2 ≡ p → t2 ≡ t → t3 ≡ t
    → block ≡ moves p1 t1 (where_key path_cmp (begins_with p1) es) → d ≡ where_key path_cmp (λ k. not (begins_with p2 k)) es → d1 ≡ where_key path_cmp (others t2) d → at ≡ place t3 d1
    → new ≡ take at d1 ++ (block ++ drop at d1) → new ≡ renamed p t es
leaves p t p1 t1 p2 t2 t3 es block d d1 new at p1_is t1_is p2_is t2_is t3_is moved_is out gone place_is made =
    rename-steps p t es new d d1 block at (out ∙ ap (λ x. where_key path_cmp (λ k. not (begins_with x k)) es) p2_is) (gone ∙ ap (λ x. where_key path_cmp (others x) d) t2_is)
    (place_is ∙ ap (λ x. place x d1) t3_is)
    (moved_is ∙ ap (λ x. moves p1 x (where_key path_cmp (begins_with p1) es)) t1_is ∙ ap (λ x. moves x t (where_key path_cmp (begins_with x) es)) p1_is) made

pub remove_one-requires : goal.remove_one-requires
remove_one-requires c = sorted_left _ c.self.inside.entries c.remove_block.new.entries c.remove_block.ensures.items (unso _ (sorted-kept c.self.inside.entries c.self.invariant.sorted))

pub place_of-at-requires : goal.place_of-at-requires
place_of-at-requires c =
    sorted_left _ c.remove_block.new.entries c.remove_one.new.entries c.remove_one.ensures.items
    (sorted_left _ c.self.inside.entries c.remove_block.new.entries c.remove_block.ensures.items (unso _ (sorted-kept c.self.inside.entries c.self.invariant.sorted)))

pub invariant_of-self : goal.invariant_of-self
invariant_of-self c =
    let es : Entries = c.self.inside.entries in
    let p : Path = c.args.path.now in
    let t : Path = c.args.to.now in
    let new : c.put_block.new.entries ≡ renamed p t es = leaves p t c.names.result.now c.names-2.result.now c.names-3.result.now c.names-4.result.now c.names-5.result.now
    es c.in_ok-moved.moved c.remove_block.new.entries c.remove_one.new.entries c.put_block.new.entries c.place_of-at.result c.names.ensures c.names-2.ensures c.names-3.ensures c.names-4.ensures c.names-5.ensures
    c.in_ok-moved.ensures c.remove_block.ensures.items c.remove_one.ensures.items c.place_of-at.ensures.place c.put_block.ensures in
    subst IsNameMap (sym new) (renamed-kept es p t c.self.invariant c.requires.away c.requires.not_root
    (ap (λ m. names_under m t) c.self.view_is ∙ c.requires.last) (ap (λ m. is_some (maps.get m (above t))) c.self.view_is ∙ c.requires.parent))

pub returns-clause-ok : goal.returns-clause-ok
returns-clause-ok c =
    let es : Entries = c.self.inside.entries in
    let p : Path = c.args.path.now in
    let t : Path = c.args.to.now in
    let new : c.put_block.new.entries ≡ renamed p t es = leaves p t c.names.result.now c.names-2.result.now c.names-3.result.now c.names-4.result.now c.names-5.result.now
    es c.in_ok-moved.moved c.remove_block.new.entries c.remove_one.new.entries c.put_block.new.entries c.place_of-at.result c.names.ensures c.names-2.ensures c.names-3.ensures c.names-4.ensures c.names-5.ensures
    c.in_ok-moved.ensures c.remove_block.ensures.items c.remove_one.ensures.items c.place_of-at.ensures.place c.put_block.ensures in
    ap (λ l. maps.from_sorted {R = path_cmp} (with_root l)) new
    ∙ renamed-map es p t c.self.invariant c.requires.away c.requires.not_root
    (ap (λ m. names_under m t) c.self.view_is ∙ c.requires.last) (ap (λ m. is_some (maps.get m (above t))) c.self.view_is ∙ c.requires.parent)
    ∙ ap (λ m. moved p t (maps.remove m t)) c.self.view_is
