-- Maps with the root and one name, as the tests make them.
use Rattle.std.proofs.Common.{◌≡◌, ℕ, [], ◌∷◌, None, sym, ◌∙◌, ap, is_some, true, map}
use Rattle.std.specs.FinMap as maps
use Rattle.std.specs.List.{filter_map}
use Rattle.rz_export_model.specs.Paths.{Path, path_cmp, paths_total, right_under}
use Rattle.rz_export_model.specs.Tree.{names_under}
use Rattle.rz_names.specs.Names.{with_root, root_alone}
use Rattle.rz_names.proofs.Names.{root-alone}

-- the path of one name of one byte
abbrev pub short : ℕ → Path
short name = (name ∷ []) ∷ []

root-entries : maps.entries root_alone ≡ with_root []
root-entries = ap maps.entries (sym root-alone) ∙ maps.entries-from_sorted path_cmp (with_root []) tt

pub nothing-else : (name : ℕ) → maps.get root_alone (short name) ≡ None
nothing-else name = maps.get-insert paths_total maps.empty [] 0 (short name) ∙ maps.get-empty path_cmp (short name)

pub root-there : is_some (maps.get root_alone []) ≡ true
root-there = ap is_some (maps.get-insert paths_total maps.empty [] 0 [])

pub root-stays : (name : ℕ) → is_some (maps.get (maps.insert root_alone (short name) 1) []) ≡ true
root-stays name = ap is_some (maps.get-insert paths_total root_alone (short name) 1 []) ∙ root-there

pub nothing-below : names_under (maps.insert root_alone (short 97) 1) (short 98) ≡ []
nothing-below =
    ap (λ es. filter_map (right_under (short 98)) (map (λ e. e.0) es))
    (maps.entries-insert paths_total root_alone (short 97) 1 ∙ ap (maps.put path_cmp (short 97) 1) root-entries)
