use Rattle.std.proofs.Common.{◌≡◌, ℕ, Bool, true, false, cond, drop, List, T, Some, None, slice_get, sym, ap, ◌∙◌}
use Rattle.std.specs.Ordering.{is_eq, is_gt}
use Rattle.std.specs.FinMap.{find, is_sorted}
use Rattle.rz_export_model.specs.Paths.{Path, path_cmp, paths_total}
use Rattle.rz_names.specs.Entries.{run, value_at}
use Rattle.rz_names.proofs.Places.{drop-past, drop-here}
use Rattle.rz_names.proofs.Sorted.{so, find-run}
use Rattle.rz_names.proofs.entries.number_at.Goals as goal

-- what is found, by what stands at the place of a path
by_place : (q : Path) (es : List (Path × ℕ)) (n : ℕ) → T (is_sorted path_cmp es) → n ≡ run (λ k. is_gt (path_cmp q k)) es → find path_cmp q es ≡ value_at path_cmp q (drop n es)
by_place q es n sorted is = find-run paths_total q es sorted ∙ ap (λ m. value_at path_cmp q (drop m es)) (sym is)

found_here : (q : Path) (es : List (Path × ℕ)) (n : ℕ) (e : Path × ℕ) → T (is_sorted path_cmp es) → n ≡ run (λ k. is_gt (path_cmp q k)) es → Some e ≡ slice_get es n
    → (b : Bool) → is_eq (path_cmp q e.0) ≡ b → cond b (Some e.1) None ≡ find path_cmp q es
found_here q es n e sorted is here b same =
    sym (by_place q es n sorted is ∙ ap (value_at path_cmp q) (drop-here es n e (sym here)) ∙ ap (λ t. cond t (Some e.1) None) same)

pub returns-in-None : goal.returns-in-None
returns-in-None c =
    sym (by_place c.args.names.now c.args.entries.now c.place_of-at.result (so _ c.requires) c.place_of-at.ensures.place
    ∙ ap (value_at path_cmp c.args.names.now) (drop-past c.args.entries.now c.place_of-at.result (sym c.in-None.ensures)))

pub returns-then-is_eq : goal.returns-then-is_eq
returns-then-is_eq c =
    let same : is_eq (path_cmp c.args.names.now c.in-Some.entry.now.0) ≡ true = cc in
    let number : c.fid.result ≡ c.in-Some.entry.now.1 = cc in
    ap Some number ∙ found_here c.args.names.now c.args.entries.now c.place_of-at.result c.in-Some.entry.now (so _ c.requires) c.place_of-at.ensures.place c.in-Some.ensures true same

pub returns-else-is_eq : goal.returns-else-is_eq
returns-else-is_eq c =
    let differs : is_eq (path_cmp c.args.names.now c.in-Some.entry.now.0) ≡ false = cc in
    found_here c.args.names.now c.args.entries.now c.place_of-at.result c.in-Some.entry.now (so _ c.requires) c.place_of-at.ensures.place c.in-Some.ensures false differs
