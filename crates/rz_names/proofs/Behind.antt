-- A path behind all that are kept.
use Rattle.std.proofs.Common.{◌≡◌, ℕ, suc, Bool, false, cond, ◌&&◌, [], ◌∷◌, length, Ordering, sym, ap, ◌∙◌, refl, arith}
use Rattle.std.specs.Prelude.{◌==◌}
use Rattle.std.specs.List.{list_all}
use Rattle.std.proofs.lemmas.Bool.Decides.{nat_tests}
use Rattle.std.specs.declared.cmp.Ordering.TheVariants.{Less, Equal, Greater}
use Rattle.std.specs.Ordering.{is_gt, is_lt, ordering_reverse}
use Rattle.std.specs.FinMap as maps
use Rattle.std.specs.FinMap.{entries-from_sorted}
use Rattle.rz_export_model.specs.Paths.{Path, path_cmp, paths_total, is_root}
use Rattle.rz_names.specs.Entries.{run}
use Rattle.rz_names.specs.Names.{with_root, IsNameMap, is_behind}
use Rattle.rz_names.proofs.Names.{Entries}
use Rattle.rz_names.proofs.Sorted.{so}

same-next : (n m : ℕ) → (suc n == suc m) ≡ (n == m)
same-next n m = grind (arith, nat_tests)

zero-next : (m : ℕ) → (0 == suc m) ≡ false
zero-next m = grind (arith, nat_tests)

step : (r : Ordering) (n len : ℕ) (rest : Bool) → (n == len) ≡ rest → (cond (is_gt r) (suc n) 0 == suc len) ≡ (is_lt (ordering_reverse r) && rest)
step Less n len rest h = zero-next len
step Equal n len rest h = zero-next len
step Greater n len rest h = same-next n len ∙ h

-- the run of the lesser paths is as long as all where all are lesser
run-all : (q : Path) (es : Entries) → (run (λ k. is_gt (path_cmp q k)) es == length es) ≡ list_all (λ e. is_lt (path_cmp e.0 q)) es
run-all q [] = refl
run-all q (e ∷ es) =
    step (path_cmp q e.0) (run (λ k. is_gt (path_cmp q k)) es) (length es) (list_all (λ x. is_lt (path_cmp x.0 q)) es) (run-all q es)
    ∙ ap (λ r. is_lt r && list_all (λ x. is_lt (path_cmp x.0 q)) es) (sym (paths_total.antisymm e.0 q))

module _ (es : Entries) (h : IsNameMap es) where
  behind-entries : (q : Path) → is_behind (maps.from_sorted {R = path_cmp} (with_root es)) q ≡ list_all (λ e. is_lt (path_cmp e.0 q)) (with_root es)
  behind-entries q = ap (list_all (λ e. is_lt (path_cmp e.0 q))) (entries-from_sorted path_cmp (with_root es) (so _ h.sorted))

  -- the root's path is behind none
  pub root-behind : (q : Path) → q ≡ [] → false ≡ is_behind (maps.from_sorted {R = path_cmp} (with_root es)) q
  root-behind q root = ap (λ (p : Path). list_all (λ e. is_lt (path_cmp e.0 p)) (with_root es)) (sym root) ∙ sym (behind-entries q)

  pub path-behind : (q : Path) → is_root q ≡ false → (run (λ k. is_gt (path_cmp q k)) es == length es) ≡ is_behind (maps.from_sorted {R = path_cmp} (with_root es)) q
  path-behind [] other = cc
  path-behind (n ∷ q) other = run-all (n ∷ q) es ∙ sym (behind-entries (n ∷ q))

pub no-names : (q : Path) → length q ≡ 0 → q ≡ []
no-names [] h = refl
no-names (n ∷ q) h = absurd (omega (arith, h))

pub some-names : (q : Path) → (length q ≡ 0 → ⊥) → is_root q ≡ false
some-names [] h = absurd (h refl)
some-names (n ∷ q) h = refl
