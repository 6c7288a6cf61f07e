use Rattle.std.proofs.Common.{◌≡◌, false, ◌≤◌, length, sym, ap, ◌∙◌, refl, arith, zero, suc, ◌∷◌, take, [], ℕ}
use Rattle.std.specs.FinMap as maps
use Rattle.rz_export_model.specs.Paths.{Path, path_cmp, is_root}
use Rattle.rz_names.specs.Names.{with_root}
use Rattle.rz_names.proofs.Names.{get-kept, get-root, find-kept}
use Rattle.rz_names.proofs.map.NameMap.find.Goals as goal

front_none : (p : Path) → take 0 p ≡ []
front_none [] = refl
front_none (m ∷ p) = refl

front-not_root : (p : Path) (n : ℕ) → (n ≡ 0 → ⊥) → n ≤ length p → is_root (take n p) ≡ false
front-not_root p zero some le = absurd (some refl)
front-not_root [] (suc n) some le = absurd (omega arith)
front-not_root (m ∷ p) (suc n) some le = refl

pub returns-then-count-eq0 : goal.returns-then-count-eq0
returns-then-count-eq0 c =
    sym (ap (λ m. maps.get m (take c.args.count c.args.path.now)) (sym c.self.view_is)
    ∙ ap (λ p. maps.get (maps.from_sorted {R = path_cmp} (with_root c.self.inside.entries)) p) (ap (λ n. take n c.args.path.now) c.if-count-eq0.true ∙ front_none c.args.path.now)
    ∙ get-root c.self.inside.entries c.self.invariant.sorted)

pub returns : goal.returns
returns c =
    let q : Path = take c.args.count c.args.path.now in
    c.number_at.ensures ∙ ap (λ p. maps.find path_cmp (take c.args.count p) c.self.inside.entries) c.names.ensures
    ∙ sym (get-kept c.self.inside.entries q c.self.invariant.sorted ∙ find-kept c.self.inside.entries q (front-not_root c.args.path.now c.args.count c.if-count-eq0.false c.requires))
    ∙ ap (λ m. maps.get m q) c.self.view_is
