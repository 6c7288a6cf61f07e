use Rattle.std.proofs.Common.{◌≡◌, ℕ, Some, sym, ap, ◌∙◌, not, []}
use Rattle.std.specs.Option.{option_copied, unwrap_or}
use Rattle.std.specs.Ordering.{is_lt}
use Rattle.rz_export_model.specs.Paths.{Path, path_cmp}
use Rattle.rz_names.specs.Entries.{run}
use Rattle.rz_names.specs.Names.{entry_after}
use Rattle.rz_names.proofs.Names.{Entries}
use Rattle.rz_names.proofs.Children.{above-at_end, above-at}
use Rattle.rz_names.proofs.map.NameMap.after.Goals as goal

-- the place that was found, by the path
at_of : (at : ℕ) (names path : Path) (es : Entries) → at ≡ run (λ k. not (is_lt (path_cmp names k))) es → names ≡ path → at ≡ run (λ k. not (is_lt (path_cmp path k))) es
at_of at names path es is same = is ∙ ap (λ x. run (λ k. not (is_lt (path_cmp x k))) es) same

pub returns-in-None : goal.returns-in-None
returns-in-None c =
    let path : Path = unwrap_or (option_copied c.args.path) [] in
    let at = at_of c.place_above-at.result c.names_of.result.now path c.self.inside.entries c.place_above-at.ensures c.names_of.ensures in
    sym (ap (λ m. entry_after m path) (sym c.self.view_is)
    ∙ above-at_end c.self.inside.entries c.self.invariant path c.place_above-at.result at (sym c.in-None.ensures))

pub returns-in_ok-copy-in-Some : goal.returns-in_ok-copy-in-Some
returns-in_ok-copy-in-Some c =
    let path : Path = unwrap_or (option_copied c.args.path) [] in
    let at = at_of c.place_above-at.result c.names_of.result.now path c.self.inside.entries c.place_above-at.ensures c.names_of.ensures in
    ap (λ p. Some (p, c.fid.result)) (c.in_ok-copy-in-Some.ensures ∙ c.path.ensures) ∙ ap (λ n. Some (c.in-Some.found.now.0, n)) c.fid.ensures
    ∙ sym (ap (λ m. entry_after m path) (sym c.self.view_is)
    ∙ above-at c.self.inside.entries c.self.invariant path c.place_above-at.result c.in-Some.found.now at (sym c.in-Some.ensures))
