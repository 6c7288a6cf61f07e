use Rattle.std.proofs.Common.{◌≡◌, length, sym, ap, ◌∙◌}
use Rattle.std.specs.Prelude.{◌==◌}
use Rattle.rz_names.specs.Names.{is_behind}
use Rattle.rz_names.proofs.Names.{place, placed}
use Rattle.rz_names.proofs.Behind.{root-behind, path-behind, no-names, some-names}
use Rattle.rz_names.proofs.map.NameMap.is_behind.Goals as goal

pub returns-then-count-eq0 : goal.returns-then-count-eq0
returns-then-count-eq0 c =
    let zero : length c.args.path.now ≡ 0 = ap length (sym c.names-count.ensures) ∙ c.if-count-eq0.true in
    root-behind c.self.inside.entries c.self.invariant c.args.path.now (no-names c.args.path.now zero) ∙ ap (λ m. is_behind m c.args.path.now) c.self.view_is

pub returns : goal.returns
returns c =
    let es = c.self.inside.entries in
    let at = placed c.place_of-before.result c.names.result.now c.args.path.now es c.place_of-before.ensures.place c.names.ensures in
    ap (λ n. n == c.len-all.result) at ∙ ap (λ n. place c.args.path.now es == n) c.len-all.ensures
    ∙ path-behind es c.self.invariant c.args.path.now (some-names c.args.path.now (λ none. c.if-count-eq0.false (ap length c.names-count.ensures ∙ none)))
    ∙ ap (λ m. is_behind m c.args.path.now) c.self.view_is
