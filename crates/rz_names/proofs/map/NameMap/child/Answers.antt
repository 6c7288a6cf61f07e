use Rattle.std.proofs.Common.{◌≡◌, ℕ, true, false, ◌<◌, ◌≤◌, length, get_or, Some, None, sym, ap, ◌∙◌, arith, is_some, List, slice_get, nat_lt, IfSome, Bor, Option}
use Rattle.std.specs.Option.{option_copied}
use Rattle.rz_export_model.specs.Paths.{Path, begins_with}
use Rattle.rz_names.specs.Entries.{run}
use Rattle.rz_names.specs.Names.{is_up_to, next_name}
use Rattle.rz_names.proofs.Names.{Entries}
use Rattle.rz_names.proofs.Children.{next-at_end, next-at_other, next-at_child}
use Rattle.std.proofs.lemmas.Option.{slice_get_past, slice_get-get_or}
use Rattle.std.proofs.lemmas.Bool.Decides.{nat_tests}
use Rattle.rz_names.proofs.map.NameMap.child.Goals as goal

-- the place that was found, by the path
at_of : (at : ℕ) (names path : Path) (after : Option (List ℕ)) (es : Entries) → at ≡ run (is_up_to names after) es → names ≡ path → at ≡ run (is_up_to path after) es
at_of at names path after es is same = is ∙ ap (λ x. run (is_up_to x after) es) same

pub returns-in-None : goal.returns-in-None
returns-in-None c =
    let at = at_of c.place_after-at.result c.names.result.now c.args.path.now (option_copied c.args.after) c.self.inside.entries c.place_after-at.ensures c.names.ensures in
    sym (ap (λ m. next_name m c.args.path.now (option_copied c.args.after)) (sym c.self.view_is)
    ∙ next-at_end c.self.inside.entries c.self.invariant c.args.path.now (option_copied c.args.after) c.place_after-at.result at (sym c.in-None.ensures))

pub returns-then-not-starts_with : goal.returns-then-not-starts_with
returns-then-not-starts_with c =
    let at = at_of c.place_after-at.result c.names.result.now c.args.path.now (option_copied c.args.after) c.self.inside.entries c.place_after-at.ensures c.names.ensures in
    let other : begins_with c.args.path.now c.in-Some.found.now.0 ≡ false = cc in
    sym (ap (λ m. next_name m c.args.path.now (option_copied c.args.after)) (sym c.self.view_is)
    ∙ next-at_other c.self.inside.entries c.self.invariant c.args.path.now (option_copied c.args.after) c.place_after-at.result c.in-Some.found.now at (sym c.in-Some.ensures) other)

-- what a look-up by an index gives
get-copied : (xs : List (List ℕ)) (i : ℕ) (r : Option (Bor (List ℕ))) → is_some r ≡ nat_lt i (length xs) → IfSome r (λ x. x.now ≡ get_or xs i x.now) → option_copied r ≡ slice_get xs i
get-copied xs i None is h = sym (slice_get_past xs i (leb-false is))
  where
    leb-false : false ≡ nat_lt i (length xs) → length xs ≤ i
    leb-false e = grind (arith, nat_tests)
get-copied xs i (Some x) is h = ap Some h ∙ sym (slice_get-get_or xs i x.now (ltb-so is))
  where
    ltb-so : true ≡ nat_lt i (length xs) → i < length xs
    ltb-so e = grind (arith, nat_tests)

pub returns-else-not-starts_with : goal.returns-else-not-starts_with
returns-else-not-starts_with c =
    let at = at_of c.place_after-at.result c.names.result.now c.args.path.now (option_copied c.args.after) c.self.inside.entries c.place_after-at.ensures c.names.ensures in
    let begins : begins_with c.args.path.now c.in-Some.found.now.0 ≡ true = cc in
    get-copied c.names-in-Some-3.result.now (length c.names-in-Some-4.result.now) c.get-in-Some.result c.get-in-Some.ensures.lookup.0 c.get-in-Some.ensures.lookup.1
    ∙ ap (λ xs. slice_get xs (length c.names-in-Some-4.result.now)) c.names-in-Some-3.ensures ∙ ap (λ p. slice_get c.in-Some.found.now.0 (length p)) c.names-in-Some-4.ensures
    ∙ sym (ap (λ m. next_name m c.args.path.now (option_copied c.args.after)) (sym c.self.view_is)
    ∙ next-at_child c.self.inside.entries c.self.invariant c.args.path.now (option_copied c.args.after) c.place_after-at.result c.in-Some.found.now at (sym c.in-Some.ensures) begins)
