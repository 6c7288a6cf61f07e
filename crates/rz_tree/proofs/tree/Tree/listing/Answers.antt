use Rattle.std.proofs.Common.{◌≡◌, [], ◌∷◌, ◌++◌, List, length, take, cond, Some, None, is_ok, true, sym, ap, ◌∙◌, subst, slice_get}
use Rattle.std.specs.Option.{option_copied}
use Rattle.std.specs.List.Sorted.{IsSorted}
use Rattle.rz_export_model.specs.Paths.{Name, name_cmp}
use Rattle.rz_export_model.specs.Tree.{names_under}
use Rattle.rz_tree.proofs.Listings.{next-first, next-after, take-nothing, all-taken, under-rises, in-order, listed-more, listed-length, listed-less}
use Rattle.rz_tree.proofs.tree.Tree.listing.Goals as goal

pub loop-name-init : goal.loop-name-init
loop-name-init c =
    let xs : List Name = names_under c.self.inside.names c.args.path.now in
    record {
      so_far = ap (λ (items : List Name). take (length items) xs) c.new-names.ensures.items ∙ take-nothing xs ∙ sym c.new-names.ensures.items;
      next = next-first c.self.inside.names c.args.path.now ∙ sym (ap (λ (items : List Name). slice_get xs (length items)) c.new-names.ensures.items);
    }

pub loop-name-smaller : goal.loop-name-smaller
loop-name-smaller c =
    let xs : List Name = names_under c.self.inside.names c.args.path.now in
    let ok : is_ok c.push.result ≡ true = sym c.map_err.ensures.variant ∙ ap is_ok c.in_ok-map_err.was in
    let is : c.push.new.self.items ≡ c.loop-name.names.items ++ c.in-Some.name.now ∷ [] =
    c.push.ensures.items ∙ ap (λ b. cond b (c.loop-name.names.items ++ c.in_ok-copy.field-0 ∷ []) c.loop-name.names.items) ok ∙ ap (λ z. c.loop-name.names.items ++ z ∷ []) c.in_ok-copy.ensures in
    let at : slice_get xs (length c.loop-name.names.items) ≡ Some c.in-Some.name.now = sym c.loop-name.invariant.next ∙ sym c.child.ensures ∙ ap option_copied c.in-Some.is in
    listed-less xs c.loop-name.names.items c.push.new.self.items c.in-Some.name.now is at

pub loop-name-preserved : goal.loop-name-preserved
loop-name-preserved c =
    let xs : List Name = names_under c.self.inside.names c.args.path.now in
    let ok : is_ok c.push.result ≡ true = sym c.map_err.ensures.variant ∙ ap is_ok c.in_ok-map_err.was in
    let is : c.push.new.self.items ≡ c.loop-name.names.items ++ c.in-Some.name.now ∷ [] =
    c.push.ensures.items ∙ ap (λ b. cond b (c.loop-name.names.items ++ c.in_ok-copy.field-0 ∷ []) c.loop-name.names.items) ok ∙ ap (λ z. c.loop-name.names.items ++ z ∷ []) c.in_ok-copy.ensures in
    let at : slice_get xs (length c.loop-name.names.items) ≡ Some c.in-Some.name.now = sym c.loop-name.invariant.next ∙ sym c.child.ensures ∙ ap option_copied c.in-Some.is in
    record {
      so_far = listed-more xs c.loop-name.names.items c.push.new.self.items c.in-Some.name.now is at c.loop-name.invariant.so_far;
      next = next-after c.self.inside.names c.args.path.now (length c.loop-name.names.items) c.in-Some.name.now at
          ∙ ap (slice_get xs) (sym (listed-length xs c.loop-name.names.items c.push.new.self.items c.in-Some.name.now is at));
    }

pub of-requires : goal.of-requires
of-requires c =
    let xs : List Name = names_under c.self.inside.names c.args.path.now in
    let end : slice_get xs (length c.loop-name.names.items) ≡ None = sym c.loop-name.invariant.next ∙ sym c.child.ensures ∙ ap option_copied c.in_default.is in
    let all : xs ≡ c.loop-name.names.items = sym (all-taken xs (length c.loop-name.names.items) end) ∙ c.loop-name.invariant.so_far in
    subst (IsSorted name_cmp) all (in-order xs (under-rises c.self.inside.names c.args.path.now))

pub returns : goal.returns
returns c =
    let xs : List Name = names_under c.self.inside.names c.args.path.now in
    let end : slice_get xs (length c.loop-name.names.items) ≡ None = sym c.loop-name.invariant.next ∙ sym c.child.ensures ∙ ap option_copied c.in_default.is in
    let all : xs ≡ c.loop-name.names.items = sym (all-taken xs (length c.loop-name.names.items) end) ∙ c.loop-name.invariant.so_far in
    c.of.ensures ∙ sym all ∙ ap (λ t. names_under t.names c.args.path.now) c.self.view_is
