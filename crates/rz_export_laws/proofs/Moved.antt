-- A whole tree in which a path, and all below it, go to another.
use Rattle.std.proofs.Common.{◌≡◌, ◌⊎◌, ℕ, ◌≤◌, true, false, ◌&&◌, [], ◌∷◌, ◌++◌, length, drop, Some, None, sym, ap, ◌∙◌, subst, inl, inr}
use Rattle.std.specs.List.{list_all}
use Rattle.std.specs.FinMap as maps
use Rattle.rz_export_model.specs.Paths.{Path, above, is_root, begins_with}
use Rattle.rz_export_model.specs.Tree.{Tree, is_at, is_dir, moved, paths_to}
use Rattle.rz_tree.specs.Added.{most_names}
use Rattle.rz_export_laws.specs.WholeTree.{IsWholeTree, is_plain}
use Rattle.rz_tree.proofs.Keys.{not_none, false-true, true-or-false}
use Rattle.rz_names.proofs.PathOrder.{and_parts, begins-front}
use Rattle.rz_tree.proofs.Moves.{get-in, get-from}
use Rattle.rz_tree.proofs.Renamings.{clear, stays, not_from_root, not_to_root, moved-rules, moved-count}

module _ (t : Tree) (w : IsWholeTree t) (p to : Path) (away : begins_with p to ≡ false) (other : is_root to ≡ false)
    (gone : maps.get t.names to ≡ None) (parent : is_at t (above to) is_dir ≡ true)
    (plain : list_all is_plain to ≡ true) where
  unclaimed : (q : Path) (f : ℕ) → maps.get t.names q ≡ Some f → begins_with to q ≡ false
  unclaimed = clear t w.rules p to away other gone parent

  still : (q : Path) → begins_with to q ≡ false → begins_with p q ≡ false → maps.get (moved p to t.names) q ≡ maps.get t.names q
  still = stays t w.rules p to away other gone parent

  same-count : (f : ℕ) → paths_to (moved p to t.names) f ≡ paths_to t.names f
  same-count = moved-count t w.rules p to away other gone parent

  -- a path that is there now is the new one and more, as a path was the old one and more, or was there
  from : (q : Path) (f : ℕ) → maps.get (moved p to t.names) q ≡ Some f
      → ((r : Path) × (q ≡ to ++ r) × (maps.get t.names (p ++ r) ≡ Some f)) ⊎ (maps.get t.names q ≡ Some f)
  from q f at = elim (true-or-false (begins_with to q)) [
    | inl begins ↦
        let split : q ≡ to ++ drop (length to) q = begins-front to q begins in
        inl (drop (length to) q, split, sym (get-in t.names p to unclaimed (drop (length to) q)) ∙ ap (maps.get (moved p to t.names)) (sym split) ∙ at)
    | inr not_to ↦ elim (true-or-false (begins_with p q)) [
      | inl begins ↦ absurd (not_none f (sym at ∙ get-from t.names p to unclaimed q not_to begins))
      | inr not_p ↦ inr (sym (still q not_to not_p) ∙ at)
    ]
  ]

  back-plain : (a b : Path) → list_all is_plain (a ++ b) ≡ true → list_all is_plain b ≡ true
  back-plain [] b h = h
  back-plain (n ∷ a) b h = back-plain a b (and_parts (is_plain n) (list_all is_plain (a ++ b)) h).1

  both-plain : (a b : Path) → list_all is_plain a ≡ true → list_all is_plain b ≡ true → list_all is_plain (a ++ b) ≡ true
  both-plain [] b ha hb = hb
  both-plain (n ∷ a) b ha hb =
      let parts = and_parts (is_plain n) (list_all is_plain a) ha in
      ap (λ x. x && list_all is_plain (a ++ b)) parts.0 ∙ both-plain a b parts.1 hb

  only-root : (q : Path) → maps.get (moved p to t.names) q ≡ Some 0 → q ≡ []
  only-root q at = elim (from q 0 at) [
    | inl new ↦ absurd (not-root p new.0 (w.root_alone (p ++ new.0) new.2) away)
    | inr old ↦ w.root_alone q old
  ]
    where
      not-root : (p r : Path) → p ++ r ≡ [] → begins_with p to ≡ false → ⊥
      not-root [] r none h = absurd (false-true (sym h))
      not-root (m ∷ p) r none h = cc

  pub moved-whole : IsWholeTree (record t { names = moved p to t.names })
  moved-whole = record {
    rules = moved-rules t w.rules p to away other gone parent;
    root = still [] (not_to_root t w.rules p to away other gone parent) (not_from_root t w.rules p to away other gone parent) ∙ w.root;
    root_alone = only-root;
    few = w.few;
    fits = w.fits;
    named = λ f there. subst (λ n. 1 ≤ n) (sym (same-count f)) (w.named f there);
    few_names = λ f o at. subst (λ n. n ≤ most_names o.kind) (sym (same-count f)) (w.few_names f o at);
    spelled = λ q f at. elim (from q f at) [
      | inl new ↦ ap (list_all is_plain) new.1 ∙ both-plain to new.0 plain (back-plain p new.0 (w.spelled (p ++ new.0) f new.2))
      | inr old ↦ w.spelled q f old
    ];
  }
