-- The walk along the names of a path.
use Rattle.std.proofs.Common.{◌≡◌, ℕ, zero, suc, ◌+◌, ◌-◌, ◌<◌, ◌≤◌, Bool, true, false, not, [], ◌∷◌, ◌++◌, length, take, drop, Option, Some, None, sym, ap, ◌∙◌, refl, arith, append_assoc}
use Rattle.std.specs.Option.{option_or, option_map, option_map_or}
use Rattle.rz_events.specs.declared.tree.TreeFault.{TreeFault}
use Rattle.rz_events.specs.declared.tree.TreeFault.TheVariants as fault
use Rattle.rz_export_model.specs.Firsts.{given_if}
use Rattle.rz_export_model.specs.Paths.{Name, Path, above, is_root}
use Rattle.rz_export_model.specs.Tree.{Tree, Found, found_at, is_at, is_dir}
use Rattle.rz_export_model.specs.Refusals.{no_directory, walk_from, walk}

pub append-nothing : (p : Path) → p ++ [] ≡ p
append-nothing [] = refl
append-nothing (m ∷ p) = ap (λ r. m ∷ r) (append-nothing p)

module _ (t : Tree) where
  step_from : (base p : Path) (i : ℕ) → i + 2 ≤ length p
      → walk_from t (base ++ take i p) (drop i p) ≡ option_or (no_directory t (base ++ take (suc i) p)) (walk_from t (base ++ take (suc i) p) (drop (suc i) p))
  step_from base [] i le = absurd (omega arith)
  step_from base (n ∷ []) i le = absurd (omega arith)
  step_from base (n ∷ m ∷ p) zero le = ap (λ b. walk_from t b (n ∷ m ∷ p)) (append-nothing base)
  step_from base (n ∷ m ∷ p) (suc i) le =
      let move : (r : Path) → base ++ n ∷ r ≡ (base ++ n ∷ []) ++ r = λ r. sym (append_assoc base (n ∷ []) r) in
      ap (λ b. walk_from t b (drop i (m ∷ p))) (move (take i (m ∷ p))) ∙ step_from (base ++ n ∷ []) (m ∷ p) i (omega arith)
      ∙ ap (λ b. option_or (no_directory t b) (walk_from t b (drop (suc i) (m ∷ p)))) (sym (move (take (suc i) (m ∷ p))))

  -- one name on
  pub walk-step : (p : Path) (i : ℕ) → i + 2 ≤ length p
      → walk_from t (take i p) (drop i p) ≡ option_or (no_directory t (take (suc i) p)) (walk_from t (take (suc i) p) (drop (suc i) p))
  walk-step p i le = step_from [] p i le

  -- at the last name
  pub walk-end : (base p : Path) (i : ℕ) → length p ≤ suc i → walk_from t base (drop i p) ≡ None
  walk-end base [] zero le = refl
  walk-end base [] (suc i) le = refl
  walk-end base (n ∷ []) zero le = refl
  walk-end base (n ∷ m ∷ p) zero le = absurd (omega arith)
  walk-end base (n ∷ p) (suc i) le = walk-end base p i (omega arith)

  pub take-none : (p : Path) → take 0 p ≡ []
  take-none [] = refl
  take-none (n ∷ p) = refl

  pub drop-none : (p : Path) → drop 0 p ≡ p
  drop-none [] = refl
  drop-none (n ∷ p) = refl

  -- a path at which there is no fault is a directory's
  no_fault_dir : (p : Path) → no_directory t p ≡ None → is_at t p is_dir ≡ true
  no_fault_dir p h = go (found_at t p) h
    where
      given : (b : Bool) → given_if (not b) fault.NotDir ≡ None → b ≡ true
      given true h = refl
      given false h = cc

      go : (o : Option Found) → option_map_or (λ f. given_if (not (is_dir f.object.kind)) fault.NotDir) o (Some fault.NoEntry) ≡ None → option_map_or is_dir (option_map (λ f. f.object.kind) o) false ≡ true
      go None h = cc
      go (Some f) h = given (is_dir f.object.kind) h

  or_parts : (o p : Option TreeFault) → option_or o p ≡ None → (o ≡ None) × (p ≡ None)
  or_parts None p h = (refl, h)
  or_parts (Some x) p h = cc

  fronts_from : (base p : Path) (n : Name) → walk_from t base (p ++ n ∷ []) ≡ None → is_root p ≡ false → is_at t (base ++ p) is_dir ≡ true
  fronts_from base [] n h other = cc
  fronts_from base (m ∷ []) n h other = no_fault_dir (base ++ m ∷ []) (or_parts _ _ h).0
  fronts_from base (m ∷ k ∷ p) n h other =
      ap (λ q. is_at t q is_dir) (sym (append_assoc base (m ∷ []) (k ∷ p))) ∙ fronts_from (base ++ m ∷ []) (k ∷ p) n (or_parts _ _ h).1 refl

  -- where the walk finds no fault, what stands above the path is a directory
  pub walked-above : (p : Path) (n : Name) → walk t (p ++ n ∷ []) ≡ None → is_root p ≡ false → is_at t p is_dir ≡ true
  walked-above p n h other = fronts_from [] p n h other

  front_from : (base p : Path) (n : Name) (r : Path) → walk_from t base (p ++ n ∷ r) ≡ None → is_root p ≡ false → is_at t (base ++ p) is_dir ≡ true
  front_from base [] n r h other = cc
  front_from base (m ∷ []) n r h other = no_fault_dir (base ++ m ∷ []) (or_parts _ _ h).0
  front_from base (m ∷ k ∷ p) n r h other =
      ap (λ q. is_at t q is_dir) (sym (append_assoc base (m ∷ []) (k ∷ p))) ∙ front_from (base ++ m ∷ []) (k ∷ p) n r (or_parts _ _ h).1 refl

  -- and so is each path on the way
  pub walked-front : (p : Path) (n : Name) (r : Path) → walk t (p ++ n ∷ r) ≡ None → is_root p ≡ false → is_at t p is_dir ≡ true
  walked-front p n r h other = front_from [] p n r h other

-- a path that is not the root's is that above it and a name
pub split-above : (p : Path) → is_root p ≡ false → (n : Name) × (p ≡ above p ++ n ∷ [])
split-above [] h = cc
split-above (n ∷ []) h = (n, refl)
split-above (n ∷ m ∷ p) h = let rest = split-above (m ∷ p) refl in (rest.0, ap (λ r. n ∷ r) rest.1)

pub above-append : (p : Path) (n : Name) → above (p ++ n ∷ []) ≡ p
above-append [] n = refl
above-append (m ∷ []) n = refl
above-append (m ∷ k ∷ p) n = ap (λ r. m ∷ r) (above-append (k ∷ p) n)

-- a path with one more name is not the root's
pub not-root-more : (p : Path) (n : Name) → is_root (p ++ n ∷ []) ≡ false
not-root-more [] n = refl
not-root-more (m ∷ p) n = refl

module _ (t : Tree) (p : Path) where
  -- the walk from its begin
  pub walk-begin : walk t p ≡ walk_from t (take 0 p) (drop 0 p)
  walk-begin = sym (ap (λ b. walk_from t b (drop 0 p)) (take-none t p) ∙ ap (walk_from t []) (drop-none t p))

  -- a turn of the walk
  pub walk-turn : (count : ℕ) → 1 ≤ count → count < length p
      → walk_from t (take (count - 1) p) (drop (count - 1) p) ≡ option_or (no_directory t (take count p)) (walk_from t (take count p) (drop count p))
  walk-turn count some lt =
      let next : suc (count - 1) ≡ count = omega arith in
      walk-step t p (count - 1) (omega arith) ∙ ap (λ n. option_or (no_directory t (take n p)) (walk_from t (take n p) (drop n p))) next

  pub walk-on : (count : ℕ) → 1 ≤ count → count < length p → no_directory t (take count p) ≡ None
      → walk_from t (take (count - 1) p) (drop (count - 1) p) ≡ walk_from t (take (count + 1 - 1) p) (drop (count + 1 - 1) p)
  walk-on count some lt none =
      let same : count ≡ count + 1 - 1 = omega arith in
      walk-turn count some lt ∙ ap (λ o. option_or o (walk_from t (take count p) (drop count p))) none ∙ ap (λ n. walk_from t (take n p) (drop n p)) same

  pub walk-stop : (count : ℕ) (f : TreeFault) → 1 ≤ count → count < length p → no_directory t (take count p) ≡ Some f
      → walk_from t (take (count - 1) p) (drop (count - 1) p) ≡ Some f
  walk-stop count f some lt fault = walk-turn count some lt ∙ ap (λ o. option_or o (walk_from t (take count p) (drop count p))) fault

  pub walk-done : (count : ℕ) → 1 ≤ count → length p ≤ count → walk_from t (take (count - 1) p) (drop (count - 1) p) ≡ None
  walk-done count some le = walk-end t (take (count - 1) p) p (count - 1) (omega arith)
