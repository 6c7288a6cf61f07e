-- Keys of a file that are taken out one by one.
use Rattle.std.proofs.Common.{◌≡◌, ℕ, ◌-◌, ◌<◌, Bool, true, false, cond, not, List, [], ◌∷◌, length, Some, None, is_some, sym, ap, ◌∙◌, refl, arith}
use Rattle.std.specs.Prelude.{◌==◌}
use Rattle.std.specs.Ordering.{eq_by_cmp}
use Rattle.std.specs.FinMap as maps
use Rattle.std.specs.FinMap.{same_map, get-remove, get-entries, len-remove, len-entries}
use Rattle.std.specs.FinMap.Entries.{find}
use Rattle.rz_events.specs.Keys.{key_cmp, keys_total, exact_keys}
use Rattle.rz_events.specs.declared.keys.Key.{Key}
use Rattle.rz_export_model.proofs.Forgets.{first_of_file, first-own, first-found, none-own, get-without}
use Rattle.rz_export_model.proofs.Tests.{eq_true}
use Rattle.rz_export_model.specs.Export.{Block, Blocks, without_file}

-- with one key less of the file the rest is the same
pub forget-step : (m : Blocks) (fid : ℕ) (k : Key) → first_of_file fid (maps.entries m) ≡ Some k → without_file (maps.remove m k) fid ≡ without_file m fid
forget-step m fid k h = same_map keys_total exact_keys _ _ (λ q.
    get-without (maps.remove m k) fid q ∙ ap (λ o. cond (not (q.fid == fid)) o None) (get-remove keys_total m k q) ∙ gone q (eq_by_cmp key_cmp q k) refl ∙ sym (get-without m fid q))
  where
    gone : (q : Key) (b : Bool) → eq_by_cmp key_cmp q k ≡ b → cond (not (q.fid == fid)) (cond b None (maps.get m q)) None ≡ cond (not (q.fid == fid)) (maps.get m q) None
    gone q true same =
        let own : (q.fid == fid) ≡ true = ap (λ (y : Key). y.fid == fid) (exact_keys q k (eq_true _ same)) ∙ first-own fid (maps.entries m) k h in
        ap (λ b. cond (not b) None None) own ∙ sym (ap (λ b. cond (not b) (maps.get m q) None) own)
    gone q false other = refl

-- without a key of the file nothing is left to do
pub forget-end : (m : Blocks) (fid : ℕ) → first_of_file fid (maps.entries m) ≡ None → m ≡ without_file m fid
forget-end m fid h = same_map keys_total exact_keys _ _ (λ q. kept q (q.fid == fid) refl ∙ sym (get-without m fid q))
  where
    kept : (q : Key) (b : Bool) → (q.fid == fid) ≡ b → maps.get m q ≡ cond (not (q.fid == fid)) (maps.get m q) None
    kept q true own = get-entries m q ∙ none-own fid (maps.entries m) h q own ∙ sym (ap (λ b. cond (not b) (maps.get m q) None) own)
    kept q false other = sym (ap (λ b. cond (not b) (maps.get m q) None) other)

-- a key is one less
pub forget-smaller : (m : Blocks) (fid : ℕ) (k : Key) → first_of_file fid (maps.entries m) ≡ Some k → maps.len (maps.remove m k) < maps.len m
forget-smaller m fid k h =
    let there : is_some (maps.get m k) ≡ true = ap is_some (get-entries m k) ∙ first-found fid (maps.entries m) k h in
    let less : maps.len (maps.remove m k) ≡ maps.len m - 1 = len-remove keys_total m k ∙ ap (λ b. cond b (maps.len m - 1) (maps.len m)) there in
    let some_left : 0 < length (maps.entries m) = some_entry (maps.entries m) (first-found fid (maps.entries m) k h) in
    omega (arith, less, some_left, len-entries m)
  where
    some_entry : (es : List (Key × Block)) → is_some (find key_cmp k es) ≡ true → 0 < length es
    some_entry [] is = cc
    some_entry (e ∷ es) is = omega arith
