-- The keys of a file, and the blocks without them.
use Rattle.std.proofs.Common.{◌≡◌, ℕ, Bool, true, false, cond, not, List, [], ◌∷◌, Option, Some, None, is_some, sym, ap, ◌∙◌, refl}
use Rattle.std.specs.Prelude.{◌==◌}
use Rattle.std.specs.Option.{option_or}
use Rattle.std.specs.Ordering.{is_eq, eq_by_cmp}
use Rattle.std.specs.declared.cmp.Ordering.{Ordering}
use Rattle.std.specs.declared.cmp.Ordering.TheVariants.{Less, Equal, Greater}
use Rattle.std.specs.Cmp.{tied_itself}
use Rattle.std.specs.FinMap as maps
use Rattle.std.specs.FinMap.{get-retain_keys}
use Rattle.std.specs.FinMap.Entries.{find}
use Rattle.std.proofs.lemmas.Option.{same_Some}
use Rattle.rz_events.specs.Keys.{key_cmp, keys_total, exact_keys}
use Rattle.rz_events.specs.declared.keys.Key.{Key}
use Rattle.rz_export_model.proofs.Tests.{eq_true}
use Rattle.rz_export_model.specs.Firsts.{first_given, given_if}
use Rattle.rz_export_model.specs.Export.{Block, Blocks, without_file}

-- the least key of a file
abbrev pub first_of_file : ℕ → List (Key × Block) → Option Key
first_of_file fid es = first_given (λ e. given_if (e.0.fid == fid) e.0) es

pub first-own : (fid : ℕ) (es : List (Key × Block)) (k : Key) → first_of_file fid es ≡ Some k → (k.fid == fid) ≡ true
first-own fid [] k h = cc
first-own fid (e ∷ es) k h = elim (e.0.fid == fid) as (λ b. (e.0.fid == fid) ≡ b → option_or (given_if b e.0) (first_of_file fid es) ≡ Some k → (k.fid == fid) ≡ true) [
  | true ↦ λ is at. ap (λ (x : Key). x.fid == fid) (sym (same_Some e.0 k at)) ∙ is
  | false ↦ λ _ at. first-own fid es k at
] refl h

pub first-found : (fid : ℕ) (es : List (Key × Block)) (k : Key) → first_of_file fid es ≡ Some k → is_some (find key_cmp k es) ≡ true
first-found fid [] k h = cc
first-found fid (e ∷ es) k h = elim (e.0.fid == fid) as (λ b. option_or (given_if b e.0) (first_of_file fid es) ≡ Some k → is_some (find key_cmp k (e ∷ es)) ≡ true) [
  | true ↦ λ at. ap (λ (x : Key). is_some (cond (eq_by_cmp key_cmp k x) (Some e.1) (find key_cmp k es))) (same_Some e.0 k at) ∙ ap (λ r. is_some (cond (is_eq r) (Some e.1) (find key_cmp k es))) (tied_itself keys_total k)
  | false ↦ λ at. either (eq_by_cmp key_cmp k e.0) (find key_cmp k es) (first-found fid es k at)
] h
  where
    either : (b : Bool) (o : Option Block) → is_some o ≡ true → is_some (cond b (Some e.1) o) ≡ true
    either true o is = refl
    either false o is = is

pub none-own : (fid : ℕ) (es : List (Key × Block)) → first_of_file fid es ≡ None → (q : Key) → (q.fid == fid) ≡ true → find key_cmp q es ≡ None
none-own fid [] h q own = refl
none-own fid (e ∷ es) h q own = elim (e.0.fid == fid) as (λ b. (e.0.fid == fid) ≡ b → option_or (given_if b e.0) (first_of_file fid es) ≡ None → find key_cmp q (e ∷ es) ≡ None) [
  | true ↦ λ is at. cc
  | false ↦ λ is at. other e is (eq_by_cmp key_cmp q e.0) refl (none-own fid es at q own)
] refl h
  where
    other : (e : Key × Block) → (e.0.fid == fid) ≡ false → (b : Bool) → eq_by_cmp key_cmp q e.0 ≡ b → find key_cmp q es ≡ None → cond b (Some e.1) (find key_cmp q es) ≡ None
    other e is true same none = let never : true ≡ false = sym own ∙ ap (λ (x : Key). x.fid == fid) (exact_keys q e.0 (eq_true _ same)) ∙ is in cc
    other e is false same none = none

kept_alike : (fid : ℕ) (q x : Key) → key_cmp q x ≡ Equal → not (x.fid == fid) ≡ not (q.fid == fid)
kept_alike fid q x is = ap (λ (y : Key). not (y.fid == fid)) (sym (exact_keys q x is))

pub get-without : (m : Blocks) (fid : ℕ) (q : Key) → maps.get (without_file m fid) q ≡ cond (not (q.fid == fid)) (maps.get m q) None
get-without m fid q = get-retain_keys m (λ key. not (key.fid == fid)) q (λ x is. kept_alike fid q x is)
