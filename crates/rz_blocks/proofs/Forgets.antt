-- The keys of a file, and the map without them.
use Rattle.std.proofs.Common.{◌≡◌, ℕ, Bool, true, false, cond, not, List, [], ◌∷◌, Option, Some, None, is_some, sym, ap, ◌∙◌, refl}
use Rattle.std.specs.Prelude.{◌==◌}
use Rattle.std.specs.Option.{option_map, option_or}
use Rattle.std.specs.Ordering.{is_eq, eq_by_cmp}
use Rattle.std.specs.declared.cmp.Ordering.{Ordering}
use Rattle.std.specs.declared.cmp.Ordering.TheVariants.{Less, Equal, Greater}
use Rattle.std.specs.BTreeMap.{is_at}
use Rattle.std.specs.Cmp.{tied_itself}
use Rattle.std.specs.FinMap as maps
use Rattle.std.specs.FinMap.{same_map, get-retain_keys}
use Rattle.std.specs.FinMap.Entries.{find}
use Rattle.rz_events.specs.Keys.{key_cmp, keys_total, exact_keys}
use Rattle.rz_events.specs.declared.keys.Key.{Key}
use Rattle.rz_export_model.proofs.Forgets.{first_of_file, first-own, first-found, none-own, get-without}
use Rattle.rz_export_model.proofs.Tests.{eq_true}
use Rattle.rz_export_model.specs.Firsts.{first_given, given_if}
use Rattle.rz_export_model.specs.Export.{Block, Blocks, without_file}
use Rattle.rz_blocks.specs.declared.blocks.BlockEntry.{BlockEntry}
use Rattle.rz_blocks.specs.Shown.{shown, shown_entries}
use Rattle.rz_blocks.specs.Marked.{kept_at}
use Rattle.rz_blocks.proofs.Shows.{Kept, map_of, find-shown, some-shown, get-shown}
use Rattle.rz_blocks.proofs.Ranges.{key_in, first-shown}

-- ---- entries of which the keys of a file go

module _ (es : Kept) (fid : ℕ) where
  file-shown : first_of_file fid (shown_entries es) ≡ first_given (key_in fid) es
  file-shown = sym (first-shown (λ e. given_if (e.0.fid == fid) e.0) es)

  own-key : (k : Key) → first_given (key_in fid) es ≡ Some k → (k.fid == fid) ≡ true
  own-key k h = first-own fid (shown_entries es) k (file-shown ∙ h)

  pub found-key : (k : Key) → first_given (key_in fid) es ≡ Some k → is_some (kept_at es k) ≡ true
  found-key k h = sym (some-shown (kept_at es k)) ∙ ap is_some (sym (find-shown es k)) ∙ first-found fid (shown_entries es) k (file-shown ∙ h)

  -- another file keeps its entries as a key of this one goes
  pub others-stay : (fs : Kept) (k : Key) → first_given (key_in fid) es ≡ Some k → ((q : Key) → kept_at fs q ≡ cond (is_at (key_cmp k) q) None (kept_at es q))
      → (q : Key) → (q.fid == fid) ≡ false → kept_at fs q ≡ kept_at es q
  others-stay fs k h now q other = now q ∙ go (is_at (key_cmp k) q) refl
    where
      go : (b : Bool) → is_at (key_cmp k) q ≡ b → cond b None (kept_at es q) ≡ kept_at es q
      go true is = let never : true ≡ false = sym (own-key k h) ∙ ap (λ (y : Key). y.fid == fid) (exact_keys k q (eq_true _ is)) ∙ other in cc
      go false is = refl

  -- where no key of the file is left, the file has no entries
  pub all-gone : (old : Kept) → first_given (key_in fid) es ≡ None → ((q : Key) → (q.fid == fid) ≡ false → kept_at es q ≡ kept_at old q)
      → (q : Key) → kept_at es q ≡ cond (q.fid == fid) None (kept_at old q)
  all-gone old h stay q = go (q.fid == fid) refl
    where
      not-shown : (o : Option BlockEntry) → option_map shown o ≡ None → o ≡ None
      not-shown None h = refl
      not-shown (Some e) h = cc

      go : (b : Bool) → (q.fid == fid) ≡ b → kept_at es q ≡ cond b None (kept_at old q)
      go true own = not-shown (kept_at es q) (sym (find-shown es q) ∙ none-own fid (shown_entries es) (file-shown ∙ h) q own)
      go false other = stay q other

-- the map is then the one without the file
pub without-kept : (es fs : Kept) (fid : ℕ) → ((q : Key) → kept_at fs q ≡ cond (q.fid == fid) None (kept_at es q)) → map_of fs ≡ without_file (map_of es) fid
without-kept es fs fid now = same_map keys_total exact_keys _ _ (λ q.
    get-shown fs q ∙ ap (option_map shown) (now q) ∙ turn (q.fid == fid) (kept_at es q) ∙ ap (λ o. cond (not (q.fid == fid)) o None) (sym (get-shown es q)) ∙ sym (get-without (map_of es) fid q))
  where
    turn : (b : Bool) (o : Option BlockEntry) → option_map shown (cond b None o) ≡ cond (not b) (option_map shown o) None
    turn true o = refl
    turn false o = refl
