-- A key that is prepared is there.
use Rattle.std.proofs.Common.{◌≡◌, Bool, true, false, cond, Some, None, is_some, ap, ◌∙◌, refl}
use Rattle.std.specs.Ordering.{is_eq}
use Rattle.std.specs.Cmp.{tied_itself}
use Rattle.std.specs.FinMap as maps
use Rattle.std.specs.FinMap.{get-insert}
use Rattle.rz_events.specs.Keys.{keys_total}
use Rattle.rz_events.specs.declared.keys.Key.{Key}
use Rattle.rz_export_model.specs.Export.{Block, Blocks, prepared}

pub prepared-there : (m : Blocks) (key : Key) → is_some (maps.get (prepared m key) key) ≡ true
prepared-there m key = go (is_some (maps.get m key)) refl
  where
    new : Block
    new = record { latest = 0; published = None }

    go : (b : Bool) → is_some (maps.get m key) ≡ b → is_some (maps.get (cond b m (maps.insert m key new)) key) ≡ true
    go true is = is
    go false is = ap is_some (get-insert keys_total m key new key) ∙ ap (λ r. is_some (cond (is_eq r) (Some new) (maps.get m key))) (tied_itself keys_total key)
