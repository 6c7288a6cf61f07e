-- A file that was opened with a lock.
use Rattle.std.proofs.Common.{◌≡◌, ℕ, Bool, false, List, Option, Some, None, refl, sym, ◌∙◌, ap, subst}
use Rattle.std.specs.Option.{is_some}
use Rattle.rz_events.specs.declared.keys.Actor.{Actor}
use Rattle.rz_events.specs.declared.keys.Actor.TheVariants.{Client}
use Rattle.rz_events.specs.declared.tree.TreeCall.{TreeCall}
use Rattle.rz_events.specs.declared.tree.TreeCall.TheVariants as tree
use Rattle.rz_events.specs.declared.export.Call.TheVariants as call
use Rattle.rz_events.specs.declared.export.Reply.{Reply}
use Rattle.rz_events.specs.declared.events.Event.{Event}
use Rattle.rz_export_model.specs.Export.{Export, export_reply, export_after}
use Rattle.rz_export_model.specs.ExportEvents.{export_event}
use Rattle.rz_locks.specs.declared.conflict.Lock.{Lock}
use Rattle.rz_locks.specs.declared.conflict.LockKind.{LockKind}
use Rattle.rz_locks.specs.declared.conflict.Range.{Range}
use Rattle.rz_locks.specs.Held.{Held}
use Rattle.rz_operation.specs.Answers.{IsWorkAfter}
use Rattle.rz_operation.specs.Machine.{Machine}
use Rattle.rz_operation_model.specs.Steps.{Locked}
use Rattle.rz_play.specs.Turns.{lock_on}
use Rattle.rz_driver_asks.specs.Locking.{lock_of, Grants, lock_if, open_reply, IsFileOpened}
use Rattle.rz_driver_asks.specs.Parts.{IsNoted}

pub none-lock : (held : Option (Range × LockKind)) → is_some held ≡ false → lock_of held ≡ None
none-lock None is = refl
none-lock (Some p) is = absurd (cc)

pub opened : (by : Actor) (owner : ℕ) (c copy : TreeCall) (path : List ℕ) (r : Reply) (exclusive : Bool) (from count : ℕ) (wanted : Option Lock) (granted : Bool)
    (old new : Machine) (s s2 : Export) (locks locks2 : Held) (held held2 : Option Lock) (log log2 : List Event)
    → by ≡ Client owner → copy ≡ c → c ≡ tree.OpenFile path → r ≡ export_reply s (call.Tree c)
    → IsNoted (export_event (Client owner) (call.Tree copy) r) log log2 → s2 ≡ export_after s (call.Tree c) → held ≡ None
    → wanted ≡ lock_on r exclusive from count → Grants locks owner wanted granted locks2 → held2 ≡ lock_if granted wanted held
    → IsWorkAfter old old.pairs (Locked granted r) new
    → IsFileOpened by owner path (lock_on (open_reply s path) exclusive from count) old new s s2 locks locks2 held held2 log log2
opened by owner c copy path r exclusive from count wanted granted old new s s2 locks locks2 held held2 log log2 by_is copy_is opens says notes after none asks grants holds goes =
    let replied : r ≡ open_reply s path = says ∙ ap (λ (x : TreeCall). export_reply s (call.Tree x)) opens in
    let asked : wanted ≡ lock_on (open_reply s path) exclusive from count = asks ∙ ap (λ (x : Reply). lock_on x exclusive from count) replied in
    record {
      granted = granted;
      owner_is = by_is;
      noted = subst (λ (x : Reply). IsNoted (export_event by (call.Tree (tree.OpenFile path)) x) log log2) replied
          (subst (λ (x : TreeCall). IsNoted (export_event by (call.Tree x) r) log log2) (copy_is ∙ opens)
          (subst (λ (x : Actor). IsNoted (export_event x (call.Tree copy) r) log log2) (sym by_is) notes));
      after = after ∙ ap (λ (x : TreeCall). export_after s (call.Tree x)) opens;
      none_held = none;
      grants = subst (λ (x : Option Lock). Grants locks owner x granted locks2) asked grants;
      held_is = holds ∙ ap (λ (x : Option Lock). lock_if granted x held) asked;
      goes = subst (λ (x : Reply). IsWorkAfter old old.pairs (Locked granted x) new) replied goes;
    }
