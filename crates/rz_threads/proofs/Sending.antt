-- What workers share, and what goes to another thread with them.
use denote.Exit.{no}
use denote.Param.{param, arg}
use denote.Param.Send.{IsSend, IsSync, param_send, param_sync, arg_send, arg_sync, struct_send, struct_sync, recorded_send, recorded_sync}
use denote.Struct.Declared.{shape}
use denote.RattleType.{RattleType}
use denote.Struct.Tuple.{type_at, field_at, TupleAt}
use mathlib.Core.List.{[], ◌∷◌}
use mir.Syntax.{Ty, Sym}
use Rattle.rz_disk.specs.declared.disk.Disk as Disk
use Rattle.rz_config.proofs.volume.Volume.TheSendSync as Volume
use Rattle.rz_chronicle.specs.declared.passes.Naming as Naming
use Rattle.rz_chronicle.proofs.book.Book.TheSendSync as Book
use Rattle.rz_shared_locked.specs.declared.counting.Metering as Metering
use Rattle.rz_shared.proofs.Sending.{cluster_sync}
use Rattle.rz_threads_steps.specs.contracts.store.SharedStore as Store

-- threads may share a store
pub store_sync : (D K : RattleType) (g : Disk.Ghosts D.Denot) (m : Metering.Ghosts K.Denot) (n : Naming.Ghosts K.Denot) → IsSend D → IsSync (Store.the_row D K g m n)
store_sync D K g m n s = recorded_sync (Store.the_field D K g m n).row _ _ (Store.the_type D K g m n).to_one (struct_sync (shape (Store.the_type D K g m n)) (cluster_sync D K g m n s, (Book.the_sync K n, (Volume.the_sync, tt))))

-- a closure may go to another thread where each of its captures may
pub four-sent : {A B C D : RattleType} {δ : Ty} (ν : Sym) → IsSend A → IsSend B → IsSend C → IsSend D
    → IsSend (param 1 (arg δ no (TupleAt ν (A ∷ B ∷ C ∷ D ∷ []))))
four-sent {A} {B} {C} {D} {δ} ν a b c d =
    let T : _ = type_at ν (A ∷ B ∷ C ∷ D ∷ []) in
    param_send 1 _ (arg_send δ no _ (recorded_send (field_at ν (A ∷ B ∷ C ∷ D ∷ [])).row _ _ T.to_one (struct_send (shape T) (a, (b, (c, (d, tt)))))))

-- threads may share a closure where they may share each of its captures
pub three-shared : {A B C : RattleType} {δ : Ty} (ν : Sym) → IsSync A → IsSync B → IsSync C
    → IsSync (param 2 (arg δ no (TupleAt ν (A ∷ B ∷ C ∷ []))))
three-shared {A} {B} {C} {δ} ν a b c =
    let T : _ = type_at ν (A ∷ B ∷ C ∷ []) in
    param_sync 2 _ (arg_sync δ no _ (recorded_sync (field_at ν (A ∷ B ∷ C ∷ [])).row _ _ T.to_one (struct_sync (shape T) (a, (b, (c, tt))))))
