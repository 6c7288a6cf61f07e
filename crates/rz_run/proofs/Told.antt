-- What the log of a play says by the kind of its book, said of the volume.
use Rattle.std.proofs.Common.{◌≡◌, [], ◌∷◌, ℕ, Bool, true, List, length, map, sym, ap, ◌∙◌, subst, ◌⊎◌, inl, inr}
use Rattle.std.specs.Prelude.{IsTrue}
use Rattle.std.specs.List.{AllByRecursion, AllZip, zip}
use Rattle.rz_disk.specs.Meter.{Meter, faults}
use Rattle.rz_events.specs.Volume.{Volume, nodes_of}
use Rattle.rz_events.specs.declared.keys.Actor.TheVariants.{Admin}
use Rattle.rz_events.specs.declared.events.Word.TheVariants.{Node}
use Rattle.rz_events.specs.declared.events.Event.{Event}
use Rattle.rz_nodes.specs.declared.fault.DriverFault.TheVariants.{NoMemory}
use Rattle.rz_script.specs.declared.line.Line.{Line}
use Rattle.rz_core.specs.History.{of_word}
use Rattle.rz_play.specs.World.{actors}
use Rattle.rz_chronicle.specs.Dealing.{new_pass}
use Rattle.rz_chronicle.specs.Keys.{sids_of}
use Rattle.rz_chronicle.specs.Kinds.{is_honest, kind_of, volume_in}
use Rattle.rz_chronicle.specs.Rules.{PassView}
use Rattle.rz_shared_locked.specs.Counts.{AreCountedSince}
use Rattle.rz_shared.proofs.NewLockedNodes.{untouched}
use Rattle.rz_show.specs.RunText.{run_text}
use Rattle.rz_threads.specs.Orders.{AreLinesBegun, AreDone}
use Rattle.rz_threads_workers.specs.declared.pool_worker.PoolWorker.{PoolWorker}
use Rattle.rz_threads_workers.specs.WorkerPool.{IsPoolWorker}
use Rattle.rz_threads.specs.Left.{IsDiskLeft}
use Rattle.rz_threads.specs.PlayResult as member
use Rattle.rz_report.specs.Output.{Sunk, Ends, Lacks}
use Rattle.rz_run.specs.Done.{HasBegun, HasFinished, IsAllBegun, IsAllFinished}
use Rattle.rz_run.specs.Handed.{AreDisksTold, IsDiskTold}
use Rattle.rz_run.specs.Runs.{IsToldOf, IsUnplayed}
use Rattle.rz_run.proofs.PoolWorkers.{begun-all, finished-all}

-- a kind says whether the book is honest, and of which volume it is
abbrev pub IsReadBack : Type 0
IsReadBack = (honest : Bool) (v : Volume) → (is_honest (kind_of honest v) ≡ honest) × (volume_in (kind_of honest v) ≡ v)

pub honest-is : IsReadBack → (honest : Bool) (v : Volume) (kind : List ℕ) → kind ≡ kind_of honest v → is_honest kind ≡ honest
honest-is read_back honest v kind is = ap is_honest is ∙ (read_back honest v).0

-- a kind that is of a volume is so as it says of itself
pub kind-is : IsReadBack → (honest : Bool) (v : Volume) (kind : List ℕ) → kind ≡ kind_of honest v → kind ≡ kind_of (is_honest kind) v
kind-is read_back honest v kind is = is ∙ ap (λ (b : Bool). kind_of b v) (sym (honest-is read_back honest v kind is))

-- Disks that were left, beside those that were handed in.
module _ {D : Type 0} (meter : D → Meter) (image : D → List ℕ → Type 0) (kind : List ℕ) (first : ℕ → ℕ) (log : List Event) where
  disk-told : (n : ℕ) (old new : D) → first n ≡ faults (meter old) → IsDiskLeft meter image kind first log n new → IsDiskTold (is_honest kind) meter image (volume_in kind) log (n, old) new
  disk-told n old new is left = record {
    counted = subst (λ (k : ℕ). AreCountedSince k (faults (meter new)) (of_word (Node n) log)) is left.counted;
    images = left.images;
  }

  head-is : (a b : ℕ) (xs ys : List ℕ) → a ∷ xs ≡ b ∷ ys → a ≡ b
  head-is a b xs ys is = cc (is)

  tail-is : (a b : ℕ) (xs ys : List ℕ) → a ∷ xs ≡ b ∷ ys → xs ≡ ys
  tail-is a b xs ys is = cc (is)

  none-is : (a : ℕ) (xs : List ℕ) → a ∷ xs ≡ [] → ⊥
  none-is a xs is = cc (is)

  disks-told : (ns : List ℕ) (old new : List D) → map first ns ≡ map (λ (d : D). faults (meter d)) old → AllZip (IsDiskLeft meter image kind first log) ns new
      → AllZip (IsDiskTold (is_honest kind) meter image (volume_in kind) log) (zip ns old) new
  disks-told [] old [] firsts left = tt
  disks-told [] old (d ∷ new) firsts left = absurd left
  disks-told (n ∷ ns) [] new firsts left = absurd (none-is _ _ firsts)
  disks-told (n ∷ ns) (o ∷ old) [] firsts left = absurd left
  disks-told (n ∷ ns) (o ∷ old) (d ∷ new) firsts left = (disk-told n o d (head-is _ _ _ _ firsts) left.0, disks-told ns old new (tail-is _ _ _ _ firsts) left.1)

module _ (read_back : IsReadBack) (kind : List ℕ) (v : Volume) (is : kind ≡ kind_of (is_honest kind) v) where
  pub volume-is : volume_in kind ≡ v
  volume-is = ap volume_in is ∙ (read_back (is_honest kind) v).1

  -- what is so by the kind is so of the volume
  moved : (P : Volume → List ℕ → Type 0) → P (volume_in kind) kind → P v (kind_of (is_honest kind) v)
  moved P so = subst (P v) is (subst (λ (u : Volume). P u kind) volume-is so)

  pub disks-at : {D : Type 0} (meter : D → Meter) (image : D → List ℕ → Type 0) (first : ℕ → ℕ) (log : List Event) (cluster : Volume) (old new : List D) → cluster ≡ volume_in kind
      → map first (sids_of v) ≡ map (λ (d : D). faults (meter d)) old → AllZip (IsDiskLeft meter image kind first log) (sids_of cluster) new
      → AreDisksTold (is_honest kind) meter image v log (record { old = old; new = new })
  disks-at {D} meter image first log cluster old new same firsts left =
      subst (λ (u : Volume). AllZip (IsDiskTold (is_honest kind) meter image u log) (zip (sids_of u) old) new) volume-is
      (disks-told meter image kind first log (sids_of (volume_in kind)) old new
      (subst (λ (u : Volume). map first (sids_of u) ≡ map (λ (d : D). faults (meter d)) old) (sym volume-is) firsts)
      (subst (λ (u : Volume). AllZip (IsDiskLeft meter image kind first log) (sids_of u) new) same left))

  module _ {J L : Type 0} (lines : List Line) (ms : List (PoolWorker J L)) (staffed : AllZip (IsPoolWorker kind lines) (map new_pass actors) ms) (admin : PassView) (new : admin ≡ new_pass Admin) (log : List Event) where
    -- what all have done
    pub all-begun : AllByRecursion (member.HasBegun kind log) ms → AreLinesBegun kind lines admin.log log → IsAllBegun (is_honest kind) v lines log
    all-begun begun orders = record {
      workers = subst (λ (u : Volume). AllByRecursion (HasBegun (is_honest kind) u lines log) actors) volume-is (begun-all kind lines log actors ms staffed begun);
      admin = moved (λ u k. AreLinesBegun k lines [] log) (subst (λ (p : PassView). AreLinesBegun kind lines p.log log) new orders);
    }

    pub all-finished : AllByRecursion (member.HasFinished kind log) ms → AreDone kind lines admin.log log → IsAllFinished (is_honest kind) v lines log
    all-finished done orders = record {
      workers = subst (λ (u : Volume). AllByRecursion (HasFinished (is_honest kind) u lines log) actors) volume-is (finished-all kind lines log actors ms staffed done);
      admin = moved (λ u k. AreDone k lines [] log) (subst (λ (p : PassView). AreDone kind lines p.log log) new orders);
    }

-- what was written of it, with the number of its events
pub told-of : (honest ended : Bool) (v : Volume) (lines : List Line) (log : List Event) (sink : Sunk) (status : ℕ) → (ended ≡ true → IsAllFinished honest v lines log) → IsAllBegun honest v lines log
    → ((ended ≡ true) × Ends sink 0 (run_text log (length log)) status) ⊎ Lacks sink status → IsToldOf honest v lines log sink status
told-of honest ended v lines log sink status finished begun (inl ends) = inl (finished ends.0, ends.1)
told-of honest ended v lines log sink status finished begun (inr lacks) = inr (begun, lacks)

-- memory was wanting before the disks were formatted
pub lacking : {D L : Type 0} (tells : Bool) (meter : D → Meter) (image : D → List ℕ → Type 0) (v : Volume) (disks : List D) (links back : List L) (sink : Sunk) (status : ℕ) → length disks ≡ length (nodes_of v.clusters)
    → back ≡ links → Lacks sink status → IsUnplayed tells meter image v (record { old = disks; new = disks }) (record { old = links; new = back }) sink status
lacking tells meter image v disks links back sink status count same lacks = record {
  fault = NoMemory;
  cause = tt;
  told = lacks;
  disks_back = untouched tells meter image v.layout (nodes_of v.clusters) disks count;
  links_back = same;
}
