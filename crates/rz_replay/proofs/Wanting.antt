-- Where memory is wanting before it is known what the words want, nothing is done.
use Rattle.std.proofs.Common.{ℕ, ◌≡◌, List, [], Option, Some, None, IsSome, Err, refl}
use Rattle.rz_request.specs.Line.{Meaning}
use Rattle.rz_disk.specs.declared.disk.Disk.{Ghosts}
use Rattle.rz_events.specs.declared.events.Event.{Event}
use Rattle.rz_request.specs.Requests.{AsksFor, IsUnread, Reading, wished}
use Rattle.rz_request.specs.declared.refusal.Stop.TheVariants.{NoMemory}
use Rattle.rz_request.specs.declared.wishes.Wish.{Wish}
use Rattle.rz_request.specs.declared.wishes.Wish.TheVariants.{Replay, Load, Scrub, First, Again}
use Rattle.rz_report.specs.Output.{Sunk, Lacks}
use Rattle.rz_report.specs.Replays.{Unplayed}
use Rattle.rz_replay.specs.Replays.{Does, Replays, old_node_of}

asked : (w : Option Wish) (m : Option Meaning) (source : Reading) (disks : ℕ) → IsSome m → IsUnread source → AsksFor w m source disks (Err NoMemory)
asked None m source disks some unread = (some, unread)
asked (Some Replay) m source disks some unread = (tt, tt)
asked (Some (Load seed)) m source disks some unread = (tt, tt, unread)
asked (Some Scrub) m source disks some unread = (tt, tt)
asked (Some First) m source disks some unread = (tt, tt)
asked (Some Again) m source disks some unread = (tt, tt)

module _ {D : Type 0} (G : Ghosts D) (words : Option Meaning) (source : Reading) (disks : List D)
    (lost : ℕ) (sink : Sunk) (status : ℕ) (h : List Event) (some : IsSome words) (unread : IsUnread source) (lacks : Lacks sink status) (none : h ≡ []) where
  does : (node : Option ℕ) → Does G node words source disks disks lost sink status h
  does None = (Err NoMemory, Unplayed, asked (wished words) words source _ some unread, (lacks, none, refl), refl)
  does (Some sid) = ((Err NoMemory, (Err NoMemory, tt, (refl, refl)), lacks), none)

  pub wanting : Replays G words source disks disks lost sink status h
  wanting = does (old_node_of words)
