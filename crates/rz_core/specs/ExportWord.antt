-- What the events of the export's word leave at it.
use Rattle.std.specs.Prelude.{ℕ, Bool, true, false, not, ◌==◌, ◌&&◌, ◌||◌, ◌+◌, nat_lt, List, [], ◌∷◌, Option, Some, None, cond}
use Rattle.rz_events.specs.declared.keys.Key.{Key}
use Rattle.rz_events.specs.declared.files.Published.{Published}
use Rattle.rz_events.specs.declared.events.Event.{Event}
use Rattle.rz_events.specs.declared.events.Event.TheVariants as e
use Rattle.rz_events.specs.Events.{same_key}
use Rattle.rz_events.specs.Volume.{Volume}
use Rattle.rz_export_model.specs.Files.{makes, ends}
use Rattle.rz_export_model.specs.Export.{Export, new_export, after_tree, after_begin, after_publish, after_enroll}
use Rattle.rz_core.specs.History.{Facts, length_in}

abbrev pub is_made : List Event → ℕ → Bool
is_made [] fid = false
is_made (e.Meta by call reply ∷ w) fid = makes reply fid || is_made w fid
is_made (_ ∷ w) fid = is_made w fid

abbrev pub is_gone : List Event → ℕ → Bool
is_gone [] fid = false
is_gone (e.Meta by call reply ∷ w) fid = ends reply fid || is_gone w fid
is_gone (_ ∷ w) fid = is_gone w fid

-- a file is live from the reply that makes it until its last name goes
abbrev pub is_live : List Event → ℕ → Bool
is_live w fid = is_made w fid && not (is_gone w fid)

abbrev pub greater : ℕ → ℕ → ℕ
greater a b = cond (nat_lt a b) b a

-- the greatest number drawn, as a stamp or as a fence, or 0
abbrev pub last_drawn : List Event → ℕ
last_drawn [] = 0
last_drawn (e.Begin by key stamp base text ∷ w) = stamp
last_drawn (e.Enroll by node loss fence ∷ w) = greater fence (last_drawn w)
last_drawn (_ ∷ w) = last_drawn w

-- the newest stamp begun on a key, or 0: its write holds the key's lease
abbrev pub latest : List Event → Key → ℕ
latest [] key = 0
latest (e.Begin by at stamp base text ∷ w) key = cond (same_key key at) stamp (latest w key)
latest (_ ∷ w) key = latest w key

-- the fence that was given to a loss of a node
abbrev pub enrolled : List Event → ℕ → ℕ → Option ℕ
enrolled [] n loss = None
enrolled (e.Enroll by m l fence ∷ w) n loss = cond ((n == m) && (loss == l)) (Some fence) (enrolled w n loss)
enrolled (_ ∷ w) n loss = enrolled w n loss

-- that fence, or else a new number
abbrev pub or_new : Option ℕ → ℕ → ℕ
or_new (Some fence) last = fence
or_new None last = last + 1

-- a publish of stamp s takes the place of this one
abbrev pub is_newer : ℕ → Option (ℕ × ℕ) → Bool
is_newer s None = true
is_newer s (Some a) = nat_lt a.0 s

-- the stamp and mask of the accepted publish of a key with the greatest stamp, of the first where several have it
abbrev pub accepted : List Event → Key → Option (ℕ × ℕ)
accepted [] key = None
accepted (e.Publish by at stamp mask None ∷ w) key =
    cond (same_key key at && is_newer stamp (accepted w key)) (Some (stamp, mask)) (accepted w key)
accepted (_ ∷ w) key = accepted w key

-- its stamp, or 0
abbrev pub stamp_in : Option (ℕ × ℕ) → ℕ
stamp_in None = 0
stamp_in (Some a) = a.0

-- with the length of its text
abbrev pub with_length : Facts → Option (ℕ × ℕ) → Option Published
with_length f None = None
with_length f (Some a) = Some (record { stamp = a.0; mask = a.1; length = length_in (f.wrote a.0) })

-- what is published of a key
abbrev pub published : Facts → List Event → Key → Option Published
published f w key = with_length f (accepted w key)

-- The export as it stands after the events of its word: at first the root alone, and then each event's change. The
-- names and the sizes of files, and with them the replies to calls on names, are read of it.
abbrev pub export_of : Volume → Facts → List Event → Export
export_of v f [] = new_export v 0
export_of v f (e.Meta by call reply ∷ w) = after_tree (export_of v f w) call
export_of v f (e.Begin by key stamp base text ∷ w) = after_begin (export_of v f w) key
export_of v f (e.Publish by key stamp mask None ∷ w) =
    after_publish (export_of v f w) key (record { stamp = stamp; mask = mask; length = length_in (f.wrote stamp) })
export_of v f (e.Enroll by node loss fence ∷ w) = after_enroll (export_of v f w) node loss
export_of v f (_ ∷ w) = export_of v f w
