-- What updates and views promise, in a play that goes on after an earlier log. A history has the newest event first; `old` is
-- the earlier log, and `run` has the events of this run, which stand before it.
use Rattle.std.specs.Prelude.{ℕ, true, min, map, cond, ◌≡◌, ◌<◌, ◌+◌, ◌-◌, ◌*◌, ◌/◌, ◌%◌, List, [], ◌∷◌, ◌++◌, Option, Some, None, take, drop, get_or}
use Rattle.std.specs.List.{range_with_len}
use Rattle.mj_angles.specs.declared.layout.Layout.{Layout}
use Rattle.mj_angles.specs.Layout.{block_bytes_of}
use Rattle.rz_events.specs.declared.keys.Actor.{Actor}
use Rattle.rz_events.specs.declared.keys.Key.{Key}
use Rattle.rz_events.specs.declared.files.FileInfo.{FileInfo}
use Rattle.rz_events.specs.declared.tree.TreeCall.TheVariants as tree
use Rattle.rz_events.specs.declared.tree.TreeReply.TheVariants as reply
use Rattle.rz_events.specs.declared.ends.ReadEnd.TheVariants as read
use Rattle.rz_events.specs.declared.events.Answer.{Answer}
use Rattle.rz_events.specs.declared.events.Answer.TheVariants as answers
use Rattle.rz_events.specs.declared.events.Word.TheVariants.{Export}
use Rattle.rz_events.specs.declared.events.Event.{Event}
use Rattle.rz_events.specs.declared.events.Event.TheVariants as e
use Rattle.rz_events.specs.Events.{same_actor, same_key}
use Rattle.rz_core.specs.History.{Facts, facts, of_actor, of_word, text_in}
use Rattle.rz_core.specs.ExportWord.{accepted}
use Rattle.rz_events.specs.declared.operations.Operation.{Operation}
use Rattle.rz_events.specs.declared.operations.Operation.TheVariants as operation
use Rattle.rz_operation_model.specs.Ranges.{bytes_of, patched}
use Rattle.rz_play_locks.specs.Operations.{in_hand, IsGuarded}

-- the text of what is published, or nothing
abbrev pub text_of : Facts → Option (ℕ × ℕ) → List ℕ
text_of f None = []
text_of f (Some a) = text_in (f.wrote a.0)

-- the text that is published of a key after a history
abbrev pub published_text : List Event → Key → List ℕ
published_text h key = text_of (facts h) (accepted (of_word Export h) key)

-- the text of the newest accepted publish of the key, or nothing; in a legal log it is the published one
abbrev pub newest_text : Facts → List Event → Key → List ℕ
newest_text f [] key = []
newest_text f (e.Publish by at stamp mask None ∷ h) key = cond (same_key key at) (text_in (f.wrote stamp)) (newest_text f h key)
newest_text f (_ ∷ h) key = newest_text f h key

-- No lost update.

-- where in a block the bytes from `offset` on begin, and those of them that lie in it
abbrev pub start_at : Layout → (offset block : ℕ) → ℕ
start_at layout offset block = offset - block * block_bytes_of layout

abbrev pub bytes_at : Layout → (offset block : ℕ) → List ℕ → List ℕ
bytes_at layout offset block bytes =
    take (block_bytes_of layout - start_at layout offset block) (drop (block * block_bytes_of layout - offset) bytes)

-- the text of a block with those bytes in place, and with zeros before them where it is shorter
abbrev pub with_bytes : Layout → (offset block : ℕ) → (bytes text : List ℕ) → List ℕ
with_bytes layout offset block bytes text = patched (start_at layout offset block) (bytes_at layout offset block bytes) text

-- the new text is the old one with the bytes of this update in place
abbrev pub IsUpdated : Layout → Option Operation → ℕ → List ℕ → List ℕ → Type 0
IsUpdated layout (Some (operation.Update path offset datum)) block old new = new ≡ with_bytes layout offset block (bytes_of datum) old
IsUpdated layout _ block old new = ⊥

-- Each accepted publish of the key is of the text that was published before it, or of the empty one, with the bytes of its
-- own update in place.
abbrev pub NoneLost : Layout → (Actor → List Operation) → Key → (old run : List Event) → Type 0
NoneLost layout ops key old [] = Unit {0}
NoneLost layout ops key old (e.Publish by at stamp mask None ∷ run) = NoneLost layout ops key old run
    × (same_key key at ≡ true
    → IsUpdated layout (in_hand (ops by) (of_actor by run)) key.block (published_text (run ++ old) key) (text_in ((facts (run ++ old)).wrote stamp)))
NoneLost layout ops key old (_ ∷ run) = NoneLost layout ops key old run

-- Whole view.

-- the file as the actor's newest open told it, with the log before that open
abbrev pub last_open : Actor → (old run : List Event) → Option (FileInfo × List Event)
last_open a old [] = None
last_open a old (e.Meta by (tree.OpenFile path) (reply.File info) ∷ run) = cond (same_actor a by) (Some (info, run ++ old)) (last_open a old run)
last_open a old (_ ∷ run) = last_open a old run

-- the byte of a file at a place, by the texts of its blocks, with zeros past each
abbrev pub byte_at : Layout → (ℕ → List ℕ) → ℕ → ℕ
byte_at layout texts place = get_or (texts (place / block_bytes_of layout)) (place % block_bytes_of layout) 0

abbrev pub file_bytes : Layout → (ℕ → List ℕ) → (offset size : ℕ) → List ℕ
file_bytes layout texts offset size = map (byte_at layout texts) (range_with_len offset size)

abbrev pub key_at : FileInfo → ℕ → Key
key_at info block = record { fid = info.fid; block = block }

-- each block that the bytes touch is guarded
abbrev pub AllGuarded : Layout → (Actor → List Operation) → List Event → FileInfo → (offset size : ℕ) → Type 0
AllGuarded layout ops run info offset size =
    (i : ℕ) → i < size → IsGuarded ops (key_at info ((offset + i) / block_bytes_of layout)) run

-- a view of so many bytes of a file, which was open after `h`, gave this answer
abbrev pub IsViewWhole : Layout → FileInfo → List Event → (offset size : ℕ) → Answer → Type 0
IsViewWhole layout info h offset size (answers.Read bytes) = bytes ≡ file_bytes layout (λ block. published_text h (key_at info block)) offset size
IsViewWhole layout info h offset size (answers.ShortRead done (read.Moved was now)) = ⊥
IsViewWhole layout info h offset size _ = Unit {0}

abbrev pub IsViewedAt : Layout → (Actor → List Operation) → List Event → (offset count : ℕ) → Option (FileInfo × List Event) → Answer → Type 0
IsViewedAt layout ops run offset count None answer = Unit {0}
IsViewedAt layout ops run offset count (Some opened) answer =
    let size = min count (opened.0.size - offset) in
    AllGuarded layout ops run opened.0 offset size → IsViewWhole layout opened.0 opened.1 offset size answer

abbrev pub IsViewed : Layout → (Actor → List Operation) → List Event → Option Operation → Option (FileInfo × List Event) → Answer → Type 0
IsViewed layout ops run (Some (operation.View path offset count)) opened answer = IsViewedAt layout ops run offset count opened answer
IsViewed layout ops run _ opened answer = Unit {0}

-- Each view whose blocks are guarded, and that answers, gives what was published at its last open. It never moved.
abbrev pub AreWhole : Layout → (Actor → List Operation) → (old run : List Event) → Type 0
AreWhole layout ops old [] = Unit {0}
AreWhole layout ops old (e.Done by number answer ∷ run) =
    AreWhole layout ops old run × IsViewed layout ops run (in_hand (ops by) (of_actor by run)) (last_open by old run) answer
AreWhole layout ops old (_ ∷ run) = AreWhole layout ops old run
