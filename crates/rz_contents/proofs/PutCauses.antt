-- The events of a put, and what they say of its end.
use Rattle.std.proofs.Common.{ℕ, Bool, true, false, ◌≡◌, ◌⊎◌, inl, inr, ◌+◌, ◌-◌, ◌<◌, List, [], ◌∷◌, ◌++◌, Option, Some, None, is_some, cond, refl, sym, ◌∙◌, ap, subst, nat_lt, append_assoc, arith}
use Rattle.std.specs.List.{AllByRecursion}
use Rattle.std.proofs.lemmas.List.{append-nil}
use Rattle.std.specs.Prelude.{slice_set, slice_index}
use Rattle.mj_angles.specs.declared.layout.Layout.{Layout}
use Rattle.mj_angles.specs.Layout.{forward_of, safe_of}
use Rattle.rz_events.specs.Volume.{Volume}
use Rattle.rz_events.specs.declared.keys.Key.{Key}
use Rattle.rz_events.specs.declared.keys.Actor.{Actor}
use Rattle.rz_events.specs.declared.files.FileInfo.{FileInfo}
use Rattle.rz_events.specs.declared.ends.Denial.{Denial}
use Rattle.rz_events.specs.declared.ends.Denial.TheVariants as denial
use Rattle.rz_events.specs.declared.ends.Why.{Why}
use Rattle.rz_events.specs.declared.ends.Why.TheVariants as why
use Rattle.rz_events.specs.declared.ends.WriteEnd.TheVariants as write
use Rattle.rz_events.specs.declared.tree.TreeReply.{TreeReply}
use Rattle.rz_events.specs.declared.tree.TreeReply.TheVariants as tree
use Rattle.rz_events.specs.declared.tree.TreeCall.TheVariants as calls
use Rattle.rz_events.specs.declared.export.Asked.TheVariants as asked
use Rattle.rz_events.specs.declared.export.Call.TheVariants as call
use Rattle.rz_events.specs.declared.machines.WriterAsk.TheVariants as asks
use Rattle.rz_events.specs.declared.export.Reply.{Reply}
use Rattle.rz_events.specs.declared.export.Reply.TheVariants as reply
use Rattle.rz_events.specs.declared.nodes.KeepAnswer.{KeepAnswer}
use Rattle.rz_events.specs.declared.nodes.KeepAnswer.TheVariants as keep
use Rattle.rz_events.specs.declared.nodes.NodeAsk.TheVariants as ask
use Rattle.rz_events.specs.declared.nodes.NodeAnswer.{NodeAnswer}
use Rattle.rz_events.specs.declared.nodes.NodeAnswer.TheVariants as answer
use Rattle.rz_events.specs.declared.records.Head.{Head}
use Rattle.rz_events.specs.declared.events.Event.{Event}
use Rattle.rz_events.specs.declared.events.Event.TheVariants as e
use Rattle.rz_node_model.specs.NodeEvents.{node_event, keep_event}
use Rattle.rz_export_model.specs.ExportEvents.{export_event, begin_event, publish_event}
use Rattle.rz_client_model.specs.declared.writing.WriterState.{WriterState}
use Rattle.rz_client_model.specs.declared.writing.WriteStage.{WriteStage}
use Rattle.rz_client_model.specs.declared.writing.WriteStage.TheVariants as writing
use Rattle.rz_client_model.specs.declared.writing.SentRecords.{SentRecords}
use Rattle.rz_client_model.specs.Write.{mask_of, why_of, is_kept, next_position, after_keep, unless_too_few}
use Rattle.rz_operation_model.specs.Work.{Work, Course, OnBlock, PutBlock, Alone, Opening, Writing, Ending, Over}
use Rattle.rz_operation_model.specs.Ask.{ask_of, head_of, is_part, write_asks}
use Rattle.rz_operation_model.specs.Steps.{Told, Replied, Answered, Missed, told, after_open}
use Rattle.rz_operation_model.specs.Turns.{IsStep, IsNodeStep, Through, ReplyLost, RequestLost}
use Rattle.std.specs.FinMap as maps
use Rattle.std.specs.Option.{option_or, option_map, option_map_or, option_and_then}
use Rattle.rz_events.specs.declared.files.Kind.{Kind}
use Rattle.rz_events.specs.declared.files.Kind.TheVariants as kind
use Rattle.rz_events.specs.declared.tree.TreeFault.{TreeFault}
use Rattle.rz_events.specs.declared.tree.TreeFault.TheVariants as fault
use Rattle.rz_export_model.specs.Firsts.{first_of, given_if}
use Rattle.rz_export_model.specs.Paths.{Path}
use Rattle.rz_export_model.specs.Tree.{Tree, Object, Found, found_at, fid_at, is_dir, is_file, is_link, file_of, file_from, info_of}
use Rattle.rz_export_model.specs.Refusals.{path_in, unreadable, walk, absent, dir, link}
use Rattle.rz_core.specs.History.{facts}
use Rattle.rz_core.specs.ExportWord.{latest, is_live}
use Rattle.rz_core.specs.Own.{is_begin}
use Rattle.rz_core.specs.Legal.{IsLegalInRuns}
use Rattle.rz_core.proofs.NodeSteps.{the_some}
use Rattle.rz_core.proofs.Stamps.{export, same_key-refl}
use Rattle.rz_core.proofs.EnrollLaws.{export-rows}
use Rattle.rz_core.proofs.NameTies.{live-file}
use Rattle.rz_contents.specs.Model.{changes, export_at, IsStill}
use Rattle.rz_contents.specs.Files.{is_word, IsSilentCourse, Begins, Turns, IsFileAt, IsOnBlock}
use Rattle.rz_contents.specs.Causes.{IsWriteDenied, IsWriteCaused, IsPutCaused, ArePutsCaused}
use Rattle.rz_contents.proofs.Putting.{export-step}
use Rattle.rz_contents.proofs.Called.{still-more}
use Rattle.rz_contents.proofs.Opened.{leads_to_block}
use Rattle.rz_contents.proofs.Stillness.{still}

-- Events that change nothing, and begin no write.

abbrev IsPlain : List Event → Type 0
IsPlain xs = AllByRecursion (λ x. (changes x ≡ false) × (is_begin x ≡ false)) xs

plain-more : (ys xs : List Event) → IsPlain ys → IsPlain xs → IsPlain (ys ++ xs)
plain-more [] xs a b = b
plain-more (y ∷ ys) xs a b = (a.0, plain-more ys xs a.1 b)

-- The write began with this stamp, first thing after the open.
pub record HasSent (by : Actor) (key : Key) (stamp : ℕ) (text : List ℕ) (first : Event) (xs : List Event) : Type 0 where
  pub later : List Event
  pub plain : IsPlain later
  pub base : ℕ
  pub xs_is : xs ≡ later ++ (e.Begin by key stamp base text ∷ first ∷ [])

abbrev IsStageTurns : Actor → List ℕ → Event → List Event → Key → WriteStage → Type 0
IsStageTurns by text first xs key writing.Beginning = xs ≡ first ∷ []
IsStageTurns by text first xs key (writing.Sending t) = HasSent by key t.stamp text first xs
IsStageTurns by text first xs key (writing.Ended (write.Denied cause)) =
    (xs ≡ e.Denied by (asked.Begin key) cause ∷ first ∷ [])
    ⊎ ((rest : List Event) × (stamp : ℕ) × (xs ≡ e.Denied by (asked.Publish key) cause ∷ rest) × HasSent by key stamp text first rest)
IsStageTurns by text first xs key (writing.Ended (write.Revoked later)) =
    (rest : List Event) × (stamp : ℕ) × (xs ≡ e.Revoked by key stamp later ∷ rest) × HasSent by key stamp text first rest
IsStageTurns by text first xs key (writing.Ended end) = Unit {0}

abbrev opened_by : Actor → List ℕ → TreeReply → Event
opened_by by path r = e.Meta by (calls.OpenFile path) r

abbrev IsPutTurns : Actor → List ℕ → List ℕ → List Event → Work → Type 0
IsPutTurns by path text xs (Opening p plan) = (p ≡ path) × ((block : ℕ) × (plan ≡ OnBlock (PutBlock block text))) × (xs ≡ [])
IsPutTurns by path text xs (Writing course written s) = (written ≡ text) × ((info : FileInfo) × IsStageTurns by text (opened_by by path (tree.File info)) xs s.key s.stage)
IsPutTurns by path text xs (Ending a) = Unit {0}
IsPutTurns by path text xs Over = Unit {0}
IsPutTurns by path text xs _ = ⊥

after-open : (layout : Layout) (by : Actor) (path : List ℕ) (block : ℕ) (text : List ℕ) (r : TreeReply)
    → IsPutTurns by path text (opened_by by path r ∷ []) (after_open layout (OnBlock (PutBlock block text)) r)
after-open layout by path block text (tree.File info) = (refl, (info, refl))
after-open layout by path block text (tree.Refused f) = tt
after-open layout by path block text _ = tt

open-step : (layout : Layout) (by : Actor) (path : List ℕ) (block : ℕ) (text : List ℕ) (r : Reply) (x : Event) → export_event by (call.Tree (calls.OpenFile path)) r ≡ Some x
    → IsPutTurns by path text (x ∷ []) (told layout (Opening path (OnBlock (PutBlock block text))) (Replied r))
open-step layout by path block text (reply.Tree r) x is =
    subst (λ y. IsPutTurns by path text (y ∷ []) (after_open layout (OnBlock (PutBlock block text)) r)) (the_some _ x is) (after-open layout by path block text r)
open-step layout by path block text (_) x is = cc

module _ (by : Actor) (outer layout : Layout) (course : Course) (key : Key) (places : List ℕ) (size : ℕ) (path text : List ℕ) (info : FileInfo) (xs : List Event) where
  abbrev first : Event
  first = opened_by by path (tree.File info)

  abbrev at : WriteStage → WriterState
  at stage = record { layout = layout; key = key; places = places; length = size; stage = stage }

  abbrev Next : WriteStage → Told → List Event → Type 0
  Next stage t ys = IsPutTurns by path text (ys ++ xs) (told outer (Writing course text (at stage)) t)

  begin-step : xs ≡ first ∷ [] → (s : Reply) (x : Event) → begin_event by (call.Begin key text) s ≡ Some x → Next writing.Beginning (Replied s) (x ∷ [])
  begin-step is (reply.Begun stamp base) x event =
      subst (λ y. Next writing.Beginning (Replied (reply.Begun stamp base)) (y ∷ [])) (the_some _ x event)
      (refl, (info, record { later = []; plain = tt; base = base; xs_is = ap (λ (l : List Event). e.Begin by key stamp base text ∷ l) is }))
  begin-step is (reply.Denied cause) x event =
      subst (λ y. Next writing.Beginning (Replied (reply.Denied cause)) (y ∷ [])) (the_some _ x event)
      (refl, (info, inl (ap (λ (l : List Event). e.Denied by (asked.Begin key) cause ∷ l) is)))
  begin-step is (_) x event = cc

  module _ (t : SentRecords) (sent : HasSent by key t.stamp text first xs) where
    sent-more : (ys : List Event) → IsPlain ys → HasSent by key t.stamp text first (ys ++ xs)
    sent-more ys plain = record {
      later = ys ++ sent.later;
      plain = plain-more ys sent.later plain sent.plain;
      base = sent.base;
      xs_is = ap (λ (l : List Event). ys ++ l) sent.xs_is ∙ sym (append_assoc ys sent.later (e.Begin by key t.stamp sent.base text ∷ first ∷ []));
    }

    few : (ys : List Event) → IsPlain ys → (s : SentRecords) → s.stamp ≡ t.stamp → IsStageTurns by text first (ys ++ xs) key (unless_too_few layout s)
    few ys plain s same = go (nat_lt (safe_of layout - forward_of layout) s.failed)
      where
        go : (b : Bool) → IsStageTurns by text first (ys ++ xs) key (cond b (writing.Ended (write.TooFew s.why)) (writing.Sending s))
        go true = tt
        go false = subst (λ n. HasSent by key n text first (ys ++ xs)) (sym same) (sent-more ys plain)

    kept : (ys : List Event) → IsPlain ys → (w : Why) → IsStageTurns by text first (ys ++ xs) key (after_keep layout t w)
    kept ys plain w = go (is_kept w)
      where
        go : (b : Bool) → IsStageTurns by text first (ys ++ xs) key (cond b
            (writing.Sending (record t { kept = t.kept + 1; why = slice_set t.why (next_position t) w }))
            (unless_too_few layout (record t { failed = t.failed + 1; why = slice_set t.why (next_position t) w })))
        go true = sent-more ys plain
        go false = few ys plain (record t { failed = t.failed + 1; why = slice_set t.why (next_position t) w }) refl

    keep-plain : (node : ℕ) (k : Key) (stamp position : ℕ) (given : KeepAnswer) → IsPlain (keep_event by node k stamp position given ∷ [])
    keep-plain node k stamp position keep.Kept = ((refl, refl), tt)
    keep-plain node k stamp position (keep.Passed held) = ((refl, refl), tt)
    keep-plain node k stamp position keep.Lost = ((refl, refl), tt)
    keep-plain node k stamp position keep.Down = ((refl, refl), tt)
    keep-plain node k stamp position (keep.Fenced fence) = ((refl, refl), tt)
    keep-plain node k stamp position keep.Full = ((refl, refl), tt)
    keep-plain node k stamp position keep.DiskFault = ((refl, refl), tt)

    keep-event : (n : ℕ) (head : Head) (given : NodeAnswer) (x : Event) → node_event by n (ask.Keep head) given ≡ Some x → IsPlain (x ∷ [])
    keep-event n head (answer.Keep given) x is = subst (λ y. IsPlain (y ∷ [])) (the_some _ x is) (keep-plain n head.key head.stamp head.position given)
    keep-event n head (_) x is = cc

    answered : (n : ℕ) (head : Head) (given : NodeAnswer) (x : Event) → node_event by n (ask.Keep head) given ≡ Some x → Next (writing.Sending t) (Answered true given) (x ∷ [])
    answered n head (answer.Keep given) x is = (refl, (info, kept (x ∷ []) (keep-event n head (answer.Keep given) x is) (why_of given)))
    answered n head (_) x is = cc

    keep-step : (n : ℕ) (head : Head) (t' : Told) (ys : List Event) → IsNodeStep by n (ask.Keep head) t' ys → Next (writing.Sending t) t' ys
    keep-step n head t' ys (Through given x is) = answered n head given x is
    keep-step n head t' ys (ReplyLost given x is lossy) = (refl, (info, kept (e.Missed by n true ∷ x ∷ []) ((refl, refl), keep-event n head given x is) why.Missed))
    keep-step n head t' ys (RequestLost lossy) = (refl, (info, kept (e.Missed by n false ∷ []) ((refl, refl), tt) why.Missed))

    publish-step : (size' : ℕ) (s : Reply) (x : Event) → publish_event by (call.Publish key t.stamp (mask_of t.why) size') s ≡ Some x → Next (writing.Sending t) (Replied s) (x ∷ [])
    publish-step size' reply.Accepted x is = (refl, (info, tt))
    publish-step size' (reply.Enrolled position fence) x is =
        subst (λ y. Next (writing.Sending t) (Replied (reply.Enrolled position fence)) (y ∷ [])) (the_some _ x is)
        (refl, (info, few (e.Publish by key t.stamp (mask_of t.why) (Some (position, fence)) ∷ []) ((refl, refl), tt) (record t { kept = t.kept - 1; failed = t.failed + 1; why = slice_set t.why position why.Enrolled }) refl))
    publish-step size' (reply.Revoked later) x is =
        subst (λ y. Next (writing.Sending t) (Replied (reply.Revoked later)) (y ∷ [])) (the_some _ x is) (refl, (info, (xs, t.stamp, refl, sent)))
    publish-step size' (reply.Denied cause) x is =
        subst (λ y. Next (writing.Sending t) (Replied (reply.Denied cause)) (y ∷ [])) (the_some _ x is) (refl, (info, inr (xs, t.stamp, refl, sent)))
    publish-step size' (_) x is = cc

  stage-step : (number : ℕ) (stage : WriteStage) → IsStageTurns by text first xs key stage → is_word (ask_of outer (Writing course text (at stage))) ≡ false → (t' : Told) (ys : List Event)
      → IsStep by number (ask_of outer (Writing course text (at stage))) t' ys → Next stage t' ys
  stage-step number writing.Beginning is quiet t' ys step = export-step by (call.Begin key text) (λ u us. Next writing.Beginning u us) (begin-step is) t' ys step
  stage-step number (writing.Sending t) is quiet t' ys step = go (nat_lt t.kept (forward_of layout)) step
    where
      go : (b : Bool)
          → IsStep by number (write_asks (is_part course) text (at (writing.Sending t)) (cond b (asks.Keep (next_position t) (slice_index places (next_position t)) t.stamp t.base) (asks.Publish t.stamp (mask_of t.why)))) t' ys
          → Next (writing.Sending t) t' ys
      go true step' = keep-step t is (slice_index places (next_position t)) (head_of (at (writing.Sending t)) (next_position t) t.stamp t.base) t' ys step'
      go false step' = export-step by (call.Publish key t.stamp (mask_of t.why) size) (λ u us. Next (writing.Sending t) u us) (publish-step t is size) t' ys step'
  stage-step number (writing.Ended end) is quiet t' ys step = cc

turn : (layout : Layout) (by : Actor) (number : ℕ) (path text : List ℕ) (xs : List Event) (work : Work) → IsPutTurns by path text xs work → is_word (ask_of layout work) ≡ false
    → (t : Told) (ys : List Event) → IsStep by number (ask_of layout work) t ys → IsPutTurns by path text (ys ++ xs) (told layout work t)
turn layout by number path text xs (Opening p plan) is quiet t ys step =
    let block = is.1.0 in
    let here : IsPutTurns by p text ys (told layout (Opening p (OnBlock (PutBlock block text))) t) =
    export-step by (call.Tree (calls.OpenFile p)) (λ u us. IsPutTurns by p text us (told layout (Opening p (OnBlock (PutBlock block text))) u)) (open-step layout by p block text) t ys step in
    let same = subst (λ plan'. IsPutTurns by p text ys (told layout (Opening p plan') t)) (sym is.1.1) here in
    let there : IsPutTurns by path text ys (told layout (Opening p plan) t) = subst (λ (z : List ℕ). IsPutTurns by z text ys (told layout (Opening p plan) t)) is.0 same in
    subst (λ (l : List Event). IsPutTurns by path text l (told layout (Opening p plan) t)) (sym (ap (λ (l : List Event). ys ++ l) is.2 ∙ append-nil ys)) there
turn layout by number path text xs (Writing course written s) is quiet t ys step =
    subst (λ w. is_word (ask_of layout (Writing course w s)) ≡ false → IsStep by number (ask_of layout (Writing course w s)) t ys → IsPutTurns by path text (ys ++ xs) (told layout (Writing course w s) t)) (sym is.0)
    (λ q z. stage-step by layout s.layout course s.key s.places s.length path text is.1.0 xs number s.stage is.1.1 q t ys z) quiet step
turn layout by number path text xs (Ending a) is quiet t ys step = cc
turn layout by number path text xs Over is quiet t ys step = absurd step
turn layout by number path text xs (_) is quiet t ys step = absurd is

puts : (layout : Layout) (by : Actor) (number : ℕ) (path : List ℕ) (block : ℕ) (text : List ℕ) (xs : List Event) (work : Work)
    → IsSilentCourse layout by number (Opening path (OnBlock (PutBlock block text))) xs work → IsPutTurns by path text xs work
puts layout by number path block text xs work (Begins) = (refl, (block, refl), refl)
puts layout by number path block text xs work (Turns before was t ys course quiet step) =
    turn layout by number path text before was (puts layout by number path block text before was course) quiet t ys step

-- The newest begin of the block is the put's own.

latest-plain : (xs w : List Event) (key : Key) → IsPlain xs → latest (export (xs ++ w)) key ≡ latest (export w) key
latest-plain [] w key plain = refl
latest-plain (e.Begin by at stamp base text ∷ xs) w key plain = (let is = plain.0.1 in cc)
latest-plain (_ ∷ xs) w key plain = latest-plain xs w key plain.1

plain-still : (xs : List Event) → IsPlain xs → IsStill xs
plain-still [] plain = tt
plain-still (x ∷ xs) plain = (plain.0.0, plain-still xs plain.1)

-- The file is live.

both-none : (a b : Option TreeFault) → option_or a b ≡ None → (a ≡ None) × (b ≡ None)
both-none None b is = (refl, is)
both-none (Some f) b is = cc

a-file : (k : Kind) → given_if (is_dir k) fault.IsDir ≡ None → given_if (is_link k) fault.IsLink ≡ None → is_file k ≡ true
a-file kind.File d l = refl
a-file kind.Dir d l = cc
a-file kind.Link d l = cc

object-there : (t : Tree) (path : Path) (file : Found) → found_at t path ≡ Some file → maps.get t.objects file.fid ≡ Some file.object
object-there t path file is = go (fid_at t path) is
  where
    inner : (fid : ℕ) (o : Option Object) → maps.get t.objects fid ≡ o → option_map (λ (z : Object). record { fid = fid; object = z }) o ≡ Some file → maps.get t.objects file.fid ≡ Some file.object
    inner fid None there same = cc
    inner fid (Some z) there same =
        let n : fid ≡ file.fid = cc in
        let z-is : z ≡ file.object = cc in
        subst (λ (m : ℕ). maps.get t.objects m ≡ Some file.object) n (there ∙ ap Some z-is)

    go : (m : Option ℕ) → option_and_then (λ fid. option_map (λ (z : Object). record { fid = fid; object = z }) (maps.get t.objects fid)) m ≡ Some file → maps.get t.objects file.fid ≡ Some file.object
    go None same = cc
    go (Some fid) same = inner fid (maps.get t.objects fid) refl same

pub live-file-at : (t : Tree) (path : List ℕ) (file : Found) → IsFileAt t path file → is_some (file_of t file.fid) ≡ true
live-file-at t path file at =
    let p = path_in path in
    let one = both-none (unreadable path) (first_of (walk t p ∷ absent t p ∷ dir t p ∷ link t p ∷ [])) at.opens in
    let two = both-none (walk t p) (first_of (absent t p ∷ dir t p ∷ link t p ∷ [])) one.1 in
    let three = both-none (absent t p) (first_of (dir t p ∷ link t p ∷ [])) two.1 in
    let four = both-none (dir t p) (first_of (link t p ∷ [])) three.1 in
    let five = both-none (link t p) None four.1 in
    let no-dir : given_if (is_dir file.object.kind) fault.IsDir ≡ None =
    sym (ap (λ (m : Option Found). given_if (option_map_or is_dir (option_map (λ (f : Found). f.object.kind) m) false) fault.IsDir) at.there) ∙ four.0 in
    let no-link : given_if (is_link file.object.kind) fault.IsLink ≡ None =
    sym (ap (λ (m : Option Found). given_if (option_map_or is_link (option_map (λ (f : Found). f.object.kind) m) false) fault.IsLink) at.there) ∙ five.0 in
    ap (λ (m : Option Object). is_some (option_and_then (file_from file.fid) m)) (object-there t p file at.there)
    ∙ ap (λ b. is_some (given_if b (info_of (record { fid = file.fid; object = file.object })))) (a-file file.object.kind no-dir no-link)

-- it stays so while nothing changes
pub stays-live : (v : Volume) (xs old : List Event) → IsLegalInRuns v (xs ++ old) → IsStill xs → (fid : ℕ) → is_some (file_of (export_at v old).tree fid) ≡ true → is_live (export (xs ++ old)) fid ≡ true
stays-live v xs old legal quiet fid there =
    sym (live-file v (facts (xs ++ old)) (export (xs ++ old)) (export-rows v (xs ++ old) legal) fid)
    ∙ ap (λ (t : Tree). is_some (file_of t fid)) (still v xs old legal quiet).names ∙ there

-- What the export's row says of a denial and of a revocation.

module _ (v : Volume) (old xs : List Event) (by : Actor) (path text : List ℕ) (info : FileInfo) (legal : IsLegalInRuns v (xs ++ old)) (key : Key)
    (there : is_some (file_of (export_at v old).tree key.fid) ≡ true) where
  abbrev start : Event
  start = opened_by by path (tree.File info)

  module _ (stamp : ℕ) (rest : List Event) (sent : HasSent by key stamp text start rest) where
    abbrev begin : Event
    begin = e.Begin by key stamp sent.base text

    whole : rest ++ old ≡ sent.later ++ (begin ∷ start ∷ old)
    whole = ap (λ (l : List Event). l ++ old) sent.xs_is ∙ append_assoc sent.later (begin ∷ start ∷ []) old

    latest-own : latest (export (rest ++ old)) key ≡ stamp
    latest-own =
        ap (λ (l : List Event). latest (export l) key) whole
        ∙ latest-plain sent.later (begin ∷ start ∷ old) key sent.plain
        ∙ ap (λ b. cond b stamp (latest (export (start ∷ old)) key)) (same_key-refl key)

    live-own : IsLegalInRuns v (rest ++ old) → is_live (export (rest ++ old)) key.fid ≡ true
    live-own so =
        stays-live v rest old so
        (subst IsStill (sym sent.xs_is) (still-more sent.later (begin ∷ start ∷ []) (plain-still sent.later sent.plain) (refl, (refl, tt)))) key.fid there

  -- the put is not overtaken
  not-revoked : (later : ℕ) → (rest : List Event) × (stamp : ℕ) × (xs ≡ e.Revoked by key stamp later ∷ rest) × HasSent by key stamp text start rest → ⊥
  not-revoked later so =
      let rest = so.0 in
      let stamp = so.1 in
      let here : IsLegalInRuns v (e.Revoked by key stamp later ∷ rest ++ old) = subst (λ (l : List Event). IsLegalInRuns v (l ++ old)) so.2 legal in
      let row = here.1.row in
      let same : later ≡ stamp = row.later_is ∙ latest-own stamp rest so.3 in
      let above : stamp < later = row.above in
      omega (arith, same, above)

  -- a begin is denied for a block past the end, or where the last number was drawn
  denied-begin : (cause : Denial) → xs ≡ e.Denied by (asked.Begin key) cause ∷ start ∷ [] → IsWriteDenied old key cause
  denied-begin denial.BlockTooFar is =
      let here : IsLegalInRuns v (e.Denied by (asked.Begin key) denial.BlockTooFar ∷ start ∷ old) = subst (λ (l : List Event). IsLegalInRuns v (l ++ old)) is legal in
      here.1.row.1
  denied-begin denial.StampsSpent is =
      let here : IsLegalInRuns v (e.Denied by (asked.Begin key) denial.StampsSpent ∷ start ∷ old) = subst (λ (l : List Event). IsLegalInRuns v (l ++ old)) is legal in
      here.1.row.0
  denied-begin denial.UnknownFile is =
      let here : IsLegalInRuns v (e.Denied by (asked.Begin key) denial.UnknownFile ∷ start ∷ old) = subst (λ (l : List Event). IsLegalInRuns v (l ++ old)) is legal in
      let dead : is_live (export (start ∷ old)) key.fid ≡ false = here.1.row in
      let live : is_live (export (start ∷ old)) key.fid ≡ true = stays-live v (start ∷ []) old here.0 (refl, tt) key.fid there in
      absurd cc
  denied-begin (denial.OldLoss kept) is =
      let here : IsLegalInRuns v (e.Denied by (asked.Begin key) (denial.OldLoss kept) ∷ start ∷ old) = subst (λ (l : List Event). IsLegalInRuns v (l ++ old)) is legal in
      here.1.row

  -- a publish is not denied
  not-denied : (cause : Denial) → (rest : List Event) × (stamp : ℕ) × (xs ≡ e.Denied by (asked.Publish key) cause ∷ rest) × HasSent by key stamp text start rest → ⊥
  not-denied denial.UnknownFile so =
      let here : IsLegalInRuns v (e.Denied by (asked.Publish key) denial.UnknownFile ∷ so.0 ++ old) = subst (λ (l : List Event). IsLegalInRuns v (l ++ old)) so.2 legal in
      let dead : is_live (export (so.0 ++ old)) key.fid ≡ false = here.1.row in
      let live = live-own so.1 so.0 so.3 here.0 in
      cc
  not-denied denial.BlockTooFar so =
      let here : IsLegalInRuns v (e.Denied by (asked.Publish key) denial.BlockTooFar ∷ so.0 ++ old) = subst (λ (l : List Event). IsLegalInRuns v (l ++ old)) so.2 legal in
      here.1.row
  not-denied denial.StampsSpent so =
      let here : IsLegalInRuns v (e.Denied by (asked.Publish key) denial.StampsSpent ∷ so.0 ++ old) = subst (λ (l : List Event). IsLegalInRuns v (l ++ old)) so.2 legal in
      here.1.row
  not-denied (denial.OldLoss kept) so =
      let here : IsLegalInRuns v (e.Denied by (asked.Publish key) (denial.OldLoss kept) ∷ so.0 ++ old) = subst (λ (l : List Event). IsLegalInRuns v (l ++ old)) so.2 legal in
      here.1.row

  stage-caused : (stage : WriteStage) → IsStageTurns by text start xs key stage → IsWriteCaused old key stage
  stage-caused (writing.Ended (write.Denied cause)) (inl is) = denied-begin cause is
  stage-caused (writing.Ended (write.Denied cause)) (inr so) = absurd (not-denied cause so)
  stage-caused (writing.Ended (write.Revoked later)) so = not-revoked later so
  stage-caused (writing.Ended (write.Acked stamp mask)) so = tt
  stage-caused (writing.Ended (write.TooFew causes)) so = tt
  stage-caused writing.Beginning so = tt
  stage-caused (writing.Sending t) so = tt

caused : (v : Volume) (old xs : List Event) (by : Actor) (path : List ℕ) (block : ℕ) (text : List ℕ) (work : Work) → IsLegalInRuns v (xs ++ old) → IsOnBlock (export_at v old).tree path block work
    → IsPutTurns by path text xs work → IsPutCaused old work
caused v old xs by path block text (Writing course written s) legal on is =
    let at = on.1 in
    let there : is_some (file_of (export_at v old).tree s.key.fid) ≡ true =
    subst (λ (k : Key). is_some (file_of (export_at v old).tree k.fid) ≡ true) (sym at.key_is) (live-file-at (export_at v old).tree path at.file at.at) in
    stage-caused v old xs by path text is.1.0 legal s.key there s.stage is.1.1
caused v old xs by path block text work legal on is = tt

pub puts_caused : (v : Volume) → ArePutsCaused v
puts_caused v old xs by number path block text work legal course =
    caused v old xs by path block text work legal (leads_to_block v old xs by number path (PutBlock block text) work legal course)
    (puts v.layout by number path block text xs work course)
