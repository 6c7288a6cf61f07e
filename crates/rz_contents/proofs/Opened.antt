-- The first call of an operation on a block, which opens its file.
use Rattle.std.proofs.Common.{ℕ, Bool, true, false, ◌≡◌, List, [], ◌∷◌, ◌++◌, Option, Some, None, refl, sym, ◌∙◌, ap, subst, append_assoc}
use Rattle.std.proofs.lemmas.List.{append-nil}
use Rattle.std.specs.Prelude.{is_none}
use Rattle.std.specs.Option.{option_map_or, option_or}
use Rattle.mj_angles.specs.declared.layout.Layout.{Layout}
use Rattle.rz_events.specs.Volume.{Volume}
use Rattle.rz_events.specs.declared.keys.Key.{Key}
use Rattle.rz_events.specs.declared.keys.Actor.{Actor}
use Rattle.rz_events.specs.declared.files.FileInfo.{FileInfo}
use Rattle.rz_events.specs.declared.ends.ReadMark.{ReadMark}
use Rattle.rz_events.specs.declared.ends.WriteEnd.{WriteEnd}
use Rattle.rz_events.specs.declared.tree.TreeReply.{TreeReply}
use Rattle.rz_events.specs.declared.tree.TreeReply.TheVariants as tree
use Rattle.rz_events.specs.declared.tree.TreeFault.{TreeFault}
use Rattle.rz_events.specs.declared.tree.TreeFault.TheVariants as fault
use Rattle.rz_events.specs.declared.tree.TreeCall.{TreeCall}
use Rattle.rz_events.specs.declared.tree.TreeCall.TheVariants as calls
use Rattle.rz_events.specs.declared.export.Call.TheVariants as call
use Rattle.rz_events.specs.declared.export.Reply.{Reply}
use Rattle.rz_events.specs.declared.export.Reply.TheVariants as reply
use Rattle.rz_events.specs.declared.nodes.NodeAsk.{NodeAsk}
use Rattle.rz_events.specs.declared.nodes.NodeAnswer.{NodeAnswer}
use Rattle.rz_events.specs.declared.nodes.NodeAnswer.TheVariants as answer
use Rattle.rz_events.specs.declared.events.Answer.{Answer}
use Rattle.rz_events.specs.declared.events.Answer.TheVariants as answers
use Rattle.rz_events.specs.declared.events.Event.{Event}
use Rattle.rz_events.specs.declared.events.Event.TheVariants as e
use Rattle.rz_export_model.specs.ExportEvents.{export_event}
use Rattle.rz_export_model.specs.Tree.{Tree, Found, found_at, info_of}
use Rattle.rz_export_model.specs.Firsts.{first_of, given_if}
use Rattle.rz_export_model.specs.Refusals.{path_in, refusal, unreadable, walk, dir, link}
use Rattle.rz_client_model.specs.declared.reading.ReaderState.{ReaderState}
use Rattle.rz_client_model.specs.declared.writing.WriterState.{WriterState}
use Rattle.rz_client_model.specs.Read.{reader_end}
use Rattle.rz_client_model.specs.Write.{writer_end}
use Rattle.rz_operation_model.specs.Work.{Work, BlockPlan, PutBlock, GetBlock, Plan, OnBlock, Course, Alone, Opening, Writing, Reading, Ending, Over}
use Rattle.rz_operation_model.specs.Ask.{Ask, AskExport, AskNode, AskLock, Say, Rest, ask_of}
use Rattle.rz_operation_model.specs.Steps.{Told, Replied, Locked, Answered, Missed, Noted, told, after_open, key_of, reader_after, writer_after}
use Rattle.rz_operation_model.specs.Turns.{IsStep, IsNodeStep, Through, ReplyLost, RequestLost}
use Rattle.rz_core.specs.ExportRows.{names_reply}
use Rattle.rz_core.specs.Legal.{IsLegalInRuns}
use Rattle.rz_core.proofs.NodeSteps.{the_some}
use Rattle.rz_contents.specs.Model.{export_at}
use Rattle.rz_contents.specs.Putting.{IsCourseFrom, Starts, Goes}
use Rattle.rz_contents.specs.Files.{is_word, IsSilentCourse, Begins, Turns, IsFileAt, key_in, IsBlockAt, block_in, IsOpenRefused, IsOnBlock, LeadsToBlock}
use Rattle.rz_contents.proofs.Putting.{export-step}
use Rattle.rz_contents.proofs.Stillness.{names}

-- Events of a put or of a get: the first of them is that of the open.

pub record HasOpened (by : Actor) (path : List ℕ) (answer : TreeReply) (xs : List Event) : Type 0 where
  pub later : List Event
  pub xs_is : xs ≡ later ++ (e.Meta by (calls.OpenFile path) answer ∷ [])

-- a reply to an open
abbrev pub is_opened : TreeReply → Bool
is_opened (tree.File info) = true
is_opened (tree.Refused f) = true
is_opened r = false

abbrev pub Aims : Actor → List ℕ → ℕ → List Event → Course → Key → Type 0
Aims by path block xs course key = (course ≡ Alone) × ((info : FileInfo) × HasOpened by path (tree.File info) xs × (key ≡ key_of info block))

abbrev pub IsOpening : Actor → List ℕ → BlockPlan → List Event → Work → Type 0
IsOpening by path plan xs (Opening p q) = (p ≡ path) × (q ≡ OnBlock plan) × (xs ≡ [])
IsOpening by path plan xs (Writing course text s) = Aims by path (block_in plan) xs course s.key
IsOpening by path plan xs (Reading course s) = Aims by path (block_in plan) xs course s.key
IsOpening by path plan xs (Ending a) = (f : TreeFault) × HasOpened by path (tree.Refused f) xs × (a ≡ answers.Refused f)
IsOpening by path plan xs Over = (r : TreeReply) × HasOpened by path r xs × (is_opened r ≡ false)
IsOpening by path plan xs _ = ⊥

opened-more : (by : Actor) (path : List ℕ) (r : TreeReply) (ys xs : List Event) → HasOpened by path r xs → HasOpened by path r (ys ++ xs)
opened-more by path r ys xs o = record {
  later = ys ++ o.later;
  xs_is = ap (λ (l : List Event). ys ++ l) o.xs_is ∙ sym (append_assoc ys o.later (e.Meta by (calls.OpenFile path) r ∷ []));
}

aims-more : (by : Actor) (path : List ℕ) (block : ℕ) (ys xs : List Event) (course : Course) (key now : Key) → now ≡ key → Aims by path block xs course key → Aims by path block (ys ++ xs) course now
aims-more by path block ys xs course key now same a = (a.0, (a.1.0, opened-more by path (tree.File a.1.0) ys xs a.1.1, same ∙ a.1.2))

-- The open.

after-open : (layout : Layout) (by : Actor) (path : List ℕ) (plan : BlockPlan) (r : TreeReply) → IsOpening by path plan (e.Meta by (calls.OpenFile path) r ∷ []) (after_open layout (OnBlock plan) r)
after-open layout by path (PutBlock block text) (tree.File info) = (refl, (info, record { later = []; xs_is = refl }, refl))
after-open layout by path (GetBlock block) (tree.File info) = (refl, (info, record { later = []; xs_is = refl }, refl))
after-open layout by path plan (tree.Refused f) = (f, record { later = []; xs_is = refl }, refl)
after-open layout by path plan r = (r, record { later = []; xs_is = refl }, refl)

open-step : (layout : Layout) (by : Actor) (path : List ℕ) (plan : BlockPlan) (r : Reply) (x : Event) → export_event by (call.Tree (calls.OpenFile path)) r ≡ Some x
    → IsOpening by path plan (x ∷ []) (told layout (Opening path (OnBlock plan)) (Replied r))
open-step layout by path plan (reply.Tree r) x is =
    subst (λ y. IsOpening by path plan (y ∷ []) (after_open layout (OnBlock plan) r)) (the_some _ x is) (after-open layout by path plan r)
open-step layout by path plan (_) x is = cc

-- The block in hand stays.

-- a node's answer is no word
not-noted : (by : Actor) (n : ℕ) (q : NodeAsk) (t : Told) (ys : List Event) → IsNodeStep by n q t ys → (found : List ℕ) → t ≡ Noted found → ⊥
not-noted by n q t ys (Through given x is) found same = cc
not-noted by n q t ys (ReplyLost given x is lossy) found same = cc
not-noted by n q t ys (RequestLost lossy) found same = cc

writer-key : (s : WriterState) (t : Told) → (writer_after s t).key ≡ s.key
writer-key s (Replied (reply.Begun stamp base)) = refl
writer-key s (Replied (reply.Denied why)) = refl
writer-key s (Replied reply.Accepted) = refl
writer-key s (Replied (reply.Enrolled position fence)) = refl
writer-key s (Replied (reply.Revoked later)) = refl
writer-key s (Replied _) = refl
writer-key s (Answered fits (answer.Keep given)) = refl
writer-key s (Answered fits _) = refl
writer-key s Missed = refl
writer-key s _ = refl

reader-key : (s : ReaderState) (t : Told) → (reader_after s t).key ≡ s.key
reader-key s (Replied (reply.Looked p)) = refl
reader-key s (Replied (reply.Denied why)) = refl
reader-key s (Replied _) = refl
reader-key s (Answered fits (answer.Fetch given)) = refl
reader-key s (Answered fits _) = refl
reader-key s Missed = refl
reader-key s _ = refl

module _ (layout : Layout) (by : Actor) (number : ℕ) (path : List ℕ) (plan : BlockPlan) (ys xs : List Event) where
  -- a word that is not said is not noted
  said-none : (asked : Ask) (found : List ℕ) → is_word asked ≡ false → IsStep by number asked (Noted found) ys → ⊥
  said-none (AskExport c) found quiet step = (let is = step.2 in cc)
  said-none (AskNode n q) found quiet step = not-noted by n q (Noted found) ys step found refl
  said-none (AskLock p exclusive from count) found quiet step = (let is = step.3 in cc)
  said-none (Say said) found quiet step = cc
  said-none Rest found quiet step = step

  writes : (course : Course) (text : List ℕ) (s : WriterState) (t : Told) → is_word (ask_of layout (Writing course text s)) ≡ false → IsStep by number (ask_of layout (Writing course text s)) t ys
      → Aims by path (block_in plan) xs course s.key → IsOpening by path plan (ys ++ xs) (told layout (Writing course text s) t)
  writes course text s (Noted found) quiet step a = absurd (said-none (ask_of layout (Writing course text s)) found quiet step)
  writes course text s t quiet step a = aims-more by path (block_in plan) ys xs course s.key (writer_after s t).key (writer-key s t) a

  reads : (course : Course) (s : ReaderState) (t : Told) → is_word (ask_of layout (Reading course s)) ≡ false → IsStep by number (ask_of layout (Reading course s)) t ys
      → Aims by path (block_in plan) xs course s.key → IsOpening by path plan (ys ++ xs) (told layout (Reading course s) t)
  reads course s (Noted found) quiet step a = absurd (said-none (ask_of layout (Reading course s)) found quiet step)
  reads course s t quiet step a = aims-more by path (block_in plan) ys xs course s.key (reader_after s t).key (reader-key s t) a

turn : (layout : Layout) (by : Actor) (number : ℕ) (path : List ℕ) (plan : BlockPlan) (xs : List Event) (work : Work) → IsOpening by path plan xs work → is_word (ask_of layout work) ≡ false
    → (t : Told) (ys : List Event) → IsStep by number (ask_of layout work) t ys → IsOpening by path plan (ys ++ xs) (told layout work t)
turn layout by number path plan xs (Opening p q) is quiet t ys step =
    let first : IsOpening by p plan ys (told layout (Opening p (OnBlock plan)) t) =
    export-step by (call.Tree (calls.OpenFile p)) (λ u us. IsOpening by p plan us (told layout (Opening p (OnBlock plan)) u)) (open-step layout by p plan) t ys step in
    let same : IsOpening by p plan ys (told layout (Opening p q) t) = subst (λ (z : Plan). IsOpening by p plan ys (told layout (Opening p z) t)) (sym is.1) first in
    let there : IsOpening by path plan ys (told layout (Opening p q) t) = subst (λ (z : List ℕ). IsOpening by z plan ys (told layout (Opening p q) t)) is.0 same in
    subst (λ (l : List Event). IsOpening by path plan l (told layout (Opening p q) t)) (sym (ap (λ (l : List Event). ys ++ l) is.2 ∙ append-nil ys)) there
turn layout by number path plan xs (Writing course text s) is quiet t ys step = writes layout by number path plan ys xs course text s t quiet step is
turn layout by number path plan xs (Reading course s) is quiet t ys step = reads layout by number path plan ys xs course s t quiet step is
turn layout by number path plan xs (Ending a) is quiet t ys step = cc
turn layout by number path plan xs Over is quiet t ys step = absurd step
turn layout by number path plan xs (_) is quiet t ys step = absurd is

pub opening : (layout : Layout) (by : Actor) (number : ℕ) (path : List ℕ) (plan : BlockPlan) (xs : List Event) (work : Work)
    → IsSilentCourse layout by number (Opening path (OnBlock plan)) xs work → IsOpening by path plan xs work
opening layout by number path plan xs work (Begins) = (refl, refl, refl)
opening layout by number path plan xs work (Turns before was t ys course quiet step) =
    turn layout by number path plan before was (opening layout by number path plan before was course) quiet t ys step

-- it is a course in which words may be said too
pub loud : (layout : Layout) (by : Actor) (number : ℕ) (first : Work) (xs : List Event) (work : Work) → IsSilentCourse layout by number first xs work → IsCourseFrom layout by number first xs work
loud layout by number first xs work (Begins) = Starts
loud layout by number first xs work (Turns before was t ys course quiet step) = Goes before was t ys (loud layout by number first before was course) step

-- What the names answered.

pub earlier-legal : (v : Volume) (xs h : List Event) → IsLegalInRuns v (xs ++ h) → IsLegalInRuns v h
earlier-legal v [] h legal = legal
earlier-legal v (x ∷ xs) h legal = earlier-legal v xs h legal.0

pub first-legal : (v : Volume) (later : List Event) (x : Event) (old xs : List Event) → xs ≡ later ++ (x ∷ []) → IsLegalInRuns v (xs ++ old) → IsLegalInRuns v (x ∷ old)
first-legal v later x old xs is legal =
    earlier-legal v later (x ∷ old) (subst (IsLegalInRuns v) (ap (λ (l : List Event). l ++ old) is ∙ append_assoc later (x ∷ []) old) legal)

answered : (v : Volume) (old : List Event) (by : Actor) (path : List ℕ) (r : TreeReply) (xs : List Event) → IsLegalInRuns v (xs ++ old) → HasOpened by path r xs
    → r ≡ names_reply (export_at v old) (calls.OpenFile path)
answered v old by path r xs legal o =
    let x : Event = e.Meta by (calls.OpenFile path) r in
    (names v x old (first-legal v o.later x old xs o.xs_is legal)).1

-- an open that is not refused finds something
never : (a b : Option TreeFault) (f : TreeFault) (rest : Option TreeFault) → option_or a (option_or b (option_or (Some f) rest)) ≡ None → ⊥
never None None f rest is = cc
never None (Some b) f rest is = cc
never (Some a) b f rest is = cc

there-is : (t : Tree) (path : List ℕ) → found_at t (path_in path) ≡ None → refusal t (calls.OpenFile path) ≡ None → ⊥
there-is t path none opens =
    never (unreadable path) (walk t (path_in path)) fault.NoEntry (first_of (dir t (path_in path) ∷ link t (path_in path) ∷ []))
    (sym (ap (λ (m : Option Found). first_of (unreadable path ∷ walk t (path_in path) ∷ given_if (is_none m) fault.NoEntry ∷ dir t (path_in path) ∷ link t (path_in path) ∷ [])) none) ∙ opens)

abbrev open_reply : Option TreeFault → Option Found → TreeReply
open_reply refused found = option_map_or tree.Refused refused (option_map_or (λ f. tree.File (info_of f)) found (tree.Refused fault.NoEntry))

file-opened : (t : Tree) (path : List ℕ) (info : FileInfo) (refused : Option TreeFault) (found : Option Found) → refusal t (calls.OpenFile path) ≡ refused → found_at t (path_in path) ≡ found
    → tree.File info ≡ open_reply refused found → (file : Found) × IsFileAt t path file × (info.fid ≡ file.fid)
file-opened t path info (Some f) found opens there is = cc
file-opened t path info None None opens there is = cc
file-opened t path info None (Some file) opens there is = (file, record { there = there; opens = opens }, (let same : info ≡ info_of file = cc in ap (λ (i : FileInfo). i.fid) same))

opens-refused : (t : Tree) (path : List ℕ) (f : TreeFault) (refused : Option TreeFault) (found : Option Found) → refusal t (calls.OpenFile path) ≡ refused → found_at t (path_in path) ≡ found
    → tree.Refused f ≡ open_reply refused found → refused ≡ Some f
opens-refused t path f (Some g) found opens there is = (let same : f ≡ g = cc in ap Some (sym same))
opens-refused t path f None None opens there is = absurd (there-is t path there opens)
opens-refused t path f None (Some file) opens there is = cc

module _ (v : Volume) (old xs : List Event) (by : Actor) (path : List ℕ) (legal : IsLegalInRuns v (xs ++ old)) where
  abbrev t : Tree
  t = (export_at v old).tree

  aimed : (block : ℕ) (course : Course) (key : Key) → Aims by path block xs course key → (course ≡ Alone) × IsBlockAt t path block key
  aimed block course key a =
      let info = a.1.0 in
      let o = file-opened t path info (refusal t (calls.OpenFile path)) (found_at t (path_in path)) refl refl (answered v old by path (tree.File info) xs legal a.1.1) in
      (a.0, record { file = o.0; at = o.1; key_is = a.1.2 ∙ ap (λ (n : ℕ). record { fid = n; block = block }) o.2 })

  refused : (a : Answer) → (f : TreeFault) × HasOpened by path (tree.Refused f) xs × (a ≡ answers.Refused f) → IsOpenRefused t path a
  refused a is =
      subst (IsOpenRefused t path) (sym is.2)
      (opens-refused t path is.0 (refusal t (calls.OpenFile path)) (found_at t (path_in path)) refl refl (answered v old by path (tree.Refused is.0) xs legal is.1))

  -- nothing else answers an open
  strange : (r : TreeReply) → HasOpened by path r xs → is_opened r ≡ false → ⊥
  strange r o odd = go (refusal t (calls.OpenFile path)) (found_at t (path_in path)) (answered v old by path r xs legal o)
    where
      go : (refused : Option TreeFault) (found : Option Found) → r ≡ open_reply refused found → ⊥
      go (Some f) found is = (let no : is_opened (tree.Refused f) ≡ false = subst (λ (z : TreeReply). is_opened z ≡ false) is odd in cc)
      go None None is = (let no : is_opened (tree.Refused fault.NoEntry) ≡ false = subst (λ (z : TreeReply). is_opened z ≡ false) is odd in cc)
      go None (Some file) is = (let no : is_opened (tree.File (info_of file)) ≡ false = subst (λ (z : TreeReply). is_opened z ≡ false) is odd in cc)

  on-block : (plan : BlockPlan) (work : Work) → IsOpening by path plan xs work → IsOnBlock t path (block_in plan) work
  on-block plan (Writing course text s) is = aimed (block_in plan) course s.key is
  on-block plan (Reading course s) is = aimed (block_in plan) course s.key is
  on-block plan (Ending a) is = refused a is
  on-block plan (Opening p q) is = tt
  on-block plan Over is = strange is.0 is.1 is.2
  on-block plan (_) is = absurd is

pub leads_to_block : (v : Volume) → LeadsToBlock v
leads_to_block v old xs by number path plan work legal course = on-block v old xs by path legal plan work (opening v.layout by number path plan xs work course)
