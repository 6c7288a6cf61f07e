-- The events of a call on names.
use Rattle.std.proofs.Common.{ℕ, Bool, true, false, ◌≡◌, List, [], ◌∷◌, ◌++◌, Option, Some, None, refl, sym, ◌∙◌, ap, subst, append_assoc}
use Rattle.std.proofs.lemmas.List.{append-nil}
use Rattle.mj_angles.specs.declared.layout.Layout.{Layout}
use Rattle.rz_events.specs.Volume.{Volume}
use Rattle.rz_events.specs.declared.keys.Key.{Key}
use Rattle.rz_events.specs.declared.keys.Actor.{Actor}
use Rattle.rz_events.specs.declared.files.FileInfo.{FileInfo}
use Rattle.rz_events.specs.declared.tree.TreeReply.{TreeReply}
use Rattle.rz_events.specs.declared.tree.TreeReply.TheVariants as tree
use Rattle.rz_events.specs.declared.tree.TreeCall.{TreeCall}
use Rattle.rz_events.specs.declared.tree.TreeCall.TheVariants as treecall
use Rattle.rz_events.specs.declared.tree.TreeFault.{TreeFault}
use Rattle.rz_events.specs.declared.tree.TreeFault.TheVariants as fault
use Rattle.rz_events.specs.declared.export.Call.TheVariants as call
use Rattle.rz_events.specs.declared.export.Reply.{Reply}
use Rattle.rz_events.specs.declared.export.Reply.TheVariants as reply
use Rattle.rz_events.specs.declared.nodes.DropAnswer.{DropAnswer}
use Rattle.rz_events.specs.declared.nodes.DropAnswer.TheVariants as drop
use Rattle.rz_events.specs.declared.nodes.NodeAsk.TheVariants as ask
use Rattle.rz_events.specs.declared.nodes.NodeAnswer.{NodeAnswer}
use Rattle.rz_events.specs.declared.nodes.NodeAnswer.TheVariants as answer
use Rattle.rz_events.specs.declared.events.Answer.{Answer}
use Rattle.rz_events.specs.declared.events.Answer.TheVariants as answers
use Rattle.rz_events.specs.declared.events.Event.{Event}
use Rattle.rz_events.specs.declared.events.Event.TheVariants as e
use Rattle.rz_node_model.specs.NodeEvents.{node_event, drop_event}
use Rattle.std.specs.Option.{option_map_or}
use Rattle.rz_export_model.specs.ExportEvents.{export_event}
use Rattle.rz_export_model.specs.Tree.{Found, found_at}
use Rattle.rz_export_model.specs.Refusals.{path_in, refusal}
use Rattle.rz_export_model.specs.TreeCalls.{answer_to, attr_of}
use Rattle.rz_export_model.specs.Export.{Export as ExportState, new_places}
use Rattle.rz_core.specs.ExportRows.{names_reply}
use Rattle.rz_operation_model.specs.Work.{Work, Calling, Dropping, Ending, Over}
use Rattle.rz_operation_model.specs.Ask.{ask_of}
use Rattle.rz_operation_model.specs.Steps.{Told, Replied, Answered, Missed, told, after_call, after_drop, drop_at}
use Rattle.rz_operation_model.specs.Turns.{IsStep, IsNodeStep, Through, ReplyLost, RequestLost}
use Rattle.rz_core.specs.Legal.{IsLegalInRuns}
use Rattle.rz_core.proofs.NodeSteps.{the_some}
use Rattle.rz_contents.specs.Model.{changes, IsStill, model_of, export_at, IsSame}
use Rattle.rz_contents.specs.Files.{is_word, IsSilentCourse, Begins, Turns, opens_file, IsCalled, answer_for, IsCallSeen, IsCallWatched}
use Rattle.rz_contents.proofs.Opened.{earlier-legal}
use Rattle.rz_contents.proofs.Putting.{export-step}
use Rattle.rz_contents.proofs.Changing.{unchanged}
use Rattle.rz_contents.proofs.Stillness.{names, still}

-- The events of the call: the oldest is that of its reply, and those after it change nothing.
pub record HasCalled (by : Actor) (c : TreeCall) (told : TreeReply) (xs : List Event) : Type 0 where
  pub later : List Event
  pub still : IsStill later
  pub xs_is : xs ≡ later ++ (e.Meta by c told ∷ [])

abbrev IsCall : Actor → TreeCall → List Event → Work → Type 0
IsCall by c xs (Calling asked) = (asked ≡ c) × (xs ≡ [])
IsCall by c xs (Dropping fid n places) = (gone : TreeReply) × HasCalled by c gone xs × (answer_for gone ≡ answers.Plain)
IsCall by c xs (Ending a) = (told : TreeReply) × HasCalled by c told xs × (answer_for told ≡ a)
IsCall by c xs Over = (info : FileInfo) × HasCalled by c (tree.File info) xs
IsCall by c xs _ = ⊥

pub still-more : (ys xs : List Event) → IsStill ys → IsStill xs → IsStill (ys ++ xs)
still-more [] xs a b = b
still-more (y ∷ ys) xs a b = (a.0, still-more ys xs a.1 b)

called-more : (by : Actor) (c : TreeCall) (r : TreeReply) (ys xs : List Event) → IsStill ys → HasCalled by c r xs → HasCalled by c r (ys ++ xs)
called-more by c r ys xs quiet o = record {
  later = ys ++ o.later;
  still = still-more ys o.later quiet o.still;
  xs_is = ap (λ (l : List Event). ys ++ l) o.xs_is ∙ sym (append_assoc ys o.later (e.Meta by c r ∷ []));
}

-- The reply.

first : (by : Actor) (c : TreeCall) (r : TreeReply) → HasCalled by c r (e.Meta by c r ∷ [])
first by c r = record { later = []; still = tt; xs_is = refl }

dropping : (by : Actor) (c : TreeCall) (xs : List Event) (gone : TreeReply) → HasCalled by c gone xs → answer_for gone ≡ answers.Plain → (fid : ℕ) (places : List ℕ) → IsCall by c xs (drop_at fid places)
dropping by c xs gone has plain fid [] = (gone, has, plain)
dropping by c xs gone has plain fid (n ∷ places) = (gone, has, plain)

after-call : (by : Actor) (c : TreeCall) (r : TreeReply) → IsCall by c (e.Meta by c r ∷ []) (after_call r)
after-call by c (tree.Made fid) = (tree.Made fid, first by c (tree.Made fid), refl)
after-call by c (tree.MadeFile info) = (tree.MadeFile info, first by c (tree.MadeFile info), refl)
after-call by c (tree.Found fid kind) = (tree.Found fid kind, first by c (tree.Found fid kind), refl)
after-call by c (tree.Attr attr) = (tree.Attr attr, first by c (tree.Attr attr), refl)
after-call by c tree.Plain = (tree.Plain, first by c tree.Plain, refl)
after-call by c (tree.Gone None) = (tree.Gone None, first by c (tree.Gone None), refl)
after-call by c (tree.Gone (Some info)) = dropping by c _ (tree.Gone (Some info)) (first by c (tree.Gone (Some info))) refl info.fid info.places
after-call by c (tree.Names names) = (tree.Names names, first by c (tree.Names names), refl)
after-call by c (tree.Target target) = (tree.Target target, first by c (tree.Target target), refl)
after-call by c (tree.File info) = (info, first by c (tree.File info))
after-call by c (tree.Refused fault) = (tree.Refused fault, first by c (tree.Refused fault), refl)

call-step : (layout : Layout) (by : Actor) (c : TreeCall) (r : Reply) (x : Event) → export_event by (call.Tree c) r ≡ Some x → IsCall by c (x ∷ []) (told layout (Calling c) (Replied r))
call-step layout by c (reply.Tree r) x is = subst (λ y. IsCall by c (y ∷ []) (after_call r)) (the_some _ x is) (after-call by c r)
call-step layout by c (_) x is = cc

-- The drops.

drop-still : (by : Actor) (n fid : ℕ) (given : DropAnswer) → changes (drop_event by n fid given) ≡ false
drop-still by n fid (drop.Dropped block stamp more) = refl
drop-still by n fid drop.Nothing = refl
drop-still by n fid drop.Lost = refl
drop-still by n fid drop.Down = refl
drop-still by n fid (drop.DiskFault block stamp) = refl

dropped : (by : Actor) (n fid : ℕ) (given : NodeAnswer) (x : Event) → node_event by n (ask.Drop fid) given ≡ Some x → changes x ≡ false
dropped by n fid (answer.Drop given) x is = subst (λ y. changes y ≡ false) (the_some _ x is) (drop-still by n fid given)
dropped by n fid (_) x is = cc

module _ (layout : Layout) (by : Actor) (c : TreeCall) (xs : List Event) (gone : TreeReply) (has : HasCalled by c gone xs) (plain : answer_for gone ≡ answers.Plain) (fid n : ℕ) (places : List ℕ) where
  goes : (ys : List Event) → IsStill ys → HasCalled by c gone (ys ++ xs)
  goes ys quiet = called-more by c gone ys xs quiet has

  after-drop : (ys : List Event) → IsStill ys → (given : DropAnswer) → IsCall by c (ys ++ xs) (after_drop fid n places given)
  after-drop ys quiet (drop.Dropped block stamp true) = (gone, goes ys quiet, plain)
  after-drop ys quiet (drop.Dropped block stamp false) = dropping by c (ys ++ xs) gone (goes ys quiet) plain fid places
  after-drop ys quiet drop.Nothing = dropping by c (ys ++ xs) gone (goes ys quiet) plain fid places
  after-drop ys quiet drop.Lost = dropping by c (ys ++ xs) gone (goes ys quiet) plain fid places
  after-drop ys quiet drop.Down = dropping by c (ys ++ xs) gone (goes ys quiet) plain fid places
  after-drop ys quiet (drop.DiskFault block stamp) = dropping by c (ys ++ xs) gone (goes ys quiet) plain fid places

  answered : (given : NodeAnswer) (x : Event) → node_event by n (ask.Drop fid) given ≡ Some x → IsCall by c (x ∷ xs) (told layout (Dropping fid n places) (Answered true given))
  answered (answer.Drop given) x is = after-drop (x ∷ []) (dropped by n fid (answer.Drop given) x is, tt) given
  answered (_) x is = cc

  drop-step : (t : Told) (ys : List Event) → IsNodeStep by n (ask.Drop fid) t ys → IsCall by c (ys ++ xs) (told layout (Dropping fid n places) t)
  drop-step t ys (Through given x is) = answered given x is
  drop-step t ys (ReplyLost given x is lossy) = dropping by c _ gone (goes (e.Missed by n true ∷ x ∷ []) (refl, (dropped by n fid given x is, tt))) plain fid places
  drop-step t ys (RequestLost lossy) = dropping by c _ gone (goes (e.Missed by n false ∷ []) (refl, tt)) plain fid places

-- Each turn.

turn : (layout : Layout) (by : Actor) (number : ℕ) (c : TreeCall) (xs : List Event) (work : Work) → IsCall by c xs work → is_word (ask_of layout work) ≡ false
    → (t : Told) (ys : List Event) → IsStep by number (ask_of layout work) t ys → IsCall by c (ys ++ xs) (told layout work t)
turn layout by number c xs (Calling asked) is quiet t ys step =
    let here : IsCall by asked ys (told layout (Calling asked) t) =
    export-step by (call.Tree asked) (λ u us. IsCall by asked us (told layout (Calling asked) u)) (call-step layout by asked) t ys step in
    let there : IsCall by c ys (told layout (Calling asked) t) = subst (λ (z : TreeCall). IsCall by z ys (told layout (Calling asked) t)) is.0 here in
    subst (λ (l : List Event). IsCall by c l (told layout (Calling asked) t)) (sym (ap (λ (l : List Event). ys ++ l) is.1 ∙ append-nil ys)) there
turn layout by number c xs (Dropping fid n places) is quiet t ys step = drop-step layout by c xs is.0 is.1 is.2 fid n places t ys step
turn layout by number c xs (Ending a) is quiet t ys step = cc
turn layout by number c xs Over is quiet t ys step = absurd step
turn layout by number c xs (_) is quiet t ys step = absurd is

calls : (layout : Layout) (by : Actor) (number : ℕ) (c : TreeCall) (xs : List Event) (work : Work) → IsSilentCourse layout by number (Calling c) xs work → IsCall by c xs work
calls layout by number c xs work (Begins) = (refl, refl)
calls layout by number c xs work (Turns before was t ys course quiet step) = turn layout by number c before was (calls layout by number c before was course) quiet t ys step

-- What they make of the store.

no-told : (found : Option Found) (tell : Found → TreeReply) (info : FileInfo) → ((f : Found) → tree.File info ≡ tell f → ⊥) → tree.File info ≡ option_map_or tell found (tree.Refused fault.NoEntry) → ⊥
no-told None tell info never is = cc
no-told (Some f) tell info never is = never f is

answers-no-file : (s : ExportState) (c : TreeCall) → opens_file c ≡ false → (info : FileInfo) → tree.File info ≡ answer_to s.tree (new_places s).cid (new_places s).places c → ⊥
answers-no-file s (treecall.OpenFile path) shut info is = cc
answers-no-file s (treecall.Lookup path) shut info is = no-told (found_at s.tree (path_in path)) (λ f. tree.Found f.fid f.object.kind) info (λ f same. cc) is
answers-no-file s (treecall.Getattr path) shut info is = no-told (found_at s.tree (path_in path)) (λ f. tree.Attr (attr_of s.tree f)) info (λ f same. cc) is
answers-no-file s (treecall.Readlink path) shut info is = no-told (found_at s.tree (path_in path)) (λ f. tree.Target f.object.target) info (λ f same. cc) is
answers-no-file s (treecall.Rmdir path) shut info is = cc
answers-no-file s (treecall.Mkdir path) shut info is = cc
answers-no-file s (treecall.Create path) shut info is = cc
answers-no-file s (treecall.Unlink path) shut info is = cc
answers-no-file s (treecall.Readdir path) shut info is = cc
answers-no-file s (treecall.Setattr path mode mtime) shut info is = cc
answers-no-file s (treecall.Rename path to) shut info is = cc
answers-no-file s (treecall.Link path to) shut info is = cc
answers-no-file s (treecall.Symlink target path) shut info is = cc

never-file : (s : ExportState) (c : TreeCall) → opens_file c ≡ false → (info : FileInfo) → tree.File info ≡ names_reply s c → ⊥
never-file s c shut info is = go (refusal s.tree c) is
  where
    go : (refused : Option TreeFault) → tree.File info ≡ option_map_or tree.Refused refused (answer_to s.tree (new_places s).cid (new_places s).places c) → ⊥
    go (Some f) same = cc
    go None same = answers-no-file s c shut info same

module _ (v : Volume) (old xs : List Event) (by : Actor) (c : TreeCall) (legal : IsLegalInRuns v (xs ++ old)) where
  none : xs ≡ [] → IsSame (model_of v old) (model_of v (xs ++ old))
  none is = subst (λ (l : List Event). IsSame (model_of v old) (model_of v (l ++ old))) (sym is) record { names = refl; blocks = λ key. refl }

  called : (r : TreeReply) → HasCalled by c r xs → IsCalled v old c r (xs ++ old)
  called r o =
      let x : Event = e.Meta by c r in
      let whole : xs ++ old ≡ o.later ++ (x ∷ old) = ap (λ (l : List Event). l ++ old) o.xs_is ∙ append_assoc o.later (x ∷ []) old in
      let legal' : IsLegalInRuns v (o.later ++ (x ∷ old)) = subst (IsLegalInRuns v) whole legal in
      let one : IsLegalInRuns v (x ∷ old) = earlier-legal v o.later (x ∷ old) legal' in
      let quiet = still v o.later (x ∷ old) legal' o.still in
      let said = names v x old one in
      record {
        replied = said.1;
        names = ap (λ (h : List Event). (export_at v h).tree) whole ∙ quiet.names ∙ said.0;
        blocks = λ key. ap (λ (h : List Event). (model_of v h).blocks key) whole ∙ quiet.blocks key ∙ unchanged v (x ∷ []) old key one (refl, tt);
      }

  -- no call on names is answered with a file
  no-file : opens_file c ≡ false → (info : FileInfo) → HasCalled by c (tree.File info) xs → ⊥
  no-file shut info o = never-file (export_at v old) c shut info (called (tree.File info) o).replied

  seen : opens_file c ≡ false → (work : Work) → IsCall by c xs work → IsCallSeen v old c (xs ++ old) work
  seen shut (Calling asked) is = none is.1
  seen shut (Dropping fid n places) is = (is.0, called is.0 is.1, is.2)
  seen shut (Ending a) is = (is.0, called is.0 is.1, is.2)
  seen shut Over is = absurd (no-file shut is.0 is.1)
  seen shut (_) is = absurd is

pub calls_watched : (v : Volume) → IsCallWatched v
calls_watched v old xs by number c work shut legal course = seen v old xs by c legal shut work (calls v.layout by number c xs work course)
