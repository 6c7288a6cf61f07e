-- For which calls the journal's disk stands: after a reply, and where there is none.
use Rattle.std.proofs.Common.{◌≡◌, ℕ, Bool, true, false, cond, List, [], ◌∷◌, ◌++◌, Option, Some, None, IsSome, Result, Ok, Err, OnErr, refl, sym, ◌∙◌, ap, subst}
use Rattle.std.specs.Prelude.{◌&&◌, is_some}
use Rattle.rz_disk.specs.Meter.{Meter, faults}
use Rattle.rz_events.specs.declared.keys.Actor.{Actor}
use Rattle.rz_events.specs.declared.tree.TreeCall.{TreeCall}
use Rattle.rz_events.specs.declared.tree.TreeCall.TheVariants as tree
use Rattle.rz_events.specs.declared.export.Call.{Call}
use Rattle.rz_events.specs.declared.export.Call.TheVariants as call
use Rattle.rz_events.specs.declared.export.Reply.{Reply}
use Rattle.rz_export_model.specs.Export.{export_reply}
use Rattle.rz_journal.specs.Kept.{IsExportAfter}
use Rattle.rz_journal.specs.Said.{entry_of, accepts}
use Rattle.rz_journal.specs.Seen.{calls_after}
use Rattle.rz_metadata.specs.declared.journaled.JournalRefusal.{JournalRefusal}
use Rattle.rz_metadata.specs.declared.metadata.Metadata.{Metadata}
use Rattle.rz_metadata.specs.declared.metadata.Metadata.TheVariants.{InMemory, Journaled}
use Rattle.rz_metadata.specs.Stands.{IsJournalOpen, IsJournalKept, IsLeftBy, Stands, StandsAtEnd, export_in, is_journaled, refusal_of}
use Rattle.rz_operation.specs.Answers.{IsReplyTo}
use Rattle.rz_operation.specs.Machine.{Machine}
use Rattle.rz_operation_model.specs.Ask.{Ask, AskExport, AskLock, ask_of}
use Rattle.rz_metadata.specs.Journals.{EndsOn, WritesBytes, IsRefused, KeepsCall, MayRefuse}
use Rattle.rz_play.specs.Stops.{IsChange}
use Rattle.rz_driver_asks.specs.Asked.{KeepsAsked, LeavesAsked, call_asked}
use Rattle.rz_driver_asks.specs.Parts.{IsNotable}
use Rattle.rz_driver_asks.proofs.Changes.{entry-changes, joins, notes-joined, takes-joined}
use Rattle.rz_driver_asks.proofs.Drawn.{base-drawn}

pub same-call : (a c : Call) → Some a ≡ Some c → a ≡ c
same-call a c is = cc

true-is-false : true ≡ false → ⊥
true-is-false is = cc

-- a journal that is open refused nothing
none-refused : {D : Type 0} (m : Metadata D) → IsJournalOpen m → refusal_of m ≡ None
none-refused (InMemory s) is_open = refl
none-refused (Journaled j) is_open = is_open.unrefused

module _ {D : Type 0} (tells : Bool) (meter : D → Meter) (image : D → List ℕ → Type 0) (m : Metadata D) where
  -- the reply was given, and its call stands where it changed the export
  abbrev pub Replies : Call → Reply → Metadata D → Type 0
  Replies c r n = (first : ℕ) (calls : List Call) → Stands tells meter image first m calls → Stands tells meter image first n (calls_after r c calls)

  -- there was no reply
  abbrev pub Refuses : Call → Metadata D → Type 0
  Refuses c n = (first : ℕ) (calls : List Call) → Stands tells meter image first m calls → StandsAtEnd tells meter image first n calls c

  -- ---- a reply

  one-call : (n : Metadata D) (machine : Machine) (a : Call) (r : Reply) → call_asked (ask_of machine.layout machine.work) ≡ Some a → r ≡ export_reply (export_in m) a → WritesBytes a → (IsJournalOpen m → IsJournalOpen n)
      → Replies a r n → KeepsAsked tells meter image machine m n
  one-call n machine a r asks says bytes is_open stands = λ c is.
      subst (λ (x : Call). KeepsCall tells meter image x m n) (same-call a c (sym asks ∙ is)) (record {
        bytes = bytes;
        is_open = is_open;
        stands = λ first calls stood. subst (λ (x : Reply). Stands tells meter image first n (calls_after x a calls)) says (stands first calls stood);
      })

  -- to a call of the export
  pub keeps-asked : (n : Metadata D) (machine : Machine) (a : Call) (r : Reply) → AskExport a ≡ ask_of machine.layout machine.work → r ≡ export_reply (export_in m) a → WritesBytes a → (IsJournalOpen m → IsJournalOpen n)
      → Replies a r n → KeepsAsked tells meter image machine m n
  keeps-asked n machine a r asks = one-call n machine a r (ap call_asked (sym asks))

  -- to an open with a lock
  pub keeps-opened : (n : Metadata D) (machine : Machine) (c : TreeCall) (path : List ℕ) (exclusive : Bool) (from count : ℕ) (r : Reply) → AskLock path exclusive from count ≡ ask_of machine.layout machine.work
      → c ≡ tree.OpenFile path → r ≡ export_reply (export_in m) (call.Tree c) → (IsJournalOpen m → IsJournalOpen n) → Replies (call.Tree c) r n → KeepsAsked tells meter image machine m n
  keeps-opened n machine c path exclusive from count r asks opens says is_open stands =
      one-call n machine (call.Tree (tree.OpenFile path)) r (ap call_asked (sym asks))
      (subst (λ (x : TreeCall). r ≡ export_reply (export_in m) (call.Tree x)) opens says) tt is_open
      (subst (λ (x : TreeCall). Replies (call.Tree x) r n) opens stands)

  -- ---- where nothing came of it

  none-left : (n : Metadata D) (ask : Ask) → IsJournalOpen n → EndsOn tells meter image m n None → LeavesAsked tells meter image ask m n
  none-left n ask is_open ends = record {
    refused = None;
    is_refused = subst (λ (why : Option JournalRefusal). IsRefused why None) (sym (none-refused n is_open)) refl;
    change = tt;
    ends = ends;
  }

  -- nothing was asked
  pub leaves-unasked : (ask : Ask) → IsJournalOpen m → LeavesAsked tells meter image ask m m
  leaves-unasked ask is_open = none-left m ask is_open (λ first calls stood. stood)

  -- a call does not join those that are kept, where this follows of the export that they make
  not-joined : (n : Metadata D) (c : Call) (r : Reply) → is_journaled n ≡ is_journaled m → ((calls : List Call) → IsExportAfter (export_in m) calls → joins c r ≡ false) → Replies c r n → EndsOn tells meter image m n None
  not-joined n c r journal never stands = λ first calls stood. by_kind m n journal first calls (λ after. never calls after) stood (stands first calls stood)
    where
      by_kind : (a b : Metadata D) → is_journaled b ≡ is_journaled a → (first : ℕ) (calls : List Call) → (IsExportAfter (export_in a) calls → joins c r ≡ false) → Stands tells meter image first a calls
          → Stands tells meter image first b (calls_after r c calls) → Stands tells meter image first b calls
      by_kind (InMemory s) (InMemory t) same first calls none stood then = tt
      by_kind (InMemory s) (Journaled j) same first calls none stood then = absurd (true-is-false same)
      by_kind (Journaled i) b same first calls none stood then =
          subst (λ (joined : Bool). Stands tells meter image first b (cond joined (calls ++ c ∷ []) calls)) (none stood.after) then

  true-false : (b : Bool) → (b ≡ true → ⊥) → b ≡ false
  true-false true never = absurd (never refl)
  true-false false never = refl

  module _ (n : Metadata D) (ask : Ask) (c : Call) (r : Reply) (is_open : IsJournalOpen m) (stays_open : IsJournalOpen m → IsJournalOpen n) (journal : is_journaled n ≡ is_journaled m) (stands : Replies c r n) where
    -- a call that never joins
    pub leaves-looked : entry_of c ≡ None → LeavesAsked tells meter image ask m n
    leaves-looked none = none-left n ask (stays_open is_open) (not-joined n c r journal (λ calls after. ap (λ (o : Option _). is_some o && accepts r) none) stands)

    module _ (says : r ≡ export_reply (export_in m) c) where
      -- a reply that the machine does not take
      pub leaves-untaken : (machine : Machine) → ¬ IsReplyTo machine.layout c r → LeavesAsked tells meter image ask m n
      leaves-untaken machine untaken = none-left n ask (stays_open is_open) (not-joined n c r journal (λ calls after. true-false (joins c r) (λ joined.
          untaken (subst (λ (x : Reply). IsReplyTo machine.layout c x) (sym says) (takes-joined machine.layout (export_in m) c (subst (λ (x : Reply). joins c x ≡ true) says joined) (base-drawn (export_in m) calls after))))) stands)

      -- one that was not noted
      pub leaves-unnoted : (by : Actor) (machine : Machine) → ¬ IsNotable by c r → LeavesAsked tells meter image ask m n
      leaves-unnoted by machine unnoted = none-left n ask (stays_open is_open) (not-joined n c r journal (λ calls after. true-false (joins c r) (λ joined.
          unnoted (subst (λ (x : Reply). IsNotable by c x) (sym says) (notes-joined machine.layout (export_in m) by c (subst (λ (x : Reply). joins c x ≡ true) says joined))))) stands)

  -- no reply was given

  still : (n : Metadata D) → refusal_of n ≡ None → (first : ℕ) (calls : List Call) (c : Call) → StandsAtEnd tells meter image first n calls c → Stands tells meter image first n calls
  still (InMemory s) none first calls c left = left
  still (Journaled j) none first calls c left =
      subst (λ (why : Option JournalRefusal). IsLeftBy why (IsJournalKept tells meter image first j calls) tells (image j.journal.disk) first (faults (meter j.journal.disk)) j.journal.export calls c) none left

  pub leaves-refused : (n : Metadata D) (ask : Ask) (c : Call) → (IsSome (entry_of c) → IsChange ask c) → MayRefuse (refusal_of n) c (IsJournalOpen n) → Refuses c n → LeavesAsked tells meter image ask m n
  leaves-refused n ask c changes may stands = go (refusal_of n) refl may
    where
      go : (why : Option JournalRefusal) → refusal_of n ≡ why → MayRefuse why c (IsJournalOpen n) → LeavesAsked tells meter image ask m n
      go None is is_open = none-left n ask is_open (λ first calls stood. still n is first calls c (stands first calls stood))
      go (Some why) is entry = record {
        refused = Some c;
        is_refused = subst (λ (o : Option JournalRefusal). IsRefused o (Some c)) (sym is) refl;
        change = changes entry;
        ends = stands;
      }

-- the call that a machine asks for is a change, where it has an entry
pub changes-asked : (machine : Machine) (c : Call) → AskExport c ≡ ask_of machine.layout machine.work → IsSome (entry_of c) → IsChange (ask_of machine.layout machine.work) c
changes-asked machine c asks some = (sym asks, entry-changes c some)

-- an open only looks, so it has no entry
pub open-looks : (c : TreeCall) (path : List ℕ) → c ≡ tree.OpenFile path → entry_of (call.Tree c) ≡ None
open-looks c path is = ap (λ (x : TreeCall). entry_of (call.Tree x)) is

pub never-refused : (c : TreeCall) (path : List ℕ) (ask : Ask) → c ≡ tree.OpenFile path → IsSome (entry_of (call.Tree c)) → IsChange ask (call.Tree c)
never-refused c path ask is some = (let never = subst (λ (x : TreeCall). IsSome (entry_of (call.Tree x))) is some in absurd (cc))

pub on-err : {A B : Type 0} {P : Type 0} (r : Result A B) → P → OnErr r P
on-err (Ok a) p = tt
on-err (Err e) p = p

pub at-err : {A B : Type 0} {P : Type 0} (r : Result A B) → ((x : A) → r ≡ Ok x → ⊥) → OnErr r P → P
at-err (Ok a) other p = absurd (other a refl)
at-err (Err e) other p = p
