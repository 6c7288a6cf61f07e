-- Disks that come back beside the tokens of their nodes, and metadata, where nothing was added meanwhile.
use Rattle.std.proofs.Common.{◌≡◌, ◌⊎◌, ◌++◌, [], ◌∷◌, ℕ, List, Option, Some, None, map, sym, refl, ap, ◌∙◌, subst, inl, inr}
use Rattle.std.specs.Prelude.{nat_eq, Bool, IsTrue, IfSome, IsSome}
use Rattle.std.specs.List.{AllByRecursion, AllZip, IsDistinct}
use Rattle.std.proofs.lemmas.List.Elements.{filter-append}
use Rattle.rz_disk.specs.Meter.{Meter, faults}
use Rattle.rz_events.specs.Volume.{Volume}
use Rattle.rz_events.specs.declared.files.NodeSpec.{NodeSpec}
use Rattle.rz_events.specs.declared.export.Call.{Call}
use Rattle.rz_events.specs.declared.nodes.Phase.TheVariants.{Up}
use Rattle.rz_events.specs.declared.events.Word.{Word}
use Rattle.rz_events.specs.declared.events.Word.TheVariants.{Node, Export}
use Rattle.rz_events.specs.declared.events.Event.{Event}
use Rattle.rz_events.specs.Events.{word_of, same_word}
use Rattle.rz_core.specs.History.{of_word}
use Rattle.rz_core.specs.NodeWord.{phase}
use Rattle.rz_journal.specs.JournalText.{IsTextOf}
use Rattle.rz_metadata.specs.declared.journaled.JournalRefusal.{JournalRefusal}
use Rattle.rz_metadata.specs.declared.journaled.JournalRefusal.TheVariants.{Full, Failed}
use Rattle.rz_metadata.specs.declared.journaled.Journaled.{Journaled as Behind}
use Rattle.rz_metadata.specs.declared.metadata.Metadata.{Metadata}
use Rattle.rz_metadata.specs.declared.metadata.Metadata.TheVariants.{InMemory, Journaled}
use Rattle.rz_metadata.specs.Reopened.{AllTextsOf}
use Rattle.rz_metadata.specs.Stands.{disk_of, refusal_of, export_in, IsLeftBy, IsJournalKept}
use Rattle.rz_restart_laws.specs.Calls.{changing_calls}
use Rattle.rz_chronicle.specs.Keys.{IsLater, events_at, word_key}
use Rattle.rz_chronicle.specs.Holds.{IsWordSettled}
use Rattle.rz_chronicle.specs.Kinds.{keeps_legal, volume_in}
use Rattle.rz_chronicle.specs.Rules.{WordTokenView}
use Rattle.rz_shared_locked.specs.LockedExports.{AreMetadataOf, AreMetadataFrom, AreTextsFrom, AreTextsOfBytes}
use Rattle.rz_shared.specs.Returned.{IsReturnedIf}
use Rattle.rz_store_turns.specs.Closed.{IsDiskHere, IsDiskLeft, IsJournalLeft}

-- no number stands twice in the rest of a list
pub distinct-rest : (xs ys : List ℕ) → IsDistinct nat_eq (xs ++ ys) → IsDistinct nat_eq ys
unfolding IsDistinct
distinct-rest [] ys d = d
distinct-rest (x ∷ xs) ys d = distinct-rest xs ys d.1

pub distinct-tail : (x : ℕ) (xs : List ℕ) → IsDistinct nat_eq (x ∷ xs) → IsDistinct nat_eq xs
unfolding IsDistinct
distinct-tail x xs d = d.1

-- The disks of the nodes.
module _ {D : Type 0} (meter : D → Meter) (image : D → List ℕ → Type 0) (fixed : Bool) (kind : List ℕ) (earlier : List Event) (first : ℕ → ℕ) (legal : IsTrue (keeps_legal kind)) (log : List Event) where
  abbrev Returned : Option D → WordTokenView → Type 0
  Returned d p = IsReturnedIf meter image fixed kind earlier first d p

  left-own : (d : Option D) (p : WordTokenView) (spec : NodeSpec) → IsWordSettled p log → (r : Returned d p) → r.node ≡ spec.sid → IsDiskLeft image (volume_in kind) (log ++ earlier) spec d
  left-own None p spec settled r is = tt
  left-own (Some d) p spec settled r is =
      let events : events_at (word_key (Node r.node)) log ≡ events_at (word_key (Node r.node)) p.log = subst (λ (w : Word). events_at (word_key w) log ≡ events_at (word_key w) p.log) r.word (settled.1 (word_key p.word) (inl refl)) in
      subst (λ (n : ℕ). IsDiskLeft image (volume_in kind) (log ++ earlier) (record { sid = n; cells = spec.cells }) (Some d)) is (r.images legal log settled.0 events)

  same-node : (a b : ℕ) → Node a ≡ Node b → a ≡ b
  same-node a b is = cc (is)

  head-is : (a b : Word) (us ws : List Word) → a ∷ us ≡ b ∷ ws → a ≡ b
  head-is a b us ws is = cc (is)

  tail-is : (a b : Word) (us ws : List Word) → a ∷ us ≡ b ∷ ws → us ≡ ws
  tail-is a b us ws is = cc (is)

  none-is : (a : Word) (us : List Word) → [] ≡ a ∷ us → ⊥
  none-is a us is = cc (is)

  -- each of them, where the tokens are those of these nodes
  module _ (Leaves : NodeSpec → Option D → Type 0) (own : (d : Option D) (p : WordTokenView) (spec : NodeSpec) → IsWordSettled p log → (r : Returned d p) → r.node ≡ spec.sid → Leaves spec d) where
    all-own : (ds : List (Option D)) (ps : List WordTokenView) (specs : List NodeSpec) → AllZip Returned ds ps → AllByRecursion (λ (p : WordTokenView). IsWordSettled p log) ps
        → map (λ (p : WordTokenView). p.word) ps ≡ map Node (map (λ (n : NodeSpec). n.sid) specs) → AllZip Leaves specs ds
    all-own [] [] [] all settled words = tt
    all-own [] [] (n ∷ specs) all settled words = absurd (none-is _ _ words)
    all-own [] (p ∷ ps) specs all settled words = absurd all
    all-own (d ∷ ds) [] specs all settled words = absurd all
    all-own (d ∷ ds) (p ∷ ps) [] all settled words = absurd (none-is _ _ (sym words))
    all-own (d ∷ ds) (p ∷ ps) (n ∷ specs) all settled words = (
      own d p n settled.0 all.0 (same-node all.0.node n.sid (sym all.0.word ∙ head-is _ _ _ _ words)),
      all-own ds ps specs all.1 settled.1 (tail-is _ _ _ _ words),
    )

  pub left-all : (ds : List (Option D)) (ps : List WordTokenView) (specs : List NodeSpec) → AllZip Returned ds ps → AllByRecursion (λ (p : WordTokenView). IsWordSettled p log) ps
      → map (λ (p : WordTokenView). p.word) ps ≡ map Node (map (λ (n : NodeSpec). n.sid) specs) → AllZip (IsDiskLeft image (volume_in kind) (log ++ earlier)) specs ds
  left-all = all-own (IsDiskLeft image (volume_in kind) (log ++ earlier)) left-own

  -- The disk of a node that is up is among them.
  module _ (words-kept : (w : Word) (h g : List Event) → events_at (word_key w) h ≡ events_at (word_key w) g → of_word w h ≡ of_word w g) where
    here-own : (d : Option D) (p : WordTokenView) (spec : NodeSpec) → IsWordSettled p log → (r : Returned d p) → r.node ≡ spec.sid → IsDiskHere (log ++ earlier) spec d
    here-own d p spec settled r is =
        let events : events_at (word_key (Node r.node)) log ≡ events_at (word_key (Node r.node)) p.log = subst (λ (w : Word). events_at (word_key w) log ≡ events_at (word_key w) p.log) r.word (settled.1 (word_key p.word) (inl refl)) in
        let own : of_word (Node r.node) (log ++ earlier) ≡ of_word (Node r.node) (p.log ++ earlier) =
        filter-append (λ (x : Event). same_word (Node r.node) (word_of x)) log earlier
        ∙ ap (λ (l : List Event). l ++ of_word (Node r.node) earlier) (words-kept (Node r.node) log p.log events)
        ∙ sym (filter-append (λ (x : Event). same_word (Node r.node) (word_of x)) p.log earlier) in
        subst (λ (n : ℕ). phase (of_word (Node n) (log ++ earlier)) ≡ Up → IsSome d) is (λ up. r.up legal (ap phase (sym own) ∙ up))

    pub here-all : (ds : List (Option D)) (ps : List WordTokenView) (specs : List NodeSpec) → AllZip Returned ds ps → AllByRecursion (λ (p : WordTokenView). IsWordSettled p log) ps
        → map (λ (p : WordTokenView). p.word) ps ≡ map Node (map (λ (n : NodeSpec). n.sid) specs) → AllZip (IsDiskHere (log ++ earlier)) specs ds
    here-all = all-own (IsDiskHere (log ++ earlier)) here-own

-- The journal's disk.

settled-export : (p : WordTokenView) (log : List Event) → p.word ≡ Export → IsWordSettled p log → events_at (word_key Export) log ≡ events_at (word_key Export) p.log
settled-export p log is settled = subst (λ (w : Word). events_at (word_key w) log ≡ events_at (word_key w) p.log) is (settled.1 (word_key p.word) (inl refl))

pub metadata-at : {D : Type 0} (tells : Bool) (meter : D → Meter) (image : D → List ℕ → Type 0) (counted : ℕ) (kind : List ℕ) (earlier : List Event) (p : WordTokenView) (m : Metadata D) (log : List Event)
    → p.word ≡ Export → IsWordSettled p log → AreMetadataFrom tells meter image counted kind earlier p.log m → AreMetadataOf (refusal_of m) tells meter image counted kind (log ++ earlier) m
metadata-at tells meter image counted kind earlier p m log is settled from = from log settled.0 (settled-export p log is settled)

pub texts-at : (earlier : List Event) (p : WordTokenView) (log : List Event) → p.word ≡ Export → IsWordSettled p log → AreTextsFrom earlier p.log → AreTextsOfBytes (log ++ earlier)
texts-at earlier p log is settled from = from log settled.0 (settled-export p log is settled)

module _ {D : Type 0} (tells : Bool) (meter : D → Meter) (image : D → List ℕ → Type 0) (counted : ℕ) (kind : List ℕ) (h : List Event) (legal : IsTrue (keeps_legal kind)) (told : IsTrue tells) where
  abbrev Left : Behind D → Option JournalRefusal → Call → Type 0
  Left j why c = IsLeftBy why (IsJournalKept tells meter image counted j (changing_calls h)) tells (image j.journal.disk) counted (faults (meter j.journal.disk)) j.journal.export (changing_calls h) c

  by-refusal : (j : Behind D) (why : Option JournalRefusal) → j.refusal ≡ why → j.journal.export.volume ≡ volume_in kind → AreMetadataOf why tells meter image counted kind h (Journaled j)
      → IsJournalLeft image (volume_in kind) why (changing_calls h) j.journal.disk
  by-refusal j None is of m = subst (λ (v : Volume). AllTextsOf v (image j.journal.disk) (changing_calls h)) of ((m.stands legal).images told)
  by-refusal j (Some Full) is of m =
      let left = subst (λ (why : Option JournalRefusal). Left j why (m legal).0) is (m legal).1 in
      subst (λ (v : Volume). AllTextsOf v (image j.journal.disk) (changing_calls h)) of (left.2 told)
  by-refusal j (Some Failed) is of m =
      let c = (m legal).0 in
      let left = subst (λ (why : Option JournalRefusal). Left j why c) is (m legal).1 in (
        c,
        subst (λ (v : Volume). (text : List ℕ) → image j.journal.disk text → IsTextOf v text (changing_calls h) ⊎ IsTextOf v text (changing_calls h ++ c ∷ [])) of (left.1 told),
      )

  pub journal-left : (m : Metadata D) → (export_in m).volume ≡ volume_in kind → AreMetadataOf (refusal_of m) tells meter image counted kind h m
      → IfSome (disk_of m) (IsJournalLeft image (volume_in kind) (refusal_of m) (changing_calls h))
  journal-left (InMemory s) of are = tt
  journal-left (Journaled j) of are = by-refusal j j.refusal refl of are

  pub journal-there : (m : Metadata D) (d : Option D) (why : Option JournalRefusal) → d ≡ disk_of m → why ≡ refusal_of m → (export_in m).volume ≡ volume_in kind
      → AreMetadataOf (refusal_of m) tells meter image counted kind h m → IfSome d (IsJournalLeft image (volume_in kind) why (changing_calls h))
  journal-there m d why is same of are =
      subst (λ (w : Option JournalRefusal). IfSome d (IsJournalLeft image (volume_in kind) w (changing_calls h))) (sym same)
      (subst (λ (x : Option D). IfSome x (IsJournalLeft image (volume_in kind) (refusal_of m) (changing_calls h))) (sym is) (journal-left m of are))
