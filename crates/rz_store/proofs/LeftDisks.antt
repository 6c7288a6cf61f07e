-- What a store that is let go leaves is what one asks of disks that are opened.
use Rattle.std.proofs.Common.{ℕ, ◌≡◌, ◌≢◌, ◌<◌, ◌+◌, List, [], ◌∷◌, Option, Some, None, map, refl, sym, ap, ap₂, ◌∙◌, subst, inl, inr}
use Rattle.std.specs.Prelude.{IfSome}
use Rattle.std.specs.List.{AllByRecursion, AllZip}
use Rattle.rz_events.specs.Volume.{Volume, nodes_of}
use Rattle.rz_events.specs.declared.files.NodeSpec.{NodeSpec}
use Rattle.rz_events.specs.declared.keys.Key.{Key}
use Rattle.rz_events.specs.declared.nodes.Phase.{Phase}
use Rattle.rz_events.specs.declared.nodes.Phase.TheVariants.{Up, Down, Lost}
use Rattle.rz_events.specs.declared.events.Word.TheVariants.{Node, Export}
use Rattle.rz_events.specs.declared.events.Event.{Event}
use Rattle.rz_node_model.specs.Versions.{Stands}
use Rattle.rz_core.specs.History.{Facts, facts, of_word}
use Rattle.rz_core.specs.ExportWord.{accepted, export_of}
use Rattle.rz_core.specs.Legal.{IsLegalInRuns}
use Rattle.rz_core.specs.NodeWord.{phase}
use Rattle.rz_metadata.specs.declared.journaled.JournalRefusal.{JournalRefusal}
use Rattle.rz_metadata.specs.Reopened.{AllTextsOf}
use Rattle.rz_restart_laws.specs.Calls.{changing_calls}
use Rattle.rz_restart_laws.specs.Earlier.{numbers}
use Rattle.rz_restart_laws.specs.Returns.{NewDisk, HasNewDisks, replaced, replaced_if}
use Rattle.rz_contents.specs.Contents.{text_of}
use Rattle.rz_contents.specs.Model.{IsSame, model_of}
use Rattle.rz_shared_locked.specs.LockedExports.{AreTextsOfBytes}
use Rattle.rz_store_opening.specs.Opening.{AreLeft, MayStand}
use Rattle.rz_store_turns.specs.Closed.{IsDiskLeft, IsJournalLeft}
use Rattle.rz_store.specs.Opened.{MayOpenAgain}

-- where the permanent facts and the events of the export are the same, users see the same
pub same-seen : (v : Volume) (h g : List Event) → facts g ≡ facts h → of_word Export g ≡ of_word Export h → IsSame (model_of v h) (model_of v g)
same-seen v h g same words = record {
  names = ap₂ (λ (f : Facts) (w : List Event). (export_of v f w).tree) same words;
  blocks = λ key. ap₂ (λ (f : Facts) (w : List Event). text_of f (accepted w key)) same words;
}

-- a node that is not lost gets no new disk
not-replaced : (p : Phase) (n : ℕ) (d : NewDisk) (h : List Event) → p ≢ Lost → replaced_if p n d h ≡ h
not-replaced Up n d h not = refl
not-replaced Down n d h not = refl
not-replaced Lost n d h not = absurd (not refl)

none-replaced : (new : ℕ → NewDisk) (ns : List ℕ) (h : List Event) → ((n : ℕ) → Stands n ns → phase (of_word (Node n) h) ≢ Lost) → replaced new ns h ≡ h
none-replaced new [] h there = refl
none-replaced new (n ∷ ns) h there =
    ap (replaced new ns) (not-replaced (phase (of_word (Node n) h)) n (new n) h (there n (inl refl)))
    ∙ none-replaced new ns h (λ m is. there m (inr is))

all-there : (h : List Event) (specs : List NodeSpec) → ((n : ℕ) → Stands n (map (λ (s : NodeSpec). s.sid) specs) → phase (of_word (Node n) h) ≢ Lost) → AllByRecursion (λ (s : NodeSpec). phase (of_word (Node s.sid) h) ≢ Lost) specs
all-there h [] there = tt
all-there h (s ∷ specs) there = (there s.sid (inl refl), all-there h specs (λ n is. there n (inr is)))

module _ {D : Type 0} (image : D → List ℕ → Type 0) (v : Volume) (h mid : List Event) (same : mid ≡ h) where
  abbrev MayBe : NodeSpec → Option D → Type 0
  MayBe spec d = IfSome d (λ there. (text : List ℕ) → image there text → MayStand v mid spec.sid text)

  may-one : (spec : NodeSpec) (d : Option D) → phase (of_word (Node spec.sid) h) ≢ Lost → IsDiskLeft image v h spec d → MayBe spec d
  may-one spec None there left = tt
  may-one spec (Some d) there left = λ text is. subst (λ (l : List Event). MayStand v l spec.sid text) (sym same) (inl (left there text is))

  may-all : (specs : List NodeSpec) (ds : List (Option D)) → AllByRecursion (λ (s : NodeSpec). phase (of_word (Node s.sid) h) ≢ Lost) specs → AllZip (IsDiskLeft image v h) specs ds → AllZip MayBe specs ds
  may-all [] [] there left = tt
  may-all [] (d ∷ ds) there left = left
  may-all (s ∷ specs) [] there left = left
  may-all (s ∷ specs) (d ∷ ds) there left = (may-one s d there.0 left.0, may-all specs ds there.1 left.1)

pub are-left : {D : Type 0} (image : D → List ℕ → Type 0) (v : Volume) (h : List Event) (new : ℕ → NewDisk) (disks : List (Option D)) (journal : D) → IsLegalInRuns v h → AreTextsOfBytes h → MayOpenAgain v h
    → AllZip (IsDiskLeft image v h) (nodes_of v.clusters) disks → AllTextsOf v (image journal) (changing_calls h) → AreLeft image v h new disks journal
are-left image v h new disks journal legal bytes may left last = record {
  earlier = record { legal = legal; few = may.few; enrolled = λ n of lost. absurd (may.there n of lost) };
  bytes = bytes;
  nodes = may-all image v h (replaced new (numbers v) h) (none-replaced new (numbers v) h may.there) (nodes_of v.clusters) disks (all-there h (nodes_of v.clusters) may.there) left;
  last = last;
}

pub journal-left : {D : Type 0} (image : D → List ℕ → Type 0) (v : Volume) (h : List Event) (new : ℕ → NewDisk) (disks : List (Option D)) (journal : Option D) (why : Option JournalRefusal) → why ≡ None → IsLegalInRuns v h → AreTextsOfBytes h → MayOpenAgain v h
    → AllZip (IsDiskLeft image v h) (nodes_of v.clusters) disks → IfSome journal (IsJournalLeft image v why (changing_calls h)) → IfSome journal (AreLeft image v h new disks)
journal-left image v h new disks None why none legal bytes may left last = tt
journal-left image v h new disks (Some d) why none legal bytes may left last =
    are-left image v h new disks d legal bytes may left (subst (λ (w : Option JournalRefusal). IsJournalLeft image v w (changing_calls h) d) none last)
