-- What an event leaves as it was.
use Rattle.std.proofs.Common.{◌≡◌, ◌≤◌, ℕ, ◌==◌, Bool, true, false, cond, List, [], ◌∷◌, ◌++◌, length, map, refl, sym, ◌∙◌, ap, subst, arith, Option, Some, None}
use Rattle.std.specs.List.{AllByRecursion, filter}
use Rattle.std.specs.Option.{option_map}
use Rattle.std.proofs.lemmas.Bool.{eqb-true, eq-eqb}
use Rattle.rz_events.specs.Volume.{Volume}
use Rattle.rz_events.specs.declared.keys.Actor.{Actor}
use Rattle.rz_events.specs.declared.keys.Actor.TheVariants.{Client, Rebuilder, Admin}
use Rattle.rz_events.specs.declared.records.Held.{Held}
use Rattle.rz_events.specs.declared.records.Change.{Change}
use Rattle.rz_events.specs.declared.records.Change.TheVariants as change
use Rattle.rz_events.specs.declared.events.Word.TheVariants.{Export, Node, Own}
use Rattle.rz_events.specs.declared.events.Event.{Event}
use Rattle.rz_events.specs.Events.{by_of, word_of, same_actor, same_word}
use Rattle.rz_node_model.specs.States.{NodeState}
use Rattle.rz_export_model.specs.Export.{Export as ExportState}
use Rattle.rz_core.specs.History.{Facts, facts, of_actor}
use Rattle.rz_core.specs.NodeWord.{held, undecided}
use Rattle.rz_core.specs.Legal.{IsLegalInRuns}
use Rattle.rz_core.specs.Tied.{IsNode, IsExport, record_in, pending_in}
use Rattle.rz_core.proofs.Extends.{Extends, IsKnown, Knows, KnowsChange, extends-more, held-extends, held-known, undecided-known}
use Rattle.rz_core.proofs.Locality.{legal-knows, all-filter}
use Rattle.rz_core.proofs.ExportSteps.{same-export}
use Rattle.rz_core.proofs.NodeLaws.{node}
use Rattle.rz_core.proofs.Stamps.{export}

-- Actors.

pub same_actor-refl : (a : Actor) → same_actor a a ≡ true
same_actor-refl (Client n) = eq-eqb n n refl
same_actor-refl (Rebuilder n) = eq-eqb n n refl
same_actor-refl Admin = refl

pub same_actor-true : (a b : Actor) → same_actor a b ≡ true → a ≡ b
same_actor-true (Client n) (Client m) is = ap Client (eqb-true n m is)
same_actor-true (Client n) (Rebuilder m) is = cc
same_actor-true (Client n) Admin is = cc
same_actor-true (Rebuilder n) (Rebuilder m) is = ap Rebuilder (eqb-true n m is)
same_actor-true (Rebuilder n) (Client m) is = cc
same_actor-true (Rebuilder n) Admin is = cc
same_actor-true Admin Admin is = refl
same_actor-true Admin (Client m) is = cc
same_actor-true Admin (Rebuilder m) is = cc

abbrev pub AreBy : Actor → List Event → Type 0
AreBy by xs = AllByRecursion (λ x. by_of x ≡ by) xs

pub of_actor-mine : (by : Actor) (xs h : List Event) → AreBy by xs → of_actor by (xs ++ h) ≡ xs ++ of_actor by h
of_actor-mine by [] h all = refl
of_actor-mine by (x ∷ xs) h all =
    ap (λ b. cond b (x ∷ of_actor by (xs ++ h)) (of_actor by (xs ++ h))) (ap (same_actor by) all.0 ∙ same_actor-refl by)
    ∙ ap (λ (z : List Event). x ∷ z) (of_actor-mine by xs h all.1)

pub of_actor-other : (a by : Actor) (xs h : List Event) → same_actor a by ≡ false → AreBy by xs → of_actor a (xs ++ h) ≡ of_actor a h
of_actor-other a by [] h apart all = refl
of_actor-other a by (x ∷ xs) h apart all =
    ap (λ b. cond b (x ∷ of_actor a (xs ++ h)) (of_actor a (xs ++ h))) (ap (same_actor a) all.0 ∙ apart) ∙ of_actor-other a by xs h apart all.1

-- Nodes.

same-record : (f g : Facts) → Extends f g → (s : ℕ) → IsKnown f s → record_in g s ≡ record_in f s
same-record f g ext s k = rw (ext.wrote s k.0 k.1, k.1) refl

same-records : (f g : Facts) → Extends f g → (ss : List ℕ) → AllByRecursion (IsKnown f) ss → map (record_in g) ss ≡ map (record_in f) ss
same-records f g ext [] k = refl
same-records f g ext (s ∷ ss) k =
    ap (λ (r : Held). r ∷ map (record_in g) ss) (same-record f g ext s k.0) ∙ ap (λ (rs : List Held). record_in f s ∷ rs) (same-records f g ext ss k.1)

same-pending : (f g : Facts) → Extends f g → (c : Change) → KnowsChange f c → pending_in g c ≡ pending_in f c
same-pending f g ext (change.Keep key s position) k = rw (ext.wrote s k.0 k.1, k.1) refl
same-pending f g ext (change.Refill fence key s position) k = rw (ext.wrote s k.0 k.1, k.1) refl
same-pending f g ext (change.Drop key s) k = refl

same-undecided : (f g : Facts) → Extends f g → (u : Option Change) → ((c : Change) → u ≡ Some c → KnowsChange f c) → option_map (pending_in g) u ≡ option_map (pending_in f) u
same-undecided f g ext None k = refl
same-undecided f g ext (Some c) k = ap Some (same-pending f g ext c (k c refl))

-- under more facts a node is the same
node-extends : (f g : Facts) → Extends f g → (w : List Event) (s : NodeState) → AllByRecursion (Knows f) w → IsNode f w s → IsNode g w s
node-extends f g ext w s k t = record {
  phase_is = t.phase_is;
  fence_is = t.fence_is;
  losses_is = t.losses_is;
  held_is = λ key. t.held_is key ∙ sym (ap (map (record_in g)) (held-extends f g ext w key k) ∙ same-records f g ext (held f w key) (held-known f w key k));
  whole = t.whole;
  undecided_is = t.undecided_is ∙ sym (same-undecided f g ext (undecided w) (undecided-known f w k));
}

-- an event of another word leaves a node as it was
pub node-frame : (v : Volume) (x : Event) (h : List Event) (m : ℕ) (s : NodeState) → IsLegalInRuns v h → same_word (Node m) (word_of x) ≡ false
    → IsNode (facts h) (node m h) s → IsNode (facts (x ∷ h)) (node m (x ∷ h)) s
node-frame v x h m s legal apart t =
    subst (λ (w : List Event). IsNode (facts (x ∷ h)) w s) (sym (ap (λ b. cond b (x ∷ node m h) (node m h)) apart))
    (node-extends (facts h) (facts (x ∷ h)) (extends-more (x ∷ []) h) (node m h) s
    (all-filter (Knows (facts h)) (λ y. same_word (Node m) (word_of y)) h (legal-knows v h legal)) t)

-- The nodes and the export are those of the log.
pub record AreTied (v : Volume) (h : List Event) (nodes : ℕ → NodeState) (s : ExportState) : Type 0 where
  pub nodes_are : (n : ℕ) → IsNode (facts h) (node n h) (nodes n)
  pub export_is : IsExport v (facts h) (export h) s

abbrev pub with_state : (ℕ → NodeState) → ℕ → NodeState → ℕ → NodeState
with_state nodes n s m = cond (m == n) s (nodes m)

-- after an event of the export
pub tied-export : (v : Volume) (x : Event) (h : List Event) (nodes : ℕ → NodeState) (s after : ExportState) → IsLegalInRuns v h → AreTied v h nodes s
    → word_of x ≡ Export → IsExport v (facts (x ∷ h)) (export (x ∷ h)) after → AreTied v (x ∷ h) nodes after
tied-export v x h nodes s after legal t is now = record {
  nodes_are = λ n. node-frame v x h n (nodes n) legal (ap (same_word (Node n)) is) (t.nodes_are n);
  export_is = now;
}

-- after an event that is not the export's
export-frame : (v : Volume) (x : Event) (h : List Event) (s : ExportState) → IsLegalInRuns v h → same_word Export (word_of x) ≡ false
    → IsExport v (facts h) (export h) s → IsExport v (facts (x ∷ h)) (export (x ∷ h)) s
export-frame v x h s legal apart t =
    subst (λ (w : List Event). IsExport v (facts (x ∷ h)) w s) (sym (ap (λ b. cond b (x ∷ export h) (export h)) apart)) (t ∙ sym (same-export v x h legal))

pub tied-own : (v : Volume) (x : Event) (h : List Event) (nodes : ℕ → NodeState) (s : ExportState) (by : Actor) → IsLegalInRuns v h → AreTied v h nodes s
    → word_of x ≡ Own by → AreTied v (x ∷ h) nodes s
tied-own v x h nodes s by legal t is = record {
  nodes_are = λ n. node-frame v x h n (nodes n) legal (ap (same_word (Node n)) is) (t.nodes_are n);
  export_is = export-frame v x h s legal (ap (same_word Export) is) t.export_is;
}

pub tied-node : (v : Volume) (x : Event) (h : List Event) (nodes : ℕ → NodeState) (s : ExportState) (n : ℕ) (after : NodeState) → IsLegalInRuns v h → AreTied v h nodes s
    → word_of x ≡ Node n → IsNode (facts (x ∷ h)) (node n (x ∷ h)) after → AreTied v (x ∷ h) (with_state nodes n after) s
tied-node v x h nodes s n after legal t is now = record {
  nodes_are = λ m. at m (m == n) refl;
  export_is = export-frame v x h s legal (ap (same_word Export) is) t.export_is;
}
  where
    at : (m : ℕ) (b : Bool) → (m == n) ≡ b → IsNode (facts (x ∷ h)) (node m (x ∷ h)) (cond b after (nodes m))
    at m true same = subst (λ k. IsNode (facts (x ∷ h)) (node k (x ∷ h)) after) (sym (eqb-true m n same)) now
    at m false other = node-frame v x h m (nodes m) legal (ap (same_word (Node m)) is ∙ other) (t.nodes_are m)

-- a word is no longer than the log
pub word-short : (p : Event → Bool) (h : List Event) → length (filter p h) ≤ length h
word-short p [] = omega arith
word-short p (x ∷ h) = go (p x) (word-short p h)
  where
    go : (b : Bool) → length (filter p h) ≤ length h → length (cond b (x ∷ filter p h) (filter p h)) ≤ length (x ∷ h)
    go true l = omega (arith, l)
    go false l = omega (arith, l)
