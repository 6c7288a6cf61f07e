-- Disks that come back beside the tokens of their nodes.
use Rattle.std.proofs.Common.{◌≡◌, ◌++◌, [], ◌∷◌, ℕ, List, map, sym, refl, ap, ◌∙◌, subst, inl}
use Rattle.std.specs.Prelude.{nat_eq}
use Rattle.std.specs.List.{AllByRecursion, AllZip, IsDistinct}
use Rattle.rz_disk.specs.Meter.{Meter, faults}
use Rattle.rz_events.specs.declared.events.Word.{Word}
use Rattle.rz_events.specs.declared.events.Word.TheVariants.{Node}
use Rattle.rz_events.specs.declared.events.Event.{Event}
use Rattle.rz_core.specs.History.{facts, of_word}
use Rattle.rz_node_laws.specs.Images.{AreImages, geometry_in}
use Rattle.rz_chronicle.specs.Keys.{events_at, word_key}
use Rattle.rz_chronicle.specs.Holds.{IsWordSettled}
use Rattle.rz_chronicle.specs.Kinds.{volume_in}
use Rattle.rz_chronicle.specs.Rules.{WordTokenView}
use Rattle.rz_chronicle.proofs.Same.{word-same}
use Rattle.rz_shared_locked.proofs.Behind.{alone, honest-keeps}
use Rattle.rz_shared_locked.specs.Counts.{AreCountedSince}
use Rattle.rz_shared.specs.Returned.{IsReturned}
use Rattle.rz_threads.specs.Left.{IsDiskLeft}

-- no number stands twice in the rest of a list
pub distinct-rest : (xs ys : List ℕ) → IsDistinct nat_eq (xs ++ ys) → IsDistinct nat_eq ys
unfolding IsDistinct
distinct-rest [] ys d = d
distinct-rest (x ∷ xs) ys d = distinct-rest xs ys d.1

pub distinct-tail : (x : ℕ) (xs : List ℕ) → IsDistinct nat_eq (x ∷ xs) → IsDistinct nat_eq xs
unfolding IsDistinct
distinct-tail x xs d = d.1

module _ {D : Type 0} (meter : D → Meter) (image : D → List ℕ → Type 0) (kind : List ℕ) (earlier : List Event) (anew : earlier ≡ []) (first : ℕ → ℕ) (log : List Event) where
  -- a disk beside the token of its own node
  left-own : (d : D) (p : WordTokenView) → IsWordSettled p log → (r : IsReturned meter image kind earlier first d p) → IsDiskLeft meter image kind first log r.node d
  left-own d p settled r =
      let key : word_key p.word ≡ word_key (Node r.node) = ap word_key r.word in
      let events : events_at (word_key (Node r.node)) log ≡ events_at (word_key (Node r.node)) p.log = subst (λ (k : ℕ). events_at k log ≡ events_at k p.log) key (settled.1 (word_key p.word) (inl refl)) in
      let same : of_word (Node r.node) log ≡ of_word (Node r.node) p.log = word-same (Node r.node) log p.log events in
      record {
        images = λ honest. subst (λ (h : List Event). AreImages (volume_in kind) (facts h) (of_word (Node r.node) h) r.node (geometry_in (volume_in kind) r.node) (image d)) (alone log earlier anew)
            (r.images (honest-keeps kind honest) log settled.0 events);
        counted = subst (λ (w : List Event). AreCountedSince (first r.node) (faults (meter d)) w) (sym same) r.counted;
      }

  same-node : (a b : ℕ) → Node a ≡ Node b → a ≡ b
  same-node a b is = cc (is)

  left-one : (d : D) (p : WordTokenView) (n : ℕ) → IsWordSettled p log → IsReturned meter image kind earlier first d p → p.word ≡ Node n → IsDiskLeft meter image kind first log n d
  left-one d p n settled r is = subst (λ (k : ℕ). IsDiskLeft meter image kind first log k d) (same-node r.node n (sym r.word ∙ is)) (left-own d p settled r)

  head-is : (a b : Word) (us ws : List Word) → a ∷ us ≡ b ∷ ws → a ≡ b
  head-is a b us ws is = cc (is)

  tail-is : (a b : Word) (us ws : List Word) → a ∷ us ≡ b ∷ ws → us ≡ ws
  tail-is a b us ws is = cc (is)

  none-is : (a : Word) (us : List Word) → [] ≡ a ∷ us → ⊥
  none-is a us is = cc (is)

  -- each of them, where the tokens are those of these nodes
  pub left-all : (ds : List D) (ps : List WordTokenView) (ns : List ℕ) → AllZip (IsReturned meter image kind earlier first) ds ps → AllByRecursion (λ (p : WordTokenView). IsWordSettled p log) ps → map (λ (p : WordTokenView). p.word) ps ≡ map Node ns
      → AllZip (IsDiskLeft meter image kind first log) ns ds
  left-all [] [] [] all settled words = tt
  left-all [] [] (n ∷ ns) all settled words = absurd (none-is _ _ words)
  left-all [] (p ∷ ps) ns all settled words = absurd all
  left-all (d ∷ ds) [] ns all settled words = absurd all
  left-all (d ∷ ds) (p ∷ ps) [] all settled words = absurd (none-is _ _ (sym words))
  left-all (d ∷ ds) (p ∷ ps) (n ∷ ns) all settled words = (
    left-one d p n settled.0 all.0 (head-is _ _ _ _ words),
    left-all ds ps ns all.1 settled.1 (tail-is _ _ _ _ words),
  )
