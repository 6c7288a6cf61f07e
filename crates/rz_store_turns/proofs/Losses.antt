-- A node that may lose no disk more is lost: fewer disks can be lost in a log than a count of 64 bits holds.
use Rattle.std.proofs.Common.{ℕ, Bool, true, false, ◌==◌, ◌≡◌, ◌≤◌, ◌<◌, ◌+◌, ◌-◌, ◌^◌, List, [], ◌∷◌, length, Some, None, cond, refl, sym, ◌∙◌, subst, arith}
use Rattle.std.proofs.lemmas.Bool.{eqb-true}
use Rattle.rz_events.specs.Volume.{Volume}
use Rattle.rz_events.specs.declared.nodes.Phase.{Phase}
use Rattle.rz_events.specs.declared.nodes.Phase.TheVariants.{Up, Down, Lost}
use Rattle.rz_events.specs.declared.events.Event.{Event}
use Rattle.rz_events.specs.declared.events.Event.TheVariants as e
use Rattle.rz_events.specs.declared.events.Word.{Word}
use Rattle.rz_node_model.specs.States.{NodeState}
use Rattle.rz_node_model.specs.Answers.{lose_answer, lose_in}
use Rattle.rz_core.specs.History.{Facts, facts, of_word}
use Rattle.rz_core.specs.NodeWord.{phase, losses}
use Rattle.rz_core.specs.Legal.{IsLegalInRuns}
use Rattle.rz_core.specs.Tied.{IsNode}
use Rattle.rz_core.proofs.NodeLaws.{node, at-node, at-own, IsRows, rows}

-- a lost node has lost one disk more than it got back
abbrev without_disk : Phase → ℕ
without_disk Lost = 1
without_disk Down = 0
without_disk Up = 0

without-low : (p : Phase) → without_disk p ≤ 1
without-low Lost = omega arith
without-low Down = omega arith
without-low Up = omega arith

with-disk : (p : Phase) → ¬ (p ≡ Lost) → without_disk p ≡ 0
with-disk Lost there = absurd (there refl)
with-disk Down there = refl
with-disk Up there = refl

-- between two losses there is a replacement
losses-half : (v : Volume) (f : Facts) (w : List Event) → IsRows v f w → losses w + losses w ≤ length w + without_disk (phase w)
losses-half v f [] r = omega arith
losses-half v f (e.Lose m l ∷ w) r =
    let i = losses-half v f w r.0 in
    let there = with-disk (phase w) r.1.2.there in
    let next = r.1.2.next in omega (arith, i, there, next)
losses-half v f (e.Broke by m change ∷ w) r = let i = losses-half v f w r.0 in let low = without-low (phase w) in omega (arith, i, low)
losses-half v f (e.Stop m ∷ w) r = let i = losses-half v f w r.0 in let low = without-low (phase w) in omega (arith, i, low)
losses-half v f (e.Start m took ∷ w) r = let i = losses-half v f w r.0 in let low = without-low (phase w) in omega (arith, i, low)
losses-half v f (e.Replace by m loss fence ∷ w) r = let i = losses-half v f w r.0 in let low = without-low (phase w) in omega (arith, i, low)
losses-half v f (x ∷ w) r = let i = losses-half v f w r.0 in omega (arith, i)

-- the word of a node is no longer than a log of its events may be
word-short : (v : Volume) (h : List Event) → IsLegalInRuns v h → (n : ℕ) → length (node n h) < 2 ^ 64
word-short v [] legal n = omega arith
word-short v (x ∷ h) legal n =
    at-node x h n (λ w. length w < 2 ^ 64)
    (λ is. (let room : length (node n h) < 2 ^ 64 - 1 = subst (λ (w : Word). length (of_word w h) < 2 ^ 64 - 1) is legal.1.room in omega (arith, room)))
    (word-short v h legal.0 n)

module _ (v : Volume) (h : List Event) (legal : IsLegalInRuns v h) (n : ℕ) (s : NodeState) (is : IsNode (facts h) (node n h) s) where
  losses-few : s.losses < 2 ^ 64 - 1
  losses-few =
      let half = losses-half v (facts h) (node n h) (rows v h legal n) in
      let short = word-short v h legal n in
      let low = without-low (phase (node n h)) in
      let same = is.losses_is in omega (arith, half, short, low, same)

  next-some : (b : Bool) → (s.losses == 2 ^ 64 - 1) ≡ b → None ≡ cond b None (Some (s.losses + 1)) → ⊥
  next-some true at none = let top = eqb-true s.losses (2 ^ 64 - 1) at in let few = losses-few in absurd (omega (arith, top, few))
  next-some false at none = cc

  -- it is lost, where it has no loss more
  pub lost-if-none : None ≡ lose_answer s → phase (node n h) ≡ Lost
  lost-if-none none = go s.phase refl none
    where
      go : (p : Phase) → s.phase ≡ p → None ≡ lose_in p s.losses → phase (node n h) ≡ Lost
      go Lost at last = sym is.phase_is ∙ at
      go Down at last = absurd (next-some (s.losses == 2 ^ 64 - 1) refl last)
      go Up at last = absurd (next-some (s.losses == 2 ^ 64 - 1) refl last)

-- it is lost after a loss
pub lost-after : (n loss : ℕ) (h : List Event) → phase (node n (e.Lose n loss ∷ h)) ≡ Lost
lost-after n loss h = at-own (e.Lose n loss) h n (λ w. phase w ≡ Lost) refl refl
