-- The fences of enrolments, and those that nodes have.
use Rattle.std.proofs.Common.{ℕ, Bool, true, false, ◌==◌, ◌&&◌, ◌≡◌, ◌⊎◌, inl, inr, ◌≤◌, ◌<◌, ◌+◌, List, [], ◌∷◌, ◌++◌, Option, Some, None, cond, refl, sym, ◌∙◌, ap, subst, arith}
use Rattle.std.specs.Prelude.{unwrap_or}
use Rattle.std.specs.Option.{option_map_or}
use Rattle.std.specs.FinMap as maps
use Rattle.std.proofs.lemmas.Bool.{eqb-true, eq-eqb, and_parts, and_from}
use Rattle.rz_events.specs.Volume.{Volume}
use Rattle.rz_events.specs.declared.keys.Actor.{Actor}
use Rattle.rz_events.specs.declared.nodes.Phase.TheVariants.{Up, Down, Lost}
use Rattle.rz_events.specs.declared.events.Word.TheVariants.{Export, Node}
use Rattle.rz_events.specs.declared.events.Event.{Event}
use Rattle.rz_events.specs.declared.events.Event.TheVariants as e
use Rattle.rz_events.specs.Events.{by_of, word_of, same_actor, same_word}
use Rattle.rz_export_model.specs.Export.{Enrolled}
use Rattle.rz_core.specs.History.{Facts, facts, Has}
use Rattle.rz_core.specs.NodeWord.{phase, losses, last_fence}
use Rattle.rz_core.specs.ExportWord.{enrolled, last_drawn, or_new}
use Rattle.rz_core.specs.Legal.{IsLegalInRuns}
use Rattle.rz_core.proofs.Stamps.{export, last_drawn-more}
use Rattle.rz_core.proofs.NodeLaws.{node, at-node, at-own, IsRows, rows, filter-has}
use Rattle.rz_core.proofs.EnrollLaws.{AreEnrolled, export-rows, enrolled-has, new_cases, none_before, fence_drawn}
use Rattle.rz_core.proofs.ExportCalls.{enrolment}
use Rattle.rz_log_laws.specs.Losses.{last_loss, AreLossesEnrolled, AreLossesKnown}
use Rattle.rz_log_laws.proofs.Losses.{enrolled-most, not_lost, broke-up, has-export, node-is}
use Rattle.rz_restart_laws.specs.Fences.{last_given, AreFencesGiven, AreFencesKnown, AreStaleTold}

-- ---- the fences of a word

module _ (v : Volume) (f : Facts) where
  -- each loss of a node has one
  one-fence : (w : List Event) → IsRows v f w → (by : Actor) (n l g : ℕ) → Has w (e.Enroll by n l g) → enrolled w n l ≡ Some g
  one-fence [] r by n l g has = absurd has
  one-fence (e.Enroll a m k j ∷ w) r by n l g has = go (one-fence w r.0 by n l g) ((n == m) && (l == k)) refl has
    where
      go : (Has w (e.Enroll by n l g) → enrolled w n l ≡ Some g) → (t : Bool) → ((n == m) && (l == k)) ≡ t
          → Has (e.Enroll a m k j ∷ w) (e.Enroll by n l g) → cond t (Some j) (enrolled w n l) ≡ Some g
      go rest true on (inl is) = let same : j ≡ g = cc in ap Some same
      go rest true on (inr has) =
          let p = and_parts _ _ on in
          let at : n ≡ m = eqb-true n m p.0 in
          let loss : l ≡ k = eqb-true l k p.1 in
          let old : enrolled w m k ≡ Some g = subst (λ z. enrolled w z k ≡ Some g) at (subst (λ z. enrolled w n z ≡ Some g) loss (rest has)) in
          ap Some (r.1.2.fence_is ∙ ap (λ o. or_new o (last_drawn w)) old)
      go rest false off (inl is) =
          let at : m ≡ n = cc in
          let loss : k ≡ l = cc in
          let on = and_from _ _ (eq-eqb n m (sym at)) (eq-eqb l k (sym loss)) in
          absurd (cc)
      go rest false off (inr has) = rest has
  one-fence (x ∷ w) r by n l g (inl is) = cc
  one-fence (x ∷ w) r by n l g (inr has) = one-fence w r.0 by n l g has

-- the last loss has a fence, where one was enrolled
last-fenced : (w : List Event) (n : ℕ) → (last_loss w n ≡ 0) ⊎ ((g : ℕ) × (enrolled w n (last_loss w n) ≡ Some g))
last-fenced [] n = inl refl
last-fenced (e.Enroll a m k j ∷ w) n = go (last-fenced w n) (n == m) refl
  where
    go : (last_loss w n ≡ 0) ⊎ ((g : ℕ) × (enrolled w n (last_loss w n) ≡ Some g)) → (t : Bool) → (n == m) ≡ t
        → (cond t k (last_loss w n) ≡ 0) ⊎ ((g : ℕ) × (cond (t && (cond t k (last_loss w n) == k)) (Some j) (enrolled w n (cond t k (last_loss w n))) ≡ Some g))
    go rest true on = inr (j, ap (λ b. cond b (Some j) (enrolled w n k)) (eq-eqb k k refl))
    go rest false off = rest
last-fenced (x ∷ w) n = last-fenced w n

-- ---- losses are numbered from 1

lost-some : (v : Volume) (f : Facts) (w : List Event) → IsRows v f w → phase w ≡ Lost → 1 ≤ losses w
lost-some v f [] r lost = absurd (cc)
lost-some v f (e.Lose m loss ∷ w) r lost = let next = r.1.2.next in omega (arith, next)
lost-some v f (e.Broke by m change ∷ w) r lost = absurd (cc)
lost-some v f (e.Stop m ∷ w) r lost = absurd (cc)
lost-some v f (e.Start m took ∷ w) r lost = absurd (cc)
lost-some v f (e.Replace by m loss fence ∷ w) r lost = absurd (cc)
lost-some v f (x ∷ w) r lost = lost-some v f w r.0 lost

-- so is each that a probe told
probed-some : (v : Volume) (h : List Event) → IsLegalInRuns v h → (n : ℕ) (by : Actor) (loss : ℕ) → Has h (e.Probe by n (Some loss)) → 1 ≤ loss
probed-some v [] legal n by loss has = absurd has
probed-some v (x ∷ h) legal n by loss (inl is) = told x legal is
  where
    told : (y : Event) → IsLegalInRuns v (y ∷ h) → y ≡ e.Probe by n (Some loss) → 1 ≤ loss
    told y legal is =
        let it = subst (λ z. IsLegalInRuns v (z ∷ h)) is legal in
        let row = it.1.row in
        let low = lost-some v (facts h) (node n h) (rows v h it.0 n) row.0 in
        let same = row.1 in omega (arith, low, same)
probed-some v (x ∷ h) legal n by loss (inr has) = probed-some v h legal.0 n by loss has

-- ---- the fence of a node

abbrev IsGiven : List Event → ℕ → List Event → Type 0
IsGiven e n w = ¬ (phase w ≡ Lost) → last_fence w ≡ last_given e n

-- an event of a node that was not lost, which gives it no fence
goes-on : (h : List Event) (x : Event) (n m : ℕ) → word_of x ≡ Node m → last_fence (x ∷ node n h) ≡ last_fence (node n h) → ¬ (phase (node m h) ≡ Lost)
    → IsGiven (export h) n (node n h) → IsGiven (export h) n (node n (x ∷ h))
goes-on h x n m of same up rest =
    at-node x h n (IsGiven (export h) n)
    (λ is alive. same ∙ rest (subst (λ z. ¬ (phase (node z h) ≡ Lost)) (node-is m n (sym of ∙ is)) up))
    rest

module _ (v : Volume) (law : AreLossesEnrolled v) where
  -- a replacement gives the fence of the node's last loss
  new-disk : (h : List Event) (by : Actor) (m loss fence n : ℕ) → IsLegalInRuns v (e.Replace by m loss fence ∷ h) → m ≡ n → fence ≡ last_given (export h) n
  new-disk h by m loss fence n legal at =
      let has = has-export by h (e.Enroll by m loss fence) legal.1.row.enrolled refl in
      let given = one-fence v (facts h) (export h) (export-rows v h legal.0) by m loss fence has in
      let word : node m (e.Replace by m loss fence ∷ h) ≡ e.Replace by m loss fence ∷ node m h = at-own (e.Replace by m loss fence) h m (λ w. w ≡ e.Replace by m loss fence ∷ node m h) refl refl in
      let there = law (e.Replace by m loss fence ∷ h) m legal (λ lost. (let up = ap phase word in cc)) in
      let last : loss ≡ last_loss (export h) m = legal.1.row.loss_is ∙ sym (ap losses word) ∙ there in
      let here : last_given (export h) m ≡ fence = ap (λ z. unwrap_or (enrolled (export h) m z) 0) (sym last) ∙ ap (λ o. unwrap_or o 0) given in
      subst (λ z. fence ≡ last_given (export h) z) at (sym here)

  -- an enrolment of a node that is not lost gives it its fence again
  given-again : (h : List Event) (by : Actor) (m loss fence n : ℕ) → IsLegalInRuns v (e.Enroll by m loss fence ∷ h) → n ≡ m → ¬ (phase (node n h) ≡ Lost)
      → last_loss (export (e.Enroll by m loss fence ∷ h)) n ≡ loss → last_given (export h) n ≡ fence
  given-again h by m loss fence n legal at alive top =
      let before = law h n legal.0 alive in
      let after = law (e.Enroll by m loss fence ∷ h) n legal alive in
      let same : last_loss (export h) n ≡ loss = sym before ∙ after ∙ top in
      let probe : Has h (e.Probe by m (Some loss)) = filter-has (λ y. same_actor by (by_of y)) h (e.Probe by m (Some loss)) legal.1.row.probed in
      let some = probed-some v h legal.0 m by loss probe in
      go same some (last-fenced (export h) n)
    where
      go : last_loss (export h) n ≡ loss → 1 ≤ loss → (last_loss (export h) n ≡ 0) ⊎ ((g : ℕ) × (enrolled (export h) n (last_loss (export h) n) ≡ Some g)) → last_given (export h) n ≡ fence
      go same some (inl none) = absurd (omega (arith, same, some, none))
      go same some (inr given) =
          let old : enrolled (export h) m loss ≡ Some given.0 = subst (λ z. enrolled (export h) z loss ≡ Some given.0) at (subst (λ z. enrolled (export h) n z ≡ Some given.0) same given.1) in
          ap (λ o. unwrap_or o 0) given.1 ∙ sym (legal.1.row.fence_is ∙ ap (λ o. or_new o (last_drawn (export h))) old)

  given : (h : List Event) → IsLegalInRuns v h → (n : ℕ) → IsGiven (export h) n (node n h)
  given [] legal n = λ alive. refl
  given (e.Lose m loss ∷ h) legal n =
      at-node (e.Lose m loss) h n (IsGiven (export h) n) (λ is alive. absurd (alive refl)) (given h legal.0 n)
  given (e.Broke by m change ∷ h) legal n =
      goes-on h (e.Broke by m change) n m refl refl (not_lost (phase (node m h)) Up (broke-up v h by m change legal.1.row) (λ q. cc)) (given h legal.0 n)
  given (e.Stop m ∷ h) legal n = goes-on h (e.Stop m) n m refl refl (not_lost (phase (node m h)) Up legal.1.row (λ q. cc)) (given h legal.0 n)
  given (e.Start m took ∷ h) legal n =
      goes-on h (e.Start m took) n m refl refl (not_lost (phase (node m h)) Down legal.1.row.down (λ q. cc)) (given h legal.0 n)
  given (e.Replace by m loss fence ∷ h) legal n =
      at-node (e.Replace by m loss fence) h n (IsGiven (export h) n) (λ is alive. new-disk h by m loss fence n legal (node-is m n is)) (given h legal.0 n)
  given (e.Enroll by m loss fence ∷ h) legal n = λ alive. go alive (given h legal.0 n alive) (given-again h by m loss fence n legal) (n == m) refl
    where
      go : ¬ (phase (node n h) ≡ Lost) → last_fence (node n h) ≡ last_given (export h) n
          → (n ≡ m → ¬ (phase (node n h) ≡ Lost) → cond (n == m) loss (last_loss (export h) n) ≡ loss → last_given (export h) n ≡ fence)
          → (t : Bool) → (n == m) ≡ t
          → last_fence (node n h) ≡ unwrap_or (cond (t && (cond t loss (last_loss (export h) n) == loss)) (Some fence) (enrolled (export h) n (cond t loss (last_loss (export h) n)))) 0
      go alive rest again false off = rest
      go alive rest again true on =
          rest ∙ again (eqb-true n m on) alive (ap (λ b. cond b loss (last_loss (export h) n)) on)
          ∙ sym (ap (λ b. unwrap_or (cond b (Some fence) (enrolled (export h) n loss)) 0) (eq-eqb loss loss refl))
  given (x ∷ h) legal n =
      let rest = given h legal.0 n in at-node x h n (IsGiven (export h) n) (λ is alive. rest alive) rest

pub fences-given : (v : Volume) → AreLossesEnrolled v → AreFencesGiven v
fences-given v law h n legal alive = given v law h legal n alive

-- ---- the fence that the export has

pub fences-known : (v : Volume) → AreLossesKnown v → AreFencesKnown v
fences-known v law h n s legal room tied = go (maps.get s.enrolled n) refl (law h n s legal room tied)
  where
    a : AreEnrolled s (export h)
    a = enrolment v h s (record { legal = legal; tied = tied; room = room })

    go : (o : Option Enrolled) → maps.get s.enrolled n ≡ o → option_map_or (λ (r : Enrolled). r.loss) (maps.get s.enrolled n) 0 ≡ last_loss (export h) n
        → option_map_or (λ (r : Enrolled). r.fence) o 0 ≡ last_given (export h) n
    go None none last =
        sym (ap (λ o. unwrap_or o 0) (none_before (export h) n (last_loss (export h) n) (λ by g has. a.none n none by (last_loss (export h) n) g has)))
    go (Some r) some last =
        let i = a.some n r some in
        let loss : r.loss ≡ last_loss (export h) n = sym (ap (λ (o : Option Enrolled). option_map_or (λ (z : Enrolled). z.loss) o 0) some) ∙ last in
        sym (ap (λ z. unwrap_or (enrolled (export h) n z) 0) (sym loss) ∙ ap (λ o. unwrap_or o 0) i.0)

-- ---- a later disk has a greater fence

drawn-later : (v : Volume) (more h : List Event) → IsLegalInRuns v (more ++ h) → last_drawn (export h) ≤ last_drawn (export (more ++ h))
drawn-later v [] h legal = omega arith
drawn-later v (x ∷ more) h legal =
    let low = drawn-later v more h legal.0 in let step = last_drawn-more v x (more ++ h) legal in omega (arith, low, step)

given-drawn : (v : Volume) (h : List Event) → IsLegalInRuns v h → (n : ℕ) → last_given (export h) n ≤ last_drawn (export h)
given-drawn v h legal n = go (enrolled (export h) n (last_loss (export h) n)) refl
  where
    go : (o : Option ℕ) → enrolled (export h) n (last_loss (export h) n) ≡ o → unwrap_or o 0 ≤ last_drawn (export h)
    go None none = omega arith
    go (Some g) some =
        let has = enrolled-has (export h) n (last_loss (export h) n) g some in
        fence_drawn v (facts h) (export h) (export-rows v h legal) has.0 n (last_loss (export h) n) g has.1

-- the fence of a loss that is new since a log was drawn after it
drawn-since : (v : Volume) (h more : List Event) → IsLegalInRuns v (more ++ h) → (by : Actor) (n l g : ℕ) → last_loss (export h) n < l
    → Has (export (more ++ h)) (e.Enroll by n l g) → last_drawn (export h) < g
drawn-since v h [] legal by n l g less has = let low = enrolled-most v h legal n by l g has in absurd (omega (arith, less, low))
drawn-since v h (e.Enroll a m k j ∷ more) legal by n l g less (inl is) =
    let at : m ≡ n = cc in
    let loss : k ≡ l = cc in
    let fence : j ≡ g = cc in
    new at loss fence (new_cases (enrolled (export (more ++ h)) m k) (last_drawn (export (more ++ h))) j legal.1.row.fence_is) (λ b has. drawn-since v h more legal.0 b n l g less has)
  where
    new : m ≡ n → k ≡ l → j ≡ g → (enrolled (export (more ++ h)) m k ≡ Some j) ⊎ (j ≡ last_drawn (export (more ++ h)) + 1)
        → ((b : Actor) → Has (export (more ++ h)) (e.Enroll b n l g) → last_drawn (export h) < g) → last_drawn (export h) < g
    new at loss fence (inl old) rest =
        let has = enrolled-has (export (more ++ h)) m k j old in
        rest has.0
        (subst (λ z. Has (export (more ++ h)) (e.Enroll has.0 n l z)) fence
        (subst (λ z. Has (export (more ++ h)) (e.Enroll has.0 n z j)) loss
        (subst (λ z. Has (export (more ++ h)) (e.Enroll has.0 z k j)) at has.1)))
    new at loss fence (inr drawn) rest = let low = drawn-later v more h legal.0 in omega (arith, fence, drawn, low)
drawn-since v h (e.Enroll a m k j ∷ more) legal by n l g less (inr has) = drawn-since v h more legal.0 by n l g less has
drawn-since v h (x ∷ more) legal by n l g less has = go (drawn-since v h more legal.0 by n l g less) (same_word Export (word_of x)) refl has
  where
    go : (Has (export (more ++ h)) (e.Enroll by n l g) → last_drawn (export h) < g) → (t : Bool) → same_word Export (word_of x) ≡ t
        → Has (cond t (x ∷ export (more ++ h)) (export (more ++ h))) (e.Enroll by n l g) → last_drawn (export h) < g
    go rest true is (inl same) = cc
    go rest true is (inr old) = rest old
    go rest false is old = rest old

pub stale-told : (v : Volume) → AreLossesEnrolled v → AreStaleTold v
stale-told v law h more n legal alive still fewer =
    let old = rest more legal in
    let was = law h n old alive in
    let now = law (more ++ h) n legal still in
    let from = given v law h old n alive in
    let to = given v law (more ++ h) legal n still in
    let low = given-drawn v h old n in
    let high = above (last-fenced (export (more ++ h)) n) (omega (arith, was, now, fewer)) in
    omega (arith, from, to, low, high)
  where
    rest : (more : List Event) → IsLegalInRuns v (more ++ h) → IsLegalInRuns v h
    rest [] legal = legal
    rest (x ∷ more) legal = rest more legal.0

    above : (last_loss (export (more ++ h)) n ≡ 0) ⊎ ((g : ℕ) × (enrolled (export (more ++ h)) n (last_loss (export (more ++ h)) n) ≡ Some g))
        → last_loss (export h) n < last_loss (export (more ++ h)) n → last_drawn (export h) < last_given (export (more ++ h)) n
    above (inl none) less = absurd (omega (arith, none, less))
    above (inr given) less =
        let has = enrolled-has (export (more ++ h)) n (last_loss (export (more ++ h)) n) given.0 given.1 in
        let high = drawn-since v h more legal has.0 n (last_loss (export (more ++ h)) n) given.0 less has.1 in
        let same : last_given (export (more ++ h)) n ≡ given.0 = ap (λ o. unwrap_or o 0) given.1 in
        omega (arith, high, same)
