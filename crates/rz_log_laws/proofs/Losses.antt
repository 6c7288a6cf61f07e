-- Losses and their enrolments.
use Rattle.std.proofs.Common.{ℕ, Bool, true, false, ◌==◌, ◌≡◌, inl, inr, ◌≤◌, List, [], ◌∷◌, Option, Some, None, cond, refl, sym, ◌∙◌, ap, subst, arith}
use Rattle.std.specs.Option.{option_map_or}
use Rattle.std.specs.FinMap as maps
use Rattle.std.proofs.lemmas.Bool.{eqb-true, eq-eqb}
use Rattle.rz_events.specs.Volume.{Volume}
use Rattle.rz_events.specs.declared.keys.Actor.{Actor}
use Rattle.rz_events.specs.declared.records.Change.{Change}
use Rattle.rz_events.specs.declared.nodes.Phase.{Phase}
use Rattle.rz_events.specs.declared.nodes.Phase.TheVariants.{Up, Down, Lost}
use Rattle.rz_events.specs.declared.events.Word.TheVariants.{Export, Node}
use Rattle.rz_events.specs.declared.events.Event.{Event}
use Rattle.rz_events.specs.declared.events.Event.TheVariants as e
use Rattle.rz_events.specs.Events.{by_of, word_of, same_actor, same_word}
use Rattle.rz_export_model.specs.Export.{Enrolled}
use Rattle.rz_core.specs.History.{facts, of_word, of_actor, Has}
use Rattle.rz_core.specs.NodeWord.{phase, losses}
use Rattle.rz_core.specs.NodeRows.{BrokeRow}
use Rattle.rz_core.specs.ExportWord.{enrolled}
use Rattle.rz_core.specs.Legal.{IsLegalInRuns}
use Rattle.rz_core.proofs.Stamps.{export}
use Rattle.rz_core.proofs.NodeLaws.{node, at-node, did-up, filter-has, has-filter}
use Rattle.rz_core.proofs.EnrollLaws.{AreEnrolled, enrolled-has}
use Rattle.rz_core.proofs.ExportCalls.{enrolment}
use Rattle.rz_log_laws.specs.Losses.{last_loss, AreLossesEnrolled, AreLossesKnown}

-- no loss that is enrolled is above the last one
pub enrolled-most : (v : Volume) (h : List Event) → IsLegalInRuns v h → (n : ℕ) (by : Actor) (loss fence : ℕ) → Has (export h) (e.Enroll by n loss fence) → loss ≤ last_loss (export h) n
enrolled-most v [] legal n by loss fence has = absurd has
enrolled-most v (e.Enroll a m l f ∷ h) legal n by loss fence has = go (enrolled-most v h legal.0 n by loss fence) (n == m) refl has
  where
    here : n ≡ m → Has (export (e.Enroll a m l f ∷ h)) (e.Enroll by n loss fence) → loss ≤ l
    here at (inl is) = let same : l ≡ loss = cc in omega (arith, same)
    here at (inr old) = legal.1.row.top by loss fence (subst (λ z. Has (export h) (e.Enroll by z loss fence)) at old)

    go : (Has (export h) (e.Enroll by n loss fence) → loss ≤ last_loss (export h) n) → (t : Bool) → (n == m) ≡ t
        → Has (export (e.Enroll a m l f ∷ h)) (e.Enroll by n loss fence) → loss ≤ cond t l (last_loss (export h) n)
    go rest true at has = here (eqb-true n m at) has
    go rest false off (inl is) = let same : m ≡ n = cc in let on = eq-eqb n m (sym same) in absurd cc
    go rest false off (inr old) = rest old
enrolled-most v (x ∷ h) legal n by loss fence has = go (enrolled-most v h legal.0 n by loss fence) (same_word Export (word_of x)) refl has
  where
    go : (Has (export h) (e.Enroll by n loss fence) → loss ≤ last_loss (export h) n) → (t : Bool) → same_word Export (word_of x) ≡ t → Has (cond t (x ∷ export h) (export h)) (e.Enroll by n loss fence) → loss ≤ last_loss (export h) n
    go rest true is (inl same) = cc
    go rest true is (inr old) = rest old
    go rest false is old = rest old

-- what the events of a node's word say of its losses, beside the loss that was enrolled last
record Counts (w : List Event) (enrolled : ℕ) : Type 0 where
  most : enrolled ≤ losses w
  mended : ¬ (phase w ≡ Lost) → losses w ≡ enrolled

-- a node that is up or down is not lost
pub not_lost : (p q : Phase) → p ≡ q → ¬ (q ≡ Lost) → ¬ (p ≡ Lost)
not_lost p q is never lost = never (sym is ∙ lost)

pub broke-up : (v : Volume) (h : List Event) (by : Actor) (m : ℕ) (c : Option Change) → BrokeRow v (facts h) (node m h) (of_actor by h) by m c → phase (node m h) ≡ Up
broke-up v h by m None r = r
broke-up v h by m (Some c) r = did-up v (facts h) (node m h) (of_actor by h) by m c r

-- a node that goes on without a loss
goes-on : (v : Volume) (h : List Event) (x : Event) (n m enrolled : ℕ) → word_of x ≡ Node m → losses (x ∷ node n h) ≡ losses (node n h) → ¬ (phase (node m h) ≡ Lost) → Counts (node n h) enrolled
    → Counts (node n (x ∷ h)) enrolled
goes-on v h x n m enrolled of same up c =
    at-node x h n (λ w. Counts w enrolled)
    (λ is. record {
      most = subst (λ z. enrolled ≤ z) (sym same) c.most;
      mended = λ alive. same ∙ c.mended (subst (λ z. ¬ (phase (of_word z h) ≡ Lost)) (sym of ∙ is) up);
    })
    c

-- losses rise
losses-more : (v : Volume) (x : Event) (h : List Event) → IsLegalInRuns v (x ∷ h) → (n : ℕ) → losses (node n h) ≤ losses (node n (x ∷ h))
losses-more v (e.Lose m loss) h legal n =
    let next = legal.1.row.next in
    at-node (e.Lose m loss) h n (λ w. losses (node n h) ≤ losses w)
    (λ is. (let same = ap (λ z. losses (of_word z h)) is in omega (arith, next, same))) (omega arith)
losses-more v x h legal n = at-node x h n (λ w. losses (node n h) ≤ losses w) (λ is. omega arith) (omega arith)

-- a loss that a probe told is one of the node's
probed-most : (v : Volume) (h : List Event) → IsLegalInRuns v h → (n : ℕ) (by : Actor) (loss : ℕ) → Has h (e.Probe by n (Some loss)) → loss ≤ losses (node n h)
probed-most v [] legal n by loss has = absurd has
probed-most v (x ∷ h) legal n by loss (inl is) = told x legal is
  where
    told : (y : Event) → IsLegalInRuns v (y ∷ h) → y ≡ e.Probe by n (Some loss) → loss ≤ losses (node n (y ∷ h))
    told y legal is = subst (λ z. loss ≤ losses (node n (z ∷ h))) (sym is)
        (at-node (e.Probe by n (Some loss)) h n (λ w. loss ≤ losses w) (λ at. now) now)
      where
        now : loss ≤ losses (node n h)
        now = let row = (subst (λ z. IsLegalInRuns v (z ∷ h)) is legal).1.row in let l = row.1 in omega (arith, l)
probed-most v (x ∷ h) legal n by loss (inr has) = let i = probed-most v h legal.0 n by loss has in let m = losses-more v x h legal n in omega (arith, i, m)

-- an actor's own event of the export's word is an event of that word
pub has-export : (by : Actor) (h : List Event) (x : Event) → Has (of_actor by h) x → word_of x ≡ Export → Has (export h) x
has-export by h x has is = has-filter (λ y. same_word Export (word_of y)) h x (ap (same_word Export) is) (filter-has (λ y. same_actor by (by_of y)) h x has)

pub node-is : (m n : ℕ) → Node m ≡ Node n → m ≡ n
node-is m n is = cc

-- the loss that is enrolled last is at most what all enrolments are
last-least : (w : List Event) (n most : ℕ) → ((by : Actor) (loss fence : ℕ) → Has w (e.Enroll by n loss fence) → loss ≤ most) → last_loss w n ≤ most
last-least [] n most all = omega arith
last-least (e.Enroll by m loss fence ∷ w) n most all = go (last-least w n most (λ b l f has. all b l f (inr has))) (n == m) refl
  where
    go : last_loss w n ≤ most → (t : Bool) → (n == m) ≡ t → cond t loss (last_loss w n) ≤ most
    go rest true at = all by loss fence (inl (ap (λ z. e.Enroll by z loss fence) (sym (eqb-true n m at))))
    go rest false off = rest
last-least (x ∷ w) n most all = last-least w n most (λ b l f has. all b l f (inr has))

counts : (v : Volume) (h : List Event) → IsLegalInRuns v h → (n : ℕ) → Counts (node n h) (last_loss (export h) n)
counts v [] legal n = record { most = omega arith; mended = λ alive. refl }
counts v (e.Lose m loss ∷ h) legal n =
    let c = counts v h legal.0 n in
    let next = legal.1.row.next in
    let most = c.most in
    at-node (e.Lose m loss) h n (λ w. Counts w (last_loss (export h) n))
    (λ is. record {
      most = (let same = ap (λ z. losses (of_word z h)) is in omega (arith, next, same, most));
      mended = λ alive. absurd (alive refl);
    })
    c
counts v (e.Broke by m change ∷ h) legal n =
    goes-on v h (e.Broke by m change) n m (last_loss (export h) n) refl refl (not_lost (phase (node m h)) Up (broke-up v h by m change legal.1.row) (λ q. cc)) (counts v h legal.0 n)
counts v (e.Stop m ∷ h) legal n =
    goes-on v h (e.Stop m) n m (last_loss (export h) n) refl refl (not_lost (phase (node m h)) Up legal.1.row (λ q. cc)) (counts v h legal.0 n)
counts v (e.Start m took ∷ h) legal n =
    goes-on v h (e.Start m took) n m (last_loss (export h) n) refl refl (not_lost (phase (node m h)) Down legal.1.row.down (λ q. cc)) (counts v h legal.0 n)
counts v (e.Replace by m loss fence ∷ h) legal n =
    let c = counts v h legal.0 n in
    let most = c.most in
    let has = has-export by h (e.Enroll by m loss fence) legal.1.row.enrolled refl in
    let known = enrolled-most v h legal.0 m by loss fence has in
    let own = legal.1.row.loss_is in
    at-node (e.Replace by m loss fence) h n (λ w. Counts w (last_loss (export h) n))
    (λ is. record {
      most = most;
      mended = λ alive. (let at = node-is m n is in let same = ap (λ z. losses (node z h)) at in let told = ap (λ z. last_loss (export h) z) at in omega (arith, most, known, own, same, told));
    })
    c
counts v (e.Enroll by m loss fence ∷ h) legal n = go (counts v h legal.0 n) (n == m) refl
  where
    go : Counts (node n h) (last_loss (export h) n) → (t : Bool) → (n == m) ≡ t → Counts (node n h) (cond t loss (last_loss (export h) n))
    go c false off = c
    go c true at =
        let on = eqb-true n m at in
        let probe : Has h (e.Probe by m (Some loss)) = filter-has (λ y. same_actor by (by_of y)) h (e.Probe by m (Some loss)) legal.1.row.probed in
        let low = subst (λ z. loss ≤ losses (node z h)) (sym on) (probed-most v h legal.0 m by loss probe) in
        let high : last_loss (export h) n ≤ loss = top on in record {
          most = low;
          mended = λ alive. (let same = c.mended alive in omega (arith, low, high, same));
        }
      where
        top : n ≡ m → last_loss (export h) n ≤ loss
        top on = last-least (export h) n loss (λ b k j has. legal.1.row.top b k j (subst (λ z. Has (export h) (e.Enroll b z k j)) on has))
counts v (x ∷ h) legal n =
    let c = counts v h legal.0 n in at-node x h n (λ w. Counts w (last_loss (export h) n)) (λ is. record { most = c.most; mended = c.mended }) c

pub enrolled-losses : (v : Volume) → AreLossesEnrolled v
enrolled-losses v h n legal alive = (counts v h legal n).mended alive

pub known-losses : (v : Volume) → AreLossesKnown v
known-losses v h n s legal room tied = go (maps.get s.enrolled n) refl
  where
    a : AreEnrolled s (export h)
    a = enrolment v h s (record { legal = legal; tied = tied; room = room })

    go : (o : Option Enrolled) → maps.get s.enrolled n ≡ o → option_map_or (λ r. r.loss) o 0 ≡ last_loss (export h) n
    go None none = let low = last-least (export h) n 0 (λ by l f has. absurd (a.none n none by l f has)) in omega (arith, low)
    go (Some r) some =
        let i = a.some n r some in
        let low = last-least (export h) n r.loss i.1 in
        let has = enrolled-has (export h) n r.loss r.fence i.0 in
        let high = enrolled-most v h legal n has.0 r.loss r.fence has.1 in
        omega (arith, low, high)
