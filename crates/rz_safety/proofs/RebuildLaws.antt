-- A finished rebuild is complete.
use Rattle.std.proofs.Common.{ℕ, Bool, true, false, not, ◌==◌, ◌≡◌, ◌⊎◌, inl, inr, ◌≤◌, ◌<◌, ◌+◌, List, [], ◌∷◌, Option, Some, None, cond, refl, sym, ◌∙◌, ap, subst, arith, ◌&&◌}
use Rattle.std.specs.List.{AllByRecursion}
use Rattle.std.proofs.lemmas.Bool.{eqb-true, eq-eqb, cases_lt}
use Rattle.rz_events.specs.Volume.{Volume}
use Rattle.rz_events.specs.declared.keys.Key.{Key}
use Rattle.rz_events.specs.declared.keys.Actor.{Actor}
use Rattle.rz_events.specs.declared.files.Listed.{Listed}
use Rattle.rz_events.specs.declared.files.Published.{Published}
use Rattle.rz_events.specs.declared.records.Change.TheVariants as change
use Rattle.rz_events.specs.declared.nodes.Phase.TheVariants.{Lost}
use Rattle.rz_events.specs.declared.events.Event.{Event}
use Rattle.rz_events.specs.declared.events.Event.TheVariants as e
use Rattle.rz_events.specs.Events.{by_of, same_actor, same_key}
use Rattle.rz_node_model.specs.Versions.{Stands, IsPast}
use Rattle.rz_core.specs.History.{Facts, facts, wrote, of_actor, Has, IsPlace, base_in, length_in}
use Rattle.rz_core.specs.NodeWord.{phase, losses, last_fence, held, base_begun}
use Rattle.rz_core.specs.ExportWord.{accepted, is_newer, is_gone, is_made}
use Rattle.rz_events.specs.Masks.{HasBit}
use Rattle.rz_core.specs.ExportRows.{IsLess, IsAfter, IsListed}
use Rattle.rz_core.specs.Legal.{IsLegalInRuns, Row}
use Rattle.rz_core.proofs.Extends.{some_length}
use Rattle.rz_core.proofs.Keys.{less-trans, parts-less}
use Rattle.rz_core.proofs.Locality.{all-filter}
use Rattle.rz_core.proofs.Stamps.{export, same_key-refl, key_ext, accepted_cases}
use Rattle.rz_safety.specs.Kept.{before_published}
use Rattle.rz_safety.specs.Rebuilt.{Stage, Ready, Told, Ended, IsRun as IsRunAt, IsComplete}
use Rattle.rz_core.proofs.NodeLaws.{at-own, at-node, node, node-row, holds, filter-has, pairs}
use Rattle.rz_safety.proofs.NodeLaws.{node-step, IsBegun}
use Rattle.rz_safety.proofs.KeptLaws.{accepted-kept, accepted-made, published-stays, held-begun, refilled-new, pass-holds, bases, live-before, place-before, not_gone}
use Rattle.rz_safety.proofs.FenceLaws.{losses-more, lost-losses, enrolled-above, barred, published-free}

-- the answer of the last next since the replacement
abbrev pub listed : List Event → Option Listed
listed [] = None
listed (e.Replace by n loss fence ∷ o) = None
listed (e.Next by n after answer ∷ o) = answer
listed (_ ∷ o) = listed o

-- the key and stamp are those that were listed last, and the next may now ask after the key
abbrev pub IsMove : List Event → Key → ℕ → Option Key → Type 0
IsMove o key s a = (l : Listed) × (listed o ≡ Some l) × (l.key ≡ key) × (l.published.stamp ≡ s) × (a ≡ Some key)

-- Own events since the replacement, after which a next may ask after a: all that completeness needs of a run.
abbrev pub IsRun : List Event → ℕ → ℕ → ℕ → Option Key → Type 0
IsRun [] n loss fence a = ⊥
IsRun (e.Replace by m l f ∷ o) n loss fence a = (m ≡ n) × (l ≡ loss) × (f ≡ fence) × (a ≡ None)
IsRun (e.Next by m after answer ∷ o) n loss fence a = (m ≡ n) × (a ≡ after) × IsRun o n loss fence after
IsRun (e.Did by m (change.Refill f key s p) ∷ o) n loss fence a =
    IsRun o n loss fence a ⊎ ((m ≡ n) × IsMove o key s a × ((b : Option Key) × IsRun o n loss fence b))
IsRun (e.Passed by m key s now ∷ o) n loss fence a =
    IsRun o n loss fence a ⊎ ((m ≡ n) × IsMove o key s a × ((b : Option Key) × IsRun o n loss fence b))
IsRun (_ ∷ o) n loss fence a = IsRun o n loss fence a

-- the last next answered none
abbrev pub IsEnded : List Event → Type 0
IsEnded [] = ⊥
IsEnded (e.Replace by m l f ∷ o) = ⊥
IsEnded (e.Next by m after None ∷ o) = Unit {0}
IsEnded (e.Next by m after (Some l) ∷ o) = ⊥
IsEnded (_ ∷ o) = IsEnded o

-- what a stage says of a run
abbrev pub IsAtStage : List Event → ℕ → ℕ → ℕ → Stage → Type 0
IsAtStage o n loss fence (Ready a) = IsRun o n loss fence a
IsAtStage o n loss fence (Told a key s) = IsRun o n loss fence a × ((l : Listed) × (listed o ≡ Some l) × (l.key ≡ key) × (l.published.stamp ≡ s))
IsAtStage o n loss fence Ended = ((a : Option Key) × IsRun o n loss fence a) × IsEnded o

-- an event that a run passes over leaves what its stage says
refill-same : (o : List Event) (by : Actor) (m f : ℕ) (k : Key) (t p n loss fence : ℕ) (stage : Stage) → IsAtStage o n loss fence stage → IsAtStage (e.Did by m (change.Refill f k t p) ∷ o) n loss fence stage
refill-same o by m f k t p n loss fence (Ready a) r = inl r
refill-same o by m f k t p n loss fence (Told a key s) r = (inl r.0, r.1)
refill-same o by m f k t p n loss fence Ended r = ((r.0.0, inl r.0.1), r.1)

pass-same : (o : List Event) (by : Actor) (m : ℕ) (k : Key) (t now n loss fence : ℕ) (stage : Stage) → IsAtStage o n loss fence stage → IsAtStage (e.Passed by m k t now ∷ o) n loss fence stage
pass-same o by m k t now n loss fence (Ready a) r = inl r
pass-same o by m k t now n loss fence (Told a key s) r = (inl r.0, r.1)
pass-same o by m k t now n loss fence Ended r = ((r.0.0, inl r.0.1), r.1)

pub run-stage : (o : List Event) (n loss fence count : ℕ) (stage : Stage) → IsRunAt o n loss fence count stage → IsAtStage o n loss fence stage
run-stage [] n loss fence count stage r = absurd r
run-stage (e.Replace by m l f ∷ o) n loss fence count stage (p, q, u, c, is) =
    subst (IsAtStage (e.Replace by m l f ∷ o) n loss fence) (sym is) (p, q, u, refl)
run-stage (e.Next by m after None ∷ o) n loss fence count stage (p, is, r) =
    subst (IsAtStage (e.Next by m after None ∷ o) n loss fence) (sym is) ((after, (p, refl, run-stage o n loss fence count (Ready after) r)), tt)
run-stage (e.Next by m after (Some l) ∷ o) n loss fence count stage (p, is, r) =
    subst (IsAtStage (e.Next by m after (Some l) ∷ o) n loss fence) (sym is) ((p, refl, run-stage o n loss fence count (Ready after) r), (l, refl, refl, refl))
run-stage (e.Did by m (change.Refill f key s p) ∷ o) n loss fence count stage (inl (other, r)) =
    refill-same o by m f key s p n loss fence stage (run-stage o n loss fence count stage r)
run-stage (e.Did by m (change.Refill f key s p) ∷ o) n loss fence count stage (inr (there, is, (a, done, more, r))) =
    let i = run-stage o n loss fence done (Told a key s) r in
    let (l, at, on, stamped) = i.1 in
    subst (IsAtStage (e.Did by m (change.Refill f key s p) ∷ o) n loss fence) (sym is) (inr (there, (l, at, on, stamped, refl), (a, i.0)))
run-stage (e.Passed by m key s now ∷ o) n loss fence count stage (inl r) =
    pass-same o by m key s now n loss fence stage (run-stage o n loss fence count stage r)
run-stage (e.Passed by m key s now ∷ o) n loss fence count stage (inr (there, is, (a, done, more, r))) =
    let i = run-stage o n loss fence done (Told a key s) r in
    let (l, at, on, stamped) = i.1 in
    subst (IsAtStage (e.Passed by m key s now ∷ o) n loss fence) (sym is) (inr (there, (l, at, on, stamped, refl), (a, i.0)))
run-stage (e.Recheck by key answer ∷ o) n loss fence count stage (inl r) = at_same stage (run-stage o n loss fence count stage r)
  where
    at_same : (z : Stage) → IsAtStage o n loss fence z → IsAtStage (e.Recheck by key answer ∷ o) n loss fence z
    at_same (Ready a) r = r
    at_same (Told a k s) r = r
    at_same Ended r = r
run-stage (e.Recheck by key answer ∷ o) n loss fence count stage (inr (a, s, is, other, r)) =
    let i = run-stage o n loss fence count (Told a key s) r in
    subst (IsAtStage (e.Recheck by key answer ∷ o) n loss fence) (sym is) i.0
run-stage (x ∷ o) n loss fence count stage r = at_same stage (run-stage o n loss fence count stage r)
  where
    at_same : (z : Stage) → IsAtStage o n loss fence z → IsAtStage (x ∷ o) n loss fence z
    at_same (Ready a) r = r
    at_same (Told a k s) r = r
    at_same Ended r = r

-- the order of keys
abbrev pub IsUpTo : Option Key → Key → Type 0
IsUpTo None key = ⊥
IsUpTo (Some a) key = (key ≡ a) ⊎ IsLess key a

nat_cases : (m n : ℕ) → (m < n) ⊎ ((m ≡ n) ⊎ (n < m))
nat_cases m n = elim (cases_lt m n) [ inl l ↦ inl l | inr l ↦ elim (cases_lt n m) [ inl k ↦ inr (inr k) | inr k ↦ inr (inl (omega arith)) ] ]

key_cases : (a key : Key) → IsLess a key ⊎ ((key ≡ a) ⊎ IsLess key a)
key_cases a key =
    elim (nat_cases a.fid key.fid) [
      | inl l ↦ inl (parts-less a key (inl l))
      | inr rest ↦ elim rest [
        | inr g ↦ inr (inr (parts-less key a (inl g)))
        | inl same ↦ elim (nat_cases a.block key.block) [
          | inl l ↦ inl (parts-less a key (inr (same, l)))
          | inr more ↦ elim more [
            | inl eq ↦ inr (inl (key_ext key a (sym same) (sym eq)))
            | inr g ↦ inr (inr (parts-less key a (inr (sym same, g))))
          ]
        ]
      ]
    ]

after_cases : (after : Option Key) (key : Key) → IsAfter after key ⊎ IsUpTo after key
after_cases None key = inl tt
after_cases (Some a) key = key_cases a key

upto-less : (after : Option Key) (key b : Key) → IsUpTo after key → IsAfter after b → IsLess key b
upto-less None key b up l = absurd up
upto-less (Some a) key b (inl same) l = subst (λ z. IsLess z b) (sym same) l
upto-less (Some a) key b (inr less) l = less-trans key a b less l

-- what a run has done for the write s of a key, as far as it is the published one
abbrev pub IsDone : List Event → ℕ → Key → ℕ → Type 0
IsDone [] n key s = ⊥
IsDone (e.Replace by m l f ∷ o) n key s = ⊥
IsDone (e.Next by m after None ∷ o) n key s = Unit {0}
IsDone (e.Next by m after (Some l) ∷ o) n key s = IsLess key l.key ⊎ ((key ≡ l.key) × ¬ (s ≡ l.published.stamp))
IsDone (e.Did by m (change.Refill f k t p) ∷ o) n key s = ((m ≡ n) × (k ≡ key) × (t ≡ s)) ⊎ IsDone o n key s
IsDone (e.Passed by m k t now ∷ o) n key s = ((m ≡ n) × (k ≡ key) × (t ≡ s)) ⊎ IsDone o n key s
IsDone (_ ∷ o) n key s = IsDone o n key s

ended-done : (o : List Event) (n : ℕ) (key : Key) (s : ℕ) → IsEnded o → IsDone o n key s
ended-done [] n key s k = absurd k
ended-done (e.Replace by m l f ∷ o) n key s k = absurd k
ended-done (e.Next by m after None ∷ o) n key s k = tt
ended-done (e.Next by m after (Some l) ∷ o) n key s k = absurd k
ended-done (e.Did by m (change.Refill f k' t p) ∷ o) n key s k = inr (ended-done o n key s k)
ended-done (e.Did by m (change.Keep k' t p) ∷ o) n key s k = ended-done o n key s k
ended-done (e.Did by m (change.Drop k' t) ∷ o) n key s k = ended-done o n key s k
ended-done (e.Passed by m k' t now ∷ o) n key s k = inr (ended-done o n key s k)
ended-done (x ∷ o) n key s k = ended-done o n key s k

listed-done : (o : List Event) (l : Listed) (n : ℕ) (key : Key) (s : ℕ) → listed o ≡ Some l → IsLess key l.key ⊎ ((key ≡ l.key) × ¬ (s ≡ l.published.stamp)) → IsDone o n key s
listed-done [] l n key s is d = cc
listed-done (e.Replace by m l' f ∷ o) l n key s is d = cc
listed-done (e.Next by m after None ∷ o) l n key s is d = cc
listed-done (e.Next by m after (Some l') ∷ o) l n key s is d =
    let same : l' ≡ l = cc in subst (λ (z : Listed). IsLess key z.key ⊎ ((key ≡ z.key) × ¬ (s ≡ z.published.stamp))) (sym same) d
listed-done (e.Did by m (change.Refill f k' t p) ∷ o) l n key s is d = inr (listed-done o l n key s is d)
listed-done (e.Did by m (change.Keep k' t p) ∷ o) l n key s is d = listed-done o l n key s is d
listed-done (e.Did by m (change.Drop k' t) ∷ o) l n key s is d = listed-done o l n key s is d
listed-done (e.Passed by m k' t now ∷ o) l n key s is d = inr (listed-done o l n key s is d)
listed-done (x ∷ o) l n key s is d = listed-done o l n key s is d

-- a next answers a key after the one it asks after
abbrev pub IsNextOn : Event → Type 0
IsNextOn (e.Next by m after (Some l)) = IsAfter after l.key
IsNextOn _ = Unit {0}

nexts-on : (v : Volume) (h : List Event) → IsLegalInRuns v h → AllByRecursion IsNextOn h
nexts-on v [] legal = tt
nexts-on v (e.Next by m after (Some l) ∷ h) legal = (legal.1.row.later, nexts-on v h legal.0)
nexts-on v (e.Next by m after None ∷ h) legal = (tt, nexts-on v h legal.0)
nexts-on v (x ∷ h) legal = (tt, nexts-on v h legal.0)

move-done : (o : List Event) (m n : ℕ) (key k : Key) (s t : ℕ) (a : Option Key) → m ≡ n → IsMove o k t a → IsUpTo a key → ((m ≡ n) × (k ≡ key) × (t ≡ s)) ⊎ IsDone o n key s
move-done o m n key k s t a there (l, is, on, stamped, at) up =
    elim (subst (λ z. IsUpTo z key) at up) [
      | inl same ↦ go same (t == s) refl
      | inr less ↦ inr (listed-done o l n key s is (inl (subst (λ z. IsLess key z) (sym on) less)))
    ]
  where
    go : key ≡ k → (v : Bool) → (t == s) ≡ v → ((m ≡ n) × (k ≡ key) × (t ≡ s)) ⊎ IsDone o n key s
    go same true q = inl (there, sym same, eqb-true t s q)
    go same false q = inr (listed-done o l n key s is (inr (same ∙ sym on, λ eq. let w = eq-eqb t s (sym stamped ∙ sym eq) in cc)))

-- what a run has gone past is done
run-done : (o : List Event) → AllByRecursion IsNextOn o → (n loss fence : ℕ) (a : Option Key) → IsRun o n loss fence a → (key : Key) (s : ℕ) → IsUpTo a key → IsDone o n key s
run-done [] ok n loss fence a run key s up = absurd run
run-done (e.Replace by m l f ∷ o) ok n loss fence a run key s up = absurd (subst (λ z. IsUpTo z key) run.3 up)
run-done (e.Next by m after None ∷ o) ok n loss fence a run key s up = tt
run-done (e.Next by m after (Some l) ∷ o) ok n loss fence a run key s up =
    inl (upto-less after key l.key (subst (λ z. IsUpTo z key) run.1 up) ok.0)
run-done (e.Did by m (change.Refill f k t p) ∷ o) ok n loss fence a (inl run) key s up = inr (run-done o ok.1 n loss fence a run key s up)
run-done (e.Did by m (change.Refill f k t p) ∷ o) ok n loss fence a (inr (there, move, run)) key s up = move-done o m n key k s t a there move up
run-done (e.Did by m (change.Keep k t p) ∷ o) ok n loss fence a run key s up = run-done o ok.1 n loss fence a run key s up
run-done (e.Did by m (change.Drop k t) ∷ o) ok n loss fence a run key s up = run-done o ok.1 n loss fence a run key s up
run-done (e.Passed by m k t now ∷ o) ok n loss fence a (inl run) key s up = inr (run-done o ok.1 n loss fence a run key s up)
run-done (e.Passed by m k t now ∷ o) ok n loss fence a (inr (there, move, run)) key s up = move-done o m n key k s t a there move up
run-done (x ∷ o) ok n loss fence a run key s up = run-done o ok.1 n loss fence a run key s up

-- a run begins with its replacement
run-cases : (x : Event) (o : List Event) (n loss fence : ℕ) (a : Option Key) → IsRun (x ∷ o) n loss fence a
    → ((by : Actor) × (x ≡ e.Replace by n loss fence)) ⊎ ((b : Option Key) × IsRun o n loss fence b)
run-cases (e.Replace by m l f) o n loss fence a (p, q, r, k) = inl (by, cc)
run-cases (e.Next by m after answer) o n loss fence a run = inr (after, run.2)
run-cases (e.Did by m (change.Refill f k t p)) o n loss fence a (inl run) = inr (a, run)
run-cases (e.Did by m (change.Refill f k t p)) o n loss fence a (inr run) = inr run.2
run-cases (e.Did by m (change.Keep k t p)) o n loss fence a run = inr (a, run)
run-cases (e.Did by m (change.Drop k t)) o n loss fence a run = inr (a, run)
run-cases (e.Passed by m k t now) o n loss fence a (inl run) = inr (a, run)
run-cases (e.Passed by m k t now) o n loss fence a (inr run) = inr run.2
run-cases (x) o n loss fence a run = inr (a, run)

-- its loss was enrolled, and came
abbrev pub IsBegunRun : List Event → ℕ → ℕ → ℕ → Type 0
IsBegunRun h n loss fence = ((by : Actor) × Has h (e.Enroll by n loss fence)) × (loss ≤ losses (node n h))

begun-run-more : (v : Volume) (x : Event) (h : List Event) → IsLegalInRuns v (x ∷ h) → (n loss fence : ℕ) → IsBegunRun h n loss fence → IsBegunRun (x ∷ h) n loss fence
begun-run-more v x h legal n loss fence b = let m = losses-more v x h legal n in let l = b.1 in ((b.0.0, inr b.0.1), omega (arith, m, l))

run-begun : (v : Volume) (h : List Event) → IsLegalInRuns v h → (by : Actor) (n loss fence : ℕ) (a : Option Key) → IsRun (of_actor by h) n loss fence a → IsBegunRun h n loss fence
run-begun v [] legal by n loss fence a run = absurd run
run-begun v (x ∷ h) legal by n loss fence a run = begun-run-more v x h legal n loss fence (go (run-begun v h legal.0 by n loss fence) (same_actor by (by_of x)) run)
  where
    go : ((a : Option Key) → IsRun (of_actor by h) n loss fence a → IsBegunRun h n loss fence) → (t : Bool) → IsRun (cond t (x ∷ of_actor by h) (of_actor by h)) n loss fence a → IsBegunRun h n loss fence
    go ih false run = ih a run
    go ih true run =
        elim (run-cases x (of_actor by h) n loss fence a run) [
          | inl first ↦ (let (by', is) = first in
              let legal' = subst (λ y. IsLegalInRuns v (y ∷ h)) is legal in
              let row = legal'.1.row in
              let eq = row.loss_is in
              ((by', filter-has (λ y. same_actor by' (by_of y)) h (e.Enroll by' n loss fence) row.enrolled), omega (arith, eq)))
          | inr rest ↦ ih rest.0 rest.1
        ]

-- while a run lasts and no loss comes, what is published at the node is held at once, and stays
stay : (v : Volume) (x : Event) (h : List Event) → IsLegalInRuns v (x ∷ h) → (n loss : ℕ) → losses (node n h) ≡ loss → losses (node n (x ∷ h)) ≡ loss
    → (key : Key) (m : ℕ × ℕ) → is_gone (export h) key.fid ≡ false → accepted (export h) key ≡ Some m → Stands m.0 (holds n h key) → Stands m.0 (holds n (x ∷ h) key)
stay v x h legal n loss before now key m live acc k =
    node-step v x h legal n key (Stands m.0)
    (λ c told fits. published-stays v h legal.0 key live c (holds n h key) m told fits (pairs v h legal.0 n key) (held-begun v h legal.0 n key) acc k)
    (λ l is.
    let legal' = subst (λ y. IsLegalInRuns v (y ∷ h)) is legal in
    let next : l ≡ losses (node n h) + 1 = legal'.1.row.next in
    let same : losses (node n (e.Lose n l ∷ h)) ≡ l = at-own (e.Lose n l) h n (λ w. losses w ≡ l) refl refl in
    let now' : losses (node n (e.Lose n l ∷ h)) ≡ loss = subst (λ y. losses (node n (y ∷ h)) ≡ loss) is now in
    absurd (omega (arith, next, same, now', before)))
    k

keep-on : (v : Volume) (x : Event) (h : List Event) → IsLegalInRuns v (x ∷ h) → (n loss fence : ℕ) → IsBegunRun h n loss fence → losses (node n h) ≡ loss → losses (node n (x ∷ h)) ≡ loss
    → (key : Key) (m : ℕ × ℕ) (q : ℕ) → is_gone (export (x ∷ h)) key.fid ≡ false → accepted (export (x ∷ h)) key ≡ Some m → HasBit m.1 q → IsPlace (facts (x ∷ h)) key.fid q n
    → (accepted (export h) key ≡ Some m → Stands m.0 (holds n h key)) → Stands m.0 (holds n (x ∷ h) key)
keep-on v (e.Publish by at stamp mask None) h legal n loss fence begun before now key m q live acc set place rest =
    let x = e.Publish by at stamp mask None in
    elim (accepted_cases (same_key key at && is_newer stamp (accepted (export h) key)) stamp mask (accepted (export h) key) m acc) [
      | inl here ↦ elim (accepted-kept v (x ∷ h) legal key m q n live acc set place).1 [
        | inl held' ↦ held'
        | inr lost ↦ (let le = lost-losses v (x ∷ h) legal n key m.0 lost.0 lost.1 in
            let above = enrolled-above v (x ∷ h) legal n key m.0 lost.0 lost.1 begun.0.0 loss fence (inr begun.0.1) (omega (arith, le, now)) in
            let free = published-free v (x ∷ h) legal key m q n acc set place begun.0.0 loss fence
            (subst (λ t. Has (cond t h (before_published h key)) (e.Enroll begun.0.0 n loss fence)) (sym here.0) begun.0.1) in
            absurd (omega (arith, above, free)))
      ]
      | inr old ↦ stay v x h legal n loss before now key m live old.1 (rest old.1)
    ]
keep-on v (x) h legal n loss fence begun before now key m q live acc set place rest = stay v x h legal n loss before now key m (live-before x h key.fid live) acc (rest acc)

-- what is accepted and names a node is listed
is-listed : (v : Volume) (h : List Event) → IsLegalInRuns v h → (key : Key) (m : ℕ × ℕ) (q n : ℕ) → is_gone (export h) key.fid ≡ false → accepted (export h) key ≡ Some m → HasBit m.1 q → IsPlace (facts h) key.fid q n
    → (p : Published) × IsListed (facts h) (export h) n key p
is-listed v h legal key m q n live acc set place =
    let p : Published = record { stamp = m.0; mask = m.1; length = length_in (wrote h m.0) } in
    (p, record { live = both (is_made (export h) key.fid) (is_gone (export h) key.fid) (accepted-made v h legal key m acc) live; told = rw acc refl; named = (q, set, place) })
  where
    both : (a b : Bool) → a ≡ true → b ≡ false → (a && not b) ≡ true
    both true false p q = refl
    both true true p q = cc
    both false b p q = cc

-- where two greater ones are held, the published stamp is no lesser than the base
past-published : (v : Volume) (h : List Event) → IsLegalInRuns v h → (key : Key) (m : ℕ × ℕ) (now : List ℕ) → accepted (export h) key ≡ Some m → AllByRecursion (IsBegun h key) now → IsPast (base_begun (facts h)) m.0 now → ⊥
past-published v h legal key m [] acc begun p = p
past-published v h legal key m (a ∷ []) acc begun p = p
past-published v h legal key m (a ∷ b ∷ more) acc begun p =
    let g = begun.0 in
    let base : g.0.base ≡ m.0 = bases v h legal a g.0 m g.1 (ap (accepted (export h)) g.2 ∙ acc) p.0 in
    let low : b ≤ g.0.base = subst (λ z. b ≤ base_in z) g.1 p.2 in
    let high = p.1 in
    omega (arith, base, low, high)

-- a refill or a pass of the published stamp leaves it held
refill-holds : (h : List Event) (by : Actor) (m n f p : ℕ) (k key : Key) (t s : ℕ) → m ≡ n → k ≡ key → t ≡ s → Stands s (holds n (e.Did by m (change.Refill f k t p) ∷ h) key)
refill-holds h by m n f p k key t s em ek et =
    rw (em, ek, et, eq-eqb n n refl, same_key-refl key) (refilled-new s (held (facts (e.Did by n (change.Refill f key s p) ∷ h)) (node n h) key))

pass-held : (v : Volume) (h : List Event) (by : Actor) (n now : ℕ) (key : Key) (m : ℕ × ℕ) (q : ℕ) → IsLegalInRuns v (e.Passed by n key m.0 now ∷ h) → is_gone (export h) key.fid ≡ false → accepted (export h) key ≡ Some m → HasBit m.1 q → IsPlace (facts h) key.fid q n
    → Stands m.0 (holds n h key)
pass-held v h by n now key m q legal live acc set place =
    elim legal.1.row [
      | inl row ↦ elim (accepted-kept v h legal.0 key m q n live acc set place).1 [
        | inl k ↦ k
        | inr lost ↦ elim (barred v h legal.0 n key m.0 lost.0 lost.1) [
          | inl gone ↦ (let up = row.keep.1.up in cc)
          | inr above ↦ (let below = row.keep.1.fenced in absurd (omega (arith, above, below)))
        ]
      ]
      | inr row ↦ elim row.past [
        | inl k ↦ k
        | inr p ↦ absurd (past-published v h legal.0 key m (holds n h key) acc (held-begun v h legal.0 n key) p)
      ]
    ]

-- what one own event adds to what is done
own-step : (v : Volume) (x : Event) (h : List Event) → IsLegalInRuns v (x ∷ h) → (by : Actor) (n loss fence : ℕ) (a : Option Key) → IsRun (x ∷ of_actor by h) n loss fence a
    → losses (node n h) ≡ loss → losses (node n (x ∷ h)) ≡ loss
    → (key : Key) (m : ℕ × ℕ) (q : ℕ) → is_gone (export (x ∷ h)) key.fid ≡ false → accepted (export (x ∷ h)) key ≡ Some m → HasBit m.1 q → IsPlace (facts (x ∷ h)) key.fid q n
    → IsDone (x ∷ of_actor by h) n key m.0
    → ((b : Option Key) → IsRun (of_actor by h) n loss fence b → accepted (export h) key ≡ Some m → IsDone (of_actor by h) n key m.0 → Stands m.0 (holds n h key))
    → Stands m.0 (holds n (x ∷ h) key)
own-step v (e.Replace by' m' l f) h legal by n loss fence a run before now key m q live acc set place done ih = absurd done
own-step v (e.Next by' m' after None) h legal by n loss fence a run before now key m q live acc set place done ih =
    let x = e.Next by' m' after None in
    stay v x h legal n loss before now key m live acc (elim (after_cases after key) [
      | inl past ↦ (let l = is-listed v h legal.0 key m q n live acc set (place-before v x h legal.0 key m q n acc place) in absurd (legal.1.row key l.0 past (subst (λ z. IsListed (facts h) (export h) z key l.0) (sym run.0) l.1)))
      | inr up ↦ ih after run.2 acc (run-done (of_actor by h) (all-filter IsNextOn (λ y. same_actor by (by_of y)) h (nexts-on v h legal.0)) n loss fence after run.2 key m.0 up)
    ])
own-step v (e.Next by' m' after (Some l)) h legal by n loss fence a run before now key m q live acc set place (inl less) ih =
    let x = e.Next by' m' after (Some l) in
    stay v x h legal n loss before now key m live acc (elim (after_cases after key) [
      | inl past ↦ (let l' = is-listed v h legal.0 key m q n live acc set (place-before v x h legal.0 key m q n acc place) in absurd (legal.1.row.least key l'.0 past less (subst (λ z. IsListed (facts h) (export h) z key l'.0) (sym run.0) l'.1)))
      | inr up ↦ ih after run.2 acc (run-done (of_actor by h) (all-filter IsNextOn (λ y. same_actor by (by_of y)) h (nexts-on v h legal.0)) n loss fence after run.2 key m.0 up)
    ])
own-step v (e.Next by' m' after (Some l)) h legal by n loss fence a run before now key m q live acc set place (inr (same, other)) ih =
    let s = some_length (facts h) (accepted (export h) l.key) l.published legal.1.row.listed.told in
    let acc' : accepted (export h) l.key ≡ Some m = subst (λ z. accepted (export h) z ≡ Some m) same acc in
    let one : s.0 ≡ m = some_is s.0 m (sym s.1 ∙ acc') in
    absurd (other (sym (s.2 ∙ ap (λ (z : ℕ × ℕ). z.0) one)))
  where
    some_is : (x y : ℕ × ℕ) → Some x ≡ Some y → x ≡ y
    some_is x y e = cc
own-step v (e.Did by' m' (change.Refill f k t p)) h legal by n loss fence a run before now key m q live acc set place (inl (em, ek, et)) ih =
    refill-holds h by' m' n f p k key t m.0 em ek et
own-step v (e.Did by' m' (change.Refill f k t p)) h legal by n loss fence a (inl run) before now key m q live acc set place (inr done) ih =
    stay v (e.Did by' m' (change.Refill f k t p)) h legal n loss before now key m live acc (ih a run acc done)
own-step v (e.Did by' m' (change.Refill f k t p)) h legal by n loss fence a (inr (em, move, run)) before now key m q live acc set place (inr done) ih =
    stay v (e.Did by' m' (change.Refill f k t p)) h legal n loss before now key m live acc (ih run.0 run.1 acc done)
own-step v (e.Did by' m' (change.Keep k t p)) h legal by n loss fence a run before now key m q live acc set place done ih =
    stay v (e.Did by' m' (change.Keep k t p)) h legal n loss before now key m live acc (ih a run acc done)
own-step v (e.Did by' m' (change.Drop k t)) h legal by n loss fence a run before now key m q live acc set place done ih =
    stay v (e.Did by' m' (change.Drop k t)) h legal n loss before now key m live acc (ih a run acc done)
own-step v (e.Passed by' m' k t held_now) h legal by n loss fence a run before now key m q live acc set place (inl (em, ek, et)) ih =
    let same : e.Passed by' m' k t held_now ≡ e.Passed by' n key m.0 held_now = cc in
    let legal' = subst (λ y. IsLegalInRuns v (y ∷ h)) same legal in
    subst (λ y. Stands m.0 (holds n (y ∷ h) key)) (sym same)
    (subst (Stands m.0) (sym (pass-holds v h by' n key m.0 held_now legal' n key)) (pass-held v h by' n held_now key m q legal' live acc set (place-before v (e.Passed by' m' k t held_now) h legal.0 key m q n acc place)))
own-step v (e.Passed by' m' k t held_now) h legal by n loss fence a (inl run) before now key m q live acc set place (inr done) ih =
    stay v (e.Passed by' m' k t held_now) h legal n loss before now key m live acc (ih a run acc done)
own-step v (e.Passed by' m' k t held_now) h legal by n loss fence a (inr (em, move, run)) before now key m q live acc set place (inr done) ih =
    stay v (e.Passed by' m' k t held_now) h legal n loss before now key m live acc (ih run.0 run.1 acc done)
own-step v (x) h legal by n loss fence a run before now key m q live acc set place done ih =
    keep-on v x h legal n loss fence (run-begun v h legal.0 by n loss fence a run) before now key m q live acc set place (λ acc'. ih a run acc' done)

-- what is done is held
done-held : (v : Volume) (h : List Event) → IsLegalInRuns v h → (by : Actor) (n loss fence : ℕ) (a : Option Key) → IsRun (of_actor by h) n loss fence a → losses (node n h) ≡ loss
    → (key : Key) (m : ℕ × ℕ) (q : ℕ) → is_gone (export h) key.fid ≡ false → accepted (export h) key ≡ Some m → HasBit m.1 q → IsPlace (facts h) key.fid q n
    → IsDone (of_actor by h) n key m.0 → Stands m.0 (holds n h key)
done-held v [] legal by n loss fence a run now key m q live acc set place done = absurd run
done-held v (x ∷ h) legal by n loss fence a run now key m q live acc set place done =
    go (λ b before run acc done. done-held v h legal.0 by n loss fence b run before key m q (live-before x h key.fid live) acc set (place-before v x h legal.0 key m q n acc place) done) (same_actor by (by_of x)) run done
  where
    before : IsBegunRun h n loss fence → losses (node n h) ≡ loss
    before b = let l = b.1 in let m' = losses-more v x h legal n in omega (arith, l, m', now)

    go : ((b : Option Key) → losses (node n h) ≡ loss → IsRun (of_actor by h) n loss fence b → accepted (export h) key ≡ Some m → IsDone (of_actor by h) n key m.0 → Stands m.0 (holds n h key))
        → (t : Bool) → IsRun (cond t (x ∷ of_actor by h) (of_actor by h)) n loss fence a → IsDone (cond t (x ∷ of_actor by h) (of_actor by h)) n key m.0 → Stands m.0 (holds n (x ∷ h) key)
    go ih false run done =
        let begun = run-begun v h legal.0 by n loss fence a run in
        keep-on v x h legal n loss fence begun (before begun) now key m q live acc set place (λ acc'. ih a (before begun) run acc' done)
    go ih true run done =
        elim (run-cases x (of_actor by h) n loss fence a run) [
          | inl first ↦ (let is = first.1 in absurd (subst (λ y. IsDone (y ∷ of_actor by h) n key m.0) is done))
          | inr rest ↦ (let b = before (run-begun v h legal.0 by n loss fence rest.0 rest.1) in
              own-step v x h legal by n loss fence a run b now key m q live acc set place done (λ c run' acc' done'. ih c b run' acc' done'))
        ]

-- The fence of a replacement.

replaced-losses : (v : Volume) (h : List Event) → IsLegalInRuns v h → (by : Actor) (n loss fence : ℕ) → Has h (e.Replace by n loss fence) → loss ≤ losses (node n h)
replaced-losses v [] legal by n loss fence has = absurd has
replaced-losses v (x ∷ h) legal by n loss fence (inr has) =
    let i = replaced-losses v h legal.0 by n loss fence has in let m = losses-more v x h legal n in omega (arith, i, m)
replaced-losses v (x ∷ h) legal by n loss fence (inl is) =
    let legal' = subst (λ y. IsLegalInRuns v (y ∷ h)) is legal in
    let row = node-row v (e.Replace by n loss fence) h n legal' refl in
    let m = losses-more v x h legal n in
    let r = row.loss_is in omega (arith, m, r)

-- the node is not lost, and has this fence
abbrev IsUnder : ℕ → List Event → Type 0
IsUnder fence w = ¬ (phase w ≡ Lost) × (last_fence w ≡ fence)

-- it stays so until its next loss
under-word : (v : Volume) (x : Event) (f : Facts) (w o run : List Event) (loss fence : ℕ) → Row v f w o run x → losses w ≡ loss → losses (x ∷ w) ≡ loss
    → IsUnder fence w → IsUnder fence (x ∷ w)
under-word v (e.Lose m l) f w o run loss fence r before now k = let n = r.next in absurd (omega (arith, n, before, now))
under-word v (e.Replace by m l g) f w o run loss fence r before now k = absurd (k.0 r.lost)
under-word v (e.Broke by m c) f w o run loss fence r before now k = (λ q. cc, k.1)
under-word v (e.Stop m) f w o run loss fence r before now k = (λ q. cc, k.1)
under-word v (e.Start m took) f w o run loss fence r before now k = (λ q. cc, k.1)
under-word v (x) f w o run loss fence r before now k = k

replaced-under : (v : Volume) (h : List Event) → IsLegalInRuns v h → (by : Actor) (n loss fence : ℕ) → Has h (e.Replace by n loss fence) → losses (node n h) ≡ loss → IsUnder fence (node n h)
replaced-under v [] legal by n loss fence has now = absurd has
replaced-under v (x ∷ h) legal by n loss fence (inl is) now =
    subst (λ y. IsUnder fence (node n (y ∷ h))) (sym is) (at-own (e.Replace by n loss fence) h n (IsUnder fence) refl (λ q. cc, refl))
replaced-under v (x ∷ h) legal by n loss fence (inr has) now =
    let low = replaced-losses v h legal.0 by n loss fence has in
    let high = losses-more v x h legal n in
    let before : losses (node n h) ≡ loss = omega (arith, low, high, now) in
    let k = replaced-under v h legal.0 by n loss fence has before in
    at-node x h n (λ w. losses w ≡ loss → IsUnder fence w)
    (λ is now. under-word v x (facts h) (node n h) _ _ loss fence (node-row v x h n legal is) before now k)
    (λ now. k) now

-- a run has its replacement
run-has : (o : List Event) (n loss fence : ℕ) (a : Option Key) → IsRun o n loss fence a → (by : Actor) × Has o (e.Replace by n loss fence)
run-has [] n loss fence a run = absurd run
run-has (x ∷ o) n loss fence a run =
    elim (run-cases x o n loss fence a run) [
      | inl first ↦ (first.0, inl first.1)
      | inr rest ↦ (let i = run-has o n loss fence rest.0 rest.1 in (i.0, inr i.1))
    ]

pub complete : (v : Volume) (h : List Event) → IsLegalInRuns v h → IsComplete h
complete v h legal by n loss fence refilled rebuilt now =
    let r = run-stage (of_actor by h) n loss fence refilled Ended rebuilt in
    let first = run-has (of_actor by h) n loss fence r.0.0 r.0.1 in
    record {
      fence_is =
          (replaced-under v h legal first.0 n loss fence (filter-has (λ y. same_actor by (by_of y)) h (e.Replace first.0 n loss fence) first.1) now).1;
      holds = λ key p q live pub' set place.
          let s = some_length (facts h) (accepted (export h) key) p (sym pub') in
          subst (λ z. Stands z (holds n h key)) (sym s.2)
          (done-held v h legal by n loss fence r.0.0 r.0.1 now key s.0 q (not_gone (export h) key.fid live) s.1 (subst (λ m. HasBit m q) s.3 set) place
          (ended-done (of_actor by h) n key s.0.0 r.1));
    }
