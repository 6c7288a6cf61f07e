-- A stop of each node that is up, and a start of each node.
use Rattle.std.proofs.Common.{ℕ, Bool, true, false, ◌≡◌, ◌≢◌, inl, inr, ◌+◌, ◌-◌, ◌^◌, ◌<◌, ◌≤◌, nat_eq, List, [], ◌∷◌, length, cond, refl, sym, ◌∙◌, ap, subst, arith, eq-eqb}
use Rattle.std.specs.List.{filter, AllByRecursion, IsDistinct}
use Rattle.std.proofs.lemmas.List.{length-map}
use Rattle.std.proofs.lemmas.Map.Keys.{IsDistinct-head, IsDistinct-tail}
use Rattle.rz_events.specs.Volume.{Volume, IsVolume, nodes_of}
use Rattle.rz_events.specs.declared.files.NodeSpec.{NodeSpec}
use Rattle.rz_events.specs.declared.nodes.Phase.{Phase}
use Rattle.rz_events.specs.declared.nodes.Phase.TheVariants.{Up, Down, Lost}
use Rattle.rz_events.specs.declared.keys.Actor.TheVariants.{Admin}
use Rattle.rz_events.specs.declared.events.Word.TheVariants.{Node}
use Rattle.rz_events.specs.declared.events.Event.{Event}
use Rattle.rz_events.specs.declared.events.Event.TheVariants as e
use Rattle.rz_events.specs.Events.{word_of, same_word}
use Rattle.rz_node_model.specs.Versions.{Stands}
use Rattle.rz_core.specs.History.{facts, of_actor}
use Rattle.rz_core.specs.NodeWord.{phase, undecided}
use Rattle.rz_core.specs.NodeRows.{IsNodeOf, StartRow}
use Rattle.rz_core.specs.Legal.{IsLegalInRuns}
use Rattle.rz_core.proofs.NodeLaws.{node, at-node, at-own}
use Rattle.rz_core.proofs.NodeTies.{same-facts}
use Rattle.rz_core.proofs.Stamps.{export}
use Rattle.rz_log_laws.proofs.Losses.{node-is}
use Rattle.rz_restart_laws.specs.Earlier.{numbers, stopped_if, stopped, started, restarted}
use Rattle.rz_restart_laws.specs.Laws.{MayRestart}

-- ---- nodes, each once

abbrev pub Apart : List ℕ → Type 0
Apart [] = Unit {0}
Apart (n ∷ ns) = (¬ Stands n ns) × Apart ns

not-there : (n : ℕ) (ns : List ℕ) → AllByRecursion (λ m. nat_eq n m ≡ false) ns → ¬ Stands n ns
not-there n [] none there = absurd there
not-there n (m ∷ ns) none (inl is) = let same : nat_eq n m ≡ true = eq-eqb n m (sym is) in let other = none.0 in absurd (cc)
not-there n (m ∷ ns) none (inr there) = not-there n ns none.1 there

pub apart : (ns : List ℕ) → IsDistinct nat_eq ns → Apart ns
apart [] distinct = tt
apart (n ∷ ns) distinct = (not-there n ns (IsDistinct-head nat_eq n ns distinct), apart ns (IsDistinct-tail nat_eq n ns distinct))

pub numbers-apart : (v : Volume) → IsVolume v → Apart (numbers v)
numbers-apart v rules = apart (numbers v) rules.distinct_sids

-- ---- the words after one event of a node

pub other-word : (x : Event) (h : List Event) (n m : ℕ) → word_of x ≡ Node n → n ≢ m → node m (x ∷ h) ≡ node m h
other-word x h n m of other = at-node x h m (λ w. w ≡ node m h) (λ is. absurd (other (node-is n m (sym of ∙ is)))) refl

pub own-word : (x : Event) (h : List Event) (n : ℕ) → word_of x ≡ Node n → node n (x ∷ h) ≡ x ∷ node n h
own-word x h n of = at-own x h n (λ w. w ≡ x ∷ node n h) of refl

-- ---- a stop where a node is up

module _ (n : ℕ) (h : List Event) where
  if-other : (p : Phase) (m : ℕ) → n ≢ m → node m (stopped_if p n h) ≡ node m h
  if-other Up m other = other-word (e.Stop n) h n m refl other
  if-other Down m other = refl
  if-other Lost m other = refl

  if-own : (p : Phase) → node n (stopped_if p n h) ≡ stopped_if p n (node n h)
  if-own Up = own-word (e.Stop n) h n refl
  if-own Down = refl
  if-own Lost = refl

-- the events of a node, where it is stopped if it is up
abbrev pub at_rest : ℕ → List Event → List Event
at_rest n w = stopped_if (phase w) n w

pub there-or-not : (n m : ℕ) (ns : List ℕ) → ¬ Stands n ns → Stands m ns → n ≢ m
there-or-not n m ns none there is = none (subst (λ z. Stands z ns) (sym is) there)

stopped-other : (ns : List ℕ) (h : List Event) (m : ℕ) → ¬ Stands m ns → node m (stopped ns h) ≡ node m h
stopped-other [] h m none = refl
stopped-other (n ∷ ns) h m none =
    stopped-other ns (stopped_if (phase (node n h)) n h) m (λ there. none (inr there)) ∙ if-other n h (phase (node n h)) m (λ is. none (inl is))

pub stopped-own : (ns : List ℕ) → Apart ns → (h : List Event) (m : ℕ) → Stands m ns → node m (stopped ns h) ≡ at_rest m (node m h)
stopped-own [] apart h m there = absurd there
stopped-own (n ∷ ns) apart h m (inl is) =
    stopped-other ns (stopped_if (phase (node n h)) n h) m (λ there. apart.0 (subst (λ z. Stands z ns) (sym is) there))
    ∙ subst (λ z. node z (stopped_if (phase (node n h)) n h) ≡ at_rest z (node z h)) is (if-own n h (phase (node n h)))
stopped-own (n ∷ ns) apart h m (inr there) =
    let same = if-other n h (phase (node n h)) m (there-or-not n m ns apart.0 there) in
    stopped-own ns apart.1 (stopped_if (phase (node n h)) n h) m there ∙ ap (at_rest m) same

-- ---- starts

module _ (took : ℕ → Bool) where
  pub started-other : (ns : List ℕ) (h : List Event) (m : ℕ) → ¬ Stands m ns → node m (started took ns h) ≡ node m h
  started-other [] h m none = refl
  started-other (n ∷ ns) h m none =
      started-other ns (e.Start n (took n) ∷ h) m (λ there. none (inr there)) ∙ other-word (e.Start n (took n)) h n m refl (λ is. none (inl is))

  pub started-own : (ns : List ℕ) → Apart ns → (h : List Event) (m : ℕ) → Stands m ns → node m (started took ns h) ≡ e.Start m (took m) ∷ node m h
  started-own [] apart h m there = absurd there
  started-own (n ∷ ns) apart h m (inl is) =
      started-other ns (e.Start n (took n) ∷ h) m (λ there. apart.0 (subst (λ z. Stands z ns) (sym is) there))
      ∙ subst (λ z. node z (e.Start n (took n) ∷ h) ≡ e.Start z (took z) ∷ node z h) is (own-word (e.Start n (took n)) h n refl)
  started-own (n ∷ ns) apart h m (inr there) =
      started-own ns apart.1 (e.Start n (took n) ∷ h) m there
      ∙ ap (λ w. e.Start m (took m) ∷ w) (other-word (e.Start n (took n)) h n m refl (there-or-not n m ns apart.0 there))

-- a node's word behind the stops and the starts
pub word-own : (v : Volume) → IsVolume v → (took : ℕ → Bool) (h : List Event) (n : ℕ) → IsNodeOf v n → node n (restarted v took h) ≡ e.Start n (took n) ∷ at_rest n (node n h)
word-own v rules took h n there =
    let once = numbers-apart v rules in
    started-own took (numbers v) once (stopped (numbers v) h) n there ∙ ap (λ w. e.Start n (took n) ∷ w) (stopped-own (numbers v) once h n there)

-- ---- they are allowed

-- the log goes on by so many events that leave the permanent facts and the export
pub record Quiet (v : Volume) (h old : List Event) (more : ℕ) : Type 0 where
  pub legal : IsLegalInRuns v old
  pub facts_are : facts old ≡ facts h
  pub export_word : export old ≡ export h
  pub few : length old ≤ length h + more

pub none-more : (v : Volume) (h : List Event) → IsLegalInRuns v h → Quiet v h h 0
none-more v h legal = record { legal = legal; facts_are = refl; export_word = refl; few = omega arith }

pub then : (v : Volume) (h mid old : List Event) (j k : ℕ) → Quiet v h mid j → Quiet v mid old k → Quiet v h old (j + k)
then v h mid old j k a b = record {
  legal = b.legal;
  facts_are = b.facts_are ∙ a.facts_are;
  export_word = b.export_word ∙ a.export_word;
  few = (let x = a.few in let y = b.few in omega (arith, x, y));
}

pub wider : (v : Volume) (h old : List Event) (j k : ℕ) → j ≤ k → Quiet v h old j → Quiet v h old k
wider v h old j k low a = record { legal = a.legal; facts_are = a.facts_are; export_word = a.export_word; few = (let x = a.few in omega (arith, x, low)) }

pub word-short : (p : Event → Bool) (h : List Event) → length (filter p h) ≤ length h
word-short p [] = omega arith
word-short p (x ∷ h) = go (p x) (word-short p h)
  where
    go : (b : Bool) → length (filter p h) ≤ length h → length (cond b (x ∷ filter p h) (filter p h)) ≤ length (x ∷ h)
    go true low = omega (arith, low)
    go false low = omega (arith, low)

pub room : (h : List Event) (n : ℕ) → length h < 2 ^ 64 - 1 → length (node n h) < 2 ^ 64 - 1
room h n few = let low = word-short (λ x. same_word (Node n) (word_of x)) h in omega (arith, low, few)

module _ (v : Volume) (h : List Event) (legal : IsLegalInRuns v h) (few : length h < 2 ^ 64 - 1) (n : ℕ) (there : IsNodeOf v n) where
  stop : phase (node n h) ≡ Up → Quiet v h (e.Stop n ∷ h) 1
  stop up = record {
    legal = (legal, record { run = []; newest = (of_actor Admin h, refl); room = room h n few; word = there; row = up });
    facts_are = same-facts (e.Stop n) h (record { begins = λ s. refl; makes = λ fid. refl });
    export_word = refl;
    few = omega arith;
  }

  start : (took : Bool) → StartRow (node n h) took → Quiet v h (e.Start n took ∷ h) 1
  start took row = record {
    legal = (legal, record { run = []; newest = (of_actor Admin h, refl); room = room h n few; word = there; row = row });
    facts_are = same-facts (e.Start n took) h (record { begins = λ s. refl; makes = λ fid. refl });
    export_word = refl;
    few = omega arith;
  }

  stop-if : (p : Phase) → phase (node n h) ≡ p → Quiet v h (stopped_if p n h) 1
  stop-if Up is = stop is
  stop-if Down is = wider v h h 0 1 (omega arith) (none-more v h legal)
  stop-if Lost is = wider v h h 0 1 (omega arith) (none-more v h legal)

pub stops : (v : Volume) (ns : List ℕ) → AllByRecursion (IsNodeOf v) ns → (h : List Event) → IsLegalInRuns v h → length h + length ns < 2 ^ 64 - 1 → Quiet v h (stopped ns h) (length ns)
stops v [] all h legal few = none-more v h legal
stops v (n ∷ ns) all h legal few =
    let now = stop-if v h legal (omega (arith, few)) n all.0 (phase (node n h)) refl in
    let mid = stopped_if (phase (node n h)) n h in
    let long = now.few in
    wider v h (stopped ns mid) (1 + length ns) (length (n ∷ ns)) (omega arith)
    (then v h mid (stopped ns mid) 1 (length ns) now (stops v ns all.1 mid now.legal (omega (arith, few, long))))

pub starts : (v : Volume) (took : ℕ → Bool) (ns : List ℕ) → AllByRecursion (IsNodeOf v) ns → Apart ns → (h : List Event) → IsLegalInRuns v h → length h + length ns < 2 ^ 64 - 1
    → ((n : ℕ) → Stands n ns → StartRow (node n h) (took n)) → Quiet v h (started took ns h) (length ns)
starts v took [] all once h legal few rows = none-more v h legal
starts v took (n ∷ ns) all once h legal few rows =
    let now = start v h legal (omega (arith, few)) n all.0 (took n) (rows n (inl refl)) in
    let mid = e.Start n (took n) ∷ h in
    let long = now.few in
    wider v h (started took ns mid) (1 + length ns) (length (n ∷ ns)) (omega arith)
    (then v h mid (started took ns mid) 1 (length ns) now
    (starts v took ns all.1 once.1 mid now.legal (omega (arith, few, long))
    (λ m at. subst (λ w. StartRow w (took m)) (sym (other-word (e.Start n (took n)) h n m refl (there-or-not n m ns once.0 at))) (rows m (inr at)))))

pub all-there : (ns : List ℕ) (P : ℕ → Type 0) → ((n : ℕ) → Stands n ns → P n) → AllByRecursion P ns
all-there [] P each = tt
all-there (n ∷ ns) P each = (each n (inl refl), all-there ns P (λ m at. each m (inr at)))

-- ---- a node at rest

pub rest-down : (n : ℕ) (w : List Event) (p : Phase) → phase w ≡ p → p ≢ Lost → phase (stopped_if p n w) ≡ Down
rest-down n w Up is there = refl
rest-down n w Down is there = is
rest-down n w Lost is there = absurd (there refl)

pub rest-undecided : (n : ℕ) (w : List Event) (p : Phase) → undecided (stopped_if p n w) ≡ undecided w
rest-undecided n w Up = refl
rest-undecided n w Down = refl
rest-undecided n w Lost = refl

pub few-numbers : (v : Volume) → IsVolume v → length (numbers v) ≤ 256
few-numbers v rules = let same = length-map (nodes_of v.clusters) (λ (spec : NodeSpec). spec.sid) in let few = rules.few_nodes in omega (arith, same, few)

pub restarting : (v : Volume) → IsVolume v → MayRestart v
restarting v rules h earlier took may =
    let once = numbers-apart v rules in
    let most = few-numbers v rules in
    let few = earlier.few in
    let all = all-there (numbers v) (IsNodeOf v) (λ n at. at) in
    let down = stops v (numbers v) all h earlier.legal (omega (arith, most, few)) in
    let mid = stopped (numbers v) h in
    let long = down.few in
    let up = starts v took (numbers v) all once mid down.legal (omega (arith, most, few, long)) (λ n at. row n at) in
    let longer = up.few in
    record {
      legal = up.legal;
      facts_are = up.facts_are ∙ down.facts_are;
      export_word = up.export_word ∙ down.export_word;
      few = omega (arith, most, long, longer);
    }
  where
    row : (n : ℕ) → Stands n (numbers v) → StartRow (node n (stopped (numbers v) h)) (took n)
    row n at = subst (λ w. StartRow w (took n)) (sym (stopped-own (numbers v) (numbers-apart v rules) h n at)) (record {
      down = rest-down n (node n h) (phase (node n h)) refl (earlier.there n at);
      pending = λ took-it. (let p = may n took-it in (p.0, rest-undecided n (node n h) (phase (node n h)) ∙ p.1));
    })
