-- New disks of lost nodes, and starts of the nodes whose disks are here.
use Rattle.std.proofs.Common.{ℕ, Bool, true, false, ◌≡◌, ◌≢◌, ◌⊎◌, inl, inr, ◌+◌, ◌-◌, ◌^◌, ◌<◌, ◌≤◌, List, [], ◌∷◌, length, Some, cond, refl, sym, ◌∙◌, ap, ap₂, subst, arith}
use Rattle.std.specs.List.{AllByRecursion, filter}
use Rattle.rz_events.specs.Volume.{Volume, IsVolume}
use Rattle.rz_events.specs.declared.keys.Actor.{Actor}
use Rattle.rz_events.specs.declared.records.Change.{Change}
use Rattle.rz_events.specs.declared.nodes.Phase.{Phase}
use Rattle.rz_events.specs.declared.nodes.Phase.TheVariants.{Up, Down, Lost}
use Rattle.rz_events.specs.declared.events.Word.TheVariants.{Export}
use Rattle.rz_events.specs.declared.events.Event.{Event}
use Rattle.rz_events.specs.declared.events.Event.TheVariants as e
use Rattle.rz_events.specs.Events.{by_of, word_of, same_actor, same_word}
use Rattle.rz_node_model.specs.States.{NodeState}
use Rattle.rz_node_model.specs.Versions.{Stands}
use Rattle.rz_export_model.specs.Export.{Export as ExportState}
use Rattle.rz_core.specs.History.{facts, of_actor, Has}
use Rattle.rz_core.specs.NodeWord.{phase, losses, undecided}
use Rattle.rz_core.specs.NodeRows.{IsNodeOf, StartRow}
use Rattle.rz_core.specs.ExportWord.{export_of}
use Rattle.rz_core.specs.Legal.{IsLegalInRuns}
use Rattle.rz_core.specs.Tied.{IsNode, IsExport}
use Rattle.rz_core.proofs.NodeLaws.{node}
use Rattle.rz_core.proofs.NodeTies.{same-facts}
use Rattle.rz_core.proofs.Stamps.{export}
use Rattle.rz_log_laws.specs.Losses.{AreLossesEnrolled, AreLossesKnown}
use Rattle.rz_restart_laws.specs.Earlier.{IsEarlier, IsRestart, MayTake, numbers, stopped, started}
use Rattle.rz_restart_laws.specs.Laws.{IsExportAgain}
use Rattle.rz_restart_laws.specs.Returns.{NewDisk, IsEnrolled, replaced_if, replaced, IsReplaced, MayReplace, returned, IsReturn, MayReturn, AreFoundHere, AreBack, MayGoOnWithout}
use Rattle.rz_restart_laws.proofs.Restarts.{Apart, numbers-apart, other-word, own-word, there-or-not, stopped-own, started-other, started-own, at_rest, Quiet, none-more, then, wider, room, stops, starts, all-there, rest-down, rest-undecided, few-numbers, word-short}
use Rattle.rz_restart_laws.proofs.CanGoOn.{IsStarted, node-started}
use Rattle.rz_restart_laws.proofs.CanGoOn as goings

-- ---- one new disk

has-own : (a : Actor) (x y : Event) (h : List Event) → Has (of_actor a h) x → Has (of_actor a (y ∷ h)) x
has-own a x y h has = go (same_actor a (by_of y))
  where
    go : (b : Bool) → Has (cond b (y ∷ of_actor a h) (of_actor a h)) x
    go true = inr has
    go false = has

module _ (v : Volume) (h : List Event) (legal : IsLegalInRuns v h) (few : length h < 2 ^ 64 - 1) (n : ℕ) (there : IsNodeOf v n) (d : NewDisk) where
  replace : phase (node n h) ≡ Lost → IsEnrolled h n d → Quiet v h (e.Replace d.by n (losses (node n h)) d.fence ∷ h) 1
  replace lost has = record {
    legal = (legal, record { run = []; newest = (of_actor d.by h, refl); room = room h n few; word = there; row = record { lost = lost; loss_is = refl; enrolled = has } });
    facts_are = same-facts (e.Replace d.by n (losses (node n h)) d.fence) h (record { begins = λ s. refl; makes = λ fid. refl });
    export_word = refl;
    few = omega arith;
  }

  replace-if : (p : Phase) → phase (node n h) ≡ p → (p ≡ Lost → IsEnrolled h n d) → Quiet v h (replaced_if p n d h) 1
  replace-if Up is has = wider v h h 0 1 (omega arith) (none-more v h legal)
  replace-if Down is has = wider v h h 0 1 (omega arith) (none-more v h legal)
  replace-if Lost is has = replace is (has refl)

module _ (n : ℕ) (d : NewDisk) (h : List Event) where
  if-other : (p : Phase) (m : ℕ) → n ≢ m → node m (replaced_if p n d h) ≡ node m h
  if-other Up m other = refl
  if-other Down m other = refl
  if-other Lost m other = other-word (e.Replace d.by n (losses (node n h)) d.fence) h n m refl other

  if-alive : (p : Phase) → phase (node n h) ≡ p → phase (node n (replaced_if p n d h)) ≢ Lost
  if-alive Up is lost = let no = sym is ∙ lost in cc
  if-alive Down is lost = let no = sym is ∙ lost in cc
  if-alive Lost is lost = let now = ap phase (own-word (e.Replace d.by n (losses (node n h)) d.fence) h n refl) in let no = sym now ∙ lost in cc

  if-has : (p : Phase) (a : Actor) (x : Event) → Has (of_actor a h) x → Has (of_actor a (replaced_if p n d h)) x
  if-has Up a x has = has
  if-has Down a x has = has
  if-has Lost a x has = has-own a x (e.Replace d.by n (losses (node n h)) d.fence) h has

-- ---- a new disk of each lost node

module _ (v : Volume) (disks : ℕ → NewDisk) where
  replaces : (ns : List ℕ) → AllByRecursion (IsNodeOf v) ns → Apart ns → (h : List Event) → IsLegalInRuns v h → length h + length ns < 2 ^ 64 - 1
      → ((n : ℕ) → Stands n ns → phase (node n h) ≡ Lost → IsEnrolled h n (disks n)) → Quiet v h (replaced disks ns h) (length ns)
  replaces [] all once h legal few has = none-more v h legal
  replaces (n ∷ ns) all once h legal few has =
      let now = replace-if v h legal (omega (arith, few)) n all.0 (disks n) (phase (node n h)) refl (λ lost. has n (inl refl) lost) in
      let mid = replaced_if (phase (node n h)) n (disks n) h in
      let long = now.few in
      wider v h (replaced disks ns mid) (1 + length ns) (length (n ∷ ns)) (omega arith)
      (then v h mid (replaced disks ns mid) 1 (length ns) now
      (replaces ns all.1 once.1 mid now.legal (omega (arith, few, long))
      (λ m at lost. still n h m (if-other n (disks n) h (phase (node n h)) m (there-or-not n m ns once.0 at)) (has m (inr at)) lost)))
    where
      -- what was enrolled of another node is so still
      still : (n : ℕ) (h : List Event) (m : ℕ) → node m (replaced_if (phase (node n h)) n (disks n) h) ≡ node m h → (phase (node m h) ≡ Lost → IsEnrolled h m (disks m))
          → phase (node m (replaced_if (phase (node n h)) n (disks n) h)) ≡ Lost → IsEnrolled (replaced_if (phase (node n h)) n (disks n) h) m (disks m)
      still n h m same own lost =
          subst (λ w. Has (of_actor (disks m).by (replaced_if (phase (node n h)) n (disks n) h)) (e.Enroll (disks m).by m (losses w) (disks m).fence)) (sym same)
          (if-has n (disks n) h (phase (node n h)) (disks m).by (e.Enroll (disks m).by m (losses (node m h)) (disks m).fence) (own (ap phase (sym same) ∙ lost)))

  replaced-other : (ns : List ℕ) (h : List Event) (m : ℕ) → ¬ Stands m ns → node m (replaced disks ns h) ≡ node m h
  replaced-other [] h m none = refl
  replaced-other (n ∷ ns) h m none =
      replaced-other ns (replaced_if (phase (node n h)) n (disks n) h) m (λ there. none (inr there))
      ∙ if-other n (disks n) h (phase (node n h)) m (λ is. none (inl is))

  alive : (ns : List ℕ) → Apart ns → (h : List Event) (m : ℕ) → Stands m ns → phase (node m (replaced disks ns h)) ≢ Lost
  alive [] once h m there lost = absurd there
  alive (n ∷ ns) once h m (inl is) lost =
      let same = replaced-other ns (replaced_if (phase (node n h)) n (disks n) h) n once.0 in
      if-alive n (disks n) h (phase (node n h)) refl
      (ap phase (sym same) ∙ subst (λ z. phase (node z (replaced disks (n ∷ ns) h)) ≡ Lost) (sym is) lost)
  alive (n ∷ ns) once h m (inr there) lost = alive ns once.1 (replaced_if (phase (node n h)) n (disks n) h) m there lost

pub replacing : (v : Volume) → IsVolume v → MayReplace v
replacing v rules h disks left =
    let once = numbers-apart v rules in
    let most = few-numbers v rules in
    let few = left.few in
    let all = all-there (numbers v) (IsNodeOf v) (λ n at. at) in
    let new = replaces v disks (numbers v) all once h left.legal (omega (arith, most, few)) (λ n at lost. left.enrolled n at lost) in
    let long = new.few in
    record {
      earlier = record { legal = new.legal; few = omega (arith, most, few, long); there = λ n at. alive v disks (numbers v) once h n at };
      facts_are = new.facts_are;
      export_word = new.export_word;
      few = omega (arith, most, long);
    }

-- ---- the disks that are here

kept : (p : ℕ → Bool) (ns : List ℕ) (n : ℕ) → Stands n ns → p n ≡ true → Stands n (filter p ns)
kept p [] n there on = there
kept p (m ∷ ns) n (inl is) on = subst (λ b. Stands n (cond b (m ∷ filter p ns) (filter p ns))) (sym (ap p is ∙ on)) (inl is)
kept p (m ∷ ns) n (inr there) on = go (p m) (kept p ns n there on)
  where
    go : (b : Bool) → Stands n (filter p ns) → Stands n (cond b (m ∷ filter p ns) (filter p ns))
    go true rest = inr rest
    go false rest = rest

was-there : (p : ℕ → Bool) (ns : List ℕ) (n : ℕ) → Stands n (filter p ns) → Stands n ns × (p n ≡ true)
was-there p [] n there = absurd there
was-there p (m ∷ ns) n there = go (was-there p ns n) (p m) refl there
  where
    go : (Stands n (filter p ns) → Stands n ns × (p n ≡ true)) → (b : Bool) → p m ≡ b → Stands n (cond b (m ∷ filter p ns) (filter p ns)) → Stands n (m ∷ ns) × (p n ≡ true)
    go rest true on (inl is) = (inl is, ap p (sym is) ∙ on)
    go rest true on (inr there) = let i = rest there in (inr i.0, i.1)
    go rest false off there = let i = rest there in (inr i.0, i.1)

apart-filter : (p : ℕ → Bool) (ns : List ℕ) → Apart ns → Apart (filter p ns)
apart-filter p [] once = tt
apart-filter p (n ∷ ns) once = go (apart-filter p ns once.1) (p n)
  where
    go : Apart (filter p ns) → (b : Bool) → Apart (cond b (n ∷ filter p ns) (filter p ns))
    go rest true = ((λ there. once.0 (was-there p ns n there).0), rest)
    go rest false = rest

fewer : (p : ℕ → Bool) (ns : List ℕ) → length (filter p ns) ≤ length ns
fewer p [] = omega arith
fewer p (n ∷ ns) = go (p n) (fewer p ns)
  where
    go : (b : Bool) → length (filter p ns) ≤ length ns → length (cond b (n ∷ filter p ns) (filter p ns)) ≤ length (n ∷ ns)
    go true low = omega (arith, low)
    go false low = omega (arith, low)

module _ (v : Volume) (rules : IsVolume v) (h : List Event) (earlier : IsEarlier v h) (here : ℕ → Bool) (took : ℕ → Bool) where
  abbrev mid : List Event
  mid = stopped (numbers v) h

  abbrev present : List ℕ
  present = filter here (numbers v)

  word-rest : (n : ℕ) → IsNodeOf v n → node n mid ≡ at_rest n (node n h)
  word-rest n at = stopped-own (numbers v) (numbers-apart v rules) h n at

  down : (n : ℕ) → IsNodeOf v n → phase (node n mid) ≡ Down
  down n at = ap phase (word-rest n at) ∙ rest-down n (node n h) (phase (node n h)) refl (earlier.there n at)

  -- the word of a node that is here
  pub word-here : (n : ℕ) → IsNodeOf v n → here n ≡ true → node n (returned v here took h) ≡ e.Start n (took n) ∷ at_rest n (node n h)
  word-here n at on =
      started-own took present (apart-filter here (numbers v) (numbers-apart v rules)) mid n (kept here (numbers v) n at on)
      ∙ ap (λ w. e.Start n (took n) ∷ w) (word-rest n at)

  -- and of one that is away
  word-away : (n : ℕ) → here n ≡ false → node n (returned v here took h) ≡ node n mid
  word-away n off = started-other took present mid n (λ at. (let on = (was-there here (numbers v) n at).1 in let no = sym on ∙ off in cc))

  module _ (may : MayTake h took) where
    row : (n : ℕ) → IsNodeOf v n → StartRow (node n mid) (took n)
    row n at = record {
      down = down n at;
      pending = λ took-it. (let p = may n took-it in (p.0, ap undecided (word-rest n at) ∙ rest-undecided n (node n h) (phase (node n h)) ∙ p.1));
    }

    restart : IsRestart v h (returned v here took h)
    restart =
        let once = numbers-apart v rules in
        let most = few-numbers v rules in
        let few = earlier.few in
        let rest = stops v (numbers v) (all-there (numbers v) (IsNodeOf v) (λ n at. at)) h earlier.legal (omega (arith, most, few)) in
        let long = rest.few in
        let fewest = fewer here (numbers v) in
        let up = starts v took present (all-there present (IsNodeOf v) (λ n at. (was-there here (numbers v) n at).0)) (apart-filter here (numbers v) once) mid rest.legal
        (omega (arith, most, few, long, fewest)) (λ n at. row n (was-there here (numbers v) n at).0) in
        let longer = up.few in
        record {
          legal = up.legal;
          facts_are = up.facts_are ∙ rest.facts_are;
          export_word = up.export_word ∙ rest.export_word;
          few = omega (arith, most, long, longer, fewest);
        }

    returns : IsReturn v here h (returned v here took h)
    returns = record {
      restart = restart;
      up = λ n at on. ap phase (word-here n at on);
      down = λ n at off. ap phase (word-away n off) ∙ down n at;
    }

pub returning : (v : Volume) → IsVolume v → MayReturn v
returning v rules h earlier here took may = returns v rules h earlier here took may

-- ---- the nodes that are here are those of the log

module _ (v : Volume) (rules : IsVolume v) (h : List Event) (here : ℕ → Bool) (export_now : ExportState) (nodes : ℕ → NodeState) (earlier : IsEarlier v h) (found : AreFoundHere v here h export_now nodes)
    (back : MayReturn v) (again : IsExportAgain v) (enrolled : AreLossesEnrolled v) (known : AreLossesKnown v) where
  export-is : IsExport v (facts h) (export h) export_now
  export-is = found.export_is ∙ again h earlier.legal

  lost-as-told : (n : ℕ) → IsNodeOf v n → here n ≡ true → (nodes n).losses ≡ losses (node n h)
  lost-as-told n there on =
      let low = word-short (λ x. same_word Export (word_of x)) h in
      let few = earlier.few in
      found.losses n there on
      ∙ known h n export_now earlier.legal (omega (arith, low, few)) export-is
      ∙ sym (enrolled h n earlier.legal (earlier.there n there))

  by-node : (n : ℕ) → IsNodeOf v n → here n ≡ true → (took : Bool) × IsStarted h n (nodes n) took
  by-node n there on = let it = found.found n there on in node-started v h earlier.legal n it.0 (nodes n) it.1 (lost-as-told n there on)

  -- whether the change of a node was found, where its disk is here
  abbrev Finds : ℕ → Bool → Type 0
  Finds n took = (took ≡ true → (c : Change) × (undecided (node n h) ≡ Some c)) × (IsNodeOf v n → here n ≡ true → IsStarted h n (nodes n) took)

  finds : (n : ℕ) → (took : Bool) × Finds n took
  finds n = by-place (goings.there-or-not n (numbers v)) (here n) refl
    where
      by-place : IsNodeOf v n ⊎ (IsNodeOf v n → ⊥) → (b : Bool) → here n ≡ b → (took : Bool) × Finds n took
      by-place (inl there) true on = let it = by-node n there on in (it.0, (it.1.0, λ at same. it.1))
      by-place (inl there) false off = (false, ((λ it. cc), λ at on. absurd (let no = sym on ∙ off in cc)))
      by-place (inr none) b is = (false, ((λ it. cc), λ at on. absurd (none at)))

  abbrev took : ℕ → Bool
  took n = (finds n).0

  may : MayTake h took
  may n = (finds n).1.0

  abbrev old : List Event
  old = returned v here took h

  it-is : IsReturn v here h old
  it-is = back h earlier here took may

  nodes-are : (n : ℕ) → IsNodeOf v n → here n ≡ true → IsNode (facts old) (node n old) (nodes n)
  nodes-are n there on =
      subst (λ g. IsNode g (node n old) (nodes n)) (sym it-is.restart.facts_are)
      (subst (λ w. IsNode (facts h) w (nodes n)) (sym (word-here v rules h earlier here took n there on)) ((finds n).1.1 there on).1)

  pub all-back : (picked : ℕ → Bool) × MayTake h picked × AreBack v here h export_now nodes (returned v here picked h)
  all-back = (
    took,
    may,
    record {
      back = it-is;
      nodes_are = nodes-are;
      export_is = export-is ∙ ap₂ (λ g w. export_of v g w) (sym it-is.restart.facts_are) (sym it-is.restart.export_word);
    },
  )

pub may-go-on-without : (v : Volume) → IsVolume v → MayReturn v → IsExportAgain v → AreLossesEnrolled v → AreLossesKnown v → MayGoOnWithout v
may-go-on-without v rules back again enrolled known h here export_now nodes earlier found = all-back v rules h here export_now nodes earlier found back again enrolled known
