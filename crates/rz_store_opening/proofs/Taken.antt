-- Which undecided changes the nodes have whose disks are here.
use Rattle.std.proofs.Common.{ℕ, Bool, true, false, not, ◌==◌, ◌||◌, ◌≡◌, inl, inr, ◌<◌, List, [], ◌∷◌, map, Option, Some, None, cond, refl, sym, ◌∙◌, ap, ap₂, subst, arith, eqb-true, eq-eqb}
use Rattle.std.specs.Prelude.{nat_lt}
use Rattle.std.specs.Option.{option_map_or}
use Rattle.rz_events.specs.Events.{same_key}
use Rattle.rz_events.specs.Volume.{Volume, IsVolume}
use Rattle.rz_events.specs.declared.keys.Key.{Key}
use Rattle.rz_events.specs.declared.records.Change.{Change}
use Rattle.rz_events.specs.declared.records.Change.TheVariants as change
use Rattle.rz_events.specs.declared.nodes.Phase.{Phase}
use Rattle.rz_events.specs.declared.nodes.Phase.TheVariants.{Up, Down, Lost}
use Rattle.rz_events.specs.declared.events.Event.{Event}
use Rattle.rz_events.specs.declared.events.Event.TheVariants as e
use Rattle.rz_node_model.specs.Records.{held_of, stamp_of}
use Rattle.rz_node_model.specs.States.{NodeState}
use Rattle.rz_node_model.specs.Versions.{greater_goes, kept, refilled, without, has_stamp, IsAbove, Stands}
use Rattle.rz_node_model.proofs.VersionLaws.{has_stamp-map}
use Rattle.rz_export_model.specs.Export.{Export as ExportState}
use Rattle.rz_core.specs.History.{Facts, facts}
use Rattle.rz_core.specs.ExportWord.{export_of}
use Rattle.rz_core.specs.NodeWord.{phase, undecided, held, settled, changed, base_begun, itself}
use Rattle.rz_core.specs.Legal.{IsLegalInRuns}
use Rattle.rz_core.specs.Tied.{record_in, IsNode}
use Rattle.rz_core.proofs.NodeLaws.{node, rows, IsPair, Fits, pending-fits, word-pair}
use Rattle.rz_core.proofs.Stamps.{same_key-refl, same_key-true}
use Rattle.rz_restart_laws.specs.Earlier.{IsEarlier, MayTake}
use Rattle.rz_restart_laws.specs.Returns.{AreBack, AreFoundHere, MayGoOnWithout, MayReturn, returned}
use Rattle.rz_restart_laws.specs.Earlier.{stopped_if}
use Rattle.rz_restart_laws.proofs.Restarts.{at_rest, rest-undecided}
use Rattle.rz_restart_laws.proofs.Returns.{word-here}
use Rattle.rz_store_opening.specs.Opening.{has_change, took_of}

-- ---- stamps before a change and after it

above-none : (s : ℕ) (now : List ℕ) → IsAbove s now → has_stamp itself s now ≡ false
above-none s [] above = refl
above-none s (a ∷ now) above = go (above-none s now above.1) (a == s) refl
  where
    go : has_stamp itself s now ≡ false → (b : Bool) → (a == s) ≡ b → (b || has_stamp itself s now) ≡ false
    go rest true on = let same : a ≡ s = eqb-true a s on in let low : a < s = above.0 in absurd (omega (arith, same, low))
    go rest false off = rest

absent-none : (s : ℕ) (now : List ℕ) → ¬ Stands s now → has_stamp itself s now ≡ false
absent-none s [] absent = refl
absent-none s (a ∷ now) absent = go (absent-none s now (λ there. absent (inr there))) (a == s) refl
  where
    go : has_stamp itself s now ≡ false → (b : Bool) → (a == s) ≡ b → (b || has_stamp itself s now) ≡ false
    go rest true on = absurd (absent (inl (eqb-true a s on)))
    go rest false off = rest

own-stamp : (s : ℕ) (more : List ℕ) → has_stamp itself s (s ∷ more) ≡ true
own-stamp s more = ap (λ b. b || has_stamp itself s more) (eq-eqb s s refl)

kept-has : (base s : ℕ) (now : List ℕ) → has_stamp itself s (kept itself base s now) ≡ true
kept-has base s [] = own-stamp s []
kept-has base s (a ∷ []) = own-stamp s (a ∷ [])
kept-has base s (a ∷ b ∷ more) = go (greater_goes base a b)
  where
    go : (t : Bool) → has_stamp itself s (cond t (s ∷ b ∷ []) (s ∷ a ∷ [])) ≡ true
    go true = own-stamp s (b ∷ [])
    go false = own-stamp s (a ∷ [])

refilled-has : (s : ℕ) (now : List ℕ) → has_stamp itself s (refilled itself s now) ≡ true
refilled-has s [] = own-stamp s []
refilled-has s (a ∷ more) = go (nat_lt a s)
  where
    behind : (b : Bool) → (b || has_stamp itself s (s ∷ [])) ≡ true
    behind true = refl
    behind false = own-stamp s []

    go : (t : Bool) → has_stamp itself s (cond t (s ∷ a ∷ []) (a ∷ s ∷ [])) ≡ true
    go true = own-stamp s (a ∷ [])
    go false = behind (a == s)

not-both : (a b s : ℕ) → b < a → (a == s) ≡ true → (b == s) ≡ false
not-both a b s less on = go (b == s) refl
  where
    go : (t : Bool) → (b == s) ≡ t → t ≡ false
    go true also = let one : a ≡ s = eqb-true a s on in let two : b ≡ s = eqb-true b s also in absurd (omega (arith, less, one, two))
    go false off = refl

without-none : (s : ℕ) (now : List ℕ) → IsPair now → has_stamp itself s (without itself s now) ≡ false
without-none s [] pair = refl
without-none s (a ∷ []) pair = go (a == s) refl
  where
    go : (t : Bool) → (a == s) ≡ t → has_stamp itself s (cond t [] (a ∷ [])) ≡ false
    go true on = refl
    go false off = ap (λ z. z || false) off
without-none s (a ∷ b ∷ []) pair = go (a == s) refl
  where
    last : (t : Bool) → (b == s) ≡ t → has_stamp itself s (cond t [] (b ∷ [])) ≡ false
    last true on = refl
    last false off = ap (λ z. z || false) off

    go : (t : Bool) → (a == s) ≡ t → has_stamp itself s (cond t (b ∷ []) (a ∷ cond (b == s) [] (b ∷ []))) ≡ false
    go true on = ap (λ z. z || false) (not-both a b s pair on)
    go false off = ap (λ z. z || has_stamp itself s (cond (b == s) [] (b ∷ []))) off ∙ last (b == s) refl
without-none s (a ∷ b ∷ c ∷ more) pair = absurd pair

none-without : (s : ℕ) (now : List ℕ) → has_stamp itself s now ≡ false → without itself s now ≡ now
none-without s [] none = refl
none-without s (a ∷ more) none = go (none-without s more) (a == s) none
  where
    go : (has_stamp itself s more ≡ false → without itself s more ≡ more) → (t : Bool) → (t || has_stamp itself s more) ≡ false → cond t more (a ∷ without itself s more) ≡ a ∷ more
    go rest true is = absurd (cc)
    go rest false is = ap (λ ts. a ∷ ts) (rest is)

-- ---- the records of a node that was opened

-- what stamps say of a change
abbrev says : Facts → Change → (Key → List ℕ) → Bool
says f (change.Keep at s position) stamps = has_stamp itself s (stamps at)
says f (change.Refill fence at s position) stamps = has_stamp itself s (stamps at)
says f (change.Drop at s) stamps = not (has_stamp itself s (stamps at))

module _ (f : Facts) (s : NodeState) (stamps : Key → List ℕ) (are : (key : Key) → held_of s.held key ≡ map (record_in f) (stamps key)) where
  stamp-told : (stamp : ℕ) (key : Key) → has_stamp stamp_of stamp (held_of s.held key) ≡ has_stamp itself stamp (stamps key)
  stamp-told stamp key = ap (has_stamp stamp_of stamp) (are key) ∙ has_stamp-map (record_in f) itself stamp_of (λ a. refl) stamp (stamps key)

  told : (c : Change) → has_change s.held c ≡ says f c stamps
  told (change.Keep at stamp position) = stamp-told stamp at
  told (change.Refill fence at stamp position) = stamp-told stamp at
  told (change.Drop at stamp) = ap not (stamp-told stamp at)

module _ (f : Facts) (now : Key → List ℕ) where
  -- with the change it says so
  with-says : (c : Change) → ((key : Key) → IsPair (now key)) → says f c (λ key. changed f key c (now key)) ≡ true
  with-says (change.Keep at s position) pairs =
      ap (λ b. has_stamp itself s (cond b (kept itself (base_begun f s) s (now at)) (now at))) (same_key-refl at) ∙ kept-has (base_begun f s) s (now at)
  with-says (change.Refill fence at s position) pairs =
      ap (λ b. has_stamp itself s (cond b (refilled itself s (now at)) (now at))) (same_key-refl at) ∙ refilled-has s (now at)
  with-says (change.Drop at s) pairs =
      ap (λ b. not (has_stamp itself s (cond b (without itself s (now at)) (now at)))) (same_key-refl at) ∙ ap not (without-none s (now at) (pairs at))

  -- without it, it says that it is not there, or the change changes nothing
  without-says : (c : Change) → ((key : Key) → Fits f key c (now key)) → says f c now ≡ true → (key : Key) → changed f key c (now key) ≡ now key
  without-says (change.Keep at s position) fits is key =
      let none = above-none s (now at) (fits at (same_key-refl at)) in absurd (let no : true ≡ false = sym is ∙ none in cc)
  without-says (change.Refill fence at s position) fits is key =
      let none = absent-none s (now at) (fits at (same_key-refl at)).0 in absurd (let no : true ≡ false = sym is ∙ none in cc)
  without-says (change.Drop at s) fits is key = go (has_stamp itself s (now at)) refl is
    where
      go : (b : Bool) → has_stamp itself s (now at) ≡ b → not b ≡ true → changed f key (change.Drop at s) (now key) ≡ now key
      go true has off = absurd (cc)
      go false none on = by-key (same_key key at) refl
        where
          by-key : (t : Bool) → same_key key at ≡ t → cond t (without itself s (now key)) (now key) ≡ now key
          by-key true same = none-without s (now key) (subst (λ k. has_stamp itself s (now k) ≡ false) (sym (same_key-true key at same)) none)
          by-key false other = refl

-- ---- a start that takes what the records say

rest-held : (n : ℕ) (w : List Event) (f : Facts) (key : Key) (p : Phase) → held f (stopped_if p n w) key ≡ held f w key
rest-held n w f key Up = refl
rest-held n w f key Down = refl
rest-held n w f key Lost = refl

module _ (v : Volume) (h : List Event) (legal : IsLegalInRuns v h) (n : ℕ) (s : NodeState) where
  abbrev f : Facts
  f = facts h

  abbrev w : List Event
  w = node n h

  -- the records with the undecided change, and without
  settled-there : (c : Change) → undecided w ≡ Some c → (key : Key) → held f (e.Start n true ∷ at_rest n w) key ≡ changed f key c (held f w key)
  settled-there c some key = ap₂ (λ u now. settled f key u now) (rest-undecided n w (phase w) ∙ some) (rest-held n w f key (phase w))

  held-there : (key : Key) → held f (e.Start n false ∷ at_rest n w) key ≡ held f w key
  held-there key = rest-held n w f key (phase w)

  with-held : (took other : Bool) → ((key : Key) → held f (e.Start n took ∷ at_rest n w) key ≡ held f (e.Start n other ∷ at_rest n w) key) → IsNode f (e.Start n took ∷ at_rest n w) s → IsNode f (e.Start n other ∷ at_rest n w) s
  with-held took other same is = record {
    phase_is = is.phase_is;
    fence_is = is.fence_is;
    losses_is = is.losses_is;
    held_is = λ key. is.held_is key ∙ ap (map (record_in f)) (same key);
    whole = is.whole;
    undecided_is = is.undecided_is;
  }

  -- the node had the change
  had : (c : Change) → undecided w ≡ Some c → IsNode f (e.Start n true ∷ at_rest n w) s → IsNode f (e.Start n (has_change s.held c) ∷ at_rest n w) s
  had c some is =
      let says-so = told f s (λ key. changed f key c (held f w key)) (λ key. is.held_is key ∙ ap (map (record_in f)) (settled-there c some key)) c in
      let yes = says-so ∙ with-says f (held f w) c (λ key. word-pair v f w (rows v h legal n) key) in
      subst (λ b. IsNode f (e.Start n b ∷ at_rest n w) s) (sym yes) is

  -- or it had it not
  had-not : (c : Change) → undecided w ≡ Some c → IsNode f (e.Start n false ∷ at_rest n w) s → IsNode f (e.Start n (has_change s.held c) ∷ at_rest n w) s
  had-not c some is = go (has_change s.held c) refl
    where
      says-so : has_change s.held c ≡ says f c (held f w)
      says-so = told f s (held f w) (λ key. is.held_is key ∙ ap (map (record_in f)) (held-there key)) c

      go : (b : Bool) → has_change s.held c ≡ b → IsNode f (e.Start n b ∷ at_rest n w) s
      go false off = is
      go true on =
          let same = without-says f (held f w) c (λ key. pending-fits v f w (rows v h legal n) key c some) (sym says-so ∙ on) in
          with-held false true (λ key. held-there key ∙ sym (same key) ∙ sym (settled-there c some key)) is

  as-told : (took : Bool) → (took ≡ true → (c : Change) × (undecided w ≡ Some c)) → IsNode f (e.Start n took ∷ at_rest n w) s
      → (u : Option Change) → undecided w ≡ u → IsNode f (e.Start n (option_map_or (has_change s.held) u false) ∷ at_rest n w) s
  as-told false may is None none = is
  as-told true may is None none = absurd (let it = may refl in let no : None ≡ Some it.0 = sym none ∙ it.1 in cc)
  as-told false may is (Some c) some = had-not c some is
  as-told true may is (Some c) some = had c some is

-- ---- the nodes that are here are those of the log in which they took what they have

module _ (v : Volume) (rules : IsVolume v) (h : List Event) (here : ℕ → Bool) (export_now : ExportState) (nodes : ℕ → NodeState) (earlier : IsEarlier v h) (found : AreFoundHere v here h export_now nodes)
    (back : MayReturn v) (on : MayGoOnWithout v) where
  abbrev took : ℕ → Bool
  took = took_of h nodes

  abbrev old : List Event
  old = returned v here took h

  pub may-take : MayTake h took
  may-take n is = go (undecided (node n h)) refl is
    where
      go : (u : Option Change) → undecided (node n h) ≡ u → option_map_or (has_change (nodes n).held) u false ≡ true → (c : Change) × (undecided (node n h) ≡ Some c)
      go None none off = absurd (cc)
      go (Some c) some on = (c, some)

  pub back-as-told : AreBack v here h export_now nodes old
  back-as-told =
      let some = on h here export_now nodes earlier found in
      let it = back h earlier here took may-take in
      let was = some.2.back.restart in record {
        back = it;
        nodes_are = λ n at up.
            subst (λ g. IsNode g (node n old) (nodes n)) (sym it.restart.facts_are)
            (subst (λ w. IsNode (facts h) w (nodes n)) (sym (word-here v rules h earlier here took n at up))
            (as-told v h earlier.legal n (nodes n) (some.0 n) (some.1 n)
            (subst (λ w. IsNode (facts h) w (nodes n)) (word-here v rules h earlier here some.0 n at up) (subst (λ g. IsNode g (node n (returned v here some.0 h)) (nodes n)) was.facts_are (some.2.nodes_are n at up)))
            (undecided (node n h)) refl));
        export_is = some.2.export_is ∙ ap₂ (λ g w. export_of v g w) (was.facts_are ∙ sym it.restart.facts_are) (was.export_word ∙ sym it.restart.export_word);
      }
