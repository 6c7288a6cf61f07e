-- Nodes that give the projections of one block.
use Rattle.std.proofs.Common.{ℕ, zero, suc, ◌≡◌, ◌+◌, ◌∙◌, ◌⊎◌, inl, inr, Bool, true, false, cond, List, [], ◌∷◌, get_or, set, replicate, take, Option, Some, None, refl, sym, ap, arith, subst}
use Rattle.std.specs.Prelude.{is_some, slice_get, ◌==◌}
use Rattle.std.proofs.lemmas.Bool.{eqb-true}
use Rattle.std.proofs.lemmas.Option.{same_Some}
use Rattle.mj_angles.specs.declared.layout.Layout.{Layout}
use Rattle.mj_angles.specs.Layout.{angle_of, bins_at_of, safe_of}
use Rattle.mj_forward.specs.Forward.{projection_of}
use Rattle.rz_words.specs.Grid.{Grid}
use Rattle.rz_events.specs.declared.keys.Key.{Key}
use Rattle.rz_events.specs.declared.files.Listed.{Listed}
use Rattle.rz_events.specs.declared.records.Held.{Held}
use Rattle.rz_events.specs.declared.nodes.FetchAnswer.{FetchAnswer}
use Rattle.rz_events.specs.declared.nodes.FetchAnswer.TheVariants as fetch
use Rattle.rz_export_model.specs.Export.{Export}
use Rattle.rz_node_model.specs.Afterwards.{after_fetch}
use Rattle.rz_node_model.specs.Answers.{IsFetchAnswer, fetch_answer}
use Rattle.rz_node_model.specs.States.{NodeState}
use Rattle.rz_scrub.specs.Misfits.{IsBlock}
use Rattle.rz_scrub.specs.Records.{Records, bins_at, no_records}
use Rattle.rz_scrub.specs.declared.verdict.Verdict.TheVariants.{Clean}
use Rattle.rz_scrub_report.specs.declared.finding.Finding.{Finding}
use Rattle.rz_scrub_report.specs.declared.finding.Finding.TheVariants.{Few, Judged}
use Rattle.rz_scrub_report.specs.Asks.{AreAsked, AreGiven, IsRecordAsked, AreRecordsFound, with_given}
use Rattle.rz_scrub_report.specs.Findings.{AreOf}
use Rattle.rz_scrub_report.specs.Scrubs.{AreListed, AreFindingsTold, AreUnaltered, EachListed, IsScrubbed}
use Rattle.rz_scrub_report.specs.Stores.{State, IsAnsweredFetch, AreBinsRead}
use Rattle.rz_scrub_report.proofs.Whole.{whole}

abbrev Slots : Type 0
Slots = List (Option (List ℕ))

-- no position has bins at first
nones : (n p : ℕ) (x : List ℕ) → get_or (replicate n (let o : Option (List ℕ) = None in o)) p None ≡ Some x → ⊥
nones zero p x h = cc
nones (suc n) zero x h = cc
nones (suc n) (suc p) x h = nones n p x h

-- bins that are there were added, or were there before
set-at : (os : Slots) (i p : ℕ) (b x : List ℕ) → get_or (set os i (Some b)) p None ≡ Some x → ((p ≡ i) × (x ≡ b)) ⊎ (get_or os p None ≡ Some x)
set-at [] i p b x h = cc
set-at (o ∷ os) zero zero b x h = inl (refl, sym (same_Some b x h))
set-at (o ∷ os) zero (suc p) b x h = inr h
set-at (o ∷ os) (suc i) zero b x h = inr h
set-at (o ∷ os) (suc i) (suc p) b x h = later (set-at os i p b x h)
  where
    later : ((p ≡ i) × (x ≡ b)) ⊎ (get_or os p None ≡ Some x) → ((suc p ≡ suc i) × (x ≡ b)) ⊎ (get_or os p None ≡ Some x)
    later (inl e) = inl (ap suc e.0, e.1)
    later (inr e) = inr e

there : (o : Option (List ℕ)) (y : List ℕ) → is_some o ≡ true → ((x : List ℕ) → o ≡ Some x → x ≡ y) → o ≡ Some y
there None y h is = cc
there (Some x) y h is = ap Some (is x refl)

-- What nodes tell after asks, they told before.

abbrev pub Back : (ℕ → NodeState) → (ℕ → NodeState) → Type 0
Back first now = (n : ℕ) (key : Key) (stamp : ℕ) (told : Held) → IsFetchAnswer (fetch_answer (now n) key stamp) (fetch.Held told)
    → IsFetchAnswer (fetch_answer (first n) key stamp) (fetch.Held told)

back-state : (given : FetchAnswer) (s : NodeState) (key : Key) (stamp : ℕ) (told : Held) → IsFetchAnswer (fetch_answer (after_fetch given s) key stamp) (fetch.Held told)
    → IsFetchAnswer (fetch_answer s key stamp) (fetch.Held told)
back-state (fetch.Held r) s key stamp told h = h
back-state fetch.Nothing s key stamp told h = h
back-state fetch.Lost s key stamp told h = h
back-state fetch.Down s key stamp told h = h
back-state fetch.DiskFault s key stamp told h = let none : fetch.Held told ≡ fetch.Down = h in absurd (cc)

back-one : (n : ℕ) (key' : Key) (position stamp' : ℕ) (given : FetchAnswer) (w next : State) → IsAnsweredFetch n key' position stamp' given w next → Back w.nodes next.nodes
back-one n key' position stamp' given w next f m key stamp told h =
    by_test (m == n) refl (subst (λ (nodes : ℕ → NodeState). IsFetchAnswer (fetch_answer (nodes m) key stamp) (fetch.Held told)) f.nodes h)
  where
    by_test : (b : Bool) → (m == n) ≡ b → IsFetchAnswer (fetch_answer (cond b (after_fetch given (w.nodes n)) (w.nodes m)) key stamp) (fetch.Held told)
        → IsFetchAnswer (fetch_answer (w.nodes m) key stamp) (fetch.Held told)
    by_test true is h' = subst (λ (k : ℕ). IsFetchAnswer (fetch_answer (w.nodes k) key stamp) (fetch.Held told)) (sym (eqb-true m n is)) (back-state given (w.nodes n) key stamp told h')
    by_test false is h' = h'

back-all : (gives : ℕ → Key → Held → List ℕ → List ℕ → Type 0) (l : Listed) (nodes : List ℕ) (position : ℕ) (first : ℕ → NodeState) (w next : State) (s s' : Records)
    → AreAsked gives l position nodes w next s s' → Back first w.nodes → Back first next.nodes
back-all gives l [] position first w next s s' h back = subst (λ (t : State). Back first t.nodes) (sym h.0) back
back-all gives l (n ∷ nodes) position first w next s s' h back =
    let asked : IsRecordAsked gives l position n w h.0 s h.1 = h.2 in
    back-all gives l nodes (position + 1) first h.0 next h.1 s' h.3
    (λ m key stamp told x. back m key stamp told (back-one n l.key position l.published.stamp asked.given w h.0 asked.fetched m key stamp told x))

module _ (gives : ℕ → Key → Held → List ℕ → List ℕ → Type 0) (l : Listed) (layout : Layout) (g : Grid) (first : ℕ → NodeState) (given : AreGiven layout gives first l g) where
  abbrev Told : ℕ → Held → Type 0
  Told n told = IsFetchAnswer (fetch_answer (first n) l.key l.published.stamp) (fetch.Held told)

  -- the records are the block's
  abbrev Are : Records → Type 0
  Are s = (s.layout ≡ layout) × ((p : ℕ) (x : List ℕ) → bins_at s p ≡ Some x → x ≡ projection_of g (angle_of layout p))

  placed : (s : Records) (position n : ℕ) (told : Held) (before room : List ℕ) → slice_get l.info.places position ≡ Some n → Told n told → gives n l.key told before room → Are s
      → (p : ℕ) (x : List ℕ) → ((p ≡ position) × (x ≡ take (bins_at_of s.layout position) room)) ⊎ (bins_at s p ≡ Some x) → x ≡ projection_of g (angle_of layout p)
  placed s position n told before room at tells read are p x (inl e) =
      e.1 ∙ ap (λ (y : Layout). take (bins_at_of y position) room) are.0 ∙ given.each position n told before room at tells read
      ∙ ap (λ (k : ℕ). projection_of g (angle_of layout k)) (sym e.0)
  placed s position n told before room at tells read are p x (inr h) = are.1 p x h

  with-one : (s : Records) (position n : ℕ) (a : FetchAnswer) (before room : List ℕ) → slice_get l.info.places position ≡ Some n
      → ((told : Held) → a ≡ fetch.Held told → Told n told) → AreBinsRead (gives n l.key) a before room → Are s
      → Are (with_given s position a room)
  with-one s position n (fetch.Held told) before room at tells read are =
      (are.0, λ p x h. placed s position n told before room at (tells told refl) read are p x (set-at s.bins position p (take (bins_at_of s.layout position) room) x h))
  with-one s position n fetch.Nothing before room at tells read are = are
  with-one s position n fetch.Lost before room at tells read are = are
  with-one s position n fetch.Down before room at tells read are = are
  with-one s position n fetch.DiskFault before room at tells read are = are

  with-all : (nodes : List ℕ) (position : ℕ) (w next : State) (s s' : Records) → ((i n : ℕ) → slice_get nodes i ≡ Some n → slice_get l.info.places (position + i) ≡ Some n)
      → Back first w.nodes → AreAsked gives l position nodes w next s s' → Are s → Are s'
  with-all [] position w next s s' at back h are = subst Are (sym h.1) are
  with-all (n ∷ nodes) position w next s s' at back h are =
      let plain : position + 0 ≡ position = omega arith in
      let here = subst (λ (k : ℕ). slice_get l.info.places k ≡ Some n) plain (at 0 n refl) in
      let asked : IsRecordAsked gives l position n w h.0 s h.1 = h.2 in
      let now = subst Are (sym asked.records) (with-one s position n asked.given asked.before asked.room here
      (λ told is. back n l.key l.published.stamp told (subst (λ (a : FetchAnswer). IsFetchAnswer (fetch_answer (w.nodes n) l.key l.published.stamp) a) is asked.fetched.given_is)) asked.read are) in
      with-all nodes (position + 1) h.0 next h.1 s'
      (λ i m e. let shift : position + suc i ≡ position + 1 + i = omega arith in subst (λ (k : ℕ). slice_get l.info.places k ≡ Some m) shift (at (suc i) m e))
      (λ m key stamp told x. back m key stamp told (back-one n l.key position l.published.stamp asked.given w h.0 asked.fetched m key stamp told x)) h.3 now

  pub found-whole : (w next : State) (finding : Finding) → Back first w.nodes → AreRecordsFound layout gives l w finding next → (finding ≡ Few) ⊎ (finding ≡ Judged Clean)
  found-whole w next finding back found =
      let s = found.0 in
      let are = with-all l.info.places 0 w next (no_records layout) s (λ i n e. let plain : i ≡ 0 + i = omega arith in subst (λ (k : ℕ). slice_get l.info.places k ≡ Some n) plain e) back found.1
      (refl, λ p x h. absurd (nones (safe_of layout) p x h)) in
      let of : AreOf s g = record {
        block = subst (λ (y : Layout). IsBlock y g) (sym are.0) given.block;
        each = λ p has. there (bins_at s p) (projection_of g (angle_of s.layout p)) has
            (λ x h. are.1 p x h ∙ ap (λ (y : Layout). projection_of g (angle_of y p)) (sym are.0));
      } in
      whole s g finding of found.2

-- Each line of a scrub.

all-whole : (layout : Layout) (gives : ℕ → Key → Held → List ℕ → List ℕ → Type 0) (s : Export) (first : ℕ → NodeState) → EachListed s (λ l. (g : Grid) × AreGiven layout gives first l g)
    → (blocks : List Listed) (after : Option Key) (w next : State) (text : List ℕ) → Back first w.nodes → AreListed s after blocks → AreFindingsTold layout gives blocks w text next → AreUnaltered layout blocks text
all-whole layout gives s first given [] after w next text back listed told = told.0
all-whole layout gives s first given (l ∷ blocks) after w next text back listed told =
    let (mid, finding, rest, found, more, is) = told in
    let (g, are) = given after l listed.0 in
    let later = back-all gives l l.info.places 0 first w mid (no_records layout) found.0 found.1 back in
    (finding, rest, found-whole gives l layout g first are w mid finding back found, is, all-whole layout gives s first given blocks (Some l.key) mid next rest later listed.1 more)

pub scrub-whole : (layout : Layout) (gives : ℕ → Key → Held → List ℕ → List ℕ → Type 0) (w next : State) (text : List ℕ) → EachListed w.export (λ l. (g : Grid) × AreGiven layout gives w.nodes l g)
    → IsScrubbed layout gives w text next → (blocks : List Listed) × AreListed w.export None blocks × AreUnaltered layout blocks text
scrub-whole layout gives w next text given (blocks, listed, told) =
    (blocks, listed, all-whole layout gives w.export w.nodes given blocks None w next text (λ n key stamp told' h. h) listed told)
