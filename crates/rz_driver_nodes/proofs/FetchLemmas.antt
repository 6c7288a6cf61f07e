-- A node is asked for a record.
use Rattle.std.proofs.Common.{◌≡◌, ◌≤◌, ◌+◌, ◌-◌, ℕ, zero, suc, Bool, true, false, nat_eq, List, [], ◌∷◌, ◌∙◌, inl, inr, drop, set, Option, Some, refl, sym, ap, arith, subst}
use Rattle.std.specs.Prelude.{slice_get, ◌==◌, cond}
use Rattle.std.specs.FinMap.{get-empty}
use Rattle.std.specs.List.{AllByRecursion}
use Rattle.std.proofs.Math.Path.{fun_ext}
use Rattle.std.proofs.Math.Seq.{drop-nil}
use Rattle.std.proofs.lemmas.Bool.{eqb-true}
use Rattle.mj_angles.specs.declared.layout.Layout.{Layout}
use Rattle.mj_angles.specs.Layout.{max_bins_of}
use Rattle.rz_disk.specs.UnderFuse.{UnderFuse}
use Rattle.rz_disk.specs.Meter.{Meter}
use Rattle.rz_events.specs.Volume.{Volume}
use Rattle.rz_events.specs.Keys.{key_cmp}
use Rattle.rz_events.specs.declared.keys.Key.{Key}
use Rattle.rz_events.specs.declared.keys.Actor.TheVariants.{Admin}
use Rattle.rz_events.specs.declared.records.Held.{Held}
use Rattle.rz_events.specs.declared.nodes.FetchAnswer.{FetchAnswer}
use Rattle.rz_events.specs.declared.nodes.FetchAnswer.TheVariants as fetch
use Rattle.rz_events.specs.declared.nodes.NodeAsk.TheVariants as ask
use Rattle.rz_events.specs.declared.nodes.NodeAnswer.TheVariants as answer
use Rattle.rz_events.specs.declared.events.Event.{Event}
use Rattle.rz_cells_slots.specs.declared.geometry.Geometry.{Geometry}
use Rattle.rz_core.specs.NodeRows.{cells_of}
use Rattle.rz_node.specs.Fetched.{IsFetchedFromDisk, IfHeld}
use Rattle.rz_node_model.specs.Answers.{IsFetchAnswer, fetch_answer, fetch_found}
use Rattle.rz_node_model.specs.Afterwards.{after_fetch}
use Rattle.rz_node_model.specs.NodeEvents.{fetch_event}
use Rattle.rz_node_model.specs.Records.{found, listed}
use Rattle.rz_node_model.specs.States.{NodeState, fresh}
use Rattle.rz_scrub_report.specs.Stores.{AreBinsRead}
use Rattle.rz_nodes.specs.declared.formatting.Server.{Server}
use Rattle.rz_driver_nodes.specs.Fetches.{HaveRoom, IsFetch, GivesAt, GivesIn}
use Rattle.rz_driver_nodes.specs.Meters.{AreMetered, GoesAsServer}
use Rattle.rz_driver_nodes.specs.Asked.{IsServerOnlyAsked, AreOnlyAsked}
use Rattle.rz_driver_nodes.specs.Images.{AreDisksImaged, fused_image}
use Rattle.rz_driver_nodes.specs.Servers.{IsServerAt, IsCalled, IsNowhere, IsServer, numbers_of, state_in}
use Rattle.rz_nodes.specs.Formatted.{disks_of}
use Rattle.rz_driver_nodes.proofs.AskedLaws.{all-themselves, one-itself}
use Rattle.rz_driver_nodes.proofs.EventWords.{node-word, noted-others}
use Rattle.rz_driver_nodes.proofs.MeterLemmas.{metered-apart, metered-step}
use Rattle.rz_driver_nodes.proofs.Rows.{state-same, state-at, state-set}

-- a fetch leaves a node's fence
pub fence-after : (given : FetchAnswer) (s : NodeState) → (after_fetch given s).fence ≡ s.fence
fence-after (fetch.Held told) s = refl
fence-after fetch.Nothing s = refl
fence-after fetch.Lost s = refl
fence-after fetch.Down s = refl
fence-after fetch.DiskFault s = refl

-- what is read where a record is told
pub read-of : (P : Held → List ℕ → List ℕ → Type 0) (given : FetchAnswer) (a b : List ℕ) → IfHeld given (λ told. P told a b) → AreBinsRead P given a b
read-of P (fetch.Held told) a b h = h
read-of P fetch.Nothing a b h = tt
read-of P fetch.Lost a b h = tt
read-of P fetch.Down a b h = tt
read-of P fetch.DiskFault a b h = tt

pub read-then : {P Q : Held → List ℕ → List ℕ → Type 0} → ((told : Held) (a b : List ℕ) → P told a b → Q told a b) → (given : FetchAnswer) (a b : List ℕ) → AreBinsRead P given a b → AreBinsRead Q given a b
read-then to (fetch.Held told) a b h = to told a b h
read-then to fetch.Nothing a b h = h
read-then to fetch.Lost a b h = h
read-then to fetch.Down a b h = h
read-then to fetch.DiskFault a b h = h

-- what is the same behind fewer is the same behind more

drop-sum : (m k : ℕ) (xs : List ℕ) → drop (m + k) xs ≡ drop k (drop m xs)
drop-sum zero k xs = let plain : 0 + k ≡ k = omega arith in ap (λ (n : ℕ). drop n xs) plain
drop-sum (suc m) k [] = drop-nil (suc m + k) ∙ sym (drop-nil k)
drop-sum (suc m) k (x ∷ xs) = let shift : suc m + k ≡ suc (m + k) = omega arith in ap (λ (n : ℕ). drop n (x ∷ xs)) shift ∙ drop-sum m k xs

pub behind-more : (m count : ℕ) (xs ys : List ℕ) → m ≤ count → drop m xs ≡ drop m ys → drop count xs ≡ drop count ys
behind-more m count xs ys low same =
    let parts : count ≡ m + (count - m) = omega (arith, low) in
    ap (λ (n : ℕ). drop n xs) parts ∙ drop-sum m (count - m) xs ∙ ap (drop (count - m)) same ∙ sym (drop-sum m (count - m) ys) ∙ ap (λ (n : ℕ). drop n ys) (sym parts)

-- a node that holds nothing
nothing-held : (key : Key) (stamp : ℕ) → fetch_answer fresh key stamp ≡ fetch.Nothing
nothing-held key stamp = ap (λ (o : Option (List Held)). fetch_found (found stamp (listed o))) (get-empty key_cmp key)

module _ {D : Type 0} where
  the-one : (x s : Server D) → Some x ≡ Some s → x ≡ s
  the-one x s is = cc

  -- what that node gives is what the node of its number gives
  pub gives-in : (tells : Bool) (text : D → List ℕ) (xs : List (Server D)) (n place : ℕ) (s : Server D) (key : Key) → IsServerAt xs n place → slice_get xs place ≡ Some s
      → (told : Held) (a b : List ℕ) → GivesAt tells text s key told a b → GivesIn tells text xs n key told a b
  gives-in tells text xs n place s key at is told a b gives = (place, s, at, is, gives)

  -- ---- a number that no node has

  pub state-nowhere : (xs : List (Server D)) (n : ℕ) → IsNowhere xs n → state_in xs n ≡ fresh
  state-nowhere [] n none = refl
  state-nowhere (x ∷ xs) n none = by_test (n == x.sid) refl (state-nowhere xs n none.1)
    where
      by_test : (b : Bool) → (n == x.sid) ≡ b → state_in xs n ≡ fresh → cond b x.node.state (state_in xs n) ≡ fresh
      by_test true is more = absurd (none.0 (sym (eqb-true n x.sid is)))
      by_test false is more = more

  numbers-apart : (xs : List (Server D)) (n : ℕ) → IsNowhere xs n → AllByRecursion (λ m. nat_eq n m ≡ false) (numbers_of xs)
  numbers-apart [] n none = tt
  numbers-apart (x ∷ xs) n none = (by_test (nat_eq n x.sid) refl, numbers-apart xs n none.1)
    where
      by_test : (b : Bool) → nat_eq n x.sid ≡ b → nat_eq n x.sid ≡ false
      by_test true is = absurd (none.0 (sym (eqb-true n x.sid is)))
      by_test false is = is

  pub nowhere-fetch : (key : Key) (stamp n : ℕ) (xs : List (Server D)) → IsNowhere xs n → IsFetch key stamp fetch.Nothing n xs xs
  nowhere-fetch key stamp n xs none = record {
    given_is = sym (ap (λ (s : NodeState). fetch_answer s key stamp) (state-nowhere xs n none) ∙ nothing-held key stamp);
    states = fun_ext (λ m. sym (state-same xs n m (state_in xs n) refl));
    one = inl refl;
  }

  pub nowhere-metered : (meter : D → Meter) (key : Key) (position stamp n : ℕ) (numbers : List ℕ) (first : ℕ → ℕ) (xs : List (Server D)) (h : List Event) → IsNowhere xs n → AreMetered meter numbers xs h first
      → AreMetered meter numbers xs (fetch_event Admin n key position stamp fetch.Nothing ∷ h) first
  nowhere-metered meter key position stamp n numbers first xs h none met =
      let x = fetch_event Admin n key position stamp fetch.Nothing in
      metered-apart meter first numbers n xs h (x ∷ h) (numbers-apart xs n none)
      (noted-others n (Some x) h (node-word Admin n (ask.Fetch key position stamp) (answer.Fetch fetch.Nothing))) met

  -- ---- the node at a place

  pub only-set : (text : D → List ℕ) (image : D → List ℕ → Type 0) (xs : List (Server D)) (place : ℕ) (s s' : Server D) → slice_get xs place ≡ Some s → IsServerOnlyAsked text image s s'
      → AreOnlyAsked text image xs (set xs place s')
  only-set text image [] place s s' is asked = tt
  only-set text image (x ∷ xs) zero s s' is asked = (subst (λ (y : Server D). IsServerOnlyAsked text image y s') (sym (the-one x s is)) asked, all-themselves text image xs)
  only-set text image (x ∷ xs) (suc place) s s' is asked = (one-itself text image x, only-set text image xs place s s' is asked)

  pub at-fetch : (key : Key) (stamp : ℕ) (given : FetchAnswer) (n place : ℕ) (xs : List (Server D)) (s s' : Server D) → IsServerAt xs n place → slice_get xs place ≡ Some s
      → IsFetchAnswer (fetch_answer s.node.state key stamp) given → s'.node.state ≡ after_fetch given s.node.state → IsCalled s s' → IsFetch key stamp given n xs (set xs place s')
  at-fetch key stamp given n place xs s s' at is given_is after called =
      let here = state-at xs n place s at is in
      let now : s'.node.state ≡ after_fetch given (state_in xs n) = after ∙ ap (after_fetch given) (sym here.1) in
      record {
        given_is = subst (λ (x : NodeState). IsFetchAnswer (fetch_answer x key stamp) given) (sym here.1) given_is;
        states = fun_ext (λ m. state-set xs n place s' at (called.sid ∙ here.0) m ∙ ap (λ (x : NodeState). cond (m == n) x (state_in xs m)) now);
        one = inr (record { place = place; server = s; after = s'; at = at; is = is; servers = refl; called = called });
      }

  pub at-metered : (meter : D → Meter) (event : ℕ → Event) (n place : ℕ) (numbers : List ℕ) (first : ℕ → ℕ) (xs : List (Server D)) (s s' : Server D) (h : List Event) → IsServerAt xs n place → slice_get xs place ≡ Some s
      → s'.sid ≡ s.sid → GoesAsServer meter s s' (Some (event s.sid)) → AreMetered meter numbers xs h first → AreMetered meter numbers (set xs place s') (event n ∷ h) first
  at-metered meter event n place numbers first xs s s' h at is sid goes met =
      subst (λ (k : ℕ). AreMetered meter numbers (set xs place s') (event k ∷ h) first) (state-at xs n place s at is).0
      (metered-step meter first numbers xs place s s' h (event s.sid ∷ h) is sid (goes h) met)

  -- ---- nodes of which records were asked

  pub numbers-asked : (text : D → List ℕ) (image : D → List ℕ → Type 0) (xs ys : List (Server D)) → AreOnlyAsked text image xs ys → numbers_of ys ≡ numbers_of xs
  numbers-asked text image [] [] all = refl
  numbers-asked text image [] (y ∷ ys) all = absurd all
  numbers-asked text image (x ∷ xs) [] all = absurd all
  numbers-asked text image (x ∷ xs) (y ∷ ys) all = λ i. all.0.called.sid i ∷ numbers-asked text image xs ys all.1 i

  pub servers-asked : (text : D → List ℕ) (image : D → List ℕ → Type 0) (v : Volume) (xs ys : List (Server D)) → AreOnlyAsked text image xs ys → AllByRecursion (IsServer v) xs → AllByRecursion (IsServer v) ys
  servers-asked text image v [] [] all shapes = tt
  servers-asked text image v [] (y ∷ ys) all shapes = absurd all
  servers-asked text image v (x ∷ xs) [] all shapes = absurd all
  servers-asked text image v (x ∷ xs) (y ∷ ys) all shapes = (
    record {
      layout = ap (λ (g : Geometry). g.layout) all.0.called.geometry ∙ shapes.0.layout;
      cells = ap (λ (g : Geometry). g.cells) all.0.called.geometry ∙ shapes.0.cells ∙ ap (cells_of v) (sym all.0.called.sid);
    },
    servers-asked text image v xs ys all.1 shapes.1,
  )

  -- where a node stands afterwards one stood before
  before-at : (text : D → List ℕ) (image : D → List ℕ → Type 0) (xs ys : List (Server D)) (n p : ℕ) (t : Server D) → AreOnlyAsked text image xs ys → IsServerAt ys n p → slice_get ys p ≡ Some t
      → (s : Server D) × IsServerAt xs n p × (slice_get xs p ≡ Some s) × IsServerOnlyAsked text image s t
  before-at text image xs [] n p t all at is = absurd at
  before-at text image [] (y ∷ ys) n p t all at is = absurd all
  before-at text image (x ∷ xs) (y ∷ ys) n zero t all at is = (x, sym all.0.called.sid ∙ at, refl, subst (λ (z : Server D). IsServerOnlyAsked text image x z) (the-one y t is) all.0)
  before-at text image (x ∷ xs) (y ∷ ys) n (suc p) t all at is =
      let more = before-at text image xs ys n p t all.1 at.1 is in
      (more.0, ((λ same. at.0 (all.0.called.sid ∙ same)), more.1), more.2, more.3)

  back-at : (tells : Bool) (text : D → List ℕ) (image : D → List ℕ → Type 0) (s t : Server D) → IsServerOnlyAsked text image s t → (key : Key) (told : Held) (a b : List ℕ) → GivesAt tells text t key told a b
      → GivesAt tells text s key told a b
  back-at tells text image s t asked key told a b gives tells_it =
      subst (λ (x : List ℕ). IsFetchedFromDisk s.node.geometry s.node.state.fence x key told a b) asked.text_is
      (subst (λ (k : ℕ). IsFetchedFromDisk s.node.geometry k (text t.node.disk) key told a b) asked.fence
      (subst (λ (g : Geometry). IsFetchedFromDisk g t.node.state.fence (text t.node.disk) key told a b) asked.called.geometry (gives tells_it)))

  pub gives-before : (tells : Bool) (text : D → List ℕ) (image : D → List ℕ → Type 0) (xs ys : List (Server D)) → AreOnlyAsked text image xs ys
      → (n : ℕ) (key : Key) (told : Held) (a b : List ℕ) → GivesIn tells text ys n key told a b → GivesIn tells text xs n key told a b
  gives-before tells text image xs ys all n key told a b (p, t, at, is, gives) =
      let s = before-at text image xs ys n p t all at is in
      (p, s.0, s.1, s.2, back-at tells text image s.0 t s.3 key told a b gives)

-- ---- the disks that are handed back

-- what each image is by the log, each that is left is
pub disks-since : {D : Type 0} (text : UnderFuse D → List ℕ) (image : D → List ℕ → Type 0) (v : Volume) (h : List Event) (numbers : List ℕ) (xs ys : List (Server (UnderFuse D)))
    → AreOnlyAsked text (fused_image image) xs ys → AreDisksImaged image v numbers (disks_of xs) h → AreDisksImaged image v numbers (disks_of ys) h
disks-since text image v h [] [] [] all imaged = tt
disks-since text image v h [] [] (y ∷ ys) all imaged = absurd all
disks-since text image v h [] (x ∷ xs) ys all imaged = absurd imaged
disks-since text image v h (n ∷ numbers) [] ys all imaged = absurd imaged
disks-since text image v h (n ∷ numbers) (x ∷ xs) [] all imaged = absurd all
disks-since text image v h (n ∷ numbers) (x ∷ xs) (y ∷ ys) all imaged =
    ((λ there c has. imaged.0 there c (all.0.within c has)), disks-since text image v h numbers xs ys all.1 imaged.1)

-- there is room for the records of each node
pub have-room : {D : Type 0} (v : Volume) (count : ℕ) (xs : List (Server D)) → max_bins_of v.layout ≤ count → AllByRecursion (IsServer v) xs → HaveRoom count xs
have-room v count [] room all = tt
have-room v count (x ∷ xs) room all = (subst (λ (y : Layout). max_bins_of y ≤ count) (sym all.0.layout) room, have-room v count xs room all.1)
