-- What an opened node holds: the records of the log, with or without the undecided change, and its disk stands for them.
use Rattle.std.proofs.Common.{ℕ, Bool, true, false, ◌==◌, ◌||◌, ◌≡◌, inl, inr, List, [], ◌∷◌, map, Option, Some, None, is_some, cond, refl, sym, ◌∙◌, ap, subst}
use Rattle.std.specs.List.{AllByRecursion}
use Rattle.std.specs.Option.{option_map}
use Rattle.std.proofs.Math.Path.{fun_ext}
use Rattle.std.proofs.lemmas.Bool.{eqb-true}
use Rattle.rz_disk.specs.Images.{Only}
use Rattle.rz_events.specs.Volume.{Volume}
use Rattle.rz_events.specs.declared.keys.Key.{Key}
use Rattle.rz_events.specs.declared.keys.Actor.{Actor}
use Rattle.rz_events.specs.declared.records.Head.{Head}
use Rattle.rz_events.specs.declared.records.Held.{Held}
use Rattle.rz_events.specs.declared.records.Change.{Change}
use Rattle.rz_events.specs.declared.records.Change.TheVariants as change
use Rattle.rz_events.specs.declared.events.Event.{Event}
use Rattle.rz_events.specs.declared.events.Event.TheVariants as e
use Rattle.rz_record.specs.Slot.{Rec}
use Rattle.rz_node_model.specs.declared.pending.Pending.{Pending}
use Rattle.rz_node_model.specs.Afterwards.{taken}
use Rattle.rz_node_model.specs.Records.{held_of, stamp_of, record_of}
use Rattle.rz_node_model.specs.States.{NodeState}
use Rattle.rz_node_model.specs.Versions.{has_stamp}
use Rattle.rz_node_model.proofs.VersionLaws.{has_stamp-map}
use Rattle.rz_cells_slots.specs.Held.{Records}
use Rattle.rz_cells_slots.specs.Stands.{StandsFor}
use Rattle.rz_node.specs.Change.{AreHeld}
use Rattle.rz_node.specs.HeldOnDisk.{IsHeldOnDisk}
use Rattle.rz_core.specs.History.{Facts, Begun, facts, length_in, base_in}
use Rattle.rz_core.specs.NodeWord.{last_fence, undecided, held, settled, itself}
use Rattle.rz_core.specs.NodeRows.{DidRow}
use Rattle.rz_core.specs.HeldRecords.{record_on, records_of}
use Rattle.rz_core.specs.Tied.{record_in}
use Rattle.rz_core.proofs.Extends.{IsKnown, IsPlaced, Knows, KnowsChange, OfChange, held-known, undecided-known, all-changed, all-taken}
use Rattle.rz_core.proofs.Stamps.{same_key-true}
use Rattle.rz_core.proofs.NodeLaws.{node, IsRows, IsPair, word-pair, undecided-down}
use Rattle.rz_node_laws.specs.Records.{on_disk, records_in}
use Rattle.rz_node_laws.specs.Images.{geometry_in, IsImaged}
use Rattle.rz_restart_laws.specs.Found.{StandsByLog}
use Rattle.rz_restart_laws.specs.Laws.{IsFoundLaw}
use Rattle.rz_restart_laws.proofs.Lists.{found-has, found-of, falls-of, same-list}

-- ---- stamps of a list

all-stamp : (P : ℕ → Type 0) (ss : List ℕ) (stamp : ℕ) → AllByRecursion P ss → has_stamp itself stamp ss ≡ true → P stamp
all-stamp P [] stamp all has = absurd (cc)
all-stamp P (t ∷ ss) stamp all has = go (t == stamp) refl has (λ later. all-stamp P ss stamp all.1 later)
  where
    go : (b : Bool) → (t == stamp) ≡ b → (b || has_stamp itself stamp ss) ≡ true → (has_stamp itself stamp ss ≡ true → P stamp) → P stamp
    go true is has_it rest = subst P (eqb-true t stamp is) all.0
    go false is has_it rest = rest has_it

-- ---- the records of some stamps

-- the record of a stamp is there where its write is
at-written : (b : Bool) (o : Option (Head × List ℕ)) → on_disk (cond (is_some (on_disk (cond b o None))) o None) ≡ on_disk (cond b o None)
at-written true (Some p) = refl
at-written true None = refl
at-written false o = refl

some-head : (o : Option Rec) → is_some (option_map (λ (r : Rec). record_of r.head) o) ≡ is_some o
some-head (Some r) = refl
some-head None = refl

-- the text stands for the records of these stamps under a fence, and a node was opened on it
module _ (v : Volume) (f : Facts) (n : ℕ) (stamps : Key → List ℕ) (fence : ℕ) (text : List ℕ) (s : NodeState) where
  abbrev these : Records
  these key stamp = on_disk (records_of v f n stamps key stamp)

  abbrev Shown : Type 0
  Shown = (records : Records) → StandsFor (geometry_in v n) s.fence text records → IsHeldOnDisk s.held records

  module _ (at : StandsFor (geometry_in v n) fence text these) (stands : (records : Records) × StandsFor (geometry_in v n) s.fence text records) (shows : Shown) where
    -- the header has one fence
    pub fence-is : s.fence ≡ fence
    fence-is = sym stands.1.1.header.fence_is ∙ at.1.header.fence_is

    pub stands-here : StandsFor (geometry_in v n) s.fence text these
    stands-here = subst (λ z. StandsFor (geometry_in v n) z text these) (sym fence-is) at

    pub shown : IsHeldOnDisk s.held these
    shown = shows these stands-here

    pub are-held : AreHeld s.held these
    are-held key stamp =
        sym (some-head (these key stamp)) ∙ ap is_some (sym (shown.same key stamp)) ∙ found-has stamp (held_of s.held key)

    one-record : (key : Key) (stamp : ℕ) → records_in v f n s.held key stamp ≡ these key stamp
    one-record key stamp =
        ap (λ b. on_disk (cond b (record_on v.layout n stamp (f.wrote stamp) (f.places key.fid)) None))
        (has_stamp-map stamp_of stamp_of itself (λ r. refl) stamp (held_of s.held key) ∙ sym (are-held key stamp))
        ∙ at-written (has_stamp itself stamp (stamps key)) (record_on v.layout n stamp (f.wrote stamp) (f.places key.fid))

    -- what the node holds are these records
    pub records-are : records_in v f n s.held ≡ these
    records-are = fun_ext (λ key. fun_ext (λ stamp. one-record key stamp))

    pub imaged : s.undecided ≡ None → (image : List ℕ → Type 0) → Only text image → IsImaged v f n s (geometry_in v n) image
    imaged none image only = record {
      decided = λ there. none;
      held = there;
      pending = subst (λ (u : Option Pending). AreHeld (taken u s.held) (records_in v f n (taken u s.held))) (sym none) there;
      each = λ there c left. inl (subst (λ t. StandsFor (geometry_in v n) s.fence t (records_in v f n s.held)) (sym (only c left))
          (subst (StandsFor (geometry_in v n) s.fence text) (sym records-are) stands-here));
    }
      where
        there : AreHeld s.held (records_in v f n s.held)
        there = subst (AreHeld s.held) (sym records-are) are-held

    -- ---- by the log, where each of the stamps is one of a write, and the file lies somewhere

    abbrev IsRecorded : Key → ℕ → Type 0
    IsRecorded key stamp = IsKnown f stamp × IsPlaced f key.fid

    head-is : (key : Key) (stamp : ℕ) → IsRecorded key stamp → option_map (λ (r : Rec). record_of r.head) (on_disk (record_on v.layout n stamp (f.wrote stamp) (f.places key.fid))) ≡ Some (record_in f stamp)
    head-is key stamp (begun, placed) = go (f.wrote stamp) refl (f.places key.fid) refl
      where
        go : (o : Option Begun) → f.wrote stamp ≡ o → (p : Option (List ℕ)) → f.places key.fid ≡ p
            → option_map (λ (r : Rec). record_of r.head) (on_disk (record_on v.layout n stamp o p)) ≡ Some (record_in f stamp)
        go None none p at = let is = begun.1 in cc
        go (Some b) some None none = let is = placed.1 in cc
        go (Some b) some (Some ps) at =
            ap (λ (o : Option Begun). (let r : Held = record { stamp = stamp; length = length_in o; base = base_in o } in Some r)) (sym some)

    -- the records of a key, the greatest stamp first
    pub held-list : (key : Key) → IsPair (stamps key) → AllByRecursion (IsRecorded key) (stamps key) → held_of s.held key ≡ map (record_in f) (stamps key)
    held-list key pair all =
        same-list (held_of s.held key) (map (record_in f) (stamps key)) (shown.falls key) (falls-of (record_in f) (λ stamp. refl) (stamps key) pair)
        (λ stamp. shown.same key stamp ∙ each stamp (has_stamp itself stamp (stamps key)) refl ∙ sym (found-of (record_in f) (λ t. refl) stamp (stamps key)))
      where
        each : (stamp : ℕ) (b : Bool) → has_stamp itself stamp (stamps key) ≡ b
            → option_map (λ (r : Rec). record_of r.head) (on_disk (cond b (record_on v.layout n stamp (f.wrote stamp) (f.places key.fid)) None)) ≡ cond b (Some (record_in f stamp)) None
        each stamp true has = head-is key stamp (all-stamp (IsRecorded key) (stamps key) stamp all has)
        each stamp false has = refl

-- ---- what is held is of files that lie somewhere

module _ (v : Volume) (f : Facts) (key : Key) where
  abbrev Placed : ℕ → Type 0
  Placed stamp = IsPlaced f key.fid

  did-placed : (w o : List Event) (by : Actor) (n : ℕ) (c : Change) → DidRow v f w o by n c → OfChange Placed key c
  did-placed w o by n (change.Keep at s position) row = λ same. (let p = row.keep.writing.place in subst (λ (q : Key). IsPlaced f q.fid) (sym (same_key-true key at same)) (p.0, p.1))
  did-placed w o by n (change.Refill fence at s position) row = λ same. (let p = row.refill.rebuilding.place in subst (λ (q : Key). IsPlaced f q.fid) (sym (same_key-true key at same)) (p.0, p.1))
  did-placed w o by n (change.Drop at s) row = tt

  pub pending-placed : (w : List Event) → IsRows v f w → (c : Change) → undecided w ≡ Some c → OfChange Placed key c
  pending-placed [] r c u = cc
  pending-placed (e.Broke by m None ∷ w) r c u = cc
  pending-placed (e.Broke by m (Some d) ∷ w) r c u = let same : d ≡ c = cc in subst (OfChange Placed key) same (did-placed w r.1.0 by m d r.1.2)
  pending-placed (e.Start m took ∷ w) r c u = cc
  pending-placed (e.Lose m loss ∷ w) r c u = cc
  pending-placed (x ∷ w) r c u = pending-placed w r.0 c u

  pub word-placed : (w : List Event) → IsRows v f w → AllByRecursion Placed (held f w key)
  word-placed [] r = tt
  word-placed (e.Did by m c ∷ w) r = all-changed Placed f key c (held f w key) (did-placed w r.1.0 by m c r.1.2) (word-placed w r.0)
  word-placed (e.Start m true ∷ w) r = all-taken Placed f key (undecided w) (held f w key) (pending-placed w r.0) (word-placed w r.0)
  word-placed (e.Start m false ∷ w) r = word-placed w r.0
  word-placed (e.Lose m loss ∷ w) r = tt
  word-placed (x ∷ w) r = word-placed w r.0

  -- and of writes that are known
  known-change : (c : Change) → KnowsChange f c → OfChange (IsKnown f) key c
  known-change (change.Keep at s position) k = λ same. k
  known-change (change.Refill fence at s position) k = λ same. k
  known-change (change.Drop at s) k = tt

  both : (ss : List ℕ) → AllByRecursion (IsKnown f) ss → AllByRecursion Placed ss → AllByRecursion (λ stamp. IsKnown f stamp × IsPlaced f key.fid) ss
  both [] known placed = tt
  both (s ∷ ss) known placed = ((known.0, placed.0), both ss known.1 placed.1)

  pub held-recorded : (w : List Event) → IsRows v f w → AllByRecursion (Knows f) w → AllByRecursion (λ stamp. IsKnown f stamp × IsPlaced f key.fid) (held f w key)
  held-recorded w r known = both (held f w key) (held-known f w key known) (word-placed w r)

  pub settled-recorded : (w : List Event) → IsRows v f w → AllByRecursion (Knows f) w
      → AllByRecursion (λ stamp. IsKnown f stamp × IsPlaced f key.fid) (settled f key (undecided w) (held f w key))
  settled-recorded w r known =
      both (settled f key (undecided w) (held f w key))
      (all-taken (IsKnown f) f key (undecided w) (held f w key) (λ c u. known-change c (undecided-known f w known c u)) (held-known f w key known))
      (all-taken Placed f key (undecided w) (held f w key) (pending-placed w r) (word-placed w r))

  -- where a change is undecided, a start may find it
  pub settled-pair : (w : List Event) → IsRows v f w → IsPair (settled f key (undecided w) (held f w key))
  settled-pair w r = go (undecided w) refl
    where
      go : (u : Option Change) → undecided w ≡ u → IsPair (settled f key u (held f w key))
      go None none = word-pair v f w r key
      go (Some c) some =
          subst (λ (u : Option Change). IsPair (settled f key u (held f w key))) some
          (word-pair v f (e.Start 0 true ∷ w) (r, ([], [], record { down = undecided-down v f w r c some; pending = λ found_it. (c, some) })) key)

-- ---- the images of an opened node

pub found-imaged : {D : Type 0} (image : D → List ℕ → Type 0) → IsFoundLaw image
found-imaged image v h n text s d is only = go is.logged
  where
    none : s.undecided ≡ None
    none = ap (λ (z : NodeState). z.undecided) is.state

    go : StandsByLog v h n text → IsImaged v (facts h) n s (geometry_in v n) (image d)
    go (inl at) = imaged v (facts h) n (held (facts h) (node n h)) (last_fence (node n h)) text s at is.stands is.shows none (image d) only
    go (inr at) =
        imaged v (facts h) n (λ key. settled (facts h) key (undecided (node n h)) (held (facts h) (node n h) key)) (last_fence (node n h)) text s at is.stands is.shows none (image d) only
