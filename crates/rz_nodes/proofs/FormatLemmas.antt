-- Disks that are formatted one after another.
use Rattle.std.proofs.Common.{◌≡◌, ℕ, zero, suc, ◌+◌, ◌-◌, ◌<◌, ◌≤◌, Bool, true, false, if◌then◌else◌, List, [], ◌∷◌, ◌++◌, map, reverse, length, drop, get_or, Some, inl, inr, sym, ◌∙◌, ap, subst, arith, add-one, drop-cons, length-drop}
use Rattle.std.specs.Prelude.{slice_get}
use Rattle.std.specs.List.{AllZip, zip}
use Rattle.rz_cells_slots.specs.Held.{nothing}
use Rattle.rz_cells_slots.specs.Stands.{StandsFor}
use Rattle.std.proofs.lemmas.List.{append-nil, drop_all, length-map, length-reverse, reverse-append}
use Rattle.mj_angles.specs.declared.layout.Layout.{Layout}
use Rattle.rz_disk.specs.Meter.{Meter}
use Rattle.rz_disk.specs.UnderFuse.{UnderFuse}
use Rattle.rz_events.specs.declared.files.NodeSpec.{NodeSpec}
use Rattle.rz_nodes.specs.declared.formatting.Server.{Server}
use Rattle.rz_nodes.specs.Formatted.{geometry_of, IsNodeFormatted, IsBack, AreBack}
use Rattle.rz_nodes.proofs.Rowwise.{get-behind, zip-length, zip-map, zip-mid, zip-same}

pub pushed : {A : Type 0} (xs ys : List A) (x : A) (b : Bool) → ys ≡ (if b then xs ++ x ∷ [] else xs) → b ≡ true → ys ≡ xs ++ x ∷ []
pushed xs ys x true is ok = is
pushed xs ys x false is ok = (let none : true ≡ false = sym ok in absurd (cc))

drop-next : {N : Type 0} (xs : List N) (i : ℕ) (d : N) → i < length xs → drop i xs ≡ get_or xs i d ∷ drop (i + 1) xs
drop-next xs i d lt = rw (add-one) (drop-cons xs i d lt)

turned : {D : Type 0} (xs : List D) (x : D) → reverse (xs ++ x ∷ []) ≡ x ∷ reverse xs
turned xs x = reverse-append xs (x ∷ [])

module _ {N D : Type 0} where
  -- the next disk is taken
  pub next-taken : (nodes : List N) (i : ℕ) (n : N) (old new : List D) (disk : D) (pairs done : List (N × D)) → pairs ≡ done ++ zip (drop i nodes) (reverse old) → old ≡ new ++ disk ∷ [] → i < length nodes
      → pairs ≡ done ++ (get_or nodes i n, disk) ∷ zip (drop (i + 1) nodes) (reverse new)
  next-taken nodes i n old new disk pairs done is popped lt =
      let rest : drop i nodes ≡ get_or nodes i n ∷ drop (i + 1) nodes = drop-next nodes i n lt in
      let waiting : reverse old ≡ disk ∷ reverse new = ap reverse popped ∙ turned new disk in
      is ∙ (λ j. done ++ zip (rest j) (waiting j))

  the-pair : (p q : N × D) → Some p ≡ Some q → p ≡ q
  the-pair p q is = cc

  second-at : (xs : List N) (ys : List D) (i : ℕ) (x : N) (y : D) → slice_get (zip xs ys) i ≡ Some (x, y) → slice_get ys i ≡ Some y
  second-at [] ys i x y is = absurd (cc)
  second-at (a ∷ xs) [] i x y is = absurd (cc)
  second-at (a ∷ xs) (b ∷ ys) zero x y is = ap (λ (p : N × D). Some p.1) (the-pair (a, b) (x, y) is)
  second-at (a ∷ xs) (b ∷ ys) (suc i) x y is = second-at xs ys i x y is

  -- the disk whose turn it is stands at its place
  pub disk-at : (nodes : List N) (disks : List D) (done rest : List (N × D)) (n : N) (disk : D) (i : ℕ) → zip nodes disks ≡ done ++ (n, disk) ∷ rest → length done ≡ i → slice_get disks i ≡ Some disk
  disk-at nodes disks done rest n disk i is long =
      second-at nodes disks i n disk (ap (λ (ps : List (N × D)). slice_get ps i) is ∙ ap (slice_get (done ++ (n, disk) ∷ rest)) (sym long) ∙ get-behind done (n, disk) rest)

  module _ {S : Type 0} (New : N × D → S → Type 0) (Back : N × D → D → Type 0) (disk_of : S → D) (back-new : (p : N × D) (s : S) → New p s → Back p (disk_of s)) (back-same : (n : N) (d : D) → Back (n, d) d) where
    -- the disks that are back where one was not formatted
    pub all-back : (nodes : List N) (i : ℕ) (n : N) (servers : List S) (new home back : List D) (disk failed : D) (pairs done : List (N × D))
        → pairs ≡ done ++ (n, disk) ∷ zip (drop (i + 1) nodes) (reverse new) → home ≡ new ++ failed ∷ [] → back ≡ map disk_of servers ++ reverse home → length new ≡ length nodes - (i + 1)
        → AllZip New done servers → Back (n, disk) failed → AllZip Back pairs back
    all-back nodes i n servers new home back disk failed pairs done is pushed_is back_is long all holds =
        let shape : back ≡ map disk_of servers ++ failed ∷ reverse new = back_is ∙ ap (λ (ys : List D). map disk_of servers ++ ys) (ap reverse pushed_is ∙ turned new failed) in
        let lengths : length (reverse new) ≡ length (drop (i + 1) nodes) = length-reverse new ∙ long ∙ sym (length-drop (i + 1) nodes) in
        subst (λ (ps : List (N × D)). AllZip Back ps back) (sym is)
        (subst (AllZip Back (done ++ (n, disk) ∷ zip (drop (i + 1) nodes) (reverse new))) (sym shape)
        (zip-mid Back done (map disk_of servers) (n, disk) failed (zip (drop (i + 1) nodes) (reverse new)) (reverse new)
        (zip-map New Back disk_of done servers back-new all) holds
        (zip-same Back (drop (i + 1) nodes) (reverse new) lengths back-same)))

    -- the one that failed stands at its place
    pub failed-at : (servers : List S) (new home back : List D) (failed : D) (done : List (N × D)) (i : ℕ) → home ≡ new ++ failed ∷ [] → back ≡ map disk_of servers ++ reverse home → AllZip New done servers → length done ≡ i → slice_get back i ≡ Some failed
    failed-at servers new home back failed done i pushed_is back_is all long =
        let shape : back ≡ map disk_of servers ++ failed ∷ reverse new = back_is ∙ ap (λ (ys : List D). map disk_of servers ++ ys) (ap reverse pushed_is ∙ turned new failed) in
        let place : i ≡ length (map disk_of servers) = sym long ∙ zip-length New done servers all ∙ sym (length-map servers disk_of) in
        ap (λ (ys : List D). slice_get ys i) shape ∙ ap (slice_get (map disk_of servers ++ failed ∷ reverse new)) place ∙ get-behind (map disk_of servers) failed (reverse new)

    -- all are formatted
    pub all-new : (nodes : List N) (i : ℕ) (servers : List S) (home : List D) (pairs done : List (N × D)) → pairs ≡ done ++ zip (drop i nodes) (reverse home) → length nodes ≤ i → AllZip New done servers → AllZip New pairs servers
    all-new nodes i servers home pairs done is over all =
        subst (λ (ps : List (N × D)). AllZip New ps servers) (sym (is ∙ ap (λ (ns : List N). done ++ zip ns (reverse home)) (drop_all i nodes over) ∙ append-nil done)) all

module _ {D : Type 0} (tells : Bool) (meter : D → Meter) (text : D → List ℕ) (image : D → List ℕ → Type 0) (layout : Layout) where
  -- a disk that was formatted may come back
  pub new-back : (h : NodeSpec × D) (s : Server (UnderFuse D)) → IsNodeFormatted tells meter text image layout h s → IsBack tells meter image layout h s.node.disk.disk
  new-back h s made = record {
    count = made.count;
    images = λ told c is. inr (inr (subst (λ (b : List ℕ). StandsFor (geometry_of layout h.0) 0 b nothing) (sym (made.settled c is)) (made.stands told)));
  }

module _ {D : Type 0} (tells : Bool) (meter : D → Meter) (image : D → List ℕ → Type 0) (layout : Layout) where
  -- and one that was not touched
  pub same-back : (n : NodeSpec) (d : D) → IsBack tells meter image layout (n, d) d
  same-back n d = record { count = omega arith; images = λ told c is. inl is }

  -- disks that nobody touched
  pub untouched : (nodes : List NodeSpec) (disks : List D) → length disks ≡ length nodes → AreBack tells meter image layout nodes disks disks
  untouched nodes disks count = zip-same (IsBack tells meter image layout) nodes disks count same-back
