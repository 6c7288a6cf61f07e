-- What comes out of a lock.
use Rattle.std.proofs.Common.{◌≡◌, ℕ, ◌+◌, Bool, IsTrue, IfSome, IsSome, List, [], ◌∷◌, ◌++◌, map, length, Option, Some, None, refl, sym, ◌∙◌, ap, subst, length-append, append_assoc}
use Rattle.std.specs.Prelude.{reverse}
use Rattle.std.specs.Option.{option_map}
use Rattle.std.specs.List.{AllByRecursion, AllZip}
use Rattle.std.proofs.lemmas.List.{append-nil, map-append, reverse-append}
use Rattle.rz_disk.specs.Meter.{Meter, faults}
use Rattle.rz_disk.specs.UnderFuse.{UnderFuse}
use Rattle.rz_events.specs.declared.events.Event.{Event}
use Rattle.rz_events.specs.declared.nodes.Phase.TheVariants.{Up}
use Rattle.rz_events.specs.declared.events.Word.TheVariants.{Node}
use Rattle.rz_core.specs.History.{of_word}
use Rattle.rz_core.specs.NodeRows.{IsNodeOf}
use Rattle.rz_core.specs.NodeWord.{phase}
use Rattle.rz_chronicle.specs.Kinds.{keeps_legal, volume_in}
use Rattle.rz_chronicle.specs.Rules.{WordTokenView}
use Rattle.rz_shared_locked.specs.Counts.{AreCountedSince}
use Rattle.rz_shared_locked.specs.LockedNodes.{AreImagesFrom}
use Rattle.rz_shared.specs.Returned.{IsReturned, IsReturnedIf}

if-mapped : {A B : Type 0} (f : A → B) (P : B → Type 0) (o : Option A) → IfSome o (λ (a : A). P (f a)) → IfSome (option_map f o) P
if-mapped f P None it = tt
if-mapped f P (Some a) it = it

some-mapped : {A B : Type 0} (f : A → B) (o : Option A) → IsSome o → IsSome (option_map f o)
some-mapped f None it = absurd (cc)
some-mapped f (Some a) it = refl

-- a disk out of its fuse, if it is here, and the token of its node's word
pub returned : {D : Type 0} (meter : D → Meter) (image : D → List ℕ → Type 0) (fixed : Bool) (kind : List ℕ) (earlier : List Event) (first : ℕ → ℕ) (node : ℕ) (log : List Event) (kept : Option (UnderFuse D)) (disk : Option D) (word_token : WordTokenView)
    → word_token ≡ record { word = Node node; log = log } → disk ≡ option_map (λ (f : UnderFuse D). f.disk) kept → IsNodeOf (volume_in kind) node
    → (IsTrue (keeps_legal kind) → IfSome kept (λ (f : UnderFuse D). AreImagesFrom (volume_in kind) earlier log node (image f.disk)))
    → (IsTrue fixed → IfSome kept (λ (f : UnderFuse D). AreCountedSince (first node) (faults (meter f.disk)) (of_word (Node node) log))) → (IsTrue fixed → IsSome kept)
    → (IsTrue (keeps_legal kind) → phase (of_word (Node node) (log ++ earlier)) ≡ Up → IsSome kept) → IsReturnedIf meter image fixed kind earlier first disk word_token
returned {D = D} meter image fixed kind earlier first node log kept disk word_token is same of_volume images counted here up =
    let logs : word_token.log ≡ log = ap (λ (p : WordTokenView). p.log) is in
    record {
      node = node;
      word = ap (λ (p : WordTokenView). p.word) is;
      of_volume = of_volume;
      images = λ keeps.
          subst (λ (l : List Event). IfSome disk (λ (d : D). AreImagesFrom (volume_in kind) earlier l node (image d))) (sym logs)
          (subst (λ (o : Option D). IfSome o (λ (d : D). AreImagesFrom (volume_in kind) earlier log node (image d))) (sym same)
          (if-mapped (λ (f : UnderFuse D). f.disk) (λ (d : D). AreImagesFrom (volume_in kind) earlier log node (image d)) kept (images keeps)));
      counted = λ all.
          subst (λ (l : List Event). IfSome disk (λ (d : D). AreCountedSince (first node) (faults (meter d)) (of_word (Node node) l))) (sym logs)
          (subst (λ (o : Option D). IfSome o (λ (d : D). AreCountedSince (first node) (faults (meter d)) (of_word (Node node) log))) (sym same)
          (if-mapped (λ (f : UnderFuse D). f.disk) (λ (d : D). AreCountedSince (first node) (faults (meter d)) (of_word (Node node) log)) kept (counted all)));
      here = λ all. subst (λ (o : Option D). IsSome o) (sym same) (some-mapped (λ (f : UnderFuse D). f.disk) kept (here all));
      up = λ keeps is_up.
          subst (λ (o : Option D). IsSome o) (sym same)
          (some-mapped (λ (f : UnderFuse D). f.disk) kept (up keeps (subst (λ (l : List Event). phase (of_word (Node node) (l ++ earlier)) ≡ Up) logs is_up)));
    }

pub one-longer : {A : Type 0} (xs ys : List A) (x : A) → ys ≡ xs ++ x ∷ [] → length ys ≡ length xs + 1
one-longer xs ys x is = ap length is ∙ length-append xs (x ∷ [])

-- Disks that are all here.

module _ {D : Type 0} (meter : D → Meter) (image : D → List ℕ → Type 0) (fixed : Bool) (kind : List ℕ) (earlier : List Event) (first : ℕ → ℕ) (all : IsTrue fixed) where
  pub each-here : (disks : List (Option D)) (word_tokens : List WordTokenView) → AllZip (IsReturnedIf meter image fixed kind earlier first) disks word_tokens → AllByRecursion (λ (o : Option D). IsSome o) disks
  each-here [] [] zip = tt
  each-here [] (p ∷ ps) zip = tt
  each-here (d ∷ ds) [] zip = absurd zip
  each-here (d ∷ ds) (p ∷ ps) zip = (zip.0.here all, each-here ds ps zip.1)

  pub unwrapped : (disks : List D) (word_tokens : List WordTokenView) → AllZip (IsReturnedIf meter image fixed kind earlier first) (map (λ (d : D). Some d) disks) word_tokens → AllZip (IsReturned meter image kind earlier first) disks word_tokens
  unwrapped [] [] zip = tt
  unwrapped [] (p ∷ ps) zip = absurd zip
  unwrapped (d ∷ ds) [] zip = absurd zip
  unwrapped (d ∷ ds) (p ∷ ps) zip = (
    record { node = zip.0.node; word = zip.0.word; of_volume = zip.0.of_volume; images = zip.0.images; counted = zip.0.counted all },
    unwrapped ds ps zip.1,
  )

-- The disks that are out beside those that wait, the last one first.

pub none-out : {D : Type 0} (home : List D) (disks disks' : List (Option D)) → length home ≡ 0 → disks' ≡ reverse disks → map (λ (d : D). Some d) home ++ reverse disks' ≡ reverse (reverse disks)
none-out [] disks disks' none turned = ap reverse turned
none-out (d ∷ home) disks disks' none turned = absurd (cc)

pub last-at : {A : Type 0} (P : A → Type 0) (xs ys : List A) (x : A) → AllByRecursion P (xs ++ x ∷ ys) → P x
last-at P [] ys x all = all.0
last-at P (a ∷ xs) ys x all = last-at P xs ys x all.1

pub back-turned : {A : Type 0} (disks disks' : List A) (x : A) → disks ≡ disks' ++ x ∷ [] → reverse disks ≡ x ∷ reverse disks'
back-turned disks disks' x is = ap reverse is ∙ reverse-append disks' (x ∷ [])

pub one-out : {D : Type 0} (home : List D) (d : D) (disks disks' whole : List (Option D)) → disks ≡ disks' ++ Some d ∷ [] → map (λ (d : D). Some d) home ++ reverse disks ≡ whole → map (λ (d : D). Some d) (home ++ d ∷ []) ++ reverse disks' ≡ whole
one-out {D = D} home d disks disks' whole is was =
    let some : D → Option D = λ (x : D). Some x in
    ap (λ (l : List (Option D)). l ++ reverse disks') (map-append some home (d ∷ [])) ∙ append_assoc (map some home) (Some d ∷ []) (reverse disks')
    ∙ sym (ap (λ (l : List (Option D)). map some home ++ l) (back-turned disks disks' (Some d) is)) ∙ was

pub all-out : {D : Type 0} (home : List D) (disks whole : List (Option D)) → length disks ≡ 0 → map (λ (d : D). Some d) home ++ reverse disks ≡ whole → map (λ (d : D). Some d) home ≡ whole
all-out home [] whole none was = sym (append-nil (map (λ d. Some d) home)) ∙ was
all-out home (o ∷ disks) whole none was = absurd (cc)

none-here : {D : Type 0} (o : Option D) → o ≡ None → IsSome o → ⊥
none-here None away here = absurd (cc)
none-here (Some d) away here = absurd (cc)

-- none that waits is away, where all are here
pub waiting-here : {D : Type 0} (home : List D) (o : Option D) (disks disks' whole : List (Option D)) → disks ≡ disks' ++ o ∷ [] → map (λ (d : D). Some d) home ++ reverse disks ≡ whole → AllByRecursion (λ (o : Option D). IsSome o) whole → o ≡ None → ⊥
waiting-here {D = D} home o disks disks' whole is was all away =
    let some : D → Option D = λ (x : D). Some x in
    none-here o away (last-at (λ (o : Option D). IsSome o) (map some home) (reverse disks') o
    (subst (AllByRecursion (λ (o : Option D). IsSome o)) (sym was ∙ ap (λ (l : List (Option D)). map some home ++ l) (back-turned disks disks' o is)) all))
