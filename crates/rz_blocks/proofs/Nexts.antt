-- The first marked key is the first that the entries give.
use Rattle.std.proofs.Common.{◌≡◌, ℕ, ◌<◌, ◌≤◌, ◌^◌, Bool, true, false, cond, ◌&&◌, List, Option, Some, None, is_some, sym, ap, ◌∙◌, refl, arith, eqb-true}
use Rattle.std.specs.Prelude.{◌==◌, nat_le}
use Rattle.std.proofs.lemmas.Bool.Decides.{nat_tests}
use Rattle.std.specs.Option.{option_map, option_and_then}
use Rattle.std.specs.Ordering.{is_lt}
use Rattle.std.specs.declared.cmp.Ordering.TheVariants.{Less}
use Rattle.std.specs.FinMap as maps
use Rattle.std.specs.FinMap.{get-entries, entries_sorted}
use Rattle.std.specs.FinMap.Entries.{find}
use Rattle.rz_events.specs.Keys.{key_cmp}
use Rattle.rz_events.specs.declared.keys.Key.{Key}
use Rattle.rz_events.specs.declared.files.Published.{Published}
use Rattle.rz_export_model.specs.Firsts.{first_given}
use Rattle.rz_export_model.specs.Export.{Block, Blocks, is_after, published_of, next_of_file}
use Rattle.rz_blocks.specs.declared.row.Row.{Row}
use Rattle.rz_blocks.specs.Marks.{is_marked}
use Rattle.rz_blocks.specs.declared.blocks.BlockEntry.{BlockEntry}
use Rattle.rz_blocks.specs.Shown.{shown}
use Rattle.rz_blocks.specs.Marked.{kept_at, is_public, AreMarked}
use Rattle.rz_blocks.proofs.Keys.{lesser-file}
use Rattle.rz_blocks.proofs.Shows.{Kept, map_of, get-shown}
use Rattle.rz_blocks.proofs.Sorted.{first-none, first-some}
use Rattle.rz_blocks.proofs.Marked.{small-marked}

abbrev with_key : Key → Option Published → Option (Key × Published)
with_key q published = option_map (λ p. (q, p)) published

-- what a key gives, where it passes and is published
abbrev pub gives : (Key → Bool) → Key × Block → Option (Key × Published)
gives passes e = cond (passes e.0) (with_key e.0 e.1.published) None

unpublished : (q : Key) (o : Option Published) → is_some o ≡ false → with_key q o ≡ None
unpublished q None h = refl
unpublished q (Some p) h = cc

public-shown : (o : Option BlockEntry) → is_public o ≡ is_some (option_and_then (λ (b : Block). b.published) (option_map shown o))
public-shown None = refl
public-shown (Some e) = refl

module _ (es : Kept) (marks : List Row) (marked : AreMarked es marks) (m : Blocks) (view : map_of es ≡ m) where
  -- the marked keys are the published ones
  marked-of : (q : Key) → is_marked marks 0 q ≡ is_some (published_of m q)
  marked-of q =
      marked.marked q ∙ public-shown (kept_at es q)
      ∙ ap (λ o. is_some (option_and_then (λ (b : Block). b.published) o)) (sym (get-shown es q) ∙ ap (λ x. maps.get x q) view)

  pub not-published : (k : Key) → is_marked marks 0 k ≡ true → published_of m k ≡ None → ⊥
  not-published k is none = let never : true ≡ false = sym is ∙ marked-of k ∙ ap is_some none in cc

  module _ (passes : Key → Bool) where
    -- an entry that does not pass or is not marked gives nothing
    silent : (q : Key) (b : Block) → find key_cmp q (maps.entries m) ≡ Some b → (q.block < 2 ^ 64 → passes q ≡ true → is_marked marks 0 q ≡ false) → gives passes (q, b) ≡ None
    silent q b found h = go (passes q) refl (is_some b.published) refl
      where
        go : (t : Bool) → passes q ≡ t → (u : Bool) → is_some b.published ≡ u → cond t (with_key q b.published) None ≡ None
        go false stays u is = refl
        go true pass false none = unpublished q b.published none
        go true pass true some =
            let mark : is_marked marks 0 q ≡ true = marked-of q ∙ ap (λ o. is_some (option_and_then (λ (x : Block). x.published) o)) (get-entries m q ∙ found) ∙ some in
            let never : true ≡ false = sym mark ∙ h (small-marked es marks marked q mark) pass in
            cc

    pub none-marked : ((q : Key) → q.block < 2 ^ 64 → passes q ≡ true → is_marked marks 0 q ≡ false) → None ≡ first_given (gives passes) (maps.entries m)
    none-marked h = sym (first-none (gives passes) (maps.entries m) (entries_sorted m) (λ q b found. silent q b found (h q)))

    pub first-marked : (k : Key) (p : Published) → passes k ≡ true → published_of m k ≡ Some p
        → ((q : Key) → q.block < 2 ^ 64 → passes q ≡ true → is_lt (key_cmp q k) ≡ true → is_marked marks 0 q ≡ false) → Some (k, p) ≡ first_given (gives passes) (maps.entries m)
    first-marked k p pass is least = go (maps.get m k) refl is
      where
        lower : (q : Key) (b : Block) → find key_cmp q (maps.entries m) ≡ Some b → key_cmp q k ≡ Less → gives passes (q, b) ≡ None
        lower q b found less = silent q b found (λ small passed. least q small passed (ap is_lt less))

        go : (o : Option Block) → maps.get m k ≡ o → option_and_then (λ (b : Block). b.published) o ≡ Some p → Some (k, p) ≡ first_given (gives passes) (maps.entries m)
        go None at h = cc
        go (Some b) at h =
            sym (first-some (gives passes) (maps.entries m) k b (k, p) (entries_sorted m) (sym (get-entries m k) ∙ at)
            (ap (λ t. cond t (with_key k b.published) None) pass ∙ ap (with_key k) h) lower)

-- ---- of one file

same-eq : (m n : ℕ) → m ≡ n → (m == n) ≡ true
same-eq m n h = grind (arith, nat_tests)

true-le : (m n : ℕ) → m ≤ n → nat_le m n ≡ true
true-le m n h = grind (arith, nat_tests)

le-true : (m n : ℕ) → nat_le m n ≡ true → m ≤ n
le-true m n h = grind (arith, nat_tests)

both : (a b : Bool) → a ≡ true → b ≡ true → (a && b) ≡ true
both true b p q = q
both false b p q = cc

one : (a b : Bool) → (a && b) ≡ true → a ≡ true
one true b p = refl
one false b p = cc

other : (a b : Bool) → (a && b) ≡ true → b ≡ true
other true b p = p
other false b p = cc

module _ (es : Kept) (marks : List Row) (marked : AreMarked es marks) (m : Blocks) (view : map_of es ≡ m) (after start : Option Key) (file : ℕ)
    (starts : (q : Key) → q.block < 2 ^ 64 → is_after start q ≡ (is_after after q && nat_le file q.fid)) where
  abbrev of_file : Key → Bool
  of_file q = is_after after q && (q.fid == file)

  own : (q : Key) → of_file q ≡ true → q.fid ≡ file
  own q h = eqb-true q.fid file (other (is_after after q) (q.fid == file) h)

  from-start : (q : Key) → q.block < 2 ^ 64 → of_file q ≡ true → is_after start q ≡ true
  from-start q small h =
      let same : q.fid ≡ file = own q h in
      starts q small ∙ both (is_after after q) (nat_le file q.fid) (one (is_after after q) (q.fid == file) h) (true-le file q.fid (omega arith))

  -- no key is marked above the start
  pub none-left : ((q : Key) → is_after start q ≡ true → is_marked marks 0 q ≡ false) → None ≡ next_of_file m after file
  none-left h = none-marked es marks marked m view of_file (λ q small passed. h q (from-start q small passed))

  module _ (k : Key) (above : is_after start k ≡ true) (mark : is_marked marks 0 k ≡ true)
      (least : (q : Key) → is_after start q ≡ true → is_lt (key_cmp q k) ≡ true → is_marked marks 0 q ≡ false) where
    passed-start : (is_after after k && nat_le file k.fid) ≡ true
    passed-start = sym (starts k (small-marked es marks marked k mark)) ∙ above

    -- the first marked key is of a later file
    pub later-file : (k.fid ≡ file → ⊥) → None ≡ next_of_file m after file
    later-file differ =
        let from : file ≤ k.fid = le-true file k.fid (other (is_after after k) (nat_le file k.fid) passed-start) in
        none-marked es marks marked m view of_file
        (λ q small passed. least q (from-start q small passed) (ap is_lt (lesser-file q k (earlier q.fid (own q passed) differ from))))
      where
        earlier : (n : ℕ) → n ≡ file → (k.fid ≡ file → ⊥) → file ≤ k.fid → n < k.fid
        earlier n same differ from = omega arith

    pub first-left : k.fid ≡ file → (p : Published) → published_of m k ≡ Some p → Some (k, p) ≡ next_of_file m after file
    first-left same p is =
        first-marked es marks marked m view of_file k p
        (both (is_after after k) (k.fid == file) (one (is_after after k) (nat_le file k.fid) passed-start) (same-eq k.fid file same)) is
        (λ q small passed. least q (from-start q small passed))
