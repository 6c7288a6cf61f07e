-- A record that came while a block is read.
use Rattle.std.proofs.Common.{◌≡◌, ◌⊎◌, inl, inr, ℕ, Bool, true, false, cond, nat_lt, ◌+◌, ◌<◌, ◌≤◌, List, [], ◌∷◌, ◌++◌, length, take, drop, Option, Some, None, refl, sym, ◌∙◌, ap, subst, arith, eq-eqb}
use Rattle.std.specs.Prelude.{slice_get, ◌*◌}
use Rattle.std.specs.List.{AllByRecursion}
use Rattle.std.proofs.lemmas.Bool.{ltb-false}
use Rattle.std.proofs.lemmas.List.{length-append}
use Rattle.std.proofs.Math.Seq.{take-append_seam}
use Rattle.std.proofs.lemmas.List.Elements.{All-from_recursion}
use Rattle.std.proofs.lemmas.List.FromFn.{length-map-range_with_len}
use Rattle.byteorder.specs.Endian.{little_number}
use Rattle.mj_angles.specs.declared.layout.Layout.{Layout}
use Rattle.mj_angles.specs.declared.layout.Layout.TheVariants as layouts
use Rattle.mj_angles.specs.Layout.{inverse_of, cols_of, angle_of, bins_at_of}
use Rattle.mj_angles.specs.Projection.{projection, bins, bin}
use Rattle.mj_forward.specs.Forward.{projection_of}
use Rattle.mj_inverse.specs.Fits.{Pair, IsFound}
use Rattle.rz_words.specs.Grid.{Grid, IsGrid, IsShape, word, words_from}
use Rattle.rz_events.specs.Volume.{Volume}
use Rattle.rz_events.specs.declared.keys.Key.{Key}
use Rattle.rz_events.specs.declared.records.Head.{Head}
use Rattle.rz_events.specs.declared.records.Held.{Held}
use Rattle.rz_events.specs.declared.ends.ReadMark.TheVariants as mark
use Rattle.rz_events.specs.declared.ends.Seen.TheVariants as seen
use Rattle.rz_events.specs.declared.nodes.FetchAnswer.{FetchAnswer}
use Rattle.rz_events.specs.declared.nodes.FetchAnswer.TheVariants as fetch
use Rattle.rz_client_model.specs.declared.reading.ReadStage.{ReadStage}
use Rattle.rz_client_model.specs.declared.reading.ReadStage.TheVariants.{Fetching, Ended}
use Rattle.rz_client_model.specs.declared.reading.Fetches.{Fetches}
use Rattle.rz_client_model.specs.Read.{with_record, with_seen, unless_enough, after_fetch}
use Rattle.rz_reader.specs.Machine.{AreFitting, IsOnly, pair_of, search_of}
use Rattle.rz_operation_model.specs.Rebuild.{position_in}
use Rattle.rz_core.specs.History.{Facts, Begun}
use Rattle.rz_core.specs.HeldRecords.{block_of, bins_at, head_at, record_at, record_on}
use Rattle.rz_play_laws.specs.Own.{IsPlacing}
use Rattle.rz_node_laws.specs.Records.{IsRecordOf}
use Rattle.rz_node_laws.specs.Laws.{IsWrittenLaw, IsReadBack}
use Rattle.rz_block_laws.specs.InHand.{IsWriteBlock, IsPairOf, IsReadInHand}

-- ---- blocks

length-projection : (f : ℕ → ℕ → ℕ) (rows cols : ℕ) (p : _) → length (projection f rows cols p) ≡ bins p rows cols
unfolding projection
length-projection f rows cols p = length-map-range_with_len (bin f rows cols p) 0 (bins p rows cols)

pub length-bins : (y : Layout) (text : List ℕ) (position : ℕ) → length (bins_at y (block_of y text) position) ≡ bins_at_of y position
length-bins y text position = length-projection (word (block_of y text)) (inverse_of y) (cols_of y) (angle_of y position)

pub length-words : (text : List ℕ) (n : ℕ) → length (words_from text n) ≡ n
unfolding words_from
length-words text n = length-map-range_with_len (λ j. little_number 8 (drop (8 * j) text)) 0 n

pub shape : (y : Layout) → IsShape (inverse_of y) (cols_of y)
shape layouts.L0 = record { some_row = omega arith; few_rows = omega arith; some_column = omega arith; few_columns = omega arith }
shape layouts.L1 = record { some_row = omega arith; few_rows = omega arith; some_column = omega arith; few_columns = omega arith }
shape layouts.L2 = record { some_row = omega arith; few_rows = omega arith; some_column = omega arith; few_columns = omega arith }
shape layouts.L0B1 = record { some_row = omega arith; few_rows = omega arith; some_column = omega arith; few_columns = omega arith }
shape layouts.L0B2 = record { some_row = omega arith; few_rows = omega arith; some_column = omega arith; few_columns = omega arith }
shape layouts.L0B3 = record { some_row = omega arith; few_rows = omega arith; some_column = omega arith; few_columns = omega arith }
shape layouts.L1B1 = record { some_row = omega arith; few_rows = omega arith; some_column = omega arith; few_columns = omega arith }
shape layouts.L1B2 = record { some_row = omega arith; few_rows = omega arith; some_column = omega arith; few_columns = omega arith }
shape layouts.L1B3 = record { some_row = omega arith; few_rows = omega arith; some_column = omega arith; few_columns = omega arith }
shape layouts.L2B1 = record { some_row = omega arith; few_rows = omega arith; some_column = omega arith; few_columns = omega arith }
shape layouts.L2B2 = record { some_row = omega arith; few_rows = omega arith; some_column = omega arith; few_columns = omega arith }
shape layouts.L2B3 = record { some_row = omega arith; few_rows = omega arith; some_column = omega arith; few_columns = omega arith }

block-grid : (y : Layout) (text : List ℕ) → IsGrid (block_of y text)
block-grid y text = record { shape = shape y; full = length-words text (inverse_of y * cols_of y) }

-- ---- a record that was read back

pub record IsOfRecord (v : Volume) (n stamp : ℕ) (b : Option Begun) (p : Option (List ℕ)) (head : Head) (bins : List ℕ) : Type 0 where
  pub begun : Begun
  pub places : List ℕ
  pub wrote : b ≡ Some begun
  pub placed : p ≡ Some places
  pub head_is : head_at v.layout stamp begun (position_in n 0 places) ≡ head
  pub bins_are : bins_at v.layout (block_of v.layout begun.text) (position_in n 0 places) ≡ bins

pub of-record : (v : Volume) (n stamp : ℕ) (b : Option Begun) (p : Option (List ℕ)) (head : Head) (its : List ℕ) → record_on v.layout n stamp b p ≡ Some (head, its) → IsOfRecord v n stamp b p head its
of-record v n stamp (Some begun) (Some places) head its is =
    let same : record_at v.layout stamp begun (position_in n 0 places) ≡ (head, its) = cc in
    record { begun = begun; places = places; wrote = refl; placed = refl; head_is = ap (λ (r : Head × List ℕ). r.0) same; bins_are = ap (λ (r : Head × List ℕ). r.1) same }
of-record v n stamp None p head its is = absurd (cc)
of-record v n stamp (Some begun) None head its is = absurd (cc)

same-pair : (p q : Head × List ℕ) → Some p ≡ Some q → p.1 ≡ q.1
same-pair p q is = let same : p ≡ q = cc in ap (λ (r : Head × List ℕ). r.1) same

module _ (law : IsWrittenLaw) (v : Volume) (f : Facts) (key : Key) (places : List ℕ) (placing : IsPlacing v f key.fid places) where
  -- the pair of a record that node n gave, which is that of this position
  pub pair-back : (n position : ℕ) → slice_get places position ≡ Some n → (told : Held) (before now : List ℕ) → IsReadBack v f n key told before now
      → IsPairOf v.layout f key told.stamp (pair_of v.layout position now)
  pair-back n position at told before now back =
      let r = of-record v n back.head.stamp (f.wrote back.head.stamp) (f.places back.head.key.fid) back.head back.bins back.it in
      let b = r.begun in
      let block = block_of v.layout b.text in
      let its = bins_at v.layout block position in
      let head = head_at v.layout back.head.stamp b position in
      let key_is : b.key ≡ key = ap (λ (h : Head). h.key) r.head_is ∙ back.key_is in
      let same : IsRecordOf v f n head its = law v f n head its record {
        begun = b;
        places = places;
        wrote = r.wrote;
        head_is = refl;
        bins_are = refl;
        placed = ap (λ (k : Key). f.places k.fid) key_is ∙ placing.placed;
        at = at;
        apart = placing.apart;
      } in
      let keys : b.key ≡ back.head.key = key_is ∙ sym back.key_is in
      let bins_is : back.bins ≡ its = same-pair (back.head, back.bins) (head, its) (sym back.it ∙ ap (λ (k : Key). record_on v.layout n back.head.stamp (f.wrote back.head.stamp) (f.places k.fid)) (sym keys) ∙ same) in
      let long : length back.bins ≡ bins_at_of v.layout position = ap (λ (l : List ℕ). length l) bins_is ∙ length-bins v.layout b.text position in
      let stamps : back.head.stamp ≡ told.stamp = ap (λ (h : Held). h.stamp) (sym back.told_is) in (
        block,
        record { begun = b; wrote = ap f.wrote (sym stamps) ∙ r.wrote; key_is = key_is; block_is = refl },
        ap (take (bins_at_of v.layout position)) back.bins_are ∙ front (bins_at_of v.layout position) back.bins (drop (length back.bins) before) long ∙ bins_is,
      )
    where
      front : (k : ℕ) (a b : List ℕ) → length a ≡ k → take k (a ++ b) ≡ a
      front k a b long = subst (λ (j : ℕ). take j (a ++ b) ≡ a) long (take-append_seam a b)

-- ---- the records that came

all-one-more : (P : Pair → Type 0) (xs : List Pair) (x : Pair) → AllByRecursion P xs → P x → AllByRecursion P (xs ++ x ∷ [])
all-one-more P [] x all here = (here, tt)
all-one-more P (a ∷ xs) x all here = (all.0, all-one-more P xs x all.1 here)

-- pairs of one write fit its block
abbrev FitsIt : Grid → Pair → Type 0
FitsIt g pair = pair.1 ≡ projection (word g) g.rows g.cols pair.0

same-begun : (a b : Begun) → Some a ≡ Some b → a ≡ b
same-begun a b is = cc

one-block : (y : Layout) (f : Facts) (key : Key) (stamp : ℕ) (g h : Grid) → IsWriteBlock y f key stamp g → IsWriteBlock y f key stamp h → g ≡ h
one-block y f key stamp g h a b =
    let same : a.begun ≡ b.begun = same-begun a.begun b.begun (sym a.wrote ∙ b.wrote) in
    a.block_is ∙ ap (λ (w : Begun). block_of y w.text) same ∙ sym b.block_is

fit : (y : Layout) (f : Facts) (key : Key) (stamp : ℕ) (g : Grid) → IsWriteBlock y f key stamp g → (pairs : List Pair) → AllByRecursion (IsPairOf y f key stamp) pairs → AllByRecursion (FitsIt g) pairs
fit y f key stamp g block [] all = tt
fit y f key stamp g block (pair ∷ pairs) all =
    (all.0.2 ∙ ap (λ (h : Grid). projection_of h pair.0) (one-block y f key stamp all.0.0 g all.0.1 block), fit y f key stamp g block pairs all.1)

module _ (y : Layout) (f : Facts) (key : Key) (stamp : ℕ) (g : Grid) (block : IsWriteBlock y f key stamp g) (pairs : List Pair) (all : AllByRecursion (IsPairOf y f key stamp) pairs) where
  -- the write's block is found
  written-found : IsFound (search_of y pairs) (block_of y block.begun.text)
  written-found = record {
    grid = block-grid y block.begun.text;
    rows = refl;
    cols = refl;
    fits = All-from_recursion (FitsIt (block_of y block.begun.text)) pairs (subst (λ (h : Grid). AllByRecursion (FitsIt h) pairs) block.block_is (fit y f key stamp g block pairs all));
  }

  -- and no other
  pub only-written : (h : Grid) → IsOnly (search_of y pairs) h → IsWriteBlock y f key stamp h
  only-written h only = record { begun = block.begun; wrote = block.wrote; key_is = block.key_is; block_is = sym (only.alone (block_of y block.begun.text) written-found) }

  pub does-fit : (fits : Bool) → AreFitting y pairs fits → length pairs ≡ inverse_of y → fits ≡ true
  does-fit fits fitting many = (fitting many).1 (block_of y block.begun.text, written-found)

-- ---- the stage afterwards

-- The read goes on as where the records fit: it fetches on, or it found the block, which is the write's.
pub record IsStageAfter (y : Layout) (f : Facts) (key : Key) (had : List Pair) (t : Fetches) (fits : Bool) (a : FetchAnswer) : Type 0 where
  pub fitting : after_fetch y fits t a ≡ after_fetch y true t a
  pub either : ((u : Fetches) × (after_fetch y true t a ≡ Fetching u) × (u.stamp ≡ t.stamp) × (length had ≡ u.given) × AllByRecursion (IsPairOf y f key t.stamp) had)
      ⊎ ((size : ℕ) × (after_fetch y true t a ≡ Ended (mark.Found t.stamp size)) × ((g : Grid) → IsOnly (search_of y had) g → IsWriteBlock y f key t.stamp g))

-- no record of the stamp came
pub none-came : (y : Layout) (f : Facts) (key : Key) (pairs : List Pair) (t u : Fetches) (fits : Bool) (a : FetchAnswer) → IsReadInHand y f key pairs None (Fetching t)
    → after_fetch y fits t a ≡ Fetching u → after_fetch y true t a ≡ Fetching u → u.stamp ≡ t.stamp → u.given ≡ t.given → IsStageAfter y f key pairs t fits a
none-came y f key pairs t u fits a hand is true_is stamp given = record {
  fitting = is ∙ sym true_is;
  either = inl (u, true_is, stamp, hand.0 ∙ sym given, hand.1);
}

one-longer : (pairs : List Pair) (pair : Pair) (given : ℕ) → length pairs ≡ given → length (pairs ++ pair ∷ []) ≡ given + 1
one-longer pairs pair given is = length-append pairs (pair ∷ []) ∙ ap (λ (k : ℕ). k + 1) is

not-less : (given rows : ℕ) → given < rows → nat_lt (given + 1) rows ≡ false → given + 1 ≡ rows
not-less given rows few is = let full : rows ≤ given + 1 = ltb-false (given + 1) rows is in omega (arith, few, full)

module _ (y : Layout) (f : Facts) (key : Key) (pairs : List Pair) (t : Fetches) (hand : IsReadInHand y f key pairs None (Fetching t)) (few : t.given < inverse_of y)
    (r : Held) (pair : Pair) (same : r.stamp ≡ t.stamp) (here : IsPairOf y f key t.stamp pair) where
  abbrev had : List Pair
  had = pairs ++ pair ∷ []

  all : AllByRecursion (IsPairOf y f key t.stamp) had
  all = all-one-more (IsPairOf y f key t.stamp) pairs pair hand.1 here

  many : length had ≡ t.given + 1
  many = one-longer pairs pair t.given hand.0

  after : (fits : Bool) → after_fetch y fits t (fetch.Held r) ≡ unless_enough y fits (with_record t r.length)
  after fits = ap (λ (c : Bool). cond c (unless_enough y fits (with_record t r.length)) (Fetching (with_seen t seen.Held))) (eq-eqb r.stamp t.stamp same)

  abbrev found : Fetches → Bool → ReadStage
  found u fits = Ended (cond fits (mark.Found u.stamp u.length) mark.Inconsistent)

  -- a record of the stamp came
  pub one-came : (fits : Bool) → AreFitting y had fits → IsStageAfter y f key had t fits (fetch.Held r)
  one-came fits fitting = go (nat_lt (t.given + 1) (inverse_of y)) refl
    where
      go : (b : Bool) → nat_lt (t.given + 1) (inverse_of y) ≡ b → IsStageAfter y f key had t fits (fetch.Held r)
      go true less =
          let on : (c : Bool) → after_fetch y c t (fetch.Held r) ≡ Fetching (with_record t r.length) =
          λ c. after c ∙ ap (λ (b : Bool). cond b (Fetching (with_record t r.length)) (found (with_record t r.length) c)) less in
          record { fitting = on fits ∙ sym (on true); either = inl (with_record t r.length, on true, refl, many, all) }
      go false full =
          let u = with_record t r.length in
          let on : (c : Bool) → after_fetch y c t (fetch.Held r) ≡ found u c = λ c. after c ∙ ap (λ (b : Bool). cond b (Fetching u) (found u c)) full in
          let rows : length had ≡ inverse_of y = many ∙ not-less t.given (inverse_of y) few full in
          let does : fits ≡ true = does-fit y f key t.stamp here.0 here.1 had all fits fitting rows in
          record {
            fitting = ap (λ (c : Bool). after_fetch y c t (fetch.Held r)) does;
            either = inr (u.length, on true, λ g only. only-written y f key t.stamp here.0 here.1 had all g only);
          }
