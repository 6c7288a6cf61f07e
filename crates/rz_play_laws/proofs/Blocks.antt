-- The blocks of a range, one after another.
use Rattle.std.proofs.Common.{◌≡◌, ℕ, zero, suc, ◌==◌, ◌+◌, ◌<◌, ◌≤◌, Bool, true, false, cond, List, [], ◌∷◌, ◌++◌, length, drop, replicate, refl, arith}
use Rattle.std.proofs.lemmas.List.{length-take, length-drop}
use Rattle.std.proofs.Math.ListN.{length-append}
use Rattle.std.proofs.Math.Nat.{mod-lt}
use Rattle.mj_angles.specs.declared.layout.Layout.{Layout}
use Rattle.mj_angles.specs.Layout.{block_bytes_of}
use Rattle.rz_events.specs.Volume.{Volume}
use Rattle.rz_events.specs.declared.keys.Key.{Key}
use Rattle.rz_events.specs.declared.keys.Actor.{Actor}
use Rattle.rz_events.specs.declared.ends.ReadMark.{ReadMark}
use Rattle.rz_events.specs.declared.ends.ReadMark.TheVariants as mark
use Rattle.rz_events.specs.declared.ends.WriteEnd.{WriteEnd}
use Rattle.rz_events.specs.declared.ends.WriteEnd.TheVariants as write
use Rattle.rz_events.specs.declared.events.Event.{Event}
use Rattle.rz_events.specs.declared.events.Event.TheVariants as e
use Rattle.rz_core.specs.History.{Facts}
use Rattle.std.specs.Prelude.{slice_index}
use Rattle.std.specs.List.{AllByRecursion}
use Rattle.rz_core.specs.NodeRows.{IsNodeOf}
use Rattle.rz_core.specs.Own.{IsOpen}
use Rattle.rz_core.proofs.Extends.{Extends}
use Rattle.rz_operation_model.specs.Ranges.{RangeState, Aim, Taking, Giving, start_in, count_in, is_whole, cut, patched, passed}
use Rattle.rz_operation_model.specs.Work.{Course, Alone, Within}
use Rattle.rz_operation_model.specs.Ask.{is_part}
use Rattle.rz_events.specs.declared.machines.FileEnd.TheVariants as end
use Rattle.rz_operation_model.specs.Files.{Ended, reads_block, next_block, go_on, with_text, writes_block}
use Rattle.rz_operation_model.specs.Steps.{read_end, in_range, after_got, after_gave}
use Rattle.rz_play_laws.specs.Own.{IsPlacing, IsToldBy, InCourse, IsOwnOf}

pub placing-more : (v : Volume) (f g : Facts) → Extends f g → (fid : ℕ) (places : List ℕ) → IsPlacing v f fid places → IsPlacing v g fid places
placing-more v f g ext fid places p = record { placed = ext.places fid places p.placed; many = p.many; apart = p.apart; nodes = p.nodes }

pub course-more : (v : Volume) (f g : Facts) → Extends f g → (course : Course) → InCourse v f course → InCourse v g course
course-more v f g ext Alone is = tt
course-more v f g ext (Within r) is = placing-more v f g ext r.info.fid r.info.places is

-- Lengths of texts.

long-cut : (start count : ℕ) (text : List ℕ) → length (cut start count text) ≤ count
long-cut start count text = let l = length-take count (drop start text ++ replicate count 0) in omega (arith, l)

pub block-some : (y : Layout) → 0 < block_bytes_of y
block-some y = grind arith

in-block : (y : Layout) (r : RangeState) → start_in y r + count_in y r ≤ block_bytes_of y
in-block y r = let m = mod-lt (r.offset + r.done) (block-some y) in omega (arith, m)

long-patched : (start : ℕ) (bytes text : List ℕ) (most : ℕ) → start + length bytes ≤ most → length text ≤ most → length (patched start bytes text) ≤ most
long-patched start bytes text most low short =
    let c = long-cut 0 start text in
    let front = cut 0 start text ++ bytes in
    let a : length (patched start bytes text) ≡ length front + length (drop (start + length bytes) text) = length-append front (drop (start + length bytes) text) in
    let b : length front ≡ length (cut 0 start text) + length bytes = length-append (cut 0 start text) bytes in
    let d = length-drop (start + length bytes) text in
    omega (arith, c, a, b, d, low, short)

module _ (v : Volume) (g : Facts) (o run : List Event) (by : Actor) (going : IsOpen run) where
  reads : (r : RangeState) → IsPlacing v g r.info.fid r.info.places → IsOwnOf v g o run by (in_range (reads_block v.layout r))
  reads r placing = (going, record { layout_is = refl; placing = placing; stage = tt }, placing)

  writes : (r : RangeState) → IsPlacing v g r.info.fid r.info.places → (text : List ℕ) → length text ≤ block_bytes_of v.layout → IsOwnOf v g o run by (in_range (writes_block v.layout r text))
  writes r placing text short = (going, record { layout_is = refl; placing = placing; size = refl; short = short; stage = tt }, placing)

  next : (r : RangeState) → IsPlacing v g r.info.fid r.info.places → (aim : Aim) → IsOwnOf v g o run by (in_range (next_block v.layout r aim))
  next r placing (Taking bytes) = reads r placing
  next r placing (Giving bytes) = go (is_whole v.layout r)
    where
      go : (b : Bool) → IsOwnOf v g o run by (in_range (cond b (writes_block v.layout r (cut r.done (count_in v.layout r) bytes)) (reads_block v.layout r)))
      go true = writes r placing (cut r.done (count_in v.layout r) bytes) (let l = long-cut r.done (count_in v.layout r) bytes in let b = in-block v.layout r in omega (arith, l, b))
      go false = reads r placing

  pub goes-on : (r : RangeState) → IsPlacing v g r.info.fid r.info.places → IsOwnOf v g o run by (in_range (go_on v.layout r))
  goes-on r placing = go (r.done == r.size)
    where
      go : (b : Bool) → IsOwnOf v g o run by (in_range (cond b (Ended r (end.Whole r.done)) (next_block v.layout r r.aim)))
      go true = tt
      go false = next r placing r.aim

pub after-gave : (v : Volume) (f g : Facts) → Extends f g → (o run : List Event) (by : Actor) (number : ℕ) (key : Key) (course : Course) → InCourse v f course → (end : WriteEnd)
    → (let x = e.Gave by number key (is_part course) end in IsOwnOf v g (x ∷ o) (x ∷ run) by (after_gave v.layout course end))
after-gave v f g ext o run by number key Alone is end = refl
after-gave v f g ext o run by number key (Within r) is (write.Acked stamp mask) =
    let x = e.Gave by number key true (write.Acked stamp mask) in
    goes-on v g (x ∷ o) (x ∷ run) by refl (passed v.layout r r.aim) (placing-more v f g ext r.info.fid r.info.places is)
after-gave v f g ext o run by number key (Within r) is (_) = tt

with-text : (v : Volume) (g : Facts) (o run : List Event) (by : Actor) → IsOpen run → (r : RangeState) → IsPlacing v g r.info.fid r.info.places → (text : List ℕ) → length text ≤ block_bytes_of v.layout
    → (aim : Aim) → IsOwnOf v g o run by (in_range (with_text v.layout r text aim))
with-text v g o run by going r placing text short (Taking bytes) =
    goes-on v g o run by going (passed v.layout r (Taking (bytes ++ cut (start_in v.layout r) (count_in v.layout r) text))) placing
with-text v g o run by going r placing text short (Giving bytes) =
    let l = long-cut r.done (count_in v.layout r) bytes in
    let b = in-block v.layout r in
    writes v g o run by going r placing (patched (start_in v.layout r) (cut r.done (count_in v.layout r) bytes) text)
    (long-patched (start_in v.layout r) (cut r.done (count_in v.layout r) bytes) text (block_bytes_of v.layout) (omega (arith, l, b)) short)

pub after-found : (v : Volume) (f g : Facts) → Extends f g → (o run : List Event) (by : Actor) (number : ℕ) (key : Key) (course : Course) → InCourse v f course → (mark : ReadMark) (text : List ℕ)
    → (let x = e.Got by number key (is_part course) (read_end text mark) in IsToldBy v g x → IsOwnOf v g (x ∷ o) (x ∷ run) by (after_got v.layout course text mark))
after-found v f g ext o run by number key Alone is mark text told = refl
after-found v f g ext o run by number key (Within r) is (mark.Found stamp size) text told =
    let x = e.Got by number key true (read_end text (mark.Found stamp size)) in
    with-text v g (x ∷ o) (x ∷ run) by refl r (placing-more v f g ext r.info.fid r.info.places is) text told r.aim
after-found v f g ext o run by number key (Within r) is mark.Hole text told =
    let x = e.Got by number key true (read_end text mark.Hole) in
    with-text v g (x ∷ o) (x ∷ run) by refl r (placing-more v f g ext r.info.fid r.info.places is) [] (omega arith) r.aim
after-found v f g ext o run by number key (Within r) is (_) text told = tt

-- a position's node is one of the volume
pub node-there : (v : Volume) (places : List ℕ) (p : ℕ) → AllByRecursion (IsNodeOf v) places → p < length places → IsNodeOf v (slice_index places p)
node-there v [] p all low = absurd (omega (arith, low))
node-there v (n ∷ places) zero all low = all.0
node-there v (n ∷ places) (suc p) all low = node-there v places p all.1 (omega (arith, low))
